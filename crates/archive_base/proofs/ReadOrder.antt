-- The parts that the steps of a dump make, and what was read in them under each key.
use Rattle.std.proofs.Common.{◌≡◌, ℕ, List, [], ◌∷◌, ◌++◌, Bool, true, false, refl, sym, ap, ◌∙◌, subst, Option, Some, None, inl, inr}
use Rattle.std.specs.Prelude.{◌⊎◌, ◌&&◌, if◌then◌else◌}
use Rattle.std.proofs.lemmas.Bool.{cases_Bool}
use Rattle.bson_value.specs.declared.namespace.NsName.{NsName}
use Rattle.bson_value.specs.declared.value.Value.{Value, Object}
use Rattle.state_model.specs.Keys.{Key, same_key, same_ns}
use Rattle.state_model.proofs.Keys.{key_is}
use Rattle.coll_state.specs.Rows.{Row, Rows, row_of}
use Rattle.copy_model.specs.Cursors.{Read, copied, reads_of}
use Rattle.copy_model.specs.Blocks.{Part, Document, End}
use Rattle.copy_model.specs.Blocks as blocks
use Rattle.history_model.specs.Runs.{Step, Documents, Entries}
use Rattle.history_model.specs.Recordings.{reads_in}
use Rattle.dump_steps.specs.Steps.{AreOnce, AreStepsOf}

abbrev pub row_parts : NsName → List Row → List Part
row_parts n [] = []
row_parts n (w ∷ ws) = Document n w.key (Object w.document) ∷ row_parts n ws

abbrev pub end_parts : NsName → Bool → List Part
end_parts n true = End n ∷ []
end_parts n false = []

abbrev pub parts : List Step → List Part
parts [] = []
parts (Documents n rs b ∷ ss) = row_parts n rs ++ (end_parts n b ++ parts ss)
parts (Entries es b ∷ ss) = parts ss

abbrev read : NsName → Row → Read
read n w = record { ns = n; key = w.key; document = Object w.document }

-- rows that were read, the last in front
abbrev pushed : NsName → List Row → List Read → List Read
pushed n [] got = got
pushed n (w ∷ ws) got = pushed n ws (read n w ∷ got)

pushed_rows : (n : NsName) (ws : List Row) (ps : List Part) (got : List Read) → blocks.reads_in (row_parts n ws ++ ps) got ≡ blocks.reads_in ps (pushed n ws got)
pushed_rows n [] ps got = refl
pushed_rows n (w ∷ ws) ps got = pushed_rows n ws ps (read n w ∷ got)

pushed_end : (n : NsName) (b : Bool) (ps : List Part) (got : List Read) → blocks.reads_in (end_parts n b ++ ps) got ≡ blocks.reads_in ps got
pushed_end n true ps got = refl
pushed_end n false ps got = refl

-- ---- under each key

abbrev document_or : Option Row → Option Value → Option Value
document_or None o = o
document_or (Some w) o = Some (Object w.document)

pushed_else : (n m : NsName) (k : Key) (ws : List Row) (got : List Read) → same_ns m n ≡ false → copied (pushed n ws got) m k ≡ copied got m k
pushed_else n m k [] got h = refl
pushed_else n m k (w ∷ ws) got h = pushed_else n m k ws (read n w ∷ got) h ∙ ap (λ (b : Bool). if b && same_key k w.key then Some (Object w.document) else copied got m k) h

reads_else : (n m : NsName) (k : Key) (ws : List Row) (got : List Read) → same_ns m n ≡ false → copied (reads_of n ws ++ got) m k ≡ copied got m k
reads_else n m k [] got h = refl
reads_else n m k (w ∷ ws) got h = ap (λ (b : Bool). if b && same_key k w.key then Some (Object w.document) else copied (reads_of n ws ++ got) m k) h ∙ reads_else n m k ws got h

reads_here : (n m : NsName) (k : Key) (ws : List Row) (got : List Read) → same_ns m n ≡ true → copied (reads_of n ws ++ got) m k ≡ document_or (row_of ws k) (copied got m k)
reads_here n m k [] got h = refl
reads_here n m k (w ∷ ws) got h = ap (λ (b : Bool). if b && same_key k w.key then Some (Object w.document) else copied (reads_of n ws ++ got) m k) h ∙ by (same_key k w.key) (reads_here n m k ws got h)
  where
    by : (b : Bool) → copied (reads_of n ws ++ got) m k ≡ document_or (row_of ws k) (copied got m k) → (if true && b then Some (Object w.document) else copied (reads_of n ws ++ got) m k) ≡ document_or (if b then Some w else row_of ws k) (copied got m k)
    by true e = refl
    by false e = e

pushed_here : (n m : NsName) (k : Key) (ws : List Row) (got : List Read) → same_ns m n ≡ true → AreOnce ws → copied (pushed n ws got) m k ≡ document_or (row_of ws k) (copied got m k)
pushed_here n m k [] got h once = refl
pushed_here n m k (w ∷ ws) got h once =
    pushed_here n m k ws (read n w ∷ got) h once.1
    ∙ (ap (λ (b : Bool). document_or (row_of ws k) (if b && same_key k w.key then Some (Object w.document) else copied got m k)) h ∙ by (same_key k w.key) refl)
  where
    by : (b : Bool) → same_key k w.key ≡ b → document_or (row_of ws k) (if true && b then Some (Object w.document) else copied got m k) ≡ document_or (if b then Some w else row_of ws k) (copied got m k)
    by true e = ap (λ (o : Option Row). document_or o (Some (Object w.document))) (subst (λ (z : Key). row_of ws z ≡ None) (sym (key_is k w.key e)) once.0)
    by false e = refl

-- the same document under each key
abbrev pub AgreeIn : List Read → List Read → Type 0
AgreeIn a b = (m : NsName) (k : Key) → copied a m k ≡ copied b m k

rows_agree : (n : NsName) (ws : List Row) (a b : List Read) → AreOnce ws → AgreeIn a b → AgreeIn (pushed n ws a) (reads_of n ws ++ b)
rows_agree n ws a b once h m k = by (cases_Bool (same_ns m n))
  where
    by : (same_ns m n ≡ true) ⊎ (same_ns m n ≡ false) → copied (pushed n ws a) m k ≡ copied (reads_of n ws ++ b) m k
    by (inl e) = pushed_here n m k ws a e once ∙ (ap (document_or (row_of ws k)) (h m k) ∙ sym (reads_here n m k ws b e))
    by (inr e) = pushed_else n m k ws a e ∙ (h m k ∙ sym (reads_else n m k ws b e))

pub steps_agree : (r : Rows) (ss : List Step) (a b : List Read) → AreStepsOf r ss → AgreeIn a b → AgreeIn (blocks.reads_in (parts ss) a) (reads_in ss b)
steps_agree r [] a b h g = g
steps_agree r (Documents n rs x ∷ ss) a b h g =
    subst (λ (l : List Read). AgreeIn l (reads_in ss (reads_of n rs ++ b))) (sym (pushed_rows n rs (end_parts n x ++ parts ss) a ∙ pushed_end n x (parts ss) (pushed n rs a)))
    (steps_agree r ss (pushed n rs a) (reads_of n rs ++ b) h.3 (rows_agree n rs a b h.2 g))
steps_agree r (Entries es x ∷ ss) a b h g = steps_agree r ss a b h g
