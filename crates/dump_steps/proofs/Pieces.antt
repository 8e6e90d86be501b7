-- What the pieces of a step are behind others.
use Rattle.std.proofs.Common.{◌≡◌, ℕ, List, [], ◌∷◌, ◌++◌, Bool, true, false, refl, sym, ap, ◌∙◌, subst, arith, append_assoc, inl, inr}
use Rattle.std.specs.Prelude.{⊤, ◌⊎◌, ◌==◌, ◌||◌, not, ◌&&◌, codes, if◌then◌else◌}
use Rattle.std.specs.List.{list_any}
use Rattle.std.specs.Str.{bytes_eq}
use Rattle.std.proofs.lemmas.Bool.{cases_Bool}
use Rattle.std.proofs.lemmas.Slice.Eq.{bytes_eq-Decides}
use Rattle.bson_value.specs.declared.namespace.NsName.{NsName}
use Rattle.bson_value.specs.Namespace.{dot}
use Rattle.archive_format.specs.Shapes.{is_namespace, is_oplog}
use Rattle.archive_format.specs.Archive.{same_ns}
use Rattle.archive_content.specs.Pieces.{Piece, Block, End, IsNamed, is_end, is_of, has_ended}
use Rattle.archive_content.proofs.Pieces.{same_is}
use Rattle.archive_content.proofs.Seats.{ns_refl}
use Rattle.entry_documents.proofs.Documents.{a_text}
use Rattle.history_model.specs.Runs.{Step, Documents, Entries}
use Rattle.dump_model.specs.Archives.{oplog, block_of, end_of, pieces_of, all_pieces}
use Rattle.recorded_entries.specs.Good.{IsGoodName}
use Rattle.recorded_entries.proofs.Names.{good_db, good_coll}
use Rattle.dump_steps.specs.Steps.{MayStand, AllStand}

pub append_nil : {A : Type 0} (xs : List A) → xs ++ [] ≡ xs
append_nil [] = refl
append_nil {A} (x ∷ xs) = ap (λ (z : List A). x ∷ z) (append_nil xs)

pub any_append : (p : Piece → Bool) (xs ys : List Piece) → list_any p (xs ++ ys) ≡ (list_any p xs || list_any p ys)
any_append p [] ys = refl
any_append p (x ∷ xs) ys = by (p x) (any_append p xs ys)
  where
    by : (b : Bool) → list_any p (xs ++ ys) ≡ (list_any p xs || list_any p ys) → (b || list_any p (xs ++ ys)) ≡ ((b || list_any p xs) || list_any p ys)
    by true h = refl
    by false h = h

pub pieces_more : (ss : List Step) (s : Step) → all_pieces (ss ++ (s ∷ [])) ≡ all_pieces ss ++ pieces_of s
pieces_more [] s = append_nil (pieces_of s)
pieces_more (x ∷ ss) s = ap (λ (z : List Piece). pieces_of x ++ z) (pieces_more ss s) ∙ sym (append_assoc (pieces_of x) (all_pieces ss) (pieces_of s))

pub stand_append : (before xs ys : List Piece) → AllStand before xs → AllStand (before ++ xs) ys → AllStand before (xs ++ ys)
stand_append before [] ys a b = subst (λ (z : List Piece). AllStand z ys) (append_nil before) b
stand_append before (x ∷ xs) ys a b = (a.0, stand_append (before ++ x ∷ []) xs ys a.1 (subst (λ (z : List Piece). AllStand z ys) (sym (append_assoc before (x ∷ []) xs)) b))

-- ---- names

pub other_ns : (a b : NsName) → (a ≡ b → ⊥) → same_ns a b ≡ false
other_ns a b h = elim (cases_Bool (same_ns a b)) [ inl e ↦ absurd (h (same_is a b e)) | inr e ↦ e ]

no_text : (t : List ℕ) → (t ≡ [] → ⊥) → bytes_eq t [] ≡ false
no_text t h = elim (cases_Bool (bytes_eq t [])) [ inl e ↦ absurd (h ((bytes_eq-Decides t []).0 e)) | inr e ↦ e ]

pub good_named : (n : NsName) → IsGoodName n → IsNamed n
unfolding is_namespace
good_named n g =
    let d = good_db n g in
    let c = good_coll n g in
    record {
      texts = (a_text n.db d.letters, a_text n.coll c.letters);
      fits = omega (arith, d.short, c.short);
      named = names (is_oplog n) (bytes_eq n.db []) (list_any (λ b. b == dot) n.db) (bytes_eq n.coll []) (no_text n.db d.some) d.undotted (no_text n.coll c.some);
    }
  where
    names : (o p q r : Bool) → p ≡ false → q ≡ false → r ≡ false → (o || ((not p && not q) && not r)) ≡ true
    names true p q r a b c = refl
    names false p q r a b c = λ i. (not (a i) && not (b i)) && not (c i)

pub oplog_named : IsNamed oplog
unfolding is_namespace
oplog_named = record { texts = (a_text _ refl, a_text _ refl); fits = omega arith; named = refl }

pub good_apart : (n : NsName) → IsGoodName n → n ≡ oplog → ⊥
good_apart n g e = (good_db n g).some (ap (λ (m : NsName). m.db) e)

-- ---- a block, where there are documents, and an end, where the namespace ended

module _ (n : NsName) (ts : List (List ℕ)) (b : Bool) where
  abbrev pub pieces : List Piece
  pieces = block_of n ts ++ end_of n b

  block_ended : (m : NsName) (us : List (List ℕ)) → has_ended m (block_of n us) ≡ false
  block_ended m [] = refl
  block_ended m (u ∷ us) = refl

  end_ended : (m : NsName) → has_ended m (end_of n b) ≡ (b && same_ns n m)
  end_ended m = by b
    where
      either : (x : Bool) → (x || false) ≡ x
      either true = refl
      either false = refl

      by : (c : Bool) → has_ended m (end_of n c) ≡ (c && same_ns n m)
      by true = either (same_ns n m)
      by false = refl

  both : (m : NsName) → has_ended m pieces ≡ (b && same_ns n m)
  both m = any_append (is_end m) (block_of n ts) (end_of n b) ∙ (ap (λ (x : Bool). x || has_ended m (end_of n b)) (block_ended m ts) ∙ end_ended m)

  pub own_ended : has_ended n pieces ≡ b
  own_ended = both n ∙ (ap (λ (x : Bool). b && x) (ns_refl n) ∙ by b)
    where
      by : (c : Bool) → (c && true) ≡ c
      by true = refl
      by false = refl

  pub else_ended : (m : NsName) → (n ≡ m → ⊥) → has_ended m pieces ≡ false
  else_ended m h = both m ∙ (ap (λ (x : Bool). b && x) (other_ns n m h) ∙ by b)
    where
      by : (c : Bool) → (c && false) ≡ false
      by true = refl
      by false = refl

  block_of_is : (m : NsName) (us : List (List ℕ)) → list_any (is_of m) (block_of n us) ≡ true → same_ns n m ≡ true
  block_of_is m [] h = cc
  block_of_is m (u ∷ us) h = by (same_ns n m) h
    where
      by : (x : Bool) → (x || false) ≡ true → x ≡ true
      by true e = refl
      by false e = cc

  end_of_is : (m : NsName) (c : Bool) → list_any (is_of m) (end_of n c) ≡ true → same_ns n m ≡ true
  end_of_is m true h = by (same_ns n m) h
    where
      by : (x : Bool) → (x || false) ≡ true → x ≡ true
      by true e = refl
      by false e = cc
  end_of_is m false h = cc

  pub of_own : (m : NsName) → list_any (is_of m) pieces ≡ true → n ≡ m
  of_own m h = by (list_any (is_of m) (block_of n ts)) refl (sym (any_append (is_of m) (block_of n ts) (end_of n b)) ∙ h)
    where
      by : (x : Bool) → list_any (is_of m) (block_of n ts) ≡ x → (x || list_any (is_of m) (end_of n b)) ≡ true → n ≡ m
      by true e f = same_is n m (block_of_is m ts e)
      by false e f = same_is n m (end_of_is m b f)

  end_stands : (before : List Piece) → IsNamed n → has_ended n before ≡ false → AllStand before (end_of n b)
  end_stands before g e = by b
    where
      by : (c : Bool) → AllStand before (end_of n c)
      by true = ((g, e), tt)
      by false = tt

  pub stands : (before : List Piece) → IsNamed n → has_ended n before ≡ false → AllStand before pieces
  stands before g e = by ts
    where
      by : (us : List (List ℕ)) → AllStand before (block_of n us ++ end_of n b)
      by [] = end_stands before g e
      by (u ∷ us) = ((g, e), end_stands (before ++ Block n (u ∷ us) ∷ []) g (any_append (is_end n) before (Block n (u ∷ us) ∷ []) ∙ ap (λ (x : Bool). x || false) e))
