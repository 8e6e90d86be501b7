-- The names between the dots of a path.
use Rattle.std.proofs.Common.{◌≡◌, ◌≢◌, ℕ, zero, suc, ◌<◌, List, [], ◌∷◌, ◌++◌, length, get_or, false, refl, sym, ap, ◌∙◌, subst, arith, append_assoc}
use Rattle.std.specs.Prelude.{Result, Ok, Err, IfOk, Contains, All, ◌==◌}
use Rattle.std.proofs.lemmas.List.{get_or_default}
use Rattle.std.proofs.lemmas.List.Splits.{slice_split_none, slice_split_at}
use Rattle.std.proofs.lemmas.Bool.{ne_eqb}
use Rattle.doc_path.specs.declared.parts.Part.{Part}
use Rattle.doc_path.specs.declared.parts.Part.TheVariants.{Name as name}
use Rattle.doc_path.specs.Paths.{parts_of, dot}
use Rattle.entry_model.specs.Edits.{mapped}

abbrev pub NoZero : List ℕ → Type 0
NoZero text = Contains text 0 → ⊥

-- no byte is a dot
abbrev pub Undotted : List ℕ → Type 0
Undotted text = (i : ℕ) → i < length text → get_or text i 0 ≢ 46

undotted : (text : List ℕ) → Undotted text → All (λ b. (b == dot) ≡ false) text
undotted text h k d lt = ne_eqb (get_or text k d) 46 (λ e. h k lt (sym (get_or_default text k d 0 lt) ∙ e))

pub one_name : (text : List ℕ) → Undotted text → mapped name (parts_of text) ≡ name text ∷ []
one_name text h = ap (mapped name) (slice_split_none (λ b. b == dot) text (undotted text h))

pub next_name : (text part more : List ℕ) → text ≡ part ++ 46 ∷ more → Undotted part → mapped name (parts_of text) ≡ name part ∷ mapped name (parts_of more)
next_name text part more e h = ap (λ (t : List ℕ). mapped name (parts_of t)) e ∙ ap (mapped name) (slice_split_at (λ b. b == dot) part 46 more (undotted part h) refl)

front_same : (xs ys : List ℕ) (k : ℕ) → k < length xs → get_or (xs ++ ys) k 0 ≡ get_or xs k 0
front_same [] ys k lt = absurd (omega arith)
front_same (x ∷ xs) ys zero lt = refl
front_same (x ∷ xs) ys (suc k) lt = front_same xs ys k (omega arith)

front_length : (xs ys : List ℕ) (k : ℕ) → k < length xs → k < length (xs ++ ys)
front_length [] ys k lt = absurd (omega arith)
front_length (x ∷ xs) ys zero lt = omega arith
front_length (x ∷ xs) ys (suc k) lt = let h = front_length xs ys k (omega arith) in omega (arith, h)

pub front_no_zero : (text part more : List ℕ) → text ≡ part ++ 46 ∷ more → NoZero text → NoZero part
front_no_zero text part more e n h = n (subst (λ (t : List ℕ). Contains t 0) (sym e) (h.0, front_length part (46 ∷ more) h.0 h.1, front_same part (46 ∷ more) h.0 h.1 ∙ h.2))

back_has : (xs ys : List ℕ) → Contains ys 0 → Contains (xs ++ ys) 0
back_has [] ys h = h
back_has (x ∷ xs) ys h = let r = back_has xs ys h in (suc r.0, omega (arith, r.1), r.2)

pub back_no_zero : (text part more : List ℕ) → text ≡ part ++ 46 ∷ more → NoZero text → NoZero more
back_no_zero text part more e n h = n (subst (λ (t : List ℕ). Contains t 0) (sym e) (back_has part (46 ∷ more) (suc h.0, omega (arith, h.1), h.2)))

-- one name more
pub name_pushed : (parts : List Part) (text part more : List ℕ) (place new : List Part) → parts ≡ place ++ mapped name (parts_of text) → text ≡ part ++ 46 ∷ more → Undotted part → new ≡ place ++ name part ∷ [] →
    parts ≡ new ++ mapped name (parts_of more)
name_pushed parts text part more place new inv e h is =
    inv ∙ (ap (λ (l : List Part). place ++ l) (next_name text part more e h)
    ∙ (sym (append_assoc place (name part ∷ []) (mapped name (parts_of more))) ∙ ap (λ (l : List Part). l ++ mapped name (parts_of more)) (sym is)))

pub last_pushed : (parts : List Part) (text : List ℕ) (place new : List Part) → parts ≡ place ++ mapped name (parts_of text) → Undotted text → new ≡ place ++ name text ∷ [] → new ≡ parts
last_pushed parts text place new inv h is = is ∙ sym (inv ∙ ap (λ (l : List Part). place ++ l) (one_name text h))

pub if_ok : {T E : Type 0} (r : Result T E) (P Q : T → Type 0) → IfOk r P → ((x : T) → P x → Q x) → IfOk r Q
if_ok (Ok x) P Q h f = f x h
if_ok (Err e) P Q h f = h
