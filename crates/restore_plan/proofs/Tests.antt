-- Tests that passed.
use Rattle.std.proofs.Common.{◌≡◌, ℕ, Bool, true, false, List, [], ◌∷◌, length, arith, refl}
use Rattle.std.specs.Prelude.{◌&&◌, ◌==◌, bytes_eq}
use Rattle.std.specs.Cmp.{unsigned_Decides}
use Rattle.std.proofs.lemmas.Slice.Eq.{bytes_eq-Decides}
use Rattle.bson_value.specs.declared.namespace.NsName.{NsName}
use Rattle.archive_format.specs.Archive.{same_ns}

pub both : (a b : Bool) → (a && b) ≡ true → (a ≡ true) × (b ≡ true)
both true b e = (refl, e)
both false b e = cc

pub same_numbers : (a b : ℕ) → (a == b) ≡ true → a ≡ b
same_numbers a b e = (unsigned_Decides a b).0 e

pub same_names : (n m : NsName) → same_ns n m ≡ true → n ≡ m
same_names n m e =
    let k = both (bytes_eq n.db m.db) (bytes_eq n.coll m.coll) e in
    let d : n.db ≡ m.db = (bytes_eq-Decides n.db m.db).0 k.0 in
    let c : n.coll ≡ m.coll = (bytes_eq-Decides n.coll m.coll).0 k.1 in
    λ i. record { db = d i; coll = c i }

pub no_length : {A : Type 0} (l : List A) → (length l == 0) ≡ true → l ≡ []
no_length [] e = refl
no_length (x ∷ l) e = absurd (let none : length (x ∷ l) ≡ 0 = same_numbers (length (x ∷ l)) 0 e in omega (arith, none))
