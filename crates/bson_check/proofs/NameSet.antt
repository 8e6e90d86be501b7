-- A name that is put into a set of names.
use Rattle.std.proofs.Common.{◌≡◌, ℕ, false, List, [], ◌∷◌, ◌++◌, refl, sym, ap, ◌∙◌, append_assoc}
use Rattle.std.specs.Prelude.{None}
use Rattle.std.proofs.lemmas.List.{append-nil}
use Rattle.bson_check.specs.Passing.{passed, has, repeat_at}
use Rattle.bson_check.specs.NameSet.{outline, AreMarked, AreOnce}
use Rattle.bson_check.specs.Slots.{IsMarked}
use Rattle.bson_check.proofs.Search.{not_true, of_all}
use Rattle.bson_check.proofs.Split.{no_repeat}

once_more : (end : ℕ) (seen ns : List (List ℕ)) (n from : List ℕ) → repeat_at end seen ns from ≡ None → has n (seen ++ ns) ≡ false → repeat_at end seen (ns ++ n ∷ []) from ≡ None
once_more end seen [] n from e h = let k : has n seen ≡ false = ap (λ (l : List (List ℕ)). has n l) (sym (append-nil seen)) ∙ h in rw k refl
once_more end seen (m ∷ ns) n from e h =
    let r = no_repeat end seen m ns from e in
    let k : has n ((seen ++ m ∷ []) ++ ns) ≡ false = ap (λ (l : List (List ℕ)). has n l) (append_assoc seen (m ∷ []) ns) ∙ h in
    let is_new = r.0 in
    rw is_new (once_more end (seen ++ m ∷ []) ns n (passed from) r.1 k)

-- names that stand once each and are marked, and a name that isn't marked
pub still_once : (words : List ℕ) (factor : ℕ) (ns : List (List ℕ)) (n : List ℕ) → AreOnce ns → AreMarked words factor ns → (IsMarked words factor (outline n) → ⊥) → AreOnce (ns ++ n ∷ [])
still_once words factor ns n once marked not_there end from = once_more end [] ns n from (once end from) (not_true (has n ns) (λ h. not_there (marked n h)))

-- and once it is marked too
pub all_marked : (words next : List ℕ) (factor : ℕ) (ns : List (List ℕ)) (n : List ℕ) → AreMarked words factor ns → ((m : List ℕ) → IsMarked words factor m → IsMarked next factor m) → IsMarked next factor (outline n) → AreMarked next factor (ns ++ n ∷ [])
all_marked words next factor ns n marked others itself = of_all (λ (m : List ℕ). IsMarked words factor (outline m)) (λ (m : List ℕ). IsMarked next factor (outline m)) ns n (λ m. others (outline m)) itself marked
