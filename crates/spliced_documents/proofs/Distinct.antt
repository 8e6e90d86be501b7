-- Names stay distinct where a field is set or taken out.
use Rattle.std.proofs.Common.{◌≡◌, ℕ, List, sym, subst, refl}
use Rattle.std.specs.Prelude.{Option, Some, None}
use Rattle.containers.specs.Entries.{AreDistinct, names_of, place_of, put, without}
use Rattle.containers.proofs.Entries.{place_is, has_not, names_of-with_value, distinct_push, distinct_remove}

pub distinct_put : {A : Type 0} (k : List ℕ) (v : A) (fs : List (List ℕ × A)) → AreDistinct (names_of fs) → AreDistinct (names_of (put k v fs))
distinct_put k v fs d = go (place_of k fs) refl where
  go : (r : Option ℕ) → r ≡ place_of k fs → AreDistinct (names_of (put k v fs))
  go (Some i) h =
      subst (λ (gs : List (List ℕ × _)). AreDistinct (names_of gs)) (sym ((place_is k fs i h).written v)) (subst AreDistinct (sym (names_of-with_value fs i v)) d)
  go None h =
      let n = has_not k fs h in
      subst (λ (gs : List (List ℕ × _)). AreDistinct (names_of gs)) (sym (n.written v)) (distinct_push fs k v n.absent d)

pub distinct_without : {A : Type 0} (k : List ℕ) (fs : List (List ℕ × A)) → AreDistinct (names_of fs) → AreDistinct (names_of (without k fs))
distinct_without k fs d = go (place_of k fs) refl where
  go : (r : Option ℕ) → r ≡ place_of k fs → AreDistinct (names_of (without k fs))
  go (Some i) h = subst (λ (gs : List (List ℕ × _)). AreDistinct (names_of gs)) (sym ((place_is k fs i h).removed d)) (distinct_remove fs i d)
  go None h = subst (λ (gs : List (List ℕ × _)). AreDistinct (names_of gs)) (sym (has_not k fs h).removed) d
