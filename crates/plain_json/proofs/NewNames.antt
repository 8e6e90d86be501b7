-- Names: without a zero, new, and of no wrapper.
use Rattle.std.proofs.Common.{◌≡◌, ℕ, ◌<◌, Bool as Truth, true, false, List, length, take, get_or, Option, Some, None, refl, sym, ap, ◌∙◌, subst, arith}
use Rattle.std.specs.Prelude.{Contains, is_some}
use Rattle.std.specs.List.{prefix_len}
use Rattle.std.proofs.lemmas.List.{get_or-take}
use Rattle.std.proofs.lemmas.List.Sums.{prefix_len_passes}
use Rattle.std.proofs.lemmas.List.Folds.{length-prefix_len}
use Rattle.containers.specs.Entries.{names_of, place_of}
use Rattle.json_tree.specs.Covers.{is_among}
use Rattle.json_tree.proofs.Names.{has_place}
use Rattle.json_text.specs.Pieces.{is_plain}

-- what stands for itself has no zero
pub no_zero : (bytes : List ℕ) (n : ℕ) (text : List ℕ) → n ≡ prefix_len is_plain bytes → text ≡ take n bytes → Contains text 0 → ⊥
no_zero bytes n text count is (k, lt, at) =
    let front = prefix_len is_plain bytes in
    let same : text ≡ take front bytes = is ∙ ap (λ (m : ℕ). take m bytes) count in
    let within : k < front = omega (arith, lt, ap length same, length-prefix_len is_plain bytes) in
    let zero : get_or bytes k 0 ≡ 0 = sym (get_or-take front bytes k 0 within) ∙ sym (ap (λ (l : List ℕ). get_or l k 0) same) ∙ at in
    let passes : is_plain (get_or bytes k 0) ≡ true = prefix_len_passes is_plain bytes k 0 within in
    let wrong : false ≡ true = subst (λ (b : ℕ). is_plain b ≡ true) zero passes in
    absurd cc

unset : {A : Type 0} (o : Option A) → is_some o ≡ false → o ≡ None
unset None h = refl
unset (Some x) h = absurd cc

pub none_named : {A : Type 0} (o : Option A) (b : Truth) → b ≡ is_some o → b ≡ false → o ≡ None
none_named o b is h = unset o (sym is ∙ h)

-- a name without a place here has none where the names are the same
pub no_place : {A B : Type 0} (name : List ℕ) (before : List (List ℕ × A)) (done : List (List ℕ × B)) → names_of done ≡ names_of before → is_some (place_of name before) ≡ false → place_of name done ≡ None
no_place name before done same h =
    unset (place_of name done) (has_place name done ∙ ap (λ (ns : List (List ℕ)). is_among name ns) same ∙ sym (has_place name before) ∙ h)
