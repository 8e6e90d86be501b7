-- What stands behind a name, as `strip_prefix` says it.
use Rattle.std.proofs.Common.{◌≡◌, ℕ, List, ◌++◌, take, drop, length, true, arith, refl, sym, ap, ◌∙◌}
use Rattle.std.specs.Prelude.{Option, Some, None, ◌≢◌, MatchOption, option_map}
use Rattle.std.specs.Borrow.{Bor}
use Rattle.std.specs.Str.{bytes_eq}
use Rattle.std.proofs.lemmas.Bool.{false_from_ne_true}
use Rattle.std.proofs.lemmas.List.{take-append-drop, take-append-le, drop-append-le}
use Rattle.std.proofs.lemmas.Slice.Eq.{bytes_eq-Decides}
use Rattle.std.proofs.Math.Seq.{take-length, drop-length}
use Rattle.tools_words.specs.Words.{behind}

found : (name rest : List ℕ) → behind name (name ++ rest) ≡ Some rest
found name rest =
    let t : take (length name) (name ++ rest) ≡ name = take-append-le (length name) name rest (omega arith) ∙ take-length name in
    let d : drop (length name) (name ++ rest) ≡ rest = drop-append-le (length name) name rest (omega arith) ∙ ap (λ l. l ++ rest) (drop-length name) in
    let e : bytes_eq (take (length name) (name ++ rest)) name ≡ true = (bytes_eq-Decides _ name).1 t in
    rw (e, d) refl

missing : (name w : List ℕ) → ((rest : List ℕ) → w ≢ name ++ rest) → behind name w ≡ None
missing name w differs =
    let other = false_from_ne_true (bytes_eq (take (length name) w) name) (λ y.
    let t : take (length name) w ≡ name = (bytes_eq-Decides (take (length name) w) name).0 y in
    differs (drop (length name) w) (sym (take-append-drop (length name) w) ∙ ap (λ l. l ++ drop (length name) w) t)) in
    rw other refl

pub behind_is : (name w : List ℕ) (r : Option (Bor (List ℕ))) → MatchOption r ((rest : List ℕ) → w ≢ name ++ rest) (λ x. w ≡ name ++ x.now) → option_map (λ x. x.now) r ≡ behind name w
behind_is name w None differs = sym (missing name w differs)
behind_is name w (Some x) e = sym (ap (behind name) e ∙ found name x.now)
