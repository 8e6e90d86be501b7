-- A piece that is written front by front: what is left of it, and what was written, behind one more front.
use Rattle.std.proofs.Common.{◌≡◌, ℕ, ◌+◌, ◌-◌, ◌≤◌, List, ◌++◌, length, take, drop, sym, ◌∙◌, ap, subst, arith, append_assoc}
use Rattle.std.specs.Prelude.{Option, Some, None}
use Rattle.std.specs.Io.KnownBytes.{Appends}
use Rattle.std.proofs.lemmas.List.{drop-drop, length-drop, take_all}
use Rattle.std.proofs.Math.Seq.{take-add}

-- what is left of the rest behind so many bytes
abbrev pub left_of : List ℕ → ℕ → List ℕ
left_of rest k = take (length rest - k) (drop k rest)

pub left_is : (rest : List ℕ) (k : ℕ) → left_of rest k ≡ drop k rest
left_is rest k = take_all (length rest - k) (drop k rest) (omega (arith, length-drop k rest))

pub length_left : (rest : List ℕ) (k : ℕ) → length (left_of rest k) ≡ length rest - k
length_left rest k = ap length (left_is rest k) ∙ length-drop k rest

pub appends_more : (before now after : Option (List ℕ)) (xs ys : List ℕ) → Appends before now xs → Appends now after ys → Appends before after (xs ++ ys)
appends_more None now after xs ys a b = tt
appends_more (Some x) None after xs ys a b = absurd a
appends_more (Some x) (Some y) None xs ys a b = absurd b
appends_more (Some x) (Some y) (Some z) xs ys a b = b ∙ (ap (λ l. l ++ ys) a ∙ append_assoc x xs ys)

pub still_short : (piece rest : List ℕ) (k : ℕ) → length rest ≤ length piece → length (left_of rest k) ≤ length piece
still_short piece rest k short = omega (arith, length_left rest k)

pub still_rest : (piece rest : List ℕ) (k : ℕ) → length rest ≤ length piece → k ≤ length rest → rest ≡ drop (length piece - length rest) piece
    → left_of rest k ≡ drop (length piece - length (left_of rest k)) piece
still_rest piece rest k short within is =
    let n : length piece - length (left_of rest k) ≡ (length piece - length rest) + k = omega (arith, length_left rest k) in
    left_is rest k ∙ (ap (drop k) is ∙ (drop-drop k (length piece - length rest) piece ∙ ap (λ m. drop m piece) (sym n)))

pub still_taken : (piece rest : List ℕ) (k : ℕ) (before now after : Option (List ℕ)) → length rest ≤ length piece → k ≤ length rest → rest ≡ drop (length piece - length rest) piece
    → Appends before now (take (length piece - length rest) piece) → Appends now after (take k rest)
    → Appends before after (take (length piece - length (left_of rest k)) piece)
still_taken piece rest k before now after short within is taken more =
    let n : length piece - length (left_of rest k) ≡ (length piece - length rest) + k = omega (arith, length_left rest k) in
    let front : take (length piece - length rest) piece ++ take k rest ≡ take (length piece - length (left_of rest k)) piece =
    ap (λ r. take (length piece - length rest) piece ++ take k r) is ∙ (sym (take-add (length piece - length rest) k piece) ∙ ap (λ m. take m piece) (sym n)) in
    subst (λ bs. Appends before after bs) front (appends_more before now after (take (length piece - length rest) piece) (take k rest) taken more)
