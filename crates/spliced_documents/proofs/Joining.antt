-- Elements that are put together.
use Rattle.std.proofs.Common.{◌≡◌, ℕ, ◌+◌, List, [], ◌∷◌, ◌++◌, length, ap, ◌∙◌, append_assoc, arith}
use Rattle.std.proofs.lemmas.List.{length-append}
use Rattle.std.specs.Prelude.{slice_set}
use Rattle.std.proofs.Math.Seq.{set-append_seam}

-- a key behind a type and a name, whose own type gives way to the name's zero
pub element_put : (old one two all name bytes : List ℕ) (tag place : ℕ) → one ≡ old ++ tag ∷ [] → two ≡ one ++ name → all ≡ two ++ tag ∷ bytes → place ≡ length two → slice_set all place 0 ≡ old ++ tag ∷ (name ++ (0 ∷ bytes))
element_put old one two all name bytes tag place first named key at =
    ap (λ (l : List ℕ). slice_set l place 0) key ∙ ap (λ (n : ℕ). slice_set (two ++ tag ∷ bytes) n 0) at ∙ set-append_seam two tag bytes 0 ∙ ap (λ (l : List ℕ). l ++ 0 ∷ bytes) (named ∙ ap (λ (l : List ℕ). l ++ name) first)
    ∙ append_assoc (old ++ tag ∷ []) name (0 ∷ bytes) ∙ append_assoc old (tag ∷ []) (name ++ (0 ∷ bytes))

-- an element between outer pieces, where the bytes of its value are inner pieces with another one between them
module _ (none outer named below own inner all : List ℕ) (tag : ℕ) (total front name count first element last rest : List ℕ)
    (started : none ≡ []) (begun : outer ≡ none ++ total ++ front) (typed : named ≡ outer ++ tag ∷ [] ++ name ++ 0 ∷ []) (counted : below ≡ named ++ count ++ first) (put : own ≡ below ++ element) (ended : inner ≡ own ++ last) (whole : all ≡ inner ++ rest) where
  abbrev value : List ℕ
  value = count ++ first ++ element ++ last

  in_value : inner ≡ named ++ value
  in_value =
      ended ∙ ap (λ (l : List ℕ). l ++ last) (put ∙ ap (λ (l : List ℕ). l ++ element) (counted ∙ append_assoc named count first) ∙ append_assoc named (count ++ first) element) ∙ append_assoc named (count ++ first ++ element) last

  in_element : inner ≡ outer ++ tag ∷ (name ++ 0 ∷ value)
  in_element =
      in_value ∙ ap (λ (l : List ℕ). l ++ value) typed ∙ append_assoc (outer ++ tag ∷ [] ++ name) (0 ∷ []) value ∙ append_assoc (outer ++ tag ∷ []) name (0 ∷ value) ∙ append_assoc outer (tag ∷ []) (name ++ 0 ∷ value)

  begins : outer ≡ total ++ front
  begins = begun ∙ ap (λ (l : List ℕ). l ++ total ++ front) started

  pub two_levels : all ≡ total ++ front ++ (tag ∷ (name ++ 0 ∷ (count ++ first ++ element ++ last))) ++ rest
  two_levels = whole ∙ ap (λ (l : List ℕ). l ++ rest) (in_element ∙ ap (λ (l : List ℕ). l ++ tag ∷ (name ++ 0 ∷ value)) begins)

  pub two_sizes : length all ≡ length total + length front + (length name + 2 + (length count + length first + length element + length last)) + length rest
  two_sizes =
      omega (
        arith,
        ap length two_levels,
        length-append (total ++ front ++ (tag ∷ (name ++ 0 ∷ (count ++ first ++ element ++ last)))) rest,
        length-append (total ++ front) (tag ∷ (name ++ 0 ∷ (count ++ first ++ element ++ last))),
        length-append total front,
        length-append name (0 ∷ (count ++ first ++ element ++ last)),
        length-append (count ++ first ++ element) last,
        length-append (count ++ first) element,
        length-append count first,
      )
