-- Numbers as strings: their digits need no escape.
use Rattle.std.proofs.Common.{◌≡◌, ℕ, suc, ℤ, pos, negsuc, ◌+◌, ◌%◌, ◌^◌, ◌<◌, List, [], ◌∷◌, ◌++◌, sym, ap, ◌∙◌, refl, append_assoc, arith}
use Rattle.std.specs.Fmt.{decimal, signed_decimal}
use Rattle.std.specs.List.{flat_map}
use Rattle.std.proofs.lemmas.Fmt.{decimal_by_steps}
use Rattle.std.proofs.lemmas.Grind.{flat_map-append}
use lib.Signed.{mag}
use Rattle.json_tree.specs.declared.tree.Tree.TheVariants as trees
use Rattle.json_text.specs.Print.{escaped, quoted, text_of}
use Rattle.extjson.specs.Trees.{wrapped}
use Rattle.document_lines.specs.Json.{opened}
use Rattle.document_lines.proofs.Escapes.{plain_one}
use Rattle.document_lines.proofs.Texts.{wrapped_put, str_text}

plain_digit : (n : ℕ) → n < 10 → flat_map escaped ((48 + n) ∷ []) ≡ (48 + n) ∷ []
plain_digit n h = ap (λ z. z ++ []) (plain_one (48 + n) (omega arith) (λ e. omega (arith, e)) (λ e. omega (arith, e, h)))

plain_decimal : (n : ℕ) → n < 2 ^ 64 → flat_map escaped (decimal n) ≡ decimal n
plain_decimal = decimal_by_steps (λ n ds. flat_map escaped ds ≡ ds) plain_digit (λ n ds h so_far.
    flat_map-append escaped ds ((48 + n % 10) ∷ []) ∙ ap (λ z. z ++ flat_map escaped ((48 + n % 10) ∷ [])) so_far ∙ ap (λ z. ds ++ z) (plain_digit (n % 10) (omega arith)))

pub plain_number : (z : ℤ) → mag z < 2 ^ 63 → flat_map escaped (signed_decimal z) ≡ signed_decimal z
plain_number (pos n) h = plain_decimal n (omega (arith, h))
plain_number (negsuc n) h =
    ap (λ z. z ++ flat_map escaped (decimal (suc n))) (plain_one 45 (omega arith) (λ e. omega (arith, e)) (λ e. omega (arith, e))) ∙ ap (λ z. 45 ∷ z) (plain_decimal (suc n) (omega (arith, h)))

-- an object whose one member is a text that needs no escape
pub plain_put : (name t : List ℕ) (out o1 o2 o3 o4 front digits : List ℕ) → front ≡ opened name ++ 34 ∷ [] → digits ≡ t → flat_map escaped t ≡ t
    → o1 ≡ out ++ front → o2 ≡ o1 ++ digits → o3 ≡ o2 ++ 34 ∷ [] → o4 ≡ o3 ++ 125 ∷ [] → o4 ≡ out ++ text_of (wrapped name (trees.Str t))
plain_put name t out o1 o2 o3 o4 front digits f d plain one two three four =
    let q : List ℕ = 34 ∷ [] in
    let begun : o1 ≡ (out ++ opened name) ++ q = one ∙ ap (λ z. out ++ z) f ∙ sym (append_assoc out (opened name) q) in
    let whole : o3 ≡ (out ++ opened name) ++ quoted t =
    three ∙ ap (λ z. z ++ q) (two ∙ ap (λ z. z ++ digits) begun) ∙ append_assoc ((out ++ opened name) ++ q) digits q ∙ append_assoc (out ++ opened name) q (digits ++ q)
    ∙ ap (λ z. (out ++ opened name) ++ 34 ∷ (z ++ q)) (d ∙ sym plain) in
    wrapped_put name (trees.Str t) out (out ++ opened name) o3 o4 (opened name) (quoted t) refl (sym (str_text t)) refl whole four
