use Rattle.std.proofs.Common.{ℕ, List, [], ◌∷◌, ◌++◌, ◌≡◌, Ok, Err, sym, ap, ◌∙◌, append_assoc, rules}
use Rattle.std.specs.Prelude.{IfOk, Result, codes}
use Rattle.std.specs.Fmt.{decimal}
use Rattle.json_text.specs.Print.{text_of}
use Rattle.state_listing.specs.Listing.{count_text}
use Rattle.state_listing.proofs.lines.index.Goals as goal

weaken : {T E : Type 0} (r : Result T E) (P Q : T → Type 0) → ((x : T) → P x → Q x) → IfOk r P → IfOk r Q
weaken (Ok x) P Q f h = f x h
weaken (Err e) P Q f h = tt

pub returns-in-Some : goal.returns-in-Some
returns-in-Some c =
    let d = decimal c.in-Some.count in
    let t = text_of c.args.def.now in
    let is : c.as_str-def.result.now ≡ t = search rules in
    let parts : (d ++ 32 ∷ [] ++ t ++ 10 ∷ []) ≡ (d ++ 32 ∷ (t ++ 10 ∷ [])) = append_assoc (d ++ 32 ∷ []) t (10 ∷ []) ∙ append_assoc d (32 ∷ []) (t ++ 10 ∷ []) in
    weaken c.format.result _ _ (λ s h.
    h ∙ ap (λ z. codes "index " ++ z) (ap (λ (u : List ℕ). d ++ 32 ∷ (u ++ 10 ∷ [])) is ∙ (sym parts ∙ ap (λ o. count_text o ++ 32 ∷ [] ++ t ++ 10 ∷ []) (sym c.in-Some.is))))
    c.format.ensures.ok
