use Rattle.std.proofs.Common.{ℕ, List, ◌≡◌, sym, ap, ◌∙◌, append_assoc}
use Rattle.std.specs.Prelude.{string_bytes, codes, ◌++◌}
use Rattle.std.specs.Fmt.{decimal}
use Rattle.tools_commands.specs.Lines.{kind_text}
use Rattle.tools_commands.proofs.Pieces.{weaken}
use Rattle.tools_commands.proofs.report.bson_text.Goals as goal

pub returns : goal.returns
returns c =
    let place : List ℕ = codes "bad document at " ++ decimal c.args.at in
    let made : string_bytes c.in_ok-place.place ≡ place = c.in_ok-place.ensures.ok in
    weaken c.format-2.result _ _ (λ s h.
    let told : string_bytes s ≡ string_bytes c.in_ok-place.place ++ (codes " kind " ++ c.kind_text-digit.result.now) = h in
    told ∙ (ap (λ p. p ++ (codes " kind " ++ c.kind_text-digit.result.now)) made
    ∙ (ap (λ k. place ++ (codes " kind " ++ k)) c.kind_text-digit.ensures ∙ sym (append_assoc place (codes " kind ") (kind_text c.args.kind)))))
    c.format-2.ensures.ok
