use Rattle.std.proofs.Common.{List, ℕ, ◌++◌, sym, ap, ◌∙◌, append_assoc}
use Rattle.std.specs.Prelude.{string_bytes, codes}
use Rattle.json_text.specs.Print.{quoted}
use Rattle.tools_commands.specs.Lines.{quoted_name}
use Rattle.tools_commands.proofs.Pieces.{weaken}
use Rattle.tools_commands.proofs.report.index_text.Goals as goal

pub returns : goal.returns
returns c =
    let name = quoted_name c.args.ns.now in
    weaken c.format.result _ _ (λ s h.
    h ∙ (ap (λ (p : List ℕ). p ++ (codes " " ++ string_bytes c.in_ok-index.index)) c.in_ok-name.ensures
    ∙ (ap (λ (q : List ℕ). name ++ (codes " " ++ q)) c.in_ok-index.ensures ∙ sym (append_assoc name (codes " ") (quoted c.args.index.now)))))
    c.format.ensures.ok
