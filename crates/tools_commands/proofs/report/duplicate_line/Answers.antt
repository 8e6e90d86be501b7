use Rattle.std.proofs.Common.{List, ℕ, ◌++◌, sym, ap, ◌∙◌}
use Rattle.std.specs.Prelude.{string_bytes, codes}
use Rattle.tools_commands.specs.Lines.{index_text, id_text}
use Rattle.tools_commands.proofs.Pieces.{weaken, six}
use Rattle.tools_commands.proofs.report.duplicate_line.Goals as goal

pub returns : goal.returns
returns c =
    let begin = codes "duplicate key: " in
    let sp = codes " " in
    let nl = codes "\n" in
    let place = index_text c.args.ns.now c.args.index.now in
    let first = id_text c.args.first.now in
    let second = id_text c.args.second.now in
    weaken c.format.result _ _ (λ s h.
    h ∙ (ap (λ (p : List ℕ). begin ++ (p ++ (sp ++ (string_bytes c.in_ok-first.first ++ (sp ++ (string_bytes c.in_ok-second.second ++ nl)))))) c.in_ok-place.ensures
    ∙ (ap (λ (f : List ℕ). begin ++ (place ++ (sp ++ (f ++ (sp ++ (string_bytes c.in_ok-second.second ++ nl)))))) c.in_ok-first.ensures
    ∙ (ap (λ (t : List ℕ). begin ++ (place ++ (sp ++ (first ++ (sp ++ (t ++ nl)))))) c.in_ok-second.ensures ∙ sym (six begin place sp first second nl)))))
    c.format.ensures.ok
