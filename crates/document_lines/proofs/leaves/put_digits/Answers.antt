use Rattle.std.proofs.Common.{◌≡◌, sym, ap, ◌∙◌}
use Rattle.json_text.specs.Print.{quoted}
use Rattle.std.specs.Prelude.{OnOk, List, ℕ, ◌++◌}
use Rattle.std.proofs.Common.{subst}
use Rattle.hex.specs.Hex.{encode_lower}
use Rattle.document_lines.proofs.Texts.{str_text}
use Rattle.document_lines.proofs.leaves.put_digits.Goals as goal

pub returns : goal.returns
returns c = subst (λ (z : List ℕ). OnOk c.put_quoted.result (c.put_quoted.new.out.items ≡ c.args.out.now.items ++ z)) (ap quoted c.write_digits.ensures ∙ sym (str_text (encode_lower c.args.bytes.now))) c.put_quoted.ensures
