use Rattle.std.proofs.Common.{ℕ, List, ◌≡◌, ◌++◌, ap, sym, ◌∙◌}
use Rattle.bson_value.specs.Spelling.{elements_of}
use Rattle.entry_writer.specs.Elements.{opening}
use Rattle.entry_writer.specs.Edits.{edits_in}
use Rattle.entry_writer.specs.Levels.{fields_of, section_name}
use Rattle.entry_writer.proofs.Bytes.{closed, field_is, some_section, some_more}
use Rattle.std.proofs.lemmas.Result.{on_ok_weaker}
use Rattle.entry_writer.proofs.level.put_section.Goals as goal

pub returns : goal.returns
returns c =
    let fs = fields_of c.args.kind (edits_in c.args.edits.now) in
    let name = section_name c.args.kind in
    let old = c.args.out.now.items in
    let one = c.open.new.out.items in
    let two = c.put_level.new.out.items in
    let opens : one ≡ old ++ opening name = c.in_ok-open.ensures ∙ ap (λ (n : List ℕ). old ++ opening n) c.name_of.ensures in
    let filled : two ≡ one ++ elements_of fs = c.in_ok-put_level.ensures in
    on_ok_weaker c.close.result
    (λ h. closed old name one (elements_of fs) two c.close.new.out.items c.len-start.result opens (c.len-start.ensures ∙ c.open.new.out.ok.0) filled h
    ∙ ap (λ (b : List ℕ). old ++ b) (field_is name fs ∙ ap elements_of (sym (some_section name fs (some_more one two fs c.len.result c.len-start.result filled (c.len.ensures ∙ c.put_level.new.out.ok.0) (c.len-start.ensures ∙ c.open.new.out.ok.0) c.if-len-start.false)))))
    c.close.ensures
