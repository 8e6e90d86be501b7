use Rattle.std.proofs.Common.{◌∙◌, refl}
use Rattle.std.proofs.lemmas.Result.{on_ok_weaker}
use Rattle.bson_value.specs.Spelling.{elements_of}
use Rattle.entry_model.specs.Edits.{mapped}
use Rattle.entry_model.specs.Touches.{edit_of}
use Rattle.entry_model.specs.Written.{diff, diff_name}
use Rattle.entry_writer.proofs.Bytes.{closed, room, within}
use Rattle.entry_writer.proofs.Diffs.{second_form}
use Rattle.entry_writer.proofs.diff.put_second_form.Goals as goal

pub returns : goal.returns
returns c =
    on_ok_weaker c.close.result
    (λ h. second_form c.args.touches.now (mapped edit_of c.args.touches.now) c.args.out.now.items c.put_element.new.out.items c.close.new.out.items refl c.in_ok-put_element.ensures
    (closed c.put_element.new.out.items diff_name c.open.new.out.items (elements_of (diff 200 (mapped edit_of c.args.touches.now))) c.put_touches.new.out.items c.close.new.out.items c.len-start.result
    c.in_ok-open.ensures (c.len-start.ensures ∙ c.open.new.out.ok.0) c.in_ok-put_touches.ensures h))
    c.close.ensures

pub close-requires-clause-room : goal.close-requires-clause-room
close-requires-clause-room c = room c.put_element.new.out.items diff_name c.open.new.out.items c.len-start.result c.in_ok-open.ensures (c.len-start.ensures ∙ c.open.new.out.ok.0)

pub close-requires-clause-within : goal.close-requires-clause-within
close-requires-clause-within c =
    within c.open.new.out.items c.put_touches.new.out.items (elements_of (diff 200 (mapped edit_of c.args.touches.now))) c.len-start.result _ c.in_ok-put_touches.ensures (c.len-start.ensures ∙ c.open.new.out.ok.0) refl
