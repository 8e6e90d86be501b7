use Rattle.std.proofs.lemmas.Result.{on_ok_weaker}
use Rattle.entry_writer.proofs.FirstForm.{first_form}
use Rattle.entry_writer.proofs.paths.put_first_form.Goals as goal

pub returns : goal.returns
returns c = on_ok_weaker c.put_section-2.result (λ h. first_form c.args.touches.now c.args.out.now.items c.put_element.new.out.items c.put_section.new.out.items c.put_section-2.new.out.items c.in_ok-put_element.ensures c.in_ok-put_section.ensures h) c.put_section-2.ensures
