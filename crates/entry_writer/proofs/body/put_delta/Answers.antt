use Rattle.std.proofs.Common.{[], ◌∷◌, ◌∙◌}
use Rattle.std.specs.Prelude.{codes}
use Rattle.bson_value.specs.declared.value.Value.{Str, Object}
use Rattle.entry_model.specs.Spelling.{namespace_text, id_alone, level_limit}
use Rattle.entry_model.specs.Touches.{written}
use Rattle.std.proofs.lemmas.Result.{on_ok_weaker}
use Rattle.entry_writer.proofs.Bytes.{put_in}
use Rattle.entry_writer.proofs.body.put_delta.Goals as goal

pub returns : goal.returns
returns c =
    on_ok_weaker c.close.result
    (λ h. put_in c.args.out.now.items c.put_update_head.new.out.items c.open.new.out.items c.put_form.new.out.items c.close.new.out.items (codes "o")
    ((codes "op", Str (codes "u")) ∷ (codes "ns", Str (namespace_text c.args.ns.now.db c.args.ns.now.coll)) ∷ (codes "o2", Object (id_alone c.args.id.now)) ∷ [])
    (written c.args.form level_limit c.args.touches.now) c.len-start.result
    c.in_ok-put_update_head.ensures c.in_ok-open.ensures (c.len-start.ensures ∙ c.open.new.out.ok.0) c.in_ok-put_form.ensures h)
    c.close.ensures
