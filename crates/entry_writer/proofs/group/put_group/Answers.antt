use Rattle.std.proofs.Common.{List, ℕ, [], ◌∷◌, ◌++◌, map, ap, ◌∙◌}
use Rattle.std.specs.Prelude.{codes}
use Rattle.bson_value.specs.declared.value.Value.{Str, Array}
use Rattle.bson_value.specs.Spelling.{elements_of}
use Rattle.entry_model.specs.Written.{Fields}
use Rattle.entry_model.specs.Spelling.{namespace_text, item_value}
use Rattle.std.proofs.lemmas.Result.{on_ok_weaker}
use Rattle.entry_writer.proofs.Bytes.{put_in, as_fields, closed_array}
use Rattle.entry_writer.proofs.group.put_group.Goals as goal

abbrev heading : List ℕ → Fields
heading ns = (codes "op", Str (codes "c")) ∷ (codes "ns", Str ns) ∷ []

pub returns : goal.returns
returns c =
    on_ok_weaker c.close-2.result
    (λ h. put_in c.args.out.now.items c.put_head.new.out.items c.open.new.out.items c.close.new.out.items c.close-2.new.out.items (codes "o") (heading (namespace_text c.args.ns.now.db (codes "$cmd"))) ((codes "applyOps", Array (map item_value c.args.entries.now)) ∷ []) c.len-start.result
    (c.in_ok-put_head.ensures ∙ ap (λ (ns : List ℕ). c.args.out.now.items ++ elements_of (heading ns)) (c.in_ok-text.ensures ∙ ap (λ (db : List ℕ). namespace_text db (codes "$cmd")) c.as_str.ensures))
    c.in_ok-open.ensures (c.len-start.ensures ∙ c.open.new.out.ok.0)
    (as_fields c.open.new.out.items c.close.new.out.items (codes "applyOps") (Array (map item_value c.args.entries.now))
    (closed_array c.open.new.out.items (codes "applyOps") c.open_array.new.out.items c.put_items.new.out.items c.close.new.out.items (map item_value c.args.entries.now) c.len-first.result
    c.in_ok-open_array.ensures (c.len-first.ensures ∙ c.open_array.new.out.ok.0) c.in_ok-put_items.ensures c.in_ok-close.ensures)) h)
    c.close-2.ensures
