use Rattle.std.proofs.Common.{map, sym, ◌∙◌}
use Rattle.json_text.specs.Print.{text_of, behind_commas}
use Rattle.json_tree.specs.declared.tree.Tree.TheVariants.{Str}
use Rattle.metadata_text.proofs.Shapes.{pieces, written, str_utf8}
use Rattle.metadata_text.proofs.writing.written.Goals as goal

pub returns-clause-text : goal.returns-clause-text
returns-clause-text c =
    let o = text_of c.args.options.now in
    let ds = behind_commas (map text_of c.args.defs.now) in
    let name = text_of (Str c.args.ns.now.coll) in
    let said = rw c.as_slice.ensures at c.in_ok-put_definitions.ensures.text in
    let named = rw c.in_ok-copy.ensures at c.in_ok-put-2.ensures.text in
    c.in_ok-text.ensures
    ∙ pieces _ _ _ _ _ _ _ _ o ds name c.new-out.ensures.bytes c.in_ok-push_str.ensures.bytes c.in_ok-put.ensures.text c.in_ok-push_str-2.ensures.bytes said c.in_ok-push_str-3.ensures.bytes named c.in_ok-push_str-4.ensures.bytes
    ∙ sym (written c.args.ns.now.coll c.args.options.now c.args.defs.now)

pub returns-clause-well_formed : goal.returns-clause-well_formed
returns-clause-well_formed c = (str_utf8 _ _ c.in_ok-copy.ensures c.in_ok-put-2.ensures.well_formed, c.in_ok-put.ensures.well_formed, rw c.as_slice.ensures at c.in_ok-put_definitions.ensures.well_formed)
