use Rattle.std.proofs.Common.{ap, sym, subst, ◌∙◌, arith}
use Rattle.std.specs.Str.{is_utf8}
use Rattle.std.proofs.lemmas.Grind.{common_steps}
use Rattle.std.proofs.lemmas.Str.{is_utf8-from_IsUtf8}
use Rattle.json_tree.specs.WellFormed.{IsWellFormed, AreWellFormedItems, IsWellFormedEntry, AreWellFormedEntries}
use Rattle.json_tree.proofs.WellFormed.{well_null, well_bool, well_number, well_str, well_items, well_entry, well_entries, all_more}
use Rattle.json_text.specs.Print.{text_of}
use Rattle.json_text.proofs.Printed.{object_text, ok_if, ok_map}
use Rattle.json_text.proofs.printing.+print.Goals as goal

pub put_tree-returns-in-Object-clause-text : goal.put_tree-returns-in-Object-clause-text
put_tree-returns-in-Object-clause-text t c =
    let e = ap text_of c.in-Object.is ∙ object_text c.in-Object.fields in
    rw (e, ← c.entries.ensures.entries) c.put_object.ensures.text

pub put_tree-returns-in-Null-clause-well_formed : goal.put_tree-returns-in-Null-clause-well_formed
put_tree-returns-in-Null-clause-well_formed t c = ok_if _ (subst IsWellFormed (sym c.in-Null.is) well_null)

pub put_tree-returns-after-b-clause-well_formed : goal.put_tree-returns-after-b-clause-well_formed
put_tree-returns-after-b-clause-well_formed t c = ok_if _ (subst IsWellFormed (sym c.in-Bool.is) (well_bool _))

pub put_tree-returns-in-Number-clause-well_formed : goal.put_tree-returns-in-Number-clause-well_formed
put_tree-returns-in-Number-clause-well_formed t c = ok_if _ (subst IsWellFormed (sym c.in-Number.is) (well_number _ c.as_str.ensures.number))

pub put_tree-returns-in-Str-clause-well_formed : goal.put_tree-returns-in-Str-clause-well_formed
put_tree-returns-in-Str-clause-well_formed t c = ok_if _ (subst IsWellFormed (sym c.in-Str.is) (well_str _ (ap is_utf8 (sym c.as_str-in-Str.ensures) ∙ is_utf8-from_IsUtf8 _ c.as_str-in-Str.utf8)))

pub put_tree-returns-in-Items-clause-well_formed : goal.put_tree-returns-in-Items-clause-well_formed
put_tree-returns-in-Items-clause-well_formed t c = ok_map _ (λ k. subst IsWellFormed (sym c.in-Items.is) (well_items _ (subst AreWellFormedItems c.as_slice.ensures k))) c.put_array.ensures.well_formed

pub put_tree-returns-in-Object-clause-well_formed : goal.put_tree-returns-in-Object-clause-well_formed
put_tree-returns-in-Object-clause-well_formed t c = ok_map _ (λ k. subst IsWellFormed (sym c.in-Object.is) (well_entries _ c.entries.ensures.distinct (subst AreWellFormedEntries c.entries.ensures.entries k))) c.put_object.ensures.well_formed

pub put_entry-returns-clause-well_formed : goal.put_entry-returns-clause-well_formed
put_entry-returns-clause-well_formed t c = ok_map _ (well_entry c.args.entry.now (ap is_utf8 (sym c.as_str.ensures) ∙ is_utf8-from_IsUtf8 _ c.as_str.utf8)) c.put_tree.ensures.well_formed

pub put_entries-loop-i-preserved : goal.put_entries-loop-i-preserved
put_entries-loop-i-preserved t c = record {
  text = grind (arith, common_steps);
  well_formed = all_more IsWellFormedEntry c.args.entries.now c.loop-i.i _ c.loop-i-test.true c.index-entries-i.is c.loop-i.invariant.well_formed c.in_ok-put_entry.ensures.well_formed;
}
