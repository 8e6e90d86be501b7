use Rattle.std.proofs.Common.{◌≡◌, ◌+◌, ◌*◌, ◌++◌, max, take}
use denote.Param.Weighed.{most}
use Rattle.std.specs.Prelude.{string_bytes}
use Rattle.json_tree.specs.WellFormed.{AreWellFormedItems, AreWellFormedEntries}
use Rattle.json_tree.specs.declared.tree.Tree.{size-Tree}
use Rattle.json_text.specs.Print.{items_text, entries_text}
use Rattle.json_text.proofs.printing.+print.Given as goal

abbrev pub decreases-put_tree : goal.decreases-put_tree
decreases-put_tree l = 5 * size-Tree l.tree.now

abbrev pub decreases-put_entry : goal.decreases-put_entry
decreases-put_entry l = 5 * size-Tree l.entry.now.1 + 1

abbrev pub decreases-put_entries : goal.decreases-put_entries
decreases-put_entries l = 5 * most (λ e. max 0 (size-Tree e.1)) l.entries.now + 2

abbrev pub decreases-put_items : goal.decreases-put_items
decreases-put_items l = 5 * most (λ v. size-Tree v) l.items.now + 2

abbrev pub decreases-put_object : goal.decreases-put_object
decreases-put_object l = 5 * most (λ e. max 0 (size-Tree e.1)) l.entries.now + 3

abbrev pub decreases-put_array : goal.decreases-put_array
decreases-put_array l = 5 * most (λ v. size-Tree v) l.items.now + 3

abbrev pub invariant-put_items-loop-i : goal.invariant-put_items-loop-i
invariant-put_items-loop-i l = record {
  text : string_bytes l.out ≡ string_bytes l.fn.out ++ items_text (take l.i l.items);
  well_formed : AreWellFormedItems (take l.i l.items);
}

abbrev pub invariant-put_entries-loop-i : goal.invariant-put_entries-loop-i
invariant-put_entries-loop-i l = record {
  text : string_bytes l.out ≡ string_bytes l.fn.out ++ entries_text (take l.i l.entries);
  well_formed : AreWellFormedEntries (take l.i l.entries);
}
