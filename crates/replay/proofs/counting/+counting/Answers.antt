use Rattle.std.proofs.Common.{sym, ap, ◌∙◌, ◌-◌, ◌^◌, min, ℕ, List, arith, map}
use Rattle.entry_model.specs.declared.entry.Entry.{Entry}
use Rattle.replay.specs.Moves.{item_count, total}
use Rattle.replay.proofs.Folds.{count_group, count_one}
use Rattle.replay.proofs.Made.{total_more}
use Rattle.replay.proofs.counting.+counting.Goals as goal

pub item_count-returns-in_default : goal.item_count-returns-in_default
item_count-returns-in_default t c = sym (ap (λ (n : ℕ). min n (2 ^ 128 - 1)) (count_one c.args.entry.now c.in_default.not-Group))

pub item_count-returns-in-Group : goal.item_count-returns-in-Group
item_count-returns-in-Group t c =
    c.count_all.ensures ∙ (ap (λ (es : List Entry). min (total (map item_count es)) (2 ^ 128 - 1)) c.as_slice.ensures
    ∙ ap (λ (n : ℕ). min n (2 ^ 128 - 1)) (sym (count_group c.args.entry.now c.in-Group.entries c.in-Group.is)))

pub count_all-loop-entry-preserved : goal.count_all-loop-entry-preserved
count_all-loop-entry-preserved t c =
    let m = total_more item_count c.args.entries.now c.loop-entry.entry-index c.entry-item.result c.loop-entry-test.true c.entry-item.is in
    omega (arith, m, c.loop-entry.invariant, c.item_count.ensures, c.saturating_add-count.ensures)
