use Rattle.std.proofs.Common.{sym, subst}
use Rattle.coll_state.specs.Rows.{Rows, AreSound}
use Rattle.schedule_source.proofs.Parts.{runs_two, runs_none, runs_one, runs_nothing, runs_creation}
use Rattle.schedule_source.proofs.command.run_before.Goals as goal

-- src/command.rt:70:9
pub returns-then-next_is_before : goal.returns-then-next_is_before
returns-then-next_is_before c st at = runs_two c.args.limit c.args.cmd.now st c.in_ok-apply.field-0 c.args.store.now c.apply.new.self c.next_ts-first.result c.next_ts-first.ensures (subst (λ (r : Rows). AreSound r) c.state-state.ensures c.is_sound.ensures) at (c.in_ok-apply.ensures.stage st at) c.in_ok-apply.ensures.most (sym c.if-next_is_before.ensures)

-- src/command.rt:75:9
pub returns-then-count-eq0 : goal.returns-then-count-eq0
returns-then-count-eq0 c st at = runs_none c.args.limit c.args.cmd.now st c.in_ok-apply-2.field-0 c.in_ok-count.count c.args.store.now c.apply-then-count-eq0.new.self (subst (λ (r : Rows). AreSound r) c.state-state.ensures c.is_sound.ensures) at (c.in_ok-apply-2.ensures.stage st at) (c.in_ok-count.ensures.stage st at) c.if-count-eq0.true

-- src/command.rt:82:9
pub returns-then-count-eq1 : goal.returns-then-count-eq1
returns-then-count-eq1 c st at = runs_one c.args.limit c.args.cmd.now st c.in_ok-apply-3.field-0 c.in_ok-count.count c.args.store.now c.apply-then-count-eq1.new.self c.next_ts-first.result c.next_ts-first.ensures (subst (λ (r : Rows). AreSound r) c.state-state.ensures c.is_sound.ensures) at (c.in_ok-apply-3.ensures.stage st at) (c.in_ok-count.ensures.stage st at) c.if-count-eq1.true (sym c.if-not-is_before.ensures)

-- src/command.rt:78:9
pub returns-then-not-is_before : goal.returns-then-not-is_before
returns-then-not-is_before c st at = runs_nothing c.args.limit c.args.cmd.now st c.in_ok-count.count c.args.store.now c.next_ts-first.result c.next_ts-first.ensures at (c.in_ok-count.ensures.stage st at) c.in_ok-count.ensures.most c.if-count-eq0.false (sym c.if-not-is_before.ensures) (sym c.if-next_is_before.ensures)

-- src/command.rt:57:1
pub returns : goal.returns
returns c st at = runs_creation c.args.limit c.args.cmd.now st c.in_ok-count.count c.args.store.now c.create_alone.new.store c.next_ts-first.result c.next_ts-first.ensures at (c.in_ok-count.ensures.stage st at) c.in_ok-count.ensures.most c.if-count-eq0.false c.if-count-eq1.false (sym c.if-not-is_before.ensures) (sym c.if-next_is_before.ensures) c.in_ok-create_alone.ensures.ok
