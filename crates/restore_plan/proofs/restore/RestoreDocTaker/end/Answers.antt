use Rattle.std.proofs.Common.{◌≡◌, false, ap, sym, ◌∙◌, refl}
use Rattle.std.specs.Prelude.{◌&&◌}
use Rattle.std.specs.FinMap as map
use Rattle.coll_state.specs.Rows.{state_of}
use Rattle.restore_plan.specs.declared.restore.Restore.{Restore}
use Rattle.restore_plan.specs.Taken.{contents_of, plays_early}
use Rattle.restore_plan.proofs.Steps.{told_ok, both_ok, end_noted, end_taken}
use Rattle.restore_plan.proofs.restore.RestoreDocTaker.end.Goals as goal
use Rattle.restore_plan.proofs.restore.RestoreDocTaker.end.Goals.{else-plays_early-via-then-plays_early+else-has, else-plays_early-via-else-plays_early}

pub returns-then-has-clause-ok : goal.returns-then-has-clause-ok
returns-then-has-clause-ok c =
    let self = c.args.self.now in
    let noted = ap (λ b. b && c.has.result) (sym c.plays_early.ensures ∙ c.if-plays_early.true) ∙ c.if-has.true in
    both_ok _ _ _ c.told.result c.told.ensures.ok (told_ok _ c.told.result c.note_end-noted.result c.told.ensures.taken c.note_end-noted.ensures.ok)
    (λ same added. end_noted self.plan self.state (contents_of self) (contents_of c.told.new.self) c.args.ns.now c.has.result (sym c.is_oplog.ensures ∙ c.if-is_oplog.false) c.has.ensures noted refl
    (ap (λ (r : Restore). state_of r.state) same) (ap (λ (r : Restore). r.entries) same) (ap (λ (r : Restore). r.ended.keys) same ∙ added))

pub returns-clause-ok : goal.returns-clause-ok
returns-clause-ok c =
    let self = c.args.self.now in
    let there = map.contains_key self.state.tables c.args.ns.now in
    let unnoted : (plays_early self.plan && there) ≡ false = elim c.else-plays_early.branch [
      | else-plays_early-via-then-plays_early+else-has w ↦ ap (λ b. b && there) (sym c.plays_early.ensures ∙ w.if-plays_early.true) ∙ (sym w.has.ensures ∙ w.if-has.false)
      | else-plays_early-via-else-plays_early w ↦ ap (λ b. b && there) (sym c.plays_early.ensures ∙ w.if-plays_early.false)
    ] in
    both_ok _ _ _ c.told-2.result c.told-2.ensures.ok (told_ok _ c.told-2.result c.take_end-taken.result c.told-2.ensures.taken c.take_end-taken.ensures.ok)
    (λ same made. end_taken self.plan self.state (contents_of self) (contents_of c.told-2.new.self) c.args.ns.now there (sym c.is_oplog.ensures ∙ c.if-is_oplog.false) refl unnoted refl
    (ap (λ (r : Restore). state_of r.state) same ∙ made) (ap (λ (r : Restore). r.entries) same) (ap (λ (r : Restore). r.ended.keys) same))
