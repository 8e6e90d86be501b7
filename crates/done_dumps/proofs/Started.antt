-- Each dump starts.
use Rattle.std.proofs.Common.{◌≡◌, refl, sym, subst, Option, Some, None}
use Rattle.bson_value.specs.declared.value.Ts.{Ts}
use Rattle.history_model.specs.Runs.{DumpState, Run, first_run, after_lines, begun, finished}
use Rattle.history_model.specs.Histories.{moments_of}
use Rattle.history_model.proofs.AtTheMark.{StartIs, lines_start}
use Rattle.history_model.proofs.WholeRun.{finished_lines}
use Rattle.done_dumps.specs.Laws.{IsTold, DumpsStart}

started_told : (ts : Ts) (o : Option DumpState) → StartIs ts o → IsTold (moments_of o).start × IsTold (moments_of o).last_read
started_told ts None h = absurd h
started_told ts (Some d) h = ((d.start, refl), (d.last_read, refl))

begun_started : (r : Run) → (ts : Ts) × StartIs ts (begun r.dump r).dump
begun_started r = by r.dump refl
  where
    by : (o : Option DumpState) → r.dump ≡ o → (ts : Ts) × StartIs ts (begun o r).dump
    by None e = (r.stage.newest, refl)
    by (Some d) e = (d.start, subst (λ (o : Option DumpState). StartIs d.start o) (sym e) refl)

pub starts : DumpsStart
starts s =
    let r = after_lines s.lines (first_run s.caps) in
    let b = begun_started r in
    let f = finished_lines r in
    started_told b.0 (finished r).dump (subst (λ (z : Run). StartIs b.0 z.dump) (sym f.1) (lines_start b.0 f.0 (begun r.dump r) b.1))
