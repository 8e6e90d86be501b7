use Rattle.std.proofs.Common.{◌≡◌, ℕ, ◌+◌, ◌-◌, ◌^◌, ◌≤◌, List, length, ap, sym, ◌∙◌, subst, None, Some, rules}
use Rattle.std.specs.Prelude.{min}
use Rattle.dump_run.specs.Rings as rings
use Rattle.capped_oplog.specs.Ring.{Ring, Entry}
use Rattle.history_model.specs.Stages.{turned}
use Rattle.dump_run.specs.Dumps.{Dumping}
use Rattle.dump_run.proofs.Sending.{tail_gone, tail_ok, tail_err}
use Rattle.dump_run.proofs.Finishing.{sends}
use Rattle.dump_run.proofs.dump.Dump.tail.Goals as goal

pub returns-in_default-place_of-clause-comes : goal.returns-in_default-place_of-clause-comes
returns-in_default-place_of-clause-comes g c = λ caps r ok st m.
    let i = c.self.inside in
    let none : c.place_of.result ≡ None = search rules in
    let ring : c.oplog.result.now.entries ≡ turned r.stage.oplog = ap (λ (z : Ring). z.entries) (c.oplog.ensures ∙ st.ring) in
    let place = rw none at c.place_of.ensures.place in
    tail_gone i.copies i.oplog i.start i.last_read c.in-Some-mark.end i.mark i.sent i.closed i.documents i.entries i.failed c.args.self.now caps r c.oplog.result.now.entries c.args.n c.self.view_is
    c.in-Some-mark.is c.if-self.false ring ok m c.oldest_of-oldest.result (g.K.Sink.end c.args.sink.now) place
    (c.oldest_of-oldest.ensures r.stage.oplog (ap (λ (z : Ring). z.entries) (c.oplog-in_default-place_of.ensures ∙ st.ring)))

pub returns-in-Ok-clause-comes : goal.returns-in-Ok-clause-comes
returns-in-Ok-clause-comes g c = λ caps r ok st m.
    let i = c.self.inside in
    let ring : c.oplog-2.result.now.entries ≡ turned r.stage.oplog = ap (λ (z : Ring). z.entries) (c.oplog-2.ensures ∙ st.ring) in
    let same : c.oplog.result.now.entries ≡ c.oplog-2.result.now.entries = ap (λ (z : Ring). z.entries) (c.oplog.ensures ∙ sym c.oplog-2.ensures) in
    let place = subst (λ (z : List Entry). rings.StandsAt z i.start (Some c.in-Some-place_of.place)) same c.in-Some-place_of.ensures.place in
    let few = subst (λ (z : List Entry). length z ≤ 1000000) same c.in-Some-place_of.ensures.few in
    let x = c.in-Ok.ensures in
    tail_ok i.copies i.oplog i.start i.last_read c.in-Some-mark.end i.mark i.sent i.closed i.documents i.entries i.failed c.args.self.now caps r c.oplog-2.result.now.entries c.args.n c.self.view_is
    c.in-Some-mark.is c.if-self.false ring ok m c.in-Some-place_of.place c.saturating_add-first.result place few c.ranges.n.fits c.saturating_add-first.ensures
    c.send.new.writer c.send.new.block c.in-Ok.last c.saturating_add-self-inside-in-Ok.result c.saturating_add-self-inside.result (g.K.Sink.end c.args.sink.now).bytes (g.K.Sink.end c.send.new.sink).bytes
    x.entries x.last x.writer x.ok (c.saturating_add-self-inside-in-Ok.ensures ∙ ap (λ (k : ℕ). min (i.sent + k) (2 ^ 64 - 1)) c.from.ensures) (c.saturating_add-self-inside.ensures ∙ ap (λ (k : ℕ). min (i.entries + k) (2 ^ 64 - 1)) c.len.ensures)

pub returns-in-Err-clause-comes : goal.returns-in-Err-clause-comes
returns-in-Err-clause-comes g c = λ caps r ok st m.
    let i = c.self.inside in
    let ring : c.oplog-2.result.now.entries ≡ turned r.stage.oplog = ap (λ (z : Ring). z.entries) (c.oplog-2.ensures ∙ st.ring) in
    let same : c.oplog.result.now.entries ≡ c.oplog-2.result.now.entries = ap (λ (z : Ring). z.entries) (c.oplog.ensures ∙ sym c.oplog-2.ensures) in
    let place = subst (λ (z : List Entry). rings.StandsAt z i.start (Some c.in-Some-place_of.place)) same c.in-Some-place_of.ensures.place in
    let few = subst (λ (z : List Entry). length z ≤ 1000000) same c.in-Some-place_of.ensures.few in
    tail_err i.copies i.oplog i.start i.last_read c.in-Some-mark.end i.mark i.sent i.closed i.documents i.entries i.failed c.args.self.now caps r c.oplog-2.result.now.entries c.args.n c.self.view_is
    c.in-Some-mark.is c.if-self.false ring ok m c.in-Some-place_of.place c.saturating_add-first.result place few c.ranges.n.fits c.saturating_add-first.ensures
    c.send.new.writer (g.K.Sink.end c.args.sink.now) (g.K.Sink.end c.send.new.sink) c.in-Err.fault c.from-fault.result c.in-Err.ensures.err c.from-fault.ensures

pub returns-in-Ok-clause-sends : goal.returns-in-Ok-clause-sends
returns-in-Ok-clause-sends g c =
    let i = c.self.inside in
    let same : c.oplog.result.now.entries ≡ c.oplog-2.result.now.entries = ap (λ (z : Ring). z.entries) (c.oplog.ensures ∙ sym c.oplog-2.ensures) in
    let few = subst (λ (z : List Entry). length z ≤ 1000000) same c.in-Some-place_of.ensures.few in
    let is : c.saturating_add-self-inside-in-Ok.result ≡ min (i.sent + c.args.n) (2 ^ 64 - 1) = c.saturating_add-self-inside-in-Ok.ensures ∙ ap (λ (k : ℕ). min (i.sent + k) (2 ^ 64 - 1)) c.from.ensures in (
      ap (λ (z : Dumping). z.state.closed) (sym c.self.view_is) ∙ c.if-self.false,
      λ e.
          let k = sends c.oplog-2.result.now.entries c.in-Some-mark.end c.in-Some-place_of.place c.saturating_add-first.result i.sent c.args.n c.saturating_add-self-inside-in-Ok.result c.in-Ok.last few c.saturating_add-first.ensures c.in-Ok.ensures.last is e in
          (k.0 ∙ ap (λ (z : Dumping). z.state.sent + c.args.n) c.self.view_is, k.1),
    )
