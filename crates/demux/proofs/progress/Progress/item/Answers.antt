use Rattle.std.proofs.Common.{◌≡◌, ℕ, take, drop, subst, ap, Err, inl, inr, arith, rules}
use Rattle.std.specs.Prelude.{None}
use Rattle.archive_format.specs.Archive.{early, size_of, item_of, Asks}
use Rattle.demux.specs.declared.fault.DemuxFault.TheVariants.{NoMemory}
use Rattle.archive_format.proofs.Fronts.{begins}
use Rattle.demux.specs.Steps.{stage_of}
use Rattle.demux.proofs.progress.Progress.item.Goals as goal

pub returns-in-Err-clause-starved : goal.returns-in-Err-clause-starved
returns-in-Err-clause-starved g c = λ h.
    let s = stage_of c.args.self.now in
    let held = c.args.held.now in
    let n = size_of (take 4 held) in
    let early_none : early s.place c.args.at (take 4 held) ≡ None = search rules in
    let b = begins s.place c.args.at held (omega arith) early_none (omega arith) in
    let e : c.in-Err.fault ≡ NoMemory = cc in
    elim (c.in-Err.ensures.starved (ap Err e)) [
      | inl rose ↦ inl rose
      | inr asks ↦ inr (record {
        item = item_of (take 4 held) (take n held);
        rest = drop n held;
        is = b.is;
        text = b.text;
        asks = subst (λ (k : ℕ). Asks s (item_of (take 4 held) (take k held))) c.size_of-size.ensures asks;
      })
    ]
