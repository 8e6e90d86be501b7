use Rattle.std.proofs.Common.{◌≡◌, ◌<◌, length, set, refl, ap, ◌∙◌, arith}
use Rattle.std.specs.Prelude.{slice_get}
use Rattle.archive_format.specs.Crc.{crc_on}
use Rattle.archive_format.specs.Archive.{doc_step}
use Rattle.demux.proofs.Seats.{seat_there, written}
use Rattle.demux.proofs.progress.Progress.add_document.Goals as goal

pub returns-else-len-i-clause-names : goal.returns-else-len-i-clause-names
unfolding doc_step
returns-else-len-i-clause-names c =
    let es = c.args.self.now.seen in
    let i = c.args.i in
    let le : i < length es = omega arith in
    let t = seat_there es i le in
    let e = record t.0 { sum = crc_on t.0.sum c.args.bytes.now } in
    let put : c.add.new.self ≡ set es i e = c.add.ensures t.0 t.1 in
    (e, ap (λ z. slice_get z i) put ∙ written es i e le, rw (c.in-Ok.ensures.ok, t.1, put) refl)
