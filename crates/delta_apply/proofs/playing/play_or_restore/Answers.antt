use Rattle.std.proofs.Common.{◌≡◌, List, sym, ap, ◌∙◌, subst, Option}
use Rattle.containers.specs.Entries.{AreDistinct, names_of}
use Rattle.delta_apply.specs.Touched.{Field, joined, untouched, touched_fields}
use Rattle.delta_apply.proofs.Joined.{joined-all}
use Rattle.delta_apply.proofs.playing.play_or_restore.Goals as goal

pub restore-requires : goal.restore-requires
restore-requires c =
    let back : joined c.in_ok-backup.backup.touched (untouched c.args.touches.now c.play_all.new.doc) ≡ c.args.doc.now =
    ap (λ (ts : List (Option Field)). joined ts (untouched c.args.touches.now c.play_all.new.doc)) c.in_ok-backup.ensures.touched
    ∙ (ap (joined (touched_fields c.args.touches.now c.args.doc.now)) c.in-Err.ensures.err
    ∙ joined-all c.args.touches.now c.args.doc.now) in
    subst (λ (fs : List Field). AreDistinct (names_of fs)) (sym back) c.of.ensures.distinct

pub returns-in-Err-clause-err : goal.returns-in-Err-clause-err
returns-in-Err-clause-err c =
    c.restore.ensures
    ∙ (ap (λ (ts : List (Option Field)). joined ts (untouched c.args.touches.now c.play_all.new.doc)) c.in_ok-backup.ensures.touched
    ∙ (ap (joined (touched_fields c.args.touches.now c.args.doc.now)) c.in-Err.ensures.err
    ∙ joined-all c.args.touches.now c.args.doc.now))
