use Rattle.std.proofs.Common.{inr, refl, ap, Err}
use Rattle.coll_state.specs.Rows.{state_of}
use Rattle.state_listing.specs.Listing.{listing}
use Rattle.tools_commands.proofs.Reading.{all_read, whole_read, outcome}
use Rattle.tools_commands.proofs.listing.list_archive.Goals as goal

pub returns-in-Ok-list : goal.returns-in-Ok-list
returns-in-Ok-list g c =
    let plan = c.args.order.plan in
    let s = state_of c.in-Ok.state in
    let before = (g.S.Source.end c.args.input.now).bytes in
    let after = (g.S.Source.end c.restore_archive.new.source).bytes in
    let restored = c.in-Ok.ensures.restored in
    (whole_read plan before after s restored, (listing c.args.order.form s, (s, outcome plan before after s restored, refl), c.in-Ok-list.ensures.ok))

pub returns-in-Err-Failed : goal.returns-in-Err-Failed
returns-in-Err-Failed g c =
    let plan = c.args.order.plan in
    let s = state_of c.in-Ok.state in
    let before = (g.S.Source.end c.args.input.now).bytes in
    let after = (g.S.Source.end c.restore_archive.new.source).bytes in
    let restored = c.in-Ok.ensures.restored in
    let e = c.in-Err-Failed.ensures in
    (e.cause (ap Err c.in-Err-Failed.field-0-is), whole_read plan before after s restored, (listing c.args.order.form s, (s, outcome plan before after s restored, refl), e.err))

pub returns-in-Ok : goal.returns-in-Ok
returns-in-Ok g c =
    let plan = c.args.order.plan in
    let s = state_of c.in-Ok.state in
    let before = (g.S.Source.end c.args.input.now).bytes in
    let after = (g.S.Source.end c.restore_archive.new.source).bytes in
    let restored = c.in-Ok.ensures.restored in
    (all_read plan before after s restored, inr (listing c.args.order.form s, (s, outcome plan before after s restored, refl), c.in-Err-NoMemory-list.ensures.err))
