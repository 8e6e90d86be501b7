use Rattle.std.proofs.Common.{Err, ◌≡◌, ◌-◌, take, inl, inr, sym, ap, subst, ◌∙◌, arith}
use Rattle.std.proofs.lemmas.List.{length-drop}
use Rattle.tool_io.specs.Causes.{Rose}
use Rattle.archive_format.specs.Archive.{Stage, limit, next}
use Rattle.demux.specs.Steps.{stage_of, Stuck, AsksFirst}
use Rattle.demux.specs.Told.{Stands}
use Rattle.demux.proofs.Turn.{item_size, item_taken, item_stuck, stands_kept, of_no_rose}
use Rattle.demux.proofs.run.turn.Goals as goal

pub skip-requires : goal.skip-requires
skip-requires g c =
    let u = rw c.in-Ok-Some.field-0-is at c.in-Ok-Some.ensures.turned in
    let w : c.within.result.now ≡ take (limit - c.args.at) c.args.window.now.bytes = c.within.ensures ∙ ap (take (limit - c.args.at)) c.held.ensures.bytes in
    (item_size (stage_of c.args.progress.now) c.args.at c.args.window.now.bytes (limit - c.args.at) _ u.0 c.in-Ok-Some.size (ap (next (stage_of c.args.progress.now) c.args.at) (sym w) ∙ u.1)).1

pub overflow_add-result : goal.overflow_add-result
overflow_add-result g c =
    let u = rw c.in-Ok-Some.field-0-is at c.in-Ok-Some.ensures.turned in
    let w : c.within.result.now ≡ take (limit - c.args.at) c.args.window.now.bytes = c.within.ensures ∙ ap (take (limit - c.args.at)) c.held.ensures.bytes in
    let k = item_size (stage_of c.args.progress.now) c.args.at c.args.window.now.bytes (limit - c.args.at) _ u.0 c.in-Ok-Some.size (ap (next (stage_of c.args.progress.now) c.args.at) (sym w) ∙ u.1) in
    omega (arith, k.2)

pub returns-in-Err-clause-turns : goal.returns-in-Err-clause-turns
returns-in-Err-clause-turns g c = λ first before h.
    let s = stage_of c.args.progress.now in
    let adds = g.T.DocTaker.adds c.args.taker.now in
    let old = g.T.DocTaker.known c.args.taker.now in
    let new = g.T.DocTaker.known c.item.new.taker in
    let w : c.within.result.now ≡ take (limit - c.args.at) c.args.window.now.bytes = c.within.ensures ∙ ap (take (limit - c.args.at)) c.held.ensures.bytes in
    item_stuck adds before old new (g.T.DocTaker.halted c.item.new.taker) s c.args.at c.args.window.now.bytes first (g.S.Source.end c.args.source.now).bytes (Rose (g.T.DocTaker.starved c.args.taker.now) (g.T.DocTaker.starved c.item.new.taker)) c.in-Err.fault h c.requires.room
    (λ e. elim (c.in-Err.ensures.starved (ap Err e)) [ inl rose ↦ inl rose | inr asks ↦ inr (subst (AsksFirst s) w asks) ])
    (subst (λ y. Stuck c.in-Err.fault (next s c.args.at y) adds old new (g.T.DocTaker.halted c.item.new.taker)) w c.in-Err.ensures.turned)

pub returns-in-Ok-Some-clause-turns : goal.returns-in-Ok-Some-clause-turns
returns-in-Ok-Some-clause-turns g c = λ first before h.
    let s = stage_of c.args.progress.now in
    let adds = g.T.DocTaker.adds c.args.taker.now in
    let old = g.T.DocTaker.known c.args.taker.now in
    let new = g.T.DocTaker.known c.item.new.taker in
    let u = rw c.in-Ok-Some.field-0-is at c.in-Ok-Some.ensures.turned in
    let w : c.within.result.now ≡ take (limit - c.args.at) c.args.window.now.bytes = c.within.ensures ∙ ap (take (limit - c.args.at)) c.held.ensures.bytes in
    let k = item_taken adds before old new (g.T.DocTaker.halted c.item.new.taker) s c.args.at c.args.window.now.bytes first (g.S.Source.end c.args.source.now).bytes (stage_of c.item.new.self) u.0 c.in-Ok-Some.size h (ap (next s c.args.at) (sym w) ∙ u.1) u.2 in
    rw c.skip.ensures k

pub returns-in-Ok-Some-clause-on : goal.returns-in-Ok-Some-clause-on
returns-in-Ok-Some-clause-on g c =
    let u = rw c.in-Ok-Some.field-0-is at c.in-Ok-Some.ensures.turned in
    let w : c.within.result.now ≡ take (limit - c.args.at) c.args.window.now.bytes = c.within.ensures ∙ ap (take (limit - c.args.at)) c.held.ensures.bytes in
    let k = item_size (stage_of c.args.progress.now) c.args.at c.args.window.now.bytes (limit - c.args.at) _ u.0 c.in-Ok-Some.size (ap (next (stage_of c.args.progress.now) c.args.at) (sym w) ∙ u.1) in
    let d = length-drop c.in-Ok-Some.size c.args.window.now.bytes in
    rw c.skip.ensures (omega (arith, k.0, k.2, d), omega (arith, k.0, k.1, d))

pub returns-in-Ok-None-clause-turns : goal.returns-in-Ok-None-clause-turns
returns-in-Ok-None-clause-turns g c = λ first before h.
    let s = stage_of c.args.progress.now in
    let adds = g.T.DocTaker.adds c.args.taker.now in
    let old = g.T.DocTaker.known c.args.taker.now in
    let new = g.T.DocTaker.known c.item.new.taker in
    let why = g.T.DocTaker.halted c.item.new.taker in
    let left = (g.S.Source.end c.args.source.now).bytes in
    let held = c.args.window.now.bytes in
    let u = rw c.in-Ok-None.field-0-is at c.in-Ok-None.ensures.turned in
    let still = subst (λ (z : Stage). Stands first left z c.args.at held adds before new) (sym u.1) (stands_kept adds before old new why s c.args.at held first left h u.2) in
    of_no_rose c.more.result first (g.S.Source.end c.more.new.source).bytes (stage_of c.more.new.progress) c.more.new.window.bytes adds before new why (Rose (g.T.DocTaker.starved c.args.taker.now) (g.T.DocTaker.starved c.item.new.taker))
    (c.more.ensures.turns first adds why before new still)
