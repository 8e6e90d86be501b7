use Rattle.std.proofs.Common.{◌≡◌, ℕ, ◌+◌, ◌-◌, ◌≤◌, List, [], ◌++◌, length, take, ap, subst, ◌∙◌, arith, rules, false}
use Rattle.std.specs.Prelude.{None, Some, Option}
use Rattle.std.proofs.lemmas.List.{append-nil, take_all, nil_from_length}
use Rattle.std.specs.Io.KnownBytes.{Consumes}
use Rattle.archive_format.specs.Archive.{limit, next, short, ending}
use Rattle.demux.specs.Held.{Fills}
use Rattle.demux.specs.Steps.{stage_of}
use Rattle.demux.proofs.Begin.{keeps_same}
use Rattle.demux.proofs.Takings.{took_none}
use Rattle.demux.proofs.Turn.{far_told, read_failed, end_refused, end_accepted, short_fits}
use Rattle.demux.proofs.run.more.Goals as goal

pub returns-then-at-seen-clause-turns : goal.returns-then-at-seen-clause-turns
returns-then-at-seen-clause-turns g c = λ first adds why before known h.
    far_told adds before known known why (stage_of c.args.progress.now) c.args.at c.args.window.now.bytes first (g.S.Source.end c.args.source.now).bytes (g.S.Source.end c.args.source.now).bytes h c.requires.room (keeps_same (g.S.Source.end c.args.source.now).bytes) c.requires.short (omega (arith, ap length c.held.ensures.bytes)) (took_none adds known)

pub fill-requires : goal.fill-requires
fill-requires g c =
    let b = c.args.window.now.bytes in
    let all : take (limit - c.args.at) b ≡ b = take_all (limit - c.args.at) b (omega (arith, ap length c.held.ensures.bytes)) in
    let k = short_fits (stage_of c.args.progress.now) c.args.at (take (limit - c.args.at) b) c.requires.short in
    omega (arith, k, ap length all)

pub returns-in-Err-clause-turns : goal.returns-in-Err-clause-turns
returns-in-Err-clause-turns g c = λ first adds why before known h.
    let s = stage_of c.args.progress.now in
    let b = c.args.window.now.bytes in
    let all : take (limit - c.args.at) b ≡ b = take_all (limit - c.args.at) b (omega (arith, ap length c.held.ensures.bytes)) in
    read_failed adds before known known why s c.args.at b first (g.S.Source.end c.args.source.now).bytes (g.S.Source.end c.fill.new.source).bytes h c.requires.room c.in-Err.ensures.kept.1 (subst (λ y. next s c.args.at y ≡ short) all c.requires.short) (took_none adds known)

none_read : {b after : List ℕ} {left now : Option (List ℕ)} (n : ℕ) → n ≡ 0 → Fills b after n left now → (after ≡ b) × Consumes left now []
none_read {b} {after} {left} {now} n z f =
    let e : f.bytes ≡ [] = nil_from_length _ (f.count ∙ z) in
    (f.held ∙ ap (λ x. b ++ x) e ∙ append-nil b, subst (Consumes left now) e f.taken)

pub returns-in-Ok-ending-clause-turns : goal.returns-in-Ok-ending-clause-turns
returns-in-Ok-ending-clause-turns g c = λ first adds why before known h.
    let s = stage_of c.args.progress.now in
    let at = c.args.at in
    let b = c.args.window.now.bytes in
    let f = c.in-Ok-eq0.ensures.ok in
    let z : c.in-Ok-eq0.field-0 ≡ 0 = search rules in
    let n = none_read c.in-Ok-eq0.field-0 z f in
    let all : take (limit - at) b ≡ b = take_all (limit - at) b (omega (arith, ap length c.held.ensures.bytes)) in
    let near : at + length b ≤ limit = omega (arith, ap length c.held.ensures.bytes) in
    let same : c.held-in-Ok-eq0.result.now ≡ b = c.held-in-Ok-eq0.ensures.bytes ∙ n.0 in
    end_accepted adds before known known why s at b first (g.S.Source.end c.args.source.now).bytes (g.S.Source.end c.fill.new.source).bytes h (subst (λ y. next s at y ≡ short) all c.requires.short) near n.1 (f.ended z)
    (subst (λ y. ending false s at y ≡ None) same c.in-Ok-ending.ensures) (took_none adds known)

pub returns-in-Err-ending-clause-turns : goal.returns-in-Err-ending-clause-turns
returns-in-Err-ending-clause-turns g c = λ first adds why before known h.
    let s = stage_of c.args.progress.now in
    let at = c.args.at in
    let b = c.args.window.now.bytes in
    let f = c.in-Ok-eq0.ensures.ok in
    let z : c.in-Ok-eq0.field-0 ≡ 0 = search rules in
    let n = none_read c.in-Ok-eq0.field-0 z f in
    let all : take (limit - at) b ≡ b = take_all (limit - at) b (omega (arith, ap length c.held.ensures.bytes)) in
    let near : at + length b ≤ limit = omega (arith, ap length c.held.ensures.bytes) in
    let same : c.held-in-Ok-eq0.result.now ≡ b = c.held-in-Ok-eq0.ensures.bytes ∙ n.0 in
    end_refused adds before known known why s at b first (g.S.Source.end c.args.source.now).bytes (g.S.Source.end c.fill.new.source).bytes c.in-Err-ending.fault h c.requires.room (subst (λ y. next s at y ≡ short) all c.requires.short) near n.1 (f.ended z)
    (subst (λ y. ending false s at y ≡ Some c.in-Err-ending.fault) same c.in-Err-ending.ensures) (took_none adds known)
