use Rattle.std.proofs.Common.{◌≡◌, ◌-◌, length, true, Bool, List, ℕ, ap, subst, arith}
use Rattle.schedule_text.specs.Words.{lacks}
use Rattle.schedule_text.specs.Lines.{EndsAt}
use Rattle.schedule_input.specs.Inputs.{ReadsMore}
use Rattle.schedule_input.proofs.Pieces.{grown_more, grown_length, line_feed_found, line_is_last, no_feed_behind, searched_all, tail_is}
use Rattle.schedule_input.proofs.piece.read_line.Goals as goal

pub returns-in-Some-clause-line : goal.returns-in-Some-clause-line
returns-in-Some-clause-line g c =
    line_feed_found c.pieces.searched c.in-Some.count c.args.unread.now c.pieces.unread c.args.end (g.S.Source.end c.args.input.now).bytes (g.S.Source.end c.pieces.input).bytes c.pieces.invariant.read c.pieces.invariant.searched c.pieces.invariant.none
    (subst (λ (x : List ℕ). EndsAt c.in-Some.count x) (tail_is c.pieces.searched c.bytes.result.now c.pieces.unread c.bytes.ensures) c.in-Some.ensures)

pub returns-then-not-branch-clause-line : goal.returns-then-not-branch-clause-line
returns-then-not-branch-clause-line g c =
    let a = (g.S.Source.end c.args.input.now).bytes in
    let b = (g.S.Source.end c.pieces.input).bytes in
    let d = (g.S.Source.end c.read_more.new.input).bytes in
    let n = length c.bytes-searched.result.now in
    let none = no_feed_behind c.pieces.searched c.pieces.unread c.pieces.invariant.none (subst (λ (x : List ℕ). lacks 10 x ≡ true) (tail_is c.pieces.searched c.bytes.result.now c.pieces.unread c.bytes.ensures) c.in_default.ensures) in
    line_is_last n c.args.unread.now c.pieces.unread c.read_more.new.unread c.args.end a b d c.pieces.invariant.read none (ap length c.bytes-searched.ensures) c.pieces.invariant.within
    (subst (λ (x : Bool). ReadsMore (67108865 - c.args.end - n) c.pieces.unread c.read_more.new.unread x b d) c.if-not-branch.true c.in_ok-read_more.ensures.more)

pub pieces-preserved : goal.pieces-preserved
pieces-preserved g c =
    let a = (g.S.Source.end c.args.input.now).bytes in
    let b = (g.S.Source.end c.pieces.input).bytes in
    let d = (g.S.Source.end c.read_more.new.input).bytes in
    let n = length c.bytes-searched.result.now in
    let all : n ≡ length c.pieces.unread = ap length c.bytes-searched.ensures in
    let none = no_feed_behind c.pieces.searched c.pieces.unread c.pieces.invariant.none (subst (λ (x : List ℕ). lacks 10 x ≡ true) (tail_is c.pieces.searched c.bytes.result.now c.pieces.unread c.bytes.ensures) c.in_default.ensures) in
    let m = c.in_ok-read_more.ensures.more in
    let longer = grown_length c.pieces.unread c.read_more.new.unread b d m.read in
    record {
      read = grown_more c.args.unread.now c.pieces.unread c.read_more.new.unread a b d c.pieces.invariant.read m.read;
      searched = omega (arith, all, longer);
      none = searched_all n c.pieces.unread c.read_more.new.unread b d all none m.read;
      within = omega (arith, all, longer, m.few, c.pieces.invariant.within);
      piece = omega (arith, c.pieces.invariant.piece);
      later = omega (arith, c.pieces.invariant.later, c.read_more.ensures.later);
    }
