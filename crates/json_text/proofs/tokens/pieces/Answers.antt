use Rattle.std.proofs.Common.{sym, ◌∙◌, arith}
use Rattle.std.proofs.lemmas.Result.{err_from_is_err_and}
use Rattle.json_text.specs.Reading.{piece_at}
use Rattle.json_text.proofs.Loop.{goes_on, stops, ends}
use Rattle.json_text.proofs.Plain.{passed}
use Rattle.json_text.proofs.tokens.pieces.Goals as goal

pub returns-in_err-piece-clause-gives : goal.returns-in_err-piece-clause-gives
returns-in_err-piece-clause-gives c =
    let p = err_from_is_err_and c.from_residual-in_err-piece.result c.from_residual-in_err-piece.ensures.1 in
    let left = passed c.args.start c.args.end _ c.pieces.text.items c.pieces.rest.now _ _ _ _ c.plain_len.ensures.value c.split_at.ensures.front c.split_at.ensures.back c.in_ok-extend_from_slice.ensures.items c.pieces.invariant.left in
    rw (p.1, p.2) (stops (piece_at c.args.start c.args.end) c.args.end _ _ _ _ (c.in_err-piece.ensures.gives _) left)

pub returns-then-not-goes_on-clause-gives : goal.returns-then-not-goes_on-clause-gives
returns-then-not-goes_on-clause-gives c =
    let left = passed c.args.start c.args.end _ c.pieces.text.items c.pieces.rest.now _ _ _ _ c.plain_len.ensures.value c.split_at.ensures.front c.split_at.ensures.back c.in_ok-extend_from_slice.ensures.items c.pieces.invariant.left in
    rw c.in_ok-put.ensures (ends (piece_at c.args.start c.args.end) c.args.end _ _ _ _ _ _ (c.in_ok-piece.ensures.gives _) (sym c.goes_on.ensures ∙ c.if-not-goes_on.true) left)

pub pieces-preserved : goal.pieces-preserved
pieces-preserved c =
    let left = passed c.args.start c.args.end _ c.pieces.text.items c.pieces.rest.now _ _ _ _ c.plain_len.ensures.value c.split_at.ensures.front c.split_at.ensures.back c.in_ok-extend_from_slice.ensures.items c.pieces.invariant.left in
    record {
      left = rw c.in_ok-put.ensures (goes_on (piece_at c.args.start c.args.end) c.args.end _ _ _ _ _ _ (c.in_ok-piece.ensures.gives _) (sym c.goes_on.ensures ∙ c.if-not-goes_on.false) c.in_ok-piece.ensures.fits left);
      fits = omega (arith, c.pieces.invariant.fits, c.in_ok-piece.ensures.fits, c.split_at.ensures.back_len);
    }
