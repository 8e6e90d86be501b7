-- A part of a buffer.
use Rattle.std.proofs.Common.{◌≡◌, ℕ, ◌+◌, ◌-◌, ◌<◌, ◌≤◌, List, ◌++◌, length, take, drop, refl, sym, ap, ◌∙◌, arith, Result, Ok, Err}
use Rattle.std.proofs.lemmas.List.{drop-append-le, drop-drop, drop-take, length-take, length-take-le, take-take}
use Rattle.std.proofs.Math.Seq.{take-append-add}
use Rattle.std.proofs.lemmas.Slice.{take-put_mid}
use borrow.Rule.Slice.PartMut.{put_mid}
use Rattle.std.specs.Prelude.{Option, IfOk}
use Rattle.std.specs.Io.KnownBytes.{ReadConsumes}
use Rattle.demux.specs.Held.{Fills}

pub skip_held : (b : List ℕ) (s e n : ℕ) → n ≤ length (take (e - s) (drop s b)) → take (e - (s + n)) (drop (s + n) b) ≡ drop n (take (e - s) (drop s b))
skip_held b s e n le =
    let k : e - s ≡ n + (e - (s + n)) = omega (arith, le, length-take (e - s) (drop s b)) in
    sym (ap (λ j. drop n (take j (drop s b))) k ∙ drop-take n (e - (s + n)) (drop s b) ∙ ap (take (e - (s + n))) (drop-drop n s b))

read_behind_is : (xs ys : List ℕ) (end k n : ℕ) → end ≤ length xs → n ≤ length ys → take (end + n) (put_mid end k xs ys) ≡ take end xs ++ take n ys
read_behind_is xs ys end k n inside fits =
    let front = length-take-le end xs inside in
    let whole : take (end + length ys) (put_mid end k xs ys) ≡ take end xs ++ ys = take-put_mid end k xs ys (end + length ys) refl inside in
    sym (take-take (end + n) (end + length ys) (put_mid end k xs ys) (omega arith)) ∙ ap (take (end + n)) whole
    ∙ ap (λ j. take (j + n) (take end xs ++ ys)) (sym front) ∙ take-append-add (take end xs) ys n

-- what a read into a buffer did, behind its first bytes
pub read_fills : {E : Type 0} (r : Result ℕ E) (xs ys : List ℕ) (end k : ℕ) (left now : Option (List ℕ)) → end < length xs → 0 < length ys → IfOk r (λ n. n ≤ length ys) → ReadConsumes left now r ys
    → IfOk r (λ n. Fills (take end xs) (take (end + n) (put_mid end k xs ys)) n left now)
read_fills (Err e) xs ys end k left now inside some fits reads = tt
read_fills (Ok n) xs ys end k left now inside some fits reads = record {
  bytes = take n ys;
  held = read_behind_is xs ys end k n (omega arith) fits;
  count = length-take-le n ys fits;
  taken = reads.0;
  ended = λ z. reads.1 z some;
}

-- the same without what stands before a place
pub fills_from : (b e n : ℕ) (xs ys : List ℕ) (left now : Option (List ℕ)) → b ≤ e → e ≤ length xs → Fills (take e xs) (take (e + n) ys) n left now → Fills (take (e - b) (drop b xs)) (take (e + n - b) (drop b ys)) n left now
fills_from b e n xs ys left now le within f =
    let k : e + n ≡ b + (e + n - b) = omega arith in
    let j : e ≡ b + (e - b) = omega arith in
    let front : drop b (take e xs) ≡ take (e - b) (drop b xs) = ap (λ m. drop b (take m xs)) j ∙ drop-take b (e - b) xs in
    let all : drop b (take (e + n) ys) ≡ take (e + n - b) (drop b ys) = ap (λ m. drop b (take m ys)) k ∙ drop-take b (e + n - b) ys in
    record {
      bytes = f.bytes;
      held = sym all ∙ ap (drop b) f.held ∙ drop-append-le b (take e xs) f.bytes (omega (arith, length-take-le e xs within)) ∙ ap (λ z. z ++ f.bytes) front;
      count = f.count;
      taken = f.taken;
      ended = f.ended;
    }
