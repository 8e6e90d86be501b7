-- The bytes of a string up to the first that doesn't stand for itself.
use Rattle.std.proofs.Common.{◌≡◌, ℕ, suc, ◌+◌, ◌<◌, ◌≤◌, true, false, List, ◌∷◌, length, drop, get_or, arith}
use Rattle.std.specs.List.{prefix_len}
use Rattle.std.proofs.Math.Seq.{drop-cons}
use Rattle.std.proofs.lemmas.List.{drop_all}
use Rattle.json_text.specs.Pieces.{is_plain}

abbrev plain_from : ℕ → List ℕ → ℕ
plain_from at bytes = prefix_len is_plain (drop at bytes)

here : (bytes : List ℕ) (at : ℕ) → at < length bytes → drop at bytes ≡ get_or bytes at 0 ∷ drop (at + 1) bytes
here bytes at lt = let s : suc at ≡ at + 1 = omega arith in rw (← s) (drop-cons bytes at 0 lt)

pub span_more : (bytes : List ℕ) (at : ℕ) → at < length bytes → is_plain (get_or bytes at 0) ≡ true → at + 1 + plain_from (at + 1) bytes ≡ at + plain_from at bytes
span_more bytes at lt h = rw (here bytes at lt, h) (omega arith)

pub span_stops : (bytes : List ℕ) (at : ℕ) → at < length bytes → is_plain (get_or bytes at 0) ≡ false → at + plain_from at bytes ≡ at
span_stops bytes at lt h = rw (here bytes at lt, h) (omega arith)

pub span_ends : (bytes : List ℕ) (at : ℕ) → length bytes ≤ at → at + plain_from at bytes ≡ at
span_ends bytes at le = rw (drop_all at bytes le) (omega arith)
