-- Pieces that were written one after the other.
use Rattle.std.proofs.Common.{ℕ, ◌+◌, List, [], ◌++◌}
use Rattle.std.specs.Prelude.{Option, Result, Ok, Err, OnOk, OnErr}
use Rattle.std.specs.Io.KnownBytes.{Appends}
use Rattle.std.proofs.KnownBytes.{Appends-trans, Appends-nil}
use Rattle.tool_io.specs.Causes.{AppendsFront}
use Rattle.tool_io.proofs.Writes.{front_next, front_first}

-- what is still to write of a whole text, of which the rest was written
pub record Left (before now : Option (List ℕ)) (text rest : List ℕ) : Type 0 where
  pub whole : (after : Option (List ℕ)) → Appends now after rest → Appends before after text
  pub front : (after : Option (List ℕ)) → AppendsFront now after rest → AppendsFront before after text

pub left_all : (now : Option (List ℕ)) (text : List ℕ) → Left now now text text
left_all now text = record { whole = λ after w. w; front = λ after w. w }

pub left_on : (before now next : Option (List ℕ)) (text piece rest : List ℕ) → Left before now text (piece ++ rest) → Appends now next piece → Left before next text rest
left_on before now next text piece rest h w =
    record { whole = λ after v. h.whole after (Appends-trans now next after piece rest w v); front = λ after v. h.front after (front_next now next after piece rest w v) }

pub left_none : (before now : Option (List ℕ)) (text : List ℕ) → Left before now text [] → Appends before now text
left_none before now text h = h.whole now (Appends-nil now)

pub left_stop : (before now after : Option (List ℕ)) (text piece rest : List ℕ) → Left before now text (piece ++ rest) → AppendsFront now after piece → AppendsFront before after text
left_stop before now after text piece rest h w = h.front after (front_first now after piece rest w)

pub on_ok : {A B P Q : Type 0} (r : Result A B) → (P → Q) → OnOk r P → OnOk r Q
on_ok (Ok a) f p = f p
on_ok (Err e) f p = tt

pub on_err : {A B P Q : Type 0} (r : Result A B) → (P → Q) → OnErr r P → OnErr r Q
on_err (Ok a) f p = tt
on_err (Err e) f p = f p
