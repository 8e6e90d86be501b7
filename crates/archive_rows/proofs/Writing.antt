-- What is written in two pieces.
use Rattle.std.proofs.Common.{◌≡◌, ◌∙◌, ℕ, List, [], ◌++◌, ap, inl, inr, take}
use Rattle.std.specs.Prelude.{Some, Result, Ok, Err, OnOk, OnErr, codes}
use Rattle.std.specs.Io.KnownBytes.{Appends}
use Rattle.tool_io.specs.Causes.{AppendsFront}
use Rattle.tool_io.specs.declared.ends.Fault.{Fault}
use Rattle.tool_io.proofs.Writes.{appends_two, front_first, front_next}
use Rattle.hex.specs.Hex.{encode_lower}
use Rattle.archive_rows.specs.Rows.{TellsWritten, Writes, written_text}

abbrev Written : Type 0
Written = Result (Unit {0}) Fault

-- a front of the first of two pieces
pub first_piece : (f : Fault) (old new first second : List ℕ) → AppendsFront (Some old) (Some new) first → Writes (Err f) old new (first ++ second)
first_piece f old new first second front = front_first (Some old) (Some new) first second front

pub two_pieces : (r : Written) (old mid new first second : List ℕ) → Appends (Some old) (Some mid) first
    → OnOk r (Appends (Some mid) (Some new) second) → OnErr r (AppendsFront (Some mid) (Some new) second) → Writes r old new (first ++ second)
two_pieces (Ok u) old mid new first second done whole front = appends_two (Some old) (Some mid) (Some new) first second done whole
two_pieces (Err f) old mid new first second done whole front = front_next (Some old) (Some mid) (Some new) first second done front

-- what is told of a sink that was empty
pub told : (r : Written) (old new all answer : List ℕ) → old ≡ [] → Writes r old new all → answer ≡ written_text r new → TellsWritten all answer
told (Ok u) old new all answer empty writes is = inl (is ∙ ap encode_lower (writes ∙ ap (λ front. front ++ all) empty))
told (Err f) old new all answer empty writes is =
    inr (writes.0, is ∙ ap (λ bytes. codes "fault behind " ++ encode_lower bytes) (writes.1 ∙ ap (λ front. front ++ take writes.0 all) empty))
