-- A line that was told, or some front of it.
use Rattle.std.proofs.Common.{ℕ, ◌≡◌, List, inl, inr, sym, subst, ◌∙◌}
use Rattle.std.specs.Prelude.{Option, None, Some, ◌⊎◌, length}
use Rattle.std.specs.Io.KnownBytes.{Keeps, Appends}
use Rattle.std.proofs.Math.Seq.{take-length}
use Rattle.std.proofs.lemmas.List.{append-nil}
use Rattle.tool_io.specs.Causes.{AppendsFront}
use Rattle.tools_commands.specs.declared.status.Status.{Status}
use Rattle.tools_commands.specs.declared.status.Status.TheVariants as is
use Rattle.tools_commands.specs.Telling.{RunsOut}
use Rattle.tools_commands.specs.Lines.{line_of, no_memory_line}
use Rattle.tools_commands.specs.Ends.{Turn, Writes, WritesFront, Tells}

-- a whole piece is a front of it
pub whole_front : (t : Turn) (line : List ℕ) → Writes t line → WritesFront t line
whole_front t line w = let P : List ℕ → Type 0 = λ l. Appends t.before.bytes t.after.bytes l in (length line, subst P (sym (take-length line)) w)

pub told_front : (t : Turn) (line : List ℕ) → Tells t line → WritesFront t line
told_front t line (inl w) = whole_front t line w
told_front t line (inr w) = w.0

-- and so is nothing
pub keeps_front : (before after : Option (List ℕ)) (xs : List ℕ) → Keeps before after → AppendsFront before after xs
keeps_front None after xs k = (0, tt)
keeps_front (Some b) None xs k = absurd k
keeps_front (Some b) (Some a) xs k = (0, k ∙ sym (append-nil b))

-- where there was no memory for a line, the one that says so was told
pub no_line : (status final : Status) (t : Turn) → ((final ≡ is.NoMemory) × Tells t no_memory_line) ⊎ ((final ≡ is.NoMemory) × RunsOut is.NoMemory t)
    → ((final ≡ status) × Tells t (line_of status)) ⊎ ((final ≡ is.NoMemory) × RunsOut status t)
no_line status final t (inl told) = inr (told.0, inr (told_front t no_memory_line told.1))
no_line status final t (inr (e, inl front)) = inr (e, inr front)
no_line status final t (inr (e, inr front)) = inr (e, inr front)
