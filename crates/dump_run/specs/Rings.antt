-- What a ring has of a window.
use Rattle.std.specs.Prelude.{ℕ, ◌≡◌, List, [], ◌∷◌, map as each, take, length, nat_le, Option, Some, None, slice_get, if◌then◌else◌}
use Rattle.bson_value.specs.declared.value.Ts.{Ts}
use Rattle.capped_oplog.specs.Ring.{Entry}
use Rattle.archive_format.specs.Written.{Writing}
use Rattle.history_model.specs.Stages.{not_later}
use Rattle.dump_copies.specs.Writing.{read_text}

-- the first entries that aren't later than a moment
abbrev pub until : Ts → List Entry → List Entry
until b [] = []
until b (x ∷ xs) = if not_later x.0 b then x ∷ until b xs else []

abbrev pub bytes_of : List Entry → List (List ℕ)
bytes_of es = each (λ (e : Entry). e.1) es

-- the place of the entry at a moment
abbrev pub StandsAt : List Entry → Ts → Option ℕ → Type 0
StandsAt es ts None = (i : ℕ) (e : Entry) → slice_get es i ≡ Some e → e.0 ≡ ts → ⊥
StandsAt es ts (Some i) = (bytes : List ℕ) × (slice_get es i ≡ Some (ts, bytes))

-- what is written of the next n entries that aren't later than a moment
abbrev pub sent_text : Writing → Ts → ℕ → List Entry → List ℕ
sent_text w b n es = read_text w (bytes_of (take n (until b es))) (nat_le (length (until b es)) n)
