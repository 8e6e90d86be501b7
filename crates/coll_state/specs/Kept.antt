-- How a document is kept: as its spelling exactly where that has at most 16,777,216 bytes and the document at most 100 levels.
use Rattle.std.specs.Prelude.{◌≡◌, ℕ, List, Bool, true, false, ◌&&◌, nat_le, length, if◌then◌else◌}
use Rattle.bson_value.specs.declared.value.Value.{Value}
use Rattle.bson_value.specs.Levels.{levels_of}
use Rattle.bson_value.specs.Spelling.{document_text}
use Rattle.bson_view.specs.Kept.{kept_bytes, kept_document}
use Rattle.bson_view.specs.Held.{held_document}
use Rattle.bson_view.specs.Views.{view_bytes}
use Rattle.bson_view.specs.declared.held.Held.{Held}
use Rattle.bson_view.specs.declared.held.Held.TheVariants as held
use Rattle.coll_state.specs.declared.kept.Form.{Form}
use Rattle.coll_state.specs.declared.kept.Form.TheVariants as forms

abbrev pub is_short : List (List ℕ × Value) → Bool
is_short d = nat_le (length (document_text d)) 16777216 && nat_le (levels_of d) 100

-- what a look at a document shows: bytes, or the document itself
pub data Look : Type 0 where
  bytes : List ℕ → Look
  fields : List (List ℕ × Value) → Look

abbrev pub look : List (List ℕ × Value) → Look
look d = if is_short d then bytes (document_text d) else fields d

abbrev pub look_of : Held → Look
look_of (held.Spelled v) = bytes (view_bytes v)
look_of (held.Built d) = fields d.now

-- a document, and how a look shows it
abbrev pub shown : List (List ℕ × Value) → List (List ℕ × Value) × Look
shown d = (d, look d)

abbrev pub shown_in : Held → List (List ℕ × Value) × Look
shown_in h = (held_document h, look_of h)

abbrev pub document_kept : Form → List (List ℕ × Value)
document_kept (forms.Spelled d) = kept_document d
document_kept (forms.Built d) = d

abbrev pub IsKept : Form → Type 0
IsKept (forms.Spelled d) = (kept_bytes d ≡ document_text (kept_document d)) × (is_short (kept_document d) ≡ true)
IsKept (forms.Built d) = is_short d ≡ false
