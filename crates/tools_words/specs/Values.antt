-- What stands in an option's word behind its name, by the kind of value that the option takes.
use Rattle.std.specs.Prelude.{ℕ, ◌^◌, ◌==◌, ◌&&◌, Bool, true, false, List, [], ◌∷◌, length, nat_lt, nat_le, Option, Some, None, option_map, option_and_then, codes, if◌then◌else◌}
use Rattle.std.specs.List.{before_first, after_first, position_or_len}
use Rattle.std.specs.Str.{bytes_eq}
use Rattle.std.specs.Str.Parse.{digits_value}
use Rattle.std.specs.Fmt.{decimal}
use Rattle.bson_value.specs.declared.value.Ts.{Ts}
use Rattle.document_lines.specs.declared.form.ListForm.{ListForm}
use Rattle.document_lines.specs.declared.form.ListForm.TheVariants as forms
use Rattle.ns_patterns.specs.Literals.{Literals, literals_of}
use Rattle.tools_words.specs.declared.value.Kind.{Kind}
use Rattle.tools_words.specs.declared.value.Kind.TheVariants as kinds
use Rattle.tools_words.specs.declared.value.Value.{Value}
use Rattle.tools_words.specs.declared.value.Value.TheVariants as values

-- what stands in a table beside this word
abbrev pub row_of : {A : Type 0} → List (List ℕ × A) → List ℕ → Option A
row_of [] w = None
row_of (r ∷ rs) w = if bytes_eq w r.0 then Some r.1 else row_of rs w

abbrev pub nothing_of : List ℕ → Option (Unit {0})
nothing_of text = row_of (([], tt) ∷ []) text

-- a number in decimal digits, without a sign or a leading zero, of 32 bits
abbrev pub number_of : List ℕ → Option ℕ
number_of text = if bytes_eq text (decimal (digits_value 10 text)) && nat_lt (digits_value 10 text) (2 ^ 32) then Some (digits_value 10 text) else None

-- a number of rounds that a drill can have
abbrev pub within : ℕ → Option ℕ
within n = if nat_le 1 n && nat_le n 100000 then Some n else None

abbrev pub rounds_of : List ℕ → Option ℕ
rounds_of text = option_and_then within (number_of text)

abbrev pub is_colon : ℕ → Bool
is_colon b = b == 58

abbrev pub moment : Option ℕ → Option ℕ → Option Ts
moment None inc = None
moment (Some s) None = None
moment (Some s) (Some i) = Some (record { secs = s; inc = i })

-- seconds, and behind a colon an ordinal; an ordinal that is missing is 0
abbrev pub moment_of : List ℕ → Option Ts
moment_of text =
    if nat_lt (position_or_len is_colon text) (length text) then moment (number_of (before_first is_colon text)) (number_of (after_first is_colon text))
    else moment (number_of text) (Some 0)

abbrev pub form_of : List ℕ → Option ListForm
form_of text = row_of ((codes "hex", forms.Hex) ∷ (codes "json", forms.Json) ∷ []) text

-- a text that doesn't end with a backslash of its own
abbrev pub pattern_of : List ℕ → Option Literals
pattern_of text = literals_of text

-- the value of this kind that a text is
abbrev pub value_of : Kind → List ℕ → Option Value
value_of kinds.Nothing text = option_map (λ u. values.Nothing) (nothing_of text)
value_of kinds.Rounds text = option_map values.Rounds (rounds_of text)
value_of kinds.Moment text = option_map values.Moment (moment_of text)
value_of kinds.Form text = option_map values.Form (form_of text)
value_of kinds.Pattern text = option_map values.Pattern (pattern_of text)

abbrev pub is_hex : Value → Bool
is_hex (values.Form forms.Hex) = true
is_hex _ = false

abbrev pub moment_in : Value → Option Ts
moment_in (values.Moment ts) = Some ts
moment_in _ = None

abbrev pub rounds_in : Value → Option ℕ
rounds_in (values.Rounds n) = within n
rounds_in _ = None

abbrev pub pattern_in : Value → Option Literals
pattern_in (values.Pattern p) = Some p
pattern_in _ = None
