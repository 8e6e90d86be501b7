-- What the words of the command line mean: a command with its order, or the place of the first word that can't stand where it
-- stands, counted from 0. Where a rule of the command isn't met, that place is the number of words.
use Rattle.std.specs.Prelude.{◌≡◌, ℕ, ◌+◌, Bool, true, false, not, ◌||◌, ◌&&◌, nat_eq, List, [], ◌∷◌, ◌++◌, take, drop, length, map, fold, filter, Option, Some, None, option_map, option_and_then, Result, Ok, Err, String, string_bytes, codes, if◌then◌else◌}
use Rattle.std.specs.List.{list_any, list_all, flat_map, zip}
use Rattle.std.specs.Option.{option_to_list, option_or}
use Rattle.std.specs.Str.{bytes_eq}
use Rattle.std.specs.declared.alloc.Global.{Global}
use Rattle.document_lines.specs.declared.form.ListForm.{ListForm}
use Rattle.document_lines.specs.declared.form.ListForm.TheVariants as forms
use Rattle.tools_words.specs.declared.order.Order.{Order}
use Rattle.tools_words.specs.declared.order.Order.TheVariants as orders
use Rattle.tools_words.specs.declared.table.Verb.{Verb}
use Rattle.tools_words.specs.declared.table.Verb.TheVariants as verbs
use Rattle.tools_words.specs.declared.table.OptionName.{OptionName}
use Rattle.tools_words.specs.declared.table.OptionName.TheVariants as names
use Rattle.tools_words.specs.declared.value.Kind.{Kind}
use Rattle.tools_words.specs.declared.value.Kind.TheVariants as kinds
use Rattle.tools_words.specs.declared.value.Value.{Value}
use Rattle.tools_words.specs.Values.{row_of, value_of, is_hex, moment_in, rounds_in, pattern_in}
use Rattle.bson_value.specs.declared.value.Ts.{Ts}
use Rattle.ns_patterns.specs.Literals.{Literals}
use Rattle.restore_filter.specs.Rules.{Rules}
use Rattle.restore_plan.specs.declared.plan.Plan.{Plan}
use Rattle.tools_words.specs.declared.table.Times.{Times}
use Rattle.tools_words.specs.declared.table.Times.TheVariants as times
use Rattle.tools_words.specs.declared.table.OptionRow.{OptionRow}
use Rattle.tools_words.specs.declared.table.Rule.{Rule}
use Rattle.tools_words.specs.declared.table.Rule.TheVariants as must
use Rattle.tools_words.specs.declared.words.Given.{Given}
use Rattle.tools_words.specs.declared.words.WordsFault.{WordsFault}
use Rattle.tools_words.specs.declared.words.WordsFault.TheVariants as faults

abbrev pub Meaning : Type 0
Meaning = Result Order ℕ

-- The table.

-- the first word of each command
abbrev pub commands : List (List ℕ × Verb)
commands = (codes "source", verbs.Source) ∷ (codes "dump", verbs.Dump) ∷ (codes "restore", verbs.Restore) ∷ (codes "drill", verbs.Drill) ∷ (codes "--help", verbs.Help) ∷ (codes "--version", verbs.Version) ∷ []

-- an option's word is its name and directly behind it a value; a number of rounds stands without a name
abbrev pub name_of : OptionName → List ℕ
name_of names.Archive = codes "--archive"
name_of names.Oplog = codes "--oplog"
name_of names.OplogReplay = codes "--oplogReplay"
name_of names.OplogLimit = codes "--oplogLimit="
name_of names.NsInclude = codes "--nsInclude="
name_of names.NsExclude = codes "--nsExclude="
name_of names.NsFrom = codes "--nsFrom="
name_of names.NsTo = codes "--nsTo="
name_of names.Form = codes "--form="
name_of names.Rounds = []

abbrev pub row : OptionName → Kind → Times → OptionRow
row o k t = record { option = o; kind = k; times = t }

-- the options that may stand behind a command, in any order
abbrev pub options : Verb → List OptionRow
options verbs.Source = row names.OplogLimit kinds.Moment times.Once ∷ row names.Form kinds.Form times.Once ∷ []
options verbs.Dump = row names.Archive kinds.Nothing times.Once ∷ row names.Oplog kinds.Nothing times.Once ∷ []
options verbs.Restore =
    row names.Archive kinds.Nothing times.Once
    ∷ row names.OplogReplay kinds.Nothing times.Once
    ∷ row names.OplogLimit kinds.Moment times.Once
    ∷ row names.NsInclude kinds.Pattern times.Any
    ∷ row names.NsExclude kinds.Pattern times.Any
    ∷ row names.NsFrom kinds.Pattern times.Any
    ∷ row names.NsTo kinds.Pattern times.Any
    ∷ row names.Form kinds.Form times.Once
    ∷ []
options verbs.Drill = row names.Rounds kinds.Rounds times.Once ∷ []
options verbs.Help = []
options verbs.Version = []

-- and what must hold of those that stand
abbrev pub rules : Verb → List Rule
rules verbs.Source = []
rules verbs.Dump = must.Needed names.Archive ∷ must.Needed names.Oplog ∷ []
rules verbs.Restore =
    must.Needed names.Archive
    ∷ must.Needs names.OplogLimit names.OplogReplay
    ∷ must.Excludes names.NsFrom names.OplogReplay
    ∷ must.Excludes names.NsTo names.OplogReplay
    ∷ must.Equal names.NsFrom names.NsTo
    ∷ must.SameStars names.NsFrom names.NsTo
    ∷ []
rules verbs.Drill = must.Needed names.Rounds ∷ []
rules verbs.Help = []
rules verbs.Version = []

-- One word.

-- what stands behind a name in a word that begins with it
abbrev pub behind : List ℕ → List ℕ → Option (List ℕ)
behind name w = if bytes_eq (take (length name) w) name then Some (drop (length name) w) else None

abbrev pub given : OptionRow → Value → Given
given r v = record { row = r; value = v }

-- what a word is by this row
abbrev pub given_in : OptionRow → List ℕ → Option Given
given_in r w = option_map (given r) (option_and_then (value_of r.kind) (behind (name_of r.option) w))

abbrev pub or_else : Option Given → Option Given → Option Given
or_else None o = o
or_else (Some g) o = Some g

-- and by the first row that it fits
abbrev pub first_row : List OptionRow → List ℕ → Option Given
first_row [] w = None
first_row (r ∷ rs) w = or_else (given_in r w) (first_row rs w)

abbrev pub same_option : OptionName → OptionName → Bool
same_option a b = bytes_eq (name_of a) (name_of b)

-- how often an option stands
abbrev pub times_given : OptionName → List Given → ℕ
times_given o given = length (filter (λ g. same_option g.row.option o) given)

abbrev pub stands : OptionName → List Given → Bool
stands o given = not (nat_eq (times_given o given) 0)

abbrev pub may_repeat : Times → Bool
may_repeat times.Once = false
may_repeat times.Any = true

abbrev pub may_stand : Given → List Given → Bool
may_stand g given = may_repeat g.row.times || not (stands g.row.option given)

abbrev pub unless_spent : List Given → Option Given → Option Given
unless_spent given None = None
unless_spent given (Some g) = if may_stand g given then Some g else None

-- the option that a word is behind those that were given, if it can stand there
abbrev pub option_at : Verb → List Given → List ℕ → Option Given
option_at verb given w = unless_spent given (first_row (options verb) w)

-- What the options say.

-- the patterns of an option, in their order
abbrev pub pattern_given : OptionName → Given → List Literals
pattern_given o g = if same_option g.row.option o then option_to_list (pattern_in g.value) else []

abbrev pub patterns : OptionName → List Given → List Literals
patterns o given = flat_map (pattern_given o) given

-- the patterns of each pair have as many stars
abbrev pub same_stars : List (Literals × Literals) → Bool
same_stars [] = true
same_stars (p ∷ ps) = nat_eq (length p.0.behind) (length p.1.behind) && same_stars ps

-- which collections are taken, and how they are renamed
abbrev pub filter_of : List Given → Rules
filter_of given = record {
  include = patterns names.NsInclude given;
  exclude = patterns names.NsExclude given;
  renames = zip (patterns names.NsFrom given) (patterns names.NsTo given);
}

-- the limit, where one is given
abbrev pub limit_of : List Given → Option Ts
limit_of [] = None
limit_of (g ∷ gs) = option_or (moment_in g.value) (limit_of gs)

abbrev pub plan_of : List Given → Plan
plan_of given = record { filter = filter_of given; replaying = stands names.OplogReplay given; limit = limit_of given }

-- the form of the listing is JSON, where nothing else is said
abbrev pub form_of : List Given → ListForm
form_of given = if list_any (λ g. is_hex g.value) given then forms.Hex else forms.Json

-- the number of rounds of a drill: where the rules of its command are met, one is given
abbrev pub rounds_given : List Given → ℕ
rounds_given [] = 1
rounds_given (g ∷ gs) = elim (rounds_in g.value) [ Some n ↦ n | None ↦ rounds_given gs ]

abbrev pub order_of : Verb → List Given → Order
order_of verbs.Source given = orders.Source (record { limit = limit_of given; form = form_of given })
order_of verbs.Dump given = orders.Dump
order_of verbs.Restore given = orders.Restore (record { plan = plan_of given; form = form_of given })
order_of verbs.Drill given = orders.Drill (rounds_given given)
order_of verbs.Help given = orders.Help
order_of verbs.Version given = orders.Version

-- All words.

abbrev pub holds : Rule → List Given → Bool
holds (must.Needed a) given = stands a given
holds (must.Needs a b) given = not (stands a given) || stands b given
holds (must.Excludes a b) given = not (stands a given) || not (stands b given)
holds (must.Equal a b) given = nat_eq (times_given a given) (times_given b given)
holds (must.SameStars a b) given = same_stars (zip (patterns a given) (patterns b given))

abbrev pub hold : Verb → List Given → Bool
hold verb given = list_all (λ r. holds r given) (rules verb)

-- one option more, or the place of this word: before it stand the command and the options that were given
abbrev pub and_option : List Given → Option Given → Result (List Given) ℕ
and_option given None = Err (1 + length given)
and_option given (Some g) = Ok (given ++ g ∷ [])

abbrev pub step : Verb → Result (List Given) ℕ → List ℕ → Result (List Given) ℕ
step verb (Err at) w = Err at
step verb (Ok given) w = and_option given (option_at verb given w)

abbrev pub ordered : Verb → Result (List Given) ℕ → Meaning
ordered verb (Err at) = Err at
ordered verb (Ok given) = if hold verb given then Ok (order_of verb given) else Err (1 + length given)

-- what the words behind a command mean
abbrev pub meaning_behind : Verb → List (List ℕ) → Meaning
meaning_behind verb ws = ordered verb (fold (step verb) (Ok []) ws)

abbrev pub command_of : Option Verb → List (List ℕ) → Meaning
command_of None ws = Err 0
command_of (Some verb) ws = meaning_behind verb ws

-- what all words mean
abbrev pub meaning_of : List (List ℕ) → Meaning
meaning_of [] = Err 0
meaning_of (w ∷ ws) = command_of (row_of commands w) ws

abbrev pub texts_of : List (String Global) → List (List ℕ)
texts_of ws = map string_bytes ws

-- what was read is what the words mean, unless memory ran out
abbrev pub Means : Result Order WordsFault → Meaning → Type 0
Means (Ok o) meaning = meaning ≡ Ok o
Means (Err (faults.Usage at)) meaning = meaning ≡ Err at
Means (Err faults.NoMemory) meaning = Unit {0}
