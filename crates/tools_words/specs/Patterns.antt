-- The patterns of options, and where the next one stands.
use Rattle.std.specs.Prelude.{◌≡◌, ◌<◌, ℕ, List, [], ◌∷◌, ◌++◌, length, Option, Some, None}
use Rattle.std.specs.Borrow.{Bor}
use Rattle.ns_patterns.specs.Literals.{Literals}
use Rattle.tools_words.specs.declared.filter.Patterns.{Patterns}
use Rattle.tools_words.specs.declared.table.OptionName.{OptionName}
use Rattle.tools_words.specs.declared.table.OptionName.TheVariants as names
use Rattle.tools_words.specs.declared.words.Given.{Given}
use Rattle.tools_words.specs.Words.{pattern_given, patterns}

abbrev pub patterns_of : List Given → Patterns
patterns_of given = record {
  include = patterns names.NsInclude given;
  exclude = patterns names.NsExclude given;
  from = patterns names.NsFrom given;
  to = patterns names.NsTo given;
}

abbrev pub with_given : Patterns → Given → Patterns
with_given p g = record {
  include = p.include ++ pattern_given names.NsInclude g;
  exclude = p.exclude ++ pattern_given names.NsExclude g;
  from = p.from ++ pattern_given names.NsFrom g;
  to = p.to ++ pattern_given names.NsTo g;
}

-- the stars of the first pattern of an option, and the options behind it
abbrev pub StarsAt : OptionName → List Given → Option (ℕ × Bor (List Given)) → Type 0
StarsAt o given None = patterns o given ≡ []
StarsAt o given (Some x) = (p : Literals) × (patterns o given ≡ p ∷ patterns o x.1.now) × (x.0 ≡ length p.behind) × (length x.1.now < length given)
