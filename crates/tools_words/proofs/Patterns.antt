-- The patterns of options.
use Rattle.std.proofs.Common.{◌≡◌, Bool, true, false, cond, List, [], ◌∷◌, ◌++◌, length, refl, sym, ap, ◌∙◌, append_assoc, append-nil, Option, Some, None, option_to_list}
use Rattle.std.specs.Prelude.{nat_eq}
use Rattle.std.specs.List.{zip}
use Rattle.std.specs.Cmp.{unsigned_Decides}
use Rattle.std.proofs.lemmas.Bool.{and_parts}
use Rattle.ns_patterns.specs.Literals.{Literals}
use Rattle.restore_filter.specs.Rules.{HaveSameStars}
use Rattle.tools_words.specs.declared.filter.Patterns.{Patterns}
use Rattle.tools_words.specs.declared.table.OptionName.{OptionName}
use Rattle.tools_words.specs.declared.table.OptionName.TheVariants as names
use Rattle.tools_words.specs.declared.table.Rule.TheVariants as must
use Rattle.tools_words.specs.declared.table.Verb.TheVariants as verbs
use Rattle.tools_words.specs.declared.words.Given.{Given}
use Rattle.tools_words.specs.Values.{pattern_in}
use Rattle.tools_words.specs.Words.{same_option, pattern_given, patterns, same_stars, holds, hold}
use Rattle.tools_words.specs.Patterns.{patterns_of, with_given}

-- ---- one option more

patterns-push : (o : OptionName) (gs : List Given) (g : Given) → patterns o gs ++ pattern_given o g ≡ patterns o (gs ++ (g ∷ []))
patterns-push o [] g = sym (append-nil (pattern_given o g))
patterns-push o (x ∷ gs) g = append_assoc (pattern_given o x) (patterns o gs) (pattern_given o g) ∙ ap (λ (l : List Literals). pattern_given o x ++ l) (patterns-push o gs g)

pub with_more : (gs : List Given) (g : Given) → with_given (patterns_of gs) g ≡ patterns_of (gs ++ (g ∷ []))
with_more gs g = λ i. record {
  include = patterns-push names.NsInclude gs g i;
  exclude = patterns-push names.NsExclude gs g i;
  from = patterns-push names.NsFrom gs g i;
  to = patterns-push names.NsTo gs g i;
}

-- an option without a pattern
none_given : (o : OptionName) (g : Given) → pattern_in g.value ≡ None → pattern_given o g ≡ []
none_given o g e = by (same_option g.row.option o) (pattern_in g.value) e
  where
    by : (b : Bool) (p : Option Literals) → p ≡ None → cond b (option_to_list p) [] ≡ []
    by true p e = ap option_to_list e
    by false p e = refl

pub without_pattern : (p : Patterns) (g : Given) → pattern_in g.value ≡ None → p ≡ with_given p g
without_pattern p g e = λ i. record {
  include = (sym (append-nil p.include) ∙ ap (λ (l : List Literals). p.include ++ l) (sym (none_given names.NsInclude g e))) i;
  exclude = (sym (append-nil p.exclude) ∙ ap (λ (l : List Literals). p.exclude ++ l) (sym (none_given names.NsExclude g e))) i;
  from = (sym (append-nil p.from) ∙ ap (λ (l : List Literals). p.from ++ l) (sym (none_given names.NsFrom g e))) i;
  to = (sym (append-nil p.to) ∙ ap (λ (l : List Literals). p.to ++ l) (sym (none_given names.NsTo g e))) i;
}

-- one with a pattern, by the option
abbrev pub of_option : OptionName → OptionName → Literals → List Literals
of_option o n l = cond (same_option o n) (l ∷ []) []

given_is : (o n : OptionName) (g : Given) (l : Literals) → g.row.option ≡ o → pattern_in g.value ≡ Some l → pattern_given n g ≡ of_option o n l
given_is o n g l e is = ap (λ x. cond (same_option x n) (option_to_list (pattern_in g.value)) []) e ∙ ap (λ x. cond (same_option o n) (option_to_list x) []) is

abbrev pub with_pattern : OptionName → Literals → Patterns → Patterns
with_pattern o l p = record {
  include = p.include ++ of_option o names.NsInclude l;
  exclude = p.exclude ++ of_option o names.NsExclude l;
  from = p.from ++ of_option o names.NsFrom l;
  to = p.to ++ of_option o names.NsTo l;
}

pub with_pattern_is : (p : Patterns) (g : Given) (o : OptionName) (l : Literals) → g.row.option ≡ o → pattern_in g.value ≡ Some l → with_pattern o l p ≡ with_given p g
with_pattern_is p g o l e is = λ i. record {
  include = p.include ++ sym (given_is o names.NsInclude g l e is) i;
  exclude = p.exclude ++ sym (given_is o names.NsExclude g l e is) i;
  from = p.from ++ sym (given_is o names.NsFrom g l e is) i;
  to = p.to ++ sym (given_is o names.NsTo g l e is) i;
}

same_pattern : (p : Patterns) → p ≡ record { include = p.include ++ []; exclude = p.exclude ++ []; from = p.from ++ []; to = p.to ++ [] }
same_pattern p = λ i. record {
  include = sym (append-nil p.include) i;
  exclude = sym (append-nil p.exclude) i;
  from = sym (append-nil p.from) i;
  to = sym (append-nil p.to) i;
}

-- ---- pairs

pub held_stars : (ps : List (Literals × Literals)) → same_stars ps ≡ true → HaveSameStars ps
held_stars [] e = tt
held_stars (p ∷ ps) e =
    let k = and_parts (nat_eq (length p.0.behind) (length p.1.behind)) (same_stars ps) e in
    ((unsigned_Decides (length p.0.behind) (length p.1.behind)).0 k.0, held_stars ps k.1)

-- the last of the rules of a restore
pub rules_hold : (gs : List Given) → hold verbs.Restore gs ≡ true → same_stars (zip (patterns names.NsFrom gs) (patterns names.NsTo gs)) ≡ true
rules_hold gs e =
    let a = (and_parts (holds (must.Needed names.Archive) gs) _ e).1 in
    let b = (and_parts (holds (must.Needs names.OplogLimit names.OplogReplay) gs) _ a).1 in
    let c = (and_parts (holds (must.Excludes names.NsFrom names.OplogReplay) gs) _ b).1 in
    let d = (and_parts (holds (must.Excludes names.NsTo names.OplogReplay) gs) _ c).1 in
    let f = (and_parts (holds (must.Equal names.NsFrom names.NsTo) gs) _ d).1 in
    (and_parts (holds (must.SameStars names.NsFrom names.NsTo) gs) true f).0
