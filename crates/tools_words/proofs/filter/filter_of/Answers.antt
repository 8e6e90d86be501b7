use Rattle.std.proofs.Common.{◌≡◌, ◌∙◌, ap, sym, subst}
use Rattle.std.specs.List.{zip}
use Rattle.restore_filter.specs.Rules.{HaveSameStars}
use Rattle.tools_words.specs.declared.filter.Patterns.{Patterns}
use Rattle.tools_words.specs.declared.table.OptionName.TheVariants as names
use Rattle.tools_words.specs.Words.{patterns}
use Rattle.tools_words.proofs.Patterns.{held_stars}
use Rattle.tools_words.proofs.filter.filter_of.Goals as goal

pub new-requires : goal.new-requires
new-requires c =
    let from = patterns names.NsFrom c.args.given.items in
    let to = patterns names.NsTo c.args.given.items in
    let is : c.in_ok-renames.renames ≡ zip from to = c.in_ok-renames.ensures ∙ ap (λ (p : Patterns). zip p.from p.to) c.in_ok-include.ensures in
    subst HaveSameStars (sym is) (held_stars (zip from to) c.requires)
