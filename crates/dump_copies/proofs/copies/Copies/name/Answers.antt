use Rattle.std.proofs.Common.{◌<◌, length, ap, sym, ◌∙◌, refl, Some, rules}
use Rattle.std.specs.Prelude.{option_map}
use Rattle.std.proofs.lemmas.Option.{slice_get_read, slice_get_past}
use Rattle.dump_copies.specs.Places.{name_of}
use Rattle.dump_copies.proofs.Stepped.{key_at}
use Rattle.dump_copies.proofs.copies.Copies.name.Goals as goal

pub returns-in_ok-name-clause-name : goal.returns-in_ok-name-clause-name
returns-in_ok-name-clause-name c =
    let cs = c.self.inside.items.items in
    let at = c.args.at in
    let x = c.index.result.now in
    let lt : at < length cs = search rules in
    ap Some (c.in_ok-name.ensures ∙ c.ns.ensures) ∙ (ap (option_map name_of) (sym (slice_get_read cs (length cs) at x refl lt c.index.ensures)) ∙ sym (key_at cs c.args.self.now at c.self.view_is c.self.invariant.rise))

pub returns-else-at-len-clause-name : goal.returns-else-at-len-clause-name
returns-else-at-len-clause-name c =
    let cs = c.self.inside.items.items in
    let at = c.args.at in
    ap (option_map name_of) (sym (slice_get_past cs at (search rules))) ∙ sym (key_at cs c.args.self.now at c.self.view_is c.self.invariant.rise)
