use Rattle.std.proofs.Common.{rules, sym, ap, ◌∙◌}
use Rattle.std.specs.Prelude.{option_map}
use Rattle.std.proofs.lemmas.Fn.{always_returns_same}
use Rattle.index_build.specs.declared.entry.Entry.{Entry}
use Rattle.index_build.proofs.Owned.{at_entry, entries_ordered, get_owned, found_has_key}
use Rattle.index_build.proofs.entries.find.Goals as goal

pub returns-clause-keys : goal.returns-clause-keys
returns-clause-keys c =
    let k = c.args.key.now in
    let es = c.args.entries.now.items in
    let found = c.find.ensures (at_entry k) (always_returns_same _ _ _ (λ a r f called. (search rules, search rules))) (entries_ordered es k c.requires) in
    ap (option_map (λ (e : Entry). e.keys)) found ∙ sym (get_owned es k)

pub returns-clause-key : goal.returns-clause-key
returns-clause-key c =
    let k = c.args.key.now in
    let es = c.args.entries.now.items in
    let found = c.find.ensures (at_entry k) (always_returns_same _ _ _ (λ a r f called. (search rules, search rules))) (entries_ordered es k c.requires) in
    ap (option_map (λ (e : Entry). e.key)) found ∙ (found_has_key es k ∙ ap (option_map (λ (e : Entry). k)) (sym found))
