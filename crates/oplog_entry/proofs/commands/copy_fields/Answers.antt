use Rattle.std.proofs.Common.{List, ℕ, sym, ◌∙◌, subst}
use Rattle.std.proofs.lemmas.List.{take_all}
use Rattle.containers.specs.Entries.{AreDistinct, names_of}
use Rattle.bson_value.specs.declared.value.Value.{Value}
use Rattle.oplog_entry.proofs.commands.copy_fields.Goals as goal

pub of_distinct-requires : goal.of_distinct-requires
of_distinct-requires c =
    subst (λ (fs : List (List ℕ × Value)). AreDistinct (names_of fs)) (sym (c.loop-name.invariant ∙ take_all c.loop-name.name-index c.args.fields.now c.loop-name-test.false)) c.requires
