use Rattle.std.proofs.Common.{ap, ◌∙◌}
use Rattle.containers.specs.Entries.{lookup}
use Rattle.bson_view.specs.Paths.{part_named}
use Rattle.bson_view.proofs.Bodies.{named_value, value_of_part}
use Rattle.bson_view.proofs.view.View.field.Goals as goal

pub returns-clause-value : goal.returns-clause-value
returns-clause-value c =
    value_of_part c.named.result _ c.named.ensures.part ∙ named_value c.args.name.now _ ∙ ap (lookup c.args.name.now) c.elements.ensures.fields

pub returns-clause-place : goal.returns-clause-place
returns-clause-place c = c.named.ensures.part ∙ ap (part_named c.args.name.now) c.elements.ensures.parts
