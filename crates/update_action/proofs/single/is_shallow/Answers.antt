use Rattle.std.proofs.Common.{◌≡◌, ap, ◌∙◌, arith}
use Rattle.bson_value.specs.declared.value.Value.{Value}
use Rattle.bson_value.specs.Levels.{levels_in, levels_of}
use Rattle.bson_value.proofs.Sizes.{levels-object}
use Rattle.update_action.proofs.single.is_shallow.Goals as goal

pub returns-in-Object : goal.returns-in-Object
returns-in-Object c = λ t. (
  c.is_well_formed.ensures,
  (let levels : levels_in c.args.value.now ≡ levels_of c.in-Object.doc = ap (λ (v : Value). levels_in v) c.in-Object.is ∙ levels-object c.in-Object.doc in
      omega (arith, levels, (c.fits.ensures.0 t).1)),
)
