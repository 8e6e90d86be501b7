use Rattle.std.proofs.Common.{◌≡◌, sym, ap, subst, ◌∙◌, List, ℕ, Option, Some}
use Rattle.std.specs.Prelude.{option_map}
use Rattle.bson_value.specs.declared.value.Value.{Value}
use Rattle.bson_view.specs.Views.{document, elem_value}
use Rattle.containers.specs.Entries.{lookup}
use Rattle.replay.specs.Splicing.{IsPlayedAlone}
use Rattle.replay.proofs.FieldAlone.{alone_played}
use Rattle.replay.proofs.splicing.play_field.Goals as goal

pub returns-in-Some-2-clause-played : goal.returns-in-Some-2-clause-played
returns-in-Some-2-clause-played c =
    let k = c.args.name.now in
    let d = document c.args.view.now in
    let x = c.in_ok-value.value in
    let has : lookup k d ≡ Some x =
    ap (λ (n : List ℕ). lookup n d) (sym c.as_str.ensures.text) ∙ (sym c.field.ensures.value ∙ (ap (option_map elem_value) c.in-Some.is ∙ ap (λ (v : Value). Some v) (sym c.in_ok-value.ensures))) in
    let alone = subst (λ (o : Option Value). IsPlayedAlone c.args.form c.args.touches.now k x o) c.in-Some-2.is c.in_ok-value-2.ensures in
    alone_played k c.args.form c.args.touches.now d x c.in-Some-2.value c.with_field.result c.requires.within has alone c.with_field.ensures.document

pub returns-in-Some-2-clause-spelling : goal.returns-in-Some-2-clause-spelling
returns-in-Some-2-clause-spelling c = c.with_field.ensures.spelling c.requires.text
