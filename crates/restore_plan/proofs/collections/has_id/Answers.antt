use Rattle.std.proofs.Common.{◌≡◌, ℕ, List, [], refl, sym, ap, ◌∙◌}
use Rattle.std.specs.Prelude.{codes, Option, is_some, option_map, Some, None}
use Rattle.std.specs.Result.{result_unwrap_or}
use Rattle.bson_value.specs.declared.value.Value.{Value}
use Rattle.containers.specs.Entries.{lookup}
use Rattle.bson_check.proofs.Whole.{spelled_is_read}
use Rattle.archive_format.specs.Archive.{fields_of}
use Rattle.bson_view.specs.Views.{document, elem_value}
use Rattle.restore_plan.specs.Base.{document_taken}
use Rattle.restore_plan.proofs.collections.has_id.Goals as goal

some_map : {A B : Type 0} (f : A → B) (o : Option A) → is_some (option_map f o) ≡ is_some o
some_map f None = refl
some_map f (Some x) = refl

pub returns : goal.returns
unfolding fields_of
returns c =
    let fs = document c.of.result in
    let read : document_taken c.args.bytes.now ≡ fs = ap (λ r. result_unwrap_or r []) (spelled_is_read 16793600 200 c.args.bytes.now fs c.of.ensures.document) in
    c.is_some.ensures ∙ (sym (some_map elem_value c.field.result) ∙ (ap is_some c.field.ensures.value ∙ ap (λ (d : List (List ℕ × Value)). is_some (lookup (codes "_id") d)) (sym read)))
