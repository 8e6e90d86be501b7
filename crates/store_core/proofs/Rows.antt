-- What follows where no row refuses a command.
use Rattle.std.proofs.Common.{◌≡◌, Bool, true, false, not, refl, sym, ap, ◌∙◌, Option, Some, None, Ok}
use Rattle.std.specs.Prelude.{◌&&◌, ◌||◌, nat_le, codes}
use Rattle.containers.specs.Entries.{lookup}
use Rattle.bson_value.specs.Levels.{levels_of}
use Rattle.bson_value.specs.declared.namespace.NsName.{NsName}
use Rattle.json_tree.specs.declared.tree.Tree.{Tree}
use Rattle.coll_state.specs.Rows.{Document as Fields, Rows}
use Rattle.schedule_model.specs.declared.refused.Refused.{Refused}
use Rattle.history_model.specs.Documents.{is_good_definition, normal_of, is_short_form, is_key, is_a_name, name_of, has_field}
use Rattle.history_model.specs.Refusals.{first_of, index_rows}
use Rattle.history_model.proofs.Accepted.{all_false}
use Rattle.store_core.specs.Applying.{refusal_or}
use Rattle.history_model.proofs.IndexesHeld.{is_good}

pub not_refused : (o : Option Refused) (u : Unit {0}) → refusal_or o ≡ Ok u → o ≡ None
not_refused None u e = refl
not_refused (Some r) u e = cc

at_the_end : (p q r : Bool) → (p && (q && (false && r))) ≡ true → ⊥
at_the_end true true r e = cc
at_the_end true false r e = cc
at_the_end false q r e = cc

-- a good definition has a normal form
good_has_form : (d : Fields) → is_good_definition d ≡ true → normal_of d ≡ None → ⊥
unfolding is_good_definition
good_has_form d e f =
    (let p = is_key (lookup (codes "key") d) && is_a_name (name_of d) in
    let q = not (has_field (codes "createIndexes") d || has_field (codes "ns") d) in
    let r = nat_le (levels_of d) 100 in
    at_the_end p q r (ap (λ (o : Option Tree). p && (q && (is_short_form o && r))) (sym f) ∙ e))

pub form_there : (n : NsName) (d : Fields) (r : Rows) → first_of (index_rows n d r) ≡ None → normal_of d ≡ None → ⊥
form_there n d r e f = good_has_form d (is_good (is_good_definition d) (all_false (index_rows n d r) e).1.1.1.1.0) f
