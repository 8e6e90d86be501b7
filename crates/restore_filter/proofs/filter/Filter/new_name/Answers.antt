use Rattle.std.proofs.Common.{◌≡◌, ◌∙◌, sym, ap, subst, List, ℕ, Option, IfOk, Some}
use Rattle.std.specs.Prelude.{unwrap_or}
use Rattle.bson_value.specs.declared.namespace.NsName.{NsName}
use Rattle.restore_filter.specs.Names.{new_name}
use Rattle.restore_filter.proofs.Names.{renamed_by_slice, not_renamed, renamed_to}
use Rattle.restore_filter.proofs.filter.Filter.new_name.Goals as goal

pub returns-in_default : goal.returns-in_default
returns-in_default c =
    let found = renamed_by_slice c.args.self.now c.args.ns.now _ _ c.self.view_is _ c.as_slice.ensures _ (c.as_str.ensures ∙ c.in_ok-text.ensures) c.in_ok-new.ensures in
    subst (λ (m : NsName). IfOk c.copy.result (λ name. name ≡ m)) (not_renamed c.args.self.now c.args.ns.now (sym c.in_default.is ∙ found)) c.copy.ensures

pub returns-in-Some-2 : goal.returns-in-Some-2
returns-in-Some-2 c =
    let found = renamed_by_slice c.args.self.now c.args.ns.now _ _ c.self.view_is _ c.as_slice.ensures _ (c.as_str.ensures ∙ c.in_ok-text.ensures) c.in_ok-new.ensures in
    ap (λ (o : Option NsName). unwrap_or o c.args.ns.now) (sym c.in-Some-2.is)
    ∙ renamed_to c.args.self.now c.args.ns.now c.as_str-2.result.now c.in_ok-name.field-0 (ap (λ (t : List ℕ). Some t) c.as_str-2.ensures ∙ (sym c.in-Some.is ∙ found)) c.in_ok-name.ensures.some c.in_ok-name.ensures.none

pub returns : goal.returns
returns c =
    let found = renamed_by_slice c.args.self.now c.args.ns.now _ _ c.self.view_is _ c.as_slice.ensures _ (c.as_str.ensures ∙ c.in_ok-text.ensures) c.in_ok-new.ensures in
    let same : c.args.ns.now ≡ new_name c.args.self.now c.args.ns.now =
    ap (λ (o : Option NsName). unwrap_or o c.args.ns.now) (sym c.in-None.is)
    ∙ renamed_to c.args.self.now c.args.ns.now c.as_str-2.result.now c.in_ok-name.field-0 (ap (λ (t : List ℕ). Some t) c.as_str-2.ensures ∙ (sym c.in-Some.is ∙ found)) c.in_ok-name.ensures.some c.in_ok-name.ensures.none in
    subst (λ (m : NsName). IfOk c.copy-in-None.result (λ name. name ≡ m)) same c.copy-in-None.ensures
