use Rattle.std.proofs.Common.{◌≡◌, Option, Some, true, sym, subst, ◌∙◌, rules}
use Rattle.std.specs.Prelude.{IfSome}
use Rattle.bson_value.specs.declared.namespace.NsName.{NsName}
use Rattle.entry_model.specs.Reading.{namespace_of}
use Rattle.restore_entries.specs.Oplog.{Head, is_asked}
use Rattle.restore_entries.proofs.FieldDeltas.{kept_as}
use Rattle.restore_entries.proofs.fields.read_field.Goals as goal

pub returns-then-takes : goal.returns-then-takes
returns-then-takes c fs f =
    let h : Head = (c.in-Some.ts, c.in-Some.text.now) in
    let named = subst (λ (o : Option NsName). IfSome o (λ n. namespace_of c.in-Some.text.now ≡ Some n)) c.in-Some-2.is c.in_ok-ns.ensures in
    let asked : is_asked c.args.limit h ≡ true = search rules in
    kept_as c.args.rules.now c.args.limit fs h c.in-Some-2.ns c.in-Some-field_delta.delta (c.in-Some.ensures fs f) asked (c.in-Some-field_delta.ensures fs f) named (sym c.takes.ensures ∙ c.if-takes.true)
