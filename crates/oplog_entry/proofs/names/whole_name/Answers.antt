use Rattle.std.proofs.Common.{ℕ, List, ap, subst}
use Rattle.std.specs.Prelude.{Option, IfSome, IfNone}
use Rattle.bson_value.specs.declared.namespace.NsName.{NsName}
use Rattle.bson_value.specs.Namespace.{IsSplit}
use Rattle.entry_model.specs.declared.fault.EntryFault.TheVariants.{BadField}
use Rattle.entry_model.specs.Reading.{good, namespace_of}
use Rattle.entry_model.proofs.Entries.{split_back}
use Rattle.oplog_entry.proofs.Sides.{no_sides}
use Rattle.oplog_entry.proofs.UpdateFields.{fails_by}
use Rattle.oplog_entry.proofs.names.whole_name.Goals as goal

pub returns-in-Some : goal.returns-in-Some
returns-in-Some c =
    ap (good c.args.name.now) (split_back c.args.text.now c.in-Some.ns.db c.in-Some.ns.coll
    (subst (λ (o : Option NsName). IfSome o (λ n. IsSplit c.args.text.now n.db n.coll)) c.in-Some.is c.in_ok-ns.ensures.some))

pub returns-in-None : goal.returns-in-None
returns-in-None c =
    let no : (db coll : List ℕ) → IsSplit c.args.text.now db coll → ⊥ =
    subst (λ (o : Option NsName). IfNone o ((db coll : List ℕ) → IsSplit c.args.text.now db coll → ⊥)) c.in-None.is c.in_ok-ns.ensures.none in
    fails_by c.bad.result (BadField c.args.name.now) (good c.args.name.now (namespace_of c.args.text.now)) c.bad.ensures (ap (good c.args.name.now) (no_sides c.args.text.now no))
