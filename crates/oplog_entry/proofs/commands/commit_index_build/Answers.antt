use Rattle.std.proofs.Common.{List, sym, ap, ◌∙◌, subst}
use Rattle.std.specs.Prelude.{Ok, codes}
use Rattle.bson_value.specs.declared.value.Value.{Value}
use Rattle.entry_model.specs.declared.entry.Action.TheVariants.{AddIndexes}
use Rattle.entry_model.specs.declared.fault.EntryFault.{EntryFault}
use Rattle.entry_model.specs.Written.{Fields}
use Rattle.entry_model.specs.Reading.{Read, ◌>>=◌, Done, field, array_in, collection, definitions, commit_read}
use Rattle.bson_value.specs.declared.namespace.NsName.{NsName}
use Rattle.oplog_entry.specs.Answers.{Fails}
use Rattle.oplog_entry.specs.Parts.{further}
use Rattle.oplog_entry.proofs.Binds.{fails_first, fails_next, gives_err}
use Rattle.oplog_entry.proofs.Parts.{items_further}
use Rattle.oplog_entry.proofs.commands.commit_index_build.Goals as goal

abbrev Ends : NsName → List Fields → Read Done
Ends ns ds = Ok (ns, AddIndexes ds)

abbrev Behind : Fields → NsName → Read Done
Behind o ns = field array_in (codes "indexes") (further o) >>= λ vs. (definitions (codes "indexes") vs >>= Ends ns)

pub returns-in_err-items : goal.returns-in_err-items
returns-in_err-items c =
    gives_err c.from_residual-in_err-items.result _ (commit_read c.args.db.now c.args.value.now (further c.args.o.now)) c.from_residual-in_err-items.ensures.1
    (λ x p. fails_next (Behind c.args.o.now) x (collection c.args.db.now (codes "commitIndexBuild") c.args.value.now) c.in_ok-ns.ns c.in_ok-ns.ensures
    (fails_first (λ vs. definitions (codes "indexes") vs >>= Ends c.in_ok-ns.ns) x (field array_in (codes "indexes") (further c.args.o.now))
    (subst (Fails x) (items_further c.args.value.now c.args.o.now c.requires)
    (subst (λ (e : EntryFault). Fails e (field array_in (codes "indexes") c.args.o.now)) (sym p) c.in_err-items.ensures.err))))

pub returns-in_err-defs : goal.returns-in_err-defs
returns-in_err-defs c =
    gives_err c.from_residual-in_err-defs.result _ (commit_read c.args.db.now c.args.value.now (further c.args.o.now)) c.from_residual-in_err-defs.ensures.1
    (λ x p. fails_next (Behind c.args.o.now) x (collection c.args.db.now (codes "commitIndexBuild") c.args.value.now) c.in_ok-ns.ns c.in_ok-ns.ensures
    (fails_next (λ vs. definitions (codes "indexes") vs >>= Ends c.in_ok-ns.ns) x (field array_in (codes "indexes") (further c.args.o.now)) c.in_ok-items.items.now
    (sym (items_further c.args.value.now c.args.o.now c.requires) ∙ c.in_ok-items.ensures.ok)
    (fails_first (Ends c.in_ok-ns.ns) x (definitions (codes "indexes") c.in_ok-items.items.now)
    (subst (λ (vs : List Value). Fails x (definitions (codes "indexes") vs)) c.as_slice.ensures
    (subst (λ (e : EntryFault). Fails e (definitions (codes "indexes") c.as_slice.result.now)) (sym p) c.in_err-defs.ensures)))))

pub returns : goal.returns
returns c =
    ap (λ (r : Read NsName). r >>= Behind c.args.o.now) c.in_ok-ns.ensures
    ∙ (ap (λ (r : Read (List Value)). r >>= λ vs. (definitions (codes "indexes") vs >>= Ends c.in_ok-ns.ns)) (sym (items_further c.args.value.now c.args.o.now c.requires) ∙ c.in_ok-items.ensures.ok)
    ∙ ap (λ (r : Read (List Fields)). r >>= Ends c.in_ok-ns.ns) (ap (definitions (codes "indexes")) (sym c.as_slice.ensures) ∙ c.in_ok-defs.ensures))
