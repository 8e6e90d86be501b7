use Rattle.std.proofs.Common.{◌≡◌, ℕ, List, Option, sym, ap, subst, ◌∙◌}
use Rattle.std.specs.Prelude.{IfSome, IfNone, ◌||◌}
use Rattle.bson_value.specs.declared.namespace.NsName.{NsName}
use Rattle.bson_value.specs.Namespace.{IsSplit}
use Rattle.entry_model.proofs.Entries.{split_back}
use Rattle.oplog_entry.proofs.Sides.{no_sides}
use Rattle.restore_filter.specs.Names.{takes}
use Rattle.restore_entries.specs.Oplog.{matters, is_command}
use Rattle.restore_entries.proofs.reading.matters.Goals as goal
use Rattle.restore_entries.proofs.reading.matters.Goals.{then-is_command, else-is_command}

pub returns-after-is_command : goal.returns-after-is_command
returns-after-is_command c =
    let t = c.args.text.now in
    let n = c.in-Some.ns in
    let named = split_back t n.db n.coll (subst (λ (o : Option NsName). IfSome o (λ m. IsSplit t m.db m.coll)) c.in-Some.is c.in_ok-ns.ensures.some) in
    let either : c.if-is_command.result ≡ is_command c.args.doc.now || takes c.args.rules.now n =
    elim c.if-is_command.branch [
      | then-is_command w ↦ w.result-is ∙ (w.if-is_command.true ∙ ap (λ b. b || takes c.args.rules.now n) (sym w.if-is_command.true ∙ c.is_command.ensures))
      | else-is_command w ↦ w.result-is ∙ (w.takes.ensures ∙ ap (λ b. b || takes c.args.rules.now n) (sym w.if-is_command.false ∙ c.is_command.ensures))
    ] in
    either ∙ ap (matters c.args.rules.now c.args.doc.now) (sym named)

pub returns-in-None : goal.returns-in-None
returns-in-None c =
    let t = c.args.text.now in
    let none : (db coll : List ℕ) → IsSplit t db coll → ⊥ = subst (λ (o : Option NsName). IfNone o ((db coll : List ℕ) → IsSplit t db coll → ⊥)) c.in-None.is c.in_ok-ns.ensures.none in
    ap (matters c.args.rules.now c.args.doc.now) (sym (no_sides t none))
