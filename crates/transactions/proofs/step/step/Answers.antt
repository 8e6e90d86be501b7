use Rattle.std.proofs.Common.{◌≡◌, true, arith, sym, ◌∙◌, subst}
use Rattle.std.proofs.lemmas.Grind.{common_steps}
use Rattle.bson_value.specs.declared.namespace.NsName.{NsName}
use Rattle.schedule_model.specs.declared.command.DocumentCommand.{DocumentCommand}
use Rattle.schedule_model.specs.declared.command.DocumentCommand.TheVariants.{Insert, Replace, Delete}
use Rattle.history_model.specs.Refusals.{is_there, namespace_of}
use Rattle.transactions.specs.Steps.{IsStep}
use Rattle.transactions.proofs.Steps.{step_in}
use Rattle.transactions.proofs.step.step.Goals as goal
use Rattle.kept_indexes.proofs.Told.{if_ok}

pub returns-in-Insert : goal.returns-in-Insert
returns-in-Insert c =
    let b : c.has.result ≡ true = first_of (cc, grind (arith, common_steps)) in
    let t : is_there (namespace_of c.args.command.now) c.args.rows.now ≡ true = subst (λ (n : NsName). is_there n c.args.rows.now ≡ true) c.namespace_of.ensures (sym c.has.ensures ∙ b) in
    let there : is_there (namespace_of (Insert c.in-Insert.ns c.in-Insert.doc)) c.args.rows.now ≡ true = subst (λ (k : DocumentCommand). is_there (namespace_of k) c.args.rows.now ≡ true) c.in-Insert.is t in
    if_ok c.insert.result c.insert.ensures
    (λ a h. subst (λ (k : DocumentCommand). IsStep true c.args.form k a c.args.rows.now c.insert.new.rows) (sym c.in-Insert.is) (step_in c.args.form (Insert c.in-Insert.ns c.in-Insert.doc) a c.args.rows.now c.insert.new.rows there (h c.args.form)))

pub returns-in-Replace : goal.returns-in-Replace
returns-in-Replace c =
    let b : c.has.result ≡ true = first_of (cc, grind (arith, common_steps)) in
    let t : is_there (namespace_of c.args.command.now) c.args.rows.now ≡ true = subst (λ (n : NsName). is_there n c.args.rows.now ≡ true) c.namespace_of.ensures (sym c.has.ensures ∙ b) in
    let there : is_there (namespace_of (Replace c.in-Replace.ns c.in-Replace.doc)) c.args.rows.now ≡ true = subst (λ (k : DocumentCommand). is_there (namespace_of k) c.args.rows.now ≡ true) c.in-Replace.is t in
    if_ok c.replace.result c.replace.ensures
    (λ a h. subst (λ (k : DocumentCommand). IsStep true c.args.form k a c.args.rows.now c.replace.new.rows) (sym c.in-Replace.is) (step_in c.args.form (Replace c.in-Replace.ns c.in-Replace.doc) a c.args.rows.now c.replace.new.rows there (h c.args.form)))

pub returns-in-Delete : goal.returns-in-Delete
returns-in-Delete c =
    let b : c.has.result ≡ true = first_of (cc, grind (arith, common_steps)) in
    let t : is_there (namespace_of c.args.command.now) c.args.rows.now ≡ true = subst (λ (n : NsName). is_there n c.args.rows.now ≡ true) c.namespace_of.ensures (sym c.has.ensures ∙ b) in
    let there : is_there (namespace_of (Delete c.in-Delete.ns c.in-Delete.id)) c.args.rows.now ≡ true = subst (λ (k : DocumentCommand). is_there (namespace_of k) c.args.rows.now ≡ true) c.in-Delete.is t in
    if_ok c.delete.result c.delete.ensures
    (λ a h. subst (λ (k : DocumentCommand). IsStep true c.args.form k a c.args.rows.now c.delete.new.rows) (sym c.in-Delete.is) (step_in c.args.form (Delete c.in-Delete.ns c.in-Delete.id) a c.args.rows.now c.delete.new.rows there (h c.args.form)))
