use Rattle.std.proofs.Common.{List, ℕ, ◌≡◌, ◌∷◌, [], sym, ap, ◌∙◌, subst}
use Rattle.std.specs.Prelude.{Option, Ok, Some, codes}
use Rattle.std.specs.Option.{option_copied}
use Rattle.bson_value.specs.declared.value.Value.{Value, out-Value}
use Rattle.bson_value.specs.declared.namespace.NsName.{NsName}
use Rattle.entry_model.specs.declared.entry.Action.TheVariants.{Rename}
use Rattle.entry_model.specs.declared.fault.EntryFault.{EntryFault}
use Rattle.entry_model.specs.Written.{Fields}
use Rattle.entry_model.specs.Reading.{Read, ◌>>=◌, Done, good, field, namespace_of, text_in, whole_name, rename_read}
use Rattle.oplog_entry.specs.Answers.{Fails}
use Rattle.oplog_entry.specs.Parts.{Begins, further}
use Rattle.oplog_entry.proofs.Binds.{fails_first, fails_next, gives_err}
use Rattle.oplog_entry.proofs.commands.rename.Goals as goal

to_further : (v : Value) (o : Fields) → Begins (codes "renameCollection") v o → field text_in (codes "to") o ≡ field text_in (codes "to") (further o)
to_further v [] h = absurd h
to_further v (f ∷ fs) h = ap (λ (g : List ℕ × Value). field text_in (codes "to") (g ∷ fs)) h

abbrev Ends : NsName → List ℕ → Read Done
Ends from text = good (codes "to") (namespace_of text) >>= λ to. Ok (from, Rename from to)

abbrev Behind : Fields → NsName → Read Done
Behind o from = field text_in (codes "to") (further o) >>= Ends from

whole : (v : Value) (t : List ℕ) (ns : NsName) → text_in (out-Value v) ≡ Some t → good (codes "renameCollection") (namespace_of t) ≡ Ok ns → whole_name (codes "renameCollection") v ≡ Ok ns
whole v t ns e f = ap (λ (o : Option (List ℕ)). good (codes "renameCollection") o >>= λ x. good (codes "renameCollection") (namespace_of x)) e ∙ f

pub returns-in_err-text_field : goal.returns-in_err-text_field
returns-in_err-text_field c =
    gives_err c.from_residual-in_err-text_field.result _ (rename_read c.args.value.now (further c.args.o.now)) c.from_residual-in_err-text_field.ensures.1
    (λ x p. fails_next (Behind c.args.o.now) x (whole_name (codes "renameCollection") c.args.value.now) c.in_ok-from.from
    (whole c.args.value.now c.in-Some.text.now c.in_ok-from.from (sym c.text_in.ensures ∙ ap option_copied c.in-Some.is) c.in_ok-from.ensures)
    (fails_first (Ends c.in_ok-from.from) x (field text_in (codes "to") (further c.args.o.now))
    (subst (Fails x) (to_further c.args.value.now c.args.o.now c.requires)
    (subst (λ (e : EntryFault). Fails e (field text_in (codes "to") c.args.o.now)) (sym p) c.in_err-text_field.ensures.err))))
