-- The namespace that a text names.
use Rattle.std.proofs.Common.{◌≡◌, ℕ, List, sym}
use Rattle.std.specs.Prelude.{Option, Some, None, Result, Ok, Err, IfOk, IfSome, IfNone}
use Rattle.bson_value.specs.declared.namespace.NsName.{NsName}
use Rattle.bson_value.specs.Namespace.{IsSplit}
use Rattle.entry_model.specs.Reading.{namespace_of}
use Rattle.entry_model.proofs.Entries.{split_back}
use Rattle.oplog_entry.proofs.Sides.{no_sides}

pub split_is : {E : Type 0} (text : List ℕ) (r : Result (Option NsName) E) → IfOk r (λ o. IfSome o (λ n. IsSplit text n.db n.coll)) → IfOk r (λ o. IfNone o ((db coll : List ℕ) → IsSplit text db coll → ⊥)) → IfOk r (λ o. o ≡ namespace_of text)
split_is text (Ok (Some n)) s h = sym (split_back text n.db n.coll s)
split_is text (Ok None) s h = sym (no_sides text h)
split_is text (Err e) s h = tt
