-- A taking of one namespace and an entry that changes one document of another: either may come first.
use Rattle.std.proofs.Common.{◌≡◌, Bool, true, false, cond, List, [], ◌∷◌, refl, sym, ap, ◌∙◌, subst, Option, Some, None, inl, inr}
use Rattle.std.specs.Prelude.{◌⊎◌, fold, filter}
use Rattle.std.specs.FinMap as map
use Rattle.std.proofs.lemmas.Bool.{cases_Bool}
use Rattle.bson_value.specs.declared.namespace.NsName.{NsName}
use Rattle.state_model.specs.Keys.{same_ns as same_name}
use Rattle.state_model.specs.States.{State, Collection, no_options, fresh_collection, or_fresh}
use Rattle.state_model.specs.Replay.{replay_all}
use Rattle.state_model.proofs.Keys.{ns_is}
use Rattle.state_model.proofs.Maps.{ns_insert_here, ns_insert_else}
use Rattle.entry_model.specs.declared.entry.Entry.{Entry}
use Rattle.entry_model.specs.declared.entry.Action.{out-Action}
use Rattle.replay.specs.Moves.{moves_of}
use Rattle.restore_filter.specs.Names.{new_name}
use Rattle.restore_filter.proofs.Names.{names_stay}
use Rattle.restore_entries.specs.Documents.{is_of_document}
use Rattle.restore_entries.proofs.Acts.{ActsAt, acts_insert, acts_put, commute, acts_entry}
use Rattle.archive_format.specs.Archive.{Taking, meta, doc, end, same_ns}
use Rattle.restore_plan.specs.declared.plan.Plan.{Plan}
use Rattle.restore_plan.specs.Base.{ns_of, is_of_base, options_taken, definitions_taken, described, made, named_step, base_step}
use Rattle.restore_plan.specs.Order.{Lacks}
use Rattle.restore_plan.proofs.Order.{ns_refl as same_itself}

-- ---- takings

made_here : (n : NsName) (s : State) (o : Option Collection) → map.get s n ≡ o → map.get (made n o s) n ≡ Some (or_fresh o)
made_here n s None e = ns_insert_here s n (fresh_collection no_options)
made_here n s (Some c) e = e

made_else : (n : NsName) (s : State) (o : Option Collection) (q : NsName) → same_name q n ≡ false → map.get (made n o s) q ≡ map.get s q
made_else n s None q e = ns_insert_else s n (fresh_collection no_options) q e
made_else n s (Some c) q e = refl

acts_made : (n : NsName) → ActsAt n (λ s. made n (map.get s n) s)
acts_made n = record {
  here = λ s z e. made_here n s (map.get s n) refl ∙ (ap (λ (o : Option Collection). Some (or_fresh o)) e ∙ sym (made_here n z (map.get z n) refl));
  elsewhere = λ s q e. made_else n s (map.get s n) q e;
}

acts_taking : (n : NsName) (t : Taking) → ActsAt n (λ s. named_step n s t)
acts_taking n (meta k x) = acts_insert n (λ o. described (options_taken x) (definitions_taken x) (or_fresh o))
acts_taking n (doc k b) = acts_put n _ _
acts_taking n (end k) = acts_made n

other_name : (n m : NsName) → same_ns n m ≡ false → same_name n m ≡ false
other_name n m e = by (cases_Bool (same_name n m))
  where
    by : (same_name n m ≡ true) ⊎ (same_name n m ≡ false) → same_name n m ≡ false
    by (inl k) = let same : same_ns n m ≡ true = subst (λ (z : NsName). same_ns n z ≡ true) (ns_is n m k) (same_itself n) in absurd cc
    by (inr k) = k

-- a taking of another namespace, and an entry's moves on a document: either may come first
pub apart : (p : Plan) (e : Entry) (t : Taking) (s : State) → p.filter.renames ≡ [] → is_of_document (out-Action e.action) ≡ true → same_ns (ns_of t) e.ns ≡ false →
    base_step p (replay_all (moves_of e) s) t ≡ replay_all (moves_of e) (base_step p s t)
apart p e t s none h other =
    let m = new_name p.filter (ns_of t) in
    let differs = subst (λ (z : NsName). same_name z e.ns ≡ false) (sym (names_stay p.filter (ns_of t) none)) (other_name (ns_of t) e.ns other) in
    commute e.ns m (replay_all (moves_of e)) (λ z. named_step m z t) (acts_entry e h) (acts_taking m t) differs s

-- the takings that are none of the base are passed over
pub apart_all : (p : Plan) (e : Entry) (ts : List Taking) (s : State) → p.filter.renames ≡ [] → is_of_document (out-Action e.action) ≡ true → Lacks e.ns ts →
    fold (base_step p) (replay_all (moves_of e) s) (filter (is_of_base p) ts) ≡ replay_all (moves_of e) (fold (base_step p) s (filter (is_of_base p) ts))
apart_all p e [] s none h lacks = refl
apart_all p e (t ∷ ts) s none h lacks = by (is_of_base p t) (λ z. apart_all p e ts z none h lacks.1)
  where
    by : (b : Bool) → ((z : State) → fold (base_step p) (replay_all (moves_of e) z) (filter (is_of_base p) ts) ≡ replay_all (moves_of e) (fold (base_step p) z (filter (is_of_base p) ts))) →
        fold (base_step p) (replay_all (moves_of e) s) (cond b (t ∷ filter (is_of_base p) ts) (filter (is_of_base p) ts)) ≡ replay_all (moves_of e) (fold (base_step p) s (cond b (t ∷ filter (is_of_base p) ts) (filter (is_of_base p) ts)))
    by true rest = ap (λ (z : State). fold (base_step p) z (filter (is_of_base p) ts)) (apart p e t s none h lacks.0) ∙ rest (base_step p s t)
    by false rest = rest s
