-- Operators at paths that don't conflict change a document where one of them does anything.
use Rattle.std.proofs.Common.{◌≡◌, List, [], ◌∷◌, ◌++◌, Bool, true, false, refl, sym, ap, ◌∙◌, subst, Option, Some, None, inl, inr}
use Rattle.std.specs.Prelude.{⊤, ◌||◌, ◌⊎◌, Ok, Err}
use Rattle.bson_value.specs.declared.value.Value.{Value, Value-F, Object, out-Value, roll-Value, roll-out-Value}
use Rattle.bson_value.specs.declared.value.Value.TheVariants.{outs-Object}
use Rattle.bson_value.specs.Place.{an_object, shape_in, shape, look, value_at}
use Rattle.doc_path.specs.declared.parts.Part.{Part}
use Rattle.doc_path.specs.Touch.{below, from_key, key_of}
use Rattle.update_model.specs.declared.mark.Mark.{Mark}
use Rattle.update_model.specs.declared.operator.Operator.{Operator}
use Rattle.update_model.specs.declared.updated.Updated.{Updated}
use Rattle.update_model.specs.declared.fault.UpdateFault.{UpdateFault}
use Rattle.update_model.specs.Conflicts.{Path}
use Rattle.update_model.specs.Arguments.{Fields}
use Rattle.update_model.specs.Reading.{operators}
use Rattle.update_model.specs.Steps.{Trace, after, marks_of}
use Rattle.update_model.specs.Acts.{Act, Steps, Refused, Oversized, act}
use Rattle.update_model.specs.Touched.{touches}
use Rattle.update_model.specs.Updating.{Outcome, fields_in, fields_of, refusal_at_end, ended, and_more, on_act, outcome, updated_by, updated}
use Rattle.update_model.proofs.MarkTerms.{any_mark}
use Rattle.update_model.proofs.MarkTheory.{steps_frame}
use Rattle.update_model.proofs.ActsGo.{Traced, outcome_traced}
use Rattle.unchanged_updates.specs.Laws.{UnchangedIsUntouched}
use Rattle.unchanged_updates.proofs.Beside.{IsFirm, Beside}
use Rattle.unchanged_updates.proofs.Acts.{ApartFrom, Changes, Acted, Does, first_path, other_paths, act_does, both_beside}
use Rattle.unchanged_updates.proofs.Apart.{paths_of, all_paths, Pairwise, read_apart}

-- ---- paths

apart_both : (P : Path) (Ks Ls : List Path) → ApartFrom P (Ks ++ Ls) → ApartFrom P Ks × ApartFrom P Ls
apart_both P [] Ls a = (tt, a)
apart_both P (K ∷ Ks) Ls a = let b = apart_both P Ks Ls a.1 in ((a.0, b.0), b.1)

pairwise_behind : (Ks Ls : List Path) → Pairwise (Ks ++ Ls) → Pairwise Ls
pairwise_behind [] Ls p = p
pairwise_behind (K ∷ Ks) Ls p = pairwise_behind Ks Ls p.1

-- ---- the operators one after the other

after_append : (ss ts : Trace) (v : Value) → after v (ss ++ ts) ≡ after (after v ss) ts
after_append [] ts v = refl
after_append (s ∷ ss) ts v = after_append ss ts s.1

-- what is said of them
record Done (os : List Operator) (v : Value) (ss : Trace) : Type 0 where
  keeps : (P : Path) → IsFirm P v → ApartFrom P (all_paths os) → Beside P v (after v ss)
  does : (ss ≡ []) ⊎ ((K : Path) × Changes K v (after v ss))

abbrev DoneBy : List Operator → Value → Outcome → Type 0
DoneBy os v (Ok ss) = Done os v ss
DoneBy os v (Err f) = ⊤

more_done : (o : Operator) (os : List Operator) (v : Value) (ss ts : Trace) → ApartFrom (first_path o) (all_paths os) → Acted (first_path o) (other_paths o) v ss → Done os (after v ss) ts → Done (o ∷ os) v (ss ++ ts)
more_done o os v ss ts n a d = record {
  keeps = λ P f e. subst (Beside P v) (sym (after_append ss ts v)) (on P f (apart_both P (paths_of o) (all_paths os) e));
  does = by a.does d.does;
}
  where
    on : (P : Path) → IsFirm P v → ApartFrom P (paths_of o) × ApartFrom P (all_paths os) → Beside P v (after (after v ss) ts)
    on P f e = (let b = a.keeps P f e.0 in both_beside P v (after v ss) (after (after v ss) ts) b (d.keeps P b.firm e.1))

    changes : Changes (first_path o) v (after v ss) → Changes (first_path o) v (after v (ss ++ ts))
    changes c =
        let b = d.keeps (first_path o) c.firm n in
        subst (Changes (first_path o) v) (sym (after_append ss ts v)) (record { other = λ e. c.other (sym b.same ∙ e); firm = b.firm })

    by : (ss ≡ []) ⊎ Changes (first_path o) v (after v ss) → (ts ≡ []) ⊎ ((K : Path) × Changes K (after v ss) (after (after v ss) ts)) → (ss ++ ts ≡ []) ⊎ ((K : Path) × Changes K v (after v (ss ++ ts)))
    by (inr c) t = inr (first_path o, changes c)
    by (inl e) (inl f) = inl (rw (e, f) refl)
    by (inl e) (inr (K, c)) =
        inr (K, subst (Changes K v) (sym (after_append ss ts v)) (subst (λ (w : Value). Changes K w (after (after v ss) ts)) (ap (after v) e) c))

any_done : (o : Operator) (os : List Operator) (go : Bool → Value → Outcome) (large : Bool) (v : Value) (a : Act) → ApartFrom (first_path o) (all_paths os) → ((b : Bool) (w : Value) → DoneBy os w (go b w)) → Does (first_path o) (other_paths o) v a → DoneBy (o ∷ os) v (on_act go large v a)
any_done o os go large v (Refused f) n h d = tt
any_done o os go large v (Steps ss) n h d = by (go large (after v ss)) (h large (after v ss))
  where
    by : (r : Outcome) → DoneBy os (after v ss) r → DoneBy (o ∷ os) v (and_more ss r)
    by (Err f) k = tt
    by (Ok ts) k = more_done o os v ss ts n d k
any_done o os go large v Oversized n h d = by (go true v) (h true v)
  where
    by : (r : Outcome) → DoneBy os v r → DoneBy (o ∷ os) v r
    by (Err f) k = tt
    by (Ok ts) k = record { keeps = λ P f e. k.keeps P f (apart_both P (paths_of o) (all_paths os) e).1; does = k.does }

ends : (o : Option UpdateFault) (v : Value) → DoneBy [] v (ended o)
ends (Some f) v = tt
ends None v = record { keeps = λ P f e. record { same = refl; firm = f }; does = inl refl }

all_done : (os : List Operator) (large : Bool) (v : Value) → Pairwise (all_paths os) → DoneBy os v (outcome os large v)
all_done [] large v p = ends (refusal_at_end large (fields_of v)) v
all_done (o ∷ os) large v p =
    let first = apart_both (first_path o) (other_paths o) (all_paths os) p.0 in
    any_done o os (outcome os) large v (act o v) first.1 (λ b w. all_done os b w (pairwise_behind (paths_of o) (all_paths os) p)) (act_does o v first.0)

-- ---- the document afterwards

no_root : (ms : List Mark) → any_mark ms [] ≡ false
no_root [] = refl
no_root (m ∷ ms) = by m.way (no_root ms)
  where
    by : (ws : List Part) → any_mark ms [] ≡ false → below ws (from_key (key_of m.last)) [] || any_mark ms [] ≡ false
    by [] h = h
    by (w ∷ ws) h = h

object_in : (f : Value-F Value) → shape_in f ≡ an_object → f ≡ Value-F.Object (fields_in f)
object_in (Value-F.Object fs) e = refl
object_in (Value-F.Array vs) e = cc
object_in (Value-F.ScopedCode t fs) e = cc
object_in _ e = cc

is_object : (v : Value) → shape v ≡ an_object → v ≡ Object (fields_of v)
unfolding shape
is_object v e = sym (roll-out-Value v) ∙ (ap roll-Value (object_in (out-Value v) e ∙ sym (outs-Object (fields_of v))) ∙ roll-out-Value (Object (fields_of v)))

object_shape : (fs : Fields) → shape (Object fs) ≡ an_object
unfolding shape
object_shape fs = rw (outs-Object fs) refl

stays_object : (os : List Operator) (doc : Fields) (ss : Trace) → outcome os false (Object doc) ≡ Ok ss → after (Object doc) ss ≡ Object (fields_of (after (Object doc) ss))
unfolding look
stays_object os doc ss e =
    let t : Traced (Object doc) (Ok ss) = subst (Traced (Object doc)) e (outcome_traced os false (Object doc)) in
    let s : Some (shape (after (Object doc) ss)) ≡ Some (shape (Object doc)) = steps_frame ss (Object doc) (after (Object doc) ss) t [] (no_root (marks_of ss)) in
    let k : shape (after (Object doc) ss) ≡ shape (Object doc) = cc in
    is_object (after (Object doc) ss) (k ∙ object_shape doc)

untouched_by : (os : List Operator) (doc : Fields) (u : Updated) (o : Outcome) → outcome os false (Object doc) ≡ o → Pairwise (all_paths os) → updated_by (Object doc) o ≡ Ok u → u.doc ≡ doc → u.touches ≡ []
untouched_by os doc u (Err f) e p h d = cc
untouched_by os doc u (Ok ss) e p h d = by (subst (DoneBy os (Object doc)) e (all_done os false (Object doc) p)).does
  where
    z : Value
    z = after (Object doc) ss

    is : record { doc = fields_of z; touches = touches z (marks_of ss) } ≡ u
    is = cc

    back : z ≡ Object doc
    back = stays_object os doc ss e ∙ ap Object (ap (λ (w : Updated). w.doc) is ∙ d)

    by : (ss ≡ []) ⊎ ((K : Path) × Changes K (Object doc) z) → u.touches ≡ []
    by (inl f) = sym (ap (λ (w : Updated). w.touches) is) ∙ ap (λ (t : Trace). touches (after (Object doc) t) (marks_of t)) f
    by (inr (K, c)) = absurd (c.other (ap (λ (w : Value). value_at (Some w) K) back))

pub unchanged_is_untouched : UnchangedIsUntouched
unfolding updated
unchanged_is_untouched d doc u e f g = untouched_by (operators d) doc u (outcome (operators d) false (Object doc)) refl (read_apart d e) f g
