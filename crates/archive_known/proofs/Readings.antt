-- What a restore keeps of an entry that it knows, it knows.
use Rattle.std.proofs.Common.{◌≡◌, List, [], ◌∷◌, ◌++◌, Bool, true, false, map, refl, sym, ap, ◌∙◌, subst, Option, Some, None}
use Rattle.std.specs.Prelude.{filter, Ok, Err, if◌then◌else◌}
use Rattle.bson_value.specs.declared.value.Ts.{Ts}
use Rattle.entry_model.specs.declared.entry.Entry.{Entry}
use Rattle.entry_model.specs.declared.entry.Action.{Action, out-Action}
use Rattle.entry_model.specs.declared.entry.Action.TheOpen.{Action-F}
use Rattle.entry_model.specs.declared.entry.Action.TheVariants as actions
use Rattle.entry_model.specs.Written.{Fields}
use Rattle.entry_model.specs.Reading.{Read, head_of, entry_of}
use Rattle.replay.specs.declared.fault.ReplayFault.{ReplayFault}
use Rattle.replay.specs.Moves.{is_config}
use Rattle.replay.specs.Refusals.{first, first_refused}
use Rattle.replay.proofs.Folds.{Level, refused_below, refused_is}
use Rattle.restore_filter.specs.Rules.{Rules}
use Rattle.restore_entries.specs.declared.reading.EntryReading.TheVariants.{Passed, Kept}
use Rattle.restore_entries.specs.Cut.{takes_entry, cut_action, cut_entry}
use Rattle.restore_entries.specs.Oplog.{Head, is_asked, at_head, from_head, reading_of}
use Rattle.restore_plan.specs.Base.{kept_in}

-- none of these is refused
abbrev pub AreKnown : List Entry → Type 0
AreKnown es = first (map first_refused es) ≡ None

pub known_join : (xs ys : List Entry) → AreKnown xs → AreKnown ys → AreKnown (xs ++ ys)
known_join [] ys h g = g
known_join (x ∷ xs) ys h g = by (first_refused x) h (known_join xs ys)
  where
    by : (o : Option ReplayFault) → first (o ∷ map first_refused xs) ≡ None → (AreKnown xs → AreKnown ys → AreKnown (xs ++ ys)) → first (o ∷ map first_refused (xs ++ ys)) ≡ None
    by None f rest = rest f g
    by (Some y) f rest = cc

filtered_known : (p : Entry → Bool) (es : List Entry) → AreKnown es → AreKnown (filter p es)
filtered_known p [] h = refl
filtered_known p (e ∷ es) h = by (p e) (first_refused e) refl h (filtered_known p es)
  where
    by : (b : Bool) (o : Option ReplayFault) → first_refused e ≡ o → first (o ∷ map first_refused es) ≡ None → (AreKnown es → AreKnown (filter p es)) → AreKnown (if b then e ∷ filter p es else filter p es)
    by true None f g rest = ap (λ (x : Option ReplayFault). first (x ∷ map first_refused (filter p es))) f ∙ rest g
    by false None f g rest = rest g
    by true (Some y) f g rest = cc
    by false (Some y) f g rest = cc

-- ---- of an entry without the items that aren't taken

cut_below : (r : Rules) (ts : Ts) (a : Action) (f : Level) → out-Action a ≡ f → refused_below ts f ≡ None → refused_below ts (out-Action (cut_action r a f)) ≡ None
cut_below r ts a (Action-F.Group items) o h = ap (refused_below ts) (actions.outs-Group (filter (takes_entry r) items)) ∙ filtered_known (takes_entry r) items h
cut_below r ts a _ o h = ap (refused_below ts) o ∙ h

cut_known : (r : Rules) (e : Entry) → first_refused e ≡ None → first_refused (cut_entry r e) ≡ None
cut_known r e h = refused_is (cut_entry r e) ∙ by (is_config e.ns) (sym (refused_is e) ∙ h)
  where
    by : (b : Bool) → (if b then None else refused_below e.ts (out-Action e.action)) ≡ None → (if b then None else refused_below e.ts (out-Action (cut_action r e.action (out-Action e.action)))) ≡ None
    by true g = refl
    by false g = cut_below r e.ts e.action (out-Action e.action) refl g

-- ---- of a document that is read as an entry

pub reading_known : (r : Rules) (l : Option Ts) (fs : Fields) (e : Entry) → entry_of fs ≡ Ok e → first_refused e ≡ None → AreKnown (kept_in (reading_of r l fs))
unfolding reading_of
reading_known r l fs e read h = from (head_of fs)
  where
    taken : (b : Bool) → AreKnown (kept_in (if b then Kept (cut_entry r e) else Passed))
    taken true = ap (λ (o : Option ReplayFault). first (o ∷ [])) (cut_known r e h)
    taken false = refl

    asked : (k : Head) (b : Bool) → AreKnown (kept_in (if b then at_head r fs k (entry_of fs) else Passed))
    asked k true = subst (λ (x : Read Entry). AreKnown (kept_in (at_head r fs k x))) (sym read) (taken (takes_entry r e))
    asked k false = refl

    from : (x : Read Head) → AreKnown (kept_in (from_head r l fs x))
    from (Err f) = refl
    from (Ok k) = asked k (is_asked l k)
