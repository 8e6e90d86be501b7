-- The paths of operators that were read don't conflict.
use Rattle.std.proofs.Common.{◌≡◌, ℕ, List, [], ◌∷◌, ◌++◌, Bool, true, false, refl, sym, ap, ◌∙◌, subst, append_assoc, Option, Some, None}
use Rattle.std.specs.Prelude.{⊤, ◌||◌, if◌then◌else◌, option_map}
use Rattle.std.specs.List.{list_any, flat_map}
use Rattle.bson_value.specs.declared.value.Value.{Value, Value-F, out-Value}
use Rattle.doc_path.specs.Paths.{parts_of, path_fault}
use Rattle.doc_path.specs.declared.path.PathFault.{PathFault}
use Rattle.update_model.specs.declared.operator.OperatorName.{OperatorName}
use Rattle.update_model.specs.declared.operator.OperatorName.TheVariants as names
use Rattle.update_model.specs.declared.operator.Operator.{Operator}
use Rattle.update_model.specs.declared.operator.Operator.TheVariants as operators_are
use Rattle.update_model.specs.declared.operator.Number.{Number}
use Rattle.update_model.specs.declared.operator.ArrayEnd.{ArrayEnd}
use Rattle.update_model.specs.declared.fault.OpsFault.TheVariants as faults
use Rattle.update_model.specs.Conflicts.{Path, conflict, begins}
use Rattle.update_model.specs.Arguments.{Fields, number_in, end_in, text_in, values_in, is_expression, operator_of}
use Rattle.update_model.specs.Reading.{name_of, Met, Taken, Refused, starts_with_id, met_by, met, is_some, target, targets, met_at, met_paths, met_field, all_met, first_fault, ops_fault, listed, operators_at, operators_in, operators}
use Rattle.unchanged_updates.proofs.Acts.{ApartFrom, first_path, other_paths}
use Rattle.touch_laws.proofs.Bridge.{both_no}
use Rattle.update_model.proofs.ReadOff.{none_refused, both_none}

abbrev pub paths_of : Operator → List Path
paths_of o = first_path o ∷ other_paths o

abbrev pub all_paths : List Operator → List Path
all_paths [] = []
all_paths (o ∷ os) = paths_of o ++ all_paths os

-- no two of the paths conflict
abbrev pub Pairwise : List Path → Type 0
Pairwise [] = ⊤
Pairwise (P ∷ Ps) = ApartFrom P Ps × Pairwise Ps

-- ---- the paths that are met

abbrev taken : List Met → List Path
taken [] = []
taken (Taken p ∷ ms) = p ∷ taken ms
taken (Refused e ∷ ms) = taken ms

abbrev AllApart : List Path → List Path → Type 0
AllApart [] ps = ⊤
AllApart (s ∷ seen) ps = ApartFrom s ps × AllApart seen ps

turned : (a b : Bool) → a || b ≡ false → b || a ≡ false
turned true b e = cc
turned false true e = cc
turned false false e = refl

none_apart : (seen : List Path) → AllApart seen []
none_apart [] = tt
none_apart (s ∷ seen) = (tt, none_apart seen)

with_one : (p : Path) (ps seen : List Path) → list_any (conflict p) seen ≡ false → AllApart seen ps → AllApart seen (p ∷ ps)
with_one p ps [] e a = tt
with_one p ps (s ∷ seen) e a = let b = both_no (conflict p s) (list_any (conflict p) seen) e in ((turned (begins p s) (begins s p) b.0, a.0), with_one p ps seen b.1 a.1)

met_apart : (seen : List Path) (ms : List Met) → first_fault seen ms ≡ None → AllApart seen (taken ms) × Pairwise (taken ms)
met_apart seen [] e = (none_apart seen, tt)
met_apart seen (Refused f ∷ ms) e = cc
met_apart seen (Taken p ∷ ms) e = by (list_any (conflict p) seen) refl e (met_apart (p ∷ seen) ms)
  where
    by : (b : Bool) → list_any (conflict p) seen ≡ b → (if b then Some faults.Conflict else first_fault (p ∷ seen) ms) ≡ None → (first_fault (p ∷ seen) ms ≡ None → AllApart (p ∷ seen) (taken ms) × Pairwise (taken ms)) → AllApart seen (p ∷ taken ms) × Pairwise (p ∷ taken ms)
    by true n e ih = cc
    by false n e ih = (let h = ih e in (with_one p (taken ms) seen n h.0.1, (h.0.0, h.1)))

-- ---- they are those of the operators

abbrev NoneRefused : List Met → Type 0
NoneRefused [] = ⊤
NoneRefused (Taken p ∷ ms) = NoneRefused ms
NoneRefused (Refused e ∷ ms) = ⊥

taken_append : (ms ns : List Met) → taken (ms ++ ns) ≡ taken ms ++ taken ns
taken_append [] ns = refl
taken_append (Taken p ∷ ms) ns = ap (λ (z : List Path). p ∷ z) (taken_append ms ns)
taken_append (Refused e ∷ ms) ns = taken_append ms ns

paths_append : (os ps : List Operator) → all_paths (os ++ ps) ≡ all_paths os ++ all_paths ps
paths_append [] ps = refl
paths_append (o ∷ os) ps = ap (λ (z : List Path). first_path o ∷ z) (ap (λ (z : List Path). other_paths o ++ z) (paths_append os ps) ∙ sym (append_assoc (other_paths o) (all_paths os) (all_paths ps)))

-- a path that is met and not refused is taken, and its operand too
met_taken : (text : List ℕ) (fits : Bool) (ms : List Met) → NoneRefused (met text fits ∷ ms) → (met text fits ≡ Taken (parts_of text)) × (fits ≡ true) × NoneRefused ms
met_taken text fits ms h = by (path_fault text) h
  where
    last : (b c : Bool) → NoneRefused ((if b then Refused faults.ImmutableId else if c then Taken (parts_of text) else Refused faults.BadArgument) ∷ ms) →
        ((if b then Refused faults.ImmutableId else if c then Taken (parts_of text) else Refused faults.BadArgument) ≡ Taken (parts_of text)) × (c ≡ true) × NoneRefused ms
    last true c h = absurd h
    last false true h = (refl, refl, h)
    last false false h = absurd h

    by : (o : Option PathFault) → NoneRefused (met_by o (parts_of text) fits ∷ ms) → (met_by o (parts_of text) fits ≡ Taken (parts_of text)) × (fits ≡ true) × NoneRefused ms
    by (Some f) h = absurd h
    by None h = last (starts_with_id (parts_of text)) fits h

mapped_taken : {A : Type 0} (f : A → Operator) (o : Option A) (path : Path) → ((a : A) → all_paths (f a ∷ []) ≡ path ∷ []) → is_some (option_map f o) ≡ true → path ∷ [] ≡ all_paths (listed (option_map f o))
mapped_taken f None path h e = cc
mapped_taken f (Some a) path h e = sym (h a)

renamed_taken : (path : Path) (o : Option (List ℕ)) → is_some (option_map (λ t. operators_are.Rename path (parts_of t)) o) ≡ true → NoneRefused (target o) → path ∷ taken (target o) ≡ all_paths (listed (option_map (λ t. operators_are.Rename path (parts_of t)) o))
renamed_taken path None e h = cc
renamed_taken path (Some t) e h = ap (λ (m : Met). path ∷ taken (m ∷ [])) (met_taken t true [] h).0

pulled_taken : (path : Path) (v : Value) (b : Bool) → is_some (if b then None else Some (operators_are.Pull path v)) ≡ true → path ∷ [] ≡ all_paths (listed (if b then None else Some (operators_are.Pull path v)))
pulled_taken path v true e = cc
pulled_taken path v false e = refl

operator_taken : (name : OperatorName) (path : Path) (v : Value) → is_some (operator_of name path v) ≡ true → NoneRefused (targets name v) → path ∷ taken (targets name v) ≡ all_paths (listed (operator_of name path v))
operator_taken names.Set path v e h = refl
operator_taken names.Unset path v e h = refl
operator_taken names.Inc path v e h = mapped_taken (λ (n : Number). operators_are.Inc path n) (number_in (out-Value v)) path (λ n. refl) e
operator_taken names.Mul path v e h = mapped_taken (λ (n : Number). operators_are.Mul path n) (number_in (out-Value v)) path (λ n. refl) e
operator_taken names.Rename path v e h = renamed_taken path (text_in (out-Value v)) e h
operator_taken names.Push path v e h = mapped_taken (λ (vs : List Value). operators_are.Push path vs) (values_in v (out-Value v)) path (λ vs. refl) e
operator_taken names.AddToSet path v e h = mapped_taken (λ (vs : List Value). operators_are.AddToSet path vs) (values_in v (out-Value v)) path (λ vs. refl) e
operator_taken names.Pop path v e h = mapped_taken (λ (end : ArrayEnd). operators_are.Pop path end) (end_in (out-Value v)) path (λ end. refl) e
operator_taken names.Pull path v e h = pulled_taken path v (is_expression (out-Value v)) e

at_taken : (name : OperatorName) (f : List ℕ × Value) → NoneRefused (met_at name f) → taken (met_at name f) ≡ all_paths (listed (operator_of name (parts_of f.0) f.1))
at_taken name f n =
    let m = met_taken f.0 (is_some (operator_of name (parts_of f.0) f.1)) (targets name f.1) n in
    ap (λ (z : Met). taken (z ∷ targets name f.1)) m.0 ∙ operator_taken name (parts_of f.0) f.1 m.1 m.2

all_taken : {X : Type 0} (f : X → List Met) (g : X → List Operator) → ((x : X) → NoneRefused (f x) → taken (f x) ≡ all_paths (g x)) → (xs : List X) → NoneRefused (flat_map f xs) → taken (flat_map f xs) ≡ all_paths (flat_map g xs)
all_taken f g h [] n = refl
all_taken f g h (x ∷ xs) n =
    let b = both_none (f x) (flat_map f xs) n in
    taken_append (f x) (flat_map f xs) ∙ (ap (λ (z : List Path). z ++ taken (flat_map f xs)) (h x b.0) ∙ (ap (λ (z : List Path). all_paths (g x) ++ z) (all_taken f g h xs b.1) ∙ sym (paths_append (g x) (flat_map g xs))))

paths_taken : (name : OperatorName) (v : Value-F Value) → NoneRefused (met_paths name v) → taken (met_paths name v) ≡ all_paths (operators_at name v)
paths_taken name (Value-F.Object fs) n = all_taken (met_at name) (λ (f : List ℕ × Value). listed (operator_of name (parts_of f.0) f.1)) (at_taken name) fs n
paths_taken name _ n = absurd n

field_taken : (o : Option OperatorName) (v : Value) → NoneRefused (met_field o v) → taken (met_field o v) ≡ all_paths (operators_in o v)
field_taken None v n = absurd n
field_taken (Some name) v n = paths_taken name (out-Value v) n

pub read_apart : (doc : Fields) → ops_fault doc ≡ None → Pairwise (all_paths (operators doc))
read_apart doc e =
    subst Pairwise
    (all_taken (λ (f : List ℕ × Value). met_field (name_of f.0) f.1) (λ (f : List ℕ × Value). operators_in (name_of f.0) f.1) (λ f. field_taken (name_of f.0) f.1) doc (none_refused [] (all_met doc) e))
    (met_apart [] (all_met doc) e).1
