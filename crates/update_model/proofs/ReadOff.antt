-- The operators that are read act at no path that begins with `_id`.
use Rattle.std.proofs.Common.{◌≡◌, ℕ, List, [], ◌∷◌, ◌++◌, Bool, true, false, refl, Option, Some, None}
use Rattle.std.specs.Prelude.{if◌then◌else◌, option_map}
use Rattle.std.specs.List.{list_any, flat_map}
use Rattle.bson_value.specs.declared.value.Value.{Value, Value-F, out-Value}
use Rattle.doc_path.specs.Paths.{parts_of, path_fault}
use Rattle.doc_path.specs.declared.path.PathFault.{PathFault}
use Rattle.update_model.specs.declared.operator.OperatorName.{OperatorName}
use Rattle.update_model.specs.declared.operator.OperatorName.TheVariants as names
use Rattle.update_model.specs.declared.operator.Operator.{Operator}
use Rattle.update_model.specs.declared.operator.Operator.TheVariants as operators_are
use Rattle.update_model.specs.declared.operator.Number.{Number}
use Rattle.update_model.specs.declared.operator.ArrayEnd.{ArrayEnd}
use Rattle.update_model.specs.declared.fault.OpsFault.TheVariants as faults
use Rattle.update_model.specs.Conflicts.{Path, conflict}
use Rattle.update_model.specs.Arguments.{Fields, number_in, end_in, text_in, values_in, is_expression, operator_of}
use Rattle.update_model.specs.Reading.{name_of, Met, Taken, Refused, starts_with_id, met_by, met, is_some, target, targets, met_at, met_paths, met_field, all_met, first_fault, ops_fault, listed, operators_at, operators_in, operators}
use Rattle.update_model.specs.Sound.{IsOff, ActsOff, AllActOff}

abbrev NoneRefused : List Met → Type 0
NoneRefused [] = Unit {0}
NoneRefused (Taken p ∷ ms) = NoneRefused ms
NoneRefused (Refused e ∷ ms) = ⊥

pub none_refused : (seen : List Path) (ms : List Met) → first_fault seen ms ≡ None → NoneRefused ms
none_refused seen [] e = tt
none_refused seen (Refused f ∷ ms) e = cc
none_refused seen (Taken p ∷ ms) e = by (list_any (conflict p) seen) e (none_refused (p ∷ seen) ms)
  where
    by : (b : Bool) → (if b then Some faults.Conflict else first_fault (p ∷ seen) ms) ≡ None → (first_fault (p ∷ seen) ms ≡ None → NoneRefused ms) → NoneRefused ms
    by true e ih = cc
    by false e ih = ih e

pub both_none : (ms ns : List Met) → NoneRefused (ms ++ ns) → NoneRefused ms × NoneRefused ns
both_none [] ns h = (tt, h)
both_none (Taken p ∷ ms) ns h = both_none ms ns h
both_none (Refused e ∷ ms) ns h = absurd h

met_off : (text : List ℕ) (fits : Bool) (ms : List Met) → NoneRefused (met text fits ∷ ms) → IsOff (parts_of text) × NoneRefused ms
met_off text fits ms h = by (path_fault text) h
  where
    last : (b c : Bool) → starts_with_id (parts_of text) ≡ b → NoneRefused ((if b then Refused faults.ImmutableId else if c then Taken (parts_of text) else Refused faults.BadArgument) ∷ ms) → IsOff (parts_of text) × NoneRefused ms
    last true c e h = absurd h
    last false true e h = (e, h)
    last false false e h = absurd h

    by : (o : Option PathFault) → NoneRefused (met_by o (parts_of text) fits ∷ ms) → IsOff (parts_of text) × NoneRefused ms
    by (Some f) h = absurd h
    by None h = last (starts_with_id (parts_of text)) fits refl h

abbrev ListedOff : Option Operator → Type 0
ListedOff o = AllActOff (listed o)

mapped_off : {A : Type 0} (f : A → Operator) (o : Option A) → ((a : A) → ActsOff (f a)) → ListedOff (option_map f o)
mapped_off f None h = tt
mapped_off f (Some a) h = (h a, tt)

renamed_off : (path : Path) (o : Option (List ℕ)) → IsOff path → NoneRefused (target o) → ListedOff (option_map (λ t. operators_are.Rename path (parts_of t)) o)
renamed_off path None p h = tt
renamed_off path (Some t) p h = ((p, (met_off t true [] h).0), tt)

pulled_off : (path : Path) (v : Value) (b : Bool) → IsOff path → ListedOff (if b then None else Some (operators_are.Pull path v))
pulled_off path v true p = tt
pulled_off path v false p = (p, tt)

operator_off : (name : OperatorName) (path : Path) (v : Value) → IsOff path → NoneRefused (targets name v) → ListedOff (operator_of name path v)
operator_off names.Set path v p h = (p, tt)
operator_off names.Unset path v p h = (p, tt)
operator_off names.Inc path v p h = mapped_off (λ (n : Number). operators_are.Inc path n) (number_in (out-Value v)) (λ n. p)
operator_off names.Mul path v p h = mapped_off (λ (n : Number). operators_are.Mul path n) (number_in (out-Value v)) (λ n. p)
operator_off names.Rename path v p h = renamed_off path (text_in (out-Value v)) p h
operator_off names.Push path v p h = mapped_off (λ (vs : List Value). operators_are.Push path vs) (values_in v (out-Value v)) (λ vs. p)
operator_off names.AddToSet path v p h = mapped_off (λ (vs : List Value). operators_are.AddToSet path vs) (values_in v (out-Value v)) (λ vs. p)
operator_off names.Pop path v p h = mapped_off (λ (e : ArrayEnd). operators_are.Pop path e) (end_in (out-Value v)) (λ e. p)
operator_off names.Pull path v p h = pulled_off path v (is_expression (out-Value v)) p

off_append : (os ps : List Operator) → AllActOff os → AllActOff ps → AllActOff (os ++ ps)
off_append [] ps a b = b
off_append (o ∷ os) ps a b = (a.0, off_append os ps a.1 b)

all_off : {X : Type 0} (f : X → List Met) (g : X → List Operator) → ((x : X) → NoneRefused (f x) → AllActOff (g x)) → (xs : List X) → NoneRefused (flat_map f xs) → AllActOff (flat_map g xs)
all_off f g h [] n = tt
all_off f g h (x ∷ xs) n = let b = both_none (f x) (flat_map f xs) n in off_append (g x) (flat_map g xs) (h x b.0) (all_off f g h xs b.1)

at_off : (name : OperatorName) (f : List ℕ × Value) → NoneRefused (met_at name f) → AllActOff (listed (operator_of name (parts_of f.0) f.1))
at_off name f n = let m = met_off f.0 (is_some (operator_of name (parts_of f.0) f.1)) (targets name f.1) n in operator_off name (parts_of f.0) f.1 m.0 m.1

paths_off : (name : OperatorName) (v : Value-F Value) → NoneRefused (met_paths name v) → AllActOff (operators_at name v)
paths_off name (Value-F.Object fs) n = all_off (met_at name) (λ (f : List ℕ × Value). listed (operator_of name (parts_of f.0) f.1)) (at_off name) fs n
paths_off name _ n = absurd n

field_off : (o : Option OperatorName) (v : Value) → NoneRefused (met_field o v) → AllActOff (operators_in o v)
field_off None v n = absurd n
field_off (Some name) v n = paths_off name (out-Value v) n

pub read_off : (doc : Fields) → ops_fault doc ≡ None → AllActOff (operators doc)
read_off doc e =
    all_off (λ (f : List ℕ × Value). met_field (name_of f.0) f.1) (λ (f : List ℕ × Value). operators_in (name_of f.0) f.1) (λ f. field_off (name_of f.0) f.1) doc
    (none_refused [] (all_met doc) e)
