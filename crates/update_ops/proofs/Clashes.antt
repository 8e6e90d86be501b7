-- The texts of two paths clash exactly where the paths conflict, so the first fault behind texts is the one behind paths.
use Rattle.std.proofs.Common.{◌≡◌, ℕ, List, [], ◌∷◌, ◌++◌, Bool, true, false, refl, sym, ap, ◌∙◌, subst, arith, Option, Some, None, append_assoc, inl, inr, append-nil, length, take, get_or, ◌<◌}
use Rattle.std.specs.Prelude.{◌||◌, ◌&&◌, ◌==◌, if◌then◌else◌}
use Rattle.std.specs.List.{list_any, flat_map}
use Rattle.std.specs.Str.{bytes_eq}
use Rattle.std.proofs.lemmas.Bool.{cases_Bool}
use Rattle.std.proofs.lemmas.Grind.{common_steps}
use Rattle.bson_value.specs.declared.value.Value.{Value, Value-F, out-Value}
use Rattle.doc_path.specs.Paths.{dollar, part_fault, first_of, first_fault as first_bad, path_fault, parts_of}
use Rattle.doc_path.specs.declared.path.PathFault.{PathFault}
use Rattle.doc_path.specs.declared.path.PathFault.TheVariants as bad
use Rattle.update_model.specs.declared.operator.OperatorName.{OperatorName}
use Rattle.update_model.specs.declared.operator.OperatorName.TheVariants as names
use Rattle.update_model.specs.declared.fault.OpsFault.TheVariants as faults
use Rattle.update_model.specs.Conflicts.{Path, begins, conflict}
use Rattle.update_model.specs.Arguments.{Fields, text_in, operator_of}
use Rattle.update_model.specs.Reading.{Met, Taken, Refused, name_of, starts_with_id, met_by, met, is_some, target, targets, met_at, met_paths, met_field, all_met, first_fault, ops_fault, IsFault}
use Rattle.update_ops.specs.Prefixes.{Text, starts, clash}
use Rattle.update_ops.specs.Keys.{key, HasNoZero, HaveNoZero}
use Rattle.update_ops.specs.Behind.{with_text, fault_behind, Goes, Stops}
use Rattle.update_ops.proofs.Behind.{stops_in}
use Rattle.update_model.specs.declared.fault.OpsFault.{OpsFault}
use Rattle.update_ops.proofs.TextOrder.{any_insert}

-- ---- one name and what is behind it

byte_zero : (b : ℕ) → (b == 0) ≡ false → (0 == b) ≡ false
byte_zero b e = grind (arith, common_steps)

starts_ended : (j k : List ℕ) (s t : Text) → HasNoZero j → HasNoZero k → starts (j ++ (0 ∷ s)) (k ++ (0 ∷ t)) ≡ bytes_eq j k && starts s t
starts_ended [] [] s t a b = refl
starts_ended [] (c ∷ k) s t a b = let f : (c == 0) ≡ false = grind arith in let g = byte_zero c f in rw g refl
starts_ended (c ∷ j) [] s t a b = let f : (c == 0) ≡ false = grind arith in rw f refl
starts_ended (c ∷ j) (d ∷ k) s t a b =
    let f : HasNoZero j = grind arith in
    let g : HasNoZero k = grind arith in
    let ih = starts_ended j k s t f g in
    grind (arith, ih)

key-cons : (k : List ℕ) (p : Path) → key (k ∷ p) ≡ k ++ (0 ∷ key p)
key-cons k p = append_assoc k (0 ∷ []) (key p)

pub starts_key : (p q : Path) → HaveNoZero p → HaveNoZero q → starts (key p) (key q) ≡ begins p q
starts_key [] q a b = refl
starts_key (k ∷ p) [] a b = rw (key-cons k p) (ends k)
  where
    ends : (j : List ℕ) → starts (j ++ (0 ∷ key p)) [] ≡ false
    ends [] = refl
    ends (c ∷ j) = refl
starts_key (k ∷ p) (j ∷ q) a b = rw (key-cons k p, key-cons j q, starts_ended k j (key p) (key q) a.0 b.0, starts_key p q a.1 b.1) refl

pub clash_key : (p q : Path) → HaveNoZero p → HaveNoZero q → clash (key p) (key q) ≡ conflict p q
clash_key p q a b = rw (starts_key p q a b, starts_key q p b a) refl

-- ---- paths that can be read have no zero

no_zero_part : (k : List ℕ) → part_fault k ≡ None → HasNoZero k
no_zero_part [] e = refl
no_zero_part (c ∷ k) e =
    elim (cases_Bool (c == dollar)) [
      | inl d ↦ (let f : Some bad.Dollar ≡ None = rw d at e in cc)
      | inr d ↦ elim (cases_Bool (list_any (λ b. b == 0) (c ∷ k))) [
        | inl z ↦ (let f : Some bad.Zero ≡ None = rw (d, z) at e in cc)
        | inr z ↦ z
      ]
    ]

no_zeros : (p : Path) → first_bad p ≡ None → HaveNoZero p
no_zeros [] e = tt
no_zeros (k ∷ p) e = by (part_fault k) refl e (no_zeros p)
  where
    by : (o : Option PathFault) → part_fault k ≡ o → first_of o (first_bad p) ≡ None → (first_bad p ≡ None → HaveNoZero p) → HaveNoZero (k ∷ p)
    by None f e ih = (no_zero_part k f, ih e)
    by (Some x) f e ih = cc

path_no_zeros : (text : List ℕ) → path_fault text ≡ None → HaveNoZero (parts_of text)
path_no_zeros [] e = cc
path_no_zeros (c ∷ cs) e = no_zeros (parts_of (c ∷ cs)) e

-- ---- all that is met

abbrev IsClean : Met → Type 0
IsClean (Taken p) = HaveNoZero p
IsClean (Refused e) = Unit {0}

abbrev AreClean : List Met → Type 0
AreClean [] = Unit {0}
AreClean (m ∷ ms) = IsClean m × AreClean ms

clean_append : (ms ns : List Met) → AreClean ms → AreClean ns → AreClean (ms ++ ns)
clean_append [] ns a b = b
clean_append (m ∷ ms) ns a b = (a.0, clean_append ms ns a.1 b)

clean_all : {X : Type 0} (f : X → List Met) → ((x : X) → AreClean (f x)) → (xs : List X) → AreClean (flat_map f xs)
clean_all f h [] = tt
clean_all f h (x ∷ xs) = clean_append (f x) (flat_map f xs) (h x) (clean_all f h xs)

clean_met : (text : List ℕ) (fits : Bool) → IsClean (met text fits)
clean_met text fits = by (path_fault text) refl
  where
    last : (b c : Bool) → HaveNoZero (parts_of text) → IsClean (if b then Refused faults.ImmutableId else if c then Taken (parts_of text) else Refused faults.BadArgument)
    last true c h = tt
    last false true h = h
    last false false h = tt

    by : (o : Option PathFault) → path_fault text ≡ o → IsClean (met_by o (parts_of text) fits)
    by (Some f) e = tt
    by None e = last (starts_with_id (parts_of text)) fits (path_no_zeros text e)

clean_target : (o : Option (List ℕ)) → AreClean (target o)
clean_target None = tt
clean_target (Some text) = (clean_met text true, tt)

clean_targets : (name : OperatorName) (v : Value) → AreClean (targets name v)
clean_targets names.Set v = tt
clean_targets names.Unset v = tt
clean_targets names.Inc v = tt
clean_targets names.Mul v = tt
clean_targets names.Rename v = clean_target (text_in (out-Value v))
clean_targets names.Push v = tt
clean_targets names.AddToSet v = tt
clean_targets names.Pop v = tt
clean_targets names.Pull v = tt

clean_at : (name : OperatorName) (f : List ℕ × Value) → AreClean (met_at name f)
clean_at name f = (clean_met f.0 (is_some (operator_of name (parts_of f.0) f.1)), clean_targets name f.1)

clean_paths : (name : OperatorName) (v : Value-F Value) → AreClean (met_paths name v)
clean_paths name (Value-F.Object fs) = clean_all (met_at name) (clean_at name) fs
clean_paths name _ = (tt, tt)

clean_field : (o : Option OperatorName) (v : Value) → AreClean (met_field o v)
clean_field None v = (tt, tt)
clean_field (Some name) v = clean_paths name (out-Value v)

pub clean_doc : (doc : Fields) → AreClean (all_met doc)
clean_doc doc = clean_all (λ (f : List ℕ × Value). met_field (name_of f.0) f.1) (λ f. clean_field (name_of f.0) f.1) doc

-- ---- the two first faults are one

abbrev SameClashes : List Text → List Path → Type 0
SameClashes ts seen = (q : Path) → HaveNoZero q → list_any (clash (key q)) ts ≡ list_any (conflict q) seen

same_more : (ts : List Text) (seen : List Path) (p : Path) → HaveNoZero p → SameClashes ts seen → SameClashes (with_text ts (key p)) (p ∷ seen)
same_more ts seen p z same q y = any_insert (clash (key q)) ts (key p) ∙ (λ i. clash_key q p y z i || same q y i)

same_fault : (ms : List Met) (ts : List Text) (seen : List Path) → AreClean ms → SameClashes ts seen → fault_behind ts ms ≡ first_fault seen ms
same_fault [] ts seen c same = refl
same_fault (Refused e ∷ ms) ts seen c same = refl
same_fault (Taken p ∷ ms) ts seen c same =
    (λ i. if same p c.0 i then Some faults.Conflict else same_fault ms (with_text ts (key p)) (p ∷ seen) c.1 (same_more ts seen p c.0 same) i)

pub fault_is : (doc : Fields) → fault_behind [] (all_met doc) ≡ ops_fault doc
fault_is doc = same_fault (all_met doc) [] [] (clean_doc doc) (λ q z. refl)

-- ---- what the reading of a document tells

abbrev met_of : List ℕ × Value → List Met
met_of f = met_field (name_of f.0) f.1

pub fault_told : (doc : Fields) (i : ℕ) (f : List ℕ × Value) (b : List Text) (e : OpsFault) → i < length doc → f ≡ get_or doc i f →
    Goes (all_met (take i doc)) [] b → Stops (met_field (name_of f.0) f.1) b e → IsFault e (ops_fault doc)
fault_told doc i f b e l at g s =
    subst (λ (o : Option OpsFault). IsFault e o) (ap (fault_behind []) (append-nil (all_met doc)) ∙ fault_is doc) (stops_in met_of doc i f [] b e l at g s [])

pub none_told : (doc : Fields) (b : List Text) → Goes (all_met doc) [] b → ops_fault doc ≡ None
none_told doc b g = sym (fault_is doc) ∙ (ap (fault_behind []) (sym (append-nil (all_met doc))) ∙ g [])
