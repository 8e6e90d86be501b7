-- An array that an update cut: its other elements are as before the update, whatever its operators did one after the other.
use Rattle.std.proofs.Common.{◌≡◌, ◌≢◌, ℕ, List, [], ◌∷◌, ◌++◌, Bool, true, false, refl, sym, ap, ◌∙◌, subst, Option, Some, None, inl, inr, cond, length}
use Rattle.std.specs.Prelude.{⊤, ◌⊎◌, ◌||◌, if◌then◌else◌, Ok, Err, option_map, ◌==◌, nat_lt}
use Rattle.std.specs.List.{list_any, flat_map}
use Rattle.bson_value.specs.declared.value.Value.{Value, Value-F, out-Value}
use Rattle.bson_value.specs.Place.{Shape, an_array, look}
use Rattle.doc_path.specs.Paths.{parts_of, path_fault}
use Rattle.doc_path.specs.declared.path.PathFault.{PathFault}
use Rattle.doc_path.specs.Touch.{key_of}
use Rattle.doc_path.specs.Places.{keys}
use Rattle.update_model.specs.declared.mark.Mark.{Mark}
use Rattle.update_model.specs.declared.mark.Made.TheVariants as made
use Rattle.update_model.specs.declared.operator.Operator.{Operator}
use Rattle.update_model.specs.declared.operator.Operator.TheVariants as operators_are
use Rattle.update_model.specs.declared.operator.OperatorName.{OperatorName}
use Rattle.update_model.specs.declared.operator.OperatorName.TheVariants as names
use Rattle.update_model.specs.declared.operator.Number.{Number}
use Rattle.update_model.specs.declared.operator.ArrayEnd.{ArrayEnd}
use Rattle.update_model.specs.declared.fault.OpsFault.TheVariants as faults
use Rattle.update_model.specs.declared.fault.UpdateFault.{UpdateFault}
use Rattle.update_model.specs.Conflicts.{Path, conflict}
use Rattle.update_model.specs.Arguments.{Fields, number_in, end_in, text_in, values_in, is_expression, operator_of}
use Rattle.update_model.specs.Reading.{name_of, Met, Taken, Refused, starts_with_id, met_by, met, is_some, target, targets, met_at, met_paths, met_field, all_met, first_fault, ops_fault, listed, operators_at, operators_in, operators}
use Rattle.update_model.specs.Steps.{Trace, after, marks_of}
use Rattle.update_model.specs.Acts.{Act, Steps, Oversized, act}
use Rattle.update_model.specs.Acts as acts
use Rattle.update_model.specs.declared.fault.UpdateFault.TheVariants as update_faults
use Rattle.update_model.specs.Updating.{Outcome, fields_of, refusal_at_end, ended, and_more, on_act, outcome, byte_limit, level_limit}
use Rattle.bson_value.specs.Levels.{levels_of}
use Rattle.bson_value.specs.Spelling.{document_text}
use Rattle.doc_path.specs.Paths.{dot}
use Rattle.std.specs.List.{onto_first}
use Rattle.std.proofs.lemmas.List.Elements.{All-nil, All-cons}
use Rattle.update_model.proofs.MarkTheory.{In, in_append}
use Rattle.update_replay.proofs.Kept.{no_some, conflict_turned, Kept, kept_none, kept_then, at_place}
use Rattle.update_replay.specs.Plain.{Undotted, ArePlain}
use Rattle.update_replay.proofs.Spared.{CutAt, IsCutBy, Does, IsDone, act_does, IsMarked, AllMarked}
use Rattle.update_model.proofs.ReadOff.{both_none}

-- ---- the paths of operators

abbrev pub paths_of : Operator → List Path
paths_of (operators_are.Set path a) = path ∷ []
paths_of (operators_are.Unset path) = path ∷ []
paths_of (operators_are.Inc path n) = path ∷ []
paths_of (operators_are.Mul path n) = path ∷ []
paths_of (operators_are.Rename from to) = from ∷ (to ∷ [])
paths_of (operators_are.Push path vs) = path ∷ []
paths_of (operators_are.AddToSet path vs) = path ∷ []
paths_of (operators_are.Pop path end) = path ∷ []
paths_of (operators_are.Pull path a) = path ∷ []

abbrev pub all_paths : List Operator → List Path
all_paths os = flat_map paths_of os

abbrev pub InPaths : Path → List Path → Type 0
InPaths q [] = ⊥
InPaths q (p ∷ ps) = (q ≡ p) ⊎ InPaths q ps

-- none of the paths conflicts with this one
abbrev pub AllApart : Path → List Path → Type 0
AllApart q [] = ⊤
AllApart q (p ∷ ps) = (conflict p q ≡ false) × AllApart q ps

abbrev pub Pairwise : List Path → Type 0
Pairwise [] = ⊤
Pairwise (p ∷ ps) = AllApart p ps × Pairwise ps

in_left : (q : Path) (ps qs : List Path) → InPaths q ps → InPaths q (ps ++ qs)
in_left q [] qs h = absurd h
in_left q (p ∷ ps) qs (inl e) = inl e
in_left q (p ∷ ps) qs (inr h) = inr (in_left q ps qs h)

in_right : (q : Path) (ps qs : List Path) → InPaths q qs → InPaths q (ps ++ qs)
in_right q [] qs h = h
in_right q (p ∷ ps) qs h = inr (in_right q ps qs h)

apart_left : (q : Path) (ps qs : List Path) → AllApart q (ps ++ qs) → AllApart q ps
apart_left q [] qs h = tt
apart_left q (p ∷ ps) qs h = (h.0, apart_left q ps qs h.1)

apart_right : (q : Path) (ps qs : List Path) → AllApart q (ps ++ qs) → AllApart q qs
apart_right q [] qs h = h
apart_right q (p ∷ ps) qs h = apart_right q ps qs h.1

apart_in : (q p : Path) (ps : List Path) → AllApart q ps → InPaths p ps → conflict p q ≡ false
apart_in q p [] h i = absurd i
apart_in q p (r ∷ ps) h (inl e) = ap (λ (z : Path). conflict z q) e ∙ h.0
apart_in q p (r ∷ ps) h (inr i) = apart_in q p ps h.1 i

later_pairs : (ps qs : List Path) → Pairwise (ps ++ qs) → Pairwise qs
later_pairs [] qs h = h
later_pairs (p ∷ ps) qs h = later_pairs ps qs h.1

-- a path is apart from all later ones, and from all earlier ones
behind_pairs : (ps qs : List Path) (q : Path) → Pairwise (ps ++ qs) → InPaths q ps → AllApart q qs
behind_pairs [] qs q h i = absurd i
behind_pairs (p ∷ ps) qs q h (inl e) = subst (λ (z : Path). AllApart z qs) (sym e) (apart_right p ps qs h.0)
behind_pairs (p ∷ ps) qs q h (inr i) = behind_pairs ps qs q h.1 i

before_pairs : (ps qs : List Path) (q : Path) → Pairwise (ps ++ qs) → InPaths q qs → AllApart q ps
before_pairs [] qs q h i = tt
before_pairs (p ∷ ps) qs q h i = (conflict_turned p q ∙ apart_in p q (ps ++ qs) h.0 (in_right q ps qs i), before_pairs ps qs q h.1 i)

-- ---- what is read has paths that are pairwise apart

abbrev taken : List Met → List Path
taken [] = []
taken (Taken p ∷ ms) = p ∷ taken ms
taken (Refused e ∷ ms) = taken ms

abbrev NoneRefused : List Met → Type 0
NoneRefused [] = ⊤
NoneRefused (Taken p ∷ ms) = NoneRefused ms
NoneRefused (Refused e ∷ ms) = ⊥

AllBehind : List Path → List Path → Type 0
AllBehind seen ps = (s : Path) → InPaths s seen → AllApart s ps

pub first_false : (a b : Bool) → (a || b) ≡ false → a ≡ false
first_false true b e = e
first_false false b e = refl

pub second_false : (a b : Bool) → (a || b) ≡ false → b ≡ false
second_false true b e = cc
second_false false b e = e

none_conflicts : (p s : Path) (seen : List Path) → list_any (conflict p) seen ≡ false → InPaths s seen → conflict p s ≡ false
none_conflicts p s [] e i = absurd i
none_conflicts p s (r ∷ seen) e (inl f) = ap (conflict p) f ∙ first_false (conflict p r) (list_any (conflict p) seen) e
none_conflicts p s (r ∷ seen) e (inr i) = none_conflicts p s seen (second_false (conflict p r) (list_any (conflict p) seen) e) i

record Sound (seen : List Path) (ms : List Met) : Type 0 where
  none : NoneRefused ms
  behind : (s : Path) → InPaths s seen → AllApart s (taken ms)
  pairs : Pairwise (taken ms)

sound : (seen : List Path) (ms : List Met) → first_fault seen ms ≡ None → Sound seen ms
sound seen [] e = record { none = tt; behind = λ s i. tt; pairs = tt }
sound seen (Refused f ∷ ms) e = cc
sound seen (Taken p ∷ ms) e = by (list_any (conflict p) seen) refl e (sound (p ∷ seen) ms)
  where
    by : (b : Bool) → list_any (conflict p) seen ≡ b → (if b then Some faults.Conflict else first_fault (p ∷ seen) ms) ≡ None → (first_fault (p ∷ seen) ms ≡ None → Sound (p ∷ seen) ms) → Sound seen (Taken p ∷ ms)
    by true f g ih = cc
    by false f g ih = let h = ih g in record {
      none = h.none;
      behind = λ s i. (none_conflicts p s seen f i, h.behind s (inr i));
      pairs = (h.behind p (inl refl), h.pairs);
    }

taken_append : (ms ns : List Met) → taken (ms ++ ns) ≡ taken ms ++ taken ns
taken_append [] ns = refl
taken_append (Taken p ∷ ms) ns = ap (λ (z : List Path). p ∷ z) (taken_append ms ns)
taken_append (Refused e ∷ ms) ns = taken_append ms ns

append_thrice : (a b c : List Path) → (a ++ b) ++ c ≡ a ++ (b ++ c)
append_thrice [] b c = refl
append_thrice (p ∷ a) b c = ap (λ (z : List Path). p ∷ z) (append_thrice a b c)

paths_append : (os ps : List Operator) → all_paths (os ++ ps) ≡ all_paths os ++ all_paths ps
paths_append [] ps = refl
paths_append (o ∷ os) ps = ap (λ (z : List Path). paths_of o ++ z) (paths_append os ps) ∙ sym (append_thrice (paths_of o) (all_paths os) (all_paths ps))

-- what is met at a path that isn't refused
met_taken : (text : List ℕ) (fits : Bool) (ms : List Met) → NoneRefused (met text fits ∷ ms) → (met text fits ≡ Taken (parts_of text)) × (fits ≡ true) × NoneRefused ms
met_taken text fits ms h = by (path_fault text) h
  where
    last : (b c : Bool) → NoneRefused ((if b then Refused faults.ImmutableId else if c then Taken (parts_of text) else Refused faults.BadArgument) ∷ ms) →
        ((if b then Refused faults.ImmutableId else if c then Taken (parts_of text) else Refused faults.BadArgument) ≡ Taken (parts_of text)) × (c ≡ true) × NoneRefused ms
    last true c e = absurd e
    last false true e = (refl, refl, e)
    last false false e = absurd e

    by : (o : Option PathFault) → NoneRefused (met_by o (parts_of text) fits ∷ ms) → (met_by o (parts_of text) fits ≡ Taken (parts_of text)) × (fits ≡ true) × NoneRefused ms
    by (Some f) h = absurd h
    by None h = last (starts_with_id (parts_of text)) fits h

mapped_paths : {A : Type 0} (f : A → Operator) (o : Option A) (path : Path) → ((a : A) → paths_of (f a) ≡ path ∷ []) → is_some (option_map f o) ≡ true → all_paths (listed (option_map f o)) ≡ path ∷ []
mapped_paths f None path h e = cc
mapped_paths f (Some a) path h e = ap (λ (z : List Path). z ++ []) (h a)

renamed_paths : (path : Path) (o : Option (List ℕ)) → NoneRefused (target o) → is_some (option_map (λ t. operators_are.Rename path (parts_of t)) o) ≡ true →
    all_paths (listed (option_map (λ t. operators_are.Rename path (parts_of t)) o)) ≡ path ∷ taken (target o)
renamed_paths path None h e = cc
renamed_paths path (Some t) h e = sym (ap (λ (m : Met). path ∷ taken (m ∷ [])) (met_taken t true [] h).0)

pulled_paths : (path : Path) (v : Value) (b : Bool) → is_some (if b then None else Some (operators_are.Pull path v)) ≡ true → all_paths (listed (if b then None else Some (operators_are.Pull path v))) ≡ path ∷ []
pulled_paths path v true e = cc
pulled_paths path v false e = refl

operator_paths : (name : OperatorName) (path : Path) (v : Value) → NoneRefused (targets name v) → is_some (operator_of name path v) ≡ true → all_paths (listed (operator_of name path v)) ≡ path ∷ taken (targets name v)
operator_paths names.Set path v h e = refl
operator_paths names.Unset path v h e = refl
operator_paths names.Inc path v h e = mapped_paths (λ (n : Number). operators_are.Inc path n) (number_in (out-Value v)) path (λ n. refl) e
operator_paths names.Mul path v h e = mapped_paths (λ (n : Number). operators_are.Mul path n) (number_in (out-Value v)) path (λ n. refl) e
operator_paths names.Rename path v h e = renamed_paths path (text_in (out-Value v)) h e
operator_paths names.Push path v h e = mapped_paths (λ (vs : List Value). operators_are.Push path vs) (values_in v (out-Value v)) path (λ vs. refl) e
operator_paths names.AddToSet path v h e = mapped_paths (λ (vs : List Value). operators_are.AddToSet path vs) (values_in v (out-Value v)) path (λ vs. refl) e
operator_paths names.Pop path v h e = mapped_paths (λ (x : ArrayEnd). operators_are.Pop path x) (end_in (out-Value v)) path (λ x. refl) e
operator_paths names.Pull path v h e = pulled_paths path v (is_expression (out-Value v)) e

all_taken : {X : Type 0} (f : X → List Met) (g : X → List Operator) → ((x : X) → NoneRefused (f x) → all_paths (g x) ≡ taken (f x)) → (xs : List X) → NoneRefused (flat_map f xs) → all_paths (flat_map g xs) ≡ taken (flat_map f xs)
all_taken f g h [] n = refl
all_taken f g h (x ∷ xs) n =
    let b = both_none (f x) (flat_map f xs) n in
    paths_append (g x) (flat_map g xs) ∙ ((λ i. h x b.0 i ++ all_taken f g h xs b.1 i) ∙ sym (taken_append (f x) (flat_map f xs)))

at_paths : (name : OperatorName) (f : List ℕ × Value) → NoneRefused (met_at name f) → all_paths (listed (operator_of name (parts_of f.0) f.1)) ≡ taken (met_at name f)
at_paths name f n =
    let fits = is_some (operator_of name (parts_of f.0) f.1) in
    let m = met_taken f.0 fits (targets name f.1) n in
    operator_paths name (parts_of f.0) f.1 m.2 m.1 ∙ sym (ap (λ (z : Met). taken (z ∷ targets name f.1)) m.0)

field_paths : (name : OperatorName) (v : Value-F Value) → NoneRefused (met_paths name v) → all_paths (operators_at name v) ≡ taken (met_paths name v)
field_paths name (Value-F.Object fs) n = all_taken (met_at name) (λ (f : List ℕ × Value). listed (operator_of name (parts_of f.0) f.1)) (at_paths name) fs n
field_paths name _ n = absurd n

named_paths : (o : Option OperatorName) (v : Value) → NoneRefused (met_field o v) → all_paths (operators_in o v) ≡ taken (met_field o v)
named_paths None v n = absurd n
named_paths (Some name) v n = field_paths name (out-Value v) n

-- ---- the paths that are read have names without dots

abbrev pub AllPlain : List Path → Type 0
AllPlain [] = ⊤
AllPlain (p ∷ ps) = ArePlain p × AllPlain ps

undotted_first : (b : ℕ) (ps : Path) → Undotted b → ArePlain ps → ArePlain (onto_first b ps)
undotted_first b [] h a = (All-cons Undotted b [] h (All-nil Undotted), tt)
undotted_first b (k ∷ ps) h a = (All-cons Undotted b k h a.0, a.1)

parts_plain : (text : List ℕ) → ArePlain (parts_of text)
parts_plain [] = (All-nil Undotted, tt)
parts_plain (b ∷ text) = by (b == dot) refl (parts_plain text)
  where
    by : (c : Bool) → (b == dot) ≡ c → ArePlain (parts_of text) → ArePlain (cond c ([] ∷ parts_of text) (onto_first b (parts_of text)))
    by true e later = (All-nil Undotted, later)
    by false e later = undotted_first b (parts_of text) e later

abbrev PlainMet : Met → Type 0
PlainMet (Taken p) = ArePlain p
PlainMet (Refused e) = ⊤

abbrev PlainMets : List Met → Type 0
PlainMets [] = ⊤
PlainMets (m ∷ ms) = PlainMet m × PlainMets ms

met_plain : (text : List ℕ) (fits : Bool) → PlainMet (met text fits)
met_plain text fits = by (path_fault text)
  where
    last : (b c : Bool) → PlainMet (if b then Refused faults.ImmutableId else if c then Taken (parts_of text) else Refused faults.BadArgument)
    last true c = tt
    last false true = parts_plain text
    last false false = tt

    by : (o : Option PathFault) → PlainMet (met_by o (parts_of text) fits)
    by (Some f) = tt
    by None = last (starts_with_id (parts_of text)) fits

target_plain : (o : Option (List ℕ)) → PlainMets (target o)
target_plain None = tt
target_plain (Some t) = (met_plain t true, tt)

targets_plain : (name : OperatorName) (v : Value) → PlainMets (targets name v)
targets_plain names.Set v = tt
targets_plain names.Unset v = tt
targets_plain names.Inc v = tt
targets_plain names.Mul v = tt
targets_plain names.Rename v = target_plain (text_in (out-Value v))
targets_plain names.Push v = tt
targets_plain names.AddToSet v = tt
targets_plain names.Pop v = tt
targets_plain names.Pull v = tt

mets_both : (ms ns : List Met) → PlainMets ms → PlainMets ns → PlainMets (ms ++ ns)
mets_both [] ns a b = b
mets_both (m ∷ ms) ns a b = (a.0, mets_both ms ns a.1 b)

mets_all : {X : Type 0} (f : X → List Met) → ((x : X) → PlainMets (f x)) → (xs : List X) → PlainMets (flat_map f xs)
mets_all f h [] = tt
mets_all f h (x ∷ xs) = mets_both (f x) (flat_map f xs) (h x) (mets_all f h xs)

paths_plain : (name : OperatorName) (v : Value-F Value) → PlainMets (met_paths name v)
paths_plain name (Value-F.Object fs) = mets_all (met_at name) (λ f. (met_plain f.0 (is_some (operator_of name (parts_of f.0) f.1)), targets_plain name f.1)) fs
paths_plain name _ = (tt, tt)

field_plain : (o : Option OperatorName) (v : Value) → PlainMets (met_field o v)
field_plain None v = (tt, tt)
field_plain (Some name) v = paths_plain name (out-Value v)

taken_plain : (ms : List Met) → PlainMets ms → AllPlain (taken ms)
taken_plain [] h = tt
taken_plain (Taken p ∷ ms) h = (h.0, taken_plain ms h.1)
taken_plain (Refused e ∷ ms) h = taken_plain ms h.1

pub read_plain : (doc : Fields) → ops_fault doc ≡ None → AllPlain (all_paths (operators doc))
read_plain doc e =
    let s = sound [] (all_met doc) e in
    subst AllPlain
    (sym (all_taken (λ (f : List ℕ × Value). met_field (name_of f.0) f.1) (λ (f : List ℕ × Value). operators_in (name_of f.0) f.1) (λ f. named_paths (name_of f.0) f.1) doc s.none))
    (taken_plain (all_met doc) (mets_all (λ (f : List ℕ × Value). met_field (name_of f.0) f.1) (λ f. field_plain (name_of f.0) f.1) doc))

-- the paths of operators that were read don't conflict
pub read_apart : (doc : Fields) → ops_fault doc ≡ None → Pairwise (all_paths (operators doc))
read_apart doc e =
    let s = sound [] (all_met doc) e in
    subst Pairwise
    (sym (all_taken (λ (f : List ℕ × Value). met_field (name_of f.0) f.1) (λ (f : List ℕ × Value). operators_in (name_of f.0) f.1) (λ f. named_paths (name_of f.0) f.1) doc s.none))
    s.pairs

-- ---- operators one after the other

after_append : (ss ts : Trace) (v : Value) → after v (ss ++ ts) ≡ after (after v ss) ts
after_append [] ts v = refl
after_append (s ∷ ss) ts v = after_append ss ts s.1

marks_append : (ss ts : Trace) → marks_of (ss ++ ts) ≡ marks_of ss ++ marks_of ts
marks_append [] ts = refl
marks_append (s ∷ ss) ts = ap (λ (z : List Mark). s.0 ++ z) (marks_append ss ts) ∙ sym (associates s.0 (marks_of ss) (marks_of ts))
  where
    associates : (a b c : List Mark) → (a ++ b) ++ c ≡ a ++ (b ++ c)
    associates [] b c = refl
    associates (m ∷ a) b c = ap (λ (z : List Mark). m ∷ z) (associates a b c)

op_keeps : (o : Operator) (v : Value) (ss : Trace) (q : Path) → IsDone o v ss → AllApart q (paths_of o) → Kept q v (after v ss)
op_keeps (operators_are.Set path a) v ss q d h = d.keeps q h.0
op_keeps (operators_are.Unset path) v ss q d h = d.keeps q h.0
op_keeps (operators_are.Inc path n) v ss q d h = d.keeps q h.0
op_keeps (operators_are.Mul path n) v ss q d h = d.keeps q h.0
op_keeps (operators_are.Rename from to) v ss q d h = d.keeps q h.0 h.1.0
op_keeps (operators_are.Push path vs) v ss q d h = d.keeps q h.0
op_keeps (operators_are.AddToSet path vs) v ss q d h = d.keeps q h.0
op_keeps (operators_are.Pop path end) v ss q d h = d.keeps q h.0
op_keeps (operators_are.Pull path a) v ss q d h = d.keeps q h.0

record CutIn (ps : List Path) (m : Mark) (v w : Value) : Type 0 where
  path : Path
  there : InPaths path ps
  is : IsCutBy path m v w

cut_in_one : (path : Path) (m : Mark) (v : Value) (ss : Trace) → Does path v ss → In m (marks_of ss) → m.made ≡ made.Cut → CutIn (path ∷ []) m v (after v ss)
cut_in_one path m v ss d i c = record { path = path; there = inl refl; is = d.cuts m i c }

op_cuts : (o : Operator) (v : Value) (ss : Trace) (m : Mark) → IsDone o v ss → In m (marks_of ss) → m.made ≡ made.Cut → CutIn (paths_of o) m v (after v ss)
op_cuts (operators_are.Set path a) v ss m d i c = cut_in_one path m v ss d i c
op_cuts (operators_are.Unset path) v ss m d i c = cut_in_one path m v ss d i c
op_cuts (operators_are.Inc path n) v ss m d i c = cut_in_one path m v ss d i c
op_cuts (operators_are.Mul path n) v ss m d i c = cut_in_one path m v ss d i c
op_cuts (operators_are.Rename from to) v ss m d i c = absurd (d.cuts m i c)
op_cuts (operators_are.Push path vs) v ss m d i c = cut_in_one path m v ss d i c
op_cuts (operators_are.AddToSet path vs) v ss m d i c = cut_in_one path m v ss d i c
op_cuts (operators_are.Pop path end) v ss m d i c = cut_in_one path m v ss d i c
op_cuts (operators_are.Pull path a) v ss m d i c = cut_in_one path m v ss d i c

plain_left : (ps qs : List Path) → AllPlain (ps ++ qs) → AllPlain ps
plain_left [] qs h = tt
plain_left (p ∷ ps) qs h = (h.0, plain_left ps qs h.1)

plain_right : (ps qs : List Path) → AllPlain (ps ++ qs) → AllPlain qs
plain_right [] qs h = h
plain_right (p ∷ ps) qs h = plain_right ps qs h.1

weaker : (P Q : Type 0) (ms : List Mark) → (Q → P) → AllMarked P ms → AllMarked Q ms
weaker P Q ms h a m i = let x = a m i in record { fresh = x.fresh; plain = λ q. x.plain (h q) }

op_marked : (o : Operator) (v : Value) (ss : Trace) → IsDone o v ss → AllMarked (AllPlain (paths_of o)) (marks_of ss)
op_marked (operators_are.Set path a) v ss d = weaker (ArePlain path) _ (marks_of ss) (λ x. x.0) d.marked
op_marked (operators_are.Unset path) v ss d = weaker (ArePlain path) _ (marks_of ss) (λ x. x.0) d.marked
op_marked (operators_are.Inc path n) v ss d = weaker (ArePlain path) _ (marks_of ss) (λ x. x.0) d.marked
op_marked (operators_are.Mul path n) v ss d = weaker (ArePlain path) _ (marks_of ss) (λ x. x.0) d.marked
op_marked (operators_are.Rename from to) v ss d = weaker (ArePlain from × ArePlain to) _ (marks_of ss) (λ x. (x.0, x.1.0)) d.marked
op_marked (operators_are.Push path vs) v ss d = weaker (ArePlain path) _ (marks_of ss) (λ x. x.0) d.marked
op_marked (operators_are.AddToSet path vs) v ss d = weaker (ArePlain path) _ (marks_of ss) (λ x. x.0) d.marked
op_marked (operators_are.Pop path end) v ss d = weaker (ArePlain path) _ (marks_of ss) (λ x. x.0) d.marked
op_marked (operators_are.Pull path a) v ss d = weaker (ArePlain path) _ (marks_of ss) (λ x. x.0) d.marked

-- what an outcome is made of
record Ran (o : Operator) (os : List Operator) (large : Bool) (v : Value) (ss : Trace) : Type 0 where
  first : Trace
  rest : Trace
  now : Bool
  does : ((q : Path) → AllApart q (paths_of o) → Kept q v (after v first))
  cuts : ((m : Mark) → In m (marks_of first) → m.made ≡ made.Cut → CutIn (paths_of o) m v (after v first))
  marked : AllMarked (AllPlain (paths_of o)) (marks_of first)
  later : outcome os now (after v first) ≡ Ok rest
  all : ss ≡ first ++ rest

ran : (o : Operator) (os : List Operator) (large : Bool) (v : Value) (ss : Trace) → outcome (o ∷ os) large v ≡ Ok ss → Ran o os large v ss
ran o os large v ss e = by (act o v) refl e
  where
    more : (ts : Trace) → act o v ≡ Steps ts → (r : Outcome) → outcome os large (after v ts) ≡ r → and_more ts r ≡ Ok ss → Ran o os large v ss
    more ts a (Ok rest) f g = record {
      first = ts;
      rest = rest;
      now = large;
      does = λ q h. op_keeps o v ts q (act_does o v ts a) h;
      cuts = λ m i c. op_cuts o v ts m (act_does o v ts a) i c;
      marked = op_marked o v ts (act_does o v ts a);
      later = f;
      all = let h : ts ++ rest ≡ ss = cc in sym h;
    }
    more ts a (Err x) f g = cc

    by : (a : Act) → act o v ≡ a → on_act (outcome os) large v a ≡ Ok ss → Ran o os large v ss
    by (Steps ts) a f = more ts a (outcome os large (after v ts)) refl f
    by (acts.Refused x) a f = cc
    by Oversized a f = record {
      first = [];
      rest = ss;
      now = true;
      does = λ q h. kept_none q v;
      cuts = λ m i c. absurd i;
      marked = λ m i. absurd i;
      later = f;
      all = refl;
    }

ended_none : (o : Option UpdateFault) (ss : Trace) → ended o ≡ Ok ss → [] ≡ ss
ended_none None ss e = cc
ended_none (Some f) ss e = cc

-- what is apart from all paths is kept
pub all_keep : (os : List Operator) (large : Bool) (v : Value) (ss : Trace) (q : Path) → AllApart q (all_paths os) → outcome os large v ≡ Ok ss → Kept q v (after v ss)
all_keep [] large v ss q h e = subst (λ (z : Trace). Kept q v (after v z)) (ended_none (refusal_at_end large (fields_of v)) ss e) (kept_none q v)
all_keep (o ∷ os) large v ss q h e =
    let r = ran o os large v ss e in
    let k = kept_then q v (after v r.first) (after (after v r.first) r.rest) (r.does q (apart_left q (paths_of o) (all_paths os) h)) (all_keep os r.now (after v r.first) r.rest q (apart_right q (paths_of o) (all_paths os) h) r.later) in
    subst (λ (z : Trace). Kept q v (after v z)) (sym r.all) (subst (Kept q v) (sym (after_append r.first r.rest v)) k)

-- each mark of a field that is new has a name, and all have places without dots where the paths have none
pub all_marked : (os : List Operator) (large : Bool) (v : Value) (ss : Trace) → AllPlain (all_paths os) → outcome os large v ≡ Ok ss → (m : Mark) → In m (marks_of ss) → IsMarked ⊤ m
all_marked [] large v ss h e m i = absurd (subst (λ (z : Trace). In m (marks_of z)) (sym (ended_none (refusal_at_end large (fields_of v)) ss e)) i)
all_marked (o ∷ os) large v ss h e m i =
    let r = ran o os large v ss e in
    by r.first r.rest (λ j. r.marked m j) (in_append (marks_of r.first) (marks_of r.rest) m (subst (In m) (ap marks_of r.all ∙ marks_append r.first r.rest) i))
    (λ j. all_marked os r.now (after v r.first) r.rest (plain_right (paths_of o) (all_paths os) h) r.later m j)
  where
    by : (first rest : Trace) → (In m (marks_of first) → IsMarked (AllPlain (paths_of o)) m) → In m (marks_of first) ⊎ In m (marks_of rest) → (In m (marks_of rest) → IsMarked ⊤ m) → IsMarked ⊤ m
    by first rest now (inl j) later = let x = now j in record { fresh = x.fresh; plain = λ q. x.plain (plain_left (paths_of o) (all_paths os) h) }
    by first rest now (inr j) later = later j

-- the last document has no more levels than an update may make
pub last_is_low : (os : List Operator) (large : Bool) (v : Value) (ss : Trace) → outcome os large v ≡ Ok ss → nat_lt level_limit (levels_of (fields_of (after v ss))) ≡ false
last_is_low [] large v ss e = subst (λ (z : Trace). nat_lt level_limit (levels_of (fields_of (after v z))) ≡ false) (ended_none (refusal_at_end large (fields_of v)) ss e) (by large (nat_lt byte_limit (length (document_text (fields_of v)))) (nat_lt level_limit (levels_of (fields_of v))) e)
  where
    by : (l b d : Bool) → ended (if l then Some update_faults.TooLong else if b then Some update_faults.TooLong else if d then Some update_faults.Deep else None) ≡ Ok ss → d ≡ false
    by true b d f = cc
    by false true d f = cc
    by false false true f = cc
    by false false false f = refl
last_is_low (o ∷ os) large v ss e =
    let r = ran o os large v ss e in
    subst (λ (z : Trace). nat_lt level_limit (levels_of (fields_of (after v z))) ≡ false) (sym r.all)
    (subst (λ (z : Value). nat_lt level_limit (levels_of (fields_of z)) ≡ false) (sym (after_append r.first r.rest v)) (last_is_low os r.now (after v r.first) r.rest r.later))

some_there : (o : Option Shape) (s : Shape) → o ≡ Some s → o ≢ None
some_there o s e n = no_some o s n e

-- a cut stays what it is when the rest keeps it
cut_then : (path : Path) (v w z : Value) → CutAt path v w → Kept path w z → CutAt path v z
cut_then path v w z c k = record {
  was = c.was;
  is = at_place path w z k there ∙ c.is;
  low = λ j r h. k.stays there (j ∷ r) ∙ c.low j r (λ n. h (k.stays there (j ∷ []) ∙ n));
}
  where
    there : look (Some w) path ≢ None
    there = some_there (look (Some w) path) an_array c.is

-- and when what came before kept it
cut_before : (path : Path) (u v w : Value) → Kept path u v → CutAt path v w → CutAt path u w
cut_before path u v w k c = by (look (Some u) path) refl
  where
    by : (o : Option Shape) → look (Some u) path ≡ o → CutAt path u w
    by None e = absurd (k.news e c.was)
    by (Some s) e = record {
      was = sym (at_place path u v k (some_there (look (Some u) path) s e)) ∙ c.was;
      is = c.is;
      low = λ j r h. c.low j r h ∙ k.stays (some_there (look (Some u) path) s e) (j ∷ r);
    }

all_cuts : (os : List Operator) (large : Bool) (v : Value) (ss : Trace) → Pairwise (all_paths os) → outcome os large v ≡ Ok ss → (m : Mark) → In m (marks_of ss) → m.made ≡ made.Cut → CutIn (all_paths os) m v (after v ss)
all_cuts [] large v ss h e m i c = absurd (subst (λ (z : Trace). In m (marks_of z)) (sym (ended_none (refusal_at_end large (fields_of v)) ss e)) i)
all_cuts (o ∷ os) large v ss h e m i c =
    by (in_append (marks_of r.first) (marks_of r.rest) m (subst (In m) (ap marks_of r.all ∙ marks_append r.first r.rest) i))
    (λ j. all_cuts os r.now w r.rest (later_pairs (paths_of o) (all_paths os) h) r.later m j c)
  where
    r : Ran o os large v ss
    r = ran o os large v ss e

    w : Value
    w = after v r.first

    z : Value
    z = after w r.rest

    whole : CutIn (all_paths (o ∷ os)) m v z → CutIn (all_paths (o ∷ os)) m v (after v ss)
    whole k = subst (λ (t : Trace). CutIn (all_paths (o ∷ os)) m v (after v t)) (sym r.all) (subst (CutIn (all_paths (o ∷ os)) m v) (sym (after_append r.first r.rest v)) k)

    by : In m (marks_of r.first) ⊎ In m (marks_of r.rest) → (In m (marks_of r.rest) → CutIn (all_paths os) m w z) → CutIn (all_paths (o ∷ os)) m v (after v ss)
    by (inl j) ih =
        let k = r.cuts m j c in
        whole (record {
          path = k.path;
          there = in_left k.path (paths_of o) (all_paths os) k.there;
          is = record {
            place = k.is.place;
            at = cut_then k.path v w z k.is.at (all_keep os r.now w r.rest k.path (behind_pairs (paths_of o) (all_paths os) k.path h k.there) r.later);
          };
        })
    by (inr j) ih =
        let k = ih j in
        whole (record {
          path = k.path;
          there = in_right k.path (paths_of o) (all_paths os) k.there;
          is = record {
            place = k.is.place;
            at = cut_before k.path v w z (r.does k.path (before_pairs (paths_of o) (all_paths os) k.path h k.there)) k.is.at;
          };
        })

-- an array that was cut has its other elements as before
pub cut_arrays : (d : Fields) (v : Value) (ss : Trace) → ops_fault d ≡ None → outcome (operators d) false v ≡ Ok ss → (m : Mark) → In m (marks_of ss) → m.made ≡ made.Cut → CutAt (keys m.way ++ (key_of m.last ∷ [])) v (after v ss)
cut_arrays d v ss sound e m i c =
    let k = all_cuts (operators d) false v ss (read_apart d sound) e m i c in
    subst (λ (p : Path). CutAt p v (after v ss)) (sym k.is.place) k.is.at
