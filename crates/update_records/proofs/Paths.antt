-- The operators of a well-formed document are well-formed.
use Rattle.std.proofs.Common.{◌≡◌, ℕ, zero, suc, ◌+◌, ◌<◌, List, [], ◌∷◌, ◌++◌, length, take, drop, get_or, Bool, true, false, cond, refl, sym, ap, ◌∙◌, subst, arith, append_assoc, append-nil, Option, Some, None}
use Rattle.std.specs.Prelude.{◌==◌, if◌then◌else◌, option_map}
use Rattle.std.specs.List.{AllByRecursion, list_any, flat_map, slice_split, onto_first}
use Rattle.std.specs.Str.{is_utf8, IsUtf8, bytes_eq}
use Rattle.std.proofs.lemmas.Grind.{common_steps}
use Rattle.std.proofs.lemmas.List.{take_at, drop_at, get_or_at, length-append}
use Rattle.std.proofs.lemmas.Str.{is_utf8-from_IsUtf8, IsUtf8-from_is_utf8, IsUtf8-take, IsUtf8-drop, IsCharBoundary-before_ascii, IsCharBoundary-after_ascii}
use Rattle.std.specs.Prelude.{codes}
use Rattle.bson_value.specs.declared.value.Value.{Value, Value-F, out-Value}
use Rattle.bson_value.specs.WellFormed.{IsName, IsWellFormedLevel, IsWellFormed, AreWellFormedItems, AreWellFormedFields, IsWellFormedDocument}
use Rattle.bson_value.proofs.WellFormed.{IsHeldWellFormed, held_formed, here_formed}
use Rattle.doc_path.specs.Paths.{dot, dollar, parts_of, part_fault, first_of, first_fault as part_faults, path_fault}
use Rattle.doc_path.specs.declared.path.PathFault.{PathFault}
use Rattle.doc_path.specs.declared.path.PathFault.TheVariants as path_faults
use Rattle.update_model.specs.declared.operator.OperatorName.{OperatorName}
use Rattle.update_model.specs.declared.operator.OperatorName.TheVariants as names
use Rattle.update_model.specs.declared.operator.Operator.{Operator}
use Rattle.update_model.specs.declared.operator.Operator.TheVariants as operators_are
use Rattle.update_model.specs.declared.operator.Number.{Number}
use Rattle.update_model.specs.declared.operator.Number.TheVariants as numbers
use Rattle.update_model.specs.declared.operator.ArrayEnd.{ArrayEnd}
use Rattle.update_model.specs.declared.fault.OpsFault.TheVariants as faults
use Rattle.update_model.specs.Conflicts.{Path}
use Rattle.update_model.specs.Arguments.{number_in, end_in, text_in, items_in, each_of, values_in, is_expression, operator_of}
use Rattle.update_model.specs.Reading.{name_of, Met, Taken, Refused, starts_with_id, met_by, met, is_some, target, targets, met_at, met_paths, met_field, all_met, ops_fault, listed, operators_at, operators_in, operators}
use Rattle.update_records.proofs.Levels.{Fields}
use Rattle.update_records.proofs.Acts.{IsNamedPath, IsWellFormedNumber, IsWellFormedOperator, AreWellFormedOperators}
use Rattle.update_model.proofs.ReadOff.{none_refused, both_none as refused_apart}
use Rattle.update_records.proofs.Once.{either_false}

-- ---- the texts between dots

abbrev AreTexts : Path → Type 0
AreTexts [] = Unit {0}
AreTexts (k ∷ ks) = (is_utf8 k ≡ true) × AreTexts ks

abbrev is_dot : ℕ → Bool
is_dot b = b == dot

abbrev behind : List ℕ → Path → Path
behind front [] = front ∷ []
behind front (k ∷ ks) = (front ++ k) ∷ ks

onto_behind : (front : List ℕ) (b : ℕ) (ks : Path) → behind front (onto_first b ks) ≡ behind (front ++ b ∷ []) ks
onto_behind front b [] = refl
onto_behind front b (k ∷ ks) = ap (λ (l : List ℕ). l ∷ ks) (sym (append_assoc front (b ∷ []) k))

cut_at_dot : (front rest : List ℕ) (b : ℕ) → (b == dot) ≡ true → IsUtf8 (front ++ b ∷ rest) → IsUtf8 front × IsUtf8 rest
cut_at_dot front rest b e u =
    let text = front ++ b ∷ rest in
    let n = length-append front (b ∷ rest) in
    let there : get_or text (length front) 0 ≡ b = get_or_at front b rest 0 (length front) refl in
    let small : get_or text (length front) 0 < 128 = grind (arith, common_steps) in
    let l : length front < length text = omega (arith, n) in
    let whole : (front ++ b ∷ []) ++ rest ≡ text = append_assoc front (b ∷ []) rest in
    let m : length (front ++ b ∷ []) ≡ length front + 1 = length-append front (b ∷ []) in
    let t : take (length front) text ≡ front = take_at front (b ∷ rest) (length front) refl in
    let d : drop (length front + 1) text ≡ rest = ap (drop (length front + 1)) (sym whole) ∙ drop_at (front ++ b ∷ []) rest (length front + 1) m in (
      subst IsUtf8 t (IsUtf8-take text (length front) u (IsCharBoundary-before_ascii text (length front) l small)),
      subst IsUtf8 d (IsUtf8-drop text (length front + 1) u (IsCharBoundary-after_ascii text (length front) u l small)),
    )

no_front : (ks : Path) → AreTexts (behind [] ks) → AreTexts ks
no_front [] h = tt
no_front (k ∷ ks) h = h

split_behind : (text front : List ℕ) → IsUtf8 (front ++ text) → AreTexts (behind front (slice_split is_dot text))
split_behind [] front u = (is_utf8-from_IsUtf8 (front ++ []) u, tt)
split_behind (b ∷ text) front u = by (is_dot b) refl (λ v. split_behind text [] v) (λ v. split_behind text (front ++ b ∷ []) v)
  where
    by : (x : Bool) → is_dot b ≡ x → (IsUtf8 text → AreTexts (behind [] (slice_split is_dot text))) → (IsUtf8 ((front ++ b ∷ []) ++ text) → AreTexts (behind (front ++ b ∷ []) (slice_split is_dot text))) → AreTexts (behind front (cond x ([] ∷ slice_split is_dot text) (onto_first b (slice_split is_dot text))))
    by true e new on =
        let c = cut_at_dot front text b e u in
        (ap is_utf8 (append-nil front) ∙ is_utf8-from_IsUtf8 front c.0, no_front (slice_split is_dot text) (new c.1))
    by false e new on = subst AreTexts (sym (onto_behind front b (slice_split is_dot text))) (on (subst IsUtf8 (sym (append_assoc front (b ∷ []) text)) u))

split_texts : (text : List ℕ) → is_utf8 text ≡ true → AreTexts (parts_of text)
split_texts text h = no_front (parts_of text) (split_behind text [] (IsUtf8-from_is_utf8 text h))

no_zero : (xs : List ℕ) (k : ℕ) → list_any (λ b. b == 0) xs ≡ false → k < length xs → get_or xs k 0 ≡ 0 → ⊥
no_zero [] k e l q = omega (arith, l)
no_zero (x ∷ xs) zero e l q = let f = (either_false (x == 0) (list_any (λ b. b == 0) xs) e).0 in grind (arith, common_steps)
no_zero (x ∷ xs) (suc k) e l q = no_zero xs k (either_false (x == 0) (list_any (λ b. b == 0) xs) e).1 (omega (arith, l)) q

part_named : (k : List ℕ) → is_utf8 k ≡ true → part_fault k ≡ None → IsName k
part_named [] u e = cc
part_named (c ∷ cs) u e = by (c == dollar) (list_any (λ b. b == 0) (c ∷ cs)) refl e
  where
    by : (x y : Bool) → list_any (λ b. b == 0) (c ∷ cs) ≡ y → (if x then Some path_faults.Dollar else if y then Some path_faults.Zero else None) ≡ None → IsName (c ∷ cs)
    by true y q f = cc
    by false true q f = cc
    by false false q f = record { utf8 = u; no_zero = λ z. no_zero (c ∷ cs) z.0 q z.1 z.2 }

both_none : (o p : Option PathFault) → first_of o p ≡ None → (o ≡ None) × (p ≡ None)
both_none None p e = (refl, e)
both_none (Some f) p e = cc

parts_named : (ks : Path) → AreTexts ks → part_faults ks ≡ None → IsNamedPath ks
parts_named [] t e = tt
parts_named (k ∷ ks) t e = let b = both_none (part_fault k) (part_faults ks) e in (part_named k t.0 b.0, parts_named ks t.1 b.1)

path_named : (text : List ℕ) → is_utf8 text ≡ true → path_fault text ≡ None → IsNamedPath (parts_of text)
path_named [] u e = cc
path_named (c ∷ cs) u e = parts_named (parts_of (c ∷ cs)) (split_texts (c ∷ cs) u) e

-- ---- what is met is refused nowhere

abbrev NoneRefused : List Met → Type 0
NoneRefused [] = Unit {0}
NoneRefused (Taken p ∷ ms) = NoneRefused ms
NoneRefused (Refused e ∷ ms) = ⊥

met_named : (text : List ℕ) (fits : Bool) (ms : List Met) → is_utf8 text ≡ true → NoneRefused (met text fits ∷ ms) → IsNamedPath (parts_of text) × NoneRefused ms
met_named text fits ms u h = by (path_fault text) refl h
  where
    last : (b c : Bool) → NoneRefused ((if b then Refused faults.ImmutableId else if c then Taken (parts_of text) else Refused faults.BadArgument) ∷ ms) → NoneRefused ms
    last true c h = absurd h
    last false true h = h
    last false false h = absurd h

    by : (o : Option PathFault) → path_fault text ≡ o → NoneRefused (met_by o (parts_of text) fits ∷ ms) → IsNamedPath (parts_of text) × NoneRefused ms
    by (Some f) e h = absurd h
    by None e h = (path_named text u e, last (starts_with_id (parts_of text)) fits h)

-- ---- operators

abbrev AreListed : Option Operator → Type 0
AreListed o = AreWellFormedOperators (listed o)

mapped_formed : {A : Type 0} (f : A → Operator) (o : Option A) → ((a : A) → o ≡ Some a → IsWellFormedOperator (f a)) → AreListed (option_map f o)
mapped_formed f None h = tt
mapped_formed f (Some a) h = (h a refl, tt)

number_in_formed : (f : Value-F Value) (n : Number) → IsWellFormedLevel f → number_in f ≡ Some n → IsWellFormedNumber n
number_in_formed (Value-F.Int z) n h e = let q : numbers.Int z ≡ n = cc in subst IsWellFormedNumber q h
number_in_formed (Value-F.Long z) n h e = let q : numbers.Long z ≡ n = cc in subst IsWellFormedNumber q h
number_in_formed _ n h e = cc

text_in_formed : (f : Value-F Value) (t : List ℕ) → IsWellFormedLevel f → text_in f ≡ Some t → is_utf8 t ≡ true
text_in_formed (Value-F.Str s) t h e = let q : s ≡ t = cc in subst (λ (x : List ℕ). is_utf8 x ≡ true) q h
text_in_formed _ t h e = cc

items_in_formed : (f : Value-F Value) (vs : List Value) → IsHeldWellFormed f → items_in f ≡ Some vs → AreWellFormedItems vs
items_in_formed (Value-F.Array ws) vs h e = let q : ws ≡ vs = cc in subst AreWellFormedItems q h
items_in_formed _ vs h e = cc

one_value : (v : Value) (vs : List Value) → IsWellFormed v → ◌≡◌ {A = Option (List Value)} (Some (v ∷ [])) (Some vs) → AreWellFormedItems vs
one_value v vs h e = let q : v ∷ [] ≡ vs = cc in subst AreWellFormedItems q (h, tt)

each_formed : (f : List ℕ × Value) (fs : Fields) (vs : List Value) → IsWellFormed f.1 → each_of f fs ≡ Some vs → AreWellFormedItems vs
each_formed f [] vs h e = items_in_formed (out-Value f.1) vs (held_formed f.1 h) e
each_formed f (g ∷ gs) vs h e = cc

values_in_formed : (v : Value) (f : Value-F Value) (vs : List Value) → IsWellFormed v → IsHeldWellFormed f → values_in v f ≡ Some vs → AreWellFormedItems vs
values_in_formed v (Value-F.Object (f ∷ fs)) vs h k e = by (bytes_eq f.0 (codes "$each")) e
  where
    by : (b : Bool) → (if b then each_of f fs else Some (v ∷ [])) ≡ Some vs → AreWellFormedItems vs
    by true q = each_formed f fs vs k.0 q
    by false q = one_value v vs h q
values_in_formed v (Value-F.Object []) vs h k e = one_value v vs h e
values_in_formed v _ vs h k e = one_value v vs h e

renamed_formed : (path : Path) (f : Value-F Value) (o : Option (List ℕ)) → IsNamedPath path → IsWellFormedLevel f → text_in f ≡ o → NoneRefused (target o) → AreListed (option_map (λ t. operators_are.Rename path (parts_of t)) o)
renamed_formed path f None p h e n = tt
renamed_formed path f (Some t) p h e n = ((p, (met_named t true [] (text_in_formed f t h e) n).0), tt)

pulled_formed : (path : Path) (v : Value) (b : Bool) → IsNamedPath path → AreListed (if b then None else Some (operators_are.Pull path v))
pulled_formed path v true p = tt
pulled_formed path v false p = (p, tt)

operator_formed : (name : OperatorName) (path : Path) (v : Value) → IsNamedPath path → IsWellFormed v → NoneRefused (targets name v) → AreListed (operator_of name path v)
operator_formed names.Set path v p h n = ((p, h), tt)
operator_formed names.Unset path v p h n = (p, tt)
operator_formed names.Inc path v p h n = mapped_formed (λ (m : Number). operators_are.Inc path m) (number_in (out-Value v)) (λ m e. (p, number_in_formed (out-Value v) m (here_formed v h) e))
operator_formed names.Mul path v p h n = mapped_formed (λ (m : Number). operators_are.Mul path m) (number_in (out-Value v)) (λ m e. (p, number_in_formed (out-Value v) m (here_formed v h) e))
operator_formed names.Rename path v p h n = renamed_formed path (out-Value v) (text_in (out-Value v)) p (here_formed v h) refl n
operator_formed names.Push path v p h n = mapped_formed (λ (vs : List Value). operators_are.Push path vs) (values_in v (out-Value v)) (λ vs e. (p, values_in_formed v (out-Value v) vs h (held_formed v h) e))
operator_formed names.AddToSet path v p h n = mapped_formed (λ (vs : List Value). operators_are.AddToSet path vs) (values_in v (out-Value v)) (λ vs e. (p, values_in_formed v (out-Value v) vs h (held_formed v h) e))
operator_formed names.Pop path v p h n = mapped_formed (λ (end : ArrayEnd). operators_are.Pop path end) (end_in (out-Value v)) (λ end e. p)
operator_formed names.Pull path v p h n = pulled_formed path v (is_expression (out-Value v)) p

operators_append : (os ps : List Operator) → AreWellFormedOperators os → AreWellFormedOperators ps → AreWellFormedOperators (os ++ ps)
operators_append [] ps a b = b
operators_append (o ∷ os) ps a b = (a.0, operators_append os ps a.1 b)

abbrev IsEntry : List ℕ × Value → Type 0
IsEntry f = IsName f.0 × IsWellFormed f.1

entries : (fs : Fields) → AllByRecursion (λ e. IsName e.0) fs → AreWellFormedFields fs → AllByRecursion IsEntry fs
entries [] n h = tt
entries (f ∷ fs) n h = ((n.0, h.0), entries fs n.1 h.1)

all_formed : (f : List ℕ × Value → List Met) (g : List ℕ × Value → List Operator) → ((x : List ℕ × Value) → IsEntry x → NoneRefused (f x) → AreWellFormedOperators (g x)) → (xs : Fields) → AllByRecursion IsEntry xs → NoneRefused (flat_map f xs) → AreWellFormedOperators (flat_map g xs)
all_formed f g h [] w n = tt
all_formed f g h (x ∷ xs) w n = let b = refused_apart (f x) (flat_map f xs) n in operators_append (g x) (flat_map g xs) (h x w.0 b.0) (all_formed f g h xs w.1 b.1)

at_formed : (name : OperatorName) (f : List ℕ × Value) → IsEntry f → NoneRefused (met_at name f) → AreWellFormedOperators (listed (operator_of name (parts_of f.0) f.1))
at_formed name f w n =
    let m = met_named f.0 (is_some (operator_of name (parts_of f.0) f.1)) (targets name f.1) w.0.utf8 n in
    operator_formed name (parts_of f.0) f.1 m.0 w.1 m.1

paths_formed : (name : OperatorName) (f : Value-F Value) → IsWellFormedLevel f → IsHeldWellFormed f → NoneRefused (met_paths name f) → AreWellFormedOperators (operators_at name f)
paths_formed name (Value-F.Object fs) l h n = all_formed (met_at name) (λ (g : List ℕ × Value). listed (operator_of name (parts_of g.0) g.1)) (at_formed name) fs (entries fs l.1 h) n
paths_formed name _ l h n = absurd n

field_formed : (o : Option OperatorName) (v : Value) → IsWellFormed v → NoneRefused (met_field o v) → AreWellFormedOperators (operators_in o v)
field_formed None v h n = absurd n
field_formed (Some name) v h n = paths_formed name (out-Value v) (here_formed v h) (held_formed v h) n

pub operators_formed : (doc : Fields) → IsWellFormedDocument doc → ops_fault doc ≡ None → AreWellFormedOperators (operators doc)
operators_formed doc h e =
    all_formed (λ (f : List ℕ × Value). met_field (name_of f.0) f.1) (λ (f : List ℕ × Value). operators_in (name_of f.0) f.1) (λ f w. field_formed (name_of f.0) f.1 w.1) doc
    (entries doc h.0.1 h.1) (none_refused [] (all_met doc) e)
