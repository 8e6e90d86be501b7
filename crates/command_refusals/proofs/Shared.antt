-- What the first fault of a definition over documents says of its index.
use Rattle.std.proofs.Common.{◌≡◌, ℕ, ◌+◌, ◌<◌, List, [], ◌∷◌, ◌++◌, length, take, get_or, Bool, true, false, not, filter, refl, sym, ap, ◌∙◌, subst, Option, Some, None}
use Rattle.std.specs.Prelude.{◌&&◌, ◌||◌, is_some, option_map, if◌then◌else◌}
use Rattle.std.specs.List.{list_any}
use Rattle.std.specs.Str.{bytes_eq}
use Rattle.std.proofs.lemmas.Slice.Eq.{bytes_eq-Decides}
use Rattle.std.proofs.lemmas.List.{append-nil}
use Rattle.std.proofs.lemmas.List.Elements.{filter-append}
use Rattle.std.proofs.lemmas.List.Folds.{list_any-append, list_any_more}
use Rattle.bson_view.specs.declared.held.Held.{Held}
use Rattle.bson_view.specs.Held.{held_document}
use Rattle.index_build.specs.Counting.{held}
use Rattle.index_build.proofs.Counted.{held_more}
use Rattle.command_refusals.specs.Tests.{some_clash, some_parallel}
use Rattle.bson_value.specs.declared.namespace.NsName.{NsName}
use Rattle.bson_value.specs.declared.value.Value.{Value}
use Rattle.json_tree.specs.declared.tree.Tree.{Tree}
use Rattle.state_model.specs.Keys.{Key}
use Rattle.index_keys.specs.declared.plan.Plan.{Plan}
use Rattle.index_keys.specs.Definition.{plan_of}
use Rattle.index_keys.specs.Keys.{Fields}
use Rattle.index_keys.specs.Texts.{key_texts}
use Rattle.index_build.specs.Repeats.{first_where, or_later, repeat_behind}
use Rattle.index_build.specs.Faults.{meet, share_a_key, first_parallel, duplicate, duplicate_if, or_else, parallel_fault, duplicate_fault, built_fault, IsCountFault}
use Rattle.index_build.specs.declared.fault.CountFault.{CountFault}
use Rattle.index_build.specs.declared.fault.CountFault.TheVariants as faults
use Rattle.command_refusals.specs.Clashes.{is_parallel, texts, clashes, unique_clash, any_parallel, parallel_alone, is_shared, told_by, Says}
use Rattle.command_refusals.specs.declared.clashes.Verdict.{Verdict}
use Rattle.command_refusals.specs.declared.clashes.Verdict.TheVariants as verdicts

-- ---- tests of lists

pub or_false : (b : Bool) → (b || false) ≡ b
or_false true = refl
or_false false = refl

pub or_swap : (a b c d : Bool) → ((a || b) || (c || d)) ≡ ((a || c) || (b || d))
or_swap true b c d = refl
or_swap false true true d = refl
or_swap false true false d = refl
or_swap false false c d = refl

pub any_or : {A : Type 0} (p q : A → Bool) (xs : List A) → list_any (λ x. p x || q x) xs ≡ (list_any p xs || list_any q xs)
any_or p q [] = refl
any_or p q (x ∷ xs) = ap (λ (b : Bool). (p x || q x) || b) (any_or p q xs) ∙ or_swap (p x) (q x) (list_any p xs) (list_any q xs)

pub any_same : {A : Type 0} (p q : A → Bool) → ((x : A) → p x ≡ q x) → (xs : List A) → list_any p xs ≡ list_any q xs
any_same p q h [] = refl
any_same p q h (x ∷ xs) = λ i. h x i || any_same p q h xs i

pub any_none : {A : Type 0} (p : A → Bool) → ((x : A) → p x ≡ false) → (xs : List A) → list_any p xs ≡ false
any_none p h [] = refl
any_none p h (x ∷ xs) = ap (λ (b : Bool). b || list_any p xs) (h x) ∙ any_none p h xs

pub any_swap : {A B : Type 0} (r : A → B → Bool) (xs : List A) (ys : List B) → list_any (λ x. list_any (r x) ys) xs ≡ list_any (λ y. list_any (λ x. r x y) xs) ys
any_swap r [] ys = sym (any_none (λ y. false) (λ y. refl) ys)
any_swap r (x ∷ xs) ys = ap (λ (b : Bool). list_any (r x) ys || b) (any_swap r xs ys) ∙ sym (any_or (r x) (λ y. list_any (λ z. r z y) xs) ys)

any_push : {A : Type 0} (p : A → Bool) (xs : List A) (y : A) → list_any p (xs ++ y ∷ []) ≡ (list_any p xs || p y)
any_push p xs y = list_any-append p xs (y ∷ []) ∙ ap (λ (b : Bool). list_any p xs || b) (or_false (p y))

-- ---- texts in common

bytes_turn : (s t : List ℕ) → bytes_eq s t ≡ bytes_eq t s
bytes_turn s t = by (bytes_eq s t) (bytes_eq t s) refl refl
  where
    by : (a b : Bool) → bytes_eq s t ≡ a → bytes_eq t s ≡ b → a ≡ b
    by true true e f = refl
    by true false e f = (let g = (bytes_eq-Decides t s).1 (sym ((bytes_eq-Decides s t).0 e)) in cc)
    by false true e f = (let g = (bytes_eq-Decides s t).1 (sym ((bytes_eq-Decides t s).0 f)) in cc)
    by false false e f = refl

meet_turn : (ts us : List (List ℕ)) → meet ts us ≡ meet us ts
meet_turn ts us = any_swap bytes_eq ts us ∙ any_same (λ u. list_any (λ t. bytes_eq t u) ts) (λ u. list_any (bytes_eq u) ts) (λ u. any_same (λ t. bytes_eq t u) (bytes_eq u) (λ t. bytes_turn t u) ts) us

meet_none : (ts : List (List ℕ)) → meet ts [] ≡ false
meet_none ts = any_none (λ t. false) (λ t. refl) ts

-- ---- the first document that has a key of an earlier one

some_later : {A : Type 0} (x : A) (o : Option A) (later : Option (A × A)) → is_some (or_later x o later) ≡ (is_some o || is_some later)
some_later x (Some y) later = refl
some_later x None later = refl

pub some_where : {A : Type 0} (p : A → Bool) (xs : List A) → is_some (first_where p xs) ≡ list_any p xs
some_where p [] = refl
some_where p (x ∷ xs) = by (p x) (some_where p xs)
  where
    by : (b : Bool) → is_some (first_where p xs) ≡ list_any p xs → is_some (if b then Some x else first_where p xs) ≡ (b || list_any p xs)
    by true h = refl
    by false h = h

-- two documents that have a key in common
abbrev shared : Plan → List Fields → Bool
shared plan [] = false
shared plan (d ∷ ds) = list_any (λ e. share_a_key plan e d) ds || shared plan ds

repeat_shared : (plan : Plan) (before ds : List Fields) → is_some (repeat_behind (share_a_key plan) before ds) ≡ (list_any (λ d. list_any (share_a_key plan d) before) ds || shared plan ds)
repeat_shared plan before [] = refl
repeat_shared plan before (d ∷ ds) =
    some_later d (first_where (share_a_key plan d) before) (repeat_behind (share_a_key plan) (before ++ d ∷ []) ds)
    ∙ ((λ i. some_where (share_a_key plan d) before i || repeat_shared plan (before ++ d ∷ []) ds i)
    ∙ (ap (λ (b : Bool). list_any (share_a_key plan d) before || (b || shared plan ds))
    (any_same (λ e. list_any (share_a_key plan e) (before ++ d ∷ [])) (λ e. list_any (share_a_key plan e) before || share_a_key plan e d) (λ e. any_push (share_a_key plan e) before d) ds
    ∙ any_or (λ e. list_any (share_a_key plan e) before) (λ e. share_a_key plan e d) ds)
    ∙ regroup (list_any (share_a_key plan d) before) (list_any (λ e. list_any (share_a_key plan e) before) ds) (list_any (λ e. share_a_key plan e d) ds) (shared plan ds)))
  where
    regroup : (a b c d : Bool) → (a || ((b || c) || d)) ≡ ((a || b) || (c || d))
    regroup true b c d = refl
    regroup false true c d = refl
    regroup false false c d = refl

duplicate_shared : (plan : Plan) (ds : List Fields) → is_some (duplicate plan ds) ≡ shared plan ds
duplicate_shared plan ds = repeat_shared plan [] ds ∙ ap (λ (b : Bool). b || shared plan ds) (any_none (λ (d : Fields). false) (λ d. refl) ds)

-- ---- where no two fields of a document meet an array, its texts are its keys

left_false : (a b : Bool) → (a || b) ≡ false → (a ≡ false) × (b ≡ false)
left_false true b h = cc
left_false false b h = (refl, h)

texts_are : (plan : Plan) (d : Fields) → is_parallel plan d ≡ false → texts plan d ≡ key_texts plan d
texts_are plan d h = ap (λ (b : Bool). elim b as (λ b. List (List ℕ)) [ true ↦ [] | false ↦ key_texts plan d ]) h

any_meets : (plan : Plan) (d : Fields) (ds : List Fields) → is_parallel plan d ≡ false → list_any (is_parallel plan) ds ≡ false → list_any (λ e. meet (texts plan d) (texts plan e)) ds ≡ list_any (λ e. share_a_key plan e d) ds
any_meets plan d [] h g = refl
any_meets plan d (e ∷ es) h g =
    (let b = left_false (is_parallel plan e) (list_any (is_parallel plan) es) g in
    let one : meet (texts plan d) (texts plan e) ≡ share_a_key plan e d = (λ i. meet (texts_are plan d h i) (texts_are plan e b.0 i)) ∙ meet_turn (key_texts plan d) (key_texts plan e) in
    λ i. one i || any_meets plan d es h b.1 i)

clashes_shared : (plan : Plan) (ds : List Fields) → list_any (is_parallel plan) ds ≡ false → clashes plan ds ≡ shared plan ds
clashes_shared plan [] h = refl
clashes_shared plan (d ∷ ds) h = (let b = left_false (is_parallel plan d) (list_any (is_parallel plan) ds) h in λ i. any_meets plan d ds b.0 b.1 i || clashes_shared plan ds b.1 i)

-- ---- the first fault of a definition

-- of the first document in which two fields meet an array, and the first two that have a key in common
abbrev fault_by : NsName → Key → Option Fields → Option (Fields × Fields) → Option CountFault
fault_by n i p d = or_else (or_else (option_map (parallel_fault n i) p) (option_map (duplicate_fault n i) d)) None

no_fault : (n : NsName) (i : Key) (p : Option Fields) (d : Option (Fields × Fields)) → fault_by n i p d ≡ None → (is_some p ≡ false) × (is_some d ≡ false)
no_fault n i None None h = (refl, refl)
no_fault n i None (Some d) h = cc
no_fault n i (Some p) d h = cc

parallel_told : (n m : NsName) (i j : Key) (a : Value) (p : Option Fields) (d : Option (Fields × Fields)) → fault_by n i p d ≡ Some (faults.Parallel m j a) → is_some p ≡ true
parallel_told n m i j a None None h = cc
parallel_told n m i j a None (Some d) h = cc
parallel_told n m i j a (Some p) d h = refl

shared_told : (n m : NsName) (i j : Key) (a b : Value) (p : Option Fields) (d : Option (Fields × Fields)) → fault_by n i p d ≡ Some (faults.Duplicate m j a b) → (is_some p ≡ false) × (is_some d ≡ true)
shared_told n m i j a b None None h = cc
shared_told n m i j a b None (Some d) h = (refl, refl)
shared_told n m i j a b (Some p) d h = cc

some_shared : (unique : Bool) (plan : Plan) (ds : List Fields) → is_some (duplicate_if unique plan ds) ≡ (unique && shared plan ds)
some_shared true plan ds = duplicate_shared plan ds
some_shared false plan ds = refl

-- what the two say of an index over documents
said : (plan : Plan) (ds : List Fields) (b : Bool) → (is_some (first_parallel plan ds) ≡ false) × (is_some (duplicate_if plan.unique plan ds) ≡ b) → (any_parallel (Some plan) ds ≡ false) × (unique_clash (Some plan) ds ≡ b)
said plan ds b h =
    (let none : list_any (is_parallel plan) ds ≡ false = sym (some_where (is_parallel plan) ds) ∙ h.0 in
    (none, ap (λ (c : Bool). plan.unique && c) (clashes_shared plan ds none) ∙ (sym (some_shared plan.unique plan ds) ∙ h.1)))

pub apart_said : (n : NsName) (i : Key) (o : Option Plan) (ds : List Fields) → or_else (built_fault n i o ds) None ≡ None → Says verdicts.Apart o ds
apart_said n i None ds h = (refl, refl)
apart_said n i (Some plan) ds h = said plan ds false (no_fault n i (first_parallel plan ds) (duplicate_if plan.unique plan ds) h)

pub parallel_said : (n m : NsName) (i j : Key) (a : Value) (o : Option Plan) (ds : List Fields) → or_else (built_fault n i o ds) None ≡ Some (faults.Parallel m j a) → Says verdicts.Parallel o ds
parallel_said n m i j a None ds h = cc
parallel_said n m i j a (Some plan) ds h = sym (some_where (is_parallel plan) ds) ∙ parallel_told n m i j a (first_parallel plan ds) (duplicate_if plan.unique plan ds) h

pub shared_said : (n m : NsName) (i j : Key) (a b : Value) (o : Option Plan) (ds : List Fields) → or_else (built_fault n i o ds) None ≡ Some (faults.Duplicate m j a b) → Says verdicts.Shared o ds
shared_said n m i j a b None ds h = cc
shared_said n m i j a b (Some plan) ds h = said plan ds true (shared_told n m i j a b (first_parallel plan ds) (duplicate_if plan.unique plan ds) h)

same_verdict : (v w : Verdict) → Some v ≡ Some w → v ≡ w
same_verdict v w e = cc

no_verdict : {A : Type 0} (v : Verdict) → None ≡ Some v → A
no_verdict v e = cc

pub fault_said : (n : NsName) (i : Key) (e : CountFault) (v : Verdict) (o : Option Plan) (ds : List Fields) → told_by e ≡ Some v → IsCountFault e (or_else (built_fault n i o ds) None) → Says v o ds
fault_said n i faults.NoMemory v o ds t h = no_verdict v t
fault_said n i (faults.Parallel m j a) v o ds t h = subst (λ (w : Verdict). Says w o ds) (same_verdict verdicts.Parallel v t) (parallel_said n m i j a o ds h)
fault_said n i (faults.Duplicate m j a b) v o ds t h = subst (λ (w : Verdict). Says w o ds) (same_verdict verdicts.Shared v t) (shared_said n m i j a b o ds h)

-- of one document
pub says_alone : (v : Verdict) (o : Option Plan) (d : Fields) (b : Bool) → Says v o (d ∷ []) → any_parallel o (d ∷ []) ≡ b → b ≡ parallel_alone o d
says_alone v o d b h e = sym e ∙ alone_one o d
  where
    alone_one : (o : Option Plan) (d : Fields) → any_parallel o (d ∷ []) ≡ parallel_alone o d
    alone_one None d = refl
    alone_one (Some plan) d = or_false (is_parallel plan d)

pub apart_alone : (v : Verdict) (o : Option Plan) (d : Fields) → Says v o (d ∷ []) → v ≡ verdicts.Apart → false ≡ parallel_alone o d
apart_alone v o d h e = (let s : Says verdicts.Apart o (d ∷ []) = subst (λ (w : Verdict). Says w o (d ∷ [])) e h in says_alone v o d false h s.0)

pub parallel_told_alone : (v : Verdict) (o : Option Plan) (d : Fields) → Says v o (d ∷ []) → v ≡ verdicts.Parallel → true ≡ parallel_alone o d
parallel_told_alone v o d h e = (let s : Says verdicts.Parallel o (d ∷ []) = subst (λ (w : Verdict). Says w o (d ∷ [])) e h in says_alone v o d true h s)

pub shared_alone : (v : Verdict) (o : Option Plan) (d : Fields) → Says v o (d ∷ []) → v ≡ verdicts.Shared → false ≡ parallel_alone o d
shared_alone v o d h e = (let s : Says verdicts.Shared o (d ∷ []) = subst (λ (w : Verdict). Says w o (d ∷ [])) e h in says_alone v o d false h s.0)

-- ---- the documents in which no two fields meet an array

abbrev pub apart_ones : Option Plan → List Fields → List Fields
apart_ones o ds = filter (λ d. not (parallel_alone o d)) ds

none_parallel : (plan : Plan) (ds : List Fields) → list_any (is_parallel plan) (apart_ones (Some plan) ds) ≡ false
none_parallel plan [] = refl
none_parallel plan (d ∷ ds) = by (is_parallel plan d) refl (none_parallel plan ds)
  where
    by : (b : Bool) → is_parallel plan d ≡ b → list_any (is_parallel plan) (apart_ones (Some plan) ds) ≡ false → list_any (is_parallel plan) (if not b then d ∷ apart_ones (Some plan) ds else apart_ones (Some plan) ds) ≡ false
    by true e h = h
    by false e h = ap (λ (x : Bool). x || list_any (is_parallel plan) (apart_ones (Some plan) ds)) e ∙ h

no_texts : (plan : Plan) (d : Fields) → is_parallel plan d ≡ true → texts plan d ≡ []
no_texts plan d h = ap (λ (b : Bool). elim b as (λ b. List (List ℕ)) [ true ↦ [] | false ↦ key_texts plan d ]) h

meets_apart : (plan : Plan) (ts : List (List ℕ)) (ds : List Fields) → list_any (λ e. meet ts (texts plan e)) (apart_ones (Some plan) ds) ≡ list_any (λ e. meet ts (texts plan e)) ds
meets_apart plan ts [] = refl
meets_apart plan ts (d ∷ ds) = by (is_parallel plan d) refl (meets_apart plan ts ds)
  where
    by : (b : Bool) → is_parallel plan d ≡ b → list_any (λ e. meet ts (texts plan e)) (apart_ones (Some plan) ds) ≡ list_any (λ e. meet ts (texts plan e)) ds →
        list_any (λ e. meet ts (texts plan e)) (if not b then d ∷ apart_ones (Some plan) ds else apart_ones (Some plan) ds) ≡ (meet ts (texts plan d) || list_any (λ e. meet ts (texts plan e)) ds)
    by true e h = h ∙ ap (λ (x : Bool). x || list_any (λ f. meet ts (texts plan f)) ds) (sym (ap (meet ts) (no_texts plan d e) ∙ meet_none ts))
    by false e h = ap (λ (x : Bool). meet ts (texts plan d) || x) h

clashes_apart : (plan : Plan) (ds : List Fields) → clashes plan (apart_ones (Some plan) ds) ≡ clashes plan ds
clashes_apart plan [] = refl
clashes_apart plan (d ∷ ds) = by (is_parallel plan d) refl (clashes_apart plan ds)
  where
    by : (b : Bool) → is_parallel plan d ≡ b → clashes plan (apart_ones (Some plan) ds) ≡ clashes plan ds →
        clashes plan (if not b then d ∷ apart_ones (Some plan) ds else apart_ones (Some plan) ds) ≡ (list_any (λ e. meet (texts plan d) (texts plan e)) ds || clashes plan ds)
    by true e h =
        h ∙ ap (λ (x : Bool). x || clashes plan ds) (sym (ap (λ (ts : List (List ℕ)). list_any (λ f. meet ts (texts plan f)) ds) (no_texts plan d e) ∙ any_none (λ (f : Fields). false) (λ f. refl) ds))
    by false e h = λ i. meets_apart plan (texts plan d) ds i || h i

-- what is said of them tells whether all clash
pub clash_told : (v : Verdict) (o : Option Plan) (ds : List Fields) → Says v o (apart_ones o ds) → is_shared v ≡ unique_clash o ds
clash_told verdicts.Apart None ds h = refl
clash_told verdicts.Parallel None ds h = cc
clash_told verdicts.Shared None ds h = (let e = h.1 in cc)
clash_told verdicts.Apart (Some plan) ds h = sym h.1 ∙ ap (λ (b : Bool). plan.unique && b) (clashes_apart plan ds)
clash_told verdicts.Parallel (Some plan) ds h = (let e = none_parallel plan ds in cc)
clash_told verdicts.Shared (Some plan) ds h = sym h.1 ∙ ap (λ (b : Bool). plan.unique && b) (clashes_apart plan ds)

apart_at : (o : Option Plan) (hs : List Held) (i : ℕ) (h : Held) (b : Bool) → i < length hs → h ≡ get_or hs i h → b ≡ parallel_alone o (held_document h) →
    apart_ones o (held (take (i + 1) hs)) ≡ apart_ones o (held (take i hs)) ++ (if not b then held_document h ∷ [] else [])
apart_at o hs i h b l e f =
    ap (apart_ones o) (held_more hs i h l e) ∙ (filter-append (λ d. not (parallel_alone o d)) (held (take i hs)) (held_document h ∷ [])
    ∙ ap (λ (x : Bool). apart_ones o (held (take i hs)) ++ (if not x then held_document h ∷ [] else [])) (sym f))

-- one document more, which is left out or isn't
pub apart_kept : (o : Option Plan) (hs : List Held) (i : ℕ) (h : Held) (b : Bool) (old new : List Fields) → i < length hs → h ≡ get_or hs i h → b ≡ parallel_alone o (held_document h) → b ≡ false → old ≡ apart_ones o (held (take i hs)) →
    new ≡ old ++ held_document h ∷ [] → new ≡ apart_ones o (held (take (i + 1) hs))
apart_kept o hs i h b old new l e f n w g =
    g ∙ (ap (λ (z : List Fields). z ++ held_document h ∷ []) w ∙ sym (apart_at o hs i h b l e f ∙ ap (λ (x : Bool). apart_ones o (held (take i hs)) ++ (if not x then held_document h ∷ [] else [])) n))

pub apart_passed : (o : Option Plan) (hs : List Held) (i : ℕ) (h : Held) (b : Bool) (old : List Fields) → i < length hs → h ≡ get_or hs i h → b ≡ parallel_alone o (held_document h) → b ≡ true → old ≡ apart_ones o (held (take i hs)) →
    old ≡ apart_ones o (held (take (i + 1) hs))
apart_passed o hs i h b old l e f n w =
    w ∙ (sym (append-nil (apart_ones o (held (take i hs)))) ∙ sym (apart_at o hs i h b l e f ∙ ap (λ (x : Bool). apart_ones o (held (take i hs)) ++ (if not x then held_document h ∷ [] else [])) n))

-- ---- the indexes of one definition after the other

pub clash_more : (defs : List Tree) (i : ℕ) (def : Tree) (docs : List Fields) → i < length defs → def ≡ get_or defs i def → some_clash (take (i + 1) defs) docs ≡ (some_clash (take i defs) docs || unique_clash (plan_of def) docs)
clash_more defs i def docs l e =
    list_any_more (λ (d : Tree). unique_clash (plan_of d) docs) defs i def l ∙ ap (λ (z : Tree). some_clash (take i defs) docs || unique_clash (plan_of z) docs) (sym e)

pub parallel_more : (defs : List Tree) (i : ℕ) (def : Tree) (docs : List Fields) → i < length defs → def ≡ get_or defs i def → some_parallel (take (i + 1) defs) docs ≡ (some_parallel (take i defs) docs || any_parallel (plan_of def) docs)
parallel_more defs i def docs l e =
    list_any_more (λ (d : Tree). any_parallel (plan_of d) docs) defs i def l ∙ ap (λ (z : Tree). some_parallel (take i defs) docs || any_parallel (plan_of z) docs) (sym e)

-- ---- a test that was met before, or is met now

pub met_before : (new old x y : Bool) → new ≡ true → old ≡ true → old ≡ x → new ≡ (x || y)
met_before new old x y n t e = n ∙ ap (λ (b : Bool). b || y) (sym t ∙ e)

pub met_now : (new old now x y : Bool) → new ≡ now → old ≡ false → old ≡ x → now ≡ y → new ≡ (x || y)
met_now new old now x y n f e g = n ∙ (g ∙ ap (λ (b : Bool). b || y) (sym f ∙ e))
