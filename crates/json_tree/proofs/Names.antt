-- Names in a list, and in a set of them.
use Rattle.std.proofs.Common.{◌≡◌, ℕ, ◌+◌, ◌||◌, Bool, subst, true, false, cond, List, [], ◌∷◌, ◌++◌, length, take, get_or, Option, Some, None, refl, sym, ap, ◌∙◌, arith, ◌<◌, ◌≤◌}
use Rattle.std.specs.Prelude.{String, is_some}
use Rattle.std.specs.Bool.{OnFalse}
use Rattle.std.specs.BTreeSet.{BTreeSet, contains_text, UpdatesBy}
use Rattle.std.specs.Cmp.Lexicographic.{slice_cmp}
use Rattle.std.specs.Ordering.{nat_cmp}
use Rattle.std.specs.List.{position_from}
use Rattle.std.specs.Str.{bytes_eq}
use Rattle.std.specs.String.{string_cmp, string_bytes}
use Rattle.std.specs.declared.alloc.Global.{Global}
use Rattle.std.proofs.lemmas.List.{take_more, length-append}
use Rattle.std.proofs.lemmas.List.Folds.{list_any-append}
use Rattle.std.proofs.lemmas.Map.Text.{btree_set_updates_text}
use Rattle.std.proofs.lemmas.Slice.Eq.{bytes_eq-Decides}
use Rattle.containers.specs.Entries.{IsAbsent, names_of, place_of}
use Rattle.containers.proofs.Entries.{none_is_absent}
use Rattle.json_tree.specs.Covers.{is_among, Covers}

eq_case : (m n : List ℕ) (a b : Bool) → bytes_eq m n ≡ a → bytes_eq n m ≡ b → a ≡ b
eq_case m n true true p q = refl
eq_case m n false false p q = refl
eq_case m n true false p q = let r = (bytes_eq-Decides n m).1 (sym ((bytes_eq-Decides m n).0 p)) in cc
eq_case m n false true p q = let r = (bytes_eq-Decides m n).1 (sym ((bytes_eq-Decides n m).0 q)) in cc

bytes_eq-sym : (m n : List ℕ) → bytes_eq m n ≡ bytes_eq n m
bytes_eq-sym m n = eq_case m n (bytes_eq m n) (bytes_eq n m) refl refl

pub covers_none : (s : BTreeSet (String Global)) → s.keys ≡ [] → Covers s []
covers_none s e n = rw e refl

or_last : (a b : Bool) → cond a true b ≡ (b || (a || false))
or_last true true = refl
or_last true false = refl
or_last false true = refl
or_last false false = refl

-- a name behind the others
pub covers_more : (s t : BTreeSet (String Global)) (m : List ℕ) (ns : List (List ℕ)) → UpdatesBy string_cmp (λ k. slice_cmp nat_cmp m (string_bytes k)) s t true → Covers s ns → Covers t (ns ++ m ∷ [])
covers_more s t m ns u c n =
    btree_set_updates_text m s t true u n
    ∙ ap (λ (b : Bool). cond (bytes_eq m n) true b) (c n)
    ∙ ap (λ (b : Bool). cond b true (is_among n ns)) (bytes_eq-sym m n)
    ∙ or_last (bytes_eq n m) (is_among n ns)
    ∙ sym (list_any-append (λ (k : List ℕ). bytes_eq n k) ns (m ∷ []))

place_case : {A : Type 0} (n : List ℕ) (e : List ℕ × A) (es : List (List ℕ × A)) (k : ℕ) (b : Bool) → bytes_eq e.0 n ≡ b → is_some (position_from (λ (f : List ℕ × A). bytes_eq f.0 n) (k + 1) es) ≡ is_among n (names_of es)
    → is_some (cond b (Some k) (position_from (λ (f : List ℕ × A). bytes_eq f.0 n) (k + 1) es)) ≡ (b || is_among n (names_of es))
place_case n e es k true p h = refl
place_case n e es k false p h = h

place_from : {A : Type 0} (n : List ℕ) (es : List (List ℕ × A)) (k : ℕ) → is_some (position_from (λ (f : List ℕ × A). bytes_eq f.0 n) k es) ≡ is_among n (names_of es)
place_from n [] k = refl
place_from n (e ∷ es) k =
    place_case n e es k (bytes_eq e.0 n) refl (place_from n es (k + 1))
    ∙ ap (λ (b : Bool). b || is_among n (names_of es)) (bytes_eq-sym e.0 n)

-- a name has a place exactly where it is among the names
pub has_place : {A : Type 0} (n : List ℕ) (es : List (List ℕ × A)) → is_some (place_of n es) ≡ is_among n (names_of es)
has_place n es = place_from n es 0

no_place : {A : Type 0} (n : List ℕ) (es : List (List ℕ × A)) (r : Option ℕ) → r ≡ place_of n es → is_some r ≡ false → IsAbsent n (names_of es)
no_place n es None p h = none_is_absent n es None p
no_place n es (Some i) p h = cc

pub absent : {A : Type 0} (n : List ℕ) (es : List (List ℕ × A)) → is_some (place_of n es) ≡ false → IsAbsent n (names_of es)
absent n es h = no_place n es (place_of n es) refl h

pub names_of-push : {A : Type 0} (es : List (List ℕ × A)) (e : List ℕ × A) → names_of (es ++ e ∷ []) ≡ names_of es ++ e.0 ∷ []
names_of-push [] e = refl
names_of-push (f ∷ es) e = ap (λ (ns : List (List ℕ)). f.0 ∷ ns) (names_of-push es e)

-- the entry at this place behind those before it
pub taken_names : {A : Type 0} (es : List (List ℕ × A)) (i : ℕ) (e : List ℕ × A) → i < length es → e ≡ get_or es i e → names_of (take (i + 1) es) ≡ names_of (take i es) ++ e.0 ∷ []
taken_names es i e lt at =
    ap (λ (l : List (List ℕ × _)). names_of l) (take_more es i e lt ∙ ap (λ (x : List ℕ × _). take i es ++ x ∷ []) (sym at)) ∙ names_of-push (take i es) e

-- one entry more in the set
pub set_step : {A : Type 0} (s t : BTreeSet (String Global)) (es : List (List ℕ × A)) (i : ℕ) (e : List ℕ × A) (m : List ℕ) → i < length es → e ≡ get_or es i e → m ≡ e.0
    → UpdatesBy string_cmp (λ k. slice_cmp nat_cmp m (string_bytes k)) s t true → Covers s (names_of (take i es)) → Covers t (names_of (take (i + 1) es))
set_step s t es i e m lt at same u c =
    subst (λ (ns : List (List ℕ)). Covers t ns) (ap (λ (k : List ℕ). names_of (take i es) ++ k ∷ []) same ∙ sym (taken_names es i e lt at)) (covers_more s t m (names_of (take i es)) u c)

-- the set beside the members, with one more
pub set_beside : {A : Type 0} (s : BTreeSet (String Global)) (es ds fs : List (List ℕ × A)) (n m : List ℕ) (v : A) → ds ≡ es → m ≡ n → fs ≡ es ++ (n, v) ∷ [] → (32 ≤ length ds → Covers s (names_of ds ++ m ∷ [])) → 32 < length fs → Covers s (names_of fs)
set_beside {A} s es ds fs n m v de mn f c lt =
    let long : length fs ≡ length es + 1 = ap (λ (l : List (List ℕ × A)). length l) f ∙ length-append es ((n, v) ∷ []) in
    let same : length ds ≡ length es = ap (λ (l : List (List ℕ × A)). length l) de in
    let le : 32 ≤ length ds = omega (arith, long, same, lt) in
    let names : names_of ds ++ m ∷ [] ≡ names_of fs = ap (λ (l : List (List ℕ × A)). names_of l ++ m ∷ []) de ∙ (ap (λ (k : List ℕ). names_of es ++ k ∷ []) mn ∙ (sym (names_of-push es (n, v)) ∙ ap (λ (l : List (List ℕ × A)). names_of l) (sym f))) in
    subst (λ (ns : List (List ℕ)). Covers s ns) names (c le)

pub set_tells : {A : Type 0} (s : BTreeSet (String Global)) (es fs : List (List ℕ × A)) (n : List ℕ) (r : Bool) → es ≡ fs → (32 < length es → Covers s (names_of es)) → 32 < length es → r ≡ contains_text s n → r ≡ is_some (place_of n fs)
set_tells {A} s es fs n r same c lt h = subst (λ (l : List (List ℕ × A)). r ≡ is_some (place_of n l)) same (h ∙ (c lt n ∙ sym (has_place n es)))

pub absent_if : {A : Type 0} (n : List ℕ) (es : List (List ℕ × A)) (r : Bool) → r ≡ is_some (place_of n es) → OnFalse r (IsAbsent n (names_of es))
absent_if n es true h = tt
absent_if n es false h = absent n es (sym h)
