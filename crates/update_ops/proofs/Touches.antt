-- The highest marks, each place once, are found by the texts of places.
use Rattle.std.proofs.Common.{◌≡◌, ℕ, List, [], ◌∷◌, ◌++◌, Bool, true, false, refl, sym, ap, ◌∙◌, subst, arith, inl, inr, append_assoc}
use Rattle.std.specs.Prelude.{◌||◌, ◌&&◌, ◌==◌, not, if◌then◌else◌}
use Rattle.std.specs.List.{list_any}
use Rattle.std.specs.Str.{bytes_eq}
use Rattle.std.proofs.lemmas.Bool.{cases_Bool}
use Rattle.std.proofs.lemmas.List.{map-append}
use Rattle.std.proofs.lemmas.List.Folds.{list_any-append}
use Rattle.std.proofs.lemmas.Grind.{common_steps}
use Rattle.doc_path.specs.Places.{keys}
use Rattle.doc_path.specs.Touch.{key_of}
use Rattle.update_model.specs.declared.mark.Mark.{Mark}
use Rattle.update_model.specs.Conflicts.{Path, begins}
use Rattle.update_model.specs.Touched.{parts_of, place_of, mark_covers, any_mark, tops, stands_in, firsts, touched}
use Rattle.update_ops.specs.Prefixes.{Text, starts, has}
use Rattle.update_ops.specs.Keys.{key, HaveNoZero}
use Rattle.update_ops.specs.PlaceKeys.{key_of_parts, key_of_mark, is_covered, IsCleanMark, AreCleanMarks, HasSeen}
use Rattle.update_ops.specs.Behind.{with_text}
use Rattle.update_ops.proofs.TextOrder.{any_insert}
use Rattle.update_ops.proofs.Clashes.{starts_key}

-- ---- marks above a place

pub covered_is : (ms : List Mark) (q : Path) → AreCleanMarks ms → HaveNoZero q → is_covered ms (key q) ≡ any_mark ms q
covered_is [] q c z = refl
covered_is (m ∷ ms) q c z = (λ i. starts_key (place_of m) q c.0 z i || covered_is ms q c.1 z i)

-- ---- one place

eq_starts : (s t : Text) → bytes_eq s t ≡ starts t s && starts s t
eq_starts [] [] = refl
eq_starts [] (y ∷ t) = refl
eq_starts (x ∷ s) [] = refl
eq_starts (x ∷ s) (y ∷ t) =
    let ih = eq_starts s t in
    let f : (x == y) ≡ (y == x) = flipped x y in
    grind (arith, ih, f)
  where
    flipped : (a b : ℕ) → (a == b) ≡ (b == a)
    flipped a b = grind (arith, common_steps)

pub same_key : (p q : Path) → HaveNoZero p → HaveNoZero q → bytes_eq (key q) (key p) ≡ begins p q && begins q p
same_key p q a b = eq_starts (key q) (key p) ∙ (λ i. starts_key p q a b i && starts_key q p b a i)

stands_more : (q : Path) (fs : List Mark) (m : Mark) → stands_in q (fs ++ (m ∷ [])) ≡ stands_in q fs || (begins (place_of m) q && begins q (place_of m))
stands_more q fs m = list_any-append (λ (n : Mark). begins (place_of n) q && begins q (place_of n)) fs (m ∷ []) ∙ tidy (stands_in q fs) (begins (place_of m) q && begins q (place_of m))
  where
    tidy : (a b : Bool) → a || (b || false) ≡ a || b
    tidy true b = refl
    tidy false true = refl
    tidy false false = refl

pub seen_none : HasSeen [] []
seen_none q z = refl

pub seen_more : (ts : List Text) (fs : List Mark) (m : Mark) → IsCleanMark m → HasSeen ts fs → HasSeen (with_text ts (key_of_mark m)) (fs ++ (m ∷ []))
seen_more ts fs m c seen q z =
    any_insert (bytes_eq (key q)) ts (key_of_mark m)
    ∙ ((λ i. same_key (place_of m) q c z i || seen q z i)
    ∙ (flip (begins (place_of m) q && begins q (place_of m)) (stands_in q fs) ∙ sym (stands_more q fs m)))
  where
    flip : (a b : Bool) → a || b ≡ b || a
    flip true true = refl
    flip true false = refl
    flip false true = refl
    flip false false = refl

-- ---- one mark more

pub next_of : Bool → Mark → List Mark → List Mark
next_of b m fs = if b then fs else fs ++ (m ∷ [])

tops_more : (all ms : List Mark) (m : Mark) → tops all (ms ++ (m ∷ [])) ≡ next_of (any_mark all (keys m.way)) m (tops all ms)
unfolding next_of
tops_more all [] m = refl
tops_more all (n ∷ ms) m = by (any_mark all (keys n.way)) (any_mark all (keys m.way)) (tops_more all ms m)
  where
    by : (b c : Bool) → tops all (ms ++ (m ∷ [])) ≡ (if c then tops all ms else tops all ms ++ (m ∷ [])) →
        (if b then tops all (ms ++ (m ∷ [])) else n ∷ tops all (ms ++ (m ∷ [])))
        ≡ (if c then (if b then tops all ms else n ∷ tops all ms) else (if b then tops all ms else n ∷ tops all ms) ++ (m ∷ []))
    by true c e = e
    by false true e = ap (λ (z : List Mark). n ∷ z) e
    by false false e = ap (λ (z : List Mark). n ∷ z) e

firsts_more : (seen ms : List Mark) (m : Mark) → firsts seen (ms ++ (m ∷ [])) ≡ next_of (stands_in (place_of m) seen || stands_in (place_of m) (firsts seen ms)) m (firsts seen ms)
unfolding next_of
firsts_more seen [] m = by (stands_in (place_of m) seen)
  where
    by : (b : Bool) → (if b then [] else m ∷ []) ≡ (if b || false then [] else m ∷ [])
    by true = refl
    by false = refl
firsts_more seen (n ∷ ms) m = by (stands_in (place_of n) seen) (firsts_more seen ms m) (firsts_more (n ∷ seen) ms m)
  where
    here : Bool
    here = begins (place_of n) (place_of m) && begins (place_of m) (place_of n)

    turn : (a b c : Bool) → (a || b) || c ≡ b || (a || c)
    turn true true c = refl
    turn true false c = refl
    turn false true c = refl
    turn false false c = refl

    by : (b : Bool) →
        firsts seen (ms ++ (m ∷ [])) ≡ (if stands_in (place_of m) seen || stands_in (place_of m) (firsts seen ms) then firsts seen ms else firsts seen ms ++ (m ∷ [])) →
        firsts (n ∷ seen) (ms ++ (m ∷ [])) ≡ (if stands_in (place_of m) (n ∷ seen) || stands_in (place_of m) (firsts (n ∷ seen) ms) then firsts (n ∷ seen) ms else firsts (n ∷ seen) ms ++ (m ∷ [])) →
        (if b then firsts seen (ms ++ (m ∷ [])) else n ∷ firsts (n ∷ seen) (ms ++ (m ∷ [])))
        ≡ (if stands_in (place_of m) seen || stands_in (place_of m) (if b then firsts seen ms else n ∷ firsts (n ∷ seen) ms) then (if b then firsts seen ms else n ∷ firsts (n ∷ seen) ms) else (if b then firsts seen ms else n ∷ firsts (n ∷ seen) ms) ++ (m ∷ []))
    by true x y = x
    by false x y =
        ap (λ (z : List Mark). n ∷ z) y
        ∙ (out (stands_in (place_of m) (n ∷ seen) || stands_in (place_of m) (firsts (n ∷ seen) ms))
        ∙ ap (λ (b : Bool). if b then n ∷ firsts (n ∷ seen) ms else (n ∷ firsts (n ∷ seen) ms) ++ (m ∷ [])) (turn (begins (place_of n) (place_of m) && begins (place_of m) (place_of n)) (stands_in (place_of m) seen) (stands_in (place_of m) (firsts (n ∷ seen) ms))))
      where
        out : (b : Bool) → n ∷ (if b then firsts (n ∷ seen) ms else firsts (n ∷ seen) ms ++ (m ∷ [])) ≡ (if b then n ∷ firsts (n ∷ seen) ms else (n ∷ firsts (n ∷ seen) ms) ++ (m ∷ []))
        out true = refl
        out false = refl

abbrev pub found : List Mark → List Mark → List Mark
found all ms = firsts [] (tops all ms)

-- what is found with one mark more
pub found_more : (all ms : List Mark) (m : Mark) → found all (ms ++ (m ∷ [])) ≡ next_of (any_mark all (keys m.way) || stands_in (place_of m) (found all ms)) m (found all ms)
unfolding next_of
found_more all ms m = ap (firsts []) (tops_more all ms m) ∙ by (any_mark all (keys m.way))
  where
    by : (b : Bool) → firsts [] (if b then tops all ms else tops all ms ++ (m ∷ [])) ≡ (if b || stands_in (place_of m) (found all ms) then found all ms else found all ms ++ (m ∷ []))
    by true = refl
    by false = firsts_more [] (tops all ms) m

pub found_as_new : (all ms : List Mark) (m : Mark) → not (any_mark all (keys m.way) || stands_in (place_of m) (found all ms)) ≡ true → found all (ms ++ (m ∷ [])) ≡ found all ms ++ (m ∷ [])
unfolding next_of
found_as_new all ms m e = found_more all ms m ∙ by (any_mark all (keys m.way) || stands_in (place_of m) (found all ms)) e
  where
    by : (b : Bool) → not b ≡ true → (if b then found all ms else found all ms ++ (m ∷ [])) ≡ found all ms ++ (m ∷ [])
    by true e = cc
    by false e = refl

pub found_already : (all ms : List Mark) (m : Mark) → not (any_mark all (keys m.way) || stands_in (place_of m) (found all ms)) ≡ false → found all (ms ++ (m ∷ [])) ≡ found all ms
unfolding next_of
found_already all ms m e = found_more all ms m ∙ by (any_mark all (keys m.way) || stands_in (place_of m) (found all ms)) e
  where
    by : (b : Bool) → not b ≡ false → (if b then found all ms else found all ms ++ (m ∷ [])) ≡ found all ms
    by true e = refl
    by false e = cc

-- ---- one mark alone

longer : (ps : Path) (k : Text) → begins (ps ++ (k ∷ [])) ps ≡ false
longer [] k = refl
longer (p ∷ ps) k = by (bytes_eq p p) (longer ps k) where
  by : (b : Bool) → begins (ps ++ (k ∷ [])) ps ≡ false → b && begins (ps ++ (k ∷ [])) ps ≡ false
  by true e = e
  by false e = refl

pub touched_alone : (m : Mark) → touched (m ∷ []) ≡ m ∷ []
touched_alone m =
    let above : begins (place_of m) (keys m.way) ≡ false = ap (λ (p : Path). begins p (keys m.way)) (map-append key_of m.way (m.last ∷ [])) ∙ longer (keys m.way) (key_of m.last) in
    rw above refl
