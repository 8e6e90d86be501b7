-- The touches of an update have each their place once.
use Rattle.std.proofs.Common.{◌≡◌, ℕ, List, [], ◌∷◌, map, Bool, true, false, ◌&&◌, ◌||◌, refl, sym, ap, ◌∙◌, subst, inl, inr}
use Rattle.std.specs.Prelude.{if◌then◌else◌, Option, Some, None, Ok, Err}
use Rattle.bson_value.specs.declared.value.Value.{Value, Object}
use Rattle.bson_value.specs.Place.{Place}
use Rattle.bson_value.proofs.Child.{name_refl}
use Rattle.doc_path.specs.declared.touches.Touch.{Touch}
use Rattle.doc_path.specs.Places.{keys}
use Rattle.doc_path.specs.Ways.{value_in}
use Rattle.update_model.specs.declared.mark.Mark.{Mark}
use Rattle.update_model.specs.declared.operator.Operator.{Operator}
use Rattle.update_model.specs.declared.updated.Updated.{Updated}
use Rattle.update_model.specs.Arguments.{Fields}
use Rattle.update_model.specs.Conflicts.{begins}
use Rattle.update_model.specs.Steps.{after, marks_of}
use Rattle.update_model.specs.Touched.{parts_of, place_of as place_at, tops, stands_in, firsts, touched, cut_to_length, set_or_cut, touch_by, touch_of, touches}
use Rattle.update_model.specs.Updating.{Outcome, fields_of, outcome, updated_by, updated}
use Rattle.entry_model.specs.Edits.{In}
use Rattle.entry_model.specs.Touches.{place_of}

-- no two touches have places of the same names
abbrev pub KeysOnce : List Touch → Type 0
KeysOnce [] = Unit {0}
KeysOnce (t ∷ ts) = ((u : Touch) → In u ts → keys (place_of u) ≡ keys (place_of t) → ⊥) × KeysOnce ts

abbrev Apart : List Mark → Type 0
Apart [] = Unit {0}
Apart (m ∷ ms) = ((n : Mark) → In n ms → place_at n ≡ place_at m → ⊥) × Apart ms

begins_itself : (q : Place) → begins q q ≡ true
begins_itself [] = refl
begins_itself (k ∷ q) = rw (name_refl k) (begins_itself q)

pub either_false : (a b : Bool) → (a || b) ≡ false → (a ≡ false) × (b ≡ false)
either_false true b e = cc
either_false false b e = (refl, e)

stands_same : (q : Place) (m : Mark) (seen : List Mark) → stands_in q (m ∷ seen) ≡ false → q ≡ place_at m → ⊥
stands_same q m seen e h =
    let both : (begins (place_at m) (place_at m) && begins (place_at m) (place_at m)) ≡ false = subst (λ (r : Place). (begins (place_at m) r && begins r (place_at m)) ≡ false) h (either_false (begins (place_at m) q && begins q (place_at m)) (stands_in q seen) e).0 in
    let whole : (true && true) ≡ false = subst (λ (b : Bool). (b && b) ≡ false) (begins_itself (place_at m)) both in
    cc

not_seen : (seen ms : List Mark) (n : Mark) → In n (firsts seen ms) → stands_in (place_at n) seen ≡ false
not_seen seen [] n i = absurd i
not_seen seen (m ∷ ms) n i = by (stands_in (place_at m) seen) refl i (λ j. not_seen seen ms n j) (λ j. not_seen (m ∷ seen) ms n j)
  where
    by : (b : Bool) → stands_in (place_at m) seen ≡ b → In n (if b then firsts seen ms else m ∷ firsts (m ∷ seen) ms) → (In n (firsts seen ms) → stands_in (place_at n) seen ≡ false) → (In n (firsts (m ∷ seen) ms) → stands_in (place_at n) (m ∷ seen) ≡ false) → stands_in (place_at n) seen ≡ false
    by true e j more on = more j
    by false e (inl p) more on = ap (λ (x : Mark). stands_in (place_at x) seen) p ∙ e
    by false e (inr j) more on = (either_false (begins (place_at m) (place_at n) && begins (place_at n) (place_at m)) (stands_in (place_at n) seen) (on j)).1

firsts_apart : (seen ms : List Mark) → Apart (firsts seen ms)
firsts_apart seen [] = tt
firsts_apart seen (m ∷ ms) = by (stands_in (place_at m) seen) (firsts_apart seen ms) (firsts_apart (m ∷ seen) ms)
  where
    by : (b : Bool) → Apart (firsts seen ms) → Apart (firsts (m ∷ seen) ms) → Apart (if b then firsts seen ms else m ∷ firsts (m ∷ seen) ms)
    by true more on = more
    by false more on = ((λ n i e. stands_same (place_at n) m seen (not_seen (m ∷ seen) ms n i) e), on)

touch_place : (z : Value) (m : Mark) → place_of (touch_of z m) ≡ parts_of m
touch_place z m = by (value_in (parts_of m) z)
  where
    cut : (a : Value) (o : Option ℕ) → place_of (set_or_cut m a o) ≡ parts_of m
    cut a (Some n) = refl
    cut a None = refl

    by : (o : Option Value) → place_of (touch_by m o) ≡ parts_of m
    by None = refl
    by (Some a) = cut a (cut_to_length m.made a)

touch_from : (z : Value) (ms : List Mark) (u : Touch) → In u (map (touch_of z) ms) → (m : Mark) × In m ms × (keys (place_of u) ≡ place_at m)
touch_from z [] u i = absurd i
touch_from z (m ∷ ms) u (inl e) = (m, inl refl, ap (λ (x : Touch). keys (place_of x)) e ∙ ap keys (touch_place z m))
touch_from z (m ∷ ms) u (inr i) = let r = touch_from z ms u i in (r.0, inr r.1, r.2)

keys_once : (z : Value) (ms : List Mark) → Apart ms → KeysOnce (map (touch_of z) ms)
keys_once z [] a = tt
keys_once z (m ∷ ms) a = (
  (λ u i e. (let r = touch_from z ms u i in a.0 r.0 r.1 (sym r.2 ∙ (e ∙ ap keys (touch_place z m))))),
  keys_once z ms a.1,
)

pub touches_once : (ops : List Operator) (doc : Fields) (u : Updated) → updated ops doc ≡ Ok u → KeysOnce u.touches
unfolding updated
touches_once ops doc u e = by (outcome ops false (Object doc)) e
  where
    by : (o : Outcome) → updated_by (Object doc) o ≡ Ok u → KeysOnce u.touches
    by (Ok ss) p =
        (let q : record { doc = fields_of (after (Object doc) ss); touches = touches (after (Object doc) ss) (marks_of ss) } ≡ u = cc in
        subst (λ (x : Updated). KeysOnce x.touches) q (keys_once (after (Object doc) ss) (touched (marks_of ss)) (firsts_apart [] (tops (marks_of ss) (marks_of ss)))))
    by (Err f) p = cc
