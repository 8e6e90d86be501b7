-- An update of a well-formed document by well-formed operators makes a well-formed document, and well-formed touches.
use Rattle.std.proofs.Common.{◌≡◌, ℕ, ◌<◌, List, [], ◌∷◌, length, map, Bool, true, false, refl, subst, arith}
use Rattle.std.specs.Prelude.{if◌then◌else◌, nat_lt, Option, Some, None, Ok, Err}
use Rattle.std.proofs.lemmas.Grind.{common_steps}
use Rattle.bson_value.specs.declared.value.Value.{Value, Value-F, Object, out-Value}
use Rattle.bson_value.specs.WellFormed.{IsWellFormedLevel, IsWellFormed, IsWellFormedDocument}
use Rattle.bson_value.proofs.WellFormed.{IsHeldWellFormed, held_formed, here_formed, formed_object}
use Rattle.doc_path.specs.declared.touches.Touch.{Touch}
use Rattle.doc_path.specs.declared.touches.Touch.TheVariants.{Set, Unset, Resize}
use Rattle.doc_path.specs.Touch.{limit}
use Rattle.doc_path.specs.Ways.{value_in}
use Rattle.update_model.specs.declared.mark.Mark.{Mark}
use Rattle.update_model.specs.declared.mark.Made.{Made}
use Rattle.update_model.specs.declared.mark.Made.TheVariants as made
use Rattle.update_model.specs.declared.updated.Updated.{Updated}
use Rattle.update_model.specs.Steps.{after, marks_of}
use Rattle.update_model.specs.Touched.{parts_of, place_of as place_at, any_mark, tops, stands_in, firsts, touched, length_in, cut_to_length, set_or_cut, touch_by, touch_of, touches}
use Rattle.doc_path.specs.Places.{keys}
use Rattle.update_model.specs.Reading.{operators, ops_fault}
use Rattle.update_model.specs.Updating.{Outcome, fields_in, fields_of, outcome, updated_by, updated}
use Rattle.update_records.proofs.Levels.{Fields}
use Rattle.update_records.proofs.Spelled.{AreNamed, named_end}
use Rattle.update_records.proofs.Changed.{place_formed}
use Rattle.update_records.proofs.Acts.{IsNamedPlace, AreNamedMarks, IsWellFormedOutcome, after_formed, all_named, outcome_formed}
use Rattle.update_records.proofs.Paths.{operators_formed}

abbrev pub IsWellFormedTouch : Touch → Type 0
IsWellFormedTouch (Set place a fresh) = AreNamed place × IsWellFormed a
IsWellFormedTouch (Unset place) = AreNamed place
IsWellFormedTouch (Resize place n) = AreNamed place × (n < limit)

abbrev pub AreWellFormedTouches : List Touch → Type 0
AreWellFormedTouches [] = Unit {0}
AreWellFormedTouches (t ∷ ts) = IsWellFormedTouch t × AreWellFormedTouches ts

tops_named : (all ms : List Mark) → AreNamedMarks ms → AreNamedMarks (tops all ms)
tops_named all [] h = tt
tops_named all (m ∷ ms) h = by (any_mark all (keys m.way)) (tops_named all ms h.1)
  where
    by : (b : Bool) → AreNamedMarks (tops all ms) → AreNamedMarks (if b then tops all ms else m ∷ tops all ms)
    by true r = r
    by false r = (h.0, r)

firsts_named : (seen ms : List Mark) → AreNamedMarks ms → AreNamedMarks (firsts seen ms)
firsts_named seen [] h = tt
firsts_named seen (m ∷ ms) h = by (stands_in (place_at m) seen) (firsts_named seen ms h.1) (firsts_named (m ∷ seen) ms h.1)
  where
    by : (b : Bool) → AreNamedMarks (firsts seen ms) → AreNamedMarks (firsts (m ∷ seen) ms) → AreNamedMarks (if b then firsts seen ms else m ∷ firsts (m ∷ seen) ms)
    by true r q = r
    by false r q = (h.0, q)

length_small : (f : Value-F Value) (n : ℕ) → length_in f ≡ Some n → n < limit
length_small (Value-F.Array vs) n e = by (nat_lt (length vs) limit) refl e
  where
    by : (b : Bool) → nat_lt (length vs) limit ≡ b → (if b then Some (length vs) else None) ≡ Some n → n < limit
    by true q f = let g : length vs ≡ n = cc in let l : length vs < limit = grind (arith, common_steps) in omega (arith, g, l)
    by false q f = cc
length_small _ n e = cc

cut_small : (k : Made) (a : Value) (n : ℕ) → cut_to_length k a ≡ Some n → n < limit
cut_small made.Cut a n e = length_small (out-Value a) n e
cut_small made.Fresh a n e = cc
cut_small made.Changed a n e = cc

touch_formed : (z : Value) (m : Mark) → IsNamedPlace m.way m.last → IsWellFormed z → IsWellFormedTouch (touch_of z m)
touch_formed z m n h = by (value_in (parts_of m) z) refl
  where
    set_by : (a : Value) → IsWellFormed a → (o : Option ℕ) → cut_to_length m.made a ≡ o → IsWellFormedTouch (set_or_cut m a o)
    set_by a k None e = (named_end m.way m.last n.0 n.1, k)
    set_by a k (Some l) e = (named_end m.way m.last n.0 n.1, cut_small m.made a l e)

    by : (o : Option Value) → value_in (parts_of m) z ≡ o → IsWellFormedTouch (touch_by m o)
    by None e = named_end m.way m.last n.0 n.1
    by (Some a) e = set_by a (place_formed (parts_of m) z a h e) (cut_to_length m.made a) refl

all_touches : (z : Value) (ms : List Mark) → AreNamedMarks ms → IsWellFormed z → AreWellFormedTouches (map (touch_of z) ms)
all_touches z [] n h = tt
all_touches z (m ∷ ms) n h = (touch_formed z m n.0 h, all_touches z ms n.1 h)

fields_formed : (f : Value-F Value) → IsWellFormedLevel f → IsHeldWellFormed f → IsWellFormedDocument (fields_in f)
fields_formed (Value-F.Object fs) l h = (l, h)
fields_formed _ l h = ((tt, tt), tt)

pub record IsWellFormedUpdated (u : Updated) : Type 0 where
  pub document : IsWellFormedDocument u.doc
  pub touches : AreWellFormedTouches u.touches

pub updated_formed : (ops doc : Fields) (u : Updated) → IsWellFormedDocument ops → IsWellFormedDocument doc → ops_fault ops ≡ None → updated (operators ops) doc ≡ Ok u → IsWellFormedUpdated u
unfolding updated
updated_formed ops doc u k h s e =
    let v = Object doc in
    let w = formed_object doc h in
    by (outcome (operators ops) false v) (outcome_formed (operators ops) false v (operators_formed ops k s) w) w e
  where
    by : (o : Outcome) → IsWellFormedOutcome o → IsWellFormed (Object doc) → updated_by (Object doc) o ≡ Ok u → IsWellFormedUpdated u
    by (Err f) g w p = cc
    by (Ok ss) g w p =
        let z = after (Object doc) ss in
        let r = after_formed (Object doc) ss w g in
        let ms = marks_of ss in
        let q : record { doc = fields_of z; touches = touches z ms } ≡ u = cc in
        let m : IsWellFormedUpdated (record { doc = fields_of z; touches = touches z ms }) = record {
          document = fields_formed (out-Value z) (here_formed z r) (held_formed z r);
          touches = all_touches z (touched ms) (firsts_named [] (tops ms ms) (tops_named ms ms (all_named ss g))) r;
        } in
        subst IsWellFormedUpdated q m
