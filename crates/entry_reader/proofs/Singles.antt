-- Deltas of one touch are read as it.
use Rattle.std.proofs.Common.{◌≡◌, ℕ, zero, suc, ◌-◌, arith, List, [], ◌∷◌, ◌++◌, Bool, true, false, refl, sym, ap, ◌∙◌, subst, append_assoc}
use Rattle.std.proofs.lemmas.Grind.{common_steps}
use Rattle.std.specs.Prelude.{◌==◌, if◌then◌else◌, ℤ, pos, Option, Some, None, option_map, Result, Ok, Err, IfOk, IfSome}
use Rattle.bson_value.specs.declared.value.Value.{Value, Value-F, out-Value}
use Rattle.bson_view.specs.HeldWalk.{fields_in}
use Rattle.doc_path.specs.declared.parts.Form.TheVariants.{V2}
use Rattle.doc_path.specs.declared.parts.Part.{Part}
use Rattle.doc_path.specs.declared.parts.Part.TheVariants.{Name}
use Rattle.doc_path.specs.declared.touches.Touch.{Touch}
use Rattle.doc_path.specs.declared.touches.Touch.TheVariants.{Set, Unset}
use Rattle.entry_model.specs.Edits.{Edit, mapped, under}
use Rattle.entry_model.specs.Written.{Fields, v_name, diff_name, u_name, i_name, d_name}
use Rattle.entry_model.specs.Reads.{Read, then_also, object_in, fields_as, set_of, unset_of, below_part, diff_read, outermost, and_then, or_bad, with_diff, in_form, version_in}
use Rattle.entry_model.specs.Touches.{touch_by, touch_from, as_touches, touches_read}
use Rattle.entry_model.specs.Spelling.{level_limit}
use Rattle.oplog_entry.proofs.Pushes.{append_nil}
use Rattle.oplog_entry.specs.DiffFields.{at_front, behind_letter}
use Rattle.entry_reader.specs.Singles.{IsSecondForm, IsTwo, IsTouchAt, SaysTouch, front_of, edits_in}

-- ---- where memory lasts

pub if_so : {E : Type 0} (P Q : Touch → Type 0) (r : Result (Option Touch) E) → ((t : Touch) → P t → Q t) → IfOk r (λ o. IfSome o P) → IfOk r (λ o. IfSome o Q)
if_so P Q (Ok (Some t)) f h = f t h
if_so P Q (Ok None) f h = tt
if_so P Q (Err x) f h = tt

pub if_touch : {E : Type 0} (P : Touch → Type 0) (u : Touch) (r : Result (Option Touch) E) → P u → IfOk r (λ o. IfSome o (λ t. t ≡ u)) → IfOk r (λ o. IfSome o P)
if_touch P u r p h = if_so (λ t. t ≡ u) P r (λ t e. subst P (sym e) p) h

-- ---- a diff of one field

module _ (front : List Part) (w : Value) (n : List ℕ) (x : Value) (is : out-Value w ≡ Value-F.Object ((n, x) ∷ [])) where
  by_fields : (g : List ℕ × Value → Edit) → option_map (mapped (at_front front)) (then_also (fields_as g w) (Some [])) ≡ Some (at_front front (g (n, x)) ∷ [])
  by_fields g = ap (λ (v : Value-F Value). option_map (mapped (at_front front)) (then_also (object_in (λ fs. Some (mapped g fs)) v) (Some []))) is

  by_set : (fresh : Bool) → option_map (mapped (at_front front)) (then_also (fields_as (set_of fresh) w) (Some [])) ≡ Some (Set (front ++ Name n ∷ []) x fresh ∷ [])
  by_set fresh = by_fields (set_of fresh) ∙ ap (λ (l : List Part). Some (Set (l ++ Name n ∷ []) x fresh ∷ [])) (append_nil front)

  by_unset : option_map (mapped (at_front front)) (then_also (fields_as unset_of w) (Some [])) ≡ Some (Unset (front ++ Name n ∷ []) ∷ [])
  by_unset = by_fields unset_of ∙ ap (λ (l : List Part). Some (Unset (l ++ Name n ∷ []) ∷ [])) (append_nil front)

u_level : (front : Option (List Part)) (m : ℕ) (w : Value) → edits_in front (suc m) ((u_name, w) ∷ []) ≡ then_also (fields_as (set_of false) w) (Some [])
u_level None m w = refl
u_level (Some place) m w = refl

i_level : (front : Option (List Part)) (m : ℕ) (w : Value) → edits_in front (suc m) ((i_name, w) ∷ []) ≡ then_also (fields_as (set_of true) w) (Some [])
i_level None m w = refl
i_level (Some place) m w = refl

d_level : (front : Option (List Part)) (m : ℕ) (w : Value) → edits_in front (suc m) ((d_name, w) ∷ []) ≡ then_also (fields_as unset_of w) (Some [])
d_level None m w = refl
d_level (Some place) m w = refl

s_level : (front : Option (List Part)) (m : ℕ) (k : List ℕ) (w : Value) → edits_in front (suc m) ((115 ∷ k, w) ∷ []) ≡ then_also (below_part (Name k) (diff_read m) w) (Some [])
s_level None m k w = refl
s_level (Some place) m k w = refl

module _ (front : Option (List Part)) (k : List ℕ) (w : Value) (n : List ℕ) (x : Value) (is : out-Value w ≡ Value-F.Object ((n, x) ∷ [])) where
  named : (j : List ℕ) (t : Touch) → k ≡ j → SaysTouch front ((j, w) ∷ []) t → SaysTouch front ((k, w) ∷ []) t
  named j t e h = subst (λ (l : List ℕ). SaysTouch front ((l, w) ∷ []) t) (sym e) h

  pub sets_one : k ≡ u_name → SaysTouch front ((k, w) ∷ []) (Set (front_of front ++ Name n ∷ []) x false)
  sets_one e = named u_name (Set (front_of front ++ Name n ∷ []) x false) e (λ m. ap (option_map (mapped (at_front (front_of front)))) (u_level front m w) ∙ by_set (front_of front) w n x is false)

  pub adds_one : k ≡ i_name → SaysTouch front ((k, w) ∷ []) (Set (front_of front ++ Name n ∷ []) x true)
  adds_one e = named i_name (Set (front_of front ++ Name n ∷ []) x true) e (λ m. ap (option_map (mapped (at_front (front_of front)))) (i_level front m w) ∙ by_set (front_of front) w n x is true)

  pub takes_one : k ≡ d_name → SaysTouch front ((k, w) ∷ []) (Unset (front_of front ++ Name n ∷ []))
  takes_one e = named d_name (Unset (front_of front ++ Name n ∷ [])) e (λ m. ap (option_map (mapped (at_front (front_of front)))) (d_level front m w) ∙ by_unset (front_of front) w n x is)

-- ---- a diff below another

at_below : (front : List Part) (r : Part) (es : List Edit) → mapped (at_front front) (mapped (under r) es) ≡ mapped (at_front (front ++ r ∷ [])) es
at_below front r [] = refl
at_below front r (e ∷ es) = λ k. touch_by (sym (append_assoc front (r ∷ []) e.0) k) e.1 ∷ at_below front r es k

below_is : (front : List Part) (r : Part) (o : Read) → option_map (mapped (at_front front)) (then_also (option_map (mapped (under r)) o) (Some [])) ≡ option_map (mapped (at_front (front ++ r ∷ []))) o
below_is front r None = refl
below_is front r (Some es) = ap (λ (l : List Edit). Some (mapped (at_front front) l)) (append_nil (mapped (under r) es)) ∙ ap (λ (l : List Touch). Some l) (at_below front r es)

-- the diff below a part is read at the place with it
pub read_below : (front place : List Part) (r : Part) (w : Value) (n : ℕ) (ds : Fields) (t : Touch) → place ≡ front ++ r ∷ [] → out-Value w ≡ Value-F.Object ds → IsTouchAt (Some place) n ds t → option_map (mapped (at_front front)) (then_also (below_part r (diff_read n) w) (Some [])) ≡ Some (t ∷ [])
read_below front place r w n ds t e is h =
    ap (λ (v : Value-F Value). option_map (mapped (at_front front)) (then_also (option_map (mapped (under r)) (object_in (diff_read n) v)) (Some []))) is
    ∙ (below_is front r (diff_read n ds) ∙ subst (λ (l : List Part). IsTouchAt (Some l) n ds t) e h)

pub goes_below : (front : Option (List Part)) (place : List Part) (k : List ℕ) (w : Value) (n : ℕ) (ds : Fields) (t : Touch) → place ≡ front_of front ++ Name k ∷ [] → out-Value w ≡ Value-F.Object ds → IsTouchAt (Some place) n ds t → IsTouchAt front (suc n) ((115 ∷ k, w) ∷ []) t
goes_below front place k w n ds t e is h = ap (option_map (mapped (at_front (front_of front)))) (s_level front n k w) ∙ read_below (front_of front) place (Name k) w n ds t e is h

pub like : (a b : ℕ) → (a == b) ≡ true → a ≡ b
like a b e = grind (arith, common_steps)

pub letter_is : (c : ℕ) (name cs : List ℕ) → Some cs ≡ behind_letter c name → name ≡ c ∷ cs
letter_is c [] cs e = absurd cc
letter_is c (x ∷ xs) cs e = by (x == c) refl e
  where
    by : (b : Bool) → (x == c) ≡ b → Some cs ≡ (if b then Some xs else None) → x ∷ xs ≡ c ∷ cs
    by true same h = let tail : cs ≡ xs = cc in λ i. like x c same i ∷ sym tail i
    by false same h = absurd cc

pub if_below : {E : Type 0} (front : Option (List Part)) (place : List Part) (name k : List ℕ) (w : Value) (n m : ℕ) (fs ds : Fields) (r : Result (Option Touch) E) →
    (n ≡ 0 → ⊥) → m ≡ n - 1 → fs ≡ (name, w) ∷ [] → Some k ≡ behind_letter 115 name → place ≡ front_of front ++ Name k ∷ [] → out-Value w ≡ Value-F.Object ds →
    IfOk r (λ o. IfSome o (λ t. IsTouchAt (Some place) m ds t)) → IfOk r (λ o. IfSome o (λ t. IsTouchAt front n fs t))
if_below front place name k w zero m fs ds r low less only letter e is h = absurd (low refl)
if_below front place name k w (suc n) m fs ds r low less only letter e is h =
    let one : m ≡ n = omega (arith, less) in
    if_so (λ t. IsTouchAt (Some place) m ds t) (λ t. IsTouchAt front (suc n) fs t) r
    (λ t one_touch. subst (λ (l : Fields). IsTouchAt front (suc n) l t) (sym (only ∙ ap (λ (l : List ℕ). (l, w) ∷ []) (letter_is 115 name k letter)))
    (goes_below front place k w n ds t e is (subst (λ (i : ℕ). IsTouchAt (Some place) i ds t) one one_touch))) h

pub if_says : {E : Type 0} (front : Option (List Part)) (n : ℕ) (fs gs : Fields) (r : Result (Option Touch) E) → (n ≡ 0 → ⊥) → fs ≡ gs → IfOk r (λ o. IfSome o (λ t. SaysTouch front gs t)) → IfOk r (λ o. IfSome o (λ t. IsTouchAt front n fs t))
if_says front zero fs gs r low same h = absurd (low refl)
if_says front (suc n) fs gs r low same h = if_so (λ t. SaysTouch front gs t) (λ t. IsTouchAt front (suc n) fs t) r (λ t says. subst (λ (l : Fields). IsTouchAt front (suc n) l t) (sym same) (says n)) h

-- ---- the delta

two_is : (x : Value-F Value) → IsTwo x → x ≡ Value-F.Int (pos 2)
two_is (Value-F.Int z) e = let same : z ≡ pos 2 = cc in ap (λ (n : ℤ). Value-F.Int n) same
two_is _ e = absurd cc

module _ (v w : Value) (d : Fields) (t : Touch) (two : IsTwo (out-Value v)) (is : out-Value w ≡ Value-F.Object d) (one : IsTouchAt None (suc level_limit) d t) where
  by_diff : (r : Read) → option_map (mapped touch_from) r ≡ Some (t ∷ []) → as_touches (in_form V2 (with_diff (Some w) (and_then (Ok []) (and_then (or_bad diff_name r) (Ok []))))) ≡ Ok (V2, t ∷ [])
  by_diff None h = absurd cc
  by_diff (Some es) h =
      let more : es ++ [] ≡ es = append_nil es in
      let same : mapped touch_from es ≡ t ∷ [] = cc in
      ap (λ (l : List Edit). Ok (V2, mapped touch_from l)) more ∙ ap (λ (l : List Touch). Ok (V2, l)) same

  pub second_form : (o : Fields) → o ≡ (v_name, v) ∷ ((diff_name, w) ∷ []) → touches_read (suc level_limit) o ≡ Ok (V2, t ∷ [])
  second_form o e =
      ap (touches_read (suc level_limit)) e
      ∙ ap (λ (x : Value-F Value). as_touches (version_in (suc level_limit) x ((v_name, v) ∷ ((diff_name, w) ∷ [])))) (two_is (out-Value v) two)
      ∙ ap (λ (x : Value-F Value). as_touches (in_form V2 (with_diff (Some w) (and_then (Ok []) (and_then (or_bad diff_name (object_in (outermost (suc level_limit)) x)) (Ok [])))))) is
      ∙ by_diff (outermost (suc level_limit) d) one

pub if_delta : {E : Type 0} (o d : Fields) (r : Result (Option Touch) E) → IsSecondForm o d → IfOk r (λ f. IfSome f (λ t. IsTouchAt None (suc level_limit) d t)) → IfOk r (λ f. IfSome f (λ t. touches_read (suc level_limit) o ≡ Ok (V2, t ∷ [])))
if_delta o d r p h = if_so (λ t. IsTouchAt None (suc level_limit) d t) (λ t. touches_read (suc level_limit) o ≡ Ok (V2, t ∷ [])) r (λ t one. second_form p.0 p.1 d t p.2 p.3 one o p.4) h

pub object_is : (x : Value-F Value) (d : Fields) → Some d ≡ fields_in x → x ≡ Value-F.Object d
object_is (Value-F.Object fs) d e = let same : d ≡ fs = cc in ap (λ (l : Fields). Value-F.Object l) (sym same)
object_is _ d e = absurd cc

pub if_second : {V : Type 0} (document : V → Fields) (r : Option V) (o : Fields) (v w : Value) → IsTwo (out-Value v) → o ≡ (v_name, v) ∷ ((diff_name, w) ∷ []) → option_map document r ≡ fields_in (out-Value w) → IfSome r (λ d. IsSecondForm o (document d))
if_second document (Some d) o v w two fields e = (v, w, two, object_is (out-Value w) (document d) e, fields)
if_second document None o v w two fields e = tt
