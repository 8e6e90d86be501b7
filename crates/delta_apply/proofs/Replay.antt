-- One touch of a list that is played.
use Rattle.std.proofs.Common.{◌≡◌, ℕ, ◌+◌, ◌<◌, Bool, true, false, List, [], ◌∷◌, length, drop, get_or, map, zero, suc, refl, sym, ap, ◌∙◌, arith}
use Rattle.std.specs.Prelude.{◌||◌}
use Rattle.std.proofs.lemmas.Slice.Eq.{bytes_eq-Decides}
use Rattle.std.proofs.lemmas.List.{drop_more}
use Rattle.bson_value.specs.declared.value.Value.{Value}
use Rattle.bson_value.specs.declared.value.Value.TheVariants.{Object}
use Rattle.doc_path.specs.declared.parts.Form.{Form}
use Rattle.doc_path.specs.declared.touches.Touch.{Touch}
use Rattle.doc_path.specs.Touch.{key_of}
use Rattle.doc_path.specs.Played.{played, played_all, touch_of}
use Rattle.delta_apply.specs.Touched.{Field, place_of, leads_to, is_touched, untouched}
use Rattle.delta_apply.proofs.Others.{fields, fields-object, GoesWith, same-touch}

-- the rest of the list, behind its next touch
pub next_played : (f : Form) (ts : List Touch) (i : ℕ) (t : Touch) (v w : Value) → i < length ts → t ≡ get_or ts i t → w ≡ played f (touch_of t) v →
    played_all f (map touch_of (drop i ts)) v ≡ played_all f (map touch_of (drop (i + 1) ts)) w
next_played f ts i t v w l at e =
    ap (λ (us : List Touch). played_all f (map touch_of us) v) (drop_more ts i t l)
    ∙ (ap (λ (u : Touch). played_all f (map touch_of (drop (i + 1) ts)) (played f (touch_of u) v)) (sym at)
    ∙ ap (played_all f (map touch_of (drop (i + 1) ts))) (sym e))

-- the touches go where each of them goes
goes_here : (ts : List Touch) (i : ℕ) (t : Touch) → i < length ts → t ≡ get_or ts i t → GoesWith ts (place_of t)
goes_here [] i t l at p ps is = absurd (omega (arith, l))
goes_here (u ∷ ts) zero t l at p ps is =
    let e : leads_to (place_of u) (key_of p) ≡ true = ap (λ (s : Touch). leads_to (place_of s) (key_of p)) (sym at) ∙ (ap (λ ws. leads_to ws (key_of p)) is ∙ (bytes_eq-Decides (key_of p) (key_of p)).1 refl) in
    rw e refl
goes_here (u ∷ ts) (suc i) t l at p ps is = either (leads_to (place_of u) (key_of p)) (goes_here ts i t (omega (arith, l)) at p ps is)
  where
    either : (b : Bool) → is_touched ts (key_of p) ≡ true → b || is_touched ts (key_of p) ≡ true
    either true h = refl
    either false h = h

-- the fields to which no touch goes stay as they are
pub others_kept : (f : Form) (ts : List Touch) (i : ℕ) (t : Touch) (fs gs : List Field) → i < length ts → t ≡ get_or ts i t → Object gs ≡ played f (touch_of t) (Object fs) → untouched ts gs ≡ untouched ts fs
others_kept f ts i t fs gs l at e =
    ap (untouched ts) (sym (fields-object gs)) ∙ (ap (λ (v : Value). untouched ts (fields v)) e ∙ same-touch f ts fs t (goes_here ts i t l at))
