-- A touch that sets an element of the array that a field holds.
use Rattle.std.proofs.Common.{◌≡◌, ℕ, ◌<◌, true, false, Bool, List, [], ◌∷◌, refl, sym, ap, subst, ◌∙◌, Some, nat_lt}
use Rattle.std.specs.Str.{bytes_eq}
use Rattle.std.proofs.lemmas.Bool.{lt-ltb}
use Rattle.containers.specs.Entries.{put as put_field}
use Rattle.bson_value.specs.Place.{put_item}
use Rattle.bson_value.specs.declared.value.Value.{Value}
use Rattle.bson_value.specs.declared.value.Value.TheVariants.{Array, Object}
use Rattle.doc_path.specs.declared.parts.Form.{Form}
use Rattle.doc_path.specs.declared.parts.Form.TheVariants.{V1, V2}
use Rattle.doc_path.specs.declared.parts.Part.TheVariants.{Index as index, Name as name}
use Rattle.doc_path.specs.declared.parts.Rule.TheVariants as rule
use Rattle.doc_path.specs.declared.touches.Touch.TheVariants.{Set as Sets}
use Rattle.doc_path.specs.declared.touches.Touch.{Touch}
use Rattle.doc_path.specs.Played.{id_name, touch_of}
use Rattle.doc_path.specs.Touch.{limit, made, set_last}
use Rattle.doc_path.proofs.Steps.{index_part, set_array}
use Rattle.spliced_documents.specs.Splicing.{IsItemPut}
use Rattle.replay.specs.Splicing.{Changes, SaysAt}
use Rattle.replay.proofs.FieldAlone.{walk_below}

item_here : (form : Form) (n : ℕ) (a : Value) (xs : List Value) → n < limit → set_last form (index n) a (Array xs) ≡ Array (put_item xs n a)
item_here V1 n a xs low = sym (set_array rule.V1 (index n) a xs (put_item xs n a) n (index_part rule.V1 (index n) n refl low) refl)
item_here V2 n a xs low = sym (set_array rule.V2 (index n) a xs (put_item xs n a) n (index_part rule.V2 (index n) n refl low) refl)

pub sets_item : (f : List ℕ) (n : ℕ) (a : Value) (fresh : Bool) → bytes_eq f id_name ≡ false → n < limit → Changes (IsItemPut f n a) (touch_of (Sets (name f ∷ (index n ∷ [])) a fresh))
sets_item f n a fresh other low form d e is =
    let near : nat_lt n limit ≡ true = lt-ltb n limit low in
    let walked = walk_below f form (made form) [] (set_last form (index n) a) d (Array is.0) is.1 in
    ap (λ (z : List (List ℕ × Value)). Object z) is.3 ∙ sym (rw (other, near) (walked ∙ ap (λ (w : Value). Object (put_field f w d)) (item_here form n a is.0 low)))

pub changes_item : (f : List ℕ) (n : ℕ) (v : Value) → bytes_eq f id_name ≡ false → n < limit → (t : Touch) → SaysAt (name f ∷ (index n ∷ [])) (Some v) t → Changes (IsItemPut f n v) (touch_of t)
changes_item f n v other low t says = subst (λ (u : Touch). Changes (IsItemPut f n v) (touch_of u)) (sym says.1) (sets_item f n v says.0 other low)
