-- A change at a place that doesn't begin with `_id` leaves a document with its `_id`.
use Rattle.std.proofs.Common.{◌≡◌, ℕ, List, [], ◌∷◌, Bool, true, false, refl, ◌∙◌, subst, Option, Some, None}
use Rattle.std.specs.Prelude.{if◌then◌else◌}
use Rattle.bson_value.specs.declared.value.Value.{Value}
use Rattle.bson_value.specs.Place.{Shape, an_object, shape, child, put, del, into}
use Rattle.bson_value.proofs.Child.{behind, shape-put, shape-del, child-put_ne, del_else}
use Rattle.doc_path.specs.declared.parts.Part.{Part}
use Rattle.doc_path.specs.declared.parts.Part.TheVariants.{Name as name, Index as index}
use Rattle.doc_path.specs.declared.parts.Form.TheVariants.{V2}
use Rattle.doc_path.specs.declared.parts.Change.{Change}
use Rattle.doc_path.specs.declared.parts.Change.TheVariants.{Put, Delete, Resize as Length}
use Rattle.doc_path.specs.Touch.{key_of, takes, or_else, walk_by, resize_here, last_step, changed}
use Rattle.doc_path.specs.Played.{id_name, is_id}
use Rattle.update_model.proofs.CleanActs.{Off}

-- where the first is a document, so is the second, with the same `_id`
abbrev pub Keeps : Value → Value → Type 0
Keeps v w = shape v ≡ an_object → (shape w ≡ an_object) × (child w id_name ≡ child v id_name)

pub stays : (v : Value) → Keeps v v
stays v s = (s, refl)

pub then_keeps : (u v w : Value) → Keeps u v → Keeps v w → Keeps u w
then_keeps u v w a b s = (let x = a s in let y = b x.0 in (y.0, y.1 ∙ x.1))

not_behind : (v : Value) (k : List ℕ) → shape v ≡ an_object → behind (shape v) k id_name ≡ true → ⊥
not_behind v k s e = (let f : behind an_object k id_name ≡ true = subst (λ (z : Shape). behind z k id_name ≡ true) s e in cc)

not_taken : (n : ℕ) (v : Value) → shape v ≡ an_object → takes V2 (index n) (shape v) ≡ true → ⊥
not_taken n v s e = (let f : takes V2 (index n) an_object ≡ true = subst (λ (z : Shape). takes V2 (index n) z ≡ true) s e in cc)

put_keeps : (p : Part) (v a : Value) → is_id p ≡ false → takes V2 p (shape v) ≡ true → Keeps v (put v (key_of p) a)
put_keeps (name k) v a n t s = (shape-put v k a ∙ s, child-put_ne v k id_name a n (λ e. absurd (not_behind v k s e)))
put_keeps (index i) v a n t s = absurd (not_taken i v s t)

del_keeps : (p : Part) (v : Value) → is_id p ≡ false → takes V2 p (shape v) ≡ true → Keeps v (del v (key_of p))
del_keeps (name k) v n t s = (shape-del v k ∙ s, del_else v k id_name s n)
del_keeps (index i) v n t s = absurd (not_taken i v s t)

into_keeps : (p : Part) (g : Value → Value) (v : Value) (o : Option Value) → is_id p ≡ false → takes V2 p (shape v) ≡ true → Keeps v (into g v (key_of p) o)
into_keeps p g v None n t = stays v
into_keeps p g v (Some c) n t = put_keeps p v (g c) n t

-- whatever is done behind the first part
walk_keeps : (p : Part) (ps : List Part) (g : Value → Value) (v : Value) → is_id p ≡ false → Keeps v (walk_by (takes V2) None (p ∷ ps) g v)
walk_keeps p ps g v n = by (takes V2 p (shape v)) refl
  where
    by : (b : Bool) → takes V2 p (shape v) ≡ b → Keeps v (if b then into (walk_by (takes V2) None ps g) v (key_of p) (or_else (child v (key_of p)) None) else v)
    by true e = into_keeps p (walk_by (takes V2) None ps g) v (or_else (child v (key_of p)) None) n e
    by false e = stays v

step_keeps : (p : Part) (c : Change) (v : Value) → is_id p ≡ false → Keeps v (last_step V2 p c v)
step_keeps p (Put a) v n = by (takes V2 p (shape v)) refl
  where
    by : (b : Bool) → takes V2 p (shape v) ≡ b → Keeps v (if b then put v (key_of p) a else v)
    by true e = put_keeps p v a n e
    by false e = stays v
step_keeps p Delete v n = by (takes V2 p (shape v)) refl
  where
    by : (b : Bool) → takes V2 p (shape v) ≡ b → Keeps v (if b then del v (key_of p) else v)
    by true e = del_keeps p v n e
    by false e = stays v
step_keeps p (Length m) v n = walk_keeps p [] (resize_here m) v n

pub changed_keeps : (ws : List Part) (p : Part) (c : Change) (v : Value) → Off ws p → Keeps v (changed V2 ws p c v)
changed_keeps [] p c v h = step_keeps p c v h
changed_keeps (w ∷ ws) p c v h = walk_keeps w ws (last_step V2 p c) v h
