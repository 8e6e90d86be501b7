-- Two values are equal up to the order of fields exactly where the same stands at each place.
use Rattle.std.proofs.Common.{◌≡◌, ℕ, zero, suc, List, [], ◌∷◌, map, Bool, true, false, cond, refl, sym, ap, ◌∙◌, subst, Option, Some, None}
use Rattle.std.specs.Prelude.{option_map}
use Rattle.std.specs.Str.{bytes_eq}
use Rattle.std.specs.Ordering.{nat_cmp, eq_by_cmp}
use Rattle.std.specs.declared.cmp.Ordering.{Ordering}
use Rattle.std.specs.Cmp.Lexicographic.{slice_cmp, nat_list_cmp_total, nat_list_eq_equiv, texts_ties}
use Rattle.std.specs.FinMap.{find, entries, from_entries, get-entries, get-from_entries, same_map, nat_cmp-IsAntisymmetric, slice_cmp-IsAntisymmetric}
use Rattle.bson_value.specs.declared.value.Value.{Value, Value-F, out-Value, roll-Value, out-roll-Value, fold_out-Value, fold-roll-Value, map-Value, ind-Value}
use Rattle.containers.specs.Entries.{lookup}
use Rattle.bson_value.specs.Digits.{index_of, digits}
use Rattle.bson_value.specs.Place.{Place, a_leaf, an_object, a_code, shape_in, shape, nth, at_index, child_in, child, look}
use Rattle.bson_value.specs.Alike.{by_name, ordered_step, ordered, ◌~◌}
use Rattle.bson_value.proofs.Digits.{index_of-digits}
use Rattle.bson_value.proofs.Child.{array_in}

abbrev R : List ℕ → List ℕ → Ordering
R = slice_cmp nat_cmp

-- ---- fields in the order of their names

module _ {A : Type 0} where
  lookup-find : (k : List ℕ) (fs : List (List ℕ × A)) → lookup k fs ≡ find R k fs
  lookup-find k [] = refl
  lookup-find k (e ∷ fs) =
      let t : bytes_eq e.0 k ≡ eq_by_cmp R k e.0 = nat_list_eq_equiv.symm e.0 k ∙ texts_ties k e.0 in
      λ i. cond (t i) (Some e.1) (lookup-find k fs i)

  pub lookup-by_name : (k : List ℕ) (fs : List (List ℕ × A)) → lookup k (by_name fs) ≡ lookup k fs
  unfolding by_name
  lookup-by_name k fs =
      lookup-find k _ ∙ (sym (get-entries (from_entries {R = R} fs) k) ∙ (get-from_entries nat_list_cmp_total fs k ∙ sym (lookup-find k fs)))

  pub same-by_name : (fs gs : List (List ℕ × A)) → ((k : List ℕ) → lookup k fs ≡ lookup k gs) → by_name fs ≡ by_name gs
  unfolding by_name
  same-by_name fs gs h =
      ap entries (same_map nat_list_cmp_total (slice_cmp-IsAntisymmetric nat_cmp-IsAntisymmetric) (from_entries {R = R} fs) (from_entries {R = R} gs)
      (λ k. get-from_entries nat_list_cmp_total fs k ∙ (sym (lookup-find k fs) ∙ (h k ∙ (lookup-find k gs ∙ sym (get-from_entries nat_list_cmp_total gs k))))))

abbrev on_value : {X Y : Type 0} → (X → Y) → List ℕ × X → List ℕ × Y
on_value h e = (e.0, h e.1)

pub lookup-map : {X Y : Type 0} (h : X → Y) (k : List ℕ) (fs : List (List ℕ × X)) → lookup k (map (on_value h) fs) ≡ option_map h (lookup k fs)
lookup-map h k [] = refl
lookup-map {X} {Y} h k (e ∷ fs) = by (bytes_eq e.0 k) _ _ (lookup-map h k fs)
  where
    by : (b : Bool) (o : Option Y) (p : Option X) → o ≡ option_map h p → cond b (Some (h e.1)) o ≡ option_map h (cond b (Some e.1) p)
    by true o p q = refl
    by false o p q = q

nth-map : {X Y : Type 0} (h : X → Y) (vs : List X) (n : ℕ) → nth (map h vs) n ≡ option_map h (nth vs n)
nth-map h [] n = refl
nth-map h (v ∷ vs) zero = refl
nth-map h (v ∷ vs) (suc n) = nth-map h vs n

-- ---- what stands at each place of the ordered value

at_index-map : (vs : List Value) (i : Option ℕ) → at_index (map ordered vs) i ≡ option_map ordered (at_index vs i)
at_index-map vs None = refl
at_index-map vs (Some n) = nth-map ordered vs n

child_in-ordered : (f : Value-F Value) (k : List ℕ) (i : Option ℕ) → child_in (out-Value (ordered_step (map-Value Value Value ordered f))) k i ≡ option_map ordered (child_in f k i)
child_in-ordered (Value-F.Object fs) k i = ap (λ (g : Value-F Value). child_in g k i) (out-roll-Value _) ∙ (lookup-by_name k _ ∙ lookup-map ordered k fs)
child_in-ordered (Value-F.ScopedCode t fs) k i = ap (λ (g : Value-F Value). child_in g k i) (out-roll-Value _) ∙ (lookup-by_name k _ ∙ lookup-map ordered k fs)
child_in-ordered (Value-F.Array vs) k i = ap (λ (g : Value-F Value). child_in g k i) (out-roll-Value _) ∙ at_index-map vs i
child_in-ordered _ k i = ap (λ (g : Value-F Value). child_in g k i) (out-roll-Value _)

shape_in-ordered : (f : Value-F Value) → shape_in (out-Value (ordered_step (map-Value Value Value ordered f))) ≡ shape_in f
shape_in-ordered (Value-F.Object fs) = ap shape_in (out-roll-Value _)
shape_in-ordered (Value-F.ScopedCode t fs) = ap shape_in (out-roll-Value _)
shape_in-ordered (Value-F.Array vs) = ap shape_in (out-roll-Value _)
shape_in-ordered (Value-F.Null) = ap shape_in (out-roll-Value _)
shape_in-ordered _ = ap shape_in (out-roll-Value _)

pub child-ordered : (v : Value) (k : List ℕ) → child (ordered v) k ≡ option_map ordered (child v k)
unfolding child ordered
child-ordered v k = ap (λ (w : Value). child_in (out-Value w) k (index_of k)) (fold_out-Value Value ordered_step v) ∙ child_in-ordered (out-Value v) k (index_of k)

pub shape-ordered : (v : Value) → shape (ordered v) ≡ shape v
unfolding shape ordered
shape-ordered v = ap (λ (w : Value). shape_in (out-Value w)) (fold_out-Value Value ordered_step v) ∙ shape_in-ordered (out-Value v)

pub look-ordered : (o : Option Value) (q : Place) → look (option_map ordered o) q ≡ look o q
unfolding look
look-ordered None q = refl
look-ordered (Some v) [] = ap Some (shape-ordered v)
look-ordered (Some v) (k ∷ q) = ap (λ (o : Option Value). look o q) (child-ordered v k) ∙ look-ordered (child v k) q

-- from likeness
pub alike_looks : (a b : Value) → a ~ b → (q : Place) → look (Some a) q ≡ look (Some b) q
alike_looks a b e q = sym (look-ordered (Some a) q) ∙ (ap (λ (v : Value). look (Some v) q) e ∙ look-ordered (Some b) q)

-- ---- to likeness

-- the same stands everywhere
abbrev pub SameAll : Option Value → Option Value → Type 0
SameAll o p = (q : Place) → look o q ≡ look p q

abbrev Ends : Value → Type 0
Ends a = (b : Value) → SameAll (Some a) (Some b) → ordered a ≡ ordered b

abbrev EndsIn : Option Value → Type 0
EndsIn None = Unit {0}
EndsIn (Some a) = Ends a

same_options : (o p : Option Value) → EndsIn o → SameAll o p → option_map ordered o ≡ option_map ordered p
unfolding look
same_options None None e h = refl
same_options None (Some b) e h = let c = h [] in cc
same_options (Some a) None e h = let c = h [] in cc
same_options (Some a) (Some b) e h = ap Some (e b h)

abbrev Held : Type 0
Held = (a : Value) × Ends a

ends_nth : (ys : List Held) (n : ℕ) → EndsIn (nth (map (λ e. e.0) ys) n)
ends_nth [] n = tt
ends_nth (y ∷ ys) zero = y.1
ends_nth (y ∷ ys) (suc n) = ends_nth ys n

ends_lookup : (k : List ℕ) (ys : List (List ℕ × Held)) → EndsIn (lookup k (map (on_value (λ e. e.0)) ys))
ends_lookup k [] = tt
ends_lookup k (y ∷ ys) = by (bytes_eq y.0 k) _ (ends_lookup k ys)
  where
    by : (b : Bool) (o : Option Value) → EndsIn o → EndsIn (cond b (Some y.1.0) o)
    by true o q = y.1.1
    by false o q = q

same_elements : (vs ws : List Value) → ((n : ℕ) → option_map ordered (nth vs n) ≡ option_map ordered (nth ws n)) → map ordered vs ≡ map ordered ws
same_elements [] [] h = refl
same_elements [] (w ∷ ws) h = let c = h zero in cc
same_elements (v ∷ vs) [] h = let c = h zero in cc
same_elements (v ∷ vs) (w ∷ ws) h =
    let c = h zero in
    let d : ordered v ≡ ordered w = cc in
    λ i. d i ∷ same_elements vs ws (λ n. h (suc n)) i

-- the level of a value of a known kind
pub object_in : (f : Value-F Value) → an_object ≡ shape_in f → (fs : List (List ℕ × Value)) × (f ≡ Value-F.Object fs)
object_in (Value-F.Object fs) e = (fs, refl)
object_in (Value-F.Array vs) e = cc
object_in (Value-F.ScopedCode t fs) e = cc
object_in _ e = cc

pub code_in : (t : List ℕ) (f : Value-F Value) → a_code t ≡ shape_in f → (fs : List (List ℕ × Value)) × (f ≡ Value-F.ScopedCode t fs)
code_in t (Value-F.ScopedCode u fs) e = let s : u ≡ t = cc in (fs, ap (λ (x : List ℕ). Value-F.ScopedCode x fs) s)
code_in t (Value-F.Array vs) e = cc
code_in t (Value-F.Object fs) e = cc
code_in t _ e = cc

pub leaf_in : (g f : Value-F Value) → a_leaf g ≡ shape_in f → f ≡ g
leaf_in g (Value-F.Array vs) e = cc
leaf_in g (Value-F.Object fs) e = cc
leaf_in g (Value-F.ScopedCode t fs) e = cc
leaf_in g _ e = cc

-- what is under a name, of two levels that look the same below
abbrev Under : Value-F Value → Value-F Value → Type 0
Under f g = (k : List ℕ) → SameAll (child_in f k (index_of k)) (child_in g k (index_of k))

same_fields : (ys : List (List ℕ × Held)) (gs : List (List ℕ × Value)) → ((k : List ℕ) → SameAll (lookup k (map (on_value (λ e. e.0)) ys)) (lookup k gs)) →
    by_name (map (on_value ordered) (map (on_value (λ e. e.0)) ys)) ≡ by_name (map (on_value ordered) gs)
same_fields ys gs h = same-by_name _ _ (λ k. lookup-map ordered k _ ∙ (same_options _ _ (ends_lookup k ys) (h k) ∙ sym (lookup-map ordered k gs)))

at_digits : (vs ws : List Value) (n : ℕ) → Under (Value-F.Array vs) (Value-F.Array ws) → SameAll (nth vs n) (nth ws n)
at_digits vs ws n h = subst (λ (i : Option ℕ). SameAll (at_index vs i) (at_index ws i)) (index_of-digits n) (h (digits n))

same_items : (ys : List Held) (ws : List Value) → Under (Value-F.Array (map (λ e. e.0) ys)) (Value-F.Array ws) → map ordered (map (λ e. e.0) ys) ≡ map ordered ws
same_items ys ws h = same_elements _ ws (λ n. same_options _ _ (ends_nth ys n) (at_digits _ ws n h))

abbrev kept : Value-F Held → Value-F Value
kept y = map-Value Held Value (λ e. e.0) y

abbrev made_of : Value-F Value → Value
made_of f = ordered_step (map-Value Value Value ordered f)

level : (y : Value-F Held) (f : Value-F Value) → shape_in (kept y) ≡ shape_in f → Under (kept y) f → made_of (kept y) ≡ made_of f
level (Value-F.Object ys) f e h =
    let g = object_in f e in
    let u = subst (λ (x : Value-F Value). Under (kept (Value-F.Object ys)) x) g.1 h in
    ap (λ (l : List (List ℕ × Value)). roll-Value (Value-F.Object l)) (same_fields ys g.0 u) ∙ sym (ap made_of g.1)
level (Value-F.ScopedCode t ys) f e h =
    let g = code_in t f e in
    let u = subst (λ (x : Value-F Value). Under (kept (Value-F.ScopedCode t ys)) x) g.1 h in
    ap (λ (l : List (List ℕ × Value)). roll-Value (Value-F.ScopedCode t l)) (same_fields ys g.0 u) ∙ sym (ap made_of g.1)
level (Value-F.Array ys) f e h =
    let g = array_in f (sym e) in
    let u = subst (λ (x : Value-F Value). Under (kept (Value-F.Array ys)) x) g.1 h in
    ap (λ (l : List Value). roll-Value (Value-F.Array l)) (same_items ys g.0 u) ∙ sym (ap made_of g.1)
level y f e h = sym (ap made_of (leaf_in (kept y) f e))

below : (x : Value-F Value) (b : Value) → SameAll (Some (roll-Value x)) (Some b) → Under x (out-Value b)
unfolding look child
below x b h k q = ap (λ (f : Value-F Value). look (child_in f k (index_of k)) q) (sym (out-roll-Value x)) ∙ h (k ∷ q)

at_root : (x : Value-F Value) (b : Value) → SameAll (Some (roll-Value x)) (Some b) → shape_in x ≡ shape_in (out-Value b)
unfolding look shape
at_root x b h = let c = h [] in let d : shape_in (out-Value (roll-Value x)) ≡ shape_in (out-Value b) = cc in ap shape_in (sym (out-roll-Value x)) ∙ d

ends_step : (x : Value-F Value) (y : Value-F Held) → kept y ≡ x → Ends (roll-Value x)
unfolding ordered
ends_step x y is b h =
    fold-roll-Value Value ordered_step x
    ∙ (subst (λ (z : Value-F Value). shape_in z ≡ shape_in (out-Value b) → Under z (out-Value b) → made_of z ≡ made_of (out-Value b)) is (level y (out-Value b)) (at_root x b h) (below x b h)
    ∙ sym (fold_out-Value Value ordered_step b))

pub looks_alike : (a b : Value) → SameAll (Some a) (Some b) → a ~ b
looks_alike a = ind-Value Ends ends_step a
