-- Names of fields that stand once.
use Rattle.std.proofs.Common.{◌≡◌, ℕ, List, [], ◌∷◌, ◌++◌, Bool, false, refl, sym, ap, ◌∙◌, subst, arith, inl, inr}
use Rattle.std.specs.Prelude.{◌⊎◌, Option, Some, None, ℤ, ◌==◌}
use Rattle.std.proofs.lemmas.Grind.{common_steps}
use Rattle.containers.specs.Entries.{IsAbsent, AreDistinct, names_of}
use Rattle.bson_value.specs.declared.value.Value.{Value, Value-F, Object, every_made-Value}
use Rattle.bson_value.specs.declared.value.Value.TheVariants.{Bool as Truth, Int, rolls-Bool, rolls-Int}
use Rattle.entry_model.specs.Distinct.{DistinctIn, AllDistinct, FieldsDistinct}
use Rattle.entry_model.proofs.Distinct.{distinct_object}
use Rattle.doc_path.specs.declared.parts.Part.{Part}
use Rattle.entry_model.specs.Edits.{Step, Edit, In, onto, picked, gathered, place_of}
use Rattle.entry_model.specs.Written.{Fields, section}
use Rattle.entry_model.specs.Laws.{PlacesOnce}
use Rattle.entry_model.proofs.Lists.{picked_in, gathered_in, in_either}
use Rattle.entry_model.proofs.Blocks.{NoTwice}

first_of : List ℕ → ℕ
first_of [] = 0
first_of (c ∷ cs) = c

pub unlike : (a b : ℕ) → (a == b) ≡ false → a ≡ b → ⊥
unlike a b e h = grind (arith, common_steps)

-- texts that begin otherwise
pub apart : (a b : ℕ) (xs ys : List ℕ) → (a == b) ≡ false → a ∷ xs ≡ b ∷ ys → ⊥
unfolding first_of
apart a b xs ys e h = unlike a b e (ap first_of h)

pub truth_distinct : (b : Bool) → AllDistinct (Truth b)
truth_distinct b = subst AllDistinct (rolls-Bool b) (every_made-Value DistinctIn (Value-F.Bool b) (Value-F.Bool b) refl tt)

pub int_distinct : (z : ℤ) → AllDistinct (Int z)
int_distinct z = subst AllDistinct (rolls-Int z) (every_made-Value DistinctIn (Value-F.Int z) (Value-F.Int z) refl tt)

pub absent_by : (k : List ℕ) (fs : Fields) → ((f : List ℕ × Value) → In f fs → k ≡ f.0 → ⊥) → IsAbsent k (names_of fs)
absent_by k [] h = tt
absent_by k (f ∷ fs) h = (h f (inl refl), absent_by k fs (λ g i. h g (inr i)))

-- distinct names, and distinct names in what they name
pub record Good (fs : Fields) : Type 0 where
  pub names : AreDistinct (names_of fs)
  pub held : (f : List ℕ × Value) → In f fs → AllDistinct f.1

held_fields : (fs : Fields) → ((f : List ℕ × Value) → In f fs → AllDistinct f.1) → FieldsDistinct fs
held_fields [] h = tt
held_fields (f ∷ fs) h = (h f (inl refl), held_fields fs (λ g i. h g (inr i)))

pub good_object : (fs : Fields) → Good fs → AllDistinct (Object fs)
good_object fs g = distinct_object fs g.names (held_fields fs g.held)

pub good_empty : Good []
good_empty = record { names = tt; held = λ f h. absurd h }

pub good_next : (f : List ℕ × Value) (fs : Fields) → AllDistinct f.1 → ((g : List ℕ × Value) → In g fs → f.0 ≡ g.0 → ⊥) → Good fs → Good (f ∷ fs)
good_next f fs d n g = record { names = (absent_by f.0 fs n, g.names); held = by }
  where
    by : (h : List ℕ × Value) → In h (f ∷ fs) → AllDistinct h.1
    by h (inl e) = subst (λ (x : List ℕ × Value). AllDistinct x.1) (sym e) d
    by h (inr i) = g.held h i

pub good_append : (xs ys : Fields) → Good xs → Good ys → ((f g : List ℕ × Value) → In f xs → In g ys → f.0 ≡ g.0 → ⊥) → Good (xs ++ ys)
good_append [] ys a b n = b
good_append (x ∷ xs) ys a b n =
    good_next x (xs ++ ys) (a.held x (inl refl)) (λ g i e. by g e (in_either xs ys g i))
    (good_append xs ys (record { names = a.names.1; held = λ f i. a.held f (inr i) }) b (λ f g i j. n f g (inr i) j))
  where
    not_in : (fs : Fields) (k : List ℕ) (g : List ℕ × Value) → IsAbsent k (names_of fs) → In g fs → k ≡ g.0 → ⊥
    not_in [] k g h i e = i
    not_in (f ∷ fs) k g h (inl p) e = h.0 (e ∙ ap (λ (z : List ℕ × Value). z.0) p)
    not_in (f ∷ fs) k g h (inr i) e = not_in fs k g h.1 i e

    by : (g : List ℕ × Value) → x.0 ≡ g.0 → In g xs ⊎ In g ys → ⊥
    by g e (inl i) = not_in xs x.0 g a.names.0 i e
    by g e (inr i) = n x g (inl refl) i e

pub section_name : (k : List ℕ) (fs : Fields) (f : List ℕ × Value) → In f (section k fs) → f.0 ≡ k
section_name k [] f h = absurd h
section_name k (x ∷ fs) f (inl e) = ap (λ (z : List ℕ × Value). z.0) e
section_name k (x ∷ fs) f (inr h) = absurd h

pub good_section : (k : List ℕ) (fs : Fields) → Good fs → Good (section k fs)
good_section k [] g = good_empty
good_section k (f ∷ fs) g = good_next (k, Object (f ∷ fs)) [] (good_object (f ∷ fs) g) (λ h i. absurd i) good_empty

-- what is picked, where one name tells the place
pub good_picked : (pick : List Part → Step → Option (List ℕ × Value)) (es : List Edit) →
    ((e d : Edit) (f g : List ℕ × Value) → In e es → In d es → pick e.0 e.1 ≡ Some f → pick d.0 d.1 ≡ Some g → f.0 ≡ g.0 → place_of d ≡ place_of e) →
    ((e : Edit) (f : List ℕ × Value) → In e es → pick e.0 e.1 ≡ Some f → AllDistinct f.1) → PlacesOnce es → Good (picked (λ e. pick e.0 e.1) es)
good_picked pick [] one held once = good_empty
good_picked pick (e ∷ es) one held once =
    by (pick e.0 e.1) refl (good_picked pick es (λ d c f g i j. one d c f g (inr i) (inr j)) (λ d f i. held d f (inr i)) once.1)
  where
    by : (o : Option (List ℕ × Value)) → pick e.0 e.1 ≡ o → Good (picked (λ e. pick e.0 e.1) es) → Good (onto o (picked (λ e. pick e.0 e.1) es))
    by None p g = g
    by (Some f) p g =
        good_next f (picked (λ e. pick e.0 e.1) es) (held e f (inl refl) p)
        (λ h i q. (let y = picked_in (λ (d : Edit). pick d.0 d.1) es h i in once.0 y.0 y.1 (one e y.0 f h (inl refl) (inr y.1) p y.2 q))) g

pub good_gathered : (f : Part → Fields) (rs : List Part) → NoTwice rs → ((r : Part) → In r rs → Good (f r)) →
    ((r q : Part) (x y : List ℕ × Value) → In r rs → In q rs → In x (f r) → In y (f q) → x.0 ≡ y.0 → r ≡ q) → Good (gathered f rs)
good_gathered f [] t g one = good_empty
good_gathered f (r ∷ rs) t g one =
    good_append (f r) (gathered f rs) (g r (inl refl)) (good_gathered f rs t.1 (λ q i. g q (inr i)) (λ q p x y i j. one q p x y (inr i) (inr j)))
    (λ x y i j e. (let z = gathered_in f rs y j in t.0 (subst (λ (q : Part). In q rs) (sym (one r z.0 x y (inl refl) (inr z.1) i z.2 e)) z.1)))
