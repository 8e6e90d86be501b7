-- How many levels a value has, by what it holds.
use Rattle.std.proofs.Common.{◌≡◌, ℕ, suc, ◌+◌, ◌-◌, ◌<◌, ◌≤◌, Bool, true, false, List, length, get_or, map, take, refl, sym, ap, ◌∙◌, subst, arith}
use Rattle.std.specs.Prelude.{IsTrue, ◌↔◌}
use Rattle.std.specs.Fmt.{decimal}
use Rattle.bson_value.specs.declared.value.Value.{Value, Value-F, out-Value, roll-Value, roll-out-Value}
use Rattle.bson_value.specs.declared.value.Value.TheVariants.{Object, Array, ScopedCode, rolls-Object, rolls-Array, rolls-ScopedCode}
use Rattle.bson_value.specs.Levels.{largest, levels_in, levels_of}
use Rattle.bson_value.specs.Size.{Fits}
use Rattle.bson_value.specs.Spelling.{document_text, items_of, spelled}
use Rattle.bson_value.proofs.Sizes.{element_length, items_step, items_within, largest_step, largest_within, levels-array, spelled-array}
use Rattle.bson_check.proofs.Height.{levels_at, levels_out}

abbrev Fields : Type 0
Fields = List (List ℕ × Value)

-- ---- a value that holds no others

leaf_at : (v : Value) (x : Value-F Value) → roll-Value x ≡ v → ((fs : Fields) → v ≡ Object fs → ⊥) → ((vs : List Value) → v ≡ Array vs → ⊥) → ((t : List ℕ) (fs : Fields) → v ≡ ScopedCode t fs → ⊥) → levels_at x ≡ 0
leaf_at v (Value-F.Object fs) e o a c = absurd (o fs (sym e ∙ rolls-Object fs))
leaf_at v (Value-F.Array vs) e o a c = absurd (a vs (sym e ∙ rolls-Array vs))
leaf_at v (Value-F.ScopedCode t fs) e o a c = absurd (c t fs (sym e ∙ rolls-ScopedCode t fs))
leaf_at v _ e o a c = refl

pub leaf_levels : (v : Value) → ((fs : Fields) → v ≡ Object fs → ⊥) → ((vs : List Value) → v ≡ Array vs → ⊥) → ((t : List ℕ) (fs : Fields) → v ≡ ScopedCode t fs → ⊥) → levels_in v ≡ 0
leaf_levels v o a c = levels_out v ∙ leaf_at v (out-Value v) (roll-out-Value v) o a c

-- ---- one that holds a document

module _ (v w : Value) (fs : Fields) (levels : ℕ) (r : Bool) (is : v ≡ w) (same : levels_in w ≡ levels_of fs) (fits : IsTrue r ↔ Fits fs 16793600 levels) where
  pub fields_shallow : IsTrue r → levels_in v ≤ levels
  fields_shallow holds = omega (arith, (fits.0 holds).1, same, ap (λ (x : Value). levels_in x) is)

  pub fields_deep : length (document_text fs) ≤ length (spelled w) → r ≡ false → length (spelled v) ≤ 16793600 → levels_in v ≤ levels → ⊥
  fields_deep within fails short le =
      let holds : r ≡ true = fits.1 (omega (arith, within, short, ap (λ (x : Value). length (spelled x)) is), omega (arith, le, same, ap (λ (x : Value). levels_in x) is)) in
      let both : false ≡ true = sym fails ∙ holds in
      cc

-- ---- an array

module _ (v : Value) (vs ws : List Value) (levels : ℕ) (is : v ≡ Array vs) (same : ws ≡ vs) where
  whole : v ≡ Array ws
  whole = is ∙ ap Array (sym same)

  pub items_shallow : largest (map levels_in ws) + 1 ≤ levels → levels_in v ≤ levels
  items_shallow le = omega (arith, le, levels-array ws, ap (λ (x : Value). levels_in x) whole)

  pub items_deep : (length (items_of ws) + 5 ≤ 16793600 → largest (map levels_in ws) + 1 ≤ levels → ⊥) → length (spelled v) ≤ 16793600 → levels_in v ≤ levels → ⊥
  items_deep fails short le =
      fails (omega (arith, short, spelled-array ws, ap (λ (x : Value). length (spelled x)) whole)) (omega (arith, le, levels-array ws, ap (λ (x : Value). levels_in x) whole))

module _ (vs : List Value) (i : ℕ) (v : Value) (levels : ℕ) (within : i < length vs) (at : v ≡ get_or vs i v) where
  pub goes_on : largest (map levels_in (take i vs)) + 1 ≤ levels → levels_in v ≤ levels - 1 → largest (map levels_in (take (i + 1) vs)) + 1 ≤ levels
  goes_on so_far one =
      let n : suc i ≡ i + 1 = omega arith in
      subst (λ (k : ℕ). largest (map levels_in (take k vs)) + 1 ≤ levels) n (omega (arith, so_far, one, largest_step levels_in vs i v within at))

  pub item_deep : (length (spelled v) ≤ 16793600 → levels_in v ≤ levels - 1 → ⊥) → length (items_of vs) + 5 ≤ 16793600 → largest (map levels_in vs) + 1 ≤ levels → ⊥
  item_deep fails short le =
      fails (omega (arith, short, items_step vs i v within at, element_length (decimal i) v, items_within vs (suc i))) (omega (arith, le, largest_step levels_in vs i v within at, largest_within levels_in vs (suc i)))
