-- A document has no more levels than its spelling has bytes.
use Rattle.std.proofs.Common.{◌≡◌, ℕ, zero, suc, ◌+◌, ◌<◌, ◌≤◌, List, [], ◌∷◌, ◌++◌, length, map, refl, sym, ap, ◌∙◌, subst, arith}
use Rattle.std.specs.Prelude.{max}
use Rattle.std.specs.Fmt.{decimal}
use Rattle.std.proofs.lemmas.List.{length-append}
use Rattle.bson_value.specs.declared.value.Value.{Value, Value-F, Object, Array, ScopedCode, roll-Value, map-Value, fold-roll-Value, ind-Value}
use Rattle.bson_value.specs.declared.value.Value.TheVariants.{rolls-Object, rolls-Array, rolls-ScopedCode}
use Rattle.bson_value.specs.Levels.{largest, levels_step, levels_in, levels_of}
use Rattle.bson_value.specs.Spelling.{element, numbered, spelling, spelled, elements_of, items_of, document_text}
use Rattle.bson_value.proofs.Sizes.{document_length, spelled-object, levels-object, spelled-array, levels-array, spelled-code, levels-code, element_length}

abbrev IsShort : Value → Type 0
IsShort v = levels_in v ≤ length (spelled v)

abbrev Held : Type 0
Held = (v : Value) × IsShort v

abbrev field : List ℕ × Held → List ℕ × Value
field f = (f.0, f.1.0)

bound : (levels others all first rest name own : ℕ) → all ≡ first + rest → first ≡ name + 2 + own → levels ≤ own → others ≤ rest → max levels others ≤ all
bound levels others all first rest name own a b c d = omega arith

fields_short : (ts : List (List ℕ × Held)) → largest (map (λ (e : List ℕ × Value). levels_in e.1) (map field ts)) ≤ length (elements_of (map field ts))
fields_short [] = omega arith
fields_short (t ∷ ts) =
    bound (levels_in t.1.0) (largest (map (λ (e : List ℕ × Value). levels_in e.1) (map field ts))) _ _ _ (length t.0) (length (spelled t.1.0))
    (length-append (element (t.0, spelling t.1.0)) (elements_of (map field ts))) (element_length t.0 t.1.0) t.1.1 (fields_short ts)

items_short : (i : ℕ) (ts : List Held) → largest (map levels_in (map (λ (t : Held). t.0) ts)) ≤ length (numbered i (map spelling (map (λ (t : Held). t.0) ts)))
items_short i [] = omega arith
items_short i (t ∷ ts) =
    bound (levels_in t.0) (largest (map levels_in (map (λ (t : Held). t.0) ts))) _ _ _ (length (decimal i)) (length (spelled t.0))
    (length-append (element (decimal i, spelling t.0)) (numbered (i + 1) (map spelling (map (λ (t : Held). t.0) ts)))) (element_length (decimal i) t.0) t.1 (items_short (i + 1) ts)

document_short : (ts : List (List ℕ × Held)) → levels_of (map field ts) ≤ length (document_text (map field ts))
document_short ts = let e = document_length (map field ts) in let h = fields_short ts in omega arith

values_at : Value-F Held → Value-F Value
values_at y = map-Value Held Value (λ (t : Held). t.0) y

none : (a b : ℕ) → a ≡ 0 → a ≤ b
none a b e = omega arith

levels-roll : (x : Value-F Value) → levels_in (roll-Value x) ≡ levels_step (map-Value Value ℕ levels_in x)
unfolding levels_in
levels-roll x = fold-roll-Value ℕ levels_step x

leaf_short : (x : Value-F Value) → levels_step (map-Value Value ℕ levels_in x) ≡ 0 → IsShort (roll-Value x)
leaf_short x e = none (levels_in (roll-Value x)) (length (spelled (roll-Value x))) (levels-roll x ∙ e)

level : (y : Value-F Held) → IsShort (roll-Value (map-Value Held Value (λ (t : Held). t.0) y))
level (Value-F.Object ts) = subst IsShort (sym (rolls-Object (map field ts))) (let a = levels-object (map field ts) in let b = spelled-object (map field ts) in let h = document_short ts in omega arith)
level (Value-F.Array ts) =
    let vs = map (λ (t : Held). t.0) ts in
    subst IsShort (sym (rolls-Array vs)) (let a = levels-array vs in let b = spelled-array vs in let h = items_short 0 ts in omega arith)
level (Value-F.ScopedCode t ts) = subst IsShort (sym (rolls-ScopedCode t (map field ts))) (let a = levels-code t (map field ts) in let b = spelled-code t (map field ts) in let h = document_short ts in omega arith)
level _ = leaf_short _ refl

short_step : (x : Value-F Value) (y : Value-F Held) → map-Value Held Value (λ (t : Held). t.0) y ≡ x → IsShort (roll-Value x)
short_step x y is = subst (λ (z : Value-F Value). IsShort (roll-Value z)) is (level y)

value_short : (v : Value) → IsShort v
value_short v = ind-Value IsShort short_step v

pub levels_short : (doc : List (List ℕ × Value)) → levels_of doc ≤ length (document_text doc)
levels_short doc = let a = levels-object doc in let b = spelled-object doc in let h = value_short (Object doc) in omega arith
