-- How long spellings are, and how many levels values have, part by part.
use Rattle.std.proofs.Common.{◌≡◌, ℕ, zero, suc, ◌+◌, ◌<◌, ◌≤◌, List, [], ◌∷◌, ◌++◌, length, map, take, get_or, max, refl, sym, ap, ◌∙◌, subst, arith, length-append}
use Rattle.std.proofs.Common.{◌-◌, ◌%◌, ◌^◌}
use Rattle.std.specs.Prelude.{Option, Some, None, MatchOption}
use Rattle.std.specs.Fmt.{decimal}
use Rattle.bson_value.specs.declared.value.Value.{Value, Value-F, roll-Value, fold-roll-Value, map-Value}
use Rattle.bson_value.specs.declared.value.Value.TheVariants.{Str, Object, Array, ScopedCode, Regex, DbPointer, Double, Decimal, Oid, Code, Symbol, rolls-Str, rolls-Object, rolls-Array, rolls-ScopedCode, rolls-Regex, rolls-DbPointer, rolls-Double, rolls-Decimal, rolls-Oid, rolls-Code, rolls-Symbol}
use Rattle.bson_value.specs.Spelling.{Typed, spelling_step, spelling, spelled, elements_of, items_of, numbered, element, document_text, text_bytes, framed}
use Rattle.bson_value.specs.Size.{Leaves}
use Rattle.bson_value.specs.Levels.{largest, levels_step, levels_in, levels_of}

text_length : (t : List ℕ) → length (text_bytes t) ≡ length t + 5
text_length t = omega (arith, length-append t (0 ∷ []))

framed_length : (body : List ℕ) → length (framed body) ≡ length body + 5
framed_length body = omega (arith, length-append body (0 ∷ []))

pub document_length : (fs : List (List ℕ × Value)) → length (document_text fs) ≡ length (elements_of fs) + 5
document_length fs = framed_length (elements_of fs)

step_of : (x : Value-F Value) → spelled (roll-Value x) ≡ (spelling_step (map-Value Value Typed spelling x)).1
step_of x = ap (λ (p : Typed). p.1) (fold-roll-Value Typed spelling_step x)

levels_at : (x : Value-F Value) → levels_in (roll-Value x) ≡ levels_step (map-Value Value ℕ levels_in x)
unfolding levels_in
levels_at x = fold-roll-Value ℕ levels_step x

pub spelled-object : (fs : List (List ℕ × Value)) → length (spelled (Object fs)) ≡ length (document_text fs)
spelled-object fs = ap (λ (v : Value). length (spelled v)) (sym (rolls-Object fs)) ∙ ap length (step_of (Value-F.Object fs))

abbrev on_value : {X : Type 0} → (Value → X) → List ℕ × Value → List ℕ × X
on_value h e = (e.0, h e.1)

values_mapped : (fs : List (List ℕ × Value)) → map (λ e. e.1) (map (on_value levels_in) fs) ≡ map (λ e. levels_in e.1) fs
values_mapped [] = refl
values_mapped (e ∷ fs) = ap (λ (l : List ℕ). levels_in e.1 ∷ l) (values_mapped fs)

pub levels-object : (fs : List (List ℕ × Value)) → levels_in (Object fs) ≡ levels_of fs
levels-object fs = ap (λ (v : Value). levels_in v) (sym (rolls-Object fs)) ∙ (levels_at (Value-F.Object fs) ∙ ap (λ (l : List ℕ). suc (largest l)) (values_mapped fs))

pub spelled-array : (vs : List Value) → length (spelled (Array vs)) ≡ length (items_of vs) + 5
spelled-array vs = ap (λ (v : Value). length (spelled v)) (sym (rolls-Array vs)) ∙ (ap length (step_of (Value-F.Array vs)) ∙ framed_length (items_of vs))

pub levels-array : (vs : List Value) → levels_in (Array vs) ≡ largest (map levels_in vs) + 1
levels-array vs = ap (λ (v : Value). levels_in v) (sym (rolls-Array vs)) ∙ (levels_at (Value-F.Array vs) ∙ omega arith)

pub spelled-code : (t : List ℕ) (fs : List (List ℕ × Value)) → length (spelled (ScopedCode t fs)) ≡ length (document_text fs) + (length t + 9)
spelled-code t fs =
    ap (λ (v : Value). length (spelled v)) (sym (rolls-ScopedCode t fs)) ∙ (ap length (step_of (Value-F.ScopedCode t fs)) ∙ omega (arith, length-append (text_bytes t) (document_text fs), text_length t))

pub levels-code : (t : List ℕ) (fs : List (List ℕ × Value)) → levels_in (ScopedCode t fs) ≡ levels_of fs
levels-code t fs = ap (λ (v : Value). levels_in v) (sym (rolls-ScopedCode t fs)) ∙ (levels_at (Value-F.ScopedCode t fs) ∙ ap (λ (l : List ℕ). suc (largest l)) (values_mapped fs))

pub spelled-regex : (p o : List ℕ) → length (spelled (Regex p o)) ≡ (length p + 1) + (length o + 1)
spelled-regex p o =
    ap (λ (v : Value). length (spelled v)) (sym (rolls-Regex p o)) ∙ (ap length (step_of (Value-F.Regex p o)) ∙ omega (arith, length-append (p ++ 0 ∷ [] ++ o) (0 ∷ []), length-append (p ++ 0 ∷ []) (o ++ 0 ∷ []), length-append ((p ++ 0 ∷ []) ++ o) (0 ∷ []), length-append (p ++ 0 ∷ []) o, length-append p (0 ∷ []), length-append o (0 ∷ [])))

pub levels-regex : (p o : List ℕ) → levels_in (Regex p o) ≡ 0
levels-regex p o = ap (λ (v : Value). levels_in v) (sym (rolls-Regex p o)) ∙ levels_at (Value-F.Regex p o)

pub spelled-pointer : (t d : List ℕ) → length (spelled (DbPointer t d)) ≡ (length t + 5) + length d
spelled-pointer t d = ap (λ (v : Value). length (spelled v)) (sym (rolls-DbPointer t d)) ∙ (ap length (step_of (Value-F.DbPointer t d)) ∙ omega (arith, length-append (text_bytes t) d, text_length t))

pub levels-pointer : (t d : List ℕ) → levels_in (DbPointer t d) ≡ 0
levels-pointer t d = ap (λ (v : Value). levels_in v) (sym (rolls-DbPointer t d)) ∙ levels_at (Value-F.DbPointer t d)

pub spelled-str : (t : List ℕ) → length (spelled (Str t)) ≡ length t + 5
spelled-str t = ap (λ (v : Value). length (spelled v)) (sym (rolls-Str t)) ∙ (ap length (step_of (Value-F.Str t)) ∙ text_length t)

pub levels-str : (t : List ℕ) → levels_in (Str t) ≡ 0
levels-str t = ap (λ (v : Value). levels_in v) (sym (rolls-Str t)) ∙ levels_at (Value-F.Str t)

pub spelled-double : (d : List ℕ) → length (spelled (Double d)) ≡ length d
spelled-double d = ap (λ (v : Value). length (spelled v)) (sym (rolls-Double d)) ∙ ap length (step_of (Value-F.Double d))

pub levels-double : (d : List ℕ) → levels_in (Double d) ≡ 0
levels-double d = ap (λ (v : Value). levels_in v) (sym (rolls-Double d)) ∙ levels_at (Value-F.Double d)

pub spelled-decimal : (d : List ℕ) → length (spelled (Decimal d)) ≡ length d
spelled-decimal d = ap (λ (v : Value). length (spelled v)) (sym (rolls-Decimal d)) ∙ ap length (step_of (Value-F.Decimal d))

pub levels-decimal : (d : List ℕ) → levels_in (Decimal d) ≡ 0
levels-decimal d = ap (λ (v : Value). levels_in v) (sym (rolls-Decimal d)) ∙ levels_at (Value-F.Decimal d)

pub spelled-oid : (d : List ℕ) → length (spelled (Oid d)) ≡ length d
spelled-oid d = ap (λ (v : Value). length (spelled v)) (sym (rolls-Oid d)) ∙ ap length (step_of (Value-F.Oid d))

pub levels-oid : (d : List ℕ) → levels_in (Oid d) ≡ 0
levels-oid d = ap (λ (v : Value). levels_in v) (sym (rolls-Oid d)) ∙ levels_at (Value-F.Oid d)

pub spelled-code_text : (t : List ℕ) → length (spelled (Code t)) ≡ length t + 5
spelled-code_text t = ap (λ (v : Value). length (spelled v)) (sym (rolls-Code t)) ∙ (ap length (step_of (Value-F.Code t)) ∙ text_length t)

pub levels-code_text : (t : List ℕ) → levels_in (Code t) ≡ 0
levels-code_text t = ap (λ (v : Value). levels_in v) (sym (rolls-Code t)) ∙ levels_at (Value-F.Code t)

pub spelled-symbol_text : (t : List ℕ) → length (spelled (Symbol t)) ≡ length t + 5
spelled-symbol_text t = ap (λ (v : Value). length (spelled v)) (sym (rolls-Symbol t)) ∙ (ap length (step_of (Value-F.Symbol t)) ∙ text_length t)

pub levels-symbol_text : (t : List ℕ) → levels_in (Symbol t) ≡ 0
levels-symbol_text t = ap (λ (v : Value). levels_in v) (sym (rolls-Symbol t)) ∙ levels_at (Value-F.Symbol t)

-- ---- one more part

pub element_length : (n : List ℕ) (v : Value) → length (element (n, spelling v)) ≡ length n + 2 + length (spelled v)
element_length n v = omega (arith, length-append n (0 ∷ spelled v))

elements_cons : (e : List ℕ × Value) (fs : List (List ℕ × Value)) → length (elements_of (e ∷ fs)) ≡ length (element (e.0, spelling e.1)) + length (elements_of fs)
elements_cons e fs = omega (arith, length-append (element (e.0, spelling e.1)) (elements_of fs))

pub fields_step : (fs : List (List ℕ × Value)) (i : ℕ) (e : List ℕ × Value) → i < length fs → e ≡ get_or fs i e → length (elements_of (take (suc i) fs)) ≡ length (elements_of (take i fs)) + length (element (e.0, spelling e.1))
fields_step [] i e l h = absurd (omega arith)
fields_step (f ∷ fs) zero e l h = elements_cons f [] ∙ (ap (λ (x : List ℕ × Value). length (element (x.0, spelling x.1)) + 0) (sym h) ∙ omega arith)
fields_step (f ∷ fs) (suc i) e l h = omega (arith, fields_step fs i e (omega arith) h, elements_cons f (take (suc i) fs), elements_cons f (take i fs))

pub fields_within : (fs : List (List ℕ × Value)) (i : ℕ) → length (elements_of (take i fs)) ≤ length (elements_of fs)
fields_within [] zero = omega arith
fields_within [] (suc i) = omega arith
fields_within (f ∷ fs) zero = omega arith
fields_within (f ∷ fs) (suc i) = omega (arith, fields_within fs i, elements_cons f (take i fs), elements_cons f fs)

items_cons : (k : ℕ) (v : Value) (vs : List Value) → length (numbered k (map spelling (v ∷ vs))) ≡ length (element (decimal k, spelling v)) + length (numbered (k + 1) (map spelling vs))
items_cons k v vs = omega (arith, length-append (element (decimal k, spelling v)) (numbered (k + 1) (map spelling vs)))

items_step_from : (k : ℕ) (vs : List Value) (i : ℕ) (v : Value) → i < length vs → v ≡ get_or vs i v → length (numbered k (map spelling (take (suc i) vs))) ≡ length (numbered k (map spelling (take i vs))) + length (element (decimal (k + i), spelling v))
items_step_from k [] i v l h = absurd (omega arith)
items_step_from k (w ∷ vs) zero v l h =
    let z : k + 0 ≡ k = omega arith in
    omega (arith, items_cons k w [], ap (λ (x : Value). length (element (decimal k, spelling x))) h, ap (λ (n : ℕ). length (element (decimal n, spelling v))) z)
items_step_from k (w ∷ vs) (suc i) v l h =
    let z : k + 1 + i ≡ k + suc i = omega arith in
    omega (arith, items_step_from (k + 1) vs i v (omega arith) h, items_cons k w (take (suc i) vs), items_cons k w (take i vs), ap (λ (n : ℕ). length (element (decimal n, spelling v))) z)

pub items_step : (vs : List Value) (i : ℕ) (v : Value) → i < length vs → v ≡ get_or vs i v → length (items_of (take (suc i) vs)) ≡ length (items_of (take i vs)) + length (element (decimal i, spelling v))
items_step vs i v l h = let z : 0 + i ≡ i = omega arith in items_step_from 0 vs i v l h ∙ ap (λ (n : ℕ). length (items_of (take i vs)) + length (element (decimal n, spelling v))) z

items_within_from : (k : ℕ) (vs : List Value) (i : ℕ) → length (numbered k (map spelling (take i vs))) ≤ length (numbered k (map spelling vs))
items_within_from k [] zero = omega arith
items_within_from k [] (suc i) = omega arith
items_within_from k (v ∷ vs) zero = omega arith
items_within_from k (v ∷ vs) (suc i) = omega (arith, items_within_from (k + 1) vs i, items_cons k v (take i vs), items_cons k v vs)

pub items_within : (vs : List Value) (i : ℕ) → length (items_of (take i vs)) ≤ length (items_of vs)
items_within vs i = items_within_from 0 vs i

module _ {A : Type 0} (f : A → ℕ) where
  pub largest_step : (xs : List A) (i : ℕ) (x : A) → i < length xs → x ≡ get_or xs i x → largest (map f (take (suc i) xs)) ≡ max (largest (map f (take i xs))) (f x)
  largest_step [] i x l h = absurd (omega arith)
  largest_step (y ∷ xs) zero x l h = omega (arith, ap f h)
  largest_step (y ∷ xs) (suc i) x l h = omega (arith, largest_step xs i x (omega arith) h)

  pub largest_within : (xs : List A) (i : ℕ) → largest (map f (take i xs)) ≤ largest (map f xs)
  largest_within [] zero = omega arith
  largest_within [] (suc i) = omega arith
  largest_within (y ∷ xs) zero = omega arith
  largest_within (y ∷ xs) (suc i) = omega (arith, largest_within xs i)

-- ---- the room that is left

pub same_size : (b c l m room depth : ℕ) (r : Option ℕ) → b ≡ c → l ≡ m → Leaves c m room depth r → Leaves b l room depth r
same_size b c l m room depth None p q h = λ s t. h (omega (arith, p, s)) (omega (arith, q, t))
same_size b c l m room depth (Some left) p q h = (omega (arith, p, h.0), omega (arith, q, h.1))

pub leaf : (b l n room depth : ℕ) (r : Option ℕ) → b ≡ n → l ≡ 0 → MatchOption r (room < n) (λ left. left + n ≡ room) → Leaves b l room depth r
leaf b l n room depth None p q h = λ s t. omega (arith, p, s, h)
leaf b l n room depth (Some left) p q h = (omega (arith, p, h), omega (arith, q))

pub behind : (b m l room left depth : ℕ) (r : Option ℕ) → left + m ≡ room → Leaves b l left depth r → Leaves (b + m) l room depth r
behind b m l room left depth None p h = λ s t. h (omega (arith, p, s)) t
behind b m l room left depth (Some k) p h = (omega (arith, p, h.0), h.1)

pub no_room : (b m l room depth : ℕ) → room < m → m ≤ b → Leaves b l room depth None
no_room b m l room depth lt le = λ s t. omega (arith, lt, le, s)

-- one field more doesn't fit
pub fields_stop : (fs : List (List ℕ × Value)) (i : ℕ) (e : List ℕ × Value) (left room depth : ℕ) → i < length fs → e ≡ get_or fs i e
    → (left + length (elements_of (take i fs)) ≡ room) × (largest (map (λ x. levels_in x.1) (take i fs)) ≤ depth)
    → Leaves (length (element (e.0, spelling e.1))) (levels_in e.1) left depth None → Leaves (length (elements_of fs)) (largest (map (λ x. levels_in x.1) fs)) room depth None
fields_stop fs i e left room depth l h inv stop = λ s t.
    stop (omega (arith, inv.0, s, fields_step fs i e l h, fields_within fs (suc i))) (omega (arith, t, largest_step (λ (x : List ℕ × Value). levels_in x.1) fs i e l h, largest_within (λ (x : List ℕ × Value). levels_in x.1) fs (suc i)))

pub fields_go_on : (fs : List (List ℕ × Value)) (i : ℕ) (e : List ℕ × Value) (left now room depth : ℕ) → i < length fs → e ≡ get_or fs i e
    → (left + length (elements_of (take i fs)) ≡ room) × (largest (map (λ x. levels_in x.1) (take i fs)) ≤ depth)
    → Leaves (length (element (e.0, spelling e.1))) (levels_in e.1) left depth (Some now)
    → (now + length (elements_of (take (i + 1) fs)) ≡ room) × (largest (map (λ x. levels_in x.1) (take (i + 1) fs)) ≤ depth)
fields_go_on fs i e left now room depth l h inv go =
    let n : suc i ≡ i + 1 = omega arith in
    subst (λ (k : ℕ). (now + length (elements_of (take k fs)) ≡ room) × (largest (map (λ x. levels_in x.1) (take k fs)) ≤ depth)) n
    (omega (arith, inv.0, go.0, fields_step fs i e l h), omega (arith, inv.1, go.1, largest_step (λ (x : List ℕ × Value). levels_in x.1) fs i e l h))

pub items_no_room : (vs : List Value) (i : ℕ) (v : Value) (left room depth : ℕ) → i < length vs → v ≡ get_or vs i v
    → left + (length (items_of (take i vs)) + 5) ≡ room → left < length (decimal i) + 2 → Leaves (length (items_of vs) + 5) (largest (map levels_in vs) + 1) room depth None
items_no_room vs i v left room depth l h inv stop = λ s t. omega (arith, inv, stop, s, items_step vs i v l h, element_length (decimal i) v, items_within vs (suc i))

pub items_stop : (vs : List Value) (i : ℕ) (v : Value) (left lent room depth : ℕ) → i < length vs → v ≡ get_or vs i v
    → left + (length (items_of (take i vs)) + 5) ≡ room → lent + (length (decimal i) + 2) ≡ left
    → Leaves (length (spelled v)) (levels_in v) lent (depth - 1) None → Leaves (length (items_of vs) + 5) (largest (map levels_in vs) + 1) room depth None
items_stop vs i v left lent room depth l h inv name stop = λ s t.
    stop (omega (arith, inv, name, s, items_step vs i v l h, element_length (decimal i) v, items_within vs (suc i))) (omega (arith, t, largest_step levels_in vs i v l h, largest_within levels_in vs (suc i)))

pub items_go_on : (vs : List Value) (i : ℕ) (v : Value) (left lent now room depth : ℕ) → i < length vs → v ≡ get_or vs i v
    → (left + (length (items_of (take i vs)) + 5) ≡ room) × (largest (map levels_in (take i vs)) + 1 ≤ depth) → lent + (length (decimal i) + 2) ≡ left
    → Leaves (length (spelled v)) (levels_in v) lent (depth - 1) (Some now)
    → (now + (length (items_of (take (i + 1) vs)) + 5) ≡ room) × (largest (map levels_in (take (i + 1) vs)) + 1 ≤ depth)
items_go_on vs i v left lent now room depth l h inv name go =
    let n : suc i ≡ i + 1 = omega arith in
    subst (λ (k : ℕ). (now + (length (items_of (take k vs)) + 5) ≡ room) × (largest (map levels_in (take k vs)) + 1 ≤ depth)) n
    (omega (arith, inv.0, name, go.0, items_step vs i v l h, element_length (decimal i) v), omega (arith, inv.1, go.1, largest_step levels_in vs i v l h))

-- the same of a value that is known
pub value_size : (v w : Value) (c m room depth : ℕ) (r : Option ℕ) → v ≡ w → length (spelled w) ≡ c → levels_in w ≡ m → Leaves c m room depth r → Leaves (length (spelled v)) (levels_in v) room depth r
value_size v w c m room depth r is p q h = same_size _ c _ m room depth r (ap (λ (x : Value). length (spelled x)) is ∙ p) (ap (λ (x : Value). levels_in x) is ∙ q) h

pub leaf_size : (v w : Value) (n k room depth : ℕ) (r : Option ℕ) → v ≡ w → length (spelled w) ≡ k → levels_in w ≡ 0 → n ≡ k → MatchOption r (room < n) (λ left. left + n ≡ room) → Leaves (length (spelled v)) (levels_in v) room depth r
leaf_size v w n k room depth r is p q e h = value_size v w n 0 room depth r is (p ∙ sym e) q (leaf n 0 n room depth r refl refl h)

-- a result that is known to be None
pub none_left : (b l room depth : ℕ) (r : Option ℕ) → r ≡ None → Leaves b l room depth None → Leaves b l room depth r
none_left b l room depth r e h = subst (λ (o : Option ℕ). Leaves b l room depth o) (sym e) h

-- ---- sums modulo 2 ^ 64

pub items_total : (vs : List Value) (i : ℕ) (v : Value) (now name digits own part all : ℕ) → i < length vs → v ≡ get_or vs i v → now ≡ (length (items_of (take i vs)) + 5) % 2 ^ 64
    → digits ≡ length (decimal i) → name ≡ (digits + 2) % 2 ^ 64 → own ≡ length (spelled v) % 2 ^ 64 → part ≡ (name + own) % 2 ^ 64 → all ≡ (now + part) % 2 ^ 64
    → all ≡ (length (items_of (take (i + 1) vs)) + 5) % 2 ^ 64
items_total vs i v now name digits own part all l h so d n o p a =
    let e : suc i ≡ i + 1 = omega arith in
    subst (λ (k : ℕ). all ≡ (length (items_of (take k vs)) + 5) % 2 ^ 64) e (omega (arith, so, d, n, o, p, a, items_step vs i v l h, element_length (decimal i) v))

-- a value that is known
pub value_total : (v w : Value) (c r : ℕ) → v ≡ w → length (spelled w) ≡ c → r ≡ c % 2 ^ 64 → r ≡ length (spelled v) % 2 ^ 64
value_total v w c r is p e = e ∙ ap (λ (n : ℕ). n % 2 ^ 64) (sym p) ∙ ap (λ (x : Value). length (spelled x) % 2 ^ 64) (sym is)
