-- What is kept of the entries is the longest end that fits.
use Rattle.std.proofs.Common.{◌≡◌, ℕ, zero, suc, List, [], ◌∷◌, ◌++◌, Bool, true, false, refl, sym, ap, ◌∙◌, subst, append_assoc, Option, Some, None, inl, inr}
use Rattle.std.specs.Prelude.{⊤, ◌⊎◌, ◌&&◌}
use Rattle.std.proofs.lemmas.Bool.{and_right}
use Rattle.history_model.specs.Entries.{size_of}
use Rattle.history_model.specs.Stages.{Caps, Oplog, within, kept_behind, kept}
use Rattle.std.specs.Prelude.{◌+◌, ◌-◌, ◌<◌, ◌≤◌, length, nat_lt}
use Rattle.std.proofs.Common.{arith}
use Rattle.std.proofs.lemmas.Bool.{leb-true, ltb-false, lt-ltb, le-ltb, le-leb}
use Rattle.capped_oplog.specs.Ring.{Entry, total_of, is_over, Fits, IsSuffix, IsLongest}
use Rattle.history_model.specs.Entries.{entry_bytes}
use Rattle.history_model.specs.Stages.{kept_if, ring_entry, turned}
use Rattle.history_model.proofs.InTheRing.{front}

-- ---- lists, oldest first

nil_right : (xs : List Entry) → xs ++ [] ≡ xs
nil_right [] = refl
nil_right (x ∷ xs) = ap (λ (z : List Entry). x ∷ z) (nil_right xs)

length_both : (xs ys : List Entry) → length (xs ++ ys) ≡ length xs + length ys
length_both [] ys = omega arith
length_both (x ∷ xs) ys = (let h = length_both xs ys in omega arith)

pub turned_join : (xs ys : Oplog) → turned (xs ++ ys) ≡ turned ys ++ turned xs
turned_join [] ys = sym (nil_right (turned ys))
turned_join (x ∷ xs) ys = ap (λ (z : List Entry). z ++ (ring_entry x ∷ [])) (turned_join xs ys) ∙ append_assoc (turned ys) (turned xs) (ring_entry x ∷ [])

length_one : (xs : List Entry) (x : Entry) → length (xs ++ (x ∷ [])) ≡ suc (length xs)
length_one [] x = refl
length_one (y ∷ xs) x = ap suc (length_one xs x)

turned_length : (es : Oplog) → length (turned es) ≡ length es
turned_length [] = refl
turned_length (e ∷ es) = length_one (turned es) (ring_entry e) ∙ ap suc (turned_length es)

total_one : (xs : List Entry) (x : Entry) → total_of (xs ++ (x ∷ [])) ≡ length x.1 + total_of xs
total_one [] x = refl
total_one (y ∷ xs) x = (let h = total_one xs x in omega arith)

-- the bytes of all
abbrev pub sizes : Oplog → ℕ
sizes [] = 0
sizes (e ∷ es) = size_of e + sizes es

turned_total : (es : Oplog) → total_of (turned es) ≡ sizes es
unfolding size_of
turned_total [] = refl
turned_total (e ∷ es) = total_one (turned es) (ring_entry e) ∙ ap (λ (n : ℕ). length (entry_bytes e) + n) (turned_total es)

-- ---- what is kept fits

abbrev pub AtMost : Option ℕ → ℕ → Type 0
AtMost None n = ⊤
AtMost (Some b) n = n ≤ b

within_at_most : (b : Option ℕ) (n : ℕ) → within b n ≡ true → AtMost b n
within_at_most None n h = tt
within_at_most (Some b) n h = leb-true n b h

at_most_within : (b : Option ℕ) (n : ℕ) → AtMost b n → within b n ≡ true
at_most_within None n h = refl
at_most_within (Some b) n h = le-leb n b h

less_at_most : (b : Option ℕ) (m n : ℕ) → m ≤ n → AtMost b n → AtMost b m
less_at_most None m n h g = tt
less_at_most (Some b) m n h g = omega arith

few_behind : (n : ℕ) (b : Option ℕ) (s : ℕ) (es : Oplog) → length (kept_behind n b s es) ≤ n
few_behind zero b s es = omega arith
few_behind (suc n) b s [] = omega arith
few_behind (suc n) b s (e ∷ es) = by (within b (s + size_of e)) (few_behind n b (s + size_of e) es)
  where
    by : (x : Bool) → length (kept_behind n b (s + size_of e) es) ≤ n → length (kept_if x e (kept_behind n b (s + size_of e) es)) ≤ suc n
    by true h = omega arith
    by false h = omega arith

-- nothing, or little enough with the newer ones
short_behind : (n : ℕ) (b : Option ℕ) (s : ℕ) (es : Oplog) → (kept_behind n b s es ≡ []) ⊎ AtMost b (s + sizes (kept_behind n b s es))
short_behind zero b s es = inl refl
short_behind (suc n) b s [] = inl refl
short_behind (suc n) b s (e ∷ es) = by (within b (s + size_of e)) refl (short_behind n b (s + size_of e) es)
  where
    one : within b (s + size_of e) ≡ true → (kept_behind n b (s + size_of e) es ≡ []) ⊎ AtMost b ((s + size_of e) + sizes (kept_behind n b (s + size_of e) es)) → AtMost b (s + (size_of e + sizes (kept_behind n b (s + size_of e) es)))
    one f (inl g) = less_at_most b (s + (size_of e + sizes (kept_behind n b (s + size_of e) es))) (s + size_of e) (let h = ap sizes g in omega arith) (within_at_most b (s + size_of e) f)
    one f (inr g) = less_at_most b (s + (size_of e + sizes (kept_behind n b (s + size_of e) es))) ((s + size_of e) + sizes (kept_behind n b (s + size_of e) es)) (omega arith) g

    by : (x : Bool) → within b (s + size_of e) ≡ x → (kept_behind n b (s + size_of e) es ≡ []) ⊎ AtMost b ((s + size_of e) + sizes (kept_behind n b (s + size_of e) es)) →
        (kept_if x e (kept_behind n b (s + size_of e) es) ≡ []) ⊎ AtMost b (s + sizes (kept_if x e (kept_behind n b (s + size_of e) es)))
    by true f g = inr (one f g)
    by false f g = inl refl

not_over : (b : Option ℕ) (es : List Entry) → AtMost b (total_of es) → is_over b es ≡ false
not_over None es h = and_right (nat_lt 1 (length es)) false refl
not_over (Some b) es h = and_right (nat_lt 1 (length es)) (nat_lt b (total_of es)) (le-ltb b (total_of es) h)

kept_short : (c : Caps) (es : Oplog) → is_over c.bytes (turned (kept c es)) ≡ false
kept_short c [] = refl
kept_short c (e ∷ es) = by (short_behind (c.entries - 1) c.bytes (size_of e) es)
  where
    by : (kept_behind (c.entries - 1) c.bytes (size_of e) es ≡ []) ⊎ AtMost c.bytes (size_of e + sizes (kept_behind (c.entries - 1) c.bytes (size_of e) es)) → is_over c.bytes (turned (kept c (e ∷ es))) ≡ false
    by (inl g) = ap (λ (z : Oplog). is_over c.bytes (turned (e ∷ z))) g
    by (inr g) = not_over c.bytes (turned (kept c (e ∷ es))) (subst (AtMost c.bytes) (sym (turned_total (kept c (e ∷ es)))) g)

kept_few : (c : Caps) (es : Oplog) → 0 < c.entries → length (turned (kept c es)) ≤ c.entries
kept_few c [] h = omega arith
kept_few c (e ∷ es) h = (let f = few_behind (c.entries - 1) c.bytes (size_of e) es in let g = turned_length (kept c (e ∷ es)) in omega arith)

-- ---- and is the longest end that does

longest_behind : (n : ℕ) (b : Option ℕ) (s : ℕ) (xs ys : Oplog) → length xs ≤ n → (xs ≡ []) ⊎ AtMost b (s + sizes xs) → length xs ≤ length (kept_behind n b s (xs ++ ys))
longest_behind n b s [] ys h g = omega arith
longest_behind zero b s (x ∷ xs) ys h g = absurd (omega arith)
longest_behind (suc n) b s (x ∷ xs) ys h (inl g) = cc
longest_behind (suc n) b s (x ∷ xs) ys h (inr g) =
    (let f : within b (s + size_of x) ≡ true = at_most_within b (s + size_of x) (less_at_most b (s + size_of x) (s + (size_of x + sizes xs)) (omega arith) g) in
    let i = longest_behind n b (s + size_of x) xs ys (omega arith) (inr (less_at_most b ((s + size_of x) + sizes xs) (s + (size_of x + sizes xs)) (omega arith) g)) in
    subst (λ (z : Bool). suc (length xs) ≤ length (kept_if z x (kept_behind n b (s + size_of x) (xs ++ ys)))) (sym f) (omega arith))

over_at_most : (b : Option ℕ) (es : List Entry) → 1 < length es → is_over b es ≡ false → AtMost b (total_of es)
over_at_most None es h g = tt
over_at_most (Some b) es h g = by (nat_lt 1 (length es)) (lt-ltb 1 (length es) h) g
  where
    by : (x : Bool) → x ≡ true → (x && nat_lt b (total_of es)) ≡ false → total_of es ≤ b
    by true e f = ltb-false b (total_of es) f
    by false e f = cc

longest_front : (c : Caps) (xs ys : Oplog) → length xs ≤ c.entries → is_over c.bytes (turned xs) ≡ false → length xs ≤ length (kept c (xs ++ ys))
longest_front c [] ys h g = omega arith
longest_front c (x ∷ []) ys h g = omega arith
longest_front c (x ∷ (y ∷ xs)) ys h g =
    (let t = turned_length (x ∷ (y ∷ xs)) in
    let a : AtMost c.bytes (sizes (x ∷ (y ∷ xs))) = subst (AtMost c.bytes) (turned_total (x ∷ (y ∷ xs))) (over_at_most c.bytes (turned (x ∷ (y ∷ xs))) (omega arith) g) in
    let i = longest_behind (c.entries - 1) c.bytes (size_of x) (y ∷ xs) ys (omega arith) (inr a) in
    omega arith)

-- an end of the entries, oldest first, is a front of them, newest first
pub record TurnedFront (es : Oplog) (others : List Entry) : Type 0 where
  pub front : Oplog
  pub back : Oplog
  pub whole : es ≡ front ++ back
  pub is : others ≡ turned front

last_same : (xs ys : List Entry) (x y : Entry) → xs ++ (x ∷ []) ≡ ys ++ (y ∷ []) → (xs ≡ ys) × (x ≡ y)
last_same [] [] x y e = (refl, cc)
last_same [] (z ∷ ys) x y e = (let n = ap length e in let m = length_one ys y in absurd (omega arith))
last_same (z ∷ xs) [] x y e = (let n = ap length e in let m = length_one xs x in absurd (omega arith))
last_same (z ∷ xs) (w ∷ ys) x y e =
    (let h : z ≡ w = cc in
    let t : xs ++ (x ∷ []) ≡ ys ++ (y ∷ []) = cc in
    let i = last_same xs ys x y t in
    (ap (λ (k : Entry). k ∷ xs) h ∙ ap (λ (k : List Entry). w ∷ k) i.0, i.1))

-- a list ends with an element, or is empty
pub record Ended (xs : List Entry) : Type 0 where
  pub front : List Entry
  pub last : Entry
  pub whole : xs ≡ front ++ (last ∷ [])

ends : (x : Entry) (xs : List Entry) → Ended (x ∷ xs)
ends x [] = record { front = []; last = x; whole = refl }
ends x (y ∷ xs) = (let h = ends y xs in record { front = x ∷ h.front; last = h.last; whole = ap (λ (z : List Entry). x ∷ z) h.whole })

turned_front : (es : Oplog) (front others : List Entry) → turned es ≡ front ++ others → TurnedFront es others
turned_front es front [] e = record { front = []; back = es; whole = refl; is = refl }
turned_front [] front (x ∷ others) e = (let n = ap length e in let m = length_both front (x ∷ others) in absurd (omega arith))
turned_front (e ∷ es) front (x ∷ others) h = by (ends x others) (λ o g. turned_front es front o g)
  where
    by : Ended (x ∷ others) → ((o : List Entry) → turned es ≡ front ++ o → TurnedFront es o) → TurnedFront (e ∷ es) (x ∷ others)
    by d rest =
        (let g : turned es ++ (ring_entry e ∷ []) ≡ (front ++ d.front) ++ (d.last ∷ []) = h ∙ (ap (λ (z : List Entry). front ++ z) d.whole ∙ sym (append_assoc front d.front (d.last ∷ []))) in
        let s = last_same (turned es) (front ++ d.front) (ring_entry e) d.last g in
        let r = rest d.front s.0 in
        record {
          front = e ∷ r.front;
          back = r.back;
          whole = ap (λ (z : Oplog). e ∷ z) r.whole;
          is = d.whole ∙ (ap (λ (z : List Entry). z ++ (d.last ∷ [])) r.is ∙ ap (λ (k : Entry). turned r.front ++ (k ∷ [])) (sym s.1));
        })

pub kept_is_longest : (c : Caps) (es : Oplog) → 0 < c.entries → IsLongest c.entries c.bytes (turned es) (turned (kept c es))
kept_is_longest c es h = record {
  suffix = (let f = front c es in (turned f.0, ap turned f.1 ∙ turned_join (kept c es) f.0));
  fits = record { few = kept_few c es h; short = kept_short c es };
  longest = λ others is fits. longest others is fits;
}
  where
    longest : (others : List Entry) → IsSuffix others (turned es) → Fits c.entries c.bytes others → length others ≤ length (turned (kept c es))
    longest others is fits =
        (let t = turned_front es is.0 others is.1 in
        let a : length t.front ≤ length (kept c (t.front ++ t.back)) = longest_front c t.front t.back
        (let x = fits.few in let y = ap length t.is in let z = turned_length t.front in omega arith) (subst (λ (z : List Entry). is_over c.bytes z ≡ false) t.is fits.short) in
        let b : length (kept c (t.front ++ t.back)) ≡ length (kept c es) = ap (λ (z : Oplog). length (kept c z)) (sym t.whole) in
        let x = turned_length (kept c es) in
        let y = ap length t.is in
        let z = turned_length t.front in
        omega arith)
