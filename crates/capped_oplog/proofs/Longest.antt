-- A ring keeps the longest end of what was pushed that fits.
use Rattle.std.proofs.Common.{◌≡◌, ℕ, zero, suc, ◌+◌, ◌-◌, ◌<◌, ◌≤◌, Bool, true, false, List, [], ◌∷◌, ◌++◌, length, drop, refl, sym, ap, ◌∙◌, subst, inl, inr, arith, append_assoc, length-append, length-drop, ltb-true, lt-ltb}
use Rattle.std.specs.Prelude.{Option, Some, None, ◌⊎◌, ◌&&◌}
use Rattle.std.proofs.lemmas.List.{append-nil}
use Rattle.std.proofs.lemmas.Bool.{cases_Bool}
use Rattle.capped_oplog.specs.Ring.{Entry, total_of, exceeds, is_over, pushed, trimmed_down, after_pushes, Fits, IsSuffix, IsLongest, KeepsLongest}
use Rattle.capped_oplog.proofs.Rings.{total_push}

-- ---- ends of a list

no_longer : (es all : List Entry) → IsSuffix es all → length es ≤ length all
no_longer es all s = omega (arith, ap length s.1, length-append s.0 es)

suffix_trans : (a b c : List Entry) → IsSuffix a b → IsSuffix b c → IsSuffix a c
suffix_trans a b c s t = (t.0 ++ s.0, t.1 ∙ (ap (λ (l : List Entry). t.0 ++ l) s.1 ∙ sym (append_assoc t.0 s.0 a)))

suffix_push : (a b : List Entry) (x : Entry) → IsSuffix a b → IsSuffix (a ++ x ∷ []) (b ++ x ∷ [])
suffix_push a b x s = (s.0, ap (λ (l : List Entry). l ++ x ∷ []) s.1 ∙ append_assoc s.0 a (x ∷ []))

suffix_drop : (n : ℕ) (es : List Entry) → IsSuffix (drop n es) es
suffix_drop zero es = ([], refl)
suffix_drop (suc n) [] = ([], refl)
suffix_drop (suc n) (e ∷ es) = let s = suffix_drop n es in (e ∷ s.0, ap (λ (l : List Entry). e ∷ l) s.1)

pub tail_is : (x y : Entry) (xs ys : List Entry) → x ∷ xs ≡ y ∷ ys → xs ≡ ys
tail_is x y xs ys p = cc

-- an end that is short enough is one of what is left behind the first n
suffix_of_drop : (n : ℕ) (es zs : List Entry) → IsSuffix zs es → length zs + n ≤ length es → IsSuffix zs (drop n es)
suffix_of_drop zero es zs s l = s
suffix_of_drop (suc n) [] zs s l = absurd (omega arith)
suffix_of_drop (suc n) (e ∷ es) zs s l = go s.0 s.1 (λ t. suffix_of_drop n es zs t (omega arith)) where
  go : (front : List Entry) → e ∷ es ≡ front ++ zs → (IsSuffix zs es → IsSuffix zs (drop n es)) → IsSuffix zs (drop n es)
  go [] p more = absurd (omega (arith, l, ap length p))
  go (f ∷ front) p more = more (front, tail_is e f es (front ++ zs) p)

-- of two ends the shorter is one of the longer
suffix_of_suffix : (all zs es : List Entry) → IsSuffix zs all → IsSuffix es all → length zs ≤ length es → IsSuffix zs es
suffix_of_suffix all zs es s t l = go t.0 all t.1 s.0 s.1 where
  go : (front all : List Entry) → all ≡ front ++ es → (other : List Entry) → all ≡ other ++ zs → IsSuffix zs es
  go [] all p other q = (other, sym p ∙ q)
  go (f ∷ front) all p [] q = absurd (omega (arith, ap length p, ap length q, length-append front es))
  go (f ∷ front) all p (o ∷ other) q = go front (front ++ es) refl other (tail_is f o (front ++ es) (other ++ zs) (sym p ∙ q))

-- an end of a list with one more entry
abbrev EndsWith : List Entry → List Entry → Entry → Type 0
EndsWith zs all x = (zs ≡ []) ⊎ ((ys : List Entry) × (zs ≡ ys ++ x ∷ []) × IsSuffix ys all)

suffix_cases : (all zs : List Entry) (x : Entry) → IsSuffix zs (all ++ x ∷ []) → EndsWith zs all x
suffix_cases all zs x s = go all s.0 s.1 where
  nil_or : (front zs : List Entry) → x ∷ [] ≡ front ++ zs → EndsWith zs [] x
  nil_or [] zs p = inr ([], sym p, ([], refl))
  nil_or (f ∷ front) zs p = nil_is front zs (tail_is x f [] (front ++ zs) p) where
    nil_is : (front zs : List Entry) → [] ≡ front ++ zs → EndsWith zs [] x
    nil_is [] zs q = inl (sym q)
    nil_is (g ∷ front) zs q = absurd cc

  wider : (a : Entry) (rest : List Entry) → EndsWith zs rest x → EndsWith zs (a ∷ rest) x
  wider a rest (inl n) = inl n
  wider a rest (inr m) = inr (m.0, m.1, (a ∷ m.2.0, ap (λ (l : List Entry). a ∷ l) m.2.1))

  go : (rest front : List Entry) → rest ++ x ∷ [] ≡ front ++ zs → EndsWith zs rest x
  go [] front p = nil_or front zs p
  go (a ∷ rest) [] p = inr (a ∷ rest, sym p, ([], refl))
  go (a ∷ rest) (f ∷ front) p = wider a rest (go rest front (tail_is a f (rest ++ x ∷ []) (front ++ zs) p))

-- ---- too much

both_true : (a b : Bool) → a ≡ true → b ≡ true → a && b ≡ true
both_true a b p q = rw (p, q) refl

left_true : (a b : Bool) → a && b ≡ true → a ≡ true
left_true true b p = refl
left_true false b p = p

right_true : (a b : Bool) → a && b ≡ true → b ≡ true
right_true true b p = p
right_true false b p = absurd cc

exceeds_more : (m n : ℕ) (limit : Option ℕ) → m ≤ n → exceeds m limit ≡ true → exceeds n limit ≡ true
exceeds_more m n None l p = p
exceeds_more m n (Some k) l p = lt-ltb _ _ (omega (arith, l, ltb-true k m p))

-- what is too much stays so with one entry more
over_push : (limit : Option ℕ) (zs : List Entry) (x : Entry) → is_over limit zs ≡ true → is_over limit (zs ++ x ∷ []) ≡ true
over_push limit zs x p =
    both_true _ _ (lt-ltb _ _ (omega (arith, ltb-true 1 (length zs) (left_true _ _ p), length-append zs (x ∷ []))))
    (exceeds_more (total_of zs) _ limit (omega (arith, total_push zs x)) (right_true _ _ p))

not_over : (limit : Option ℕ) (zs : List Entry) (x : Entry) → is_over limit (zs ++ x ∷ []) ≡ false → is_over limit zs ≡ false
not_over limit zs x p =
    elim (cases_Bool (is_over limit zs)) [
      | inl t ↦ let q : false ≡ true = sym p ∙ over_push limit zs x t in absurd cc
      | inr f ↦ f
    ]

-- ---- one push and its trims

down_longest : (cap : ℕ) (limit : Option ℕ) (es : List Entry) → length es ≤ cap → IsLongest cap limit es (trimmed_down limit es)
down_longest cap limit [] l = record { suffix = ([], refl); fits = record { few = l; short = refl }; longest = λ zs s f. no_longer zs [] s }
down_longest cap limit (e ∷ es) l =
    elim (cases_Bool (is_over limit (e ∷ es))) [
      | inl t ↦ rw t (shorter t (down_longest cap limit es (omega arith)))
      | inr f ↦ rw f (record { suffix = ([], refl); fits = record { few = l; short = f }; longest = λ zs s g. no_longer zs (e ∷ es) s })
    ]
  where
    shorter : is_over limit (e ∷ es) ≡ true → IsLongest cap limit es (trimmed_down limit es) → IsLongest cap limit (e ∷ es) (trimmed_down limit es)
    shorter t d = record {
      suffix = (e ∷ d.suffix.0, ap (λ (l : List Entry). e ∷ l) d.suffix.1);
      fits = d.fits;
      longest = λ zs s f. go zs f s.0 s.1;
    } where
      go : (zs : List Entry) → Fits cap limit zs → (front : List Entry) → e ∷ es ≡ front ++ zs → length zs ≤ length (trimmed_down limit es)
      go zs f [] p = let q : true ≡ false = sym t ∙ (ap (is_over limit) p ∙ f.short) in absurd cc
      go zs f (x ∷ front) p = d.longest zs (front, tail_is e x es (front ++ zs) p) f

step : (cap : ℕ) (limit : Option ℕ) (all es : List Entry) (x : Entry) → 0 < cap → IsLongest cap limit all es → IsLongest cap limit (all ++ x ∷ []) (trimmed_down limit (pushed cap es x))
step cap limit all es x pos h =
    let p = pushed cap es x in
    let short : length p ≤ cap = omega (arith, length-drop (length es + 1 - cap) (es ++ x ∷ []), length-append es (x ∷ []), h.fits.few) in
    let d = down_longest cap limit p short in
    record {
      suffix = suffix_trans _ p _ d.suffix (suffix_trans p (es ++ x ∷ []) _ (suffix_drop _ _) (suffix_push es all x h.suffix));
      fits = d.fits;
      longest = λ zs s f. go d zs f (suffix_cases all zs x s);
    }
  where
    go : IsLongest cap limit (pushed cap es x) (trimmed_down limit (pushed cap es x)) → (zs : List Entry) → Fits cap limit zs → EndsWith zs all x → length zs ≤ length (trimmed_down limit (pushed cap es x))
    go d zs f (inl n) = omega (arith, ap length n)
    go d zs f (inr m) =
        let len : length zs ≡ length m.0 + 1 = ap length m.1 ∙ length-append m.0 (x ∷ []) in
        let fits : Fits cap limit m.0 = record { few = omega (arith, f.few, len); short = not_over limit m.0 x (ap (is_over limit) (sym m.1) ∙ f.short) } in
        let le = h.longest m.0 m.2 fits in
        let inside = suffix_of_suffix all m.0 es m.2 h.suffix le in
        let whole : IsSuffix zs (es ++ x ∷ []) = subst (λ (l : List Entry). IsSuffix l (es ++ x ∷ [])) (sym m.1) (suffix_push m.0 es x inside) in
        d.longest zs (suffix_of_drop (length es + 1 - cap) (es ++ x ∷ []) zs whole (omega (arith, len, le, f.few, length-append es (x ∷ [])))) f

-- ---- all of them

all_pushes : (cap : ℕ) (limit : Option ℕ) (xs all es : List Entry) → 0 < cap → IsLongest cap limit all es → IsLongest cap limit (all ++ xs) (after_pushes cap limit es xs)
all_pushes cap limit [] all es pos h = subst (λ (l : List Entry). IsLongest cap limit l es) (sym (append-nil all)) h
all_pushes cap limit (x ∷ xs) all es pos h =
    subst (λ (l : List Entry). IsLongest cap limit l (after_pushes cap limit (trimmed_down limit (pushed cap es x)) xs)) (append_assoc all (x ∷ []) xs)
    (all_pushes cap limit xs (all ++ x ∷ []) (trimmed_down limit (pushed cap es x)) pos (step cap limit all es x pos h))

pub keeps_longest : KeepsLongest
keeps_longest cap limit all pos =
    all_pushes cap limit all [] [] pos (record { suffix = ([], refl); fits = record { few = omega arith; short = refl }; longest = λ zs s f. no_longer zs [] s })
