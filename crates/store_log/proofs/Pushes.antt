-- One entry more in a ring that has what the caps allow.
use Rattle.std.proofs.Common.{◌≡◌, ℕ, ◌<◌, ◌≤◌, List, [], ◌∷◌, ◌++◌, length, refl, sym, ap, ◌∙◌, subst, arith, length-append}
use Rattle.std.specs.Prelude.{Option}
use Rattle.capped_oplog.specs.Ring.{Entry, pushed, trimmed_down, after_pushes, Fits, IsSuffix, IsLongest}
use Rattle.capped_oplog.proofs.Longest.{keeps_longest, tail_is}
use Rattle.store_log.specs.Logged.{IsLast}

-- two ends of one length are one
same_end : (all xs ys : List Entry) → IsSuffix xs all → IsSuffix ys all → length xs ≡ length ys → xs ≡ ys
same_end all xs ys s t l = go s.0 t.0 (sym s.1 ∙ t.1)
  where
    go : (fs gs : List Entry) → fs ++ xs ≡ gs ++ ys → xs ≡ ys
    go [] [] p = p
    go [] (g ∷ gs) p = absurd (omega (arith, ap length p, length-append gs ys))
    go (f ∷ fs) [] p = absurd (omega (arith, ap length p, length-append fs xs))
    go (f ∷ fs) (g ∷ gs) p = go fs gs (tail_is f g (fs ++ xs) (gs ++ ys) p)

-- a list has one longest end that fits
pub longest_once : (cap : ℕ) (limit : Option ℕ) (all xs ys : List Entry) → IsLongest cap limit all xs → IsLongest cap limit all ys → xs ≡ ys
longest_once cap limit all xs ys a b = (let m = a.longest ys b.suffix b.fits in let n = b.longest xs a.suffix a.fits in same_end all xs ys a.suffix b.suffix (omega arith))

whole_end : (es : List Entry) → IsSuffix es es
whole_end es = ([], refl)

-- all entries that fit are kept
all_fit : (cap : ℕ) (limit : Option ℕ) (es : List Entry) → 0 < cap → Fits cap limit es → after_pushes cap limit [] es ≡ es
all_fit cap limit es pos f = longest_once cap limit es (after_pushes cap limit [] es) es (keeps_longest cap limit es pos) (record { suffix = whole_end es; fits = f; longest = λ zs s g. no_longer zs s })
  where
    no_longer : (zs : List Entry) → IsSuffix zs es → length zs ≤ length es
    no_longer zs s = omega (arith, ap length s.1, length-append s.0 zs)

pub after_append : (cap : ℕ) (limit : Option ℕ) (es xs : List Entry) (x : Entry) → after_pushes cap limit es (xs ++ x ∷ []) ≡ trimmed_down limit (pushed cap (after_pushes cap limit es xs) x)
after_append cap limit es [] x = refl
after_append cap limit es (y ∷ ys) x = after_append cap limit (trimmed_down limit (pushed cap es y)) ys x

-- what is left of entries that fit and of one more is the longest end that fits
pub one_push : (cap : ℕ) (limit : Option ℕ) (es : List Entry) (x : Entry) → 0 < cap → Fits cap limit es → IsLongest cap limit (es ++ x ∷ []) (trimmed_down limit (pushed cap es x))
one_push cap limit es x pos f =
    (let e : after_pushes cap limit [] (es ++ x ∷ []) ≡ trimmed_down limit (pushed cap es x) =
    after_append cap limit [] es x ∙ ap (λ (ys : List Entry). trimmed_down limit (pushed cap ys x)) (all_fit cap limit es pos f) in
    subst (IsLongest cap limit (es ++ x ∷ [])) e (keeps_longest cap limit (es ++ x ∷ []) pos))

one_fits : (cap : ℕ) (limit : Option ℕ) (x : Entry) → 0 < cap → Fits cap limit (x ∷ [])
one_fits cap limit x pos = record { few = omega arith; short = refl }

-- the new entry is one of them
pub new_stands : (cap : ℕ) (limit : Option ℕ) (es zs : List Entry) (x : Entry) → 0 < cap → IsLongest cap limit (es ++ x ∷ []) zs → IsLast x.0 zs
new_stands cap limit es zs x pos h = go es h.suffix.0 h.suffix.1 (h.longest (x ∷ []) (es, refl) (one_fits cap limit x pos))
  where
    go : (all front : List Entry) → all ++ x ∷ [] ≡ front ++ zs → 1 ≤ length zs → IsLast x.0 zs
    go all [] p l = (all, (x.1, sym p))
    go [] (f ∷ front) p l = absurd (omega (arith, ap length p, length-append front zs))
    go (a ∷ all) (f ∷ front) p l = go all front (tail_is a f (all ++ x ∷ []) (front ++ zs) p) l
