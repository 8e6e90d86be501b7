-- The ring with one entry more has the entries that a stage keeps.
use Rattle.std.proofs.Common.{◌≡◌, ℕ, ◌<◌, ◌≤◌, List, [], ◌∷◌, ◌++◌, length, drop, arith, refl, sym, ap, ◌∙◌, subst, Option}
use Rattle.std.proofs.lemmas.List.{length-append}
use Rattle.capped_oplog.specs.Ring.{Entry, pushed, trimmed_down, after_pushes, Fits, IsSuffix, IsLongest, KeepsLongest}
use Rattle.history_model.specs.Entries.{OplogEntry}
use Rattle.history_model.specs.Stages.{Caps, Oplog, kept, turned, ring_entry}
use Rattle.history_model.specs.Laws.{OplogIsRing}
use Rattle.store_log.proofs.Pushes.{after_append}

-- ---- two ends of a list that are as long

same_ends : (f g a b : List Entry) → f ++ a ≡ g ++ b → length f ≡ length g → a ≡ b
same_ends [] [] a b e l = e
same_ends [] (y ∷ ys) a b e l = absurd (omega (arith, l))
same_ends (x ∷ xs) [] a b e l = absurd (omega (arith, l))
same_ends (x ∷ xs) (y ∷ ys) a b e l = same_ends xs ys a b (ap (drop 1) e) (omega (arith, l))

fronts : (all f g a b : List Entry) → all ≡ f ++ a → all ≡ g ++ b → length a ≡ length b → length f ≡ length g
fronts all f g a b e d l =
    (let m = ap length e ∙ length-append f a in
    let n = ap length d ∙ length-append g b in
    omega (arith, m, n, l))

pub one_longest : (cap : ℕ) (limit : Option ℕ) (all a b : List Entry) → IsLongest cap limit all a → IsLongest cap limit all b → a ≡ b
one_longest cap limit all a b p q =
    (let l = p.longest b q.suffix q.fits in
    let m = q.longest a p.suffix p.fits in
    let n : length a ≡ length b = omega (arith, l, m) in
    same_ends p.suffix.0 q.suffix.0 a b (sym p.suffix.1 ∙ q.suffix.1) (fronts all p.suffix.0 q.suffix.0 a b p.suffix.1 q.suffix.1 n))

-- ---- entries that fit are those that are kept of them

whole_longest : (cap : ℕ) (limit : Option ℕ) (es : List Entry) → Fits cap limit es → IsLongest cap limit es es
whole_longest cap limit es h = record { suffix = ([], refl); fits = h; longest = λ others s f. shorter others s }
  where
    shorter : (others : List Entry) → IsSuffix others es → length others ≤ length es
    shorter others s = (let n = ap length s.1 ∙ length-append s.0 others in omega (arith, n))

pub pushed_longest : KeepsLongest → (cap : ℕ) (limit : Option ℕ) (es : List Entry) (x : Entry) → 0 < cap → Fits cap limit es → IsLongest cap limit (es ++ x ∷ []) (trimmed_down limit (pushed cap es x))
pushed_longest law cap limit es x p h =
    (let same : after_pushes cap limit [] es ≡ es = one_longest cap limit es (after_pushes cap limit [] es) es (law cap limit es p) (whole_longest cap limit es h) in
    subst (IsLongest cap limit (es ++ x ∷ [])) (after_append cap limit [] es x ∙ ap (λ (z : List Entry). trimmed_down limit (pushed cap z x)) same) (law cap limit (es ++ x ∷ []) p))

-- ---- the oplog of a stage, with one entry more

pub ring_more : KeepsLongest → OplogIsRing → (c : Caps) (e : OplogEntry) (es : Oplog) → 0 < c.entries → Fits c.entries c.bytes (turned es) → trimmed_down c.bytes (pushed c.entries (turned es) (ring_entry e)) ≡ turned (kept c (e ∷ es))
ring_more law ring c e es p h = one_longest c.entries c.bytes (turned es ++ ring_entry e ∷ []) _ _ (pushed_longest law c.entries c.bytes (turned es) (ring_entry e) p h) (ring c (e ∷ es) p)

pub kept_fits : OplogIsRing → (c : Caps) (es : Oplog) → 0 < c.entries → Fits c.entries c.bytes (turned (kept c es))
kept_fits ring c es p = (ring c es p).fits
