-- Trims until one takes nothing.
use Rattle.std.proofs.Common.{◌≡◌, ℕ, ◌<◌, Bool, true, false, List, [], ◌∷◌, length, refl, arith}
use Rattle.std.specs.Prelude.{Option, Some, None, slice_get, if◌then◌else◌}
use Rattle.capped_oplog.specs.Ring.{Entry, is_over, trimmed, trimmed_down}

pub step_down : (limit : Option ℕ) (es : List Entry) → trimmed_down limit (trimmed limit es) ≡ trimmed_down limit es
step_down limit [] = refl
step_down limit (e ∷ es) = by (is_over limit (e ∷ es)) refl
  where
    by : (b : Bool) → is_over limit (e ∷ es) ≡ b → trimmed_down limit (if b then es else e ∷ es) ≡ trimmed_down limit (e ∷ es)
    by true t = rw t refl
    by false f = refl

-- what a trim takes, where it takes something
abbrev pub Took : Option ℕ → List Entry → Option Entry → Type 0
Took limit es o = o ≡ (if is_over limit es then slice_get es 0 else None)

pub ended : (limit : Option ℕ) (es : List Entry) → Took limit es None → trimmed limit es ≡ trimmed_down limit es
ended limit [] h = refl
ended limit (e ∷ es) h = by (is_over limit (e ∷ es)) refl h
  where
    by : (b : Bool) → is_over limit (e ∷ es) ≡ b → None ≡ (if b then slice_get (e ∷ es) 0 else None) → (if is_over limit (e ∷ es) then es else e ∷ es) ≡ trimmed_down limit (e ∷ es)
    by true t g = cc
    by false f g = rw f refl

pub fewer : (limit : Option ℕ) (es : List Entry) (x : Entry) → Took limit es (Some x) → length (trimmed limit es) < length es
fewer limit [] x h = cc
fewer limit (e ∷ es) x h = by (is_over limit (e ∷ es)) h
  where
    by : (b : Bool) → Some x ≡ (if b then slice_get (e ∷ es) 0 else None) → length (if b then es else e ∷ es) < length (e ∷ es)
    by true g = omega arith
    by false g = cc
