-- What is met one after the other.
use Rattle.std.proofs.Common.{◌≡◌, ℕ, zero, suc, ◌<◌, length, arith, List, [], ◌∷◌, ◌++◌, take, drop, refl, sym, ap, ◌∙◌, subst, append_assoc, get_or}
use Rattle.std.specs.List.{flat_map}
use Rattle.update_model.specs.declared.fault.OpsFault.{OpsFault}
use Rattle.update_model.specs.Reading.{Met, IsFault}
use Rattle.update_ops.specs.Prefixes.{Text}
use Rattle.update_ops.specs.Behind.{fault_behind, Goes, Stops}

pub goes_none : (ts : List Text) → Goes [] ts ts
goes_none ts rest = refl

pub goes_more : (ms ns : List Met) (a b c : List Text) → Goes ms a b → Goes ns b c → Goes (ms ++ ns) a c
goes_more ms ns a b c g h rest = ap (fault_behind a) (append_assoc ms ns rest) ∙ (g (ns ++ rest) ∙ h rest)

pub stops_first : (ms ns : List Met) (a : List Text) (e : OpsFault) → Stops ms a e → Stops (ms ++ ns) a e
stops_first ms ns a e s rest = subst (λ (z : List Met). IsFault e (fault_behind a z)) (sym (append_assoc ms ns rest)) (s (ns ++ rest))

pub stops_later : (ms ns : List Met) (a b : List Text) (e : OpsFault) → Goes ms a b → Stops ns b e → Stops (ms ++ ns) a e
stops_later ms ns a b e g s rest = subst (λ (z : List Met). IsFault e (fault_behind a z)) (sym (append_assoc ms ns rest)) (subst (λ (o : _). IsFault e o) (sym (g (ns ++ rest))) (s rest))

flat_at : {X : Type 0} (f : X → List Met) (xs : List X) (i : ℕ) (x : X) → i < length xs → x ≡ get_or xs i x → flat_map f xs ≡ flat_map f (take i xs) ++ (f x ++ flat_map f (drop (suc i) xs))
flat_at f [] i x l e = absurd (omega arith)
flat_at f (y ∷ xs) zero x l e = ap (λ z. f z ++ flat_map f xs) (sym e)
flat_at f (y ∷ xs) (suc i) x l e = ap (λ z. f y ++ z) (flat_at f xs i x (omega arith) e) ∙ sym (append_assoc (f y) (flat_map f (take i xs)) (f x ++ flat_map f (drop (suc i) xs)))

-- a fault at one of the elements
pub stops_in : {X : Type 0} (f : X → List Met) (xs : List X) (i : ℕ) (x : X) (a b : List Text) (e : OpsFault) → i < length xs → x ≡ get_or xs i x →
    Goes (flat_map f (take i xs)) a b → Stops (f x) b e → Stops (flat_map f xs) a e
stops_in f xs i x a b e l at g s =
    subst (λ (z : List Met). Stops z a e) (sym (flat_at f xs i x l at))
    (stops_later (flat_map f (take i xs)) (f x ++ flat_map f (drop (suc i) xs)) a b e g (stops_first (f x) (flat_map f (drop (suc i) xs)) b e s))
