-- Where the entry at a moment stands in a ring, and whether it is gone.
use Rattle.std.proofs.Common.{◌≡◌, ℕ, zero, suc, ◌<◌, List, [], ◌∷◌, ◌++◌, length, Bool, true, false, Some, None, refl, sym, ap, ◌∙◌, append_assoc, arith}
use Rattle.std.specs.Prelude.{◌||◌, ◌==◌, not, option_map, unwrap_or, slice_get}
use Rattle.std.specs.List.{list_any}
use Rattle.std.specs.Ordering.{nat_cmp, ordering_then, ordering_reverse}
use Rattle.std.specs.Cmp.{nat_cmp_total}
use Rattle.std.specs.FinMap.{nat_cmp-IsAntisymmetric}
use Rattle.std.specs.declared.cmp.Ordering.{Ordering}
use Rattle.std.specs.declared.cmp.Ordering.TheVariants.{Less, Equal, Greater}
use Rattle.std.proofs.lemmas.Bool.{eq-eqb, and_from}
use Rattle.bson_value.specs.declared.value.Ts.{Ts}
use Rattle.bson_value.specs.Timestamp.{stamp_cmp, stamp_number}
use Rattle.capped_oplog.specs.Ring.{Entry, stamp_at, IsPlaceOf}
use Rattle.history_model.specs.Stages.{Oplog, ring_entry, turned}
use Rattle.history_model.specs.Runs.{is_same, is_gone, oldest}
use Rattle.dump_run.specs.Rings.{StandsAt}
use Rattle.history_model.proofs.InTheRing.{same_ts}

-- ---- timestamps

mirrored : (o : Ordering) → o ≡ ordering_reverse o → o ≡ Equal
mirrored Less e = cc
mirrored Equal e = refl
mirrored Greater e = cc

cmp_self : (n : ℕ) → nat_cmp n n ≡ Equal
cmp_self n = mirrored (nat_cmp n n) (nat_cmp_total.antisymm n n)

same_stamp : (a b : Ts) → stamp_cmp a b ≡ Equal → a ≡ b
same_stamp a b e = by (nat_cmp a.secs b.secs) refl e
  where
    by : (o : Ordering) → nat_cmp a.secs b.secs ≡ o → ordering_then o (nat_cmp a.inc b.inc) ≡ Equal → a ≡ b
    by Less h f = cc
    by Equal h f = (let x = nat_cmp-IsAntisymmetric a.secs b.secs h in let y = nat_cmp-IsAntisymmetric a.inc b.inc f in λ i. record { secs = x i; inc = y i })
    by Greater h f = cc

pub same_number : (a b : Ts) → stamp_cmp a b ≡ nat_cmp (stamp_number a) (stamp_number b) → stamp_number a ≡ stamp_number b → a ≡ b
same_number a b e f = same_stamp a b (e ∙ (ap (λ (n : ℕ). nat_cmp n (stamp_number b)) f ∙ cmp_self (stamp_number b)))

same_self : (a : Ts) → is_same a a ≡ true
same_self a = and_from (a.secs == a.secs) (a.inc == a.inc) (eq-eqb a.secs a.secs refl) (eq-eqb a.inc a.inc refl)

-- ---- places

stamp_of : (es : List Entry) (i : ℕ) (e : Entry) → slice_get es i ≡ Some e → (i < length es) × (stamp_at es i ≡ stamp_number e.0)
stamp_of [] i e h = cc
stamp_of (x ∷ es) zero e h = (let f : x ≡ e = cc in (omega arith, ap (λ (z : Entry). stamp_number z.0) f))
stamp_of (x ∷ es) (suc i) e h = (let f = stamp_of es i e h in (omega (arith, f.0), f.1))

pub not_there : (es : List Entry) (ts : Ts) → IsPlaceOf es ts None → StandsAt es ts None
not_there es ts h = λ i e g k. (let f = stamp_of es i e g in h i f.0 (f.1 ∙ ap stamp_number k))

pub stands_there : (es : List Entry) (ts found : Ts) (bytes : List ℕ) (at : ℕ) → IsPlaceOf es ts (Some at) → Some (found, bytes) ≡ slice_get es at → stamp_cmp found ts ≡ nat_cmp (stamp_number found) (stamp_number ts) → StandsAt es ts (Some at)
stands_there es ts found bytes at p e c =
    (let f = stamp_of es at (found, bytes) (sym e) in
    let g = same_number found ts c (sym f.1 ∙ p.1) in
    (bytes, sym e ∙ ap (λ (t : Ts). Some (t, bytes)) g))

none_past : (es : List Entry) (at : ℕ) → at < length es → None ≡ slice_get es at → ⊥
none_past [] at l e = omega arith
none_past (x ∷ es) zero l e = cc
none_past (x ∷ es) (suc at) l e = none_past es at (omega arith) e

pub always_there : (es : List Entry) (ts : Ts) (at : ℕ) → IsPlaceOf es ts (Some at) → None ≡ slice_get es at → ⊥
always_there es ts at p e = none_past es at p.0 e

-- ---- what is gone

or_turn : (a b : Bool) → (a || b) ≡ (b || a)
or_turn true true = refl
or_turn true false = refl
or_turn false true = refl
or_turn false false = refl

any_join : (p : Entry → Bool) (xs : List Entry) (x : Entry) → list_any p (xs ++ (x ∷ [])) ≡ (p x || list_any p xs)
any_join p [] x = refl
any_join p (y ∷ xs) x = ap (λ (b : Bool). p y || b) (any_join p xs x) ∙ swap (p y) (p x) (list_any p xs)
  where
    swap : (a b c : Bool) → (a || (b || c)) ≡ (b || (a || c))
    swap true true c = refl
    swap true false c = refl
    swap false true c = refl
    swap false false c = refl

any_turned : (ts : Ts) (es : Oplog) → list_any (λ (x : Entry). is_same ts x.0) (turned es) ≡ list_any (λ e. is_same ts e.ts) es
any_turned ts [] = refl
any_turned ts (e ∷ es) = any_join (λ (x : Entry). is_same ts x.0) (turned es) (ring_entry e) ∙ ap (λ (b : Bool). is_same ts e.ts || b) (any_turned ts es)

or_true : (a : Bool) → (a || true) ≡ true
or_true true = refl
or_true false = refl

any_there : (ts : Ts) (xs : List Entry) (i : ℕ) (bytes : List ℕ) → slice_get xs i ≡ Some (ts, bytes) → list_any (λ (x : Entry). is_same ts x.0) xs ≡ true
any_there ts [] i bytes e = cc
any_there ts (x ∷ xs) zero bytes e = (let f : x ≡ (ts, bytes) = cc in ap (λ (z : Entry). is_same ts z.0 || list_any (λ (x : Entry). is_same ts x.0) xs) f ∙ ap (λ (b : Bool). b || list_any (λ (x : Entry). is_same ts x.0) xs) (same_self ts))
any_there ts (x ∷ xs) (suc i) bytes e = ap (λ (b : Bool). is_same ts x.0 || b) (any_there ts xs i bytes e) ∙ or_true (is_same ts x.0)

none_there : (ts : Ts) (xs : List Entry) → StandsAt xs ts None → list_any (λ (x : Entry). is_same ts x.0) xs ≡ false
none_there ts [] h = refl
none_there ts (x ∷ xs) h = by (is_same ts x.0) refl (none_there ts xs (λ i e g k. h (suc i) e g k))
  where
    by : (b : Bool) → is_same ts x.0 ≡ b → list_any (λ (x : Entry). is_same ts x.0) xs ≡ false → (b || list_any (λ (x : Entry). is_same ts x.0) xs) ≡ false
    by true g k = absurd (h 0 x refl (sym (same_ts ts x.0 g)))
    by false g k = k

pub not_gone : (xs : List Entry) (es : Oplog) (ts : Ts) (at : ℕ) → xs ≡ turned es → StandsAt xs ts (Some at) → is_gone ts es ≡ false
not_gone xs es ts at e h = ap not (sym (any_turned ts es) ∙ (ap (list_any (λ (x : Entry). is_same ts x.0)) (sym e) ∙ any_there ts xs at h.0 h.1))

pub gone : (xs : List Entry) (es : Oplog) (ts : Ts) → xs ≡ turned es → StandsAt xs ts None → is_gone ts es ≡ true
gone xs es ts e h = ap not (sym (any_turned ts es) ∙ (ap (list_any (λ (x : Entry). is_same ts x.0)) (sym e) ∙ none_there ts xs h))

-- ---- the oldest

abbrev head_or : Ts → List Entry → Ts
head_or d [] = d
head_or d (x ∷ xs) = x.0

head_is : (d : Ts) (xs : List Entry) → unwrap_or (option_map (λ (e : Entry). e.0) (slice_get xs 0)) d ≡ head_or d xs
head_is d [] = refl
head_is d (x ∷ xs) = refl

oldest_front : (d : Ts) (es : Oplog) (x : Entry) (rest : List Entry) → head_or d (turned es ++ (x ∷ rest)) ≡ oldest x.0 es
oldest_front d [] x rest = refl
oldest_front d (e ∷ es) x rest = ap (head_or d) (append_assoc (turned es) (ring_entry e ∷ []) (x ∷ rest)) ∙ oldest_front d es (ring_entry e) (x ∷ rest)

oldest_turned : (d : Ts) (es : Oplog) → head_or d (turned es) ≡ oldest d es
oldest_turned d [] = refl
oldest_turned d (e ∷ es) = oldest_front d es (ring_entry e) []

pub oldest_is : (d : Ts) (xs : List Entry) (es : Oplog) → xs ≡ turned es → unwrap_or (option_map (λ (e : Entry). e.0) (slice_get xs 0)) d ≡ oldest d es
oldest_is d xs es e = head_is d xs ∙ (ap (head_or d) e ∙ oldest_turned d es)
