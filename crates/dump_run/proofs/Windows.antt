-- The entries of a window, as they stand in a ring.
use Rattle.std.proofs.Common.{◌≡◌, ℕ, zero, suc, ◌+◌, ◌-◌, ◌≤◌, ◌<◌, List, [], ◌∷◌, ◌++◌, length, take, drop, Bool, true, false, Some, refl, sym, ap, ◌∙◌, subst, append_assoc, arith, inl, inr, filter}
use Rattle.std.specs.Prelude.{⊤, ◌&&◌, not, nat_le, map as each, slice_get, if◌then◌else◌}
use Rattle.std.proofs.lemmas.Bool.{cases_Bool, leb-true, leb-false, le-leb}
use Rattle.std.proofs.lemmas.List.{length-map, length-drop}
use Rattle.bson_value.specs.declared.value.Ts.{Ts}
use Rattle.capped_oplog.specs.Ring.{Entry}
use Rattle.history_model.specs.Entries.{OplogEntry, entry_bytes}
use Rattle.history_model.specs.Stages.{earlier, not_later, first_ts, Caps, Oplog, Made, entry_of, kept, ring_entry, turned}
use Rattle.history_model.specs.Runs.{Run, first_entry, newest_first, entries_from, window}
use Rattle.history_model.specs.Invariants.{RisesTo, Holds}
use Rattle.history_model.proofs.Order.{earlier_trans, earlier_turn, earlier_not}
use Rattle.history_model.proofs.InTheRing.{front}
use Rattle.dump_run.specs.Rings.{until, bytes_of}
use Rattle.history_model.proofs.RingLongest.{turned_join}
use Rattle.dump_run.proofs.Finishing.{until_few as until_short}

-- each is later than the one before it
abbrev pub Chain : Ts → List Entry → Type 0
Chain low [] = ⊤
Chain low (x ∷ xs) = (earlier low x.0 ≡ true) × Chain x.0 xs

-- each is later than a moment
abbrev pub AllLater : Ts → List Entry → Type 0
AllLater a [] = ⊤
AllLater a (x ∷ xs) = (earlier a x.0 ≡ true) × AllLater a xs

later_all : (a low : Ts) (xs : List Entry) → earlier a low ≡ true → Chain low xs → AllLater a xs
later_all a low [] e c = tt
later_all a low (x ∷ xs) e c = (let f = earlier_trans a low x.0 e c.0 in (f, later_all a x.0 xs f c.1))

chain_later : (low : Ts) (xs : List Entry) → Chain low xs → AllLater low xs
chain_later low [] c = tt
chain_later low (x ∷ xs) c = (c.0, later_all low x.0 xs c.0 c.1)

abbrev pub up_to : Ts → Entry → Bool
up_to b x = not_later x.0 b

abbrev pub in_window : Ts → Ts → Entry → Bool
in_window a b x = not_later a x.0 && not_later x.0 b

none_left : (b : Ts) (xs : List Entry) → AllLater b xs → filter (up_to b) xs ≡ []
none_left b [] l = refl
none_left b (x ∷ xs) l = (let e : up_to b x ≡ false = ap not l.0 in rw e (none_left b xs l.1))

-- what is later than a moment isn't up to it
later_of : (b : Ts) (x : Entry) → up_to b x ≡ false → earlier b x.0 ≡ true
later_of b x e = by (earlier b x.0) e
  where
    by : (t : Bool) → not t ≡ false → t ≡ true
    by true h = refl
    by false h = cc

filter_until : (b low : Ts) (xs : List Entry) → Chain low xs → filter (up_to b) xs ≡ until b xs
filter_until b low [] c = refl
filter_until b low (x ∷ xs) c = elim (cases_Bool (up_to b x)) [
  | inl e ↦ rw e (ap (λ (z : List Entry). x ∷ z) (filter_until b x.0 xs c.1))
  | inr e ↦ rw e (none_left b xs (later_all b x.0 xs (later_of b x e) c.1))
]

from_on : (a b : Ts) (xs : List Entry) → AllLater a xs → filter (in_window a b) xs ≡ filter (up_to b) xs
from_on a b [] l = refl
from_on a b (x ∷ xs) l =
    (let e : not_later a x.0 ≡ true = ap not (earlier_turn a x.0 l.0) in
    let f : in_window a b x ≡ up_to b x = rw e refl in
    rw f (ap (λ (z : List Entry). if up_to b x then x ∷ z else z) (from_on a b xs l.1)))

later_at : (a : Ts) (front rest : List Entry) (s : Entry) → AllLater a (front ++ (s ∷ rest)) → earlier a s.0 ≡ true
later_at a [] rest s l = l.0
later_at a (x ∷ front) rest s l = later_at a front rest s l.1

-- of a window from an entry on, all that is before the entry is left out
window_from : (low b : Ts) (front rest : List Entry) (s : Entry) → Chain low (front ++ (s ∷ rest)) → filter (in_window s.0 b) (front ++ (s ∷ rest)) ≡ filter (up_to b) (s ∷ rest)
window_from low b [] rest s c =
    (let e : not_later s.0 s.0 ≡ true = ap not (earlier_not s.0) in
    let f : in_window s.0 b s ≡ up_to b s = rw e refl in
    rw f (ap (λ (z : List Entry). if up_to b s then s ∷ z else z) (from_on s.0 b rest (chain_later s.0 rest c.1))))
window_from low b (x ∷ front) rest s c =
    (let e : not_later s.0 x.0 ≡ false = ap not (later_at x.0 front rest s (chain_later x.0 (front ++ (s ∷ rest)) c.1)) in
    let f : in_window s.0 b x ≡ false = rw e refl in
    rw f (window_from x.0 b front rest s c.1))

until_none : (b : Ts) (xs : List Entry) → AllLater b xs → until b xs ≡ []
until_none b [] l = refl
until_none b (x ∷ xs) l = (let e : up_to b x ≡ false = ap not l.0 in rw e refl)

later_drop : (b : Ts) (k : ℕ) (xs : List Entry) → AllLater b xs → AllLater b (drop k xs)
later_drop b zero xs l = l
later_drop b (suc k) [] l = tt
later_drop b (suc k) (x ∷ xs) l = later_drop b k xs l.1

until_drop : (b low : Ts) (k : ℕ) (xs : List Entry) → Chain low xs → until b (drop k xs) ≡ drop k (until b xs)
until_drop b low zero xs c = refl
until_drop b low (suc k) [] c = refl
until_drop b low (suc k) (x ∷ xs) c = elim (cases_Bool (up_to b x)) [
  | inl e ↦ rw e (until_drop b x.0 k xs c.1)
  | inr e ↦ rw e (until_none b (drop k xs) (later_drop b k xs (later_all b x.0 xs (later_of b x e) c.1)))
]

chain_behind : (low : Ts) (front xs : List Entry) → Chain low (front ++ xs) → (l : Ts) × Chain l xs
chain_behind low [] xs c = (low, c)
chain_behind low (x ∷ front) xs c = chain_behind x.0 front xs c.1

-- what a ring has of a window that begins with one of its entries
window_in_ring : (low b : Ts) (front ring rest : List Entry) (s : Entry) (p k : ℕ) → Chain low (front ++ (ring ++ (s ∷ rest))) → length ring ≡ p →
    until b (drop (p + k) (ring ++ (s ∷ rest))) ≡ drop k (filter (in_window s.0 b) (front ++ (ring ++ (s ∷ rest))))
window_in_ring low b front ring rest s p k c e =
    (let at : drop (p + k) (ring ++ (s ∷ rest)) ≡ drop k (s ∷ rest) = behind ring p k e in
    let whole : front ++ (ring ++ (s ∷ rest)) ≡ (front ++ ring) ++ (s ∷ rest) = sym (append_assoc front ring (s ∷ rest)) in
    let chain : Chain low ((front ++ ring) ++ (s ∷ rest)) = subst (Chain low) whole c in
    let here = chain_behind low (front ++ ring) (s ∷ rest) chain in
    let all : filter (in_window s.0 b) (front ++ (ring ++ (s ∷ rest))) ≡ until b (s ∷ rest) =
    ap (filter (in_window s.0 b)) whole ∙ (window_from low b (front ++ ring) rest s chain ∙ filter_until b here.0 (s ∷ rest) here.1) in
    ap (until b) at ∙ (until_drop b here.0 k (s ∷ rest) here.1 ∙ ap (drop k) (sym all)))
  where
    behind : (xs : List Entry) (p k : ℕ) → length xs ≡ p → drop (p + k) (xs ++ (s ∷ rest)) ≡ drop k (s ∷ rest)
    behind [] zero k e = (let f : 0 + k ≡ k = omega arith in ap (λ (i : ℕ). drop i (s ∷ rest)) f)
    behind [] (suc p) k e = absurd (omega arith)
    behind (x ∷ xs) zero k e = absurd (omega arith)
    behind (x ∷ xs) (suc p) k e = (let f : suc p + k ≡ suc (p + k) = omega arith in ap (λ (i : ℕ). drop i (x ∷ (xs ++ (s ∷ rest)))) f ∙ behind xs p k (omega arith))

-- ---- the ring of a stage, and all entries

turned_all : (ms : List Made) (es : Oplog) → turned (newest_first ms es) ≡ turned es ++ each ring_entry (each entry_of ms)
turned_all [] es = sym (none (turned es))
  where
    none : (zs : List Entry) → zs ++ [] ≡ zs
    none [] = refl
    none (z ∷ zs) = ap (λ (l : List Entry). z ∷ l) (none zs)
turned_all (m ∷ ms) es = turned_all ms (entry_of m ∷ es) ∙ append_assoc (turned es) (ring_entry (entry_of m) ∷ []) (each ring_entry (each entry_of ms))

-- all entries as a ring has them
abbrev pub all_in_ring : Run → List Entry
all_in_ring r = each ring_entry (entries_from r)

chain_made : (low high : Ts) (ms : List Made) → RisesTo low ms high → Chain low (each ring_entry (each entry_of ms))
chain_made low high [] h = tt
chain_made low high (m ∷ ms) h = (h.0, chain_made m.ts high ms h.1)

chain_all : (c : Caps) (r : Run) → Holds c r.stage r.made → Chain (record { secs = 0; inc = 0 }) (all_in_ring r)
chain_all c r h = (refl, chain_made first_ts r.stage.newest r.made h.rises)

-- a ring is an end of all entries
ring_behind : (c : Caps) (r : Run) → Holds c r.stage r.made → (gone : List Entry) × (all_in_ring r ≡ gone ++ turned r.stage.oplog)
ring_behind c r h =
    (let f = front c (newest_first r.made (first_entry ∷ [])) in
    (turned f.0, sym (turned_all r.made (first_entry ∷ [])) ∙ (ap turned f.1 ∙ (turned_join (kept c (newest_first r.made (first_entry ∷ []))) f.0 ∙ ap (λ (z : Oplog). turned f.0 ++ turned z) (sym h.oplog)))))

window_turned : (a b : Ts) (es : List OplogEntry) → each ring_entry (window a b es) ≡ filter (in_window a b) (each ring_entry es)
window_turned a b [] = refl
window_turned a b (e ∷ es) = by (in_window a b (ring_entry e)) (window_turned a b es)
  where
    by : (t : Bool) → each ring_entry (window a b es) ≡ filter (in_window a b) (each ring_entry es) → each ring_entry (if t then e ∷ window a b es else window a b es) ≡ (if t then ring_entry e ∷ filter (in_window a b) (each ring_entry es) else filter (in_window a b) (each ring_entry es))
    by true h = ap (λ (z : List Entry). ring_entry e ∷ z) h
    by false h = h

-- a list parts at a place
parted : (xs : List Entry) (p : ℕ) (s : Entry) → slice_get xs p ≡ Some s → (front : List Entry) × (rest : List Entry) × (xs ≡ front ++ (s ∷ rest)) × (length front ≡ p)
parted [] p s e = cc
parted (x ∷ xs) zero s e = (let f : x ≡ s = cc in ([], xs, ap (λ (z : Entry). z ∷ xs) f, refl))
parted (x ∷ xs) (suc p) s e = (let w = parted xs p s e in (x ∷ w.0, w.1, ap (λ (z : List Entry). x ∷ z) w.2, ap suc w.3))

-- what is left of the window behind k entries that were sent, as the ring has it from the entry at Start on
pub left_in_ring : (c : Caps) (r : Run) (a b : Ts) (bytes : List ℕ) (p k : ℕ) → Holds c r.stage r.made → slice_get (turned r.stage.oplog) p ≡ Some (a, bytes) →
    until b (drop (p + k) (turned r.stage.oplog)) ≡ each ring_entry (drop k (window a b (entries_from r)))
left_in_ring c r a b bytes p k h e =
    (let w = parted (turned r.stage.oplog) p (a, bytes) e in
    let g = ring_behind c r h in
    let whole : all_in_ring r ≡ g.0 ++ (w.0 ++ ((a, bytes) ∷ w.1)) = g.1 ∙ ap (λ (z : List Entry). g.0 ++ z) w.2 in
    ap (λ (z : List Entry). until b (drop (p + k) z)) w.2
    ∙ (window_in_ring (record { secs = 0; inc = 0 }) b g.0 w.0 w.1 (a, bytes) p k (subst (Chain (record { secs = 0; inc = 0 })) whole (chain_all c r h)) w.3
    ∙ (ap (λ (z : List Entry). drop k (filter (in_window a b) z)) (sym whole)
    ∙ (ap (drop k) (sym (window_turned a b (entries_from r)))
    ∙ sym (each_drop k (window a b (entries_from r)))))))
  where
    each_drop : (k : ℕ) (es : List OplogEntry) → each ring_entry (drop k es) ≡ drop k (each ring_entry es)
    each_drop zero es = refl
    each_drop (suc k) [] = refl
    each_drop (suc k) (e ∷ es) = each_drop k es

-- the next n of them, as their bytes
pub next_in_ring : (c : Caps) (r : Run) (a b : Ts) (bytes : List ℕ) (p k n : ℕ) → Holds c r.stage r.made → slice_get (turned r.stage.oplog) p ≡ Some (a, bytes) →
    bytes_of (take n (until b (drop (p + k) (turned r.stage.oplog)))) ≡ each entry_bytes (take n (drop k (window a b (entries_from r))))
next_in_ring c r a b bytes p k n h e = ap (λ (z : List Entry). bytes_of (take n z)) (left_in_ring c r a b bytes p k h e) ∙ front_bytes n (drop k (window a b (entries_from r)))
  where
    front_bytes : (n : ℕ) (es : List OplogEntry) → bytes_of (take n (each ring_entry es)) ≡ each entry_bytes (take n es)
    front_bytes zero es = refl
    front_bytes (suc n) [] = refl
    front_bytes (suc n) (e ∷ es) = ap (λ (z : List (List ℕ)). entry_bytes e ∷ z) (front_bytes n es)

last_by : (x k n : ℕ) → nat_le (x - k) n ≡ nat_le x (k + n)
last_by x k n = elim (cases_Bool (nat_le (x - k) n)) [
  | inl e ↦ (let f = leb-true (x - k) n e in e ∙ sym (le-leb x (k + n) (omega arith)))
  | inr e ↦ (let f = leb-false (x - k) n e in e ∙ sym (no (nat_le x (k + n)) refl (omega arith)))
]
  where
    no : (t : Bool) → nat_le x (k + n) ≡ t → k + n < x → nat_le x (k + n) ≡ false
    no true g l = (let z = leb-true x (k + n) g in absurd (omega arith))
    no false g l = g

-- whether they are the last
pub last_in_ring : (c : Caps) (r : Run) (a b : Ts) (bytes : List ℕ) (p k n : ℕ) → Holds c r.stage r.made → slice_get (turned r.stage.oplog) p ≡ Some (a, bytes) →
    nat_le (length (until b (drop (p + k) (turned r.stage.oplog)))) n ≡ nat_le (length (window a b (entries_from r))) (k + n)
last_in_ring c r a b bytes p k n h e =
    ap (λ (z : List Entry). nat_le (length z) n) (left_in_ring c r a b bytes p k h e)
    ∙ (ap (λ (i : ℕ). nat_le i n) (length-map (drop k (window a b (entries_from r))) ring_entry ∙ length-drop k (window a b (entries_from r)))
    ∙ last_by (length (window a b (entries_from r))) k n)

-- a window has no more entries than the ring
pub window_short : (c : Caps) (r : Run) (a b : Ts) (bytes : List ℕ) (p : ℕ) → Holds c r.stage r.made → slice_get (turned r.stage.oplog) p ≡ Some (a, bytes) →
    length (window a b (entries_from r)) ≤ length (turned r.stage.oplog)
window_short c r a b bytes p h e =
    (let f = ap length (left_in_ring c r a b bytes p 0 h e) ∙ length-map (window a b (entries_from r)) ring_entry in
    omega (arith, f, until_short b (drop (p + 0) (turned r.stage.oplog)), length-drop (p + 0) (turned r.stage.oplog)))
