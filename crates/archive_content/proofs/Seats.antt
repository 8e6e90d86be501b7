-- What was seen of each namespace, after pieces: the sum of its documents, and whether it was ended.
use Rattle.std.proofs.Common.{◌≡◌, ℕ, suc, ◌+◌, List, [], ◌∷◌, ◌++◌, Bool, true, false, cond, refl, sym, ap, ◌∙◌, subst, arith, Option, Some, None}
use Rattle.std.specs.Prelude.{⊤, set, slice_get, unwrap_or, option_map, ◌||◌, if◌then◌else◌}
use Rattle.std.specs.List.{position_from, list_any}
use Rattle.bson_value.specs.declared.namespace.NsName.{NsName}
use Rattle.bson_value.proofs.Child.{name_refl}
use Rattle.archive_format.specs.Crc.{crc_start, crc_on}
use Rattle.archive_format.specs.Archive.{Seen, same_ns, seat_of, open_of}
use Rattle.archive_format.specs.Written.{joined}
use Rattle.archive_content.specs.Blocks.{open_at, place_at, opened, seat}
use Rattle.archive_content.specs.Pieces.{Piece, Block, End, documents_in, is_end, has_ended, sum_on, sum_of, is_of, AreEnded}
use Rattle.archive_content.proofs.Pieces.{fresh, entry, after_piece, same_is}

pub ns_refl : (n : NsName) → same_ns n n ≡ true
ns_refl n = rw (name_refl n.db, name_refl n.coll) refl

pub ns_turn : (a b : NsName) (c : Bool) → same_ns a b ≡ c → same_ns b a ≡ c
ns_turn a b true e = subst (λ (z : NsName). same_ns b z ≡ true) (sym (same_is a b e)) (ns_refl b)
ns_turn a b false e = by (same_ns b a) refl
  where
    by : (d : Bool) → same_ns b a ≡ d → d ≡ false
    by true f = let g : true ≡ false = sym (ns_refl a) ∙ (ap (same_ns a) (sym (same_is b a f)) ∙ e) in cc
    by false f = refl

-- ---- the seat of a namespace is the place of its first entry, or behind all

abbrev first_at : NsName → List Seen → Option ℕ
first_at n [] = None
first_at n (e ∷ es) = if same_ns e.ns n then Some 0 else option_map suc (first_at n es)

shifted : (k : ℕ) (o : Option ℕ) → option_map (λ (i : ℕ). (k + 1) + i) o ≡ option_map (λ (i : ℕ). k + i) (option_map suc o)
shifted k None = refl
shifted k (Some i) = ap Some (omega arith)

position_is : (n : NsName) (k : ℕ) (es : List Seen) → position_from (λ (e : Seen). same_ns e.ns n) k es ≡ option_map (λ (i : ℕ). k + i) (first_at n es)
position_is n k [] = refl
position_is n k (e ∷ es) = by (same_ns e.ns n) (position_is n (k + 1) es)
  where
    by : (b : Bool) → position_from (λ (e : Seen). same_ns e.ns n) (k + 1) es ≡ option_map (λ (i : ℕ). (k + 1) + i) (first_at n es) →
        cond b (Some k) (position_from (λ (e : Seen). same_ns e.ns n) (k + 1) es) ≡ option_map (λ (i : ℕ). k + i) (if b then Some 0 else option_map suc (first_at n es))
    by true later = ap Some (omega arith)
    by false later = later ∙ shifted k (first_at n es)

same_place : (o : Option ℕ) → option_map (λ (i : ℕ). 0 + i) o ≡ o
same_place None = refl
same_place (Some i) = ap Some (omega arith)

seat_is : (n : NsName) (es : List Seen) → seat_of n es ≡ first_at n es
seat_is n es = position_is n 0 es ∙ same_place (first_at n es)

-- what stands there, and what is put there
abbrev pub entry_in : NsName → List Seen → Seen
entry_in n [] = fresh n
entry_in n (e ∷ es) = if same_ns e.ns n then e else entry_in n es

abbrev pub updated : NsName → Seen → List Seen → List Seen
updated n x [] = x ∷ []
updated n x (e ∷ es) = if same_ns e.ns n then x ∷ es else e ∷ updated n x es

place_later : (n : NsName) (e : Seen) (es : List Seen) (o : Option ℕ) → place_at (option_map suc o) (e ∷ es) ≡ suc (place_at o es)
place_later n e es None = refl
place_later n e es (Some i) = refl

open_later : (n : NsName) (e : Seen) (es : List Seen) (o : Option ℕ) → open_at n (option_map suc o) (e ∷ es) ≡ e ∷ open_at n o es
open_later n e es None = refl
open_later n e es (Some i) = refl

entry_first : (n : NsName) (es : List Seen) → unwrap_or (slice_get (open_at n (first_at n es) es) (place_at (first_at n es) es)) (fresh n) ≡ entry_in n es
entry_first n [] = refl
entry_first n (e ∷ es) = by (same_ns e.ns n) (entry_first n es)
  where
    by : (b : Bool) → unwrap_or (slice_get (open_at n (first_at n es) es) (place_at (first_at n es) es)) (fresh n) ≡ entry_in n es →
        unwrap_or (slice_get (open_at n (if b then Some 0 else option_map suc (first_at n es)) (e ∷ es)) (place_at (if b then Some 0 else option_map suc (first_at n es)) (e ∷ es))) (fresh n) ≡ (if b then e else entry_in n es)
    by true later = refl
    by false later = (λ i. unwrap_or (slice_get (open_later n e es (first_at n es) i) (place_later n e es (first_at n es) i)) (fresh n)) ∙ later

pub entry_is : (n : NsName) (es : List Seen) → entry n es ≡ entry_in n es
entry_is n es = (λ i. unwrap_or (slice_get (open_at n (seat_is n es i) es) (place_at (seat_is n es i) es)) (fresh n)) ∙ entry_first n es

set_first : (n : NsName) (x : Seen) (es : List Seen) → set (open_at n (first_at n es) es) (place_at (first_at n es) es) x ≡ updated n x es
set_first n x [] = refl
set_first n x (e ∷ es) = by (same_ns e.ns n) (set_first n x es)
  where
    by : (b : Bool) → set (open_at n (first_at n es) es) (place_at (first_at n es) es) x ≡ updated n x es →
        set (open_at n (if b then Some 0 else option_map suc (first_at n es)) (e ∷ es)) (place_at (if b then Some 0 else option_map suc (first_at n es)) (e ∷ es)) x ≡ (if b then x ∷ es else e ∷ updated n x es)
    by true later = refl
    by false later = (λ i. set (open_later n e es (first_at n es) i) (place_later n e es (first_at n es) i) x) ∙ ap (λ (l : List Seen). e ∷ l) later

set_is : (n : NsName) (x : Seen) (es : List Seen) → set (opened n es) (seat n es) x ≡ updated n x es
set_is n x es = (λ i. set (open_at n (seat_is n es i) es) (place_at (seat_is n es i) es) x) ∙ set_first n x es

-- ---- after one more

entry_named : (n : NsName) (es : List Seen) → (entry_in n es).ns ≡ n
entry_named n [] = refl
entry_named n (e ∷ es) = by (same_ns e.ns n) refl (entry_named n es)
  where
    by : (b : Bool) → same_ns e.ns n ≡ b → (entry_in n es).ns ≡ n → (if b then e else entry_in n es).ns ≡ n
    by true s later = same_is e.ns n s
    by false s later = later

entry_updated : (n m : NsName) (x : Seen) (es : List Seen) → x.ns ≡ n → entry_in m (updated n x es) ≡ (if same_ns n m then x else entry_in m es)
entry_updated n m x [] h = ap (λ (k : NsName). if same_ns k m then x else fresh m) h
entry_updated n m x (e ∷ es) h = by (same_ns e.ns n) refl (entry_updated n m x es h)
  where
    here : same_ns e.ns n ≡ true → (if same_ns n m then x else entry_in m es) ≡ (if same_ns n m then x else if same_ns e.ns m then e else entry_in m es)
    here s = of (same_ns n m) refl
      where
        of : (b : Bool) → same_ns n m ≡ b → (if b then x else entry_in m es) ≡ (if b then x else if same_ns e.ns m then e else entry_in m es)
        of true t = refl
        of false t = sym (ap (λ (c : Bool). if c then e else entry_in m es) (ap (λ (k : NsName). same_ns k m) (same_is e.ns n s) ∙ t))

    apart : (a b : Bool) → same_ns e.ns m ≡ a → same_ns n m ≡ b → same_ns e.ns n ≡ false → (if a then e else if b then x else entry_in m es) ≡ (if b then x else if a then e else entry_in m es)
    apart true true p q s = let f : true ≡ false = sym (ap (same_ns e.ns) (same_is n m q) ∙ p) ∙ s in cc
    apart true false p q s = refl
    apart false true p q s = refl
    apart false false p q s = refl

    by : (b : Bool) → same_ns e.ns n ≡ b → entry_in m (updated n x es) ≡ (if same_ns n m then x else entry_in m es) →
        entry_in m (if b then x ∷ es else e ∷ updated n x es) ≡ (if same_ns n m then x else if same_ns e.ns m then e else entry_in m es)
    by true s later = ap (λ (k : NsName). if same_ns k m then x else entry_in m es) h ∙ here s
    by false s later = ap (λ (z : Seen). if same_ns e.ns m then e else z) later ∙ apart (same_ns e.ns m) (same_ns n m) refl refl s

-- ---- what was seen mirrors the pieces

pub record Mirrors (before : List Piece) (seen : List Seen) : Type 0 where
  pub sum : (n : NsName) → (entry n seen).sum ≡ sum_of n before
  pub ended : (n : NsName) → (entry n seen).ended ≡ has_ended n before

sum_append : (n : NsName) (r : ℕ) (ps : List Piece) (p : Piece) → sum_on n r (ps ++ p ∷ []) ≡ crc_on (sum_on n r ps) (joined (documents_in n p))
sum_append n r [] p = refl
sum_append n r (q ∷ ps) p = sum_append n (crc_on r (joined (documents_in n q))) ps p

or_last : (a : Bool) → (a || false) ≡ a
or_last true = refl
or_last false = refl

any_append : (f : Piece → Bool) (ps : List Piece) (p : Piece) → list_any f (ps ++ p ∷ []) ≡ (list_any f ps || f p)
any_append f [] p = or_last (f p)
any_append f (q ∷ ps) p = ap (λ (b : Bool). f q || b) (any_append f ps p) ∙ thrice (f q) (list_any f ps) (f p)
  where
    thrice : (a b c : Bool) → (a || (b || c)) ≡ ((a || b) || c)
    thrice true b c = refl
    thrice false b c = refl

after_block : (n m : NsName) (ds : List (List ℕ)) (seen : List Seen) → entry m (after_piece seen (Block n ds)) ≡ (if same_ns n m then record (entry n seen) { sum = crc_on (entry n seen).sum (joined ds) } else entry m seen)
after_block n m ds seen =
    let x : Seen = record (entry n seen) { sum = crc_on (entry n seen).sum (joined ds) } in
    entry_is m (after_piece seen (Block n ds)) ∙ (ap (entry_in m) (set_is n x seen)
    ∙ (entry_updated n m x seen (ap (λ (z : Seen). z.ns) (entry_is n seen) ∙ entry_named n seen) ∙ ap (λ (z : Seen). if same_ns n m then x else z) (sym (entry_is m seen))))

after_end : (n m : NsName) (seen : List Seen) → entry m (after_piece seen (End n)) ≡ (if same_ns n m then record (entry n seen) { ended = true } else entry m seen)
after_end n m seen =
    let x : Seen = record (entry n seen) { ended = true } in
    entry_is m (after_piece seen (End n)) ∙ (ap (entry_in m) (set_is n x seen)
    ∙ (entry_updated n m x seen (ap (λ (z : Seen). z.ns) (entry_is n seen) ∙ entry_named n seen) ∙ ap (λ (z : Seen). if same_ns n m then x else z) (sym (entry_is m seen))))

block_sum : (n m : NsName) (ds : List (List ℕ)) (before : List Piece) (seen : List Seen) → Mirrors before seen → (entry m (after_piece seen (Block n ds))).sum ≡ sum_of m (before ++ Block n ds ∷ [])
block_sum n m ds before seen h = ap (λ (z : Seen). z.sum) (after_block n m ds seen) ∙ (by (same_ns n m) refl ∙ sym (sum_append m crc_start before (Block n ds)))
  where
    by : (b : Bool) → same_ns n m ≡ b → (if b then record (entry n seen) { sum = crc_on (entry n seen).sum (joined ds) } else entry m seen).sum ≡ crc_on (sum_of m before) (joined (if b then ds else []))
    by true s = ap (λ (r : ℕ). crc_on r (joined ds)) (h.sum n ∙ ap (λ (k : NsName). sum_of k before) (same_is n m s))
    by false s = h.sum m

block_ended : (n m : NsName) (ds : List (List ℕ)) (before : List Piece) (seen : List Seen) → Mirrors before seen → (entry m (after_piece seen (Block n ds))).ended ≡ has_ended m (before ++ Block n ds ∷ [])
block_ended n m ds before seen h = ap (λ (z : Seen). z.ended) (after_block n m ds seen) ∙ (by (same_ns n m) refl ∙ sym (any_append (is_end m) before (Block n ds) ∙ or_last (has_ended m before)))
  where
    by : (b : Bool) → same_ns n m ≡ b → (if b then record (entry n seen) { sum = crc_on (entry n seen).sum (joined ds) } else entry m seen).ended ≡ has_ended m before
    by true s = h.ended n ∙ ap (λ (k : NsName). has_ended k before) (same_is n m s)
    by false s = h.ended m

end_sum : (n m : NsName) (before : List Piece) (seen : List Seen) → Mirrors before seen → (entry m (after_piece seen (End n))).sum ≡ sum_of m (before ++ End n ∷ [])
end_sum n m before seen h = ap (λ (z : Seen). z.sum) (after_end n m seen) ∙ (by (same_ns n m) refl ∙ sym (sum_append m crc_start before (End n)))
  where
    by : (b : Bool) → same_ns n m ≡ b → (if b then record (entry n seen) { ended = true } else entry m seen).sum ≡ sum_of m before
    by true s = h.sum n ∙ ap (λ (k : NsName). sum_of k before) (same_is n m s)
    by false s = h.sum m

end_ended : (n m : NsName) (before : List Piece) (seen : List Seen) → Mirrors before seen → (entry m (after_piece seen (End n))).ended ≡ has_ended m (before ++ End n ∷ [])
end_ended n m before seen h = ap (λ (z : Seen). z.ended) (after_end n m seen) ∙ (by (same_ns n m) refl ∙ sym (any_append (is_end m) before (End n)))
  where
    or_true : (a : Bool) → true ≡ (a || true)
    or_true true = refl
    or_true false = refl

    by : (b : Bool) → same_ns n m ≡ b → (if b then record (entry n seen) { ended = true } else entry m seen).ended ≡ (has_ended m before || b)
    by true s = or_true (has_ended m before)
    by false s = h.ended m ∙ sym (or_last (has_ended m before))

pub mirrors_more : (before : List Piece) (seen : List Seen) (p : Piece) → Mirrors before seen → Mirrors (before ++ p ∷ []) (after_piece seen p)
mirrors_more before seen (Block n ds) h = record { sum = λ m. block_sum n m ds before seen h; ended = λ m. block_ended n m ds before seen h }
mirrors_more before seen (End n) h = record { sum = λ m. end_sum n m before seen h; ended = λ m. end_ended n m before seen h }

pub mirrors_none : Mirrors [] []
mirrors_none = record { sum = λ n. refl; ended = λ n. refl }

-- ---- each namespace that was seen is one of a piece, and stands once

abbrev Absent : NsName → List Seen → Type 0
Absent n [] = ⊤
Absent n (e ∷ es) = (same_ns e.ns n ≡ false) × Absent n es

abbrev Once : List Seen → Type 0
Once [] = ⊤
Once (e ∷ es) = Absent e.ns es × Once es

abbrev AreOf : List Piece → List Seen → Type 0
AreOf before [] = ⊤
AreOf before (e ∷ es) = (list_any (is_of e.ns) before ≡ true) × AreOf before es

pub record Listed (before : List Piece) (seen : List Seen) : Type 0 where
  pub once : Once seen
  pub of : AreOf before seen

absent_updated : (k n : NsName) (x : Seen) (es : List Seen) → x.ns ≡ n → same_ns n k ≡ false → Absent k es → Absent k (updated n x es)
absent_updated k n x [] h a s = (ap (λ (z : NsName). same_ns z k) h ∙ a, tt)
absent_updated k n x (e ∷ es) h a s = by (same_ns e.ns n) (absent_updated k n x es h a s.1)
  where
    by : (b : Bool) → Absent k (updated n x es) → Absent k (if b then x ∷ es else e ∷ updated n x es)
    by true later = (ap (λ (z : NsName). same_ns z k) h ∙ a, s.1)
    by false later = (s.0, later)

once_updated : (n : NsName) (x : Seen) (es : List Seen) → x.ns ≡ n → Once es → Once (updated n x es)
once_updated n x [] h o = (tt, tt)
once_updated n x (e ∷ es) h o = by (same_ns e.ns n) refl (once_updated n x es h o.1)
  where
    by : (b : Bool) → same_ns e.ns n ≡ b → Once (updated n x es) → Once (if b then x ∷ es else e ∷ updated n x es)
    by true s later = (subst (λ (k : NsName). Absent k es) (same_is e.ns n s ∙ sym h) o.0, o.1)
    by false s later = (absent_updated e.ns n x es h (ns_turn e.ns n false s) o.0, later)

or_true : (a b : Bool) → a ≡ true → (a || b) ≡ true
or_true a b e = ap (λ (c : Bool). c || b) e

or_right : (a b : Bool) → b ≡ true → (a || b) ≡ true
or_right true b e = refl
or_right false b e = e

of_more : (before : List Piece) (p : Piece) (es : List Seen) → AreOf before es → AreOf (before ++ p ∷ []) es
of_more before p [] h = tt
of_more before p (e ∷ es) h = (any_append (is_of e.ns) before p ∙ or_true (list_any (is_of e.ns) before) (is_of e.ns p) h.0, of_more before p es h.1)

of_updated : (before : List Piece) (n : NsName) (x : Seen) (es : List Seen) → list_any (is_of x.ns) before ≡ true → AreOf before es → AreOf before (updated n x es)
of_updated before n x [] a h = (a, tt)
of_updated before n x (e ∷ es) a h = by (same_ns e.ns n) (of_updated before n x es a h.1)
  where
    by : (b : Bool) → AreOf before (updated n x es) → AreOf before (if b then x ∷ es else e ∷ updated n x es)
    by true later = (a, h.1)
    by false later = (h.0, later)

listed_with : (before : List Piece) (seen after : List Seen) (p : Piece) (n : NsName) (x : Seen) → after ≡ updated n x seen → x.ns ≡ n → is_of n p ≡ true → Listed before seen → Listed (before ++ p ∷ []) after
listed_with before seen after p n x e h i l = subst (Listed (before ++ p ∷ [])) (sym e) (record {
  once = once_updated n x seen h l.once;
  of = of_updated (before ++ p ∷ []) n x seen (any_append (is_of x.ns) before p ∙ or_right (list_any (is_of x.ns) before) (is_of x.ns p) (ap (λ (k : NsName). is_of k p) h ∙ i)) (of_more before p seen l.of);
})

pub listed_more : (before : List Piece) (seen : List Seen) (p : Piece) → Listed before seen → Listed (before ++ p ∷ []) (after_piece seen p)
listed_more before seen (Block n ds) l =
    listed_with before seen (after_piece seen (Block n ds)) (Block n ds) n (record (entry n seen) { sum = crc_on (entry n seen).sum (joined ds) }) (set_is n _ seen) (ap (λ (z : Seen). z.ns) (entry_is n seen) ∙ entry_named n seen) (ns_refl n) l
listed_more before seen (End n) l =
    listed_with before seen (after_piece seen (End n)) (End n) n (record (entry n seen) { ended = true }) (set_is n _ seen) (ap (λ (z : Seen). z.ns) (entry_is n seen) ∙ entry_named n seen) (ns_refl n) l

pub listed_none : Listed [] []
listed_none = record { once = tt; of = tt }

-- ---- where each namespace has its end, none is open

entry_absent : (n : NsName) (e : Seen) (es : List Seen) → same_ns e.ns n ≡ false → entry_in n (e ∷ es) ≡ entry_in n es
entry_absent n e es s = ap (λ (b : Bool). if b then e else entry_in n es) s

-- the entries of a list are those that stand at their names in one that ends with it
abbrev Stand : List Seen → List Seen → Type 0
Stand all [] = ⊤
Stand all (e ∷ es) = (entry_in e.ns all ≡ e) × Stand all es

stand_more : (e : Seen) (all es : List Seen) → Absent e.ns es → Stand all es → Stand (e ∷ all) es
stand_more e all [] a s = tt
stand_more e all (x ∷ es) a s = (entry_absent x.ns e all (ns_turn x.ns e.ns false a.0) ∙ s.0, stand_more e all es a.1 s.1)

stand_all : (es : List Seen) → Once es → Stand es es
stand_all [] o = tt
stand_all (e ∷ es) o = (ap (λ (b : Bool). if b then e else entry_in e.ns es) (ns_refl e.ns), stand_more e es es o.0 (stand_all es o.1))

none_open : (before : List Piece) (all es : List Seen) → AreEnded before → ((n : NsName) → (entry n all).ended ≡ has_ended n before) → Stand all es → AreOf before es → open_of es ≡ None
none_open before all [] h m s o = refl
none_open before all (e ∷ es) h m s o =
    let ended : e.ended ≡ true = sym (ap (λ (z : Seen). z.ended) (entry_is e.ns all ∙ s.0)) ∙ (m e.ns ∙ h e.ns o.0) in
    rw ended (none_open before all es h m s.1 o.1)

pub all_closed : (before : List Piece) (seen : List Seen) → AreEnded before → Mirrors before seen → Listed before seen → open_of seen ≡ None
all_closed before seen h m l = none_open before seen seen h m.ended (stand_all seen l.once) l.of
