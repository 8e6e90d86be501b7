-- Behind the end of a namespace an archive has nothing more of it.
use Rattle.std.proofs.Common.{◌≡◌, ℕ, zero, suc, ◌+◌, List, [], ◌∷◌, ◌++◌, length, Bool, true, false, cond, refl, sym, ap, subst, ◌∙◌, arith}
use Rattle.std.specs.Prelude.{⊤, ℤ, set, slice_get, Option, Some, None, if◌then◌else◌, ◌==◌, is_some}
use Rattle.std.specs.List.{position_from}
use Rattle.std.proofs.lemmas.Bool.{false_from_ne_true}
use Rattle.bson_value.specs.declared.namespace.NsName.{NsName}
use Rattle.bson_value.proofs.Child.{name_refl}
use Rattle.bson_check.specs.declared.fault.BsonFault.{BsonFault}
use Rattle.archive_format.specs.Crc.{crc_start, crc_on, crc_end}
use Rattle.archive_format.specs.Shapes.{Header as PreludeHeader, Metadata, Head, is_oplog}
use Rattle.archive_format.specs.declared.fault.FormatFault.TheVariants.{BadPrelude, AfterEnd, Crc}
use Rattle.archive_format.specs.declared.place.Place.{Place}
use Rattle.archive_format.specs.declared.place.Place.TheVariants.{Front, Header, Metas, Blocks, Inside, Ending}
use Rattle.archive_format.specs.Archive.{Item, magic, terminator, document, Taking, meta, doc, end, text_of, Seen, Stage, start, Verdict, goes, bad, same_ns, meta_place, seat_of, header_in, metadata_in, head_in, fault_in, sound, header_step, meta_step, behind, opened_entry, opened, head_step, doc_step, closed_entry, end_step, step_at, Runs, Content}
use Rattle.restore_plan.specs.Order.{Lacks, EndsAreLast}
use Rattle.restore_plan.proofs.Tests.{same_names}

-- ---- elements of a list, and the first that passes a test

put : {A : Type 0} (xs : List A) (i : ℕ) (x y : A) → slice_get xs i ≡ Some x → slice_get (set xs i y) i ≡ Some y
put [] i x y e = cc
put (z ∷ xs) zero x y e = refl
put (z ∷ xs) (suc i) x y e = put xs i x y e

beside : {A : Type 0} (xs : List A) (i j : ℕ) (y z : A) → (i ≡ j → ⊥) → slice_get xs j ≡ Some z → slice_get (set xs i y) j ≡ Some z
beside [] i j y z other e = cc
beside (x ∷ xs) zero zero y z other e = absurd (other refl)
beside (x ∷ xs) zero (suc j) y z other e = e
beside (x ∷ xs) (suc i) zero y z other e = e
beside (x ∷ xs) (suc i) (suc j) y z other e = beside xs i j y z (λ q. other (ap suc q)) e

before : {A : Type 0} (xs : List A) (i : ℕ) (y z : A) → slice_get xs i ≡ Some z → slice_get (xs ++ y ∷ []) i ≡ Some z
before [] i y z e = cc
before (x ∷ xs) zero y z e = e
before (x ∷ xs) (suc i) y z e = before xs i y z e

last : {A : Type 0} (xs : List A) (y : A) → slice_get (xs ++ y ∷ []) (length xs) ≡ Some y
last [] y = refl
last (x ∷ xs) y = last xs y

module _ {A : Type 0} (t : A → Bool) where
  -- the element that is found is there, and passes
  record Found (k m : ℕ) (xs : List A) : Type 0 where
    place : ℕ
    element : A
    at : m ≡ k + place
    there : slice_get xs place ≡ Some element
    passes : t element ≡ true

  found : (k m : ℕ) (xs : List A) → position_from t k xs ≡ Some m → Found k m xs
  found k m [] e = cc
  found k m (x ∷ xs) e = by (t x) refl (found (k + 1) m xs) e
    where
      by : (b : Bool) → t x ≡ b → (position_from t (k + 1) xs ≡ Some m → Found (k + 1) m xs) → cond b (Some k) (position_from t (k + 1) xs) ≡ Some m → Found k m (x ∷ xs)
      by true p later e = let s : k ≡ m = cc in record { place = 0; element = x; at = omega (arith, s); there = refl; passes = p }
      by false p later e = let f = later e in record { place = suc f.place; element = f.element; at = omega (arith, f.at); there = f.there; passes = f.passes }

  -- an element that passes where the old one did takes its place
  found_set : (k : ℕ) (xs : List A) (i : ℕ) (x y : A) → slice_get xs i ≡ Some x → t y ≡ t x → position_from t k (set xs i y) ≡ position_from t k xs
  found_set k [] i x y e same = refl
  found_set k (a ∷ xs) zero x y e same = let f : a ≡ x = cc in ap (λ b. cond b (Some k) (position_from t (k + 1) xs)) (same ∙ ap t (sym f))
  found_set k (a ∷ xs) (suc i) x y e same = ap (cond (t a) (Some k)) (found_set (k + 1) xs i x y e same)

  found_before : (k m : ℕ) (xs : List A) (y : A) → position_from t k xs ≡ Some m → position_from t k (xs ++ y ∷ []) ≡ Some m
  found_before k m [] y e = cc
  found_before k m (x ∷ xs) y e = by (t x) (found_before (k + 1) m xs y) e
    where
      by : (b : Bool) → (position_from t (k + 1) xs ≡ Some m → position_from t (k + 1) (xs ++ y ∷ []) ≡ Some m) → cond b (Some k) (position_from t (k + 1) xs) ≡ Some m → cond b (Some k) (position_from t (k + 1) (xs ++ y ∷ [])) ≡ Some m
      by true later e = e
      by false later e = later e

  found_last : (k : ℕ) (xs : List A) (y : A) → position_from t k xs ≡ None → t y ≡ true → position_from t k (xs ++ y ∷ []) ≡ Some (k + length xs)
  found_last k [] y e p = ap (λ b. cond b (Some k) None) p ∙ ap Some (omega arith)
  found_last k (x ∷ xs) y e p = by (t x) (found_last (k + 1) xs y) e
    where
      by : (b : Bool) → (position_from t (k + 1) xs ≡ None → t y ≡ true → position_from t (k + 1) (xs ++ y ∷ []) ≡ Some (k + 1 + length xs)) → cond b (Some k) (position_from t (k + 1) xs) ≡ None → cond b (Some k) (position_from t (k + 1) (xs ++ y ∷ [])) ≡ Some (k + suc (length xs))
      by true later e = cc
      by false later e = later e p ∙ ap Some (omega arith)

-- ---- namespaces that were ended, and the entry that is written to

pub ns_refl : (n : NsName) → same_ns n n ≡ true
ns_refl n = rw (name_refl n.db, name_refl n.coll) refl

abbrev of_ns : NsName → Seen → Bool
of_ns n e = same_ns e.ns n

-- this namespace was ended
record Closed (n : NsName) (es : List Seen) : Type 0 where
  place : ℕ
  entry : Seen
  seat : seat_of n es ≡ Some place
  there : slice_get es place ≡ Some entry
  ended : entry.ended ≡ true

-- the entry at this place is that of its namespace, which wasn't ended
abbrev IsOpen : List Seen → ℕ → Type 0
IsOpen es i = (e : Seen) → slice_get es i ≡ Some e → (e.ended ≡ false) × (seat_of e.ns es ≡ Some i)

-- what was seen where the grammar stands at this place
abbrev Stands : Place → List Seen → Type 0
Stands Front es = es ≡ []
Stands Header es = es ≡ []
Stands Metas es = es ≡ []
Stands Blocks es = ⊤
Stands (Inside i) es = IsOpen es i
Stands (Ending i said) es = IsOpen es i

-- what is handed out is at most one taking; where it is an end, its namespace was ended now
abbrev Closes : List Seen → List Taking → Type 0
Closes es [] = ⊤
Closes es (meta n t ∷ []) = ⊤
Closes es (doc n b ∷ []) = ⊤
Closes es (end n ∷ []) = Closed n es
Closes es (t ∷ u ∷ ts) = ⊥

-- one item on
record After (es : List Seen) (m : Stage) (one : List Taking) : Type 0 where
  stands : Stands m.place m.seen
  kept : (n : NsName) → Closed n es → Closed n m.seen
  lacks : (n : NsName) → Closed n es → Lacks n one
  closes : Closes m.seen one

abbrev Good : List Seen → Verdict → Type 0
Good es (goes m one) = After es m one
Good es (bad f) = ⊤

nothing_closed : (n : NsName) (es : List Seen) → es ≡ [] → Closed n es → ⊥
nothing_closed n es none c = let e = ap (seat_of n) (sym none) ∙ c.seat in cc

-- an entry that wasn't ended is of no namespace that was
apart : (es : List Seen) (i : ℕ) (e : Seen) (n : NsName) → slice_get es i ≡ Some e → (e.ended ≡ false) × (seat_of e.ns es ≡ Some i) → Closed n es → same_ns e.ns n ≡ false
apart es i e n is o c = false_from_ne_true (same_ns e.ns n) (λ y.
    let s : Some i ≡ Some c.place = sym o.1 ∙ ap (λ z. seat_of z es) (same_names e.ns n y) ∙ c.seat in
    let p : i ≡ c.place = cc in
    let q : Some e ≡ Some c.entry = sym is ∙ ap (slice_get es) p ∙ c.there in
    let f : e ≡ c.entry = cc in
    let g : false ≡ true = sym o.0 ∙ ap (λ z. z.ended) f ∙ c.ended in
    cc)

-- another entry of the same namespace in its place
module _ (es : List Seen) (i : ℕ) (e y : Seen) (is : slice_get es i ≡ Some e) (same : y.ns ≡ e.ns) where
  seat_stays : (n : NsName) → seat_of n (set es i y) ≡ seat_of n es
  seat_stays n = found_set (of_ns n) 0 es i e y is (ap (λ z. same_ns z n) same)

  closed_stays : (n : NsName) → e.ended ≡ false → Closed n es → Closed n (set es i y)
  closed_stays n still c =
      let other : i ≡ c.place → ⊥ = λ p.
      (let q : Some e ≡ Some c.entry = sym is ∙ ap (slice_get es) p ∙ c.there in
      let f : e ≡ c.entry = cc in
      let g : false ≡ true = sym still ∙ ap (λ z. z.ended) f ∙ c.ended in
      cc) in
      record { place = c.place; entry = c.entry; seat = seat_stays n ∙ c.seat; there = beside es i c.place y c.entry other c.there; ended = c.ended }

  open_stays : y.ended ≡ false → seat_of e.ns es ≡ Some i → IsOpen (set es i y) i
  open_stays still seat = λ x h.
      let q : Some y ≡ Some x = sym (put es i e y is) ∙ h in
      let f : y ≡ x = cc in
      subst (λ z. (z.ended ≡ false) × (seat_of z.ns (set es i y) ≡ Some i)) f (still, seat_stays y.ns ∙ ap (λ z. seat_of z es) same ∙ seat)

  now_closed : y.ended ≡ true → seat_of e.ns es ≡ Some i → Closed e.ns (set es i y)
  now_closed done seat = record { place = i; entry = y; seat = seat_stays e.ns ∙ seat; there = put es i e y is; ended = done }

-- ---- one item

silent : (es : List Seen) (m : Stage) → Stands m.place m.seen → ((n : NsName) → Closed n es → Closed n m.seen) → After es m []
silent es m stands kept = record { stands = stands; kept = kept; lacks = λ n c. tt; closes = tt }

sound_good : (es : List Seen) (at : ℕ) (v : Verdict) (o : Option BsonFault) → Good es v → Good es (sound at v o)
sound_good es at v None g = g
sound_good es at v (Some f) g = tt

header_good : (s : Stage) (at : ℕ) (o : Option PreludeHeader) → s.seen ≡ [] → Good s.seen (header_step s at o)
unfolding header_step
header_good s at None none = tt
header_good s at (Some h) none = silent s.seen (record s { place = Metas }) none (λ n c. c)

meta_good : (s : Stage) (at : ℕ) (o : Option Metadata) → s.place ≡ Metas → s.seen ≡ [] → Good s.seen (meta_step s at o)
unfolding meta_step
meta_good s at None is none = tt
meta_good s at (Some m) is none = by (is_oplog m.ns) (is_some (meta_place m.ns s.metas))
  where
    stands : Stands s.place s.seen
    stands = subst (λ p. Stands p s.seen) (sym is) none

    by : (a b : Bool) → Good s.seen (if a then goes s [] else (if b then bad (BadPrelude at) else goes (record s { metas = s.metas ++ m.ns ∷ [] }) (meta m.ns m.text ∷ [])))
    by true b = silent s.seen s stands (λ n c. c)
    by false true = tt
    by false false = record { stands = stands; kept = λ n c. c; lacks = λ n c. absurd (nothing_closed n s.seen none c); closes = tt }

stands_behind : (eof : Bool) (crc : Option ℤ) (i : ℕ) (es : List Seen) → IsOpen es i → Stands (behind eof crc i) es
stands_behind true crc i es o = o
stands_behind false crc i es o = o

opened_good : (s : Stage) (at : ℕ) (h : Head) (o : Option ℕ) → seat_of h.ns s.seen ≡ o → Good s.seen (opened s at h o)
opened_good s at h None none = silent s.seen _ (stands_behind h.eof h.crc (length s.seen) (s.seen ++ new ∷ []) is_open) (λ n c.
    record { place = c.place; entry = c.entry; seat = found_before (of_ns n) 0 c.place s.seen new c.seat; there = before s.seen c.place new c.entry c.there; ended = c.ended })
  where
    new : Seen
    new = record { ns = h.ns; sum = crc_start; ended = false }

    seat : seat_of h.ns (s.seen ++ new ∷ []) ≡ Some (length s.seen)
    seat = found_last (of_ns h.ns) 0 s.seen new none (ns_refl h.ns) ∙ ap Some (omega arith)

    is_open : IsOpen (s.seen ++ new ∷ []) (length s.seen)
    is_open x e =
        let q : Some new ≡ Some x = sym (last s.seen new) ∙ e in
        let f : new ≡ x = cc in
        subst (λ z. (z.ended ≡ false) × (seat_of z.ns (s.seen ++ new ∷ []) ≡ Some (length s.seen))) f (refl, seat)
opened_good s at h (Some i) seat = by (slice_get s.seen i) refl
  where
    named : (e : Seen) → slice_get s.seen i ≡ Some e → e.ns ≡ h.ns
    named e is =
        let k = found (of_ns h.ns) 0 i s.seen seat in
        let p : i ≡ k.place = omega (arith, k.at) in
        let q : Some k.element ≡ Some e = sym k.there ∙ ap (slice_get s.seen) (sym p) ∙ is in
        let f : k.element ≡ e = cc in
        sym (ap (λ z. z.ns) f) ∙ same_names k.element.ns h.ns k.passes

    is_open : (e : Seen) → slice_get s.seen i ≡ Some e → e.ended ≡ false → IsOpen s.seen i
    is_open e is still x there =
        let q : Some e ≡ Some x = sym is ∙ there in
        let f : e ≡ x = cc in
        (sym (ap (λ z. z.ended) f) ∙ still, ap (λ z. seat_of z s.seen) (named x there) ∙ seat)

    entered : (e : Seen) → slice_get s.seen i ≡ Some e → (b : Bool) → e.ended ≡ b → Good s.seen (if b then bad (AfterEnd e.ns at) else goes (record s { place = behind h.eof h.crc i }) [])
    entered e is true f = tt
    entered e is false f = silent s.seen (record s { place = behind h.eof h.crc i }) (stands_behind h.eof h.crc i s.seen (is_open e is f)) (λ n c. c)

    by : (o : Option Seen) → slice_get s.seen i ≡ o → Good s.seen (opened_entry s at (behind h.eof h.crc i) o)
    by None is = tt
    by (Some e) is = entered e is e.ended refl

head_good : (s : Stage) (at : ℕ) (o : Option Head) → Good s.seen (head_step s at o)
unfolding head_step
head_good s at None = tt
head_good s at (Some h) = opened_good s at h (seat_of h.ns s.seen) refl

doc_good : (s : Stage) (at i : ℕ) (b : List ℕ) (o : Option Seen) → s.place ≡ Inside i → IsOpen s.seen i → slice_get s.seen i ≡ o → Good s.seen (doc_step s at i b o)
unfolding doc_step
doc_good s at i b None is o there = tt
doc_good s at i b (Some e) is o there =
    let k = o e there in
    let y : Seen = record e { sum = crc_on e.sum b } in
    record {
      stands = subst (λ p. Stands p (set s.seen i y)) (sym is) (open_stays s.seen i e y there refl k.0 k.1);
      kept = λ n c. closed_stays s.seen i e y there refl n k.0 c;
      lacks = λ n c. (apart s.seen i e n there k c, tt);
      closes = tt;
    }

closed_good : (s : Stage) (i : ℕ) (e : Seen) → IsOpen s.seen i → slice_get s.seen i ≡ Some e → Good s.seen (closed_entry s i e)
closed_good s i e o there =
    let k = o e there in
    let y : Seen = record e { ended = true } in
    record {
      stands = tt;
      kept = λ n c. closed_stays s.seen i e y there refl n k.0 c;
      lacks = λ n c. (apart s.seen i e n there k c, tt);
      closes = now_closed s.seen i e y there refl refl k.1;
    }

end_good : (s : Stage) (at i : ℕ) (said : Option ℕ) (o : Option Seen) → IsOpen s.seen i → slice_get s.seen i ≡ o → Good s.seen (end_step s at i said o)
unfolding end_step
end_good s at i said None o there = tt
end_good s at i None (Some e) o there = closed_good s i e o there
end_good s at i (Some n) (Some e) o there = by (crc_end e.sum == n)
  where
    by : (b : Bool) → Good s.seen (if b then closed_entry s i e else bad (Crc e.ns n (crc_end e.sum)))
    by true = closed_good s i e o there
    by false = tt

step_good : (p : Place) (s : Stage) (at : ℕ) (item : Item) → s.place ≡ p → Stands p s.seen → Good s.seen (step_at p s at item)
unfolding step_at
step_good Front s at magic is h = silent s.seen (record s { place = Header }) h (λ n c. c)
step_good Front s at terminator is h = tt
step_good Front s at (document b) is h = tt
step_good Header s at magic is h = tt
step_good Header s at terminator is h = tt
step_good Header s at (document b) is h = sound_good s.seen at (header_step s at (header_in b)) (fault_in b) (header_good s at (header_in b) h)
step_good Metas s at magic is h = tt
step_good Metas s at terminator is h = silent s.seen (record s { place = Blocks }) tt (λ n c. c)
step_good Metas s at (document b) is h = sound_good s.seen at (meta_step s at (metadata_in b)) (fault_in b) (meta_good s at (metadata_in b) is h)
step_good Blocks s at magic is h = tt
step_good Blocks s at terminator is h = tt
step_good Blocks s at (document b) is h = sound_good s.seen at (head_step s at (head_in b)) (fault_in b) (head_good s at (head_in b))
step_good (Inside i) s at magic is h = tt
step_good (Inside i) s at terminator is h = silent s.seen (record s { place = Blocks }) tt (λ n c. c)
step_good (Inside i) s at (document b) is h = sound_good s.seen at (doc_step s at i b (slice_get s.seen i)) (fault_in b) (doc_good s at i b (slice_get s.seen i) is h refl)
step_good (Ending i said) s at magic is h = tt
step_good (Ending i said) s at terminator is h = end_good s at i said (slice_get s.seen i) h refl
step_good (Ending i said) s at (document b) is h = tt

-- ---- all items

lacks_more : (n : NsName) (ts us : List Taking) → Lacks n ts → Lacks n us → Lacks n (ts ++ us)
lacks_more n [] us a b = b
lacks_more n (t ∷ ts) us a b = (a.0, lacks_more n ts us a.1 b)

ends_more : (es : List Seen) (one more : List Taking) → Closes es one → ((n : NsName) → Closed n es → Lacks n more) → EndsAreLast more → EndsAreLast (one ++ more)
ends_more es [] more c lacks last = last
ends_more es (meta n t ∷ []) more c lacks last = (tt, last)
ends_more es (doc n b ∷ []) more c lacks last = (tt, last)
ends_more es (end n ∷ []) more c lacks last = (lacks n c, last)
ends_more es (t ∷ u ∷ ts) more c lacks last = absurd c

runs_on : (items : List Item) (s : Stage) (at : ℕ) (t : Stage) (ts : List Taking) → Stands s.place s.seen → Runs s at items t ts → ((n : NsName) → Closed n s.seen → Lacks n ts) × EndsAreLast ts
runs_on [] s at t ts h r = subst (λ us. ((n : NsName) → Closed n s.seen → Lacks n us) × EndsAreLast us) (sym r.1) (λ n c. tt, tt)
runs_on (i ∷ is) s at t ts h r =
    let a : After s.seen r.0 r.1 = subst (Good s.seen) r.4 (step_good s.place s at i refl h) in
    let k = runs_on is r.0 (at + length (text_of i)) t r.2 a.stands r.5 in
    subst (λ us. ((n : NsName) → Closed n s.seen → Lacks n us) × EndsAreLast us) (sym r.6)
    (λ n c. lacks_more n r.1 r.2 (a.lacks n c) (k.0 n (a.kept n c)), ends_more r.0.seen r.1 r.2 a.closes k.0 k.1)

pub runs_ends_last : (items : List Item) (s : Stage) (at : ℕ) (ts : List Taking) → Runs start at items s ts → EndsAreLast ts
runs_ends_last items s at ts r = (runs_on items start at s ts refl r).1

pub ends_are_last : (bytes : List ℕ) (ts : List Taking) → Content bytes ts → EndsAreLast ts
ends_are_last bytes ts c = runs_ends_last c.items c.stage 0 ts c.runs
