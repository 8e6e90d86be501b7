-- Where a namespace stands in a list, before and after a change of the list.
use Rattle.std.proofs.Common.{◌≡◌, ℕ, suc, zero, ◌+◌, ◌<◌, Bool, true, false, cond, ◌&&◌, List, [], ◌∷◌, ◌++◌, length, set, refl, ap, sym, ◌∙◌, arith}
use Rattle.std.specs.Prelude.{Option, Some, None, slice_get, bytes_eq, string_bytes, Result, Ok, Err, OnOk, OnErr, IfSome}
use Rattle.std.specs.List.{position_from}
use Rattle.std.specs.Option.{option_or, option_and_then}
use Rattle.std.specs.Map.{update, lookup}
use Rattle.std.specs.BTreeMap.{BTreeMap, get_by_text, IsEmpty, is_at}
use Rattle.std.specs.Cmp.Lexicographic.{slice_cmp}
use Rattle.std.specs.Ordering.{nat_cmp}
use Rattle.std.specs.declared.string.String.{String}
use Rattle.std.specs.declared.alloc.Global.{Global}
use Rattle.std.proofs.lemmas.Bool.{and_parts}
use Rattle.std.proofs.lemmas.Slice.Eq.{bytes_eq-Decides}
use Rattle.bson_value.specs.declared.namespace.NsName.{NsName}
use Rattle.archive_format.specs.Shapes.{named}
use Rattle.archive_format.specs.Archive.{Seen, same_ns, meta_place, seat_of}
use Rattle.demux.specs.Names.{Places, place_in, FindsMetas, FindsSeen}

module _ {A : Type 0} (t : A → Bool) where
  -- an element that passes where the old one did takes its place
  position_set : (k : ℕ) (xs : List A) (i : ℕ) (x y : A) → slice_get xs i ≡ Some x → t y ≡ t x → position_from t k (set xs i y) ≡ position_from t k xs
  position_set k [] i x y is same = refl
  position_set k (a ∷ xs) zero x y is same = let e : a ≡ x = cc in ap (λ b. cond b (Some k) (position_from t (k + 1) xs)) (same ∙ ap t (sym e))
  position_set k (a ∷ xs) (suc i) x y is same = ap (cond (t a) (Some k)) (position_set (k + 1) xs i x y is same)

  position_push : (k : ℕ) (xs : List A) (y : A) → position_from t k (xs ++ y ∷ []) ≡ option_or (position_from t k xs) (cond (t y) (Some (k + length xs)) None)
  position_push k [] y = ap (λ n. cond (t y) (Some n) None) (omega arith)
  position_push k (x ∷ xs) y = by (t x) (position_push (k + 1) xs y)
    where
      by : (b : Bool) → position_from t (k + 1) (xs ++ y ∷ []) ≡ option_or (position_from t (k + 1) xs) (cond (t y) (Some (k + 1 + length xs)) None)
          → cond b (Some k) (position_from t (k + 1) (xs ++ y ∷ [])) ≡ option_or (cond b (Some k) (position_from t (k + 1) xs)) (cond (t y) (Some (k + suc (length xs))) None)
      by true h = refl
      by false h = h ∙ ap (λ n. option_or (position_from t (k + 1) xs) (cond (t y) (Some n) None)) (omega arith)

  position_within : (k : ℕ) (xs : List A) (i : ℕ) → position_from t k xs ≡ Some i → i < k + length xs
  position_within k [] i e = cc
  position_within k (x ∷ xs) i e = by (t x) (position_within (k + 1) xs i) e
    where
      by : (b : Bool) → (position_from t (k + 1) xs ≡ Some i → i < k + 1 + length xs) → cond b (Some k) (position_from t (k + 1) xs) ≡ Some i → i < k + suc (length xs)
      by true h e = let s : k ≡ i = cc in omega (arith, s)
      by false h e = let s = h e in omega (arith, s)

  -- the same from the first place
  position_pushed : (xs : List A) (y : A) → position_from t 0 (xs ++ y ∷ []) ≡ option_or (position_from t 0 xs) (cond (t y) (Some (length xs)) None)
  position_pushed xs y = position_push 0 xs y ∙ ap (λ n. option_or (position_from t 0 xs) (cond (t y) (Some n) None)) (omega arith)

or_none : {X : Type 0} (o : Option X) → option_or o None ≡ o
or_none None = refl
or_none (Some x) = refl

named_same : (db coll d c : List ℕ) → (bytes_eq db d && bytes_eq coll c) ≡ true → named d c ≡ named db coll
named_same db coll d c e =
    let k = and_parts (bytes_eq db d) (bytes_eq coll c) e in
    let p : db ≡ d = (bytes_eq-Decides db d).0 k.0 in
    let q : coll ≡ c = (bytes_eq-Decides coll c).0 k.1 in
    λ i. named (sym p i) (sym q i)

-- ---- the maps

-- one more name at this place
abbrev pub Puts : Places → Places → List ℕ → List ℕ → ℕ → Type 0
Puts m n db coll i = (d c : List ℕ) → place_in n d c ≡ cond (bytes_eq db d && bytes_eq coll c) (Some i) (place_in m d c)

abbrev Inner : Type 0
Inner = BTreeMap (String Global) ℕ

-- the collections of this database are these
abbrev pub Sets : Places → Places → List ℕ → Inner → Type 0
Sets m n db w = (d : List ℕ) → get_by_text n d ≡ update bytes_eq (get_by_text m) db (Some w) d

here : (m n : Places) (db : List ℕ) (w : Inner) → Sets m n db w → (d c : List ℕ) (b : Bool) → bytes_eq db d ≡ b → place_in n d c ≡ cond b (get_by_text w c) (place_in m d c)
here m n db w sets d c true e = ap (option_and_then (λ x. get_by_text x c)) (sets d ∙ ap (λ b. cond b (Some w) (get_by_text m d)) e)
here m n db w sets d c false e = ap (option_and_then (λ x. get_by_text x c)) (sets d ∙ ap (λ b. cond b (Some w) (get_by_text m d)) e)

pub put : (m n : Places) (db coll : List ℕ) (w : Inner) (i : ℕ) → Sets m n db w → ((q : List ℕ) → get_by_text w q ≡ update bytes_eq (place_in m db) coll (Some i) q) → Puts m n db coll i
put m n db coll w i sets inner = λ d c. by d c (bytes_eq db d) refl
  where
    by : (d c : List ℕ) (b : Bool) → bytes_eq db d ≡ b → place_in n d c ≡ cond (bytes_eq db d && bytes_eq coll c) (Some i) (place_in m d c)
    by d c true e =
        let p : db ≡ d = (bytes_eq-Decides db d).0 e in
        here m n db w sets d c true e ∙ inner c ∙ ap (λ z. cond (bytes_eq coll c) (Some i) (place_in m z c)) p ∙ ap (λ b. cond (b && bytes_eq coll c) (Some i) (place_in m d c)) (sym e)
    by d c false e = here m n db w sets d c false e ∙ ap (λ b. cond (b && bytes_eq coll c) (Some i) (place_in m d c)) (sym e)

pub put_none : (m n : Places) (db : List ℕ) (w : Inner) → Sets m n db w → ((q : List ℕ) → get_by_text w q ≡ place_in m db q) → (d c : List ℕ) → place_in n d c ≡ place_in m d c
put_none m n db w sets inner = λ d c. by d c (bytes_eq db d) refl
  where
    by : (d c : List ℕ) (b : Bool) → bytes_eq db d ≡ b → place_in n d c ≡ place_in m d c
    by d c true e =
        let p : db ≡ d = (bytes_eq-Decides db d).0 e in
        here m n db w sets d c true e ∙ inner c ∙ ap (λ z. place_in m z c) p
    by d c false e = here m n db w sets d c false e

-- a database that is known, or isn't
pub known : (m : Places) (db : List ℕ) (old : Inner) → get_by_text m db ≡ Some old → (q : List ℕ) → place_in m db q ≡ get_by_text old q
known m db old e q = ap (option_and_then (λ x. get_by_text x q)) e

pub unknown : (m : Places) (db : List ℕ) → get_by_text m db ≡ None → (q : List ℕ) → place_in m db q ≡ None
unknown m db e q = ap (option_and_then (λ x. get_by_text x q)) e

-- ---- the lists

module _ {A : Type 0} (name : A → NsName) where
  abbrev at : NsName → List A → Option ℕ
  at n xs = position_from (λ x. same_ns (name x) n) 0 xs

  abbrev Finds : Places → List A → Type 0
  Finds m xs = (d c : List ℕ) → place_in m d c ≡ at (named d c) xs

  finds_push : (m n : Places) (xs : List A) (y : A) (db coll : List ℕ) → name y ≡ named db coll → at (named db coll) xs ≡ None → Finds m xs → Puts m n db coll (length xs) → Finds n (xs ++ y ∷ [])
  finds_push m n xs y db coll is new old puts = λ d c. puts d c ∙ by d c (bytes_eq db d && bytes_eq coll c) refl
    where
      test : (d c : List ℕ) → same_ns (name y) (named d c) ≡ (bytes_eq db d && bytes_eq coll c)
      test d c = ap (λ z. same_ns z (named d c)) is

      end : (d c : List ℕ) → at (named d c) (xs ++ y ∷ []) ≡ option_or (at (named d c) xs) (cond (bytes_eq db d && bytes_eq coll c) (Some (length xs)) None)
      end d c = position_pushed (λ x. same_ns (name x) (named d c)) xs y ∙ ap (λ b. option_or (at (named d c) xs) (cond b (Some (length xs)) None)) (test d c)

      by : (d c : List ℕ) (b : Bool) → (bytes_eq db d && bytes_eq coll c) ≡ b → cond b (Some (length xs)) (place_in m d c) ≡ at (named d c) (xs ++ y ∷ [])
      by d c true e =
          let none : at (named d c) xs ≡ None = ap (λ z. at z xs) (named_same db coll d c e) ∙ new in
          sym (end d c ∙ ap (λ b. option_or (at (named d c) xs) (cond b (Some (length xs)) None)) e ∙ ap (λ o. option_or o (Some (length xs))) none)
      by d c false e = old d c ∙ sym (end d c ∙ ap (λ b. option_or (at (named d c) xs) (cond b (Some (length xs)) None)) e ∙ or_none (at (named d c) xs))

  finds_set : (m : Places) (xs : List A) (i : ℕ) (x y : A) → slice_get xs i ≡ Some x → name y ≡ name x → Finds m xs → Finds m (set xs i y)
  finds_set m xs i x y is same old = λ d c. old d c ∙ sym (position_set (λ z. same_ns (name z) (named d c)) 0 xs i x y is (ap (λ z. same_ns z (named d c)) same))

  at_within : (n : NsName) (xs : List A) (i : ℕ) → at n xs ≡ Some i → i < length xs
  at_within n xs i e = omega (arith, position_within (λ x. same_ns (name x) n) 0 xs i e)

pub metas_push : (m n : Places) (xs : List NsName) (db coll : List ℕ) → meta_place (named db coll) xs ≡ None → FindsMetas m xs → Puts m n db coll (length xs) → FindsMetas n (xs ++ named db coll ∷ [])
metas_push m n xs db coll new old puts = finds_push (λ x. x) m n xs (named db coll) db coll refl new old puts

pub seen_push : (m n : Places) (xs : List Seen) (e : Seen) (db coll : List ℕ) → e.ns ≡ named db coll → seat_of (named db coll) xs ≡ None → FindsSeen m xs → Puts m n db coll (length xs) → FindsSeen n (xs ++ e ∷ [])
seen_push m n xs e db coll is new old puts = finds_push (λ x. x.ns) m n xs e db coll is new old puts

pub seen_set : (m : Places) (xs : List Seen) (i : ℕ) (x y : Seen) → slice_get xs i ≡ Some x → y.ns ≡ x.ns → FindsSeen m xs → FindsSeen m (set xs i y)
seen_set = finds_set (λ x. x.ns)

pub seat_within : (n : NsName) (xs : List Seen) (o : Option ℕ) → o ≡ seat_of n xs → IfSome o (λ i. i < length xs)
seat_within n xs None e = tt
seat_within n xs (Some i) e = at_within (λ x. x.ns) n xs i (sym e)

pub empty : (m : Inner) → IsEmpty m → (q : List ℕ) → get_by_text m q ≡ None
empty m e q = ap (λ es. lookup (is_at (λ k. slice_cmp nat_cmp q (string_bytes k))) es) e

pub on_ok : {T E P Q : Type 0} (r : Result T E) → (P → Q) → OnOk r P → OnOk r Q
on_ok (Ok x) f p = f p
on_ok (Err e) f p = tt

pub on_err : {T E P Q : Type 0} (r : Result T E) → (P → Q) → OnErr r P → OnErr r Q
on_err (Ok x) f p = tt
on_err (Err e) f p = f p
