-- Looking up and changing entries by place and by name.
use Rattle.std.proofs.Common.{◌≡◌, ℕ, zero, suc, ◌+◌, ◌<◌, ◌≤◌, Bool, true, false, cond, List, [], ◌∷◌, ◌++◌, length, refl, sym, ap, subst, ◌∙◌, arith, set, get_or}
use Rattle.std.specs.Prelude.{Option, Some, None, option_map, slice_get, remove, IfNone, IsSome}
use Rattle.std.specs.Str.{bytes_eq}
use Rattle.std.specs.List.{position_from}
use Rattle.std.proofs.lemmas.Slice.Eq.{bytes_eq-Decides}
use Rattle.std.proofs.Common.{inl, inr}
use Rattle.std.proofs.lemmas.Bool.{cases_Bool}
use Rattle.containers.specs.Entries.{IsAbsent, AreDistinct, names_of, place_of, lookup, put, without, with_value}

-- a value put in at a place leaves the names
pub names_of-with_value : {A : Type 0} (es : List (List ℕ × A)) (i : ℕ) (v : A) → names_of (with_value es i v) ≡ names_of es
names_of-with_value [] i v = refl
names_of-with_value (e ∷ es) zero v = refl
names_of-with_value (e ∷ es) (suc i) v = ap (λ (ns : List (List ℕ)). e.0 ∷ ns) (names_of-with_value es i v)

-- the write of an entry with the same name
pub set-with_value : {A : Type 0} (es : List (List ℕ × A)) (i : ℕ) (e : List ℕ × A) (v : A) → i < length es → e ≡ get_or es i e → set es i (e.0, v) ≡ with_value es i v
set-with_value [] i e v h k = refl
set-with_value (x ∷ es) zero e v h k = let p : e.0 ≡ x.0 = ap (λ (y : List ℕ × _). y.0) k in rw p refl
set-with_value (x ∷ es) (suc i) e v h k = ap (λ (l : List (List ℕ × _)). x ∷ l) (set-with_value es i e v (omega arith) k)

-- the place j of the entry with this name
pub record IsPlaceOf {A : Type 0} (name : List ℕ) (es : List (List ℕ × A)) (j : ℕ) : Type 0 where
  pub within : j < length es
  pub found : lookup name es ≡ option_map (λ e. e.1) (slice_get es j)
  pub written : (v : A) → put name v es ≡ with_value es j v
  pub removed : AreDistinct (names_of es) → without name es ≡ remove es j

-- what is so where no entry has this name
pub record HasNot {A : Type 0} (name : List ℕ) (es : List (List ℕ × A)) : Type 0 where
  pub found : lookup name es ≡ None
  pub written : (v : A) → put name v es ≡ es ++ (name, v) ∷ []
  pub removed : without name es ≡ es
  pub absent : IsAbsent name (names_of es)

-- a name that isn't there
pub without-absent : {A : Type 0} (name : List ℕ) (es : List (List ℕ × A)) → IsAbsent name (names_of es) → without name es ≡ es
without-absent name [] a = refl
without-absent name (e ∷ es) a =
    elim (cases_Bool (bytes_eq e.0 name)) [
      | inl h ↦ absurd (a.0 (sym ((bytes_eq-Decides e.0 name).0 h)))
      | inr h ↦ rw h (ap (λ (l : List (List ℕ × _)). e ∷ l) (without-absent name es a.1))
    ]

module _ {A : Type 0} (name : List ℕ) where
  abbrev Searched : List (List ℕ × A) → ℕ → Option ℕ → Type 0
  Searched es k None = HasNot name es
  Searched es k (Some i) = (j : ℕ) × (i ≡ k + j) × IsPlaceOf name es j

  step : (e : List ℕ × A) (es : List (List ℕ × A)) (k : ℕ) (b : Bool) → bytes_eq e.0 name ≡ b → (r : Option ℕ) → Searched es (k + 1) r → Searched (e ∷ es) k (cond b (Some k) r)
  step e es k true h r s = (0, omega arith, record { within = omega arith; found = rw h refl; written = λ v. let n : e.0 ≡ name = (bytes_eq-Decides e.0 name).0 h in rw (h, n) refl; removed = λ d. rw h (without-absent name es (subst (λ (m : List ℕ). IsAbsent m (names_of es)) ((bytes_eq-Decides e.0 name).0 h) d.0)) })
  step e es k false h (Some i) s = (suc s.0, omega arith, record { within = omega (arith, s.2.within); found = rw h s.2.found; written = λ v. rw h (ap (λ (l : List (List ℕ × A)). e ∷ l) (s.2.written v)); removed = λ d. rw h (ap (λ (l : List (List ℕ × A)). e ∷ l) (s.2.removed d.1)) })
  step e es k false h None s = record { found = rw h s.found; written = λ v. rw h (ap (λ (l : List (List ℕ × A)). e ∷ l) (s.written v)); removed = rw h (ap (λ (l : List (List ℕ × A)). e ∷ l) s.removed); absent = ((λ p. let q = (bytes_eq-Decides e.0 name).1 (sym p) in cc), s.absent) }

  pub searched : (es : List (List ℕ × A)) (k : ℕ) → Searched es k (position_from (λ e. bytes_eq e.0 name) k es)
  searched [] k = record { found = refl; written = λ v. refl; removed = refl; absent = tt }
  searched (e ∷ es) k = step e es k (bytes_eq e.0 name) refl (position_from (λ e. bytes_eq e.0 name) (k + 1) es) (searched es (k + 1))

  pub place_is : (es : List (List ℕ × A)) (i : ℕ) → Some i ≡ place_of name es → IsPlaceOf name es i
  place_is es i h =
      let s : Searched es 0 (Some i) = subst (Searched es 0) (sym h) (searched es 0) in
      let e : s.0 ≡ i = omega (arith, s.1) in
      subst (IsPlaceOf name es) e s.2

  pub has_not : (es : List (List ℕ × A)) → None ≡ place_of name es → HasNot name es
  has_not es h = subst (Searched es 0) (sym h) (searched es 0)

-- ---- names stay distinct

names_of-push : {A : Type 0} (es : List (List ℕ × A)) (n : List ℕ) (v : A) → names_of (es ++ (n, v) ∷ []) ≡ names_of es ++ n ∷ []
names_of-push [] n v = refl
names_of-push (e ∷ es) n v = ap (λ (ns : List (List ℕ)). e.0 ∷ ns) (names_of-push es n v)

IsAbsent-push : (m n : List ℕ) (ns : List (List ℕ)) → (m ≡ n → ⊥) → IsAbsent m ns → IsAbsent m (ns ++ n ∷ [])
IsAbsent-push m n [] d a = (d, tt)
IsAbsent-push m n (x ∷ ns) d a = (a.0, IsAbsent-push m n ns d a.1)

AreDistinct-push : (n : List ℕ) (ns : List (List ℕ)) → IsAbsent n ns → AreDistinct ns → AreDistinct (ns ++ n ∷ [])
AreDistinct-push n [] a d = (tt, tt)
AreDistinct-push n (m ∷ ns) a d = (IsAbsent-push m n ns (λ e. a.0 (sym e)) d.0, AreDistinct-push n ns a.1 d.1)

pub distinct_push : {A : Type 0} (es : List (List ℕ × A)) (n : List ℕ) (v : A) → IsAbsent n (names_of es) → AreDistinct (names_of es) → AreDistinct (names_of (es ++ (n, v) ∷ []))
distinct_push es n v a d = rw names_of-push (AreDistinct-push n (names_of es) a d)

absent_remove : {A : Type 0} (m : List ℕ) (es : List (List ℕ × A)) (i : ℕ) → IsAbsent m (names_of es) → IsAbsent m (names_of (remove es i))
absent_remove m [] zero a = tt
absent_remove m [] (suc i) a = tt
absent_remove m (e ∷ es) zero a = a.1
absent_remove m (e ∷ es) (suc i) a = (a.0, absent_remove m es i a.1)

pub distinct_remove : {A : Type 0} (es : List (List ℕ × A)) (i : ℕ) → AreDistinct (names_of es) → AreDistinct (names_of (remove es i))
distinct_remove [] zero d = tt
distinct_remove [] (suc i) d = tt
distinct_remove (e ∷ es) zero d = d.1
distinct_remove (e ∷ es) (suc i) d = (absent_remove e.0 es i d.0, distinct_remove es i d.1)

-- the write of a value at a place
pub record Wrote {A : Type 0} (es fs : List (List ℕ × A)) (i : ℕ) (v : A) : Type 0 where
  pub is : fs ≡ with_value es i v
  pub distinct : AreDistinct (names_of es) → AreDistinct (names_of fs)

pub wrote : {A : Type 0} (es : List (List ℕ × A)) (i : ℕ) (e : List ℕ × A) (v w : A) → i < length es → e ≡ get_or es i e → w ≡ v → Wrote es (set es i (e.0, w)) i v
wrote es i e v w lt at same =
    let w-is : set es i (e.0, w) ≡ with_value es i v = rw same (set-with_value es i e v lt at) in
    record { is = w-is; distinct = λ d. rw (w-is, names_of-with_value) d }

pub none_is_absent : {A : Type 0} (name : List ℕ) (es : List (List ℕ × A)) (r : Option ℕ) → r ≡ place_of name es → IfNone r (IsAbsent name (names_of es))
none_is_absent name es None h = (has_not name es h).absent
none_is_absent name es (Some i) h = tt

-- ---- what a name names after a change

module _ {A : Type 0} where
  pub lookup-put : (es : List (List ℕ × A)) (k : List ℕ) (v : A) → lookup k (put k v es) ≡ Some v
  lookup-put [] k v = rw ((bytes_eq-Decides k k).1 refl) refl
  lookup-put (e ∷ es) k v =
      elim (cases_Bool (bytes_eq e.0 k)) [
        | inl h ↦ rw (h, (bytes_eq-Decides k k).1 refl) refl
        | inr h ↦ rw (h, h) (lookup-put es k v)
      ]

  pub lookup-put_ne : (es : List (List ℕ × A)) (k j : List ℕ) (v : A) → bytes_eq k j ≡ false → lookup j (put k v es) ≡ lookup j es
  lookup-put_ne [] k j v n = rw n refl
  lookup-put_ne (e ∷ es) k j v n =
      elim (cases_Bool (bytes_eq e.0 k)) [
        | inl h ↦ let s : e.0 ≡ k = (bytes_eq-Decides e.0 k).0 h in rw (h, s, n) refl
        | inr h ↦ grind (arith, lookup-put_ne es k j v n)
      ]

  pub lookup-without : (es : List (List ℕ × A)) (k : List ℕ) → lookup k (without k es) ≡ None
  lookup-without [] k = refl
  lookup-without (e ∷ es) k =
      elim (cases_Bool (bytes_eq e.0 k)) [
        | inl h ↦ rw h (lookup-without es k)
        | inr h ↦ rw (h, h) (lookup-without es k)
      ]

  pub lookup-without_ne : (es : List (List ℕ × A)) (k j : List ℕ) → bytes_eq k j ≡ false → lookup j (without k es) ≡ lookup j es
  lookup-without_ne [] k j n = refl
  lookup-without_ne (e ∷ es) k j n =
      elim (cases_Bool (bytes_eq e.0 k)) [
        | inl h ↦ let s : e.0 ≡ k = (bytes_eq-Decides e.0 k).0 h in rw (h, s, n) (lookup-without_ne es k j n)
        | inr h ↦ grind (arith, lookup-without_ne es k j n)
      ]

  pub put_same : (es : List (List ℕ × A)) (k : List ℕ) (v : A) → lookup k es ≡ Some v → put k v es ≡ es
  put_same [] k v n = cc
  put_same (e ∷ es) k v n =
      elim (cases_Bool (bytes_eq e.0 k)) [
        | inl h ↦
            let s : e.0 ≡ k = (bytes_eq-Decides e.0 k).0 h in
            let t : Some e.1 ≡ Some v = rw h at n in
            let u : e.1 ≡ v = cc in
            rw h (λ i. (sym s i, sym u i) ∷ es)
        | inr h ↦ rw h (ap (λ (l : List (List ℕ × A)). e ∷ l) (put_same es k v (rw h at n)))
      ]

  pub without_same : (es : List (List ℕ × A)) (k : List ℕ) → lookup k es ≡ None → without k es ≡ es
  without_same [] k n = refl
  without_same (e ∷ es) k n =
      elim (cases_Bool (bytes_eq e.0 k)) [
        | inl h ↦ let t : Some e.1 ≡ None = rw h at n in cc
        | inr h ↦ rw h (ap (λ (l : List (List ℕ × A)). e ∷ l) (without_same es k (rw h at n)))
      ]

-- ---- an entry taken out by its place, and put back

pub length-with_value : {A : Type 0} (es : List (List ℕ × A)) (i : ℕ) (v : A) → length (with_value es i v) ≡ length es
length-with_value [] i v = refl
length-with_value (e ∷ es) zero v = refl
length-with_value (e ∷ es) (suc i) v = ap suc (length-with_value es i v)

pub with_value-twice : {A : Type 0} (es : List (List ℕ × A)) (i : ℕ) (v w : A) → with_value (with_value es i v) i w ≡ with_value es i w
with_value-twice [] i v w = refl
with_value-twice (e ∷ es) zero v w = refl
with_value-twice (e ∷ es) (suc i) v w = ap (λ (l : List (List ℕ × _)). e ∷ l) (with_value-twice es i v w)

pub put_back : {A : Type 0} (name : List ℕ) (es : List (List ℕ × A)) (i : ℕ) (v w : A) → Some i ≡ place_of name es → with_value (with_value es i v) i w ≡ put name w es
put_back name es i v w h = with_value-twice es i v w ∙ sym ((place_is name es i h).written w)

pub found_at : {A : Type 0} (name : List ℕ) (es : List (List ℕ × A)) (i : ℕ) (v : A) → Some i ≡ place_of name es → option_map (λ e. e.1) (slice_get es i) ≡ Some v → lookup name es ≡ Some v
found_at name es i v h e = (place_is name es i h).found ∙ e

pub not_found : {A : Type 0} (name : List ℕ) (es : List (List ℕ × A)) → None ≡ place_of name es → lookup name es ≡ None
not_found name es h = (has_not name es h).found

pub read_value : {A : Type 0} (es : List (List ℕ × A)) (i : ℕ) (e : List ℕ × A) → i < length es → e ≡ get_or es i e → option_map (λ x. x.1) (slice_get es i) ≡ Some e.1
read_value [] i e l h = absurd (omega arith)
read_value (x ∷ es) zero e l h = ap (λ (y : List ℕ × _). Some y.1) (sym h)
read_value (x ∷ es) (suc i) e l h = read_value es i e (omega arith) h

-- ---- names that are there, and names that are not

pub other_name : (n m : List ℕ) → (n ≡ m → ⊥) → bytes_eq n m ≡ false
other_name n m d = elim (cases_Bool (bytes_eq n m)) [ inl h ↦ absurd (d ((bytes_eq-Decides n m).0 h)) | inr h ↦ h ]

pub own_name : (n : List ℕ) → bytes_eq n n ≡ true
own_name n = (bytes_eq-Decides n n).1 refl

module _ {A : Type 0} where
  -- a name that isn't there names nothing
  pub absent_none : (k : List ℕ) (es : List (List ℕ × A)) → IsAbsent k (names_of es) → lookup k es ≡ None
  absent_none k [] a = refl
  absent_none k (e ∷ es) a = rw (other_name e.0 k (λ p. a.0 (sym p))) (absent_none k es a.1)

  -- the fields without a name that is there are fewer
  pub shorter : (k : List ℕ) (es : List (List ℕ × A)) → length (without k es) ≤ length es
  shorter k [] = omega arith
  shorter k (e ∷ es) = elim (cases_Bool (bytes_eq e.0 k)) [ inl h ↦ rw h (omega (arith, shorter k es)) | inr h ↦ rw h (omega (arith, shorter k es)) ]

  pub fewer : (k : List ℕ) (es : List (List ℕ × A)) → IsSome (lookup k es) → length (without k es) < length es
  fewer k [] s = absurd cc
  fewer k (e ∷ es) s =
      elim (cases_Bool (bytes_eq e.0 k)) [
        | inl h ↦ rw h (omega (arith, shorter k es))
        | inr h ↦ let t : IsSome (lookup k es) = rw h at s in rw h (omega (arith, fewer k es t))
      ]

  -- the value at a place, by its name
  pub own_at : (es : List (List ℕ × A)) (i : ℕ) (n : List ℕ) (v : A) → AreDistinct (names_of es) → option_map (λ e. e.0) (slice_get es i) ≡ Some n → option_map (λ e. e.1) (slice_get es i) ≡ Some v → lookup n es ≡ Some v
  own_at [] i n v d a b = absurd cc
  own_at (e ∷ es) zero n v d a b = let p : e.0 ≡ n = cc in let q : e.1 ≡ v = cc in rw (p, own_name n, q) refl
  own_at (e ∷ es) (suc i) n v d a b =
      let r = own_at es i n v d.1 a b in
      elim (cases_Bool (bytes_eq e.0 n)) [
        | inl h ↦ let s : lookup n es ≡ None = absent_none n es (subst (λ (m : List ℕ). IsAbsent m (names_of es)) ((bytes_eq-Decides e.0 n).0 h) d.0) in let t : Some v ≡ None = sym r ∙ s in cc
        | inr h ↦ rw h r
      ]
