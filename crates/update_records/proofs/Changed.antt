-- Well-formed values stay so when they are changed at a place.
use Rattle.std.proofs.Common.{◌≡◌, ℕ, zero, suc, List, [], ◌∷◌, Bool, true, false, refl, subst}
use Rattle.std.specs.Prelude.{if◌then◌else◌, Option, Some, None}
use Rattle.std.specs.List.{AllByRecursion}
use Rattle.std.specs.Str.{bytes_eq}
use Rattle.std.proofs.lemmas.Slice.Eq.{bytes_eq-Decides}
use Rattle.containers.specs.Entries.{IsAbsent, AreDistinct, names_of, lookup, put as put_field, without}
use Rattle.bson_value.specs.declared.value.Value.{Value, Value-F, out-Value}
use Rattle.bson_value.specs.Digits.{index_of}
use Rattle.bson_value.specs.Place.{shape, child, child_in, nth, at_index, put, put_in, put_item, put_index, del, del_in, blank_item, blank_index, sized, into}
use Rattle.bson_value.specs.WellFormed.{IsName, IsWellFormedLevel, IsWellFormed, AreWellFormedItems, AreWellFormedFields}
use Rattle.bson_value.proofs.WellFormed.{IsHeldWellFormed, held_formed, here_formed, formed_one, formed_null}
use Rattle.doc_path.specs.declared.parts.Part.{Part}
use Rattle.doc_path.specs.declared.parts.Form.TheVariants.{V2}
use Rattle.doc_path.specs.declared.parts.Change.{Change}
use Rattle.doc_path.specs.declared.parts.Change.TheVariants.{Put, Delete, Resize as Length}
use Rattle.doc_path.specs.Touch.{key_of, takes, walk_by, set_by, unset_by, resize_in, resize_here, or_else, changed}
use Rattle.doc_path.specs.Ways.{leads, value_from, value_in}
use Rattle.update_records.proofs.Levels.{Fields}
use Rattle.update_records.proofs.Spelled.{AreNamed}

-- ---- what stands in a value

item_formed : (vs : List Value) (n : ℕ) (c : Value) → AreWellFormedItems vs → nth vs n ≡ Some c → IsWellFormed c
item_formed [] n c h e = cc
item_formed (v ∷ vs) zero c h e = let q : v ≡ c = cc in subst IsWellFormed q h.0
item_formed (v ∷ vs) (suc n) c h e = item_formed vs n c h.1 e

index_formed : (vs : List Value) (i : Option ℕ) (c : Value) → AreWellFormedItems vs → at_index vs i ≡ Some c → IsWellFormed c
index_formed vs None c h e = cc
index_formed vs (Some n) c h e = item_formed vs n c h e

pub field_formed : (fs : Fields) (k : List ℕ) (c : Value) → AreWellFormedFields fs → lookup k fs ≡ Some c → IsWellFormed c
field_formed [] k c h e = cc
field_formed (f ∷ fs) k c h e = by (bytes_eq f.0 k) e (field_formed fs k c h.1)
  where
    by : (b : Bool) → (if b then Some f.1 else lookup k fs) ≡ Some c → (lookup k fs ≡ Some c → IsWellFormed c) → IsWellFormed c
    by true e more = let q : f.1 ≡ c = cc in subst IsWellFormed q h.0
    by false e more = more e

child_in_formed : (f : Value-F Value) (k : List ℕ) (i : Option ℕ) (c : Value) → IsHeldWellFormed f → child_in f k i ≡ Some c → IsWellFormed c
child_in_formed (Value-F.Array vs) k i c h e = index_formed vs i c h e
child_in_formed (Value-F.Object fs) k i c h e = field_formed fs k c h e
child_in_formed (Value-F.ScopedCode t fs) k i c h e = field_formed fs k c h e
child_in_formed _ k i c h e = cc

pub child_formed : (v : Value) (k : List ℕ) (c : Value) → IsWellFormed v → child v k ≡ Some c → IsWellFormed c
unfolding child
child_formed v k c h e = child_in_formed (out-Value v) k (index_of k) c (held_formed v h) e

pub place_formed : (ps : List Part) (v c : Value) → IsWellFormed v → value_in ps v ≡ Some c → IsWellFormed c
place_formed [] v c h e = let q : v ≡ c = cc in subst IsWellFormed q h
place_formed (p ∷ ps) v c h e = by (leads p (shape v)) (child v (key_of p)) refl e (λ d k. place_formed ps d c k)
  where
    by : (b : Bool) (o : Option Value) → child v (key_of p) ≡ o → value_from (if b then o else None) ps ≡ Some c → ((d : Value) → IsWellFormed d → value_from (Some d) ps ≡ Some c → IsWellFormed c) → IsWellFormed c
    by true (Some d) q e more = more d (child_formed v (key_of p) d h q) e
    by true None q e more = cc
    by false o q e more = cc

-- ---- another value under a name

put_item_formed : (vs : List Value) (n : ℕ) (a : Value) → AreWellFormedItems vs → IsWellFormed a → AreWellFormedItems (put_item vs n a)
put_item_formed [] zero a h k = (k, tt)
put_item_formed [] (suc n) a h k = (formed_null, put_item_formed [] n a tt k)
put_item_formed (v ∷ vs) zero a h k = (k, h.1)
put_item_formed (v ∷ vs) (suc n) a h k = (h.0, put_item_formed vs n a h.1 k)

put_index_formed : (vs : List Value) (i : Option ℕ) (a : Value) → AreWellFormedItems vs → IsWellFormed a → AreWellFormedItems (put_index vs i a)
put_index_formed vs None a h k = h
put_index_formed vs (Some n) a h k = put_item_formed vs n a h k

put_fields_formed : (fs : Fields) (k : List ℕ) (a : Value) → AreWellFormedFields fs → IsWellFormed a → AreWellFormedFields (put_field k a fs)
put_fields_formed [] k a h w = (w, tt)
put_fields_formed (f ∷ fs) k a h w = by (bytes_eq f.0 k) (put_fields_formed fs k a h.1 w)
  where
    by : (b : Bool) → AreWellFormedFields (put_field k a fs) → AreWellFormedFields (if b then (k, a) ∷ fs else f ∷ put_field k a fs)
    by true r = (w, h.1)
    by false r = (h.0, r)

put_names : (fs : Fields) (k : List ℕ) (a : Value) → AllByRecursion (λ e. IsName e.0) fs → IsName k → AllByRecursion (λ e. IsName e.0) (put_field k a fs)
put_names [] k a h n = (n, tt)
put_names (f ∷ fs) k a h n = by (bytes_eq f.0 k) (put_names fs k a h.1 n)
  where
    by : (b : Bool) → AllByRecursion (λ e. IsName e.0) (put_field k a fs) → AllByRecursion (λ e. IsName e.0) (if b then (k, a) ∷ fs else f ∷ put_field k a fs)
    by true r = (n, h.1)
    by false r = (h.0, r)

pub other_name : (j k : List ℕ) → bytes_eq j k ≡ false → j ≡ k → ⊥
other_name j k e q = let t : bytes_eq j k ≡ true = (bytes_eq-Decides j k).1 q in cc

put_absent : (fs : Fields) (m k : List ℕ) (a : Value) → IsAbsent m (names_of fs) → (m ≡ k → ⊥) → IsAbsent m (names_of (put_field k a fs))
put_absent [] m k a h n = (n, tt)
put_absent (f ∷ fs) m k a h n = by (bytes_eq f.0 k) (put_absent fs m k a h.1 n)
  where
    by : (b : Bool) → IsAbsent m (names_of (put_field k a fs)) → IsAbsent m (names_of (if b then (k, a) ∷ fs else f ∷ put_field k a fs))
    by true r = (n, h.1)
    by false r = (h.0, r)

put_distinct : (fs : Fields) (k : List ℕ) (a : Value) → AreDistinct (names_of fs) → AreDistinct (names_of (put_field k a fs))
put_distinct [] k a d = (tt, tt)
put_distinct (f ∷ fs) k a d = by (bytes_eq f.0 k) refl (put_distinct fs k a d.1)
  where
    by : (b : Bool) → bytes_eq f.0 k ≡ b → AreDistinct (names_of (put_field k a fs)) → AreDistinct (names_of (if b then (k, a) ∷ fs else f ∷ put_field k a fs))
    by true e r = (subst (λ (m : List ℕ). IsAbsent m (names_of fs)) ((bytes_eq-Decides f.0 k).0 e) d.0, d.1)
    by false e r = (put_absent fs f.0 k a d.0 (other_name f.0 k e), r)

abbrev Whole : Value-F Value → Type 0
Whole f = IsWellFormedLevel f × IsHeldWellFormed f

put_in_formed : (f : Value-F Value) (k : List ℕ) (i : Option ℕ) (a : Value) → Whole f → IsName k → IsWellFormed a → Whole (put_in f k i a)
put_in_formed (Value-F.Array vs) k i a h n w = (tt, put_index_formed vs i a h.1 w)
put_in_formed (Value-F.Object fs) k i a h n w = ((put_distinct fs k a h.0.0, put_names fs k a h.0.1 n), put_fields_formed fs k a h.1 w)
put_in_formed _ k i a h n w = h

pub put_formed : (v : Value) (k : List ℕ) (a : Value) → IsWellFormed v → IsName k → IsWellFormed a → IsWellFormed (put v k a)
unfolding put
put_formed v k a h n w =
    let r = put_in_formed (out-Value v) k (index_of k) a (here_formed v h, held_formed v h) n w in
    formed_one (put_in (out-Value v) k (index_of k) a) r.0 r.1

-- ---- no value under a name

blank_item_formed : (vs : List Value) (n : ℕ) → AreWellFormedItems vs → AreWellFormedItems (blank_item vs n)
blank_item_formed [] n h = tt
blank_item_formed (v ∷ vs) zero h = (formed_null, h.1)
blank_item_formed (v ∷ vs) (suc n) h = (h.0, blank_item_formed vs n h.1)

blank_index_formed : (vs : List Value) (i : Option ℕ) → AreWellFormedItems vs → AreWellFormedItems (blank_index vs i)
blank_index_formed vs None h = h
blank_index_formed vs (Some n) h = blank_item_formed vs n h

pub without_fields : (fs : Fields) (k : List ℕ) → AreWellFormedFields fs → AreWellFormedFields (without k fs)
without_fields [] k h = tt
without_fields (f ∷ fs) k h = by (bytes_eq f.0 k) (without_fields fs k h.1)
  where
    by : (b : Bool) → AreWellFormedFields (without k fs) → AreWellFormedFields (if b then without k fs else f ∷ without k fs)
    by true r = r
    by false r = (h.0, r)

pub without_names : (fs : Fields) (k : List ℕ) → AllByRecursion (λ e. IsName e.0) fs → AllByRecursion (λ e. IsName e.0) (without k fs)
without_names [] k h = tt
without_names (f ∷ fs) k h = by (bytes_eq f.0 k) (without_names fs k h.1)
  where
    by : (b : Bool) → AllByRecursion (λ e. IsName e.0) (without k fs) → AllByRecursion (λ e. IsName e.0) (if b then without k fs else f ∷ without k fs)
    by true r = r
    by false r = (h.0, r)

without_absent : (fs : Fields) (m k : List ℕ) → IsAbsent m (names_of fs) → IsAbsent m (names_of (without k fs))
without_absent [] m k h = tt
without_absent (f ∷ fs) m k h = by (bytes_eq f.0 k) (without_absent fs m k h.1)
  where
    by : (b : Bool) → IsAbsent m (names_of (without k fs)) → IsAbsent m (names_of (if b then without k fs else f ∷ without k fs))
    by true r = r
    by false r = (h.0, r)

pub without_distinct : (fs : Fields) (k : List ℕ) → AreDistinct (names_of fs) → AreDistinct (names_of (without k fs))
without_distinct [] k d = tt
without_distinct (f ∷ fs) k d = by (bytes_eq f.0 k) (without_distinct fs k d.1)
  where
    by : (b : Bool) → AreDistinct (names_of (without k fs)) → AreDistinct (names_of (if b then without k fs else f ∷ without k fs))
    by true r = r
    by false r = (without_absent fs f.0 k d.0, r)

del_in_formed : (f : Value-F Value) (k : List ℕ) (i : Option ℕ) → Whole f → Whole (del_in f k i)
del_in_formed (Value-F.Array vs) k i h = (tt, blank_index_formed vs i h.1)
del_in_formed (Value-F.Object fs) k i h = ((without_distinct fs k h.0.0, without_names fs k h.0.1), without_fields fs k h.1)
del_in_formed _ k i h = h

del_formed : (v : Value) (k : List ℕ) → IsWellFormed v → IsWellFormed (del v k)
unfolding del
del_formed v k h =
    let r = del_in_formed (out-Value v) k (index_of k) (here_formed v h, held_formed v h) in
    formed_one (del_in (out-Value v) k (index_of k)) r.0 r.1

-- ---- another length

sized_formed : (n : ℕ) (vs : List Value) → AreWellFormedItems vs → AreWellFormedItems (sized n vs)
sized_formed zero vs h = tt
sized_formed (suc n) [] h = (formed_null, sized_formed n [] tt)
sized_formed (suc n) (v ∷ vs) h = (h.0, sized_formed n vs h.1)

resize_in_formed : (n : ℕ) (f : Value-F Value) → Whole f → Whole (resize_in n f)
resize_in_formed n (Value-F.Array vs) h = (tt, sized_formed n vs h.1)
resize_in_formed n _ h = h

resize_formed : (n : ℕ) (v : Value) → IsWellFormed v → IsWellFormed (resize_here n v)
unfolding resize_here
resize_formed n v h =
    let r = resize_in_formed n (out-Value v) (here_formed v h, held_formed v h) in
    formed_one (resize_in n (out-Value v)) r.0 r.1

-- ---- at the end of a way

walk_formed : (ws : List Part) (g : Value → Value) (v : Value) → AreNamed ws → IsWellFormed v → ((w : Value) → IsWellFormed w → IsWellFormed (g w)) → IsWellFormed (walk_by (takes V2) None ws g v)
walk_formed [] g v n h k = k v h
walk_formed (p ∷ ps) g v n h k = by (takes V2 p (shape v)) (child v (key_of p)) refl (λ c w. walk_formed ps g c n.1 w k)
  where
    by : (b : Bool) (o : Option Value) → child v (key_of p) ≡ o → ((c : Value) → IsWellFormed c → IsWellFormed (walk_by (takes V2) None ps g c)) → IsWellFormed (if b then into (walk_by (takes V2) None ps g) v (key_of p) (or_else o None) else v)
    by true (Some c) e more = put_formed v (key_of p) (walk_by (takes V2) None ps g c) h n.0 (more c (child_formed v (key_of p) c h e))
    by true None e more = h
    by false o e more = h

set_formed : (p : Part) (a v : Value) → IsName (key_of p) → IsWellFormed a → IsWellFormed v → IsWellFormed (set_by (takes V2) p a v)
set_formed p a v n k h = by (takes V2 p (shape v))
  where
    by : (b : Bool) → IsWellFormed (if b then put v (key_of p) a else v)
    by true = put_formed v (key_of p) a h n k
    by false = h

unset_formed : (p : Part) (v : Value) → IsWellFormed v → IsWellFormed (unset_by (takes V2) p v)
unset_formed p v h = by (takes V2 p (shape v))
  where
    by : (b : Bool) → IsWellFormed (if b then del v (key_of p) else v)
    by true = del_formed v (key_of p) h
    by false = h

abbrev pub IsWellFormedChange : Change → Type 0
IsWellFormedChange (Put a) = IsWellFormed a
IsWellFormedChange Delete = Unit {0}
IsWellFormedChange (Length n) = Unit {0}

pub changed_formed : (ws : List Part) (p : Part) (c : Change) (v : Value) → AreNamed ws → IsName (key_of p) → IsWellFormedChange c → IsWellFormed v → IsWellFormed (changed V2 ws p c v)
changed_formed ws p (Put a) v n m k h = walk_formed ws (set_by (takes V2) p a) v n h (λ w g. set_formed p a w m k g)
changed_formed ws p Delete v n m k h = walk_formed ws (unset_by (takes V2) p) v n h (λ w g. unset_formed p w g)
changed_formed ws p (Length n') v n m k h = walk_formed ws (walk_by (takes V2) None (p ∷ []) (resize_here n')) v n h (λ w g. walk_formed (p ∷ []) (resize_here n') w (m, tt) g (λ x i. resize_formed n' x i))
