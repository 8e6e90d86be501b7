-- The reading of a diff, field by field, behind a front.
use Rattle.std.proofs.Common.{◌≡◌, ℕ, zero, suc, ◌+◌, ◌-◌, ◌<◌, List, [], ◌∷◌, ◌++◌, length, take, get_or, Bool, true, false, refl, sym, ap, ◌∙◌, subst, arith, append_assoc}
use Rattle.std.specs.Prelude.{Result, Ok, Err, OnOk, IfErr, IsErrAnd, Option, Some, None, option_map, ◌==◌, ◌^◌, nat_lt, if◌then◌else◌, is_some}
use Rattle.std.specs.Str.{bytes_eq}
use Rattle.std.specs.Option.{option_copied}
use Rattle.std.specs.Borrow.{Bor}
use Rattle.containers.specs.Entries.{lookup}
use Rattle.std.proofs.lemmas.List.{take_more}
use Rattle.bson_value.specs.declared.value.Value.{Value, Value-F, out-Value}
use Rattle.bson_value.specs.declared.value.Value.TheVariants.{Object, outs-Object}
use Rattle.bson_value.specs.Digits.{index_of}
use Rattle.doc_path.specs.declared.parts.Part.{Part}
use Rattle.doc_path.specs.declared.parts.Part.TheVariants.{Name as name, Index as index}
use Rattle.doc_path.specs.declared.touches.Touch.{Touch}
use Rattle.oplog_entry.specs.declared.delta.DiffField.{DiffField}
use Rattle.oplog_entry.specs.declared.delta.DiffField.TheVariants.{Mark, Length, Unsets as Removes, Sets as Puts, At, Below}
use Rattle.oplog_entry.specs.declared.delta.DeltaFault.{DeltaFault}
use Rattle.oplog_entry.specs.declared.delta.DeltaFault.TheVariants as DeltaFaults
use Rattle.entry_model.specs.Edits.{Sets, Edit, mapped, under}
use Rattle.entry_model.specs.Written.{Fields, d_name, u_name, i_name, a_name, l_name}
use Rattle.entry_model.specs.Reads.{Read, object_in, fields_as, unset_of, set_of, below_part, length_read, then_also, all_read, has_a, at_index, document_field, array_field, diff_read}
use Rattle.entry_model.specs.Touches.{touch_by}
use Rattle.oplog_entry.specs.DiffFields.{low_index, or_else, by_letter, document_kind, array_kind, by_kind, by_name, fields_read, at_front, diff_at, Adds, IsBad}
use Rattle.oplog_entry.proofs.Pushes.{mapped_append, append_nil}

-- ---- what a field is read as, by its kind

document_is : (go : Fields → Read) (n : List ℕ) (v : Value) → by_name go (document_kind n) v ≡ document_field go n v
document_is go [] v = refl
document_is go (c ∷ cs) v = by (c == 115) (bytes_eq (c ∷ cs) d_name) (bytes_eq (c ∷ cs) u_name) (bytes_eq (c ∷ cs) i_name)
  where
    by : (s d u i : Bool) → by_name go (or_else (option_map (λ ks. Below (name ks)) (if s then Some cs else None)) (if d then Some Removes else (if u then Some (Puts false) else (if i then Some (Puts true) else None)))) v
        ≡ (if s then below_part (name cs) go v else (if d then fields_as unset_of v else (if u then fields_as (set_of false) v else (if i then fields_as (set_of true) v else None))))
    by true d u i = refl
    by false true u i = refl
    by false false true i = refl
    by false false false true = refl
    by false false false false = refl

indexed : (go : Fields → Read) (v : Value) (k : ℕ → DiffField) (o : Option ℕ) → by_name go (option_map k (low_index o)) v ≡ at_index o (λ n. by_kind go (k n) v)
indexed go v k None = refl
indexed go v k (Some n) = by (nat_lt n (2 ^ 32))
  where
    by : (t : Bool) → by_name go (option_map k (if t then Some n else None)) v ≡ (if t then by_kind go (k n) v else None)
    by true = refl
    by false = refl

array_is : (go : Fields → Read) (n : List ℕ) (v : Value) → by_name go (array_kind n) v ≡ array_field go n v
array_is go [] v = refl
array_is go (c ∷ cs) v = by (bytes_eq (c ∷ cs) a_name) (bytes_eq (c ∷ cs) l_name) (c == 117) (c == 115)
  where
    by : (a l u s : Bool) → by_name go (if a then Some Mark else (if l then Some Length else by_letter (λ i. At i) (if u then Some cs else None) (by_letter (λ i. Below (index i)) (if s then Some cs else None) None))) v
        ≡ (if a then Some [] else (if l then length_read (out-Value v) else (if u then at_index (index_of cs) (λ n. Some (([], Sets (index n) v false) ∷ [])) else (if s then at_index (index_of cs) (λ n. below_part (index n) go v) else None))))
    by true l u s = refl
    by false true u s = refl
    by false false true s = indexed go v (λ i. At i) (index_of cs)
    by false false false true = indexed go v (λ i. Below (index i)) (index_of cs)
    by false false false false = refl

all_same : {A : Type 0} (f g : A → Read) → ((x : A) → f x ≡ g x) → (xs : List A) → all_read f xs ≡ all_read g xs
all_same f g h [] = refl
all_same f g h (x ∷ xs) = λ k. then_also (h x k) (all_same f g h xs k)

-- one level
pub level_is : (n : ℕ) (fs : Fields) → diff_read (suc n) fs ≡ fields_read (has_a fs) n fs
level_is n fs = by (has_a fs)
  where
    by : (a : Bool) → (if a then all_read (λ f. array_field (diff_read n) f.0 f.1) fs else all_read (λ f. document_field (diff_read n) f.0 f.1) fs) ≡ fields_read a n fs
    by true = all_same _ _ (λ f. sym (array_is (diff_read n) f.0 f.1)) fs
    by false = all_same _ _ (λ f. sym (document_is (diff_read n) f.0 f.1)) fs

-- ---- behind a front

at_below : (front : List Part) (r : Part) (es : List Edit) → mapped (at_front (front ++ r ∷ [])) es ≡ mapped (at_front front) (mapped (under r) es)
at_below front r [] = refl
at_below front r (e ∷ es) = λ k. touch_by (append_assoc front (r ∷ []) e.0 k) e.1 ∷ at_below front r es k

behind_some : (front : List Part) (r : Part) (n : ℕ) (fs : Fields) → diff_at (front ++ r ∷ []) n fs ≡ diff_read n fs
behind_some [] r n fs = refl
behind_some (p ∷ ps) r n fs = refl

adds_below : (front : List Part) (r : Part) (o : Read) (old new : List Touch) → Adds (front ++ r ∷ []) o old new → Adds front (option_map (mapped (under r)) o) old new
adds_below front r None old new h = h
adds_below front r (Some es) old new h = h ∙ ap (λ (l : List Touch). old ++ l) (at_below front r es)

pub diff_below : (front : List Part) (r : Part) (n : ℕ) (fs : Fields) (old new : List Touch) → Adds (front ++ r ∷ []) (diff_at (front ++ r ∷ []) n fs) old new → Adds front (option_map (mapped (under r)) (diff_read n fs)) old new
diff_below front r n fs old new h = adds_below front r (diff_read n fs) old new (subst (λ (o : Read). Adds (front ++ r ∷ []) o old new) (behind_some front r n fs) h)

pub bad_below : (front : List Part) (r : Part) (n : ℕ) (fs : Fields) → diff_at (front ++ r ∷ []) n fs ≡ None → option_map (mapped (under r)) (diff_read n fs) ≡ None
bad_below front r n fs h = ap (option_map (mapped (under r))) (sym (behind_some front r n fs) ∙ h)

-- ---- field by field

module _ {A : Type 0} (f : A → Read) where
  more : (xs : List A) (x : A) → all_read f (xs ++ x ∷ []) ≡ then_also (all_read f xs) (f x)
  more [] x = by (f x)
    where
      by : (o : Read) → then_also o (Some []) ≡ option_map (λ es. [] ++ es) o
      by None = refl
      by (Some es) = ap Some (append_nil es)
  more (y ∷ xs) x = ap (then_also (f y)) (more xs x) ∙ by (f y) (all_read f xs) (f x)
    where
      by : (a b c : Read) → then_also a (then_also b c) ≡ then_also (then_also a b) c
      by None b c = refl
      by (Some es) None c = refl
      by (Some es) (Some ds) None = refl
      by (Some es) (Some ds) (Some bs) = ap Some (sym (append_assoc es ds bs))

  next : (xs : List A) (i : ℕ) (x : A) → i < length xs → x ≡ get_or xs i x → all_read f (take (i + 1) xs) ≡ then_also (all_read f (take i xs)) (f x)
  next xs i x lt e = ap (all_read f) (take_more xs i x lt ∙ ap (λ (y : A). take i xs ++ y ∷ []) (sym e)) ∙ more (take i xs) x

  both : (front : List Part) (a b : Read) (old now new : List Touch) → Adds front a old now → Adds front b now new → Adds front (then_also a b) old new
  both front None b old now new h k = h
  both front (Some es) None old now new h k = k
  both front (Some es) (Some ds) old now new h k = k ∙ (ap (λ (l : List Touch). l ++ mapped (at_front front) ds) h ∙ (append_assoc old (mapped (at_front front) es) (mapped (at_front front) ds) ∙ ap (λ (l : List Touch). old ++ l) (sym (mapped_append (at_front front) es ds))))

  -- one field more
  pub adds_more : (front : List Part) (xs : List A) (i : ℕ) (x : A) (old now new : List Touch) → i < length xs → x ≡ get_or xs i x → Adds front (all_read f (take i xs)) old now → Adds front (f x) now new → Adds front (all_read f (take (i + 1) xs)) old new
  adds_more front xs i x old now new lt e h k = subst (λ (o : Read). Adds front o old new) (sym (next xs i x lt e)) (both front (all_read f (take i xs)) (f x) old now new h k)

  -- none where one field is none
  pub bad_one : (xs : List A) (i : ℕ) (x : A) → i < length xs → x ≡ get_or xs i x → f x ≡ None → all_read f xs ≡ None
  bad_one [] i x lt e h = absurd (omega arith)
  bad_one (y ∷ xs) zero x lt e h = ap (λ (o : Read). then_also o (all_read f xs)) (ap f (sym e) ∙ h)
  bad_one (y ∷ xs) (suc i) x lt e h = ap (then_also (f y)) (bad_one xs i x (omega arith) e h) ∙ by (f y)
    where
      by : (o : Read) → then_also o None ≡ None
      by None = refl
      by (Some es) = refl

-- ---- a whole diff

-- nothing stands before a document's diff alone
abbrev pub FitsFront : List Part → Bool → Type 0
FitsFront [] a = a ≡ false
FitsFront (p ∷ ps) a = Unit {0}

pub fits_document : (front : List Part) (a : Bool) → a ≡ false → FitsFront front a
fits_document [] a e = e
fits_document (p ∷ ps) a e = tt

pub fits_behind : (front : List Part) (a b : Bool) → b ≡ (length front == 0) → b ≡ false → FitsFront front a
fits_behind [] a b e f = absurd (unlike (sym e ∙ f))
  where
    unlike : true ≡ false → ⊥
    unlike h = cc
fits_behind (p ∷ ps) a b e f = tt

one_less : (n : ℕ) (fs : Fields) (a : Bool) → a ≡ has_a fs → diff_read (suc n) fs ≡ fields_read a (suc n - 1) fs
one_less n fs a e = let m : n ≡ suc n - 1 = omega arith in level_is n fs ∙ (λ k. fields_read (sym e k) (m k) fs)

pub diff_is : (front : List Part) (levels : ℕ) (fs : Fields) (a : Bool) → a ≡ has_a fs → (levels ≡ 0 → ⊥) → FitsFront front a → diff_at front levels fs ≡ fields_read a (levels - 1) fs
diff_is front zero fs a e l fit = absurd (l refl)
diff_is [] (suc n) fs a e l fit = ap (λ (b : Bool). if b then None else diff_read (suc n) fs) (sym e ∙ fit) ∙ one_less n fs a e
diff_is (p ∷ ps) (suc n) fs a e l fit = one_less n fs a e

pub marked : (o : Option (Bor Value)) (a : Bool) (fs : Fields) → a ≡ is_some o → option_copied o ≡ lookup a_name fs → a ≡ has_a fs
marked o a fs e f = e ∙ (copied o ∙ ap is_some f)
  where
    copied : (o : Option (Bor Value)) → is_some o ≡ is_some (option_copied o)
    copied None = refl
    copied (Some x) = refl

pub bad_so : (e : DeltaFault) (r s : Read) → (r ≡ None → s ≡ None) → IsBad e r → IsBad e s
bad_so DeltaFaults.NoMemory r s f h = tt
bad_so DeltaFaults.Bad r s f h = f h

pub on_ok : {T E : Type 0} (r : Result T E) (P Q : Type 0) → (P → Q) → OnOk r P → OnOk r Q
on_ok (Ok x) P Q f h = f h
on_ok (Err e) P Q f h = h

pub if_err : {T E : Type 0} (r : Result T E) (P Q : E → Type 0) → IsErrAnd r P → ((e : E) → P e → Q e) → IfErr r Q
if_err (Ok x) P Q h f = absurd h
if_err (Err e) P Q h f = f e h

pub below_kind : (front : List Part) (r : Part) (n : ℕ) (fs : Fields) (kind : DiffField) (v : Value) (old new : List Touch) → kind ≡ Below r → v ≡ Object fs →
    Adds front (option_map (mapped (under r)) (diff_read n fs)) old new → Adds front (by_kind (diff_read n) kind v) old new
below_kind front r n fs kind v old new k e h =
    subst (λ (o : Read). Adds front o old new)
    (sym ((λ i. by_kind (diff_read n) (k i) (e i)) ∙ ap (λ (x : Value-F Value). option_map (mapped (under r)) (object_in (diff_read n) x)) (outs-Object fs))) h

pub if_bad : {T : Type 0} (r : Result T DeltaFault) (o s : Read) → o ≡ s → IfErr r (λ e. IsBad e s) → IfErr r (λ e. IsBad e o)
if_bad {T} r o s e h = subst (λ (x : Read). IfErr r (λ f. IsBad f x)) (sym e) h
