-- The entry that changes one document, by its parts.
use Rattle.std.proofs.Common.{◌≡◌, ℕ, suc, List, Bool, true, false, refl, sym, ap, subst, ◌∙◌}
use Rattle.std.specs.Prelude.{codes, ◌++◌, option_map, ◌||◌, if◌then◌else◌, Option, Some, None, Result, Ok, Err, IfOk}
use Rattle.std.specs.Str.{bytes_eq}
use Rattle.std.specs.Result.{result_ok}
use Rattle.std.proofs.lemmas.Slice.Eq.{bytes_eq-Decides}
use Rattle.containers.specs.Entries.{lookup}
use Rattle.bson_value.specs.declared.value.Value.{Value, Value-F, out-Value}
use Rattle.bson_value.specs.declared.value.Ts.{Ts}
use Rattle.bson_value.specs.declared.namespace.NsName.{NsName}
use Rattle.doc_path.specs.Played.{id_name}
use Rattle.doc_path.specs.declared.parts.Form.{Form}
use Rattle.doc_path.specs.declared.touches.Touch.{Touch}
use Rattle.entry_model.specs.declared.entry.Entry.{Entry}
use Rattle.entry_model.specs.declared.entry.Action.{Action}
use Rattle.entry_model.specs.declared.entry.Action.TheVariants.{Put, Remove, Whole, Delta}
use Rattle.entry_model.specs.Written.{Fields}
use Rattle.entry_model.specs.Reading.{Read, ◌>>=◌, there, good, field, text_in, document_in, stamp_in, id_of, is_whole, namespace_of, Done, operation, is_nothing, namespace, done_at, group_of, head_of, entry_of}
use Rattle.entry_model.specs.Touches.{touches_read}
use Rattle.entry_model.specs.Spelling.{level_limit}
use Rattle.entry_reader.specs.Changes.{changes_one, is_change, change_of}
use Rattle.entry_reader.specs.Parts.{kind_at, text_at, stamp_at, document_at, id_at, put_of, remove_of, whole_of, delta_by, update_by, update_of, action_of, entry_by, head_by, change_at}

-- ---- a field of a kind

pub kind_read : {A : Type 0} (kind : Value-F Value → Option A) (n : List ℕ) (fs : Fields) → kind_at kind (lookup n fs) ≡ result_ok (field kind n fs)
kind_read {A} kind n fs = by (lookup n fs)
  where
    good_back : (x : Option A) → x ≡ result_ok (good n x)
    good_back None = refl
    good_back (Some a) = refl

    by : (o : Option Value) → kind_at kind o ≡ result_ok (there n o >>= λ v. good n (kind (out-Value v)))
    by None = refl
    by (Some v) = good_back (kind (out-Value v))

-- ---- the head

pub head_read : (fs : Fields) → head_by (stamp_at (lookup (codes "ts") fs)) (text_at (lookup (codes "ns") fs)) ≡ result_ok (head_of fs)
head_read fs = (λ k. head_by (kind_read stamp_in (codes "ts") fs k) (kind_read text_in (codes "ns") fs k)) ∙ by (field stamp_in (codes "ts") fs) (field text_in (codes "ns") fs)
  where
    by : (a : Read Ts) (b : Read (List ℕ)) → head_by (result_ok a) (result_ok b) ≡ result_ok (a >>= λ ts. b >>= λ text. Ok (ts, text))
    by (Err e) b = refl
    by (Ok ts) (Err e) = refl
    by (Ok ts) (Ok text) = refl

-- ---- what each operation does

-- the entry of what is done
abbrev made : Ts → Option NsName → (NsName → Read Done) → Option Entry
made ts n f = result_ok (good (codes "ns") n >>= λ ns. f ns >>= λ d. Ok (done_at ts d))

put_made : (ts : Ts) (n : Option NsName) (x : Read Fields) → entry_by ts n (put_of (result_ok x)) ≡ made ts n (λ ns. x >>= λ o. id_of (codes "o") o >>= λ id. Ok (ns, Put o))
put_made ts None x = refl
put_made ts (Some n) (Err e) = refl
put_made ts (Some n) (Ok o) = by (lookup id_name o)
  where
    by : (i : Option Value) → entry_by ts (Some n) (option_map (λ id. Put o) i) ≡ made ts (Some n) (λ ns. there (codes "o" ++ codes "._id") i >>= λ id. Ok (ns, Put o))
    by None = refl
    by (Some id) = refl

remove_made : (ts : Ts) (n : Option NsName) (x : Read Fields) → entry_by ts n (remove_of (result_ok x)) ≡ made ts n (λ ns. x >>= λ o. id_of (codes "o") o >>= λ id. Ok (ns, Remove id))
remove_made ts None x = refl
remove_made ts (Some n) (Err e) = refl
remove_made ts (Some n) (Ok o) = by (lookup id_name o)
  where
    by : (i : Option Value) → entry_by ts (Some n) (option_map (λ id. Remove id) i) ≡ made ts (Some n) (λ ns. there (codes "o" ++ codes "._id") i >>= λ id. Ok (ns, Remove id))
    by None = refl
    by (Some id) = refl

-- by whether o is the whole document, the touches in it, and the `_id`
abbrev updates : Bool → Read (Form × List Touch) → Fields → Read (Value → Action)
updates w t o = if w then Ok (λ id. Whole id o) else (t >>= λ r. Ok (λ id. Delta id r.0 r.1))

abbrev updated_by : Bool → Read (Form × List Touch) → Fields → Option Value → Option Action
updated_by w t o None = None
updated_by w t o (Some id) = if w then whole_of id (Some o) else delta_by id t

as_updated : (o : Fields) (i : Option Value) → update_by (Some o) i ≡ updated_by (is_whole o) (touches_read (suc level_limit) o) o i
as_updated o None = refl
as_updated o (Some id) = refl

update_made : (ts : Ts) (n : Option NsName) (x y : Read Fields) →
    entry_by ts n (update_of (result_ok x) (result_ok y)) ≡ made ts n (λ ns. x >>= λ o. updates (is_whole o) (touches_read (suc level_limit) o) o >>= λ f. y >>= λ o2. id_of (codes "o2") o2 >>= λ id. Ok (ns, f id))
update_made ts None x y = refl
update_made ts (Some n) (Err e) y = refl
update_made ts (Some n) (Ok o) y = ap (entry_by ts (Some n)) (as_updated o (id_at (result_ok y))) ∙ by (is_whole o) (touches_read (suc level_limit) o) y
  where
    with_id : (w : Bool) (t : Read (Form × List Touch)) (i : Option Value) →
        entry_by ts (Some n) (updated_by w t o i) ≡ made ts (Some n) (λ ns. updates w t o >>= λ f. there (codes "o2" ++ codes "._id") i >>= λ id. Ok (ns, f id))
    with_id true t None = refl
    with_id true t (Some id) = refl
    with_id false (Ok r) None = refl
    with_id false (Ok r) (Some id) = refl
    with_id false (Err e) None = refl
    with_id false (Err e) (Some id) = refl

    by : (w : Bool) (t : Read (Form × List Touch)) (z : Read Fields) →
        entry_by ts (Some n) (updated_by w t o (id_at (result_ok z))) ≡ made ts (Some n) (λ ns. updates w t o >>= λ f. z >>= λ o2. id_of (codes "o2") o2 >>= λ id. Ok (ns, f id))
    by true t (Err e) = refl
    by false (Ok r) (Err e) = refl
    by false (Err e) (Err f) = refl
    by w t (Ok o2) = with_id w t (lookup id_name o2)

-- ---- by the operation

module _ (ts : Ts) (text : List ℕ) (fs : Fields) where
  abbrev o_read : Read Fields
  o_read = field document_in (codes "o") fs

  abbrev o2_read : Read Fields
  o2_read = field document_in (codes "o2") fs

  abbrev whole_read : List ℕ → Read Entry
  whole_read op = namespace (is_nothing (Ok op)) text >>= λ ns. operation (group_of ts) op ns fs >>= λ done. Ok (done_at ts done)

  abbrev Same : List ℕ → Type 0
  Same op = entry_by ts (namespace_of text) (action_of op (result_ok o_read) (result_ok o2_read)) ≡ (if changes_one op then result_ok (whole_read op) else None)

  no_action : (n : Option NsName) → entry_by ts n None ≡ None
  no_action None = refl
  no_action (Some n) = refl

  same : (op : List ℕ) → Same op
  same op = by (bytes_eq op (codes "i")) (bytes_eq op (codes "d")) (bytes_eq op (codes "u")) refl refl refl
    where
      is : (name : List ℕ) → bytes_eq op name ≡ true → op ≡ name
      is name e = (bytes_eq-Decides op name).0 e

      by : (i d u : Bool) → bytes_eq op (codes "i") ≡ i → bytes_eq op (codes "d") ≡ d → bytes_eq op (codes "u") ≡ u → Same op
      by true d u e f g = subst Same (sym (is (codes "i") e)) (put_made ts (namespace_of text) o_read)
      by false true u e f g = subst Same (sym (is (codes "d") f)) (remove_made ts (namespace_of text) o_read)
      by false false true e f g = subst Same (sym (is (codes "u") g)) (update_made ts (namespace_of text) o_read o2_read)
      by false false false e f g =
          (λ k. entry_by ts (namespace_of text) (if e k then put_of (result_ok o_read) else (if f k then remove_of (result_ok o_read) else (if g k then update_of (result_ok o_read) (result_ok o2_read) else None))))
          ∙ (no_action (namespace_of text) ∙ (λ k. if (sym e k || (sym f k || sym g k)) then result_ok (whole_read op) else None))

-- ---- the entry

nothing : (b : Bool) (o : Option Entry) → o ≡ (if b then o else o)
nothing true o = refl
nothing false o = refl

pub change_read : (fs : Fields) → change_at (result_ok (head_of fs)) (text_at (lookup (codes "op") fs)) (document_at (lookup (codes "o") fs)) (document_at (lookup (codes "o2") fs)) ≡ change_of fs
unfolding change_of
change_read fs =
    (λ k. change_at (result_ok (head_of fs)) (kind_read text_in (codes "op") fs k) (kind_read document_in (codes "o") fs k) (kind_read document_in (codes "o2") fs k))
    ∙ by (field stamp_in (codes "ts") fs) (field text_in (codes "ns") fs) (field text_in (codes "op") fs)
  where
    by : (a : Read Ts) (b c : Read (List ℕ)) →
        change_at (result_ok (a >>= λ ts. b >>= λ text. Ok (ts, text))) (result_ok c) (result_ok (field document_in (codes "o") fs)) (result_ok (field document_in (codes "o2") fs))
        ≡ (if is_change c then result_ok (a >>= λ ts. b >>= λ text. namespace (is_nothing c) text >>= λ ns. c >>= λ op. operation (group_of ts) op ns fs >>= λ done. Ok (done_at ts done)) else None)
    by (Err e) b c = nothing (is_change c) None
    by (Ok ts) (Err e) c = nothing (is_change c) None
    by (Ok ts) (Ok text) (Err e) = refl
    by (Ok ts) (Ok text) (Ok op) = same ts text fs op

pub some_ok : {A E : Type 0} (r : Result A E) (a : A) → result_ok r ≡ Some a → r ≡ Ok a
some_ok (Ok b) a h = let e : b ≡ a = cc in ap Ok e
some_ok (Err e) a h = absurd cc

-- what is a change is that entry
pub change_is : (fs : Fields) (e : Entry) → change_of fs ≡ Some e → entry_of fs ≡ Ok e
unfolding change_of
change_is fs e h = by (is_change (field text_in (codes "op") fs)) h
  where
    by : (b : Bool) → (if b then result_ok (entry_of fs) else None) ≡ Some e → entry_of fs ≡ Ok e
    by true g = some_ok (entry_of fs) e g
    by false g = absurd cc

pub weaken : {A E : Type 0} (r : Result A E) (x y : A) → x ≡ y → IfOk r (λ z. z ≡ x) → IfOk r (λ z. z ≡ y)
weaken (Ok z) x y e h = h ∙ e
weaken (Err z) x y e h = tt
