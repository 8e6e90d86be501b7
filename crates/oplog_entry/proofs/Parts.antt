-- The parts of commands and of operations.
use Rattle.std.proofs.Common.{◌≡◌, ℕ, List, [], ◌∷◌, length, get_or, Bool, true, false, refl, sym, ap, ◌∙◌, subst}
use Rattle.std.specs.Prelude.{codes, ◌||◌, if◌then◌else◌, nat_lt, Ok, Err}
use Rattle.std.specs.Str.{bytes_eq}
use Rattle.std.proofs.lemmas.Slice.Eq.{bytes_eq-Decides}
use Rattle.containers.specs.Entries.{lookup}
use Rattle.bson_value.specs.declared.value.Value.{Value, out-Value}
use Rattle.bson_value.specs.declared.value.Ts.{Ts}
use Rattle.bson_value.specs.declared.namespace.NsName.{NsName}
use Rattle.entry_model.specs.declared.entry.Action.TheVariants.{Nothing, DropDb, Group}
use Rattle.entry_model.specs.declared.fault.EntryFault.TheVariants.{UnknownOp}
use Rattle.entry_model.specs.Written.{Fields}
use Rattle.entry_model.specs.Reading.{Read, ◌>>=◌, field, array_in, document_in, Done, command, operation, no_group, other, is_true, is_partial, items, good, named, group_of, nothing_read, insert_read, delete_read, updated_read, create_read, drop_read, create_indexes_read, commit_read, drop_index_read, rename_read}
use Rattle.oplog_entry.specs.Answers.{Gives}
use Rattle.oplog_entry.specs.Parts.{Begins, further, is_group}
use Rattle.oplog_entry.proofs.Binds.{gives_next}

abbrev Groups : Type 0
Groups = List ℕ → Value → Fields → Read Done

-- ---- behind the first field

pub items_further : (v : Value) (o : Fields) → Begins (codes "commitIndexBuild") v o → field array_in (codes "indexes") o ≡ field array_in (codes "indexes") (further o)
items_further v [] h = absurd h
items_further v (f ∷ fs) h = ap (λ (g : List ℕ × Value). field array_in (codes "indexes") (g ∷ fs)) h

partial_further : (v : Value) (o : Fields) → Begins (codes "applyOps") v o → is_partial o ≡ is_partial (further o)
partial_further v [] h = absurd h
partial_further v (f ∷ fs) h = ap (λ (g : List ℕ × Value). is_partial (g ∷ fs)) h

-- ---- groups

pub group_partial : (ts : Ts) (db : List ℕ) (v : Value) (o : Fields) → Begins (codes "applyOps") v o → is_partial o ≡ true → group_of ts db v (further o) ≡ Ok (other db (codes "applyOps") v)
group_partial ts db v o h e = ap (λ (b : Bool). if b then Ok (other db (codes "applyOps") v) else whole) (sym (partial_further v o h) ∙ e)
  where
    whole : Read Done
    whole = good (codes "applyOps") (array_in (out-Value v)) >>= λ vs. (items ts vs >>= λ es. Ok (named db [], Group es))

pub left_partial : (o : Fields) (b : Bool) → b ≡ is_true (lookup (codes "prepare") o) → b ≡ true → is_partial o ≡ true
left_partial o b e t = ap (λ (a : Bool). a || is_true (lookup (codes "partialTxn") o)) (sym e ∙ t)

pub right_partial : (o : Fields) (b : Bool) → b ≡ is_true (lookup (codes "partialTxn") o) → b ≡ true → is_partial o ≡ true
right_partial o b e t = ap (λ (a : Bool). is_true (lookup (codes "prepare") o) || a) (sym e ∙ t) ∙ by (is_true (lookup (codes "prepare") o))
  where
    by : (a : Bool) → (a || true) ≡ true
    by true = refl
    by false = refl

pub group_command : (g : Groups) (db : List ℕ) (v : Value) (o : Fields) → Begins (codes "applyOps") v o → command g db o ≡ g db v (further o)
group_command g db v [] h = absurd h
group_command g db v (f ∷ fs) h = ap (λ (e : List ℕ × Value). command g db (e ∷ fs)) h

pub plain_command : (g : Groups) (db : List ℕ) (o : Fields) → is_group o ≡ false → command g db o ≡ command no_group db o
plain_command g db [] h = refl
plain_command g db ((name, v) ∷ fs) h =
    by (bytes_eq name (codes "create")) (bytes_eq name (codes "drop")) (bytes_eq name (codes "dropDatabase")) (bytes_eq name (codes "createIndexes")) (bytes_eq name (codes "commitIndexBuild"))
    (bytes_eq name (codes "startIndexBuild") || bytes_eq name (codes "abortIndexBuild")) (bytes_eq name (codes "dropIndexes")) (bytes_eq name (codes "renameCollection")) (bytes_eq name (codes "applyOps")) h
  where
    by : (c d e i j n x r a : Bool) → a ≡ false →
        (if c then create_read db v fs else (if d then drop_read db v else (if e then Ok (named db [], DropDb) else (if i then create_indexes_read db v fs else (if j then commit_read db v fs else (if n then Ok (named db [], Nothing) else (if x then drop_index_read db v fs else (if r then rename_read v fs else (if a then g db v fs else Ok (other db name v))))))))))
        ≡ (if c then create_read db v fs else (if d then drop_read db v else (if e then Ok (named db [], DropDb) else (if i then create_indexes_read db v fs else (if j then commit_read db v fs else (if n then Ok (named db [], Nothing) else (if x then drop_index_read db v fs else (if r then rename_read v fs else (if a then no_group db v fs else Ok (other db name v))))))))))
    by true d e i j n x r a z = refl
    by false true e i j n x r a z = refl
    by false false true i j n x r a z = refl
    by false false false true j n x r a z = refl
    by false false false false true n x r a z = refl
    by false false false false false true x r a z = refl
    by false false false false false false true r a z = refl
    by false false false false false false false true a z = refl
    by false false false false false false false false true z = cc
    by false false false false false false false false false z = refl

-- ---- operations

pub plain_operation : (g : Groups) (op : List ℕ) (ns : NsName) (fs : Fields) → bytes_eq op (codes "c") ≡ false → operation g op ns fs ≡ operation no_group op ns fs
plain_operation g op ns fs h = by (bytes_eq op (codes "n")) (bytes_eq op (codes "i")) (bytes_eq op (codes "d")) (bytes_eq op (codes "u")) (bytes_eq op (codes "c")) h
  where
    by : (n i d u c : Bool) → c ≡ false →
        (if n then nothing_read ns fs else (if i then insert_read ns fs else (if d then delete_read ns fs else (if u then updated_read ns fs else (if c then (field document_in (codes "o") fs >>= λ o. command g ns.db o) else Err (UnknownOp op))))))
        ≡ (if n then nothing_read ns fs else (if i then insert_read ns fs else (if d then delete_read ns fs else (if u then updated_read ns fs else (if c then (field document_in (codes "o") fs >>= λ o. command no_group ns.db o) else Err (UnknownOp op))))))
    by true i d u c z = refl
    by false true d u c z = refl
    by false false true u c z = refl
    by false false false true c z = refl
    by false false false false true z = cc
    by false false false false false z = refl

pub command_operation : (g : Groups) (op : List ℕ) (ns : NsName) (fs o : Fields) (x : Read Done) → bytes_eq op (codes "c") ≡ true → field document_in (codes "o") fs ≡ Ok o → Gives x (command g ns.db o) → Gives x (operation g op ns fs)
command_operation g op ns fs o x e f h =
    subst (λ (n : List ℕ). Gives x (operation g n ns fs)) (sym ((bytes_eq-Decides op (codes "c")).0 e))
    (gives_next (λ d. command g ns.db d) x (field document_in (codes "o") fs) o f h)

-- ---- the first field, and a name that isn't known

pub first_field : (o : Fields) (f : List ℕ × Value) → true ≡ nat_lt 0 (length o) → f ≡ get_or o 0 f → o ≡ f ∷ further o
first_field [] f lt e = cc
first_field (g ∷ o) f lt e = ap (λ (x : List ℕ × Value). x ∷ o) (sym e)

pub unlike : (m n : List ℕ) → (m ≡ n → ⊥) → bytes_eq m n ≡ false
unlike m n h = by (bytes_eq m n) refl
  where
    by : (b : Bool) → bytes_eq m n ≡ b → b ≡ false
    by true e = absurd (h ((bytes_eq-Decides m n).0 e))
    by false e = refl

-- by the names of commands, in their order
pub record IsUnknown (name : List ℕ) : Type 0 where
  pub create : bytes_eq name (codes "create") ≡ false
  pub drop : bytes_eq name (codes "drop") ≡ false
  pub drop_database : bytes_eq name (codes "dropDatabase") ≡ false
  pub create_indexes : bytes_eq name (codes "createIndexes") ≡ false
  pub commit : bytes_eq name (codes "commitIndexBuild") ≡ false
  pub start : bytes_eq name (codes "startIndexBuild") ≡ false
  pub abort : bytes_eq name (codes "abortIndexBuild") ≡ false
  pub drop_indexes : bytes_eq name (codes "dropIndexes") ≡ false
  pub rename : bytes_eq name (codes "renameCollection") ≡ false

pub unknown_command : (db name : List ℕ) (v : Value) (fs : Fields) → IsUnknown name → command no_group db ((name, v) ∷ fs) ≡ Ok (other db name v)
unknown_command db name v fs u =
    by (bytes_eq name (codes "create")) (bytes_eq name (codes "drop")) (bytes_eq name (codes "dropDatabase")) (bytes_eq name (codes "createIndexes")) (bytes_eq name (codes "commitIndexBuild"))
    (bytes_eq name (codes "startIndexBuild")) (bytes_eq name (codes "abortIndexBuild")) (bytes_eq name (codes "dropIndexes")) (bytes_eq name (codes "renameCollection")) (bytes_eq name (codes "applyOps"))
    u.create u.drop u.drop_database u.create_indexes u.commit u.start u.abort u.drop_indexes u.rename ((bytes_eq-Decides name (codes "applyOps")).0)
  where
    by : (c d e i j m n x r a : Bool) → c ≡ false → d ≡ false → e ≡ false → i ≡ false → j ≡ false → m ≡ false → n ≡ false → x ≡ false → r ≡ false → (a ≡ true → name ≡ codes "applyOps") →
        (if c then create_read db v fs else (if d then drop_read db v else (if e then Ok (named db [], DropDb) else (if i then create_indexes_read db v fs else (if j then commit_read db v fs else (if (m || n) then Ok (named db [], Nothing) else (if x then drop_index_read db v fs else (if r then rename_read v fs else (if a then no_group db v fs else Ok (other db name v))))))))))
        ≡ Ok (other db name v)
    by true d e i j m n x r a p1 p2 p3 p4 p5 p6 p7 p8 p9 q = cc
    by false true e i j m n x r a p1 p2 p3 p4 p5 p6 p7 p8 p9 q = cc
    by false false true i j m n x r a p1 p2 p3 p4 p5 p6 p7 p8 p9 q = cc
    by false false false true j m n x r a p1 p2 p3 p4 p5 p6 p7 p8 p9 q = cc
    by false false false false true m n x r a p1 p2 p3 p4 p5 p6 p7 p8 p9 q = cc
    by false false false false false true n x r a p1 p2 p3 p4 p5 p6 p7 p8 p9 q = cc
    by false false false false false false true x r a p1 p2 p3 p4 p5 p6 p7 p8 p9 q = cc
    by false false false false false false false true r a p1 p2 p3 p4 p5 p6 p7 p8 p9 q = cc
    by false false false false false false false false true a p1 p2 p3 p4 p5 p6 p7 p8 p9 q = cc
    by false false false false false false false false false true p1 p2 p3 p4 p5 p6 p7 p8 p9 q = ap (λ (n : List ℕ). Ok (other db n v)) (sym (q refl))
    by false false false false false false false false false false p1 p2 p3 p4 p5 p6 p7 p8 p9 q = refl
