-- Changes are their writes.
use Rattle.std.proofs.Common.{arith, ◌≤◌, ◌+◌, ◌≡◌, [], ◌∷◌, refl, ap, ◌∙◌, Option, Some, None}
use Rattle.std.specs.Prelude.{map as each}
use Rattle.bson_value.specs.declared.namespace.NsName.{NsName}
use Rattle.bson_encode.specs.Key.{key_of}
use Rattle.state_model.specs.Keys.{Key}
use Rattle.coll_state.specs.declared.change.Change.{Change}
use Rattle.coll_state.specs.ChangeAll.{changed_by, change_one}
use Rattle.coll_state.specs.Rows.{Document, Rows}
use Rattle.copy_model.specs.Writes.{change_rows}
use Rattle.history_model.specs.Stages.{rows_all}
use Rattle.transactions.specs.Transactions.{write_by, write_of, ChangesAreWrites, ChangesAreCounted}

one_is : (n : NsName) (k : Key) (o : Option Document) (r : Rows) → changed_by n k o r ≡ change_rows (write_by n k o) r
one_is n k None r = refl
one_is n k (Some d) r = refl

pub change_is : (c : Change) (r : Rows) → change_one c r ≡ change_rows (write_of c) r
change_is c r = one_is c.ns (key_of c.id) c.doc r

pub are_writes : ChangesAreWrites
are_writes [] r = refl
are_writes (c ∷ cs) r = are_writes cs (change_one c r) ∙ ap (rows_all (each write_of cs)) (change_is c r)

count_one : (n : NsName) (k : Key) (o : Option Document) (r : Rows) → (changed_by n k o r).count ≤ r.count + 1
count_one n k None r = omega arith
count_one n k (Some d) r = omega arith

pub are_counted : ChangesAreCounted
are_counted [] r = omega arith
are_counted (c ∷ cs) r = (let a = are_counted cs (change_one c r) in let b = count_one c.ns (key_of c.id) c.doc r in omega (arith, a, b))
