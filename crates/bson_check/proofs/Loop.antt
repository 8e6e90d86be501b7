-- Reading elements one after the other, as a loop does.
use Rattle.std.proofs.Common.{◌≡◌, ℕ, zero, suc, ◌≤◌, List, [], ◌∷◌, ◌++◌, length, Result, Ok, Err, refl, sym, ap, arith}
use Rattle.bson_check.specs.declared.fault.BsonFault.{BsonFault}
use Rattle.bson_check.specs.declared.fault.DecodeFault.{DecodeFault}
use Rattle.bson_check.specs.declared.fault.DecodeFault.TheVariants as errors
use Rattle.bson_value.specs.declared.value.Value.{Value}
use Rattle.bson_check.specs.Reading.{◌>>=◌, Fails, Reader, field_at, item_at, fields_at, items_at}

-- reading on from here gives the total, in some number of turns
pub record FieldsLeft (read : Reader) (end : ℕ) (done : List (List ℕ × Value)) (rest : List ℕ) (total : Result (List (List ℕ × Value)) BsonFault) : Type 0 where
  pub turns : ℕ
  pub enough : length rest ≤ turns
  pub same : fields_at read turns end done rest ≡ total

module _ (read : Reader) (end : ℕ) (done : List (List ℕ × Value)) (total : Result (List (List ℕ × Value)) BsonFault) where
  field_next : (tag : ℕ) (bytes : List ℕ) (turns : ℕ) → length (tag ∷ bytes) ≤ turns → fields_at read turns end done (tag ∷ bytes) ≡ total
      → (r : Result ((List ℕ × Value) × List ℕ) BsonFault) → field_at read end done tag bytes ≡ r
      → (m : ℕ) × (turns ≡ suc m) × ((r >>= λ x. fields_at read m end (done ++ x.0 ∷ []) x.1) ≡ total)
  unfolding fields_at
  field_next tag bytes zero le same r e = absurd (omega arith)
  field_next tag bytes (suc m) le same r e = (m, refl, rw e at same)

  pub field_goes_on : (tag : ℕ) (bytes rest : List ℕ) (f : List ℕ × Value) (after : List ℕ) → rest ≡ tag ∷ bytes → field_at read end done tag bytes ≡ Ok (f, after) → length after ≤ length bytes
      → FieldsLeft read end done rest total → FieldsLeft read end (done ++ f ∷ []) after total
  field_goes_on tag bytes rest f after is e le left =
      let n = field_next tag bytes left.turns (rw is at left.enough) (rw is at left.same) (Ok (f, after)) e in
      record { turns = n.0; enough = omega (arith, n.1, left.enough, ap length is); same = n.2 }

  pub field_ends : (tag : ℕ) (bytes rest : List ℕ) (e : DecodeFault) → rest ≡ tag ∷ bytes → Fails e (field_at read end done tag bytes) → FieldsLeft read end done rest total → Fails e total
  field_ends tag bytes rest errors.NoMemory is h left = tt
  field_ends tag bytes rest (errors.Bad f) is h left =
      let n = field_next tag bytes left.turns (rw is at left.enough) (rw is at left.same) (Err f) h in
      sym n.2

  pub fields_done : (rest : List ℕ) → rest ≡ [] → FieldsLeft read end done rest total → total ≡ Ok done
  unfolding fields_at
  fields_done rest is left = sym (rw is at left.same)

-- reading on from here gives the total, in some number of turns
pub record ItemsLeft (read : Reader) (end : ℕ) (done : List Value) (rest : List ℕ) (total : Result (List Value) BsonFault) : Type 0 where
  pub turns : ℕ
  pub enough : length rest ≤ turns
  pub same : items_at read turns end done rest ≡ total

module _ (read : Reader) (end : ℕ) (done : List Value) (total : Result (List Value) BsonFault) where
  item_next : (tag : ℕ) (bytes : List ℕ) (turns : ℕ) → length (tag ∷ bytes) ≤ turns → items_at read turns end done (tag ∷ bytes) ≡ total
      → (r : Result (Value × List ℕ) BsonFault) → item_at read end tag bytes ≡ r
      → (m : ℕ) × (turns ≡ suc m) × ((r >>= λ x. items_at read m end (done ++ x.0 ∷ []) x.1) ≡ total)
  unfolding items_at
  item_next tag bytes zero le same r e = absurd (omega arith)
  item_next tag bytes (suc m) le same r e = (m, refl, rw e at same)

  pub item_goes_on : (tag : ℕ) (bytes rest : List ℕ) (f : Value) (after : List ℕ) → rest ≡ tag ∷ bytes → item_at read end tag bytes ≡ Ok (f, after) → length after ≤ length bytes
      → ItemsLeft read end done rest total → ItemsLeft read end (done ++ f ∷ []) after total
  item_goes_on tag bytes rest f after is e le left =
      let n = item_next tag bytes left.turns (rw is at left.enough) (rw is at left.same) (Ok (f, after)) e in
      record { turns = n.0; enough = omega (arith, n.1, left.enough, ap length is); same = n.2 }

  pub item_ends : (tag : ℕ) (bytes rest : List ℕ) (e : DecodeFault) → rest ≡ tag ∷ bytes → Fails e (item_at read end tag bytes) → ItemsLeft read end done rest total → Fails e total
  item_ends tag bytes rest errors.NoMemory is h left = tt
  item_ends tag bytes rest (errors.Bad f) is h left =
      let n = item_next tag bytes left.turns (rw is at left.enough) (rw is at left.same) (Err f) h in
      sym n.2

  pub items_done : (rest : List ℕ) → rest ≡ [] → ItemsLeft read end done rest total → total ≡ Ok done
  unfolding items_at
  items_done rest is left = sym (rw is at left.same)
