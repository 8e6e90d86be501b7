-- Reading one thing after the other, as a loop does.
use Rattle.std.proofs.Common.{◌≡◌, ◌≢◌, ℕ, zero, suc, ◌-◌, ◌<◌, Bool, true, false, List, [], ◌++◌, length, Some, None, Ok, Err, refl, sym, ap, subst, arith}
use Rattle.std.specs.Prelude.{if◌then◌else◌}
use Rattle.json_text.specs.declared.fault.JsonFault.{JsonFault}
use Rattle.json_text.specs.declared.fault.JsonFault.TheVariants as errors
use Rattle.json_text.specs.Reading.{◌>>=◌, Fails, Taken, steps_at, closing, or_steps, list_at, place, array_at, object_at, item_at, member_at, value_at, after_space}

-- reading on from here gives the total, in some number of turns
pub record Left {A : Type 0} (step : List A → List ℕ → Taken (List A × Bool)) (end : ℕ) (done : List A) (rest : List ℕ) (total : Taken (List A)) : Type 0 where
  pub turns : ℕ
  pub enough : length rest < turns
  pub same : steps_at step turns end done rest ≡ total

module _ {A : Type 0} (step : List A → List ℕ → Taken (List A × Bool)) (end : ℕ) (done : List A) (rest : List ℕ) (total : Taken (List A)) where
  -- the rest of the steps, behind one that said this
  abbrev on : ℕ → (List A × Bool) × List ℕ → Taken (List A)
  on m x = if x.0.1 then steps_at step m end (done ++ x.0.0) x.1 else Ok (done ++ x.0.0, x.1)

  next : (turns : ℕ) → length rest < turns → steps_at step turns end done rest ≡ total
      → (r : Taken (List A × Bool)) → step done rest ≡ r
      → (m : ℕ) × (turns ≡ suc m) × ((r >>= on m) ≡ total)
  unfolding steps_at
  next zero le same r e = absurd (omega arith)
  next (suc m) le same r e = (m, refl, rw e at same)

  pub goes_on : (x : List A) (more : Bool) (after : List ℕ) → step done rest ≡ Ok ((x, more), after) → more ≡ true → length after < length rest → Left step end done rest total → Left step end (done ++ x) after total
  goes_on x more after e m le left =
      let n = next left.turns left.enough left.same (Ok ((x, more), after)) e in
      record { turns = n.0; enough = omega (arith, n.1, left.enough); same = subst (λ (b : Bool). on n.0 ((x, b), after) ≡ total) m n.2 }

  pub stops : (e : JsonFault) → Fails e (step done rest) → Left step end done rest total → Fails e total
  stops errors.NoMemory h left = tt
  stops (errors.Bad at) h left =
      let n = next left.turns left.enough left.same (Err at) h in
      sym n.2

  pub ends : (x : List A) (more : Bool) (after : List ℕ) → step done rest ≡ Ok ((x, more), after) → more ≡ false → Left step end done rest total → total ≡ Ok (done ++ x, after)
  ends x more after e m left =
      let n = next left.turns left.enough left.same (Ok ((x, more), after)) e in
      sym (subst (λ (b : Bool). on n.0 ((x, b), after) ≡ total) m n.2)

module _ {A : Type 0} (close : ℕ) (step : List A → List ℕ → Taken (List A × Bool)) (end : ℕ) (bytes : List ℕ) where
  pub starts : closing close bytes ≡ None → Left step end [] bytes (list_at close step end bytes)
  unfolding list_at
  starts e = record { turns = suc (length bytes); enough = omega arith; same = ap (or_steps step end bytes) (sym e) }

  pub shut : (rest : List ℕ) → closing close bytes ≡ Some rest → list_at close step end bytes ≡ Ok ([], rest)
  unfolding list_at
  shut rest e = ap (or_steps step end bytes) e

-- an array or an object with no level left, and one with a level
pub array_none : (levels end : ℕ) (bytes : List ℕ) → levels ≡ 0 → array_at levels end bytes ≡ Err (place end bytes - 1)
unfolding array_at
array_none zero end bytes e = refl
array_none (suc n) end bytes e = absurd (omega arith)

pub array_some : (levels end : ℕ) (bytes : List ℕ) → levels ≢ 0 → array_at levels end bytes ≡ list_at 93 (item_at (value_at (levels - 1)) end) end (after_space bytes)
unfolding array_at
array_some zero end bytes e = absurd (e refl)
array_some (suc n) end bytes e = let p : suc n - 1 ≡ n = omega arith in rw p refl

pub object_none : (levels end : ℕ) (bytes : List ℕ) → levels ≡ 0 → object_at levels end bytes ≡ Err (place end bytes - 1)
unfolding object_at
object_none zero end bytes e = refl
object_none (suc n) end bytes e = absurd (omega arith)

pub object_some : (levels end : ℕ) (bytes : List ℕ) → levels ≢ 0 → object_at levels end bytes ≡ list_at 125 (member_at (value_at (levels - 1)) end) end (after_space bytes)
unfolding object_at
object_some zero end bytes e = absurd (e refl)
object_some (suc n) end bytes e = let p : suc n - 1 ≡ n = omega arith in rw p refl
