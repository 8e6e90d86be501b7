-- What holds of a log holds with one entry more.
use Rattle.std.proofs.Common.{◌≡◌, ℕ, ◌+◌, ◌≤◌, true, false, List, sym, subst, arith, inl, inr}
use Rattle.std.specs.Prelude.{◌⊎◌, nat_lt}
use Rattle.std.proofs.lemmas.Bool.{cases_Bool}
use Rattle.bson_value.specs.declared.value.Ts.{Ts}
use Rattle.capped_oplog.specs.Ring.{Ring}
use Rattle.store_log.specs.Logged.{next_ts, with_entry, IsKept}
use Rattle.store_log.proofs.Pushes.{one_push, new_stands}

next_low : (clock recorded : ℕ) (newest : Ts) → newest.inc ≤ recorded + 1 → (next_ts clock newest).inc ≤ recorded + 1 + 1
next_low clock recorded newest l = by (cases_Bool (nat_lt newest.secs clock))
  where
    by : (nat_lt newest.secs clock ≡ true) ⊎ (nat_lt newest.secs clock ≡ false) → (next_ts clock newest).inc ≤ recorded + 1 + 1
    by (inl t) = rw t (omega arith)
    by (inr f) = rw f (omega arith)

pub kept_on : (clock recorded : ℕ) (newest ts : Ts) (ring new : Ring) (bytes : List ℕ) → IsKept newest ring recorded → ts ≡ next_ts clock newest → new ≡ with_entry ring (ts, bytes) → IsKept ts new (recorded + 1)
kept_on clock recorded newest ts ring new bytes k e f =
    (let h = one_push ring.cap ring.limit ring.entries (ts, bytes) k.room (record { few = k.held; short = k.within }) in
    subst (λ (r : Ring). IsKept ts r (recorded + 1)) (sym f)
    (record {
      last = new_stands ring.cap ring.limit ring.entries (with_entry ring (ts, bytes)).entries (ts, bytes) k.room h;
      room = k.room;
      held = h.fits.few;
      within = h.fits.short;
      low = subst (λ (t : Ts). t.inc ≤ recorded + 1 + 1) (sym e) (next_low clock recorded newest k.low);
    }))
