-- Limits and the end of a copy let all earlier moments pass.
use Rattle.std.proofs.Common.{◌≡◌, List, Bool, true, false, refl, sym, subst, Option, Some, None}
use Rattle.std.specs.Prelude.{◌&&◌, not}
use Rattle.bson_value.specs.declared.value.Ts.{Ts}
use Rattle.copy_model.specs.Writes.{SingleWrite}
use Rattle.history_model.specs.Stages.{Txn, earlier, first_ts}
use Rattle.history_model.specs.Runs.{Schedule, run}
use Rattle.history_model.specs.Histories.{history, state, is_before, is_up_to, moments}
use Rattle.history_model.specs.Laws.{TimestampsRise}
use Rattle.history_model.specs.WellFormed.{AreWellFormedLines}
use Rattle.history_model.proofs.Order.{earlier_trans}
use Rattle.whole_transactions.specs.Laws.{IsWhole, IsCommitted, BeforeIsWhole, AtIsWhole}
use Rattle.whole_transactions.proofs.Fronts.{Rises, rises, IsClosed, passed, whole, History}

limit_closed : (l : Option Ts) → IsClosed (is_before l)
limit_closed None a b e g = refl
limit_closed (Some l) a b e g = earlier_trans a b l e g

not_twice : (x y : Bool) → (x ≡ true → y ≡ true) → not y ≡ true → not x ≡ true
not_twice false y h g = refl
not_twice true true h g = cc
not_twice true false h g = (let e : false ≡ true = h refl in cc)

end_closed : (l : Option Ts) → IsClosed (is_up_to l)
end_closed None a b e g = refl
end_closed (Some l) a b e g = not_twice (earlier l a) (earlier l b) (λ h. earlier_trans l a b h e) g

both_parts : (x y : Bool) → x && y ≡ true → (x ≡ true) × (y ≡ true)
both_parts true y e = (refl, e)
both_parts false y e = cc

both_closed : (t u : Ts → Bool) → IsClosed t → IsClosed u → IsClosed (λ (a : Ts). t a && u a)
both_closed t u c d a b e g = let p = both_parts (t b) (u b) g in rw (c a b e p.0, d a b e p.1) refl

whole_in : TimestampsRise → (t : Ts → Bool) → IsClosed t → (s : Schedule) → AreWellFormedLines s.lines → (earlier_ones : History) (ts : Ts) (ws : List SingleWrite) (later : History) → IsCommitted s earlier_ones ts ws later → IsWhole earlier_ones (ts, Txn ws) later (state (passed t (history s)))
whole_in rise t c s f before ts ws behind h =
    subst (λ (z : History). IsWhole before (ts, Txn ws) behind (state (passed t z))) (sym h)
    (whole t c first_ts before (ts, Txn ws) behind (subst (λ (z : History). Rises first_ts z) h (rises first_ts (run s).made (run s).stage.newest (rise s f))))

pub before_is_whole : TimestampsRise → BeforeIsWhole
before_is_whole rise s f before ts ws behind h l = whole_in rise (is_before l) (limit_closed l) s f before ts ws behind h

pub at_is_whole : TimestampsRise → AtIsWhole
at_is_whole rise s f before ts ws behind h l =
    whole_in rise (λ (a : Ts). is_before l a && is_up_to (moments s).end_ts a) (both_closed (is_before l) (is_up_to (moments s).end_ts) (limit_closed l) (end_closed (moments s).end_ts)) s f before ts ws behind h
