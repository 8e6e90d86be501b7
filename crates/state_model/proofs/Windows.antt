-- Replay of a whole window over a torn copy.
use Rattle.std.proofs.Common.{◌≡◌, List, [], ◌∷◌, ◌++◌, false, refl, sym, ◌∙◌, arith}
use Rattle.std.specs.Prelude.{◌||◌}
use Rattle.state_model.specs.States.{State}
use Rattle.state_model.specs.Spots.{Spot, stands}
use Rattle.state_model.specs.Moves.{Move}
use Rattle.state_model.specs.Replay.{replay, replay_all}
use Rattle.state_model.specs.Covers.{any_move_covers}
use Rattle.state_model.specs.Agreement.{SameStates, StatesAgree}
use Rattle.state_model.specs.Windows.{AllSettled, Recorded, Leads, joined}
use Rattle.state_model.specs.Laws.{ReplayKeepsAgreement, RecordHeals}

pub any_append : (ms ts : List Move) (p : Spot) → any_move_covers (ms ++ ts) p ≡ any_move_covers ms p || any_move_covers ts p
any_append [] ts p = refl
any_append (m ∷ ms) ts p = grind (arith, any_append ms ts p)

-- changes that are settled in x are replayed on y
pub settled_step : ReplayKeepsAgreement → (ms ts : List Move) (y x : State) → AllSettled ms x → StatesAgree y x (ms ++ ts) → StatesAgree (replay_all ms y) x ts
settled_step step [] ts y x s h = h
settled_step step (m ∷ ms) ts y x s h =
    settled_step step ms ts (replay m y) x s.1 (λ p e. step m (ms ++ ts) y x s.0.0 h p e ∙ s.0.1 p)

pub recorded_step : ReplayKeepsAgreement → (ms ts : List Move) (y old new : State) → Recorded ms old new → StatesAgree y old (ms ++ ts) → StatesAgree (replay_all ms y) new ts
recorded_step step ms ts y old new r h =
    settled_step step ms ts y new r.settled (λ p e.
    let g : any_move_covers ms p || any_move_covers ts p ≡ false = sym (any_append ms ts p) ∙ e in
    let a : any_move_covers ms p ≡ false = grind arith in
    h p e ∙ sym (r.frame p a))

pub replay_append : (ms ts : List Move) (s : State) → replay_all (ms ++ ts) s ≡ replay_all ts (replay_all ms s)
replay_append [] ts s = refl
replay_append (m ∷ ms) ts s = replay_append ms ts (replay m s)

-- over the window
pub healed : RecordHeals → (mss : List (List Move)) (y x z : State) → Leads x mss z → StatesAgree y x (joined mss) → SameStates (replay_all (joined mss) y) z
healed step [] y x z leads agree p = agree p refl ∙ leads p
healed step (ms ∷ mss) y x z leads agree p =
    rw (replay_append ms (joined mss) y) (healed step mss (replay_all ms y) leads.0 z leads.2 (step ms (joined mss) y x leads.0 leads.1 agree) p)

-- what the writes of a window don't cover stays
pub window_keeps : (mss : List (List Move)) (x z : State) → Leads x mss z → (p : Spot) → any_move_covers (joined mss) p ≡ false → stands z p ≡ stands x p
window_keeps [] x z leads p e = sym (leads p)
window_keeps (ms ∷ mss) x z leads p e =
    let f : any_move_covers ms p || any_move_covers (joined mss) p ≡ false = sym (any_append ms (joined mss) p) ∙ e in
    let a : any_move_covers ms p ≡ false = grind arith in
    let b : any_move_covers (joined mss) p ≡ false = grind arith in
    window_keeps mss leads.0 z leads.2 p b ∙ leads.1.frame p a
