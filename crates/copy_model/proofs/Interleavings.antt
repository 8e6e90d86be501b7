-- Every interleaving of writes and of steps of cursors.
use Rattle.std.proofs.Common.{◌≡◌, ℕ, ◌+◌, List, [], ◌∷◌, ◌++◌, false, refl, sym, ap, ◌∙◌, subst, Option, Some, None, inl, inr, append_assoc}
use Rattle.std.specs.Prelude.{◌==◌}
use Rattle.std.specs.FinMap as map
use Rattle.std.proofs.lemmas.Bool.{cases_Bool}
use Rattle.bson_value.specs.declared.namespace.NsName.{NsName}
use Rattle.state_model.specs.States.{State}
use Rattle.state_model.specs.Spots.{stands}
use Rattle.state_model.specs.Moves.{Move}
use Rattle.state_model.specs.Replay.{replay_all}
use Rattle.state_model.specs.Covers.{any_move_covers}
use Rattle.state_model.specs.Agreement.{SameStates, StatesAgree}
use Rattle.state_model.specs.Windows.{Recorded, Leads, joined}
use Rattle.state_model.specs.Laws.{CoverHereditarily, MovesChangeWhatTheyCover, MadeIsSettled, WindowHeals}
use Rattle.coll_state.specs.Rows.{Table, Rows, AreSound, state_of}
use Rattle.state_model.proofs.Windows.{window_keeps}
use Rattle.copy_model.specs.Writes.{SingleWrite, change_rows, IsRecorded}
use Rattle.copy_model.specs.Cursors.{Cursor, Copy, step_on, step_open, copy_step}
use Rattle.copy_model.specs.Copies.{Event, Wrote, Copied, happens, after, rows_after, AllRecorded, moves_of, begin, AllEnded, copy_of}
use Rattle.copy_model.specs.Torn.{IsCovered}
use Rattle.copy_model.specs.Laws.{CopyHeals}
use Rattle.copy_model.proofs.Writes.{write_recorded}
use Rattle.copy_model.proofs.RowWrites.{change_link, change_sound, change_keeps_rows}
use Rattle.copy_model.proofs.Cursor.{GoodWrite, Good, after_inv, is_covered}
use Rattle.copy_model.proofs.Agreed.{Starts, begin_inv, copy_agrees}

-- rows after events
pub sound_after : (es : List Event) (r : Rows) → AreSound r → AreSound (rows_after es r)
sound_after [] r ok = ok
sound_after (Wrote x ms ∷ es) r ok = sound_after es (change_rows x r) (change_sound x r ok)
sound_after (Copied n k ∷ es) r ok = sound_after es r ok

-- a step of a cursor leaves the rows
step_on_rows : (n : NsName) (k : ℕ) (c : Cursor) (o : Option Table) (w : Copy) → (step_on n k c o w).rows ≡ w.rows
step_on_rows n k c None w = refl
step_on_rows n k c (Some t) w = elim (cases_Bool (t.incarnation == c.incarnation)) [ inl s ↦ rw s refl | inr s ↦ rw s refl ]

step_open_rows : (n : NsName) (k : ℕ) (o : Option Cursor) (w : Copy) → (step_open n k o w).rows ≡ w.rows
step_open_rows n k None w = refl
step_open_rows n k (Some c) w = elim (cases_Bool c.ended) [ inl s ↦ rw s refl | inr s ↦ rw s (step_on_rows n k c (map.get w.rows.tables n) w) ]

pub copy_rows : (n : NsName) (k : ℕ) (w : Copy) → (copy_step n k w).rows ≡ w.rows
copy_rows n k w = step_open_rows n k (map.get w.cursors n) w

pub rows_of_after : (es : List Event) (w : Copy) → (after es w).rows ≡ rows_after es w.rows
rows_of_after [] w = refl
rows_of_after (Wrote x ms ∷ es) w = rows_of_after es (happens (Wrote x ms) w)
rows_of_after (Copied n k ∷ es) w = rows_of_after es (copy_step n k w) ∙ ap (rows_after es) (copy_rows n k w)

-- the moves of each write
abbrev pub entries_of : List Event → List (List Move)
entries_of [] = []
entries_of (Wrote x ms ∷ es) = ms ∷ entries_of es
entries_of (Copied n k ∷ es) = entries_of es

joined_entries : (es : List Event) → joined (entries_of es) ≡ moves_of es
joined_entries [] = refl
joined_entries (Wrote x ms ∷ es) = ap (λ (z : List Move). ms ++ z) (joined_entries es)
joined_entries (Copied n k ∷ es) = joined_entries es

joined_append : (xs ys : List (List Move)) → joined (xs ++ ys) ≡ joined xs ++ joined ys
joined_append [] ys = refl
joined_append (ms ∷ xs) ys = ap (λ (z : List Move). ms ++ z) (joined_append xs ys) ∙ sym (append_assoc ms (joined xs) (joined ys))

leads_join : (xs ys : List (List Move)) (x y z : State) → Leads x xs y → Leads y ys z → Leads x (xs ++ ys) z
leads_join [] [] x y z a b = λ p. a p ∙ b p
leads_join [] (ms ∷ ys) x y z a b = (b.0, record { frame = λ p e. b.1.frame p e ∙ sym (a p); settled = b.1.settled }, b.2)
leads_join (ms ∷ xs) ys x y z a b = (a.0, a.1, leads_join xs ys a.0 y z a.2 b)

module _ (keep : MovesChangeWhatTheyCover) (settle : MadeIsSettled) where
  -- a write is good for a copy
  pub write_good : (w : SingleWrite) (r : Rows) (ms : List Move) → AreSound r → IsRecorded w (state_of r) ms → GoodWrite ms r (change_rows w r)
  write_good w r ms ok h = record {
    keeps = λ p e. ap (λ (s : State). stands s p) (change_link w r ok) ∙ (write_recorded keep settle w (state_of r) ms h).frame p e;
    rows = change_keeps_rows w r ms h;
    rising = λ n t e. (change_sound w r ok n t e).0.0;
  }

  pub recorded_rows : (w : SingleWrite) (r : Rows) (ms : List Move) → AreSound r → IsRecorded w (state_of r) ms → Recorded ms (state_of r) (state_of (change_rows w r))
  recorded_rows w r ms ok h = subst (λ (s : State). Recorded ms (state_of r) s) (sym (change_link w r ok)) (write_recorded keep settle w (state_of r) ms h)

  pub good_events : (es : List Event) (w : Copy) → AreSound w.rows → AllRecorded es w.rows → Good es w
  good_events [] w ok a = tt
  good_events (Wrote x ms ∷ es) w ok a = (write_good x w.rows ms ok a.0, good_events es (happens (Wrote x ms) w) (change_sound x w.rows ok) a.1)
  good_events (Copied n k ∷ es) w ok a = good_events es (copy_step n k w) (subst AreSound (sym (copy_rows n k w)) ok) (subst (AllRecorded es) (sym (copy_rows n k w)) a)

  pub leads_on : (es : List Event) (r : Rows) → AreSound r → AllRecorded es r → Leads (state_of r) (entries_of es) (state_of (rows_after es r))
  leads_on [] r ok a = λ p. refl
  leads_on (Wrote x ms ∷ es) r ok a = (state_of (change_rows x r), recorded_rows x r ms ok a.0, leads_on es (change_rows x r) (change_sound x r ok) a.1)
  leads_on (Copied n k ∷ es) r ok a = leads_on es r ok a

  pub starts : (before : Rows) (first : List Event) → AreSound before → AllRecorded first before → Starts (state_of before) (moves_of first) (rows_after first before)
  starts before first ok a = record {
    keeps = λ p e. window_keeps (entries_of first) (state_of before) (state_of (rows_after first before)) (leads_on first before ok a) p (subst (λ (z : List Move). any_move_covers z p ≡ false) (sym (joined_entries first)) e);
    rising = λ n t e. (sound_after first before ok n t e).0.0;
  }

  -- at each moment of the copy
  pub covered : (before : Rows) (first es : List Event) → AreSound before → AllRecorded first before → AllRecorded es (rows_after first before) →
      IsCovered (state_of before) (moves_of first ++ moves_of es) (after es (begin (rows_after first before)))
  covered before first es ok a b =
      is_covered (state_of before) (moves_of first ++ moves_of es) (after es (begin (rows_after first before)))
      (after_inv (state_of before) es (moves_of first) (begin (rows_after first before)) (good_events es (begin (rows_after first before)) (sound_after first before ok) b)
      (begin_inv (state_of before) (moves_of first) (rows_after first before) (starts before first ok a)))

  -- once every cursor has ended
  pub agrees : CoverHereditarily → (before : Rows) (first es : List Event) → AreSound before → AllRecorded first before → AllRecorded es (rows_after first before) →
      AllEnded (after es (begin (rows_after first before))) → StatesAgree (copy_of (rows_after first before) (after es (begin (rows_after first before))).reads) (state_of before) (moves_of first ++ moves_of es)
  agrees hereditary before first es ok a b ended =
      copy_agrees hereditary (state_of before) (moves_of first) (rows_after first before) es (starts before first ok a) (good_events es (begin (rows_after first before)) (sound_after first before ok) b) ended

  -- the window's moves over the copy
  pub interleaved : CoverHereditarily → WindowHeals → (before : Rows) (first es : List Event) → AreSound before → AllRecorded first before → AllRecorded es (rows_after first before) →
      AllEnded (after es (begin (rows_after first before))) →
      SameStates (replay_all (moves_of first ++ moves_of es) (copy_of (rows_after first before) (after es (begin (rows_after first before))).reads)) (state_of (rows_after es (rows_after first before)))
  interleaved hereditary heals before first es ok a b ended =
      let r = rows_after first before in
      let all : joined (entries_of first ++ entries_of es) ≡ moves_of first ++ moves_of es =
      joined_append (entries_of first) (entries_of es) ∙ (ap (λ (z : List Move). z ++ joined (entries_of es)) (joined_entries first) ∙ ap (λ (z : List Move). moves_of first ++ z) (joined_entries es)) in
      let led = leads_join (entries_of first) (entries_of es) (state_of before) (state_of r) (state_of (rows_after es r)) (leads_on first before ok a) (leads_on es r (sound_after first before ok) b) in
      subst (λ (z : List Move). SameStates (replay_all z (copy_of r (after es (begin r)).reads)) (state_of (rows_after es r))) all
      (heals (entries_of first ++ entries_of es) (copy_of r (after es (begin r)).reads) (state_of before) (state_of (rows_after es r)) led
      (subst (λ (z : List Move). StatesAgree (copy_of r (after es (begin r)).reads) (state_of before) z) (sym all) (agrees hereditary before first es ok a b ended)))

  pub healed_rows : CoverHereditarily → WindowHeals → CopyHeals
  healed_rows hereditary heals before first es f ended =
      subst (λ (z : Rows). SameStates (replay_all (moves_of first ++ moves_of es) (copy_of (rows_after first before) (after es (begin (rows_after first before))).reads)) (state_of z))
      (sym (rows_of_after es (begin (rows_after first before))))
      (interleaved hereditary heals before first es f.sound f.before_start f.since ended)
