-- What a line makes of a run, by cases.
use Rattle.std.proofs.Common.{◌≡◌, ℕ, List, [], ◌∷◌, ◌++◌, Bool, true, false, not, refl, Option, Some, None, Result, Ok, Err}
use Rattle.std.specs.Prelude.{⊤, ◌||◌, is_some}
use Rattle.std.specs.FinMap as map
use Rattle.bson_value.specs.declared.namespace.NsName.{NsName}
use Rattle.bson_value.specs.declared.value.Ts.{Ts}
use Rattle.coll_state.specs.Rows.{Row}
use Rattle.schedule_model.specs.declared.command.Command.{Command}
use Rattle.schedule_model.specs.declared.line.Line.{Line}
use Rattle.schedule_model.specs.declared.line.Line.TheVariants.{Cmd, Dump, Copy, Mark, Tail}
use Rattle.schedule_model.specs.declared.refused.Refused.{Refused}
use Rattle.copy_model.specs.Cursors.{Cursor}
use Rattle.history_model.specs.Stages.{Stage, Made}
use Rattle.history_model.specs.Commands.{applied}
use Rattle.history_model.specs.Runs.{Refusal, NotNow, NoCursor, DumpState, Outcome, Done, Renamed, Rolled, Run, entries_from, window, is_gone, oldest, started, looked, all_ended, read_on, copied_by, copied, renamed_since, rolled_or, rolled, marked_by, marked, sent_on, tailed_to, tailed, still, in_dump, dumped, commanded, on_line, or_refused, after_line, after_lines}
use Rattle.history_model.specs.Invariants.{RisesTo}
use Rattle.history_model.proofs.Runs.{taken_rises}

-- what a line makes of a run that P holds of, so that Q holds after it
pub record Steps (P Q : Run → Type 0) : Type 0 where
  pub same : (r : Run) → P r → Q r
  pub refused : (r : Run) (xs : List (ℕ × Refusal)) → P r → Q (record r { refused = xs })
  pub command : (r : Run) (st : Stage) (more : List Made) → P r → RisesTo r.stage.newest more st.newest → Q (record r { stage = st; made = r.made ++ more })
  pub starts : (r : Run) → P r → r.dump ≡ None → Q (started r)
  pub reads : (r : Run) (d : DumpState) → P r → r.dump ≡ Some d → (n : NsName) (c : Cursor) → map.get d.cursors n ≡ Some c → c.ended ≡ false → (x : List Row × Cursor) → Q (read_on n x d r)
  pub fails : (r : Run) (o : Outcome) → P r → Q (record r { outcome = o })
  pub marks : (r : Run) (d : DumpState) → P r → r.dump ≡ Some d → is_some d.mark ≡ false → all_ended d.cursors ≡ true → Q (record r { dump = Some (record d { mark = Some r.stage.newest }) })
  pub sends : (r : Run) (d : DumpState) → P r → r.dump ≡ Some d → (n : ℕ) (e : Ts) → d.mark ≡ Some e → d.closed ≡ false → Q (sent_on n (window d.start e (entries_from r)) d r)

or_false : (a b : Bool) → (a || not b) ≡ false → (a ≡ false) × (b ≡ true)
or_false true b h = cc
or_false false true h = (refl, refl)
or_false false false h = cc

module _ {P Q : Run → Type 0} (steps : Steps P Q) where
  abbrev pub Answered : Result Run Refusal → Type 0
  Answered (Ok s) = Q s
  Answered (Err x) = ⊤

  or_answered : (i : ℕ) (r : Run) → P r → (x : Result Run Refusal) → Answered x → Q (or_refused i x r)
  or_answered i r p (Ok s) h = h
  or_answered i r p (Err x) h = steps.refused r (r.refused ++ ((i, x) ∷ [])) p

  in_dump_answered : (g : DumpState → Run → Result Run Refusal) (r : Run) → P r → ((d : DumpState) → r.dump ≡ Some d → Answered (g d r)) → Answered (in_dump g r.dump r)
  in_dump_answered g r p h = by r.dump refl
    where
      by : (o : Option DumpState) → r.dump ≡ o → Answered (in_dump g o r)
      by None e = tt
      by (Some d) e = on r.outcome
        where
          on : (x : Outcome) → Answered (still x g d r)
          on Done = h d e
          on (Renamed a) = steps.same r p
          on (Rolled a b) = steps.same r p

  copied_answered : (n : NsName) (k : ℕ) (r : Run) → P r → (d : DumpState) → r.dump ≡ Some d → Answered (copied n k d r)
  copied_answered n k r p d e = by (map.get d.cursors n) refl
    where
      by : (o : Option Cursor) → map.get d.cursors n ≡ o → Answered (copied_by n k o d r)
      by None f = tt
      by (Some c) f = on c.ended refl
        where
          on : (b : Bool) → c.ended ≡ b → Answered (elim b as (λ b. Result Run Refusal) [ true ↦ Err NoCursor | false ↦ Ok (read_on n (looked k c (map.get r.stage.rows.tables n)) d r) ])
          on true g = tt
          on false g = steps.reads r d p e n c f g (looked k c (map.get r.stage.rows.tables n))

  marked_answered : (r : Run) → P r → (d : DumpState) → r.dump ≡ Some d → Answered (marked d r)
  marked_answered r p d e = by (is_some d.mark || not (all_ended d.cursors)) refl
    where
      to : (o : Option Ts) → (is_some d.mark ≡ false) × (all_ended d.cursors ≡ true) → Q (marked_by o d r)
      to (Some ts) f = steps.fails r (Renamed ts) p
      to None f = on (is_gone d.start r.stage.oplog)
        where
          on : (b : Bool) → Q (elim b as (λ b. Run) [ true ↦ rolled d.start r | false ↦ record r { dump = Some (record d { mark = Some r.stage.newest }) } ])
          on true = steps.fails r (Rolled d.start (oldest d.start r.stage.oplog)) p
          on false = steps.marks r d p e f.0 f.1

      by : (b : Bool) → (is_some d.mark || not (all_ended d.cursors)) ≡ b → Answered (elim b as (λ b. Result Run Refusal) [ true ↦ Err NotNow | false ↦ Ok (marked_by (renamed_since d.start r.stage.renamed) d r) ])
      by true f = tt
      by false f = to (renamed_since d.start r.stage.renamed) (or_false (is_some d.mark) (all_ended d.cursors) f)

  tailed_answered : (n : ℕ) (r : Run) → P r → (d : DumpState) → r.dump ≡ Some d → Answered (tailed n d r)
  tailed_answered n r p d e = by d.mark refl
    where
      by : (o : Option Ts) → d.mark ≡ o → Answered (tailed_to n o d r)
      by None f = tt
      by (Some ts) f = on d.closed refl
        where
          rolls : d.closed ≡ false → (b : Bool) → Q (elim b as (λ b. Run) [ true ↦ rolled d.start r | false ↦ sent_on n (window d.start ts (entries_from r)) d r ])
          rolls g true = steps.fails r (Rolled d.start (oldest d.start r.stage.oplog)) p
          rolls g false = steps.sends r d p e n ts f g

          on : (b : Bool) → d.closed ≡ b → Answered (elim b as (λ b. Result Run Refusal) [ true ↦ Err NotNow | false ↦ Ok (rolled_or d.start r.stage.oplog (rolled d.start r) (sent_on n (window d.start ts (entries_from r)) d r)) ])
          on true g = tt
          on false g = rolls g (is_gone d.start r.stage.oplog)

  command_answered : (k : Command) (r : Run) → P r → Answered (on_line (Cmd k) r)
  command_answered k r p = by (applied k r.stage) refl
    where
      by : (y : Result (Stage × List Made) Refused) → applied k r.stage ≡ y → Answered (commanded y r)
      by (Err x) e = tt
      by (Ok x) e = steps.command r x.0 x.1 p (taken_rises k r.stage x e)

  started_answered : (r : Run) → P r → Answered (dumped r.dump r)
  started_answered r p = by r.dump refl
    where
      by : (o : Option DumpState) → r.dump ≡ o → Answered (dumped o r)
      by None e = steps.starts r p e
      by (Some d) e = tt

  line_answered : (l : Line) (r : Run) → P r → Answered (on_line l r)
  line_answered (Cmd k) r p = command_answered k r p
  line_answered Dump r p = started_answered r p
  line_answered (Copy n k) r p = in_dump_answered (copied n k) r p (copied_answered n k r p)
  line_answered Mark r p = in_dump_answered marked r p (marked_answered r p)
  line_answered (Tail n) r p = in_dump_answered (tailed n) r p (tailed_answered n r p)

  pub after_one : (l : ℕ × Line) (r : Run) → P r → Q (after_line l r)
  after_one l r p = or_answered l.0 r p (on_line l.1 r) (line_answered l.1 r p)

pub after_all : {P : Run → Type 0} → Steps P P → (ls : List (ℕ × Line)) (r : Run) → P r → P (after_lines ls r)
after_all steps [] r p = p
after_all steps (l ∷ ls) r p = after_all steps ls (after_line l r) (after_one steps l r p)
