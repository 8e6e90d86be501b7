-- What a mark that succeeds says of the lines before it.
use Rattle.std.proofs.Common.{◌≡◌, ℕ, List, [], ◌∷◌, ◌++◌, Bool, true, false, cond, not, refl, sym, ap, ◌∙◌, subst, Option, Some, None, Result, Ok, Err, inl, inr, append_assoc}
use Rattle.std.specs.Prelude.{⊤, ◌⊎◌, ◌&&◌, ◌||◌, is_some}
use Rattle.std.specs.List.{list_all}
use Rattle.std.specs.Ordering.{eq_by_cmp}
use Rattle.std.specs.FinMap as map
use Rattle.std.proofs.lemmas.Bool.{cases_Bool}
use Rattle.bson_value.specs.declared.namespace.NsName.{NsName}
use Rattle.bson_value.specs.declared.value.Ts.{Ts}
use Rattle.bson_value.specs.NamespaceOrder.{namespace_cmp}
use Rattle.state_model.specs.Replay.{replay_all}
use Rattle.state_model.specs.Agreement.{SameStates}
use Rattle.coll_state.specs.Rows.{state_of}
use Rattle.schedule_model.specs.declared.line.Line.{Line}
use Rattle.schedule_model.specs.declared.line.Line.TheVariants.{Cmd, Dump, Copy, Mark, Tail}
use Rattle.schedule_model.specs.declared.refused.Refused.{Refused}
use Rattle.copy_model.specs.Cursors.{Cursor}
use Rattle.copy_model.specs.Copies.{copy_of}
use Rattle.history_model.specs.Stages.{earlier, first_ts, Caps, Stage, Made}
use Rattle.history_model.specs.Commands.{applied}
use Rattle.history_model.specs.Runs.{Refusal, NotNow, NoCursor, DumpState, Outcome, Done, Renamed, Rolled, Run, entries_from, window, is_gone, started, looked, all_ended, read_on, copied_by, copied, renamed_since, rolled_or, rolled, marked_by, marked, sent_on, tailed_to, tailed, still, in_dump, dumped, commanded, on_line, or_refused, after_line, after_lines}
use Rattle.history_model.specs.Recordings.{moves_made, EachMade, OfRename, NoRenames, made_of_answer, made_by_line, made_by, reads_in}
use Rattle.history_model.specs.Invariants.{RisesTo, UpTo, RunOk}
use Rattle.update_records.specs.Laws.{UpdatesRecord}
use Rattle.history_model.specs.WellFormed.{AreWellFormedLines}
use Rattle.copy_model.specs.Laws.{CopyHeals}
use Rattle.history_model.proofs.Runs.{noted_before, taken_rises, lines_good}
use Rattle.history_model.proofs.Order.{earlier_turn, earlier_not}
use Rattle.history_model.proofs.Inductive.{of_rename, each_map, each_both, all_above}
use Rattle.history_model.proofs.Torn.{torn_run}
use Rattle.history_model.proofs.Modelled.{SameBase, line_same, same_after, each_first}
use Rattle.history_model.proofs.Limited.{append_none}

-- all have ended, told by the map's entries and by its keys
pub both : (x y : Bool) → (x && y) ≡ true → (x ≡ true) × (y ≡ true)
both true y e = (refl, e)
both false y e = cc

ended_in : (es : List (NsName × Cursor)) (n : NsName) (c : Cursor) → list_all (λ (e : NsName × Cursor). e.1.ended) es ≡ true → map.find namespace_cmp n es ≡ Some c → c.ended ≡ true
ended_in [] n c h e = cc
ended_in (x ∷ es) n c h e = by (cases_Bool (eq_by_cmp namespace_cmp n x.0)) (both x.1.ended (list_all (λ (e : NsName × Cursor). e.1.ended) es) h) (λ g k. ended_in es n c g k)
  where
    by : (eq_by_cmp namespace_cmp n x.0 ≡ true) ⊎ (eq_by_cmp namespace_cmp n x.0 ≡ false) → (x.1.ended ≡ true) × (list_all (λ (e : NsName × Cursor). e.1.ended) es ≡ true) →
        (list_all (λ (e : NsName × Cursor). e.1.ended) es ≡ true → map.find namespace_cmp n es ≡ Some c → c.ended ≡ true) → c.ended ≡ true
    by (inl s) g rest = (let f : Some x.1 ≡ Some c = subst (λ (b : Bool). cond b (Some x.1) (map.find namespace_cmp n es) ≡ Some c) s e in let k : x.1 ≡ c = cc in subst (λ (z : Cursor). z.ended ≡ true) k g.0)
    by (inr s) g rest = rest g.1 (subst (λ (b : Bool). cond b (Some x.1) (map.find namespace_cmp n es) ≡ Some c) s e)

pub all_have_ended : (cs : map.FinMap namespace_cmp Cursor) → all_ended cs ≡ true → (n : NsName) (c : Cursor) → map.get cs n ≡ Some c → c.ended ≡ true
all_have_ended cs h n c e = ended_in (map.entries cs) n c h (sym (map.get-entries cs n) ∙ e)

same_copy : (a b : DumpState) → Some a ≡ Some b → a ≡ b
same_copy a b e = cc

-- what a mark that succeeds found
pub record Found (r : Run) : Type 0 where
  pub copy : DumpState
  pub there : r.dump ≡ Some copy
  pub all : all_ended copy.cursors ≡ true
  pub none : renamed_since copy.start r.stage.renamed ≡ None
  pub live : r.outcome ≡ Done

pub not_done : (ts : Ts) → Renamed ts ≡ Done → ⊥
not_done ts e = cc

pub not_failed : (a b : Ts) → Rolled a b ≡ Done → ⊥
not_failed a b e = cc

pub same_run : (a b : Run) → ◌≡◌ {A = Result Run Refusal} (Ok a) (Ok b) → a ≡ b
same_run a b e = cc

pub split_false : (x y : Bool) → (x || not y) ≡ false → y ≡ true
split_false x true e = refl
split_false true false e = cc
split_false false false e = cc

pub found : (r s : Run) → in_dump marked r.dump r ≡ Ok s → s.outcome ≡ Done → Found r
found r s h done = by r.dump refl h
  where
    last : (d : DumpState) → r.outcome ≡ Done → r.dump ≡ Some d → all_ended d.cursors ≡ true → (o : Option Ts) → renamed_since d.start r.stage.renamed ≡ o → marked_by o d r ≡ s → Found r
    last d l e f (Some ts) g k = absurd (not_done ts (ap (λ (z : Run). z.outcome) k ∙ done))
    last d l e f None g k = record { copy = d; there = e; all = f; none = g; live = l }

    at : (d : DumpState) → r.outcome ≡ Done → r.dump ≡ Some d → (b : Bool) → (is_some d.mark || not (all_ended d.cursors)) ≡ b → elim b as (λ b. Result Run Refusal) [ true ↦ Err NotNow | false ↦ Ok (marked_by (renamed_since d.start r.stage.renamed) d r) ] ≡ Ok s → Found r
    at d l e true f g = cc
    at d l e false f g = last d l e (split_false (is_some d.mark) (all_ended d.cursors) f) (renamed_since d.start r.stage.renamed) refl (same_run (marked_by (renamed_since d.start r.stage.renamed) d r) s g)

    on : (d : DumpState) → r.dump ≡ Some d → (x : Outcome) → r.outcome ≡ x → still x marked d r ≡ Ok s → Found r
    on d e Done f g = at d f e (is_some d.mark || not (all_ended d.cursors)) refl g
    on d e (Renamed ts) f g = absurd (not_done ts (sym f ∙ (ap (λ (z : Run). z.outcome) (same_run r s g) ∙ done)))
    on d e (Rolled a b) f g = absurd (not_failed a b (sym f ∙ (ap (λ (z : Run). z.outcome) (same_run r s g) ∙ done)))

    by : (o : Option DumpState) → r.dump ≡ o → in_dump marked o r ≡ Ok s → Found r
    by None e g = cc
    by (Some d) e g = on d e r.outcome refl g

-- where the dump started
abbrev pub StartIs : Ts → Option DumpState → Type 0
StartIs ts None = ⊥
StartIs ts (Some d) = d.start ≡ ts

abbrev pub HasStart : Ts → Run → Type 0
HasStart ts r = StartIs ts r.dump

abbrev pub KeepsStart : Ts → Result Run Refusal → Type 0
KeepsStart ts (Ok s) = StartIs ts s.dump
KeepsStart ts (Err x) = ⊤

step_start : (ts : Ts) (g : DumpState → Run → Result Run Refusal) → ((d : DumpState) (r : Run) → d.start ≡ ts → StartIs ts r.dump → KeepsStart ts (g d r)) → (r : Run) → StartIs ts r.dump → KeepsStart ts (in_dump g r.dump r)
step_start ts g h r s = by r.dump s
  where
    by : (o : Option DumpState) → StartIs ts o → KeepsStart ts (in_dump g o r)
    by None k = tt
    by (Some d) k = on r.outcome
      where
        on : (x : Outcome) → KeepsStart ts (still x g d r)
        on Done = h d r k s
        on (Renamed a) = s
        on (Rolled a b) = s

copied_start : (ts : Ts) (n : NsName) (k : ℕ) (d : DumpState) (r : Run) → d.start ≡ ts → StartIs ts r.dump → KeepsStart ts (copied n k d r)
copied_start ts n k d r h s = by (map.get d.cursors n)
  where
    by : (o : Option Cursor) → KeepsStart ts (copied_by n k o d r)
    by None = tt
    by (Some x) = elim x.ended as (λ b. KeepsStart ts (elim b [ true ↦ Err NoCursor | false ↦ Ok (read_on n (looked k x (map.get r.stage.rows.tables n)) d r) ])) [ true ↦ tt | false ↦ h ]

marked_start : (ts : Ts) (d : DumpState) (r : Run) → d.start ≡ ts → StartIs ts r.dump → KeepsStart ts (marked d r)
marked_start ts d r h s =
    elim (is_some d.mark || not (all_ended d.cursors)) as (λ b. KeepsStart ts (elim b [ true ↦ Err NotNow | false ↦ Ok (marked_by (renamed_since d.start r.stage.renamed) d r) ])) [
      | true ↦ tt
      | false ↦ by (renamed_since d.start r.stage.renamed)
    ]
  where
    by : (o : Option Ts) → StartIs ts (marked_by o d r).dump
    by (Some x) = s
    by None =
        elim (is_gone d.start r.stage.oplog) as (λ b. HasStart ts (elim b [ true ↦ rolled d.start r | false ↦ record r { dump = Some (record d { mark = Some r.stage.newest }) } ])) [ true ↦ s | false ↦ h ]

tailed_start : (ts : Ts) (n : ℕ) (d : DumpState) (r : Run) → d.start ≡ ts → StartIs ts r.dump → KeepsStart ts (tailed n d r)
tailed_start ts n d r h s = by d.mark
  where
    by : (o : Option Ts) → KeepsStart ts (tailed_to n o d r)
    by None = tt
    by (Some e) =
        elim d.closed as (λ b. KeepsStart ts (elim b [ true ↦ Err NotNow | false ↦ Ok (rolled_or d.start r.stage.oplog (rolled d.start r) (sent_on n (window d.start e (entries_from r)) d r)) ])) [
          | true ↦ tt
          | false ↦ elim (is_gone d.start r.stage.oplog) as (λ b. HasStart ts (elim b [ true ↦ rolled d.start r | false ↦ sent_on n (window d.start e (entries_from r)) d r ])) [ true ↦ s | false ↦ h ]
        ]

line_start : (ts : Ts) (l : Line) (r : Run) → StartIs ts r.dump → KeepsStart ts (on_line l r)
line_start ts (Cmd k) r s = by (applied k r.stage)
  where
    by : (y : Result (Stage × List Made) Refused) → KeepsStart ts (commanded y r)
    by (Err x) = tt
    by (Ok x) = s
line_start ts Dump r s = by r.dump s
  where
    by : (o : Option DumpState) → StartIs ts o → KeepsStart ts (dumped o r)
    by None k = absurd k
    by (Some d) k = tt
line_start ts (Copy n k) r s = step_start ts (copied n k) (λ d r h s. copied_start ts n k d r h s) r s
line_start ts Mark r s = step_start ts marked (λ d r h s. marked_start ts d r h s) r s
line_start ts (Tail n) r s = step_start ts (tailed n) (λ d r h s. tailed_start ts n d r h s) r s

pub lines_start : (ts : Ts) (ls : List (ℕ × Line)) (r : Run) → StartIs ts r.dump → StartIs ts (after_lines ls r).dump
lines_start ts [] r s = s
lines_start ts (l ∷ ls) r s = lines_start ts ls (after_line l r) (by (on_line l.1 r) (line_start ts l.1 r s))
  where
    by : (x : Result Run Refusal) → KeepsStart ts x → StartIs ts (or_refused l.0 x r).dump
    by (Ok a) h = h
    by (Err a) h = s

-- what the lines make
step_made : (i : ℕ) (r : Run) (x : Result Run Refusal) → SameBase r x → (or_refused i x r).made ≡ r.made ++ []
step_made i r (Ok s) h = h.1 ∙ sym (append_none r.made)
step_made i r (Err x) h = sym (append_none r.made)

line_made : (i : ℕ) (l : Line) (r : Run) → (after_line (i, l) r).made ≡ r.made ++ made_by_line l r
line_made i (Cmd k) r = by (applied k r.stage)
  where
    by : (y : Result (Stage × List Made) Refused) → (or_refused i (commanded y r) r).made ≡ r.made ++ made_of_answer y
    by (Err x) = sym (append_none r.made)
    by (Ok x) = refl
line_made i Dump r = step_made i r (on_line Dump r) (line_same Dump r tt)
line_made i (Copy n k) r = step_made i r (on_line (Copy n k) r) (line_same (Copy n k) r tt)
line_made i Mark r = step_made i r (on_line Mark r) (line_same Mark r tt)
line_made i (Tail n) r = step_made i r (on_line (Tail n) r) (line_same (Tail n) r tt)

pub lines_made : (ls : List (ℕ × Line)) (r : Run) → (after_lines ls r).made ≡ r.made ++ made_by ls r
lines_made [] r = sym (append_none r.made)
lines_made (l ∷ ls) r = lines_made ls (after_line l r) ∙ (ap (λ (z : List Made). z ++ made_by ls (after_line l r)) (line_made l.0 l.1 r) ∙ append_assoc r.made (made_by_line l.1 r) (made_by ls (after_line l r)))

pub rises_join : (xs ys : List Made) (low mid high : Ts) → RisesTo low xs mid → RisesTo mid ys high → RisesTo low (xs ++ ys) high
rises_join [] ys low mid high a b = subst (λ (z : Ts). RisesTo z ys high) (sym a) b
rises_join (m ∷ xs) ys low mid high a b = (a.0, rises_join xs ys m.ts mid high a.1 b)

line_rises : (i : ℕ) (l : Line) (r : Run) → RisesTo r.stage.newest (made_by_line l r) (after_line (i, l) r).stage.newest
line_rises i (Cmd k) r = by (applied k r.stage) refl
  where
    by : (y : Result (Stage × List Made) Refused) → applied k r.stage ≡ y → RisesTo r.stage.newest (made_of_answer y) (or_refused i (commanded y r) r).stage.newest
    by (Err x) e = refl
    by (Ok x) e = taken_rises k r.stage x e
line_rises i Dump r = sym (ap (λ (z : Stage). z.newest) (same_after i Dump r tt))
line_rises i (Copy n k) r = sym (ap (λ (z : Stage). z.newest) (same_after i (Copy n k) r tt))
line_rises i Mark r = sym (ap (λ (z : Stage). z.newest) (same_after i Mark r tt))
line_rises i (Tail n) r = sym (ap (λ (z : Stage). z.newest) (same_after i (Tail n) r tt))

pub lines_rise : (ls : List (ℕ × Line)) (r : Run) → RisesTo r.stage.newest (made_by ls r) (after_lines ls r).stage.newest
lines_rise [] r = refl
lines_rise (l ∷ ls) r =
    rises_join (made_by_line l.1 r) (made_by ls (after_line l r)) r.stage.newest (after_line l r).stage.newest (after_lines ls (after_line l r)).stage.newest (line_rises l.0 l.1 r) (lines_rise ls (after_line l r))

-- the last write, where there is one
abbrev pub last_made : List Made → List Made
last_made [] = []
last_made (m ∷ []) = m ∷ []
last_made (m ∷ n ∷ ms) = last_made (n ∷ ms)

-- the last write is the newest
last_at : (ms : List Made) (low high : Ts) → RisesTo low ms high → EachMade (λ (m : Made). m.ts ≡ high) (last_made ms)
last_at [] low high h = tt
last_at (m ∷ []) low high h = (h.1, tt)
last_at (m ∷ n ∷ ms) low high h = last_at (n ∷ ms) m.ts high h.1

pub last_parted : (ms : List Made) → (earlier : List Made) × (ms ≡ earlier ++ last_made ms)
last_parted [] = ([], refl)
last_parted (m ∷ []) = ([], refl)
last_parted (m ∷ n ∷ ms) = (let g = last_parted (n ∷ ms) in (m ∷ g.0, ap (λ (z : List Made). m ∷ z) g.1))

each_right : (P : Made → Type 0) (xs ys : List Made) → EachMade P (xs ++ ys) → EachMade P ys
each_right P xs ys h = (each_first P xs ys h).1

-- a rename that is noted is before Start
no_rename_on : (start : Ts) (m : Made) → OfRename m.write (earlier m.ts start ≡ true) → earlier m.ts start ≡ false → OfRename m.write ⊥
no_rename_on start m h e = of_rename m.write (earlier m.ts start ≡ true) ⊥ (λ g. wrong g) h
  where
    wrong : earlier m.ts start ≡ true → ⊥
    wrong g = cc

pub no_renames : UpdatesRecord → (c : Caps) (r s : Run) (ls : List (ℕ × Line)) → AreWellFormedLines ls → RunOk c r → on_line Mark (after_lines ls (started r)) ≡ Ok s → s.outcome ≡ Done → NoRenames (last_made r.made) × NoRenames (made_by ls (started r))
no_renames sound c r s ls w h e done =
    (let end = after_lines ls (started r) in
    let f = found end s e done in
    let start : f.copy.start ≡ r.stage.newest = subst (λ (o : Option DumpState). StartIs r.stage.newest o) f.there (lines_start r.stage.newest ls (started r) refl) in
    let whole = lines_good sound c ls (started r) w (h.0, tt) in
    let noted : EachMade (λ (m : Made). OfRename m.write (earlier m.ts r.stage.newest ≡ true)) end.made =
    each_map (λ (m : Made). OfRename m.write (UpTo end.stage.renamed m.ts)) (λ (m : Made). OfRename m.write (earlier m.ts r.stage.newest ≡ true))
    (λ m u. of_rename m.write (UpTo end.stage.renamed m.ts) (earlier m.ts r.stage.newest ≡ true) (λ k. subst (λ (z : Ts). earlier m.ts z ≡ true) start (noted_before f.copy.start end.stage.renamed m.ts f.none k)) u) end.made whole.0.renamed in
    let cut = subst (λ (z : List Made). EachMade (λ (m : Made). OfRename m.write (earlier m.ts r.stage.newest ≡ true)) z) (lines_made ls (started r)) noted in
    let halves = each_first (λ (m : Made). OfRename m.write (earlier m.ts r.stage.newest ≡ true)) r.made (made_by ls (started r)) cut in
    let parted = last_parted r.made in
    let lasts = each_right (λ (m : Made). OfRename m.write (earlier m.ts r.stage.newest ≡ true)) parted.0 (last_made r.made)
    (subst (λ (z : List Made). EachMade (λ (m : Made). OfRename m.write (earlier m.ts r.stage.newest ≡ true)) z) parted.1 halves.0) in
    let first : NoRenames (last_made r.made) = each_both (λ (m : Made). OfRename m.write (earlier m.ts r.stage.newest ≡ true)) (λ (m : Made). m.ts ≡ r.stage.newest) (λ (m : Made). OfRename m.write ⊥)
    (λ m a b. no_rename_on r.stage.newest m a (subst (λ (z : Ts). earlier z r.stage.newest ≡ false) (sym b) (earlier_not r.stage.newest))) (last_made r.made) lasts (last_at r.made first_ts r.stage.newest h.0.rises) in
    let later : NoRenames (made_by ls (started r)) = each_both (λ (m : Made). OfRename m.write (earlier m.ts r.stage.newest ≡ true)) (λ (m : Made). earlier r.stage.newest m.ts ≡ true) (λ (m : Made). OfRename m.write ⊥)
    (λ m a b. no_rename_on r.stage.newest m a (earlier_turn r.stage.newest m.ts b)) (made_by ls (started r)) halves.1 (all_above (made_by ls (started r)) r.stage.newest end.stage.newest (lines_rise ls (started r))) in
    (first, later))

pub torn_at_mark : CopyHeals → UpdatesRecord → (c : Caps) (r s : Run) (ls : List (ℕ × Line)) → AreWellFormedLines ls → RunOk c r → r.steps ≡ [] → on_line Mark (after_lines ls (started r)) ≡ Ok s → s.outcome ≡ Done →
    SameStates (replay_all (moves_made (last_made r.made ++ made_by ls (started r))) (copy_of r.stage.rows (reads_in (after_lines ls (started r)).steps []))) (state_of (after_lines ls (started r)).stage.rows)
torn_at_mark heals sound c r s ls w h none e done =
    (let end = after_lines ls (started r) in
    let f = found end s e done in
    let free = no_renames sound c r s ls w h e done in
    let parted = last_parted r.made in
    torn_run heals sound c r parted.0 (last_made r.made) ls w h none parted.1 free.0 free.1 f.live
    (λ d g n x k. all_have_ended d.cursors (subst (λ (z : DumpState). all_ended z.cursors ≡ true) (same_copy f.copy d (sym f.there ∙ g)) f.all) n x k))
