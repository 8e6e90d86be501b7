-- What is made of the commands up to a limit.
use Rattle.std.proofs.Common.{◌≡◌, ℕ, zero, suc, List, [], ◌∷◌, ◌++◌, Bool, true, false, cond, refl, sym, ap, ◌∙◌, subst, Option, Some, None, Result, Ok, Err, inl, inr}
use Rattle.std.specs.Prelude.{◌⊎◌, ◌&&◌, filter}
use Rattle.std.specs.FinMap as map
use Rattle.std.proofs.lemmas.Bool.{cases_Bool}
use Rattle.bson_value.specs.declared.namespace.NsName.{NsName}
use Rattle.bson_value.specs.declared.value.Ts.{Ts}
use Rattle.schedule_model.specs.declared.line.Line.{Line}
use Rattle.schedule_model.specs.declared.line.Line.TheVariants.{Cmd, Dump, Copy, Mark, Tail}
use Rattle.schedule_model.specs.declared.refused.Refused.{Refused}
use Rattle.history_model.specs.Stages.{Write, earlier, Stage, Made}
use Rattle.history_model.specs.Commands.{applied}
use Rattle.history_model.specs.Runs.{Schedule, Refusal, NotTaken, DumpState, Run, first_run, commanded, on_line, or_refused, after_line, after_lines, repeated, last_step, names_in, rows_left, copied_out, begun, marked_out, finished, run}
use Rattle.history_model.specs.Histories.{history_of, state}
use Rattle.history_model.specs.Recordings.{made_of_answer, made_by}
use Rattle.history_model.specs.Invariants.{RisesTo}
use Rattle.std.specs.Prelude.{length}
use Rattle.history_model.specs.Histories.{is_before, before, all_before, or_stop, source_by, stage_or, source_from, source}
use Rattle.history_model.proofs.Inductive.{rises_on}
use Rattle.history_model.proofs.Runs.{taken_rises}
use Rattle.history_model.proofs.Modelled.{SameBase, IsStep, line_same, same_after}
use Rattle.history_model.proofs.AtTheMark.{lines_made, lines_rise}
use Rattle.history_model.proofs.Limited.{append_none, still_late}

-- ---- what is still to do behind the last line makes nothing

repeated_made : (l : Line) → IsStep l → (n : ℕ) (r : Run) → (repeated n (on_line l) r).made ≡ r.made
repeated_made l is zero r = refl
repeated_made l is (suc n) r = by (on_line l r) (line_same l r is) (λ s. repeated_made l is n s)
  where
    by : (x : Result Run Refusal) → SameBase r x → ((s : Run) → (repeated n (on_line l) s).made ≡ s.made) → (elim x as (λ x. Run) [ Ok s ↦ repeated n (on_line l) s | Err y ↦ r ]).made ≡ r.made
    by (Ok s) h rest = rest s ∙ h.1
    by (Err y) h rest = refl

copied_made : (ns : List NsName) (r : Run) → (copied_out ns r).made ≡ r.made
copied_made [] r = refl
copied_made (n ∷ ns) r = copied_made ns (repeated (suc (rows_left (map.get r.stage.rows.tables n))) (on_line (Copy n last_step)) r) ∙ repeated_made (Copy n last_step) tt (suc (rows_left (map.get r.stage.rows.tables n))) r

begun_made : (o : Option DumpState) (r : Run) → (begun o r).made ≡ r.made
begun_made None r = refl
begun_made (Some d) r = refl

pub finished_made : (r : Run) → (finished r).made ≡ r.made
finished_made r =
    (let s = begun r.dump r in
    let t = copied_out (names_in s.dump) s in
    let u = marked_out t in
    repeated_made (Tail last_step) tt (suc (length u.made)) u ∙ (repeated_made Mark tt 1 t ∙ (copied_made (names_in s.dump) s ∙ begun_made r.dump r)))

-- ---- what `source` makes is what the lines make, up to the limit

abbrev pub upto : Option Ts → List Made → List Made
upto l ms = filter (λ (m : Made). is_before l m.ts) ms

upto_pass : (l : Option Ts) (ms ns : List Made) → all_before l ms ≡ true → upto l (ms ++ ns) ≡ ms ++ upto l ns
upto_pass l [] ns h = refl
upto_pass l (m ∷ ms) ns h =
    (let b = both (is_before l m.ts) (all_before l ms) h in
    ap (λ (b : Bool). cond b (m ∷ upto l (ms ++ ns)) (upto l (ms ++ ns))) b.0 ∙ ap (λ (z : List Made). m ∷ z) (upto_pass l ms ns b.1))
  where
    both : (x y : Bool) → (x && y) ≡ true → (x ≡ true) × (y ≡ true)
    both true y e = (refl, e)
    both false y e = cc

upto_join : (l : Option Ts) (ms ns : List Made) → upto l (ms ++ ns) ≡ upto l ms ++ upto l ns
upto_join l [] ns = refl
upto_join l (m ∷ ms) ns = by (is_before l m.ts) (upto_join l ms ns)
  where
    by : (b : Bool) → upto l (ms ++ ns) ≡ upto l ms ++ upto l ns → cond b (m ∷ upto l (ms ++ ns)) (upto l (ms ++ ns)) ≡ cond b (m ∷ upto l ms) (upto l ms) ++ upto l ns
    by true h = ap (λ (z : List Made). m ∷ z) h
    by false h = h

upto_none : (l : Ts) (ms : List Made) (low high : Ts) → RisesTo low ms high → earlier low l ≡ false → upto (Some l) ms ≡ []
upto_none l [] low high h f = refl
upto_none l (m ∷ ms) low high h f =
    (let g = still_late low m.ts l f h.0 in
    ap (λ (b : Bool). cond b (m ∷ upto (Some l) ms) (upto (Some l) ms)) g ∙ upto_none l ms m.ts high h.1 g)

-- where some of what rises isn't before the limit, the last moment isn't
late_end : (l : Ts) (ms : List Made) (low high : Ts) → RisesTo low ms high → all_before (Some l) ms ≡ false → earlier high l ≡ false
late_end l [] low high h f = cc
late_end l (m ∷ ms) low high h f = by (cases_Bool (earlier m.ts l)) (λ g. late_end l ms m.ts high h.1 g)
  where
    by : (earlier m.ts l ≡ true) ⊎ (earlier m.ts l ≡ false) → (all_before (Some l) ms ≡ false → earlier high l ≡ false) → earlier high l ≡ false
    by (inl s) rest = rest (sym (ap (λ (b : Bool). b && all_before (Some l) ms) s) ∙ f)
    by (inr s) rest = late_then (rises_on ms m.ts high h.1)
      where
        late_then : (m.ts ≡ high) ⊎ (earlier m.ts high ≡ true) → earlier high l ≡ false
        late_then (inl e) = subst (λ (z : Ts). earlier z l ≡ false) e s
        late_then (inr e) = still_late m.ts high l s e

no_limit : (ms : List Made) → all_before None ms ≡ true
no_limit [] = refl
no_limit (m ∷ ms) = no_limit ms

stops : (l : Option Ts) (ms rest : List Made) (low mid high : Ts) → RisesTo low ms mid → RisesTo mid rest high → all_before l ms ≡ false → upto l ms ≡ upto l (ms ++ rest)
stops None ms rest low mid high h g f = (let e = no_limit ms in cc)
stops (Some l) ms rest low mid high h g f =
    sym (upto_join (Some l) ms rest ∙ (ap (λ (z : List Made). upto (Some l) ms ++ z) (upto_none l rest mid high g (late_end l ms low mid h f)) ∙ append_none (upto (Some l) ms)))

pub source_made : (l : Option Ts) (ls : List (ℕ × Line)) (r : Run) → (source_from l ls r.stage).made ≡ upto l (made_by ls r)
source_made l [] r = refl
source_made l ((i, Cmd k) ∷ ls) r = by (applied k r.stage) refl (λ s. source_made l ls s)
  where
    by : (y : Result (Stage × List Made) Refused) → applied k r.stage ≡ y → ((s : Run) → (source_from l ls s.stage).made ≡ upto l (made_by ls s)) →
        (source_by l i y (source_from l ls (stage_or r.stage y))).made ≡ upto l (made_of_answer y ++ made_by ls (or_refused i (commanded y r) r))
    by (Err x) e rest = rest (or_refused i (Err (NotTaken x)) r)
    by (Ok x) e rest = on (cases_Bool (all_before l x.1)) (rest (record r { stage = x.0; made = r.made ++ x.1 }))
      where
        after_it : Run
        after_it = record r { stage = x.0; made = r.made ++ x.1 }

        on : (all_before l x.1 ≡ true) ⊎ (all_before l x.1 ≡ false) → (source_from l ls x.0).made ≡ upto l (made_by ls (record r { stage = x.0; made = r.made ++ x.1 })) →
            (or_stop (all_before l x.1) l x.1 (source_from l ls x.0)).made ≡ upto l (x.1 ++ made_by ls (record r { stage = x.0; made = r.made ++ x.1 }))
        on (inl s) h = ap (λ (b : Bool). (or_stop b l x.1 (source_from l ls x.0)).made) s ∙ (ap (λ (z : List Made). x.1 ++ z) h ∙ sym (upto_pass l x.1 (made_by ls (record r { stage = x.0; made = r.made ++ x.1 })) s))
        on (inr s) h =
            ap (λ (b : Bool). (or_stop b l x.1 (source_from l ls x.0)).made) s
            ∙ stops l x.1 (made_by ls (record r { stage = x.0; made = r.made ++ x.1 })) r.stage.newest x.0.newest (after_lines ls (record r { stage = x.0; made = r.made ++ x.1 })).stage.newest (taken_rises k r.stage x e) (lines_rise ls (record r { stage = x.0; made = r.made ++ x.1 })) s
source_made l ((i, Dump) ∷ ls) r = ap (λ (z : Stage). (source_from l ls z).made) (sym (same_after i Dump r tt)) ∙ source_made l ls (after_line (i, Dump) r)
source_made l ((i, Copy n k) ∷ ls) r = ap (λ (z : Stage). (source_from l ls z).made) (sym (same_after i (Copy n k) r tt)) ∙ source_made l ls (after_line (i, Copy n k) r)
source_made l ((i, Mark) ∷ ls) r = ap (λ (z : Stage). (source_from l ls z).made) (sym (same_after i Mark r tt)) ∙ source_made l ls (after_line (i, Mark) r)
source_made l ((i, Tail n) ∷ ls) r = ap (λ (z : Stage). (source_from l ls z).made) (sym (same_after i (Tail n) r tt)) ∙ source_made l ls (after_line (i, Tail n) r)

history_upto : (l : Option Ts) (ms : List Made) → history_of (upto l ms) ≡ filter (λ (e : Ts × Write). is_before l e.0) (history_of ms)
history_upto l [] = refl
history_upto l (m ∷ ms) = by (is_before l m.ts) (history_upto l ms)
  where
    by : (b : Bool) → history_of (upto l ms) ≡ filter (λ (e : Ts × Write). is_before l e.0) (history_of ms) →
        history_of (cond b (m ∷ upto l ms) (upto l ms)) ≡ cond b ((m.ts, m.write) ∷ filter (λ (e : Ts × Write). is_before l e.0) (history_of ms)) (filter (λ (e : Ts × Write). is_before l e.0) (history_of ms))
    by true h = ap (λ (z : List (Ts × Write)). (m.ts, m.write) ∷ z) h
    by false h = h

pub source_is_before : (l : Option Ts) (s : Schedule) → state (history_of (source l s).made) ≡ before s l
source_is_before l s =
    (let whole : (run s).made ≡ made_by s.lines (first_run s.caps) = finished_made (after_lines s.lines (first_run s.caps)) ∙ lines_made s.lines (first_run s.caps) in
    ap (λ (z : List Made). state (history_of z)) (source_made l s.lines (first_run s.caps) ∙ ap (upto l) (sym whole)) ∙ ap state (history_upto l (run s).made))
