-- What each step of a dump keeps, stands behind the last line too.
use Rattle.std.proofs.Common.{ℕ, zero, suc, List, [], ◌∷◌, length, sym, subst, Option, Some, None, Result, Ok, Err}
use Rattle.std.specs.Prelude.{⊤}
use Rattle.std.specs.FinMap as map
use Rattle.bson_value.specs.declared.namespace.NsName.{NsName}
use Rattle.schedule_model.specs.declared.line.Line.{Line}
use Rattle.schedule_model.specs.declared.line.Line.TheVariants.{Dump, Copy, Mark, Tail}
use Rattle.history_model.specs.Stages.{Stage, Made}
use Rattle.history_model.specs.Runs.{Refusal, DumpState, Run, dumped, on_line, repeated, last_step, names_in, rows_left, copied_out, begun, marked_out, finished}
use Rattle.history_model.proofs.Modelled.{SameBase, IsStep, line_same}

abbrev pub Kept : (Run → Type 0) → Result Run Refusal → Type 0
Kept P (Ok s) = P s
Kept P (Err x) = ⊤

abbrev pub StepsKeep : (Run → Type 0) → Type 0
StepsKeep P = (l : Line) → IsStep l → (r : Run) → P r → Kept P (on_line l r)

repeated_keeps : (P : Run → Type 0) → StepsKeep P → (l : Line) → IsStep l → (n : ℕ) (r : Run) → P r → P (repeated n (on_line l) r)
repeated_keeps P keep l s zero r p = p
repeated_keeps P keep l s (suc n) r p = by (on_line l r) (keep l s r p) (λ t q. repeated_keeps P keep l s n t q)
  where
    by : (x : Result Run Refusal) → Kept P x → ((t : Run) → P t → P (repeated n (on_line l) t)) → P (elim x as (λ x. Run) [ Ok t ↦ repeated n (on_line l) t | Err y ↦ r ])
    by (Ok t) q rest = rest t q
    by (Err y) q rest = p

copied_keeps : (P : Run → Type 0) → StepsKeep P → (ns : List NsName) (r : Run) → P r → P (copied_out ns r)
copied_keeps P keep [] r p = p
copied_keeps P keep (n ∷ ns) r p =
    let k = suc (rows_left (map.get r.stage.rows.tables n)) in
    copied_keeps P keep ns (repeated k (on_line (Copy n last_step)) r) (repeated_keeps P keep (Copy n last_step) tt k r p)

begun_keeps : (P : Run → Type 0) → StepsKeep P → (r : Run) → P r → P (begun r.dump r)
begun_keeps P keep r p = by r.dump (keep Dump tt r p)
  where
    by : (o : Option DumpState) → Kept P (dumped o r) → P (begun o r)
    by None q = q
    by (Some d) q = p

pub finished_keeps : (P : Run → Type 0) → StepsKeep P → (r : Run) → P r → P (finished r)
finished_keeps P keep r p =
    let s = begun r.dump r in
    let t = copied_out (names_in s.dump) s in
    let u = marked_out t in
    repeated_keeps P keep (Tail last_step) tt (suc (length u.made)) u (repeated_keeps P keep Mark tt 1 t (copied_keeps P keep (names_in s.dump) s (begun_keeps P keep r p)))

-- a step keeps what stage and history have
pub base_kept : (Q : Stage → List Made → Type 0) → StepsKeep (λ (r : Run). Q r.stage r.made)
base_kept Q l s r p = by (on_line l r) (line_same l r s)
  where
    by : (x : Result Run Refusal) → SameBase r x → Kept (λ (t : Run). Q t.stage t.made) x
    by (Ok t) e = subst (λ (z : Stage). Q z t.made) (sym e.0) (subst (λ (z : List Made). Q r.stage z) (sym e.1) p)
    by (Err y) e = tt
