-- The writes that the lines of a schedule make are twice as many as the lines of its text at most.
use Rattle.std.proofs.Common.{◌≡◌, ℕ, suc, ◌+◌, ◌*◌, ◌≤◌, List, [], ◌∷◌, ◌++◌, length, Bool, true, false, not, refl, ap, subst, arith, Option, Some, None, Result, Ok, Err}
use Rattle.std.proofs.lemmas.List.{length-append, length-map}
use Rattle.std.specs.Prelude.{◌&&◌}
use Rattle.bson_value.specs.declared.namespace.NsName.{NsName}
use Rattle.doc_path.specs.declared.parts.Form.{Form}
use Rattle.json_tree.specs.declared.tree.Tree.{Tree}
use Rattle.coll_state.specs.Rows.{Rows}
use Rattle.schedule_model.specs.declared.command.DocumentCommand.{DocumentCommand}
use Rattle.schedule_model.specs.declared.command.DocumentCommand.TheVariants.{Insert, Replace, Update, Delete}
use Rattle.schedule_model.specs.declared.command.Command.{Command}
use Rattle.schedule_model.specs.declared.command.Command.TheVariants as commands
use Rattle.schedule_model.specs.declared.line.Line.{Line}
use Rattle.schedule_model.specs.declared.line.Line.TheVariants as lines
use Rattle.schedule_model.specs.declared.refused.Refused.{Refused}
use Rattle.schedule_model.specs.declared.refused.Refused.TheVariants.{NoSuchNamespace}
use Rattle.history_model.specs.Documents.{normal_of}
use Rattle.history_model.specs.Entries.{One}
use Rattle.history_model.specs.Stages.{Single, Stage, Made, Effect, stage_by, stage_after, made_in}
use Rattle.history_model.specs.Refusals.{is_there, first_of, document_rows, document_refusal}
use Rattle.history_model.specs.Commands.{RecordedWrite, document_changes, rows_of_changes, and_then, changes_together, group_of, is_too_large, or_too_large, grouped, one_each, unless_refused, index_effects, command_rows, command_effects, effects, set_by, answered, applied}
use Rattle.history_model.specs.Runs.{Run, Refusal, first_run, commanded, on_line, or_refused, after_line, after_lines, run}
use Rattle.history_model.specs.Runs as runs
use Rattle.history_model.proofs.Accepted.{same_ok}
use Rattle.history_model.proofs.Modelled.{SameBase, line_same}
use Rattle.history_model.proofs.Modelled as steps
use Rattle.history_model.proofs.SourceMade.{finished_made}
use Rattle.entry_times.proofs.Few.{effects_few}
use Rattle.archive_length.proofs.Works.{work, work_made, work_join}
use Rattle.archive_length.proofs.Sizes.{size_of_command, size_of, sizes}

abbrev work_of : List Effect → ℕ
work_of [] = 0
work_of (d ∷ ds) = work d.0 + work_of ds

made_work : (ds : List Effect) (st : Stage) → work_made (made_in ds st) ≡ work_of ds
made_work [] st = refl
made_work (d ∷ ds) st = omega (arith, made_work ds (stage_by d st))

each_work : (cs : List RecordedWrite) → work_of (one_each cs) ≡ length (one_each cs)
each_work [] = omega arith
each_work (c ∷ cs) = omega (arith, each_work cs)

index_work : (n : NsName) (o : Option Tree) → work_of (index_effects n o) ≡ length (index_effects n o)
index_work n None = omega arith
index_work n (Some d) = omega arith

command_work : (k : Command) (st : Stage) → work_of (command_effects k st) ≡ length (command_effects k st)
command_work (commands.At s) st = omega arith
command_work (commands.Recording f) st = omega arith
command_work (commands.Create n o) st = omega arith
command_work (commands.DropColl n) st = omega arith
command_work (commands.DropDatabase db) st = omega arith
command_work (commands.Rename a b) st = omega arith
command_work (commands.Document d) st = each_work (document_changes st.form d st.rows)
command_work (commands.CreateIndex n d) st = index_work n (normal_of d)
command_work (commands.DropIndex n i) st = omega arith
command_work (commands.Txn ds) st = omega arith

told_work : (x : Option Refused) (ds es : List Effect) → unless_refused x ds ≡ Ok es → work_of ds ≡ length ds → work_of es ≡ length es
told_work (Some x) ds es e h = absurd cc
told_work None ds es e h = subst (λ (l : List Effect). work_of l ≡ length l) (same_ok ds es e) h

abbrev rest_of : List (Bool × Refused) → List (Bool × Refused)
rest_of [] = []
rest_of (x ∷ xs) = xs

-- in a transaction an insert makes no collection
fewer_rows : (b : Bool) (rest : List (Bool × Refused)) → first_of ((b && true, NoSuchNamespace) ∷ rest) ≡ None → first_of ((b && false, NoSuchNamespace) ∷ rest) ≡ None
fewer_rows true rest e = absurd cc
fewer_rows false rest e = e

-- a command that isn't refused in a transaction isn't refused alone, and makes two writes at most
alone : (d : DocumentCommand) (r : Rows) → document_refusal true d r ≡ None → document_refusal false d r ≡ None
alone (Insert n d) r e = fewer_rows (not (is_there n r)) (rest_of (document_rows true (Insert n d) r)) e
alone (Replace n d) r e = e
alone (Update n id ops) r e = e
alone (Delete n id) r e = e

changes_few : (f : Form) (d : DocumentCommand) (r : Rows) (st : Stage) → document_refusal true d r ≡ None → length (document_changes f d r) ≤ 2
changes_few f d r st e =
    let few = effects_few (commands.Document d) (record st { rows = r; form = f }) (one_each (document_changes f d r)) (ap (λ (x : Option Refused). unless_refused x (one_each (document_changes f d r))) (alone d r e)) in
    omega (arith, few, length-map {B = Effect} (document_changes f d r) (λ (c : RecordedWrite). (Single c.0, One c.1)))

together_few : (f : Form) (ds : List DocumentCommand) (r : Rows) (st : Stage) (cs : List RecordedWrite) → changes_together f ds r ≡ Ok cs → length cs ≤ 2 * length ds
together_few f [] r st cs e = subst (λ (l : List RecordedWrite). length l ≤ 0) (same_ok [] cs e) (omega arith)
together_few f (d ∷ ds) r st cs e = by (document_refusal true d r) refl (changes_together f ds (rows_of_changes (document_changes f d r) r)) refl e (λ more q. together_few f ds (rows_of_changes (document_changes f d r) r) st more q)
  where
    by : (o : Option Refused) → document_refusal true d r ≡ o → (x : Result (List RecordedWrite) Refused) → changes_together f ds (rows_of_changes (document_changes f d r) r) ≡ x → and_then o (document_changes f d r) x ≡ Ok cs →
        ((more : List RecordedWrite) → changes_together f ds (rows_of_changes (document_changes f d r) r) ≡ Ok more → length more ≤ 2 * length ds) → length cs ≤ 2 * suc (length ds)
    by (Some z) p x q g rest = absurd cc
    by None p (Err z) q g rest = absurd cc
    by None p (Ok more) q g rest =
        subst (λ (l : List RecordedWrite). length l ≤ 2 * suc (length ds)) (same_ok (document_changes f d r ++ more) cs g)
        (omega (arith, length-append (document_changes f d r) more, changes_few f d r st p, rest more q))

group_work : (cs : List RecordedWrite) → work_of (group_of cs) ≤ suc (length cs)
group_work [] = omega arith
group_work (c ∷ cs) = omega (arith, length-map cs (λ (x : RecordedWrite). x.0))

grouped_work : (x : Result (List RecordedWrite) Refused) (ds : List Effect) (n : ℕ) → ((cs : List RecordedWrite) → x ≡ Ok cs → length cs ≤ n) → grouped x ≡ Ok ds → work_of ds ≤ suc n
grouped_work (Err x) ds n h e = absurd cc
grouped_work (Ok cs) ds n h e = by (is_too_large (group_of cs)) e
  where
    by : (b : Bool) → or_too_large b (group_of cs) ≡ Ok ds → work_of ds ≤ suc n
    by true q = absurd cc
    by false q = subst (λ (l : List Effect). work_of l ≤ suc n) (same_ok (group_of cs) ds q) (omega (arith, group_work cs, h cs refl))

alone_work : (k : Command) (st : Stage) (ds : List Effect) → effects k st ≡ Ok ds → unless_refused (first_of (command_rows k st)) (command_effects k st) ≡ Ok ds → work_of ds ≤ 2
alone_work k st ds e f = omega (arith, told_work (first_of (command_rows k st)) (command_effects k st) ds f (command_work k st), effects_few k st ds e)

effects_work : (k : Command) (st : Stage) (ds : List Effect) → effects k st ≡ Ok ds → work_of ds ≤ 2 * size_of_command k
effects_work (commands.Txn cs) st ds e = omega (arith, grouped_work (changes_together st.form cs st.rows) ds (2 * length cs) (λ l q. together_few st.form cs st.rows st l q) e)
effects_work (commands.At s) st ds e = alone_work (commands.At s) st ds e e
effects_work (commands.Recording f) st ds e = alone_work (commands.Recording f) st ds e e
effects_work (commands.Create n o) st ds e = alone_work (commands.Create n o) st ds e e
effects_work (commands.DropColl n) st ds e = alone_work (commands.DropColl n) st ds e e
effects_work (commands.DropDatabase db) st ds e = alone_work (commands.DropDatabase db) st ds e e
effects_work (commands.Rename a b) st ds e = alone_work (commands.Rename a b) st ds e e
effects_work (commands.Document d) st ds e = alone_work (commands.Document d) st ds e e
effects_work (commands.CreateIndex n d) st ds e = alone_work (commands.CreateIndex n d) st ds e e
effects_work (commands.DropIndex n i) st ds e = alone_work (commands.DropIndex n i) st ds e e

applied_work : (k : Command) (st : Stage) (x : Stage × List Made) → applied k st ≡ Ok x → work_made x.1 ≤ 2 * size_of_command k
applied_work k st x e = by (effects k st) refl e
  where
    by : (y : Result (List Effect) Refused) → effects k st ≡ y → answered (set_by k st) y ≡ Ok x → work_made x.1 ≤ 2 * size_of_command k
    by (Err z) f g = absurd cc
    by (Ok ds) f g =
        subst (λ (z : Stage × List Made). work_made z.1 ≤ 2 * size_of_command k) (same_ok (stage_after ds (set_by k st), made_in ds (set_by k st)) x g)
        (omega (arith, made_work ds (set_by k st), effects_work k st ds f))

-- ---- what a run makes

abbrev Makes : ℕ → Run → Run → Type 0
Makes n r s = work_made s.made ≤ work_made r.made + n

told : (i : ℕ) (l : Line) (r : Run) → steps.IsStep l → Makes 1 r (after_line (i, l) r)
told i l r s = by (on_line l r) (line_same l r s)
  where
    by : (x : Result Run Refusal) → SameBase r x → Makes 1 r (or_refused i x r)
    by (Ok y) e = (let a = ap work_made e.1 in omega (arith, a))
    by (Err z) e = omega arith

line_makes : (i : ℕ) (l : Line) (r : Run) → Makes (2 * size_of l) r (after_line (i, l) r)
line_makes i (lines.Cmd k) r = by (applied k r.stage) refl
  where
    by : (y : Result (Stage × List Made) Refused) → applied k r.stage ≡ y → Makes (2 * size_of_command k) r (or_refused i (commanded y r) r)
    by (Err x) e = omega arith
    by (Ok x) e = omega (arith, work_join r.made x.1, applied_work k r.stage x e)
line_makes i lines.Dump r = omega (arith, told i lines.Dump r tt)
line_makes i (lines.Copy n k) r = omega (arith, told i (lines.Copy n k) r tt)
line_makes i lines.Mark r = omega (arith, told i lines.Mark r tt)
line_makes i (lines.Tail k) r = omega (arith, told i (lines.Tail k) r tt)

lines_make : (ls : List (ℕ × Line)) (r : Run) → Makes (2 * sizes ls) r (after_lines ls r)
lines_make [] r = omega arith
lines_make (l ∷ ls) r = omega (arith, line_makes l.0 l.1 r, lines_make ls (after_line l r))

pub run_makes : (s : runs.Schedule) → work_made (run s).made ≤ 2 * sizes s.lines
run_makes s = (let a = ap work_made (finished_made (after_lines s.lines (first_run s.caps))) in omega (arith, a, lines_make s.lines (first_run s.caps)))
