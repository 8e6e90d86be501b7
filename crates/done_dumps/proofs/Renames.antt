-- A command that is no rename makes none.
use Rattle.std.proofs.Common.{◌≡◌, List, [], ◌∷◌, Bool, true, false, subst, Option, Some, None, Result, Ok, Err}
use Rattle.bson_value.specs.declared.namespace.NsName.{NsName}
use Rattle.json_tree.specs.declared.tree.Tree.{Tree}
use Rattle.schedule_model.specs.declared.command.Command.{Command}
use Rattle.schedule_model.specs.declared.command.Command.TheVariants as commands
use Rattle.schedule_model.specs.declared.refused.Refused.{Refused}
use Rattle.history_model.specs.Documents.{normal_of}
use Rattle.history_model.specs.Stages.{Stage, Effect}
use Rattle.history_model.specs.Refusals.{first_of}
use Rattle.history_model.specs.Commands.{RecordedWrite, document_changes, changes_together, group_of, is_too_large, or_too_large, grouped, one_each, unless_refused, index_effects, command_rows, command_effects, effects}
use Rattle.history_model.proofs.Accepted.{same_ok}
use Rattle.done_dumps.specs.Laws.{IsNoRename}
use Rattle.done_dumps.proofs.Room.{NoneRenames}

each_none : (cs : List RecordedWrite) → NoneRenames (one_each cs)
each_none [] = tt
each_none (c ∷ cs) = (tt, each_none cs)

index_none : (n : NsName) (o : Option Tree) → NoneRenames (index_effects n o)
index_none n None = tt
index_none n (Some d) = (tt, tt)

told : (x : Option Refused) (ds es : List Effect) → unless_refused x ds ≡ Ok es → NoneRenames ds → NoneRenames es
told (Some x) ds es e h = absurd cc
told None ds es e h = subst NoneRenames (same_ok ds es e) h

group_none : (cs : List RecordedWrite) → NoneRenames (group_of cs)
group_none [] = tt
group_none (c ∷ cs) = (tt, tt)

grouped_none : (x : Result (List RecordedWrite) Refused) (ds : List Effect) → grouped x ≡ Ok ds → NoneRenames ds
grouped_none (Err x) ds e = absurd cc
grouped_none (Ok cs) ds e = by (is_too_large (group_of cs)) e
  where
    by : (b : Bool) → or_too_large b (group_of cs) ≡ Ok ds → NoneRenames ds
    by true q = absurd cc
    by false q = subst NoneRenames (same_ok (group_of cs) ds q) (group_none cs)

alone_none : (k : Command) (st : Stage) (ds : List Effect) → unless_refused (first_of (command_rows k st)) (command_effects k st) ≡ Ok ds → NoneRenames (command_effects k st) → NoneRenames ds
alone_none k st ds e h = told (first_of (command_rows k st)) (command_effects k st) ds e h

pub none_renamed : (k : Command) (st : Stage) (ds : List Effect) → IsNoRename k → effects k st ≡ Ok ds → NoneRenames ds
none_renamed (commands.At s) st ds n e = alone_none (commands.At s) st ds e tt
none_renamed (commands.Recording f) st ds n e = alone_none (commands.Recording f) st ds e tt
none_renamed (commands.Create c o) st ds n e = alone_none (commands.Create c o) st ds e (tt, tt)
none_renamed (commands.DropColl c) st ds n e = alone_none (commands.DropColl c) st ds e (tt, tt)
none_renamed (commands.DropDatabase db) st ds n e = alone_none (commands.DropDatabase db) st ds e (tt, tt)
none_renamed (commands.Rename a b) st ds n e = absurd n
none_renamed (commands.Document d) st ds n e = alone_none (commands.Document d) st ds e (each_none (document_changes st.form d st.rows))
none_renamed (commands.CreateIndex c d) st ds n e = alone_none (commands.CreateIndex c d) st ds e (index_none c (normal_of d))
none_renamed (commands.DropIndex c i) st ds n e = alone_none (commands.DropIndex c i) st ds e (tt, tt)
none_renamed (commands.Txn cs) st ds n e = grouped_none (changes_together st.form cs st.rows) ds e
