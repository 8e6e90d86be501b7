-- A restore reads of the entry of what is recorded what it stands for.
use Rattle.std.proofs.Common.{◌≡◌, ℕ, List, [], ◌∷◌, ◌++◌, Bool, true, false, not, map, refl, sym, ap, ◌∙◌, subst, Option, Some, None}
use Rattle.std.specs.Prelude.{⊤, codes, ◌&&◌, Result, Ok, Err, if◌then◌else◌}
use Rattle.std.specs.Str.{bytes_eq}
use Rattle.std.specs.List.{before_first}
use Rattle.bson_value.specs.declared.namespace.NsName.{NsName}
use Rattle.bson_value.specs.declared.value.Value.{Value-F, out-Value, Str, Stamp}
use Rattle.bson_value.specs.declared.value.Value.TheVariants.{outs-Str, outs-Stamp}
use Rattle.bson_value.specs.declared.value.Ts.{Ts}
use Rattle.bson_value.specs.Namespace.{IsSplit}
use Rattle.bson_value.proofs.FirstDot.{sides}
use Rattle.extjson.specs.Values.{value_of}
use Rattle.entry_model.specs.declared.entry.Entry.{Entry}
use Rattle.entry_model.specs.declared.entry.Action.{Action, out-Action}
use Rattle.entry_model.specs.declared.entry.Action.TheOpen.{Action-F}
use Rattle.entry_model.specs.declared.entry.Action.TheVariants as actions
use Rattle.entry_model.specs.Written.{Fields}
use Rattle.entry_model.specs.Spelling.{Body, namespace_text, text_of, item_value, body_at, body_of, entry_fields}
use Rattle.entry_model.specs.Reading.{Read, ◌>>=◌, good, stamp_in, text_in, is_dot, head_of, entry_of}
use Rattle.entry_model.proofs.Entries.{reads_back}
use Rattle.state_model.specs.Moves.{Move}
use Rattle.state_model.specs.Cut.{taken}
use Rattle.replay.specs.Moves.{moves_of}
use Rattle.replayed_entries.proofs.Moved.{moves_are}
use Rattle.restore_filter.specs.Rules.{Rules}
use Rattle.restore_filter.specs.Names.{takes}
use Rattle.restore_entries.specs.declared.reading.EntryReading.{EntryReading}
use Rattle.restore_entries.specs.declared.reading.EntryReading.TheVariants.{Passed, Kept, Unreadable}
use Rattle.restore_entries.specs.Cut.{takes_entry, cut_entry}
use Rattle.restore_entries.specs.Laws.{AreSingle, IsSingle, IsFlat, CutIsTaken}
use Rattle.restore_entries.specs.Oplog.{Head, is_asked, at_entry, at_head, from_head, reading_of}
use Rattle.restore_entries.specs.Oplog as oplog
use Rattle.history_model.specs.Entries.{Item, Put, Remove, Whole, Delta, Create, DropColl, DropDb, AddIndex, DropIndex, Content, Nothing, One, Rename, Group, fields_read, database, item_entry, entry_at, content_moves}
use Rattle.history_model.specs.Histories.{is_before}
use Rattle.recorded_entries.specs.Good.{IsGoodName, IsGoodItem, IsGood}
use Rattle.recorded_entries.proofs.Names.{IsDatabaseName, good_db, good_split, good_config, db_of, alone, admin_alone}
use Rattle.recorded_entries.proofs.Written.{good_read, item_ts}
use Rattle.restored_entries.specs.Laws.{StandsFor, kept_moves, GoodIsKept}

-- ---- the database that the text of a namespace names

abbrev database_in : List ℕ → List ℕ
database_in t = before_first is_dot t

OtherText : List ℕ → Type 0
OtherText t = bytes_eq (database_in t) (codes "config") ≡ false

split_other : (text db coll : List ℕ) → IsSplit text db coll → bytes_eq db (codes "config") ≡ false → OtherText text
unfolding OtherText
split_other text db coll s e = ap (λ (d : List ℕ). bytes_eq d (codes "config")) (sym (sides text db coll s).0) ∙ e

name_other : (n : NsName) → IsGoodName n → OtherText (text_of n)
name_other n g = split_other (text_of n) n.db n.coll (good_split n g) (good_config n g)

command_other : (db : List ℕ) → IsDatabaseName db → OtherText (namespace_text db (codes "$cmd"))
command_other db d = split_other (namespace_text db (codes "$cmd")) db (codes "$cmd") (alone db d).0 d.other

nothing_other : OtherText []
unfolding OtherText
nothing_other = refl

admin_other : OtherText (namespace_text (codes "admin") (codes "$cmd"))
admin_other = split_other (namespace_text (codes "admin") (codes "$cmd")) (codes "admin") (codes "$cmd") admin_alone.0 refl

-- by what an action says
item_other : (ts : Ts) (i : Item) → IsGoodItem i → OtherText (body_of (item_entry ts i)).ns
item_other ts (Put n id d) g = subst (λ (f : Action-F Action Entry). OtherText (body_at (map item_value) n f).ns) (sym (actions.outs-Put d)) (name_other n g.0)
item_other ts (Remove n id) g = subst (λ (f : Action-F Action Entry). OtherText (body_at (map item_value) n f).ns) (sym (actions.outs-Remove id)) (name_other n g.0)
item_other ts (Whole n id d) g = subst (λ (f : Action-F Action Entry). OtherText (body_at (map item_value) n f).ns) (sym (actions.outs-Whole id d)) (name_other n g.0)
item_other ts (Delta n id f us) g = subst (λ (x : Action-F Action Entry). OtherText (body_at (map item_value) n x).ns) (sym (actions.outs-Delta id f us)) (name_other n g.0)
item_other ts (Create n o) g = subst (λ (f : Action-F Action Entry). OtherText (body_at (map item_value) n f).ns) (sym (actions.outs-Create o)) (command_other n.db (good_db n g.0))
item_other ts (DropColl n) g = subst (λ (f : Action-F Action Entry). OtherText (body_at (map item_value) n f).ns) (sym actions.outs-DropColl) (command_other n.db (good_db n g))
item_other ts (DropDb db) g = subst (λ (f : Action-F Action Entry). OtherText (body_at (map item_value) (database db) f).ns) (sym actions.outs-DropDb) (command_other db (db_of db g))
item_other ts (AddIndex n d) g = subst (λ (f : Action-F Action Entry). OtherText (body_at (map item_value) n f).ns) (sym (actions.outs-AddIndexes (fields_read (value_of d) ∷ []))) (command_other n.db (good_db n g.0))
item_other ts (DropIndex n i) g = subst (λ (f : Action-F Action Entry). OtherText (body_at (map item_value) n f).ns) (sym (actions.outs-DropIndex i)) (command_other n.db (good_db n g.0))

good_other : (ts : Ts) (c : Content) → IsGood c → OtherText (body_of (entry_at ts c)).ns
good_other ts Nothing g = subst (λ (f : Action-F Action Entry). OtherText (body_at (map item_value) (database []) f).ns) (sym actions.outs-Nothing) nothing_other
good_other ts (One i) g = item_other ts i g
good_other ts (Rename a b) g = subst (λ (f : Action-F Action Entry). OtherText (body_at (map item_value) a f).ns) (sym (actions.outs-Rename a b)) (command_other a.db (good_db a g.0))
good_other ts (Group is) g = subst (λ (f : Action-F Action Entry). OtherText (body_at (map item_value) (database (codes "admin")) f).ns) (sym (actions.outs-Group (map (item_entry ts) is))) admin_other

-- ---- timestamp and text

head_is : (e : Entry) → head_of (entry_fields e) ≡ Ok (e.ts, (body_of e).ns)
head_is e =
    let a : good (codes "ts") (stamp_in (out-Value (Stamp e.ts))) ≡ Ok e.ts = ap (λ (x : Value-F _). good (codes "ts") (stamp_in x)) (outs-Stamp e.ts) in
    let b : good (codes "ns") (text_in (out-Value (Str (body_of e).ns))) ≡ Ok (body_of e).ns = ap (λ (x : Value-F _). good (codes "ns") (text_in x)) (outs-Str (body_of e).ns) in
    let whole : Read Ts → Read (List ℕ) → Read Head = λ x y. x >>= λ ts. (y >>= λ text. Ok (ts, text)) in
    λ i. whole (a i) (b i)

same_before : (l : Option Ts) (ts : Ts) → oplog.is_before l ts ≡ is_before l ts
same_before None ts = refl
same_before (Some l) ts = refl

and_so : (a b : Bool) → b ≡ false → (a && not b) ≡ a
and_so true b e = ap not e
and_so false b e = refl

asked_is : (l : Option Ts) (ts : Ts) (text : List ℕ) → OtherText text → is_asked l (ts, text) ≡ is_before l ts
unfolding OtherText
asked_is l ts text o = and_so (oplog.is_before l ts) (bytes_eq (database_in text) (codes "config")) o ∙ same_before l ts

content_ts : (ts : Ts) (c : Content) → (entry_at ts c).ts ≡ ts
content_ts ts Nothing = refl
content_ts ts (One i) = item_ts ts i
content_ts ts (Rename a b) = refl
content_ts ts (Group is) = refl

reading_is : (r : Rules) (l : Option Ts) (ts : Ts) (c : Content) → IsGood c → reading_of r l (entry_fields (entry_at ts c)) ≡ (if is_before l ts then at_entry r (entry_at ts c) else Passed)
unfolding reading_of
reading_is r l ts c g =
    let e = entry_at ts c in
    let h : Head = (e.ts, (body_of e).ns) in
    ap (from_head r l (entry_fields e)) (head_is e)
    ∙ (ap (λ (x : Read Entry). if is_asked l h then at_head r (entry_fields e) h x else Passed) (good_read reads_back ts c g)
    ∙ ap (λ (b : Bool). if b then at_entry r e else Passed) (asked_is l e.ts (body_of e).ns (good_other ts c g) ∙ ap (is_before l) (content_ts ts c)))

-- ---- a group has no group in it

item_single : (ts : Ts) (i : Item) → IsSingle (out-Action (item_entry ts i).action)
item_single ts (Put n id d) = subst IsSingle (sym (actions.outs-Put d)) tt
item_single ts (Remove n id) = subst IsSingle (sym (actions.outs-Remove id)) tt
item_single ts (Whole n id d) = subst IsSingle (sym (actions.outs-Whole id d)) tt
item_single ts (Delta n id f us) = subst IsSingle (sym (actions.outs-Delta id f us)) tt
item_single ts (Create n o) = subst IsSingle (sym (actions.outs-Create o)) tt
item_single ts (DropColl n) = subst IsSingle (sym actions.outs-DropColl) tt
item_single ts (DropDb db) = subst IsSingle (sym actions.outs-DropDb) tt
item_single ts (AddIndex n d) = subst IsSingle (sym (actions.outs-AddIndexes (fields_read (value_of d) ∷ []))) tt
item_single ts (DropIndex n i) = subst IsSingle (sym (actions.outs-DropIndex i)) tt

items_single : (ts : Ts) (is : List Item) → AreSingle (map (item_entry ts) is)
items_single ts [] = tt
items_single ts (i ∷ is) = (item_single ts i, items_single ts is)

single_flat : (f : Action-F Action Entry) → IsSingle f → IsFlat f
single_flat (Action-F.Group items) h = absurd h
single_flat Action-F.Nothing h = tt
single_flat (Action-F.Put d) h = tt
single_flat (Action-F.Remove id) h = tt
single_flat (Action-F.Whole id d) h = tt
single_flat (Action-F.Delta id f us) h = tt
single_flat (Action-F.Create o) h = tt
single_flat Action-F.DropColl h = tt
single_flat Action-F.DropDb h = tt
single_flat (Action-F.AddIndexes ds) h = tt
single_flat (Action-F.DropIndex i) h = tt
single_flat (Action-F.Rename a b) h = tt
single_flat (Action-F.Other t) h = tt

content_flat : (ts : Ts) (c : Content) → IsFlat (out-Action (entry_at ts c).action)
content_flat ts Nothing = subst IsFlat (sym actions.outs-Nothing) tt
content_flat ts (One i) = single_flat (out-Action (item_entry ts i).action) (item_single ts i)
content_flat ts (Rename a b) = subst IsFlat (sym (actions.outs-Rename a b)) tt
content_flat ts (Group is) = subst IsFlat (sym (actions.outs-Group (map (item_entry ts) is))) (items_single ts is)

-- ---- the whole

entry_stands : (r : Rules) (e : Entry) (ms : List Move) → ms ≡ (if takes_entry r e then moves_of (cut_entry r e) else []) → StandsFor ms (at_entry r e)
entry_stands r e ms h = by (takes_entry r e) h
  where
    by : (b : Bool) → ms ≡ (if b then moves_of (cut_entry r e) else []) → StandsFor ms (if b then Kept (cut_entry r e) else Passed)
    by true q = sym q
    by false q = q

pub good_kept : CutIsTaken → GoodIsKept
good_kept cuts r l ts c g = subst (StandsFor (kept_moves (is_before l ts) r c)) (sym (reading_is r l ts c g)) (by (is_before l ts))
  where
    e : Entry
    e = entry_at ts c

    by : (b : Bool) → StandsFor (kept_moves b r c) (if b then at_entry r e else Passed)
    by true = entry_stands r e (taken (takes r) (content_moves c)) (ap (taken (takes r)) (sym (moves_are ts c g)) ∙ cuts r e (content_flat ts c))
    by false = refl
