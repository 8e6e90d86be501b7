-- Inserts: what they make of a store, by the document that is kept.
use Rattle.std.proofs.Common.{◌≡◌, ℕ, List, [], ◌∷◌, Bool, true, false, cond, refl, sym, ap, ◌∙◌, subst, Option, Some, None, Ok}
use Rattle.std.specs.Prelude.{is_some}
use Rattle.std.specs.FinMap as map
use Rattle.bson_value.specs.declared.namespace.NsName.{NsName}
use Rattle.bson_value.specs.declared.value.Ts.{Ts}
use Rattle.bson_value.specs.declared.value.Value.{Value, Value-F, fold-roll-Value}
use Rattle.bson_value.specs.declared.value.Value.TheVariants as values
use Rattle.extjson.specs.Trees.{tree_step, tree_of}
use Rattle.bson_value.specs.Spelling.{document_text}
use Rattle.bson_encode.specs.Key.{key_of}
use Rattle.entry_model.specs.Spelling.{entry_fields}
use Rattle.entry_model.specs.declared.entry.Action.TheVariants as actions
use Rattle.json_tree.specs.declared.tree.Tree.{Tree}
use Rattle.state_model.specs.Keys.{Key, key_cmp, same_ns}
use Rattle.state_model.specs.States.{no_options}
use Rattle.state_model.proofs.Maps.{ns_at_insert}
use Rattle.coll_state.specs.Rows.{Document as Fields, Rows, key_in, id_of}
use Rattle.coll_state.specs.Changes.{put, put_under, create, fresh_table}
use Rattle.copy_model.specs.Writes as writes
use Rattle.schedule_model.specs.declared.command.Command.{Command}
use Rattle.history_model.specs.Documents.{options_of}
use Rattle.history_model.specs.Entries.{entry_with, entry_bytes}
use Rattle.history_model.specs.Entries as entries
use Rattle.history_model.specs.Indexes.{IndexesOf, IndexesHold}
use Rattle.history_model.specs.Stages.{Single}
use Rattle.history_model.specs.Commands.{only, effects, insert_changes, under_id, one_each}
use Rattle.store_log.specs.Logged.{Logged, next_ts, logged}
use Rattle.store_core.specs.Stores.{Stored}
use Rattle.store_core.specs.Applying.{Makes, stage_in, stored_set, next_entry}
use Rattle.store_core.specs.Documents.{insert_effects, IsKept}
use Rattle.store_core.proofs.Bytes.{entry_text}
use Rattle.store_core.proofs.Made.{holds_one, holds_two, made_one, made_two}
use Rattle.coll_state.proofs.Sound.{some_table}

pub empty_options : options_of [] ≡ no_options
unfolding options_of
empty_options = ap tree_of (sym (values.rolls-Object [])) ∙ fold-roll-Value Tree tree_step (Value-F.Object [])

no_id : (d : Fields) → IsKept d → id_of d ≡ None → ⊥
no_id d k e = (let f = ap is_some (sym e) ∙ k.id in cc)

-- ---- into a collection that is there

into_is : (n : NsName) (d : Fields) (id : Value) → id_of d ≡ Some id → insert_effects true n d ≡ only (writes.Put n (key_of id) d) (entries.Put n id d)
into_is n d id e = ap (λ (o : Option Value). one_each (under_id (λ i. insert_changes true n i d) o)) e

first_is : (n : NsName) (d : Fields) (id : Value) → id_of d ≡ Some id →
    insert_effects false n d ≡ (Single (writes.Create n (options_of [])), entries.One (entries.Create n [])) ∷ (Single (writes.Put n (key_of id) d), entries.One (entries.Put n id d)) ∷ []
first_is n d id e = ap (λ (o : Option Value). one_each (under_id (λ i. insert_changes false n i d) o)) e

pub into_holds : (c : Command) (s : Stored) (n : NsName) (d : Fields) → IsKept d → IndexesHold s.rows → effects c (stage_in s) ≡ Ok (insert_effects true n d) → IndexesHold (put n d s.rows)
into_holds c s n d k h e = by (id_of d) refl
  where
    by : (o : Option Value) → id_of d ≡ o → IndexesHold (put n d s.rows)
    by None f = absurd (no_id d k f)
    by (Some id) f =
        subst (λ (q : Key). IndexesHold (put_under n q d s.rows)) (sym (ap key_in f))
        (holds_one c s (writes.Put n (key_of id) d) (entries.Put n id d) h (e ∙ ap Ok (into_is n d id f)))

abbrev stored : Rows → Logged → Stored
stored r l = record { rows = r; log = l }

pub into_made : (c : Command) (n : NsName) (d : Fields) (old new : Stored) (bytes : List ℕ) (ts : Ts) → stored_set c old ≡ old → IsKept d → effects c (stage_in old) ≡ Ok (insert_effects true n d) → ts ≡ next_ts old.log.clock old.log.newest →
    bytes ≡ document_text (entry_fields (entry_with ts n (actions.Put d))) → new ≡ record { rows = put n d old.rows; log = logged bytes old.log } → Makes c old 1 new
into_made c n d old new bytes ts same k e t b f = by (id_of d) refl
  where
    by : (o : Option Value) → id_of d ≡ o → Makes c old 1 new
    by None g = absurd (no_id d k g)
    by (Some id) g =
        made_one c (writes.Put n (key_of id) d) (entries.Put n id d) old new bytes ts same (e ∙ ap Ok (into_is n d id g)) t b
        (f ∙ ap (λ (q : Key). stored (put_under n q d old.rows) (logged bytes old.log)) (ap key_in g))

-- ---- into a collection that is made first

pub first_holds : (c : Command) (s : Stored) (n : NsName) (d : Fields) → IsKept d → IndexesHold s.rows → effects c (stage_in s) ≡ Ok (insert_effects false n d) → IndexesHold (put n d (create n no_options s.rows))
first_holds c s n d k h e = by (id_of d) refl
  where
    by : (o : Option Value) → id_of d ≡ o → IndexesHold (put n d (create n no_options s.rows))
    by None f = absurd (no_id d k f)
    by (Some id) f =
        subst (λ (t : Tree). IndexesHold (put n d (create n t s.rows))) empty_options
        (subst (λ (q : Key). IndexesHold (put_under n q d (create n (options_of []) s.rows))) (sym (ap key_in f))
        (holds_two c s (writes.Create n (options_of [])) (writes.Put n (key_of id) d) (entries.Create n []) (entries.Put n id d) h (e ∙ ap Ok (first_is n d id f))))

-- the bytes of a creation without options
pub creation_text : (n : NsName) (l : Logged) (b : List ℕ) (ts : Ts) (o : Fields) → o ≡ [] → ts ≡ next_ts l.clock l.newest → b ≡ document_text (entry_fields (entry_with ts n (actions.Create o))) → b ≡ entry_bytes (next_entry (entries.One (entries.Create n [])) l)
creation_text n l b ts o e t f =
    f ∙ ((λ i. document_text (entry_fields (entry_with (t i) n (actions.Create (e i))))) ∙ entry_text (next_ts l.clock l.newest) (entries.One (entries.Create n [])))

pub first_made : (c : Command) (n : NsName) (d : Fields) (old new : Stored) (creation bytes : List ℕ) (later : Ts) → stored_set c old ≡ old → IsKept d → effects c (stage_in old) ≡ Ok (insert_effects false n d) → later ≡ next_ts old.log.clock (next_ts old.log.clock old.log.newest) →
    creation ≡ entry_bytes (next_entry (entries.One (entries.Create n [])) old.log) → bytes ≡ document_text (entry_fields (entry_with later n (actions.Put d))) → new ≡ record { rows = put n d (create n no_options old.rows); log = logged bytes (logged creation old.log) } → Makes c old 2 new
first_made c n d old new creation bytes later same k e t a b f = by (id_of d) refl
  where
    by : (o : Option Value) → id_of d ≡ o → Makes c old 2 new
    by None g = absurd (no_id d k g)
    by (Some id) g =
        made_two c (writes.Create n (options_of [])) (writes.Put n (key_of id) d) (entries.Create n []) (entries.Put n id d) old new creation bytes (next_ts old.log.clock old.log.newest) later same (e ∙ ap Ok (first_is n d id g)) refl t
        (a ∙ sym (entry_text (next_ts old.log.clock old.log.newest) (entries.One (entries.Create n [])))) b
        (f ∙ (λ i. stored (put_under n (ap key_in g i) d (create n (sym empty_options i) old.rows)) (logged bytes (logged creation old.log))))

-- ---- a collection that is made

no_definition : (d : Tree) → None ≡ Some d → ⊥
no_definition d e = cc

fresh_holds : (inc : ℕ) (o : Tree) → IndexesOf (fresh_table inc o)
fresh_holds inc o i d e = absurd (no_definition d (sym (map.get-empty {X = Tree} key_cmp i) ∙ e))

pub create_holds : (n : NsName) (o : Tree) (r : Rows) → IndexesHold r → IndexesHold (create n o r)
create_holds n o r h m t e = by (same_ns m n) (sym (ns_at_insert r.tables n (fresh_table r.count o) m) ∙ e)
  where
    by : (b : Bool) → cond b (Some (fresh_table r.count o)) (map.get r.tables m) ≡ Some t → IndexesOf t
    by true f = subst IndexesOf (some_table (fresh_table r.count o) t f) (fresh_holds r.count o)
    by false f = h m t f
