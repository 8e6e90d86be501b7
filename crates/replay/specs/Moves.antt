-- The moves of an entry. They are made in steps: those of one step all together, or none of them.
use Rattle.std.specs.Prelude.{ℕ, ◌+◌, List, [], ◌∷◌, map, codes, Bool, if◌then◌else◌, Option, Some, None}
use Rattle.std.specs.Str.{bytes_eq}
use Rattle.containers.specs.Entries.{put}
use Rattle.bson_value.specs.declared.value.Value.{Value}
use Rattle.bson_value.specs.declared.value.Value.TheVariants.{Object}
use Rattle.bson_value.specs.declared.namespace.NsName.{NsName}
use Rattle.bson_encode.specs.Key.{key_of}
use Rattle.doc_path.specs.declared.parts.Form.{Form}
use Rattle.doc_path.specs.declared.touches.Touch.{Touch}
use Rattle.doc_path.specs.Played.{id_name, touch_of}
use Rattle.json_tree.specs.declared.tree.Tree.{Tree}
use Rattle.extjson.specs.Trees.{tree_of}
use Rattle.index_keys.specs.Definition.{normal}
use Rattle.state_model.specs.Keys.{Key}
use Rattle.state_model.specs.Moves.{Move}
use Rattle.state_model.specs.Moves as moves
use Rattle.state_model.specs.Windows.{joined}
use Rattle.coll_state.specs.Rows.{Document, id_of}
use Rattle.coll_state.specs.Definitions.{definition_name}
use Rattle.entry_model.specs.declared.entry.Entry.{Entry, fold-Entry}
use Rattle.entry_model.specs.declared.entry.Action.TheOpen.{Action-F}
use Rattle.entry_model.specs.Edits.{gathered}

abbrev pub Step : Type 0
Step = List Move

-- entries of this database do nothing
abbrev pub is_config : NsName → Bool
is_config n = bytes_eq n.db (codes "config")

-- ---- what each action does, at once

-- a document without an `_id` is put nowhere
abbrev pub put_moves : NsName → Document → Option Value → Step
put_moves n d None = []
put_moves n d (Some id) = moves.Put n (key_of id) (Object d) ∷ []

-- `_id` stands in the place of the document's own, or else last
abbrev pub with_id : Value → Document → Document
with_id id d = put id_name id d

-- a touch a move
abbrev pub deltas : NsName → Key → Form → List Touch → Step
deltas n k f [] = []
deltas n k f (t ∷ ts) = moves.Delta n k f (touch_of t) ∷ deltas n k f ts

unfoldable pub options_of : Document → Tree
options_of o = tree_of (Object o)

unfoldable pub normal_of : Document → Option Tree
normal_of d = normal (tree_of (Object d))

-- a definition in normal form; that of the `_id` isn't added, nor one without a normal form
abbrev pub definition_moves : NsName → Option Tree → Step
definition_moves n None = []
definition_moves n (Some d) = if bytes_eq (definition_name d) (codes "_id_") then [] else moves.AddIndex n (definition_name d) d ∷ []

abbrev pub moves_at : {A E : Type 0} → NsName → Action-F A E → Step
moves_at n (Action-F.Put d) = put_moves n d (id_of d)
moves_at n (Action-F.Remove id) = moves.Remove n (key_of id) ∷ []
moves_at n (Action-F.Whole id d) = moves.Whole n (key_of id) (Object (with_id id d)) ∷ []
moves_at n (Action-F.Delta id f ts) = deltas n (key_of id) f ts
moves_at n (Action-F.Create o) = moves.Create n (options_of o) ∷ []
moves_at n Action-F.DropColl = moves.DropColl n ∷ []
moves_at n Action-F.DropDb = moves.DropDb n.db ∷ []
moves_at n (Action-F.DropIndex i) = moves.DropIndex n i ∷ []
moves_at n _ = []

-- ---- the steps of an entry: one for each definition, those of a group's entries one after the other, or else one

abbrev pub steps_at : {A : Type 0} → NsName → Action-F A (List Step) → List Step
steps_at n (Action-F.AddIndexes ds) = map (λ d. definition_moves n (normal_of d)) ds
steps_at n (Action-F.Group items) = gathered (λ steps. steps) items
steps_at n a = moves_at n a ∷ []

unfoldable pub steps_of : Entry → List Step
steps_of = fold-Entry (NsName → List Step) (List Step) (λ a n. steps_at n a) (λ e. if is_config e.ns then [] else e.action e.ns)

-- what the entry stands for
abbrev pub moves_of : Entry → List Move
moves_of e = joined (steps_of e)

-- ---- how many items an entry has: those of a group, of groups in it too, or else one

abbrev pub total : List ℕ → ℕ
total [] = 0
total (n ∷ ns) = n + total ns

abbrev pub count_at : {A : Type 0} → Action-F A ℕ → ℕ
count_at (Action-F.Group items) = total items
count_at a = 1

unfoldable pub item_count : Entry → ℕ
item_count = fold-Entry ℕ ℕ count_at (λ e. e.action)
