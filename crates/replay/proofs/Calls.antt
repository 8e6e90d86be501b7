-- What single calls make of the collections.
use Rattle.std.proofs.Common.{◌≡◌, true, false, List, map, refl, sym, ap, ◌∙◌, Option, Some, None}
use Rattle.std.specs.Prelude.{option_map, is_some, is_none, codes}
use Rattle.std.specs.Str.{bytes_eq}
use Rattle.bson_value.specs.declared.value.Value.{Value}
use Rattle.bson_value.specs.declared.value.Value.TheVariants.{Object}
use Rattle.bson_value.specs.declared.namespace.NsName.{NsName}
use Rattle.bson_view.specs.declared.held.Held.{Held}
use Rattle.bson_encode.specs.Key.{key_of}
use Rattle.doc_path.specs.declared.parts.Form.{Form}
use Rattle.doc_path.specs.declared.touches.Touch.{Touch}
use Rattle.doc_path.specs.Played.{played_all, touch_of}
use Rattle.json_tree.specs.declared.tree.Tree.{Tree}
use Rattle.extjson.specs.Trees.{tree_of}
use Rattle.index_keys.specs.Definition.{normal}
use Rattle.state_model.specs.States.{State}
use Rattle.state_model.specs.Moves as moves
use Rattle.state_model.specs.Replay.{replay, replay_all}
use Rattle.coll_state.specs.Rows.{Document, Rows, id_of, key_in, state_of}
use Rattle.coll_state.specs.Changes.{put, put_under, document_at, add_index}
use Rattle.coll_state.specs.Definitions.{definition_name}
use Rattle.coll_state.specs.Kept.{shown, shown_in}
use Rattle.coll_state.proofs.Links.{add_index_link}
use Rattle.replay.specs.Moves.{put_moves, with_id, deltas, options_of, normal_of, definition_moves}
use Rattle.replay.proofs.Ids.{id_kept, id_put}
use Rattle.replay.proofs.States.{absent_change, absent_deltas, change_made, deltas_made, put_made}

-- ---- what a look shows

pub not_there : (o : Option Held) (p : Option Document) → option_map shown_in o ≡ option_map shown p → is_none o ≡ true → p ≡ None
not_there None None e h = refl
not_there None (Some d) e h = cc
not_there (Some x) p e h = cc

pub is_there : (o : Option Held) (p : Option Document) → option_map shown_in o ≡ option_map shown p → is_none o ≡ false → (d : Document) × (p ≡ Some d)
is_there None p e h = cc
is_there (Some x) None e h = cc
is_there (Some x) (Some d) e h = (d, refl)

-- ---- whole documents

pub whole_absent : (n : NsName) (v : Value) (x : Document) (s : Rows) → document_at n (key_of v) s.tables ≡ None → state_of s ≡ replay (moves.Whole n (key_of v) (Object (with_id v x))) (state_of s)
whole_absent n v x s h = sym (absent_change s n (key_of v) (λ z. Object (with_id v x)) h)

pub whole_id : (v : Value) (x e : Document) → e ≡ with_id v x → id_of e ≡ Some v
whole_id v x e is = ap id_of is ∙ id_put v x

pub whole_has_id : (v : Value) (x e : Document) → e ≡ with_id v x → is_some (id_of e) ≡ true
whole_has_id v x e is = ap is_some (whole_id v x e is)

pub whole_put : (n : NsName) (v : Value) (x e d : Document) (s t : Rows) → document_at n (key_of v) s.tables ≡ Some d → e ≡ with_id v x → t ≡ put n e s → state_of t ≡ replay (moves.Whole n (key_of v) (Object (with_id v x))) (state_of s)
whole_put n v x e d s t h is new =
    ap state_of (new ∙ ap (λ (o : Option Value). put_under n (key_in o) e s) (whole_id v x e is))
    ∙ change_made s n (key_of v) (λ z. Object (with_id v x)) d e h (ap (λ (y : Document). Object y) is)

-- ---- touches

pub touches_absent : (n : NsName) (v : Value) (f : Form) (ts : List Touch) (s : Rows) → document_at n (key_of v) s.tables ≡ None → state_of s ≡ replay_all (deltas n (key_of v) f ts) (state_of s)
touches_absent n v f ts s h = sym (absent_deltas s n (key_of v) f ts h)

some_id : (o : Option Value) (v : Value) → key_in o ≡ key_of v → is_some o ≡ true
some_id None v e = cc
some_id (Some w) v e = refl

pub played_has_id : (v : Value) (f : Form) (ts : List Touch) (d e : Document) → key_in (id_of d) ≡ key_of v → Object e ≡ played_all f (map touch_of ts) (Object d) → is_some (id_of e) ≡ true
played_has_id v f ts d e k is = ap is_some (id_kept f ts d e is) ∙ some_id (id_of d) v k

pub played_put : (n : NsName) (v : Value) (f : Form) (ts : List Touch) (d e : Document) (s t : Rows) → document_at n (key_of v) s.tables ≡ Some d → key_in (id_of d) ≡ key_of v → Object e ≡ played_all f (map touch_of ts) (Object d) → t ≡ put n e s →
    state_of t ≡ replay_all (deltas n (key_of v) f ts) (state_of s)
played_put n v f ts d e s t h k is new =
    ap state_of (new ∙ ap (λ z. put_under n z e s) (ap key_in (id_kept f ts d e is) ∙ k)) ∙ deltas_made s n (key_of v) f ts d e h is

-- ---- options and definitions

pub options_is : (d : Document) (t : Tree) → t ≡ tree_of (Object d) → options_of d ≡ t
unfolding options_of
options_is d t e = sym e

pub normal_is : (d : Document) (t : Tree) (o : Option Tree) → t ≡ tree_of (Object d) → o ≡ normal t → normal_of d ≡ o
unfolding normal_of
normal_is d t o e f = ap normal (sym e) ∙ sym f

pub passed_over : (n : NsName) (d : Tree) (s : State) → bytes_eq (definition_name d) (codes "_id_") ≡ true → s ≡ replay_all (definition_moves n (Some d)) s
passed_over n d s e = rw e refl

pub definition_added : (n : NsName) (d : Tree) (s t : Rows) → bytes_eq (definition_name d) (codes "_id_") ≡ false → t ≡ add_index n d s → state_of t ≡ replay_all (definition_moves n (Some d)) (state_of s)
definition_added n d s t e new = rw e (ap state_of new ∙ add_index_link n d s)

-- ---- a document that is put

pub put_is : (n : NsName) (d x : Document) (s t : Rows) → x ≡ d → is_some (id_of d) ≡ true → t ≡ put n x s → state_of t ≡ replay_all (put_moves n d (id_of d)) (state_of s)
put_is n d x s t e h new = ap state_of (new ∙ ap (λ (y : Document). put n y s) e) ∙ put_made n d s h
