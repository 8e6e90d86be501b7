-- What takings make of a state, each under its own name.
use Rattle.std.proofs.Common.{◌≡◌, ◌≢◌, ℕ, List, [], ◌∷◌, ◌++◌, Bool, true, false, cond, refl, sym, ap, ◌∙◌, Option, Some, None}
use Rattle.std.specs.Prelude.{map as each, Ok}
use Rattle.std.specs.Result.{result_unwrap_or}
use Rattle.std.specs.FinMap as map
use Rattle.std.proofs.lemmas.Slice.Eq.{bytes_eq-Decides}
use Rattle.bson_value.specs.declared.namespace.NsName.{NsName}
use Rattle.bson_value.specs.declared.value.Value.{Value, Object}
use Rattle.bson_value.specs.Spelling.{document_text}
use Rattle.bson_encode.specs.Key.{key_of}
use Rattle.doc_path.specs.Played.{id_name}
use Rattle.state_model.specs.Keys.{Key}
use Rattle.state_model.specs.States.{State, Collection, or_fresh}
use Rattle.state_model.specs.Moves.{Put}
use Rattle.state_model.specs.Replay.{replay}
use Rattle.state_model.proofs.Maps.{ns_insert_same}
use Rattle.coll_state.specs.Rows.{Document as Fields, Row, Table, Rows, key_in, id_of}
use Rattle.copy_model.specs.Blocks.{Part, base_step, base_from, AreOf}
use Rattle.copy_model.specs.Blocks as blocks
use Rattle.archive_format.specs.Shapes.{is_oplog}
use Rattle.archive_format.specs.Archive.{Taking, end}
use Rattle.archive_content.specs.Pieces.{all_takings}
use Rattle.restore_plan.specs.Base.{ns_of, named_step, made, document_taken}
use Rattle.history_model.specs.Entries.{OplogEntry, entry_bytes}
use Rattle.history_model.specs.Runs.{Step, Documents, Entries}
use Rattle.dump_model.specs.Archives.{oplog, document_texts, all_pieces}
use Rattle.recorded_entries.specs.Good.{IsGoodDocument}
use Rattle.recorded_entries.specs.Kept.{IsKeptRow, AreKeptRows, AreKept}
use Rattle.entry_bytes.proofs.Decoded.{documents_are_read}
use Rattle.dump_steps.specs.Steps.{AreStepsOf}
use Rattle.dump_steps.proofs.Pieces.{good_named, good_apart}
use Rattle.dump_content.proofs.Metas.{not_oplog}
use Rattle.archive_entries.proofs.Takings.{docs, ends, step_takings}
use Rattle.archive_base.proofs.ReadOrder.{row_parts, end_parts, parts}

-- the oplog is passed over
abbrev pub own_step : State → Taking → State
own_step s t = named_step (ns_of t) s t

abbrev pub full_step : State → Taking → State
full_step s t = cond (is_oplog (ns_of t)) s (own_step s t)

abbrev pub full_from : State → List Taking → State
full_from s [] = s
full_from s (t ∷ ts) = full_from (full_step s t) ts

pub full_join : (s : State) (xs ys : List Taking) → full_from s (xs ++ ys) ≡ full_from (full_from s xs) ys
full_join s [] ys = refl
full_join s (x ∷ xs) ys = full_join (full_step s x) xs ys

base_join : (s : State) (xs ys : List Part) → base_from s (xs ++ ys) ≡ base_from (base_from s xs) ys
base_join s [] ys = refl
base_join s (x ∷ xs) ys = base_join (base_step s x) xs ys

first_id : (id : Value) (d : Fields) → IsGoodDocument id d → key_in (id_of d) ≡ key_of id
first_id id d g = ap (λ (l : Fields). key_in (id_of l)) g.first.1 ∙ ap (λ (b : Bool). key_in (cond b (Some id) (id_of g.first.0))) ((bytes_eq-Decides id_name id_name).1 refl)

of_doc : (s : State) (n : NsName) (w : Row) → is_oplog n ≡ false → IsKeptRow w → full_from s (docs n (document_text w.document ∷ [])) ≡ base_step s (blocks.Document n w.key (Object w.document))
of_doc s n w h k =
    let again : document_taken (document_text w.document) ≡ w.document = ap (λ x. result_unwrap_or x []) (documents_are_read k.0 w.document k.1) in
    let key : key_in (id_of w.document) ≡ w.key = first_id k.0 w.document k.1 ∙ sym k.2 in
    ap (λ (b : Bool). cond b s (replay (Put n (key_in (id_of (document_taken (document_text w.document)))) (Object (document_taken (document_text w.document)))) s)) h
    ∙ (ap (λ (d : Fields). replay (Put n (key_in (id_of d)) (Object d)) s) again ∙ ap (λ (i : Key). replay (Put n i (Object w.document)) s) key)

of_docs : (s : State) (n : NsName) (ws : List Row) → is_oplog n ≡ false → AreKeptRows ws → full_from s (docs n (document_texts ws)) ≡ base_from s (row_parts n ws)
of_docs s n [] h k = refl
of_docs s n (w ∷ ws) h k = ap (λ (x : State). full_from x (docs n (document_texts ws))) (of_doc s n w h k.0) ∙ of_docs (base_step s (blocks.Document n w.key (Object w.document))) n ws h k.1

of_made : (s : State) (n : NsName) (o : Option Collection) → map.get s n ≡ o → made n o s ≡ map.insert s n (or_fresh o)
of_made s n None e = refl
of_made s n (Some c) e = sym (ns_insert_same s n c e)

of_ends : (s : State) (n : NsName) (b : Bool) → is_oplog n ≡ false → full_from s (ends n b) ≡ base_from s (end_parts n b)
of_ends s n false h = refl
of_ends s n true h = ap (λ (b : Bool). cond b s (made n (map.get s n) s)) h ∙ of_made s n (map.get s n) refl

no_entries : (s : State) (bs : List (List ℕ)) (ts : List Taking) → full_from s (docs oplog bs ++ ts) ≡ full_from s ts
no_entries s [] ts = refl
no_entries s (b ∷ bs) ts = no_entries s bs ts

no_end : (s : State) (b : Bool) (ts : List Taking) → full_from s (ends oplog b ++ ts) ≡ full_from s ts
no_end s true ts = refl
no_end s false ts = refl

pub of_steps : (r : Rows) (s : State) (ss : List Step) → AreKept r → AreStepsOf r ss → full_from s (all_takings (all_pieces ss)) ≡ base_from s (parts ss)
of_steps r s [] k h = refl
of_steps r s (Documents n rs ended ∷ ss) k h =
    ap (full_from s) (step_takings n (document_texts rs) ended (all_pieces ss))
    ∙ (full_join s (docs n (document_texts rs)) (ends n ended ++ all_takings (all_pieces ss))
    ∙ (ap (λ (x : State). full_from x (ends n ended ++ all_takings (all_pieces ss))) (of_docs s n rs other h.1)
    ∙ (full_join (base_from s (row_parts n rs)) (ends n ended) (all_takings (all_pieces ss))
    ∙ (ap (λ (x : State). full_from x (all_takings (all_pieces ss))) (of_ends (base_from s (row_parts n rs)) n ended other)
    ∙ (of_steps r (base_from (base_from s (row_parts n rs)) (end_parts n ended)) ss k h.3
    ∙ (sym (base_join (base_from s (row_parts n rs)) (end_parts n ended) (parts ss))
    ∙ sym (base_join s (row_parts n rs) (end_parts n ended ++ parts ss))))))))
  where
    there : (o : Option Table) → map.get r.tables n ≡ o → is_oplog n ≡ false
    there None e = absurd (h.0 e)
    there (Some t) e = (let g = (k n t e).0 in not_oplog n (good_named n g) (good_apart n g))

    other : is_oplog n ≡ false
    other = there (map.get r.tables n) refl
of_steps r s (Entries es last ∷ ss) k h =
    ap (full_from s) (step_takings oplog (each entry_bytes es) last (all_pieces ss))
    ∙ (no_entries s (each entry_bytes es) (ends oplog last ++ all_takings (all_pieces ss))
    ∙ (no_end s last (all_takings (all_pieces ss)) ∙ of_steps r s ss k h))

-- of collections that are there
of_rows : (r : Rows) (n : NsName) (ws : List Row) (ps : List Part) → map.get r.tables n ≢ None → AreOf r ps → AreOf r (row_parts n ws ++ ps)
of_rows r n [] ps h g = g
of_rows r n (w ∷ ws) ps h g = (h, of_rows r n ws ps h g)

of_end : (r : Rows) (n : NsName) (b : Bool) (ps : List Part) → map.get r.tables n ≢ None → AreOf r ps → AreOf r (end_parts n b ++ ps)
of_end r n true ps h g = (h, g)
of_end r n false ps h g = g

pub parts_of_rows : (r : Rows) (ss : List Step) → AreStepsOf r ss → AreOf r (parts ss)
parts_of_rows r [] h = tt
parts_of_rows r (Documents n rs b ∷ ss) h = of_rows r n rs (end_parts n b ++ parts ss) h.0 (of_end r n b (parts ss) h.0 (parts_of_rows r ss h.3))
parts_of_rows r (Entries es b ∷ ss) h = parts_of_rows r ss h
