-- What is recorded of a write holds of the states before and after it.
use Rattle.std.proofs.Common.{◌≡◌, List, [], ◌∷◌, Bool, false, refl, sym, ◌∙◌, subst, arith, Option, Some, None, inl, inr}
use Rattle.std.specs.Prelude.{◌||◌}
use Rattle.std.specs.FinMap as map
use Rattle.bson_value.specs.declared.namespace.NsName.{NsName}
use Rattle.bson_value.specs.declared.value.Value.{Value, Object}
use Rattle.bson_value.specs.Place.{Place, look}
use Rattle.doc_path.specs.declared.parts.Form.{Form}
use Rattle.doc_path.specs.Touch.{Touch}
use Rattle.doc_path.specs.Played.{NoneLeft}
use Rattle.touch_laws.specs.Agree.{AllDone, any_covers}
use Rattle.state_model.specs.Keys.{Key}
use Rattle.state_model.specs.States.{State, Collection, fresh_collection, or_fresh}
use Rattle.state_model.specs.Spots.{Options, Index, Document, Spot, Namespace, Inside, stands}
use Rattle.state_model.specs.Moves.{Move}
use Rattle.state_model.specs.Moves as moves
use Rattle.state_model.specs.Replay.{put_document, remove_document, add_index, drop_index, on_there, replay}
use Rattle.state_model.specs.Covers.{document_covers, all_below, inside, move_covers, any_move_covers}
use Rattle.state_model.specs.Fits.{MadeOn, IsThere}
use Rattle.state_model.specs.Windows.{HasCollection, OnCollection, HasDocument, IsDone, IsMade, AllSettled, Recorded}
use Rattle.state_model.specs.Laws.{MovesChangeWhatTheyCover, MadeIsSettled}
use Rattle.state_model.proofs.Maps.{key_insert_here, ns_insert_here, key_insert_else, key_remove_here, ns_remove_here}
use Rattle.coll_state.specs.Rows.{Document as Fields}
use Rattle.state_model.proofs.Moves.{drop_db_none, AtColl}
use Rattle.state_model.proofs.Keeps.{docs_keep, on_coll_keeps, put_there, root_kept, CollKeeps}
use Rattle.coll_state.specs.Definitions.{definition_name}
use Rattle.copy_model.specs.Writes.{SingleWrite, Put, Remove, Create, DropColl, DropDb, AddIndex, DropIndex, move_of, change, deltas, PutIsRecorded, PutInIsRecorded, IsRecorded}

module _ (keep : MovesChangeWhatTheyCover) (settle : MadeIsSettled) where
  pub or_false_left : (a : Bool) → a || false ≡ false → a ≡ false
  or_false_left a e = grind arith

  -- one change that was made and is done
  pub one_recorded : (m : Move) (s : State) → MadeOn m s → IsMade m (replay m s) → Recorded (m ∷ []) s (replay m s)
  one_recorded m s made done = record { frame = λ p e. keep m s made p (or_false_left (move_covers m p) e); settled = (settle m (replay m s) done, tt) }

  pub put_made : (n : NsName) (i : Key) (d : Value) (s : State) → IsMade (moves.Put n i d) (replay (moves.Put n i d) s)
  put_made n i d s = subst (HasCollection (λ c. map.get c.documents i ≡ Some d)) (sym (ns_insert_here s n (put_document i d (or_fresh (map.get s n))))) (key_insert_here (or_fresh (map.get s n)).documents i d)

  pub free_after : (n : NsName) (g : Collection → Collection) (P : Collection → Type 0) (s : State) (o : Option Collection) → map.get s n ≡ o → ((c : Collection) → P (g c)) → OnCollection P (map.get (on_there g n o s) n)
  free_after n g P s None e h = subst (OnCollection P) (sym e) tt
  free_after n g P s (Some c) e h = subst (OnCollection P) (sym (ns_insert_here s n (g c))) (h c)

  pub done_after : (n : NsName) (g : Collection → Collection) (P : Collection → Type 0) (s : State) (o : Option Collection) → map.get s n ≡ o → IsThere o → ((c : Collection) → P (g c)) → HasCollection P (map.get (on_there g n o s) n)
  done_after n g P s None e t h = absurd t
  done_after n g P s (Some c) e t h = subst (HasCollection P) (sym (ns_insert_here s n (g c))) (h c)

  -- a document put in the place of another
  pub coll_is : (P : Collection → Type 0) (s : State) (n : NsName) (c : Collection) → map.get s n ≡ Some c → P c → AtColl P (map.get s n)
  coll_is P s n c e h = subst (AtColl P) (sym e) h

  pub put_frame : (n : NsName) (i : Key) (d o : Value) (cov : Place → Bool) (s : State) (c : Collection) → map.get s n ≡ Some c → map.get c.documents i ≡ Some o →
      ((q : Place) → cov q ≡ false → look (Some d) q ≡ look (Some o) q) → (p : Spot) → inside n (document_covers i cov) p ≡ false → stands (replay (moves.Put n i d) s) p ≡ stands s p
  put_frame n i d o cov s c e f h p k =
      rw (put_there n i d s (map.get s n) refl (subst IsThere (sym e) tt))
      (on_coll_keeps n (put_document i d) (document_covers i cov) (λ z. map.get z.documents i ≡ Some o) keeps s (coll_is (λ z. map.get z.documents i ≡ Some o) s n c e f) p k)
    where
      keeps : CollKeeps (put_document i d) (document_covers i cov) (λ z. map.get z.documents i ≡ Some o)
      keeps z g = docs_keep i cov z (map.insert z.documents i d) (key_insert_else z.documents i d) (λ q a. rw (key_insert_here z.documents i d, g) (h q a))

  pub deltas_cover : (n : NsName) (i : Key) (f : Form) (ts : List Touch) (p : Spot) → any_move_covers (deltas n i f ts) p ≡ inside n (document_covers i (any_covers ts)) p
  deltas_cover n i f [] (Namespace m) = refl
  deltas_cover n i f [] (Inside m Options) = grind arith
  deltas_cover n i f [] (Inside m (Index j)) = grind arith
  deltas_cover n i f [] (Inside m (Document j q)) = grind arith
  deltas_cover n i f (t ∷ ts) (Namespace m) = deltas_cover n i f ts (Namespace m)
  deltas_cover n i f (t ∷ ts) (Inside m Options) = grind (arith, deltas_cover n i f ts (Inside m Options))
  deltas_cover n i f (t ∷ ts) (Inside m (Index j)) = grind (arith, deltas_cover n i f ts (Inside m (Index j)))
  deltas_cover n i f (t ∷ ts) (Inside m (Document j q)) = grind (arith, deltas_cover n i f ts (Inside m (Document j q)))

  pub deltas_settled : (n : NsName) (i : Key) (f : Form) (ts : List Touch) (s : State) (c : Collection) (d : Value) → map.get s n ≡ Some c → map.get c.documents i ≡ Some d → NoneLeft ts → AllDone f ts d → AllSettled (deltas n i f ts) s
  deltas_settled n i f [] s c d e g l a = tt
  deltas_settled n i f (t ∷ ts) s c d e g l a =
      (settle (moves.Delta n i f t) s (subst (HasCollection (λ z. HasDocument (IsDone f t) (map.get z.documents i))) (sym e) (subst (HasDocument (IsDone f t)) (sym g) (l.0, a.0))), deltas_settled n i f ts s c d e g l.1 a.1)

  pub put_entry : (n : NsName) (i : Key) (d : Fields) (s : State) (c : Collection) (o : Option Value) (ms : List Move) → map.get s n ≡ Some c → map.get c.documents i ≡ o → PutIsRecorded n i d o ms → Recorded ms s (replay (moves.Put n i (Object d)) s)
  put_entry n i d s c None ms e f h =
      subst (λ (z : List Move). Recorded z s (replay (moves.Put n i (Object d)) s)) (sym h) (one_recorded (moves.Put n i (Object d)) s (subst IsThere (sym e) tt) (put_made n i (Object d) s))
  put_entry n i d s c (Some o) ms e f (inl h) =
      subst (λ (z : List Move). Recorded z s (replay (moves.Put n i (Object d)) s)) (sym h.0)
      (record {
        frame = λ p k. put_frame n i (Object d) o all_below s c e f (λ q a. root_kept (Object d) o q h.1 a) p (or_false_left (move_covers (moves.Whole n i (Object d)) p) k);
        settled = (settle (moves.Whole n i (Object d)) (replay (moves.Put n i (Object d)) s) (put_made n i (Object d) s), tt);
      })
  put_entry n i d s c (Some o) ms e f (inr h) =
      subst (λ (z : List Move). Recorded z s (replay (moves.Put n i (Object d)) s)) (sym h.deltas_of)
      (record {
        frame = λ p k. put_frame n i (Object d) o (any_covers h.touches) s c e f (λ q a. h.records.frame q a) p (sym (deltas_cover n i h.form h.touches p) ∙ k);
        settled = deltas_settled n i h.form h.touches (replay (moves.Put n i (Object d)) s) (put_document i (Object d) (or_fresh (map.get s n))) (Object d) (ns_insert_here s n (put_document i (Object d) (or_fresh (map.get s n)))) (key_insert_here (or_fresh (map.get s n)).documents i (Object d)) h.none_left h.records.done;
      })

  pub put_in : (n : NsName) (i : Key) (d : Fields) (s : State) (o : Option Collection) (ms : List Move) → map.get s n ≡ o → PutInIsRecorded n i d o ms → Recorded ms s (replay (moves.Put n i (Object d)) s)
  put_in n i d s None ms e h = absurd h
  put_in n i d s (Some c) ms e h = put_entry n i d s c (map.get c.documents i) ms e refl h

  -- the one move of a write
  pub plain_recorded : (w : SingleWrite) (s : State) (ms : List Move) → ms ≡ move_of w ∷ [] → Recorded (move_of w ∷ []) s (change w s) → Recorded ms s (change w s)
  plain_recorded w s ms h r = subst (λ (z : List Move). Recorded z s (change w s)) (sym h) r

  -- what is recorded of a write holds
  pub write_recorded : (w : SingleWrite) (s : State) (ms : List Move) → IsRecorded w s ms → Recorded ms s (change w s)
  write_recorded (Put n i d) s ms h = put_in n i d s (map.get s n) ms refl h
  write_recorded (Remove n i) s ms h = plain_recorded (Remove n i) s ms h
      (one_recorded (moves.Remove n i) s tt (free_after n (remove_document i) (λ c. map.get c.documents i ≡ None) s (map.get s n) refl (λ c. key_remove_here c.documents i)))
  write_recorded (Create n o) s ms h = plain_recorded (Create n o) s ms h (one_recorded (moves.Create n o) s tt (ns_insert_here s n (fresh_collection o)))
  write_recorded (DropColl n) s ms h = plain_recorded (DropColl n) s ms h (one_recorded (moves.DropColl n) s tt (ns_remove_here s n))
  write_recorded (DropDb d) s ms h = plain_recorded (DropDb d) s ms h (one_recorded (moves.DropDb d) s tt (λ n e. drop_db_none s d n e))
  write_recorded (AddIndex n d) s ms h = plain_recorded (AddIndex n d) s ms h.0
      (one_recorded (moves.AddIndex n (definition_name d) d) s tt (done_after n (add_index (definition_name d) d) (λ c. map.get c.indexes (definition_name d) ≡ Some d) s (map.get s n) refl h.1 (λ c. key_insert_here c.indexes (definition_name d) d)))
  write_recorded (DropIndex n i) s ms h = plain_recorded (DropIndex n i) s ms h
      (one_recorded (moves.DropIndex n i) s tt (free_after n (drop_index i) (λ c. map.get c.indexes i ≡ None) s (map.get s n) refl (λ c. key_remove_here c.indexes i)))
