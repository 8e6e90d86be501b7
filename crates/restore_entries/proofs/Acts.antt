-- The moves of an entry that changes one document act at its namespace alone, and what acts at two namespaces may come in either order.
use Rattle.std.proofs.Common.{◌≡◌, Bool, true, false, List, [], ◌∷◌, refl, sym, ap, ◌∙◌, subst, Option, Some, None, inl, inr}
use Rattle.std.specs.Prelude.{◌⊎◌, option_map, if◌then◌else◌}
use Rattle.std.specs.FinMap as map
use Rattle.std.proofs.lemmas.Bool.{cases_Bool}
use Rattle.bson_value.specs.declared.namespace.NsName.{NsName}
use Rattle.bson_value.specs.declared.value.Value.{Value}
use Rattle.doc_path.specs.declared.parts.Form.{Form}
use Rattle.doc_path.specs.declared.touches.Touch.{Touch}
use Rattle.doc_path.specs.Played.{played, touch_of}
use Rattle.state_model.specs.Keys.{Key, same_ns}
use Rattle.state_model.specs.States.{State, Collection, or_fresh}
use Rattle.state_model.specs.Moves.{Move}
use Rattle.state_model.specs.Moves as moves
use Rattle.state_model.specs.Replay.{put_document, change_document, on_collection, replay, replay_all}
use Rattle.state_model.proofs.Keys.{ns_is, ns_turn}
use Rattle.state_model.proofs.Maps.{ns_map_same, ns_insert_here, ns_insert_else}
use Rattle.state_model.proofs.Moves.{there_at, there_else}
use Rattle.coll_state.specs.Rows.{Document, id_of}
use Rattle.entry_model.specs.declared.entry.Entry.{Entry}
use Rattle.entry_model.specs.declared.entry.Action.{out-Action}
use Rattle.entry_model.specs.declared.entry.Action.TheOpen.{Action-F}
use Rattle.replay.specs.Moves.{is_config, put_moves, deltas, moves_at, moves_of}
use Rattle.replay.proofs.Folds.{Level}
use Rattle.restore_entries.specs.Documents.{is_of_document}
use Rattle.restore_entries.proofs.Documents.{moves_are}

-- ---- what acts at one name

-- what comes of the collection of this name hangs on that alone, and the others stay
pub record ActsAt (n : NsName) (f : State → State) : Type 0 where
  pub here : (s z : State) → map.get s n ≡ map.get z n → map.get (f s) n ≡ map.get (f z) n
  pub elsewhere : (s : State) (q : NsName) → same_ns q n ≡ false → map.get (f s) q ≡ map.get s q

acts_not : (n : NsName) → ActsAt n (λ s. s)
acts_not n = record { here = λ s z e. e; elsewhere = λ s q e. refl }

acts_twice : (n : NsName) (f g : State → State) → ActsAt n f → ActsAt n g → ActsAt n (λ s. g (f s))
acts_twice n f g a b = record {
  here = λ s z e. b.here (f s) (f z) (a.here s z e);
  elsewhere = λ s q e. b.elsewhere (f s) q e ∙ a.elsewhere s q e;
}

-- a collection is put in the place of the one that is there or isn't
pub acts_insert : (n : NsName) (g : Option Collection → Collection) → ActsAt n (λ s. map.insert s n (g (map.get s n)))
acts_insert n g = record {
  here = λ s z e. ns_insert_here s n (g (map.get s n)) ∙ (ap (λ (o : Option Collection). Some (g o)) e ∙ sym (ns_insert_here z n (g (map.get z n))));
  elsewhere = λ s q e. ns_insert_else s n (g (map.get s n)) q e;
}

acts_there : (n : NsName) (g : Collection → Collection) → ActsAt n (on_collection n g)
acts_there n g = record {
  here = λ s z e. there_at n g s (map.get s n) refl ∙ (ap (option_map g) e ∙ sym (there_at n g z (map.get z n) refl));
  elsewhere = λ s q e. there_else n g s (map.get s n) q e;
}

-- at two names
pub commute : (n m : NsName) (f g : State → State) → ActsAt n f → ActsAt m g → same_ns m n ≡ false → (s : State) → g (f s) ≡ f (g s)
commute n m f g a b apart s = ns_map_same _ _ (λ q. at q (cases_Bool (same_ns q n)) (cases_Bool (same_ns q m)))
  where
    at : (q : NsName) → (same_ns q n ≡ true) ⊎ (same_ns q n ≡ false) → (same_ns q m ≡ true) ⊎ (same_ns q m ≡ false) → map.get (g (f s)) q ≡ map.get (f (g s)) q
    at q (inl e) k =
        let first = b.elsewhere (f s) n (ns_turn m n false apart) ∙ a.here s (g s) (sym (b.elsewhere s n (ns_turn m n false apart))) in
        subst (λ (z : NsName). map.get (g (f s)) z ≡ map.get (f (g s)) z) (sym (ns_is q n e)) first
    at q (inr e) (inl k) =
        let second = b.here (f s) s (a.elsewhere s m apart) ∙ sym (a.elsewhere (g s) m apart) in
        subst (λ (z : NsName). map.get (g (f s)) z ≡ map.get (f (g s)) z) (sym (ns_is q m k)) second
    at q (inr e) (inr k) = b.elsewhere (f s) q k ∙ (a.elsewhere s q e ∙ sym (a.elsewhere (g s) q e ∙ b.elsewhere s q k))

-- ---- the moves of an entry

acts_deltas : (n : NsName) (k : Key) (f : Form) (ts : List Touch) → ActsAt n (replay_all (deltas n k f ts))
acts_deltas n k f [] = acts_not n
acts_deltas n k f (t ∷ ts) = acts_twice n _ _ (acts_there n (change_document k (played f (touch_of t)))) (acts_deltas n k f ts)

pub acts_put : (n : NsName) (k : Key) (v : Value) → ActsAt n (replay (moves.Put n k v))
acts_put n k v = acts_insert n (λ o. put_document k v (or_fresh o))

acts_document : (n : NsName) (d : Document) (o : Option Value) → ActsAt n (replay_all (put_moves n d o))
acts_document n d None = acts_not n
acts_document n d (Some id) = acts_put n _ _

acts_level : (n : NsName) (x : Level) → is_of_document x ≡ true → ActsAt n (replay_all (moves_at n x))
acts_level n (Action-F.Put d) h = acts_document n d (id_of d)
acts_level n (Action-F.Remove id) h = acts_there n _
acts_level n (Action-F.Whole id d) h = acts_there n _
acts_level n (Action-F.Delta id f ts) h = acts_deltas n _ f ts
acts_level n _ h = absurd cc

pub acts_entry : (e : Entry) → is_of_document (out-Action e.action) ≡ true → ActsAt e.ns (replay_all (moves_of e))
acts_entry e h = subst (λ (ms : List Move). ActsAt e.ns (replay_all ms)) (sym (moves_are e h)) (by (is_config e.ns) (moves_at e.ns (out-Action e.action)) (acts_level e.ns (out-Action e.action) h))
  where
    by : (b : Bool) (ms : List Move) → ActsAt e.ns (replay_all ms) → ActsAt e.ns (replay_all (if b then [] else ms))
    by true ms a = acts_not e.ns
    by false ms a = a
