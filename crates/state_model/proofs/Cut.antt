-- To replay what a filter takes on the part that it takes is to replay all and cut.
use Rattle.std.proofs.Common.{◌≡◌, ℕ, List, [], ◌∷◌, Bool, true, false, cond, refl, sym, ap, ◌∙◌, subst, Option, Some, None, inl, inr}
use Rattle.std.specs.Prelude.{if◌then◌else◌, ◌⊎◌}
use Rattle.std.specs.declared.cmp.Ordering.TheVariants.{Equal}
use Rattle.std.specs.FinMap as map
use Rattle.std.proofs.lemmas.Bool.{cases_Bool}
use Rattle.bson_value.specs.declared.namespace.NsName.{NsName}
use Rattle.bson_value.specs.declared.value.Value.{Value}
use Rattle.bson_value.specs.NamespaceOrder.{namespace_cmp}
use Rattle.doc_path.specs.Played.{played}
use Rattle.state_model.specs.Keys.{Key, same_key, same_ns}
use Rattle.state_model.specs.States.{State, Collection, fresh_collection, or_fresh}
use Rattle.state_model.specs.Spots.{Spot, Namespace, Inside, stands}
use Rattle.state_model.specs.Moves.{Move, Put, Remove, Whole, Delta, Create, DropColl, DropDb, AddIndex, DropIndex}
use Rattle.state_model.specs.Replay.{put_document, remove_document, change_document, add_index, drop_index, on_there, on_collection, replay, replay_all}
use Rattle.state_model.specs.Cut.{cut, takes_move, taken, space_of}
use Rattle.state_model.proofs.Moves.{there_else, drop_db_at}
use Rattle.state_model.proofs.Maps.{ns_at_insert, ns_at_remove, ns_insert_else, ns_remove_else, ns_map_same}
use Rattle.state_model.proofs.Keys.{ns_anti, ns_is}

pub alike_at : (f : NsName → Bool) (q x : NsName) → namespace_cmp q x ≡ Equal → f x ≡ f q
alike_at f q x e = ap f (sym (ns_anti q x e))

pub get_cut : (f : NsName → Bool) (s : State) (q : NsName) → map.get (cut f s) q ≡ cond (f q) (map.get s q) None
get_cut f s q = map.get-retain_keys s f q (λ x e. alike_at f q x e)

pub get_taken : (f : NsName → Bool) (s : State) (q : NsName) → f q ≡ true → map.get (cut f s) q ≡ map.get s q
get_taken f s q e = get_cut f s q ∙ rw e refl

pub get_left : (f : NsName → Bool) (s : State) (q : NsName) → f q ≡ false → map.get (cut f s) q ≡ None
get_left f s q e = get_cut f s q ∙ rw e refl

pub cut_insert : (f : NsName → Bool) (s : State) (n : NsName) (c : Collection) → f n ≡ true → cut f (map.insert s n c) ≡ map.insert (cut f s) n c
cut_insert f s n c e = ns_map_same _ _ (λ q. at q (cases_Bool (same_ns q n)))
  where
    at : (q : NsName) → ((same_ns q n) ≡ true) ⊎ ((same_ns q n) ≡ false) → map.get (cut f (map.insert s n c)) q ≡ map.get (map.insert (cut f s) n c) q
    at q (inl b) =
        let g : f q ≡ true = subst (λ (z : NsName). f z ≡ true) (sym (ns_is q n b)) e in
        get_cut f (map.insert s n c) q ∙ rw (g, ns_at_insert s n c q, ns_at_insert (cut f s) n c q, b) refl
    at q (inr b) = get_cut f (map.insert s n c) q ∙ rw (ns_at_insert s n c q, ns_at_insert (cut f s) n c q, b) (sym (get_cut f s q))

pub cut_remove : (f : NsName → Bool) (s : State) (n : NsName) → cut f (map.remove s n) ≡ map.remove (cut f s) n
cut_remove f s n = ns_map_same _ _ (λ q. at q (cases_Bool (same_ns q n)) (cases_Bool (f q)))
  where
    at : (q : NsName) → ((same_ns q n) ≡ true) ⊎ ((same_ns q n) ≡ false) → (f q ≡ true) ⊎ (f q ≡ false) → map.get (cut f (map.remove s n)) q ≡ map.get (map.remove (cut f s) n) q
    at q (inl b) (inl g) = get_cut f (map.remove s n) q ∙ rw (g, ns_at_remove s n q, ns_at_remove (cut f s) n q, b) refl
    at q (inl b) (inr g) = get_cut f (map.remove s n) q ∙ rw (g, ns_at_remove (cut f s) n q, b) refl
    at q (inr b) h = get_cut f (map.remove s n) q ∙ rw (ns_at_remove s n q, ns_at_remove (cut f s) n q, b) (sym (get_cut f s q))

-- nothing that a filter doesn't take is changed at what it takes
pub cut_apart : (f : NsName → Bool) (s z : State) (n : NsName) → f n ≡ false → ((q : NsName) → (same_ns q n) ≡ false → map.get z q ≡ map.get s q) → cut f z ≡ cut f s
cut_apart f s z n e h = ns_map_same _ _ (λ q. at q (cases_Bool (same_ns q n)))
  where
    at : (q : NsName) → ((same_ns q n) ≡ true) ⊎ ((same_ns q n) ≡ false) → map.get (cut f z) q ≡ map.get (cut f s) q
    at q (inl b) =
        let g : f q ≡ false = subst (λ (x : NsName). f x ≡ false) (sym (ns_is q n b)) e in
        get_left f z q g ∙ sym (get_left f s q g)
    at q (inr b) = get_cut f z q ∙ (ap (λ (o : Option Collection). cond (f q) o None) (h q b) ∙ sym (get_cut f s q))

pub cut_on : (f : NsName → Bool) (s : State) (n : NsName) (g : Collection → Collection) (o : Option Collection) → f n ≡ true → map.get s n ≡ o → cut f (on_there g n o s) ≡ on_collection n g (cut f s)
cut_on f s n g None e h = rw (get_taken f s n e, h) refl
cut_on f s n g (Some c) e h = rw (get_taken f s n e, h) (cut_insert f s n (g c) e)

pub cut_drop_db : (f : NsName → Bool) (s : State) (d : List ℕ) → cut f (replay (DropDb d) s) ≡ replay (DropDb d) (cut f s)
cut_drop_db f s d = ns_map_same _ _ (λ q. at q (cases_Bool (same_key q.db d)) (cases_Bool (f q)))
  where
    at : (q : NsName) → ((same_key q.db d) ≡ true) ⊎ ((same_key q.db d) ≡ false) → (f q ≡ true) ⊎ (f q ≡ false) → map.get (cut f (replay (DropDb d) s)) q ≡ map.get (replay (DropDb d) (cut f s)) q
    at q (inl b) (inl g) = get_cut f (replay (DropDb d) s) q ∙ rw (g, drop_db_at s d q, drop_db_at (cut f s) d q, b) refl
    at q (inl b) (inr g) = get_cut f (replay (DropDb d) s) q ∙ rw (g, drop_db_at (cut f s) d q, b) refl
    at q (inr b) h = get_cut f (replay (DropDb d) s) q ∙ rw (drop_db_at s d q, drop_db_at (cut f s) d q, b) (sym (get_cut f s q))

pub put_taken : (f : NsName → Bool) (s : State) (n : NsName) (i : Key) (d : Value) → f n ≡ true → cut f (replay (Put n i d) s) ≡ replay (Put n i d) (cut f s)
put_taken f s n i d e = rw (get_taken f s n e) (cut_insert f s n (put_document i d (or_fresh (map.get s n))) e)

pub replay_taken : (f : NsName → Bool) (m : Move) (s : State) → takes_move f m ≡ true → cut f (replay m s) ≡ replay m (cut f s)
replay_taken f (Put n i d) s e = put_taken f s n i d e
replay_taken f (Remove n i) s e = cut_on f s n (remove_document i) (map.get s n) e refl
replay_taken f (Whole n i d) s e = cut_on f s n (change_document i (λ v. d)) (map.get s n) e refl
replay_taken f (Delta n i g t) s e = cut_on f s n (change_document i (played g t)) (map.get s n) e refl
replay_taken f (Create n o) s e = cut_insert f s n (fresh_collection o) e
replay_taken f (DropColl n) s e = cut_remove f s n
replay_taken f (DropDb d) s e = cut_drop_db f s d
replay_taken f (AddIndex n i d) s e = cut_on f s n (add_index i d) (map.get s n) e refl
replay_taken f (DropIndex n i) s e = cut_on f s n (drop_index i) (map.get s n) e refl

pub replay_left : (f : NsName → Bool) (m : Move) (s : State) → takes_move f m ≡ false → cut f (replay m s) ≡ cut f s
replay_left f (Put n i d) s e = cut_apart f s (replay (Put n i d) s) n e (ns_insert_else s n (put_document i d (or_fresh (map.get s n))))
replay_left f (Remove n i) s e = cut_apart f s (replay (Remove n i) s) n e (there_else n (remove_document i) s (map.get s n))
replay_left f (Whole n i d) s e = cut_apart f s (replay (Whole n i d) s) n e (there_else n (change_document i (λ v. d)) s (map.get s n))
replay_left f (Delta n i g t) s e = cut_apart f s (replay (Delta n i g t) s) n e (there_else n (change_document i (played g t)) s (map.get s n))
replay_left f (Create n o) s e = cut_apart f s (replay (Create n o) s) n e (ns_insert_else s n (fresh_collection o))
replay_left f (DropColl n) s e = cut_apart f s (replay (DropColl n) s) n e (ns_remove_else s n)
replay_left f (DropDb d) s e = cc
replay_left f (AddIndex n i d) s e = cut_apart f s (replay (AddIndex n i d) s) n e (there_else n (add_index i d) s (map.get s n))
replay_left f (DropIndex n i) s e = cut_apart f s (replay (DropIndex n i) s) n e (there_else n (drop_index i) s (map.get s n))

pub taken_on : (f : NsName → Bool) (m : Move) (ms : List Move) → takes_move f m ≡ true → taken f (m ∷ ms) ≡ m ∷ taken f ms
taken_on f m ms e = rw e refl

pub taken_off : (f : NsName → Bool) (m : Move) (ms : List Move) → takes_move f m ≡ false → taken f (m ∷ ms) ≡ taken f ms
taken_off f m ms e = rw e refl

pub cut_replay : (f : NsName → Bool) (ms : List Move) (s : State) → replay_all (taken f ms) (cut f s) ≡ cut f (replay_all ms s)
cut_replay f [] s = refl
cut_replay f (m ∷ ms) s =
    elim (cases_Bool (takes_move f m)) [
      | inl e ↦ ap (λ (l : List Move). replay_all l (cut f s)) (taken_on f m ms e) ∙ (ap (replay_all (taken f ms)) (sym (replay_taken f m s e)) ∙ cut_replay f ms (replay m s))
      | inr e ↦ ap (λ (l : List Move). replay_all l (cut f s)) (taken_off f m ms e) ∙ (ap (replay_all (taken f ms)) (sym (replay_left f m s e)) ∙ cut_replay f ms (replay m s))
    ]

pub cut_stands : (f : NsName → Bool) (s : State) (p : Spot) → stands (cut f s) p ≡ (if f (space_of p) then stands s p else None)
cut_stands f s (Namespace n) = elim (cases_Bool (f n)) [
  | inl e ↦ rw (get_taken f s n e, e) refl
  | inr e ↦ rw (get_left f s n e, e) refl
]
cut_stands f s (Inside n p) = elim (cases_Bool (f n)) [
  | inl e ↦ rw (get_taken f s n e, e) refl
  | inr e ↦ rw (get_left f s n e, e) refl
]
