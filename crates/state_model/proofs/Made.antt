-- A change that was made, and made again, is made once.
use Rattle.std.proofs.Common.{◌≡◌, ℕ, List, true, false, refl, sym, ap, ◌∙◌, subst, Option, Some, None, inl, inr}
use Rattle.std.specs.Prelude.{◌⊎◌}
use Rattle.std.specs.FinMap as map
use Rattle.std.proofs.lemmas.Bool.{cases_Bool}
use Rattle.bson_value.specs.declared.namespace.NsName.{NsName}
use Rattle.bson_value.specs.declared.value.Value.{Value}
use Rattle.json_tree.specs.declared.tree.Tree.{Tree}
use Rattle.doc_path.specs.declared.parts.Form.{Form}
use Rattle.doc_path.specs.Touch.{Touch}
use Rattle.doc_path.specs.Played.{played}
use Rattle.touch_laws.specs.Laws.{DoneStays, DoneFits}
use Rattle.state_model.specs.Keys.{Key, key_cmp, same_key}
use Rattle.state_model.specs.States.{State, Collection, fresh_collection, or_fresh}
use Rattle.state_model.specs.Spots.{stands}
use Rattle.state_model.specs.Moves.{Move, Put, Remove, Whole, Delta, Create, DropColl, DropDb, AddIndex, DropIndex}
use Rattle.state_model.specs.Replay.{put_document, remove_document, changed, change_document, add_index, drop_index, on_collection, replay}
use Rattle.state_model.specs.Fits.{FitsDocument, FitsCollection, MoveFits}
use Rattle.state_model.specs.Windows.{HasCollection, OnCollection, HasDocument, IsDone, IsMade, Settled}
use Rattle.state_model.proofs.Moves.{drop_db_else, drop_db_none}
use Rattle.state_model.proofs.Maps.{ns_map_same, key_insert_same, ns_insert_same, key_remove_same, ns_remove_same}

-- a collection that is there, or not, and that a change leaves as it is
pub on_same : (n : NsName) (g : Collection → Collection) (s : State) (o : Option Collection) → map.get s n ≡ o → ((c : Collection) → o ≡ Some c → g c ≡ c) → on_collection n g s ≡ s
on_same n g s None e h = rw e refl
on_same n g s (Some c) e h = rw e (ns_insert_same s n (g c) (e ∙ ap Some (sym (h c refl))))

pub changed_same : (g : Value → Value) (i : Key) (c : Collection) (o : Option Value) → map.get c.documents i ≡ o → ((v : Value) → o ≡ Some v → g v ≡ v) → changed g i o c ≡ c
changed_same g i c None e h = refl
changed_same g i c (Some v) e h = ap (λ (m : map.FinMap key_cmp Value). record c { documents = m }) (key_insert_same c.documents i (g v) (e ∙ ap Some (sym (h v refl))))

pub doc_done : DoneStays → (f : Form) (t : Touch) (o : Option Value) → HasDocument (IsDone f t) o → (v : Value) → o ≡ Some v → played f t v ≡ v
doc_done stays f t None d v e = absurd d
doc_done stays f t (Some w) d v e = let g : w ≡ v = cc in stays f t v (subst (IsDone f t) g d).1

pub doc_fits : DoneFits → (f : Form) (t : Touch) (o : Option Value) → HasDocument (IsDone f t) o → FitsDocument f t o
doc_fits fits f t None d = absurd d
doc_fits fits f t (Some w) d = (d.0, fits f t w d.1)

pub of_done : (P : Collection → Type 0) (o : Option Collection) → HasCollection P o → (c : Collection) → o ≡ Some c → P c
of_done P None d c e = absurd d
of_done P (Some k) d c e = let g : k ≡ c = cc in subst P g d

pub of_free : (P : Collection → Type 0) (o : Option Collection) → OnCollection P o → (c : Collection) → o ≡ Some c → P c
of_free P None d c e = cc
of_free P (Some k) d c e = let g : k ≡ c = cc in subst P g d

pub put_done : (n : NsName) (i : Key) (d : Value) (s : State) (o : Option Collection) → map.get s n ≡ o → HasCollection (λ c. map.get c.documents i ≡ Some d) o → map.insert s n (put_document i d (or_fresh o)) ≡ s
put_done n i d s None e h = absurd h
put_done n i d s (Some c) e h =
    let g : put_document i d c ≡ c = ap (λ (m : map.FinMap key_cmp Value). record c { documents = m }) (key_insert_same c.documents i d h) in
    ns_insert_same s n (put_document i d c) (e ∙ ap Some (sym g))

pub drop_db_same : (d : List ℕ) (s : State) → ((n : NsName) → (same_key n.db d) ≡ true → map.get s n ≡ None) → replay (DropDb d) s ≡ s
drop_db_same d s h = ns_map_same (replay (DropDb d) s) s (λ n. at n (cases_Bool (same_key n.db d)))
  where
    at : (n : NsName) → ((same_key n.db d) ≡ true) ⊎ ((same_key n.db d) ≡ false) → map.get (replay (DropDb d) s) n ≡ map.get s n
    at n (inl e) = drop_db_none s d n e ∙ sym (h n e)
    at n (inr e) = drop_db_else s d n e

pub move_same : DoneStays → (m : Move) (s : State) → IsMade m s → replay m s ≡ s
move_same stays (Put n i d) s h = put_done n i d s (map.get s n) refl h
move_same stays (Remove n i) s h = on_same n (remove_document i) s (map.get s n) refl (λ c e. ap (λ (m : map.FinMap key_cmp Value). record c { documents = m }) (key_remove_same c.documents i (of_free (λ c. map.get c.documents i ≡ None) (map.get s n) h c e)))
move_same stays (Whole n i d) s h = on_same n (change_document i (λ v. d)) s (map.get s n) refl (λ c e. changed_same (λ v. d) i c (map.get c.documents i) refl (λ v f. (let g : Some v ≡ Some d = sym f ∙ of_done (λ c. map.get c.documents i ≡ Some d) (map.get s n) h c e in cc)))
move_same stays (Delta n i f t) s h = on_same n (change_document i (played f t)) s (map.get s n) refl (λ c e. changed_same (played f t) i c (map.get c.documents i) refl (doc_done stays f t (map.get c.documents i) (of_done (λ c. HasDocument (IsDone f t) (map.get c.documents i)) (map.get s n) h c e)))
move_same stays (Create n o) s h = ns_insert_same s n (fresh_collection o) h
move_same stays (DropColl n) s h = ns_remove_same s n h
move_same stays (DropDb d) s h = drop_db_same d s h
move_same stays (AddIndex n i d) s h = on_same n (add_index i d) s (map.get s n) refl (λ c e. ap (λ (m : map.FinMap key_cmp Tree). record c { indexes = m }) (key_insert_same c.indexes i d (of_done (λ c. map.get c.indexes i ≡ Some d) (map.get s n) h c e)))
move_same stays (DropIndex n i) s h = on_same n (drop_index i) s (map.get s n) refl (λ c e. ap (λ (m : map.FinMap key_cmp Tree). record c { indexes = m }) (key_remove_same c.indexes i (of_free (λ c. map.get c.indexes i ≡ None) (map.get s n) h c e)))

pub delta_fit : DoneFits → (i : Key) (f : Form) (t : Touch) (o : Option Collection) → HasCollection (λ c. HasDocument (IsDone f t) (map.get c.documents i)) o → FitsCollection i f t o
delta_fit fits i f t None h = absurd h
delta_fit fits i f t (Some c) h = doc_fits fits f t (map.get c.documents i) h

pub move_fits : DoneFits → (m : Move) (s : State) → IsMade m s → MoveFits m s
move_fits fits (Put n i d) s h = tt
move_fits fits (Remove n i) s h = tt
move_fits fits (Whole n i d) s h = tt
move_fits fits (Delta n i f t) s h = delta_fit fits i f t (map.get s n) h
move_fits fits (Create n o) s h = tt
move_fits fits (DropColl n) s h = tt
move_fits fits (DropDb d) s h = tt
move_fits fits (AddIndex n i d) s h = tt
move_fits fits (DropIndex n i) s h = tt

pub settled : DoneStays → DoneFits → (m : Move) (s : State) → IsMade m s → Settled m s
settled stays fits m s h = (move_fits fits m s h, λ p. ap (λ (z : State). stands z p) (move_same stays m s h))
