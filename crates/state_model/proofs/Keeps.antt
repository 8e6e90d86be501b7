-- A recorded change alters nothing but what it covers.
use Rattle.std.proofs.Common.{◌≡◌, ℕ, [], ◌∷◌, Bool, false, refl, sym, ap, subst, arith, Option, Some, None, inl, inr}
use Rattle.std.specs.Prelude.{option_map}
use Rattle.std.specs.FinMap as map
use Rattle.std.proofs.lemmas.Bool.{cases_Bool}
use Rattle.bson_value.specs.declared.namespace.NsName.{NsName}
use Rattle.bson_value.specs.declared.value.Value.{Value}
use Rattle.bson_value.specs.Place.{Place, look, shape}
use Rattle.json_tree.specs.declared.tree.Tree.{Tree}
use Rattle.doc_path.specs.declared.parts.Form.{Form}
use Rattle.doc_path.specs.Touch.{Touch, covers}
use Rattle.doc_path.specs.Played.{played}
use Rattle.touch_laws.specs.Laws.{ChangesWhatItCovers as TouchChanges}
use Rattle.state_model.specs.Keys.{Key, key_cmp, same_key, same_ns}
use Rattle.state_model.specs.States.{State, Collection, fresh_collection}
use Rattle.state_model.specs.Spots.{Inner, Options, Index, Document, Spot, Namespace, Inside, here, kind, stands_in, stands_at, stands}
use Rattle.state_model.specs.Moves.{Move, Put, Remove, Whole, Delta, Create, DropColl, DropDb, AddIndex, DropIndex}
use Rattle.state_model.specs.Replay.{put_document, remove_document, changed, change_document, add_index, drop_index, on_there, on_collection, replay}
use Rattle.state_model.specs.Covers.{document_covers, index_covers, all_of, all_below, inside, spaces, move_covers}
use Rattle.state_model.specs.Fits.{FitsDocument, IsThere, KindAt, KindIn, MadeOn}
use Rattle.state_model.proofs.Collections.{docs_set}
use Rattle.state_model.proofs.Moves.{AtColl, there_at, there_else, delta_fits, any_coll, drop_db_else}
use Rattle.state_model.proofs.Maps.{key_insert_here, key_insert_else, ns_insert_else, key_remove_else, ns_remove_else}
use Rattle.state_model.proofs.Keys.{key_is, ns_is}

abbrev pub CollKeeps : (Collection → Collection) → (Inner → Bool) → (Collection → Type 0) → Type 0
CollKeeps g cov P = (c : Collection) → P c → (p : Inner) → cov p ≡ false → stands_in (g c) p ≡ stands_in c p

-- documents changed at one id
pub docs_keep : (i : Key) (cov : Place → Bool) (c : Collection) (m : map.FinMap key_cmp Value) →
    ((j : Key) → (same_key j i) ≡ false → map.get m j ≡ map.get c.documents j) →
    ((q : Place) → cov q ≡ false → look (map.get m i) q ≡ look (map.get c.documents i) q) →
    (p : Inner) → document_covers i cov p ≡ false → stands_in (docs_set c m) p ≡ stands_in c p
docs_keep i cov c m else_at at Options e = refl
docs_keep i cov c m else_at at (Index j) e = refl
docs_keep i cov c m else_at at (Document j q) e =
    elim (cases_Bool (same_key j i)) [
      | inl s ↦ (let h : i ≡ j = sym (key_is j i s) in
          let f : cov q ≡ false = grind arith in
          subst (λ (z : Key). option_map kind (look (map.get m z) q) ≡ option_map kind (look (map.get c.documents z) q)) h (ap (option_map kind) (at q f)))
      | inr s ↦ rw (else_at j s) refl
    ]

pub none_covered : (q : Place) → all_of q ≡ false → ⊥
none_covered q e = cc

pub put_keeps : (i : Key) (v : Value) (P : Collection → Type 0) → CollKeeps (put_document i v) (document_covers i all_of) P
put_keeps i v P c p = docs_keep i all_of c (map.insert c.documents i v) (key_insert_else c.documents i v) (λ q e. absurd (none_covered q e))

pub remove_keeps : (i : Key) (P : Collection → Type 0) → CollKeeps (remove_document i) (document_covers i all_of) P
remove_keeps i P c p = docs_keep i all_of c (map.remove c.documents i) (key_remove_else c.documents i) (λ q e. absurd (none_covered q e))

pub changed_keeps : (g : Value → Value) (i : Key) (cov : Place → Bool) (c : Collection) (o : Option Value) → map.get c.documents i ≡ o →
    ((v : Value) → o ≡ Some v → (q : Place) → cov q ≡ false → look (Some (g v)) q ≡ look (Some v) q) →
    (p : Inner) → document_covers i cov p ≡ false → stands_in (changed g i o c) p ≡ stands_in c p
changed_keeps g i cov c None e h p n = refl
changed_keeps g i cov c (Some v) e h p n =
    docs_keep i cov c (map.insert c.documents i (g v)) (key_insert_else c.documents i (g v)) (λ q f. rw (key_insert_here c.documents i (g v), e) (h v refl q f)) p n

pub root_kept : (d v : Value) (q : Place) → shape d ≡ shape v → all_below q ≡ false → look (Some d) q ≡ look (Some v) q
unfolding look
root_kept d v [] s e = ap Some s
root_kept d v (k ∷ q) s e = cc

pub whole_keeps : (i : Key) (d : Value) → CollKeeps (change_document i (λ w. d)) (document_covers i all_below) (λ c. KindAt d (map.get c.documents i))
whole_keeps i d c p = changed_keeps (λ w. d) i all_below c (map.get c.documents i) refl (λ v e q n. root_kept d v q (subst (KindAt d) e p) n)

pub delta_keeps : TouchChanges → (i : Key) (f : Form) (t : Touch) → CollKeeps (change_document i (played f t)) (document_covers i (covers t)) (λ c. FitsDocument f t (map.get c.documents i))
delta_keeps kept i f t c p = changed_keeps (played f t) i (covers t) c (map.get c.documents i) refl (λ v e q n. kept f t v (subst (FitsDocument f t) e p).1 q n)

pub index_keep : (i : Key) (c : Collection) (m : map.FinMap key_cmp Tree) → ((j : Key) → (same_key j i) ≡ false → map.get m j ≡ map.get c.indexes j) →
    (p : Inner) → index_covers i p ≡ false → stands_in (record c { indexes = m }) p ≡ stands_in c p
index_keep i c m h Options e = refl
index_keep i c m h (Document j q) e = refl
index_keep i c m h (Index j) e = rw (h j e) refl

abbrev pub StateKeeps : (State → State) → (Spot → Bool) → (State → Type 0) → Type 0
StateKeeps g cov P = (s : State) → P s → (p : Spot) → cov p ≡ false → stands (g s) p ≡ stands s p

pub mapped_there : (g : Collection → Collection) (o : Option Collection) → option_map (λ (c : Collection). here) (option_map g o) ≡ option_map (λ (c : Collection). here) o
mapped_there g None = refl
mapped_there g (Some c) = refl

pub mapped_inside : (g : Collection → Collection) (cov : Inner → Bool) (P : Collection → Type 0) → CollKeeps g cov P → (o : Option Collection) → AtColl P o → (p : Inner) → cov p ≡ false → stands_at (option_map g o) p ≡ stands_at o p
mapped_inside g cov P h None a p e = refl
mapped_inside g cov P h (Some c) a p e = h c a p e

pub on_coll_keeps : (n : NsName) (g : Collection → Collection) (cov : Inner → Bool) (P : Collection → Type 0) → CollKeeps g cov P → StateKeeps (on_collection n g) (inside n cov) (λ s. AtColl P (map.get s n))
on_coll_keeps n g cov P h s a (Namespace m) e =
    elim (cases_Bool (same_ns m n)) [
      | inl b ↦ (let q : n ≡ m = sym (ns_is m n b) in
          subst (λ (z : NsName). option_map (λ c. here) (map.get (on_collection n g s) z) ≡ option_map (λ c. here) (map.get s z)) q
          (rw (there_at n g s (map.get s n) refl) (mapped_there g (map.get s n))))
      | inr b ↦ rw (there_else n g s (map.get s n) m b) refl
    ]
on_coll_keeps n g cov P h s a (Inside m p) e =
    elim (cases_Bool (same_ns m n)) [
      | inl b ↦ (let q : n ≡ m = sym (ns_is m n b) in
          let f : cov p ≡ false = grind arith in
          subst (λ (z : NsName). stands_at (map.get (on_collection n g s) z) p ≡ stands_at (map.get s z) p) q
          (rw (there_at n g s (map.get s n) refl) (mapped_inside g cov P h (map.get s n) a p f)))
      | inr b ↦ rw (there_else n g s (map.get s n) m b) refl
    ]

-- Put into a collection that is there is a change of that collection
pub put_there : (n : NsName) (i : Key) (v : Value) (s : State) (o : Option Collection) → map.get s n ≡ o → IsThere o → replay (Put n i v) s ≡ on_there (put_document i v) n o s
put_there n i v s None e t = absurd t
put_there n i v s (Some c) e t = rw e refl

pub spaces_keep : (f : NsName → Bool) (s z : State) → ((m : NsName) → f m ≡ false → map.get z m ≡ map.get s m) → (p : Spot) → spaces f p ≡ false → stands z p ≡ stands s p
spaces_keep f s z h (Namespace m) e = rw (h m e) refl
spaces_keep f s z h (Inside m p) e = rw (h m e) refl

pub kind_in : (i : Key) (d : Value) (o : Option Collection) → KindIn i d o → AtColl (λ c. KindAt d (map.get c.documents i)) o
kind_in i d None h = 0
kind_in i d (Some c) h = h

pub move_keeps : TouchChanges → (m : Move) → StateKeeps (replay m) (move_covers m) (MadeOn m)
move_keeps kept (Put n i v) s made p e =
    rw (put_there n i v s (map.get s n) refl made) (on_coll_keeps n (put_document i v) (document_covers i all_of) (λ c. ℕ) (put_keeps i v (λ c. ℕ)) s (any_coll (map.get s n)) p e)
move_keeps kept (Remove n i) s made p e = on_coll_keeps n (remove_document i) (document_covers i all_of) (λ c. ℕ) (remove_keeps i (λ c. ℕ)) s (any_coll (map.get s n)) p e
move_keeps kept (Whole n i v) s made p e = on_coll_keeps n (change_document i (λ w. v)) (document_covers i all_below) (λ c. KindAt v (map.get c.documents i)) (whole_keeps i v) s (kind_in i v (map.get s n) made) p e
move_keeps kept (Delta n i f t) s made p e = on_coll_keeps n (change_document i (played f t)) (document_covers i (covers t)) (λ c. FitsDocument f t (map.get c.documents i)) (delta_keeps kept i f t) s (delta_fits i f t (map.get s n) made) p e
move_keeps kept (Create n o) s made p e = spaces_keep (λ m. same_ns m n) s (replay (Create n o) s) (ns_insert_else s n (fresh_collection o)) p e
move_keeps kept (DropColl n) s made p e = spaces_keep (λ m. same_ns m n) s (replay (DropColl n) s) (ns_remove_else s n) p e
move_keeps kept (DropDb d) s made p e = spaces_keep (λ m. same_key m.db d) s (replay (DropDb d) s) (drop_db_else s d) p e
move_keeps kept (AddIndex n i d) s made p e = on_coll_keeps n (add_index i d) (index_covers i) (λ c. ℕ) (λ c z. index_keep i c (map.insert c.indexes i d) (key_insert_else c.indexes i d)) s (any_coll (map.get s n)) p e
move_keeps kept (DropIndex n i) s made p e = on_coll_keeps n (drop_index i) (index_covers i) (λ c. ℕ) (λ c z. index_keep i c (map.remove c.indexes i) (key_remove_else c.indexes i)) s (any_coll (map.get s n)) p e
