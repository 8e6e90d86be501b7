-- One change of a state, on two states.
use Rattle.std.proofs.Common.{◌≡◌, ℕ, List, [], ◌∷◌, ◌++◌, Bool, true, false, cond, not, refl, sym, ap, ◌∙◌, subst, arith, Option, Some, None, inl, inr}
use Rattle.std.specs.Prelude.{◌&&◌, ◌||◌, option_map}
use Rattle.std.specs.declared.cmp.Ordering.TheVariants.{Equal}
use Rattle.std.specs.FinMap as map
use Rattle.std.proofs.lemmas.Bool.{cases_Bool}
use Rattle.bson_value.specs.declared.namespace.NsName.{NsName}
use Rattle.bson_value.specs.declared.value.Value.{Value}
use Rattle.bson_value.specs.NamespaceOrder.{namespace_cmp}
use Rattle.bson_value.specs.Place.{Place}
use Rattle.json_tree.specs.declared.tree.Tree.{Tree}
use Rattle.doc_path.specs.declared.parts.Form.{Form}
use Rattle.doc_path.specs.Touch.{Touch, covers}
use Rattle.doc_path.specs.Played.{played}
use Rattle.doc_path.specs.Laws.{Hereditary, CoversHereditarily, CoversNoRoot}
use Rattle.touch_laws.specs.Laws.{PlayingKeepsSame}
use Rattle.state_model.specs.Keys.{Key, same_key, same_ns}
use Rattle.state_model.specs.States.{State, Collection, fresh_collection, or_fresh}
use Rattle.state_model.specs.Spots.{Inner, Spot, Namespace, Inside, here, stands_in, stands_at, stands}
use Rattle.state_model.specs.Moves.{Move, Put, Remove, Whole, Delta, Create, DropColl, DropDb, AddIndex, DropIndex}
use Rattle.state_model.specs.Replay.{put_document, remove_document, change_document, add_index, drop_index, on_there, on_collection, replay, replay_all}
use Rattle.state_model.specs.Covers.{document_covers, index_covers, all_of, all_below, inside, spaces, move_covers, any_move_covers, HereditaryInside, HereditarySpots}
use Rattle.state_model.specs.Fits.{FitsDocument, FitsCollection, MoveFits}
use Rattle.state_model.specs.Agreement.{StatesAgree, AllMovesFit}
use Rattle.state_model.proofs.Collections.{CollGoes, put_goes, remove_goes, whole_goes, delta_goes, add_index_goes, drop_index_goes}
use Rattle.state_model.proofs.Maps.{ns_insert_here, ns_insert_else, ns_remove_here, ns_remove_else}
use Rattle.state_model.proofs.Keys.{ns_anti, ns_is, ns_refl}

abbrev pub StateGoes : (State → State) → (Spot → Bool) → (State → Type 0) → Type 0
StateGoes g c P = (d : Spot → Bool) → HereditarySpots d → (y x : State) → P x →
    ((p : Spot) → c p ≡ false → d p ≡ false → stands y p ≡ stands x p) → (p : Spot) → d p ≡ false → stands (g y) p ≡ stands (g x) p

-- two states that are changed at one namespace alone
pub space_agrees :
    (n : NsName) (c d : Spot → Bool) (y x y' x' : State) →
    ((p : Spot) → c p ≡ false → d p ≡ false → stands y p ≡ stands x p) →
    ((m : NsName) → (same_ns m n) ≡ false → c (Namespace m) ≡ false) →
    ((m : NsName) (p : Inner) → (same_ns m n) ≡ false → c (Inside m p) ≡ false) →
    ((m : NsName) → (same_ns m n) ≡ false → map.get y' m ≡ map.get y m) →
    ((m : NsName) → (same_ns m n) ≡ false → map.get x' m ≡ map.get x m) →
    (d (Namespace n) ≡ false → stands y' (Namespace n) ≡ stands x' (Namespace n)) →
    ((p : Inner) → d (Inside n p) ≡ false → stands y' (Inside n p) ≡ stands x' (Inside n p)) →
    (p : Spot) → d p ≡ false → stands y' p ≡ stands x' p
space_agrees n c d y x y' x' same cs ci my mx at_space at_in (Namespace m) e =
    elim (cases_Bool (same_ns m n)) [
      | inl s ↦ (let h : n ≡ m = sym (ns_is m n s) in subst (λ (z : NsName). d (Namespace z) ≡ false → stands y' (Namespace z) ≡ stands x' (Namespace z)) h at_space e)
      | inr s ↦ rw (my m s, mx m s) (same (Namespace m) (cs m s) e)
    ]
space_agrees n c d y x y' x' same cs ci my mx at_space at_in (Inside m p) e =
    elim (cases_Bool (same_ns m n)) [
      | inl s ↦ (let h : n ≡ m = sym (ns_is m n s) in subst (λ (z : NsName). d (Inside z p) ≡ false → stands y' (Inside z p) ≡ stands x' (Inside z p)) h (at_in p) e)
      | inr s ↦ rw (my m s, mx m s) (same (Inside m p) (ci m p s) e)
    ]

abbrev pub BothSpaces : Option Collection → Option Collection → Type 0
BothSpaces None None = ℕ
BothSpaces (Some a) (Some b) = ℕ
BothSpaces None (Some b) = ⊥
BothSpaces (Some a) None = ⊥

pub both_spaces : (o u : Option Collection) → option_map (λ c. here) o ≡ option_map (λ c. here) u → BothSpaces o u
both_spaces None None e = 0
both_spaces (Some a) (Some b) e = 0
both_spaces None (Some b) e = cc
both_spaces (Some a) None e = cc

-- whether a collection that is there meets a condition
abbrev pub AtColl : (Collection → Type 0) → Option Collection → Type 0
AtColl P None = ℕ
AtColl P (Some c) = P c

pub there_at : (n : NsName) (g : Collection → Collection) (s : State) (o : Option Collection) → map.get s n ≡ o → map.get (on_there g n o s) n ≡ option_map g o
there_at n g s None e = e
there_at n g s (Some c) e = ns_insert_here s n (g c)

pub there_else : (n : NsName) (g : Collection → Collection) (s : State) (o : Option Collection) (m : NsName) → (same_ns m n) ≡ false → map.get (on_there g n o s) m ≡ map.get s m
there_else n g s None m e = refl
there_else n g s (Some c) m e = ns_insert_else s n (g c) m e

pub not_inside : (n : NsName) (c : Inner → Bool) (m : NsName) (p : Inner) → (same_ns m n) ≡ false → (same_ns m n) && c p ≡ false
not_inside n c m p e = rw e refl

pub at_inside : (n : NsName) (b : Bool) → b ≡ false → (same_ns n n) && b ≡ false
at_inside n b e = rw (ns_refl n, e) refl

pub spaces_after : (g : Collection → Collection) (o u : Option Collection) → option_map (λ c. here) o ≡ option_map (λ c. here) u → option_map (λ c. here) (option_map g o) ≡ option_map (λ c. here) (option_map g u)
spaces_after g None None e = refl
spaces_after g (Some a) (Some b) e = refl
spaces_after g None (Some b) e = cc
spaces_after g (Some a) None e = cc

pub inside_after :
    (g : Collection → Collection) (cov : Inner → Bool) (P : Collection → Type 0) → CollGoes g cov P → (d : Inner → Bool) → HereditaryInside d → (o u : Option Collection) → AtColl P u →
    BothSpaces o u → ((p : Inner) → cov p ≡ false → d p ≡ false → stands_at o p ≡ stands_at u p) →
    (p : Inner) → d p ≡ false → stands_at (option_map g o) p ≡ stands_at (option_map g u) p
inside_after g cov P goes d mono None None a b same p e = refl
inside_after g cov P goes d mono (Some c) (Some k) a b same p e = goes d mono c k a same p e
inside_after g cov P goes d mono None (Some k) a b same p e = absurd b
inside_after g cov P goes d mono (Some c) None a b same p e = absurd b

pub on_coll_goes : (n : NsName) (g : Collection → Collection) (cov : Inner → Bool) (P : Collection → Type 0) → CollGoes g cov P → StateGoes (on_collection n g) (inside n cov) (λ s. AtColl P (map.get s n))
on_coll_goes n g cov P goes = λ d mono y x fits same.
    space_agrees n (inside n cov) d y x (on_collection n g y) (on_collection n g x) same (λ m e. refl) (λ m p e. not_inside n cov m p e)
    (there_else n g y (map.get y n)) (there_else n g x (map.get x n))
    (λ e. rw (there_at n g y (map.get y n) refl, there_at n g x (map.get x n) refl) (spaces_after g (map.get y n) (map.get x n) (same (Namespace n) refl e)))
    (λ p e. rw (there_at n g y (map.get y n) refl, there_at n g x (map.get x n) refl)
    (inside_after g cov P goes (λ q. d (Inside n q)) (mono.documents n) (map.get y n) (map.get x n) fits
    (both_spaces (map.get y n) (map.get x n) (same (Namespace n) refl (mono.space n p e)))
    (λ q a b. same (Inside n q) (at_inside n (cov q) a) b) p e))

pub state_put_goes : (n : NsName) (i : Key) (v : Value) (P : State → Type 0) → StateGoes (replay (Put n i v)) (move_covers (Put n i v)) P
state_put_goes n i v P = λ d mono y x fits same.
    let a = put_document i v (or_fresh (map.get y n)) in
    let b = put_document i v (or_fresh (map.get x n)) in
    space_agrees n (inside n (document_covers i all_of)) d y x (map.insert y n a) (map.insert x n b) same (λ m e. refl) (λ m p e. not_inside n (document_covers i all_of) m p e)
    (ns_insert_else y n a) (ns_insert_else x n b)
    (λ e. rw (ns_insert_here y n a, ns_insert_here x n b) refl)
    (λ p e. rw (ns_insert_here y n a, ns_insert_here x n b)
    (put_inside (map.get y n) (map.get x n) d mono (both_spaces (map.get y n) (map.get x n) (same (Namespace n) refl (mono.space n p e)))
    (λ q j k. same (Inside n q) (at_inside n (document_covers i all_of q) j) k) p e))
  where
    put_inside : (o u : Option Collection) (d : Spot → Bool) → HereditarySpots d → BothSpaces o u → ((q : Inner) → document_covers i all_of q ≡ false → d (Inside n q) ≡ false → stands_at o q ≡ stands_at u q) →
        (p : Inner) → d (Inside n p) ≡ false → stands_in (put_document i v (or_fresh o)) p ≡ stands_in (put_document i v (or_fresh u)) p
    put_inside None None d mono t same p e = refl
    put_inside (Some c) (Some k) d mono t same p e = put_goes i v (λ z. ℕ) (λ q. d (Inside n q)) (mono.documents n) c k 0 same p e
    put_inside None (Some k) d mono t same p e = absurd t
    put_inside (Some c) None d mono t same p e = absurd t

pub create_goes : (n : NsName) (o : Tree) (P : State → Type 0) → StateGoes (replay (Create n o)) (move_covers (Create n o)) P
create_goes n o P = λ d mono y x fits same.
    space_agrees n (spaces (λ m. same_ns m n)) d y x (map.insert y n (fresh_collection o)) (map.insert x n (fresh_collection o)) same (λ m e. e) (λ m p e. e)
    (ns_insert_else y n (fresh_collection o)) (ns_insert_else x n (fresh_collection o))
    (λ e. rw (ns_insert_here y n (fresh_collection o), ns_insert_here x n (fresh_collection o)) refl)
    (λ p e. rw (ns_insert_here y n (fresh_collection o), ns_insert_here x n (fresh_collection o)) refl)

pub drop_goes : (n : NsName) (P : State → Type 0) → StateGoes (replay (DropColl n)) (move_covers (DropColl n)) P
drop_goes n P = λ d mono y x fits same.
    space_agrees n (spaces (λ m. same_ns m n)) d y x (map.remove y n) (map.remove x n) same (λ m e. e) (λ m p e. e)
    (ns_remove_else y n) (ns_remove_else x n)
    (λ e. rw (ns_remove_here y n, ns_remove_here x n) refl)
    (λ p e. rw (ns_remove_here y n, ns_remove_here x n) refl)

-- a database
pub tied_is : (q x : NsName) (db : List ℕ) → namespace_cmp q x ≡ Equal → not (same_key x.db db) ≡ not (same_key q.db db)
tied_is q x db e = ap (λ z. not (same_key z.db db)) (sym (ns_anti q x e))

pub drop_db_at : (s : State) (db : List ℕ) (m : NsName) → map.get (map.retain_keys s (λ n. not (same_key n.db db))) m ≡ cond (not (same_key m.db db)) (map.get s m) None
drop_db_at s db m = map.get-retain_keys s (λ n. not (same_key n.db db)) m (λ x e. tied_is m x db e)

pub drop_db_none : (s : State) (db : List ℕ) (m : NsName) → (same_key m.db db) ≡ true → map.get (replay (DropDb db) s) m ≡ None
drop_db_none s db m e = drop_db_at s db m ∙ rw e refl

pub drop_db_else : (s : State) (db : List ℕ) (m : NsName) → (same_key m.db db) ≡ false → map.get (replay (DropDb db) s) m ≡ map.get s m
drop_db_else s db m e = drop_db_at s db m ∙ rw e refl

pub drop_db_goes : (db : List ℕ) (P : State → Type 0) → StateGoes (replay (DropDb db)) (move_covers (DropDb db)) P
drop_db_goes db P = λ d mono y x fits same p e. at_spot p y x d same e
  where
    at_spot : (p : Spot) (y x : State) (d : Spot → Bool) → ((p : Spot) → move_covers (DropDb db) p ≡ false → d p ≡ false → stands y p ≡ stands x p) → d p ≡ false → stands (replay (DropDb db) y) p ≡ stands (replay (DropDb db) x) p
    at_spot (Namespace m) y x d same e =
        elim (cases_Bool (same_key m.db db)) [
          | inl s ↦ rw (drop_db_none y db m s, drop_db_none x db m s) refl
          | inr s ↦ rw (drop_db_else y db m s, drop_db_else x db m s) (same (Namespace m) s e)
        ]
    at_spot (Inside m p) y x d same e =
        elim (cases_Bool (same_key m.db db)) [
          | inl s ↦ rw (drop_db_none y db m s, drop_db_none x db m s) refl
          | inr s ↦ rw (drop_db_else y db m s, drop_db_else x db m s) (same (Inside m p) s e)
        ]

-- no condition on a collection that is there or not
pub any_coll : (o : Option Collection) → AtColl (λ c. ℕ) o
any_coll None = 0
any_coll (Some c) = 0

pub delta_fits : (i : Key) (f : Form) (t : Touch) (o : Option Collection) → FitsCollection i f t o → AtColl (λ c. FitsDocument f t (map.get c.documents i)) o
delta_fits i f t None h = 0
delta_fits i f t (Some c) h = h

-- any change that fits
pub replay_goes : PlayingKeepsSame → CoversNoRoot → (m : Move) → StateGoes (replay m) (move_covers m) (MoveFits m)
replay_goes same_played root (Put n i v) = state_put_goes n i v (MoveFits (Put n i v))
replay_goes same_played root (Remove n i) = λ d mono y x fits. on_coll_goes n (remove_document i) (document_covers i all_of) (λ c. ℕ) (remove_goes i (λ c. ℕ)) d mono y x (any_coll (map.get x n))
replay_goes same_played root (Whole n i v) = λ d mono y x fits. on_coll_goes n (change_document i (λ w. v)) (document_covers i all_below) (λ c. ℕ) (whole_goes i v (λ c. ℕ)) d mono y x (any_coll (map.get x n))
replay_goes same_played root (Delta n i f t) = λ d mono y x fits. on_coll_goes n (change_document i (played f t)) (document_covers i (covers t)) (λ c. FitsDocument f t (map.get c.documents i)) (delta_goes same_played i f t (root t)) d mono y x (delta_fits i f t (map.get x n) fits)
replay_goes same_played root (Create n o) = create_goes n o (MoveFits (Create n o))
replay_goes same_played root (DropColl n) = drop_goes n (MoveFits (DropColl n))
replay_goes same_played root (DropDb db) = drop_db_goes db (MoveFits (DropDb db))
replay_goes same_played root (AddIndex n i v) = λ d mono y x fits. on_coll_goes n (add_index i v) (index_covers i) (λ c. ℕ) (add_index_goes i v (λ c. ℕ)) d mono y x (any_coll (map.get x n))
replay_goes same_played root (DropIndex n i) = λ d mono y x fits. on_coll_goes n (drop_index i) (index_covers i) (λ c. ℕ) (drop_index_goes i (λ c. ℕ)) d mono y x (any_coll (map.get x n))

-- what a change covers it covers with all below
pub doc_mono : (i : Key) (c : Place → Bool) → Hereditary c → HereditaryInside (document_covers i c)
doc_mono i c h j q r e = grind (arith, h q r)

pub all_below_mono : Hereditary all_below
all_below_mono [] r e = refl
all_below_mono (k ∷ q) r e = e

pub inside_mono : (n : NsName) (c : Inner → Bool) → HereditaryInside c → HereditarySpots (inside n c)
inside_mono n c h = record { space = λ m p e. refl; documents = λ m i q r e. grind (arith, h i q r) }

pub spaces_mono : (f : NsName → Bool) → HereditarySpots (spaces f)
spaces_mono f = record { space = λ m p e. e; documents = λ m i q r e. e }

pub index_mono : (i : Key) → HereditaryInside (index_covers i)
index_mono i j q r e = refl

pub move_mono : CoversHereditarily → (m : Move) → HereditarySpots (move_covers m)
move_mono below (Put n i v) = inside_mono n (document_covers i all_of) (doc_mono i all_of (λ q r e. e))
move_mono below (Remove n i) = inside_mono n (document_covers i all_of) (doc_mono i all_of (λ q r e. e))
move_mono below (Whole n i v) = inside_mono n (document_covers i all_below) (doc_mono i all_below all_below_mono)
move_mono below (Delta n i f t) = inside_mono n (document_covers i (covers t)) (doc_mono i (covers t) (below t))
move_mono below (Create n o) = spaces_mono (λ m. same_ns m n)
move_mono below (DropColl n) = spaces_mono (λ m. same_ns m n)
move_mono below (DropDb db) = spaces_mono (λ m. same_key m.db db)
move_mono below (AddIndex n i v) = inside_mono n (index_covers i) (index_mono i)
move_mono below (DropIndex n i) = inside_mono n (index_covers i) (index_mono i)

pub any_mono : CoversHereditarily → (ms : List Move) → HereditarySpots (any_move_covers ms)
any_mono below [] = record { space = λ n p e. refl; documents = λ n i q r e. refl }
any_mono below (m ∷ ms) =
    let a = move_mono below m in
    let b = any_mono below ms in
    record { space = λ n p e. grind (arith, a.space n p, b.space n p); documents = λ n i q r e. grind (arith, a.documents n i q r, b.documents n i q r) }

either_false : (a b : Bool) → a ≡ false → b ≡ false → a || b ≡ false
either_false a b p q = rw (p, q) refl

-- the move at the front of those to come
pub states_step : PlayingKeepsSame → CoversNoRoot → CoversHereditarily → (m : Move) (ms : List Move) (y x : State) → MoveFits m x → StatesAgree y x (m ∷ ms) → StatesAgree (replay m y) (replay m x) ms
states_step same_played root below m ms y x fits h = replay_goes same_played root m (any_move_covers ms) (any_mono below ms) y x fits (λ p a b. h p (either_false (move_covers m p) (any_move_covers ms p) a b))

pub states_steps : PlayingKeepsSame → CoversNoRoot → CoversHereditarily → (ms ns : List Move) (y x : State) → AllMovesFit ms x → StatesAgree y x (ms ++ ns) → StatesAgree (replay_all ms y) (replay_all ms x) ns
states_steps same_played root below [] ns y x fits h = h
states_steps same_played root below (m ∷ ms) ns y x fits h = states_steps same_played root below ms ns (replay m y) (replay m x) fits.1 (states_step same_played root below m (ms ++ ns) y x fits.0 h)
