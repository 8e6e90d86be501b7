-- One change of a collection, on two collections.
use Rattle.std.proofs.Common.{◌≡◌, ℕ, [], Bool, true, false, refl, sym, ap, ◌∙◌, subst, Option, Some, None, inl, inr}
use Rattle.std.specs.Prelude.{◌&&◌, option_map}
use Rattle.std.specs.FinMap as map
use Rattle.std.proofs.lemmas.Bool.{cases_Bool}
use Rattle.bson_value.specs.declared.value.Value.{Value}
use Rattle.bson_value.specs.Place.{Place, Shape, look}
use Rattle.json_tree.specs.declared.tree.Tree.{Tree}
use Rattle.doc_path.specs.declared.parts.Form.{Form}
use Rattle.doc_path.specs.Touch.{Touch, covers}
use Rattle.doc_path.specs.Played.{played}
use Rattle.doc_path.specs.Laws.{Hereditary}
use Rattle.touch_laws.specs.Agree.{SameBut, SameButEither}
use Rattle.touch_laws.specs.Laws.{PlayingKeepsSame}
use Rattle.state_model.specs.Keys.{Key, key_cmp, same_key}
use Rattle.state_model.specs.States.{Collection}
use Rattle.state_model.specs.Spots.{Inner, Options, Index, Document, tree, kind, stands_in}
use Rattle.state_model.specs.Replay.{put_document, remove_document, changed, change_document, add_index, drop_index}
use Rattle.state_model.specs.Covers.{document_covers, index_covers, all_of, all_below, HereditaryInside}
use Rattle.state_model.specs.Fits.{FitsDocument}
use Rattle.state_model.proofs.Maps.{key_insert_here, key_insert_else, key_remove_here, key_remove_else}
use Rattle.state_model.proofs.Keys.{key_is, key_refl}

abbrev pub SameInsideBut : (Inner → Bool) → Collection → Collection → Type 0
SameInsideBut d a b = (p : Inner) → d p ≡ false → stands_in a p ≡ stands_in b p

abbrev pub SameInsideButEither : (Inner → Bool) → (Inner → Bool) → Collection → Collection → Type 0
SameInsideButEither c d a b = (p : Inner) → c p ≡ false → d p ≡ false → stands_in a p ≡ stands_in b p

abbrev pub CollGoes : (Collection → Collection) → (Inner → Bool) → (Collection → Type 0) → Type 0
CollGoes g c P = (d : Inner → Bool) → HereditaryInside d → (y x : Collection) → P x → SameInsideButEither c d y x → SameInsideBut d (g y) (g x)

-- documents: at the id, and elsewhere
abbrev pub docs_set : Collection → map.FinMap key_cmp Value → Collection
docs_set c m = record c { documents = m }

pub kind_of : (o u : Option Value) (q : Place) → option_map kind (look o q) ≡ option_map kind (look u q) → look o q ≡ look u q
kind_of o u q e = unkind (look o q) (look u q) e
  where
    unkind : (a b : Option Shape) → option_map kind a ≡ option_map kind b → a ≡ b
    unkind None None e = refl
    unkind None (Some s) e = cc
    unkind (Some s) None e = cc
    unkind (Some s) (Some t) e = cc

-- two changes of the documents at one id
pub docs_agree :
    (i : Key) (d : Inner → Bool) (c : Place → Bool) (y x : Collection) (m n : map.FinMap key_cmp Value) →
    SameInsideButEither (document_covers i c) d y x →
    ((j : Key) → (same_key j i) ≡ false → map.get m j ≡ map.get y.documents j) →
    ((j : Key) → (same_key j i) ≡ false → map.get n j ≡ map.get x.documents j) →
    ((q : Place) → d (Document i q) ≡ false → look (map.get m i) q ≡ look (map.get n i) q) →
    SameInsideBut d (docs_set y m) (docs_set x n)
docs_agree i d c y x m n same my nx at Options e = same Options refl e
docs_agree i d c y x m n same my nx at (Index j) e = same (Index j) refl e
docs_agree i d c y x m n same my nx at (Document j q) e =
    elim (cases_Bool (same_key j i)) [
      | inl s ↦ at_id j q s e
      | inr s ↦ else_id j q s e
    ]
  where
    at_id : (j : Key) (q : Place) → (same_key j i) ≡ true → d (Document j q) ≡ false → option_map kind (look (map.get m j) q) ≡ option_map kind (look (map.get n j) q)
    at_id j q s e =
        let h : i ≡ j = sym (key_is j i s) in
        subst (λ (z : Key). d (Document z q) ≡ false → option_map kind (look (map.get m z) q) ≡ option_map kind (look (map.get n z) q)) h (λ f. ap (option_map kind) (at q f)) e

    else_id : (j : Key) (q : Place) → (same_key j i) ≡ false → d (Document j q) ≡ false → option_map kind (look (map.get m j) q) ≡ option_map kind (look (map.get n j) q)
    else_id j q s e = rw (my j s, nx j s) (same (Document j q) (rw s refl) e)

pub mono_doc : (d : Inner → Bool) (i : Key) → HereditaryInside d → Hereditary (λ q. d (Document i q))
mono_doc d i mono = λ q r n. mono i q r n

pub put_goes : (i : Key) (v : Value) (P : Collection → Type 0) → CollGoes (put_document i v) (document_covers i all_of) P
put_goes i v P = λ d mono y x p same.
    docs_agree i d all_of y x (map.insert y.documents i v) (map.insert x.documents i v) same (key_insert_else y.documents i v) (key_insert_else x.documents i v)
    (λ q n. rw (key_insert_here y.documents i v, key_insert_here x.documents i v) refl)

pub remove_goes : (i : Key) (P : Collection → Type 0) → CollGoes (remove_document i) (document_covers i all_of) P
remove_goes i P = λ d mono y x p same.
    docs_agree i d all_of y x (map.remove y.documents i) (map.remove x.documents i) same (key_remove_else y.documents i) (key_remove_else x.documents i)
    (λ q n. rw (key_remove_here y.documents i, key_remove_here x.documents i) refl)

-- a document that is there is changed: what the change does to two documents, by what it covers
abbrev pub DocGoes : (Value → Value) → (Place → Bool) → (Option Value → Type 0) → Type 0
DocGoes g c P = (d : Place → Bool) → Hereditary d → (v w : Value) → P (Some w) → SameButEither c d (Some v) (Some w) → SameBut d (Some (g v)) (Some (g w))

-- presence agrees where the root is not covered
abbrev pub BothThere : Option Value → Option Value → Type 0
BothThere None None = ℕ
BothThere (Some v) (Some w) = ℕ
BothThere None (Some w) = ⊥
BothThere (Some v) None = ⊥

pub both_there : (o u : Option Value) → look o [] ≡ look u [] → BothThere o u
unfolding look
both_there None None e = 0
both_there (Some v) (Some w) e = 0
both_there None (Some w) e = cc
both_there (Some v) None e = cc

pub covers_at : (i : Key) (b : Bool) → b ≡ false → (same_key i i) && b ≡ false
covers_at i b e = rw (key_refl i, e) refl

-- without the root covered, a document is there on both sides or on none
pub root_same : (i : Key) (c : Place → Bool) (d : Inner → Bool) (y x : Collection) (q : Place) → c [] ≡ false → HereditaryInside d → SameInsideButEither (document_covers i c) d y x → d (Document i q) ≡ false →
    BothThere (map.get y.documents i) (map.get x.documents i)
root_same i c d y x q root mono same n =
    both_there _ _ (kind_of (map.get y.documents i) (map.get x.documents i) [] (same (Document i []) (covers_at i (c []) root) (mono i [] q n)))

pub changed_agrees :
    (g : Value → Value) (i : Key) (c : Place → Bool) (P : Option Value → Type 0) → c [] ≡ false → DocGoes g c P →
    (d : Inner → Bool) → HereditaryInside d → (y x : Collection) (o u : Option Value) → map.get y.documents i ≡ o → map.get x.documents i ≡ u → P u →
    SameInsideButEither (document_covers i c) d y x → SameInsideBut d (changed g i o y) (changed g i u x)
changed_agrees g i c P root goes d mono y x None None yo xu p same =
    docs_agree i d c y x y.documents x.documents same (λ j e. refl) (λ j e. refl) (λ q n. rw (yo, xu) refl)
changed_agrees g i c P root goes d mono y x (Some v) (Some w) yo xu p same =
    docs_agree i d c y x (map.insert y.documents i (g v)) (map.insert x.documents i (g w)) same (key_insert_else y.documents i (g v)) (key_insert_else x.documents i (g w))
    (λ q n. rw (key_insert_here y.documents i (g v), key_insert_here x.documents i (g w)) (goes (λ r. d (Document i r)) (mono_doc d i mono) v w p docs q n))
  where
    docs : SameButEither c (λ r. d (Document i r)) (Some v) (Some w)
    docs r a b = rw (yo, xu) at (kind_of (map.get y.documents i) (map.get x.documents i) r (same (Document i r) (covers_at i (c r) a) b))
changed_agrees g i c P root goes d mono y x None (Some w) yo xu p same =
    docs_agree i d c y x y.documents (map.insert x.documents i (g w)) same (λ j e. refl) (key_insert_else x.documents i (g w))
    (λ q n. absurd (subst (λ (o : Option Value). BothThere None o) xu (subst (λ (o : Option Value). BothThere o (map.get x.documents i)) yo (root_same i c d y x q root mono same n))))
changed_agrees g i c P root goes d mono y x (Some v) None yo xu p same =
    docs_agree i d c y x (map.insert y.documents i (g v)) x.documents same (key_insert_else y.documents i (g v)) (λ j e. refl)
    (λ q n. absurd (subst (λ (o : Option Value). BothThere (Some v) o) xu (subst (λ (o : Option Value). BothThere o (map.get x.documents i)) yo (root_same i c d y x q root mono same n))))

pub whole_doc_goes : (v : Value) (P : Option Value → Type 0) → DocGoes (λ w. v) all_below P
whole_doc_goes v P = λ d mono a b p same q n. refl

pub whole_goes : (i : Key) (v : Value) (P : Collection → Type 0) → CollGoes (change_document i (λ w. v)) (document_covers i all_below) P
whole_goes i v P = λ d mono y x p same.
    changed_agrees (λ w. v) i all_below (λ o. ℕ) refl (whole_doc_goes v (λ o. ℕ)) d mono y x (map.get y.documents i) (map.get x.documents i) refl refl 0 same

pub delta_goes : PlayingKeepsSame → (i : Key) (f : Form) (t : Touch) → covers t [] ≡ false → CollGoes (change_document i (played f t)) (document_covers i (covers t)) (λ c. FitsDocument f t (map.get c.documents i))
delta_goes same_played i f t root = λ d mono y x p same.
    changed_agrees (played f t) i (covers t) (FitsDocument f t) root (λ d mono v w fits. same_played f t d v w mono fits.0 fits.1) d mono y x (map.get y.documents i) (map.get x.documents i) refl refl p same

-- definitions
pub index_at : (i : Key) (m n : map.FinMap key_cmp Tree) (y x : Collection) (d : Inner → Bool) → SameInsideButEither (index_covers i) d y x →
    ((j : Key) → (same_key j i) ≡ false → map.get m j ≡ map.get y.indexes j) →
    ((j : Key) → (same_key j i) ≡ false → map.get n j ≡ map.get x.indexes j) →
    map.get m i ≡ map.get n i →
    SameInsideBut d (record y { indexes = m }) (record x { indexes = n })
index_at i m n y x d same my nx at Options e = same Options refl e
index_at i m n y x d same my nx at (Document j q) e = same (Document j q) refl e
index_at i m n y x d same my nx at (Index j) e =
    elim (cases_Bool (same_key j i)) [
      | inl s ↦ at_id j s
      | inr s ↦ rw (my j s, nx j s) (same (Index j) s e)
    ]
  where
    at_id : (j : Key) → (same_key j i) ≡ true → option_map tree (map.get m j) ≡ option_map tree (map.get n j)
    at_id j s = let h : i ≡ j = sym (key_is j i s) in subst (λ (z : Key). option_map tree (map.get m z) ≡ option_map tree (map.get n z)) h (ap (option_map tree) at)

pub add_index_goes : (i : Key) (v : Tree) (P : Collection → Type 0) → CollGoes (add_index i v) (index_covers i) P
add_index_goes i v P = λ d mono y x p same.
    index_at i (map.insert y.indexes i v) (map.insert x.indexes i v) y x d same (key_insert_else y.indexes i v) (key_insert_else x.indexes i v) (key_insert_here y.indexes i v ∙ sym (key_insert_here x.indexes i v))

pub drop_index_goes : (i : Key) (P : Collection → Type 0) → CollGoes (drop_index i) (index_covers i) P
drop_index_goes i P = λ d mono y x p same.
    index_at i (map.remove y.indexes i) (map.remove x.indexes i) y x d same (key_remove_else y.indexes i) (key_remove_else x.indexes i) (key_remove_here y.indexes i ∙ sym (key_remove_here x.indexes i))
