-- The indexes of a transaction's collections, as they follow its changes.
use Rattle.std.proofs.Common.{◌≡◌, ℕ, zero, suc, ◌<◌, List, [], ◌∷◌, ◌++◌, length, take, get_or, Bool, true, false, refl, sym, ap, ◌∙◌, subst, arith, Option, Some, None, Result, Ok, Err, inl, inr}
use Rattle.std.specs.Prelude.{OnOk, is_some}
use Rattle.std.specs.FinMap as map
use Rattle.bson_value.specs.declared.namespace.NsName.{NsName}
use Rattle.bson_encode.specs.Key.{key_of}
use Rattle.state_model.specs.Keys.{Key, same_ns}
use Rattle.state_model.proofs.Keys.{ns_is}
use Rattle.coll_state.specs.declared.change.Change.{Change}
use Rattle.coll_state.specs.ChangeAll.{HasId, changed_by, change_one}
use Rattle.coll_state.specs.Changes.{put, remove}
use Rattle.coll_state.specs.Rows.{Document, Rows, AreSound, key_in}
use Rattle.schedule_model.specs.declared.command.DocumentCommand.{DocumentCommand}
use Rattle.schedule_model.specs.declared.refused.Refused.{Refused}
use Rattle.history_model.specs.Indexes.{IndexesHold}
use Rattle.history_model.specs.Refusals.{namespace_of, definitions_in}
use Rattle.index_build.specs.Owned.{Holding}
use Rattle.kept_indexes.specs.Kept.{KeptCollections, kept_at, AreKept, HasIndexes}
use Rattle.kept_indexes.specs.Moves.{Becomes}
use Rattle.transaction_indexes.specs.Following.{StayKept, HaveIndexes, NoneNames, AreForgotten, tested_by, Passes}

-- ---- the indexes of the other commands

has_still : (ks ks' : KeptCollections) (n : NsName) (r r' : Rows) → StayKept ks ks' → definitions_in (map.get r'.tables n) ≡ definitions_in (map.get r.tables n) → HasIndexes ks n r → HasIndexes ks' n r'
has_still ks ks' n r r' s d (inl e) = inl (d ∙ e)
has_still ks ks' n r r' s d (inr e) = inr (s n e)

pub have_still : (cs : List DocumentCommand) (ks ks' : KeptCollections) (r r' : Rows) → StayKept ks ks' → ((n : NsName) → definitions_in (map.get r'.tables n) ≡ definitions_in (map.get r.tables n)) → HaveIndexes cs ks r → HaveIndexes cs ks' r'
have_still [] ks ks' r r' s d h = tt
have_still (c ∷ cs) ks ks' r r' s d h = (has_still ks ks' (namespace_of c) r r' s (d (namespace_of c)) h.0, have_still cs ks ks' r r' s d h.1)

pub have_joined : (cs : List DocumentCommand) (c : DocumentCommand) (ks : KeptCollections) (r : Rows) → HaveIndexes cs ks r → HasIndexes ks (namespace_of c) r → HaveIndexes (cs ++ c ∷ []) ks r
have_joined [] c ks r h x = (x, tt)
have_joined (d ∷ cs) c ks r h x = (h.0, have_joined cs c ks r h.1 x)

pub have_none : (cs : List DocumentCommand) (ks : KeptCollections) (r : Rows) → HaveIndexes (take 0 cs) ks r
have_none [] ks r = tt
have_none (c ∷ cs) ks r = tt

some_kept : (o : Option (List Holding)) → is_some o ≡ true → (hs : List Holding) × (o ≡ Some hs)
some_kept None e = cc
some_kept (Some hs) e = (hs, refl)

-- what is kept already stays as it is
pub keep_stays : (ks ks' : KeptCollections) (k : NsName) → ((hs : List Holding) → kept_at ks k ≡ Some hs → kept_at ks' k ≡ Some hs) → ((n : NsName) → same_ns k n ≡ false → kept_at ks' n ≡ kept_at ks n) → StayKept ks ks'
keep_stays ks ks' k stays others n e = by (same_ns k n) refl
  where
    by : (b : Bool) → same_ns k n ≡ b → is_some (kept_at ks' n) ≡ true
    by true f =
        (let h = some_kept (kept_at ks k) (ap (λ (z : NsName). is_some (kept_at ks z)) (ns_is k n f) ∙ e) in
        ap (λ (z : NsName). is_some (kept_at ks' z)) (sym (ns_is k n f)) ∙ ap is_some (stays h.0 h.1))
    by false f = ap is_some (others n f) ∙ e

-- and so does a collection that follows a change
pub become_stays : (P : List Holding → List Holding → Type 0) (ks ks' : KeptCollections) (k : NsName) → Becomes P (kept_at ks k) (kept_at ks' k) → ((n : NsName) → same_ns k n ≡ false → kept_at ks' n ≡ kept_at ks n) → StayKept ks ks'
become_stays P ks ks' k moved others n e = by (same_ns k n) refl
  where
    still : (o p : Option (List Holding)) → Becomes P o p → is_some o ≡ true → is_some p ≡ true
    still None p b f = cc
    still (Some hs) None b f = absurd b
    still (Some hs) (Some gs) b f = refl

    by : (b : Bool) → same_ns k n ≡ b → is_some (kept_at ks' n) ≡ true
    by true f =
        ap (λ (z : NsName). is_some (kept_at ks' z)) (sym (ns_is k n f))
        ∙ still (kept_at ks k) (kept_at ks' k) moved (ap (λ (z : NsName). is_some (kept_at ks z)) (ns_is k n f) ∙ e)
    by false f = ap is_some (others n f) ∙ e

pub change_put : (c : Change) (d : Document) (r : Rows) → c.doc ≡ Some d → HasId c.id c.doc → change_one c r ≡ put c.ns d r
change_put c d r e h = ap (λ (o : Option Document). changed_by c.ns (key_of c.id) o r) e ∙ ap (λ (k : Key). changed_by c.ns k (Some d) r) (sym (ap key_in (h d e)))

pub change_removed : (c : Change) (r : Rows) → c.doc ≡ None → change_one c r ≡ remove c.ns (key_of c.id) r
change_removed c r e = ap (λ (o : Option Document). changed_by c.ns (key_of c.id) o r) e

pub kept_changed : (ks' : KeptCollections) (a b : Rows) → a ≡ b → (IndexesHold b → AreKept ks' b) → IndexesHold a → AreKept ks' a
kept_changed ks' a b e f h = subst (AreKept ks') (sym e) (f (subst IndexesHold e h))

-- ---- collections that no command names

pub none_joined : (cs : List DocumentCommand) (c : DocumentCommand) (n : NsName) → NoneNames (cs ++ c ∷ []) n → NoneNames cs n × (same_ns (namespace_of c) n ≡ false)
none_joined [] c n h = (tt, h.0)
none_joined (d ∷ cs) c n h = (let k = none_joined cs c n h.1 in ((h.0, k.0), k.1))

pub names_joined : (cs : List DocumentCommand) (c : DocumentCommand) (n : NsName) → NoneNames cs n → same_ns (namespace_of c) n ≡ false → NoneNames (cs ++ c ∷ []) n
names_joined [] c n h e = (e, tt)
names_joined (d ∷ cs) c n h e = (h.0, names_joined cs c n h.1 e)

pub none_at : (cs : List DocumentCommand) (i : ℕ) (c : DocumentCommand) (n : NsName) → i < length cs → c ≡ get_or cs i c → NoneNames cs n → same_ns (namespace_of c) n ≡ false
none_at [] i c n l e h = absurd (omega (arith, l))
none_at (d ∷ cs) zero c n l e h = ap (λ (z : DocumentCommand). same_ns (namespace_of z) n) e ∙ h.0
none_at (d ∷ cs) (suc i) c n l e h = none_at cs i c n (omega (arith, l)) e h.1

pub forgotten_none : (cs : List DocumentCommand) (ks : KeptCollections) → AreForgotten (take 0 cs) ks ks
forgotten_none [] ks n hs e = (tt, e)
forgotten_none (c ∷ cs) ks n hs e = (tt, e)

pub forgotten_more : (cs : List DocumentCommand) (c : DocumentCommand) (k : NsName) (ks old new : KeptCollections) → k ≡ namespace_of c → AreForgotten cs ks old → kept_at new k ≡ None → ((n : NsName) → same_ns k n ≡ false → kept_at new n ≡ kept_at old n) → AreForgotten (cs ++ c ∷ []) ks new
forgotten_more cs c k ks old new w h gone others n hs e = by (same_ns k n) refl
  where
    by : (b : Bool) → same_ns k n ≡ b → NoneNames (cs ++ c ∷ []) n × (kept_at ks n ≡ Some hs)
    by true f = (let z = sym gone ∙ (ap (kept_at new) (ns_is k n f) ∙ e) in cc)
    by false f = (let x = h n hs (sym (others n f) ∙ e) in (names_joined cs c n x.0 (ap (λ (z : NsName). same_ns z n) (sym w) ∙ f), x.1))

-- ---- a change

pub pass_refused : (x : Change) (ks : KeptCollections) (e : Refused) → ((r : Rows) → AreKept ks r → HasIndexes ks x.ns r → tested_by x r ≡ Some e) → Passes x ks (Some e) ks
unfolding Passes
pass_refused x ks e h = (refl, h)

pub pass_follows : (x : Change) (ks ks' : KeptCollections) → StayKept ks ks' → ((r : Rows) → AreKept ks r → HasIndexes ks x.ns r → tested_by x r ≡ None) → ((r : Rows) → AreKept ks r → AreSound r → IndexesHold (change_one x r) → AreKept ks' (change_one x r)) → Passes x ks None ks'
unfolding Passes
pass_follows x ks ks' s t k = (s, t, k)

pub on_ok : {A E : Type 0} (r : Result A E) {P Q : Type 0} → OnOk r P → (P → Q) → OnOk r Q
on_ok (Ok a) h f = f h
on_ok (Err e) h f = h
