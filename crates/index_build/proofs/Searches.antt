-- Who has a key, after each change of the holders.
use Rattle.std.proofs.Common.{◌≡◌, List, [], ◌∷◌, ◌++◌, Bool, true, false, refl, sym, ap, ◌∙◌, Option, Some, None}
use Rattle.std.specs.Prelude.{◌||◌, is_some, if◌then◌else◌}
use Rattle.std.specs.Str.{bytes_eq}
use Rattle.std.specs.Cmp.Lexicographic.{texts_ties}
use Rattle.state_model.specs.Keys.{Key, key_cmp, same_key}
use Rattle.state_model.proofs.Keys.{key_total, key_anti, key_is, key_turn}
use Rattle.coll_state.specs.Stock.{Rise, beside}
use Rattle.coll_state.proofs.Keyed.{found_take}
use Rattle.sorted_list.specs.Order.{take_out}
use Rattle.index_build.specs.declared.holder.Holder.{Holder}
use Rattle.index_build.specs.Faults.{or_else}
use Rattle.index_build.specs.Holders.{holder_key, found_key, id_in, holder_of}
use Rattle.index_build.specs.Owners.{Texts, has}

no_some : {A : Type 0} (x : A) → Some x ≡ None → ⊥
no_some x e = cc

or_nothing : {A : Type 0} (o : Option A) → or_else o None ≡ o
or_nothing None = refl
or_nothing (Some x) = refl

-- one holder more
pub found_append : (t : Key) (hs : List Holder) (h : Holder) → found_key t (hs ++ h ∷ []) ≡ or_else (found_key t hs) (found_key t (h ∷ []))
found_append t [] h = refl
found_append t (x ∷ hs) h = by (same_key x.key t) (found_append t hs h)
  where
    by : (b : Bool) → found_key t (hs ++ h ∷ []) ≡ or_else (found_key t hs) (found_key t (h ∷ [])) → (if b then Some x else found_key t (hs ++ h ∷ [])) ≡ or_else (if b then Some x else found_key t hs) (found_key t (h ∷ []))
    by true e = refl
    by false e = e

-- a key that somebody has is given to nobody
pub stays_given : (recent settled : List Holder) (h : Holder) → is_some (holder_of recent settled h.key) ≡ true → (t : Key) → holder_of recent settled t ≡ or_else (holder_of recent settled t) (id_in (found_key t (h ∷ [])))
stays_given recent settled h there t = by (same_key h.key t) refl
  where
    some : (o : Option Key) → is_some o ≡ true → (p : Option Key) → o ≡ or_else o p
    some None e p = cc
    some (Some x) e p = refl

    by : (b : Bool) → same_key h.key t ≡ b → holder_of recent settled t ≡ or_else (holder_of recent settled t) (id_in (if b then Some h else None))
    by true e = some (holder_of recent settled t) (ap (λ (k : Key). is_some (holder_of recent settled k)) (sym (key_is h.key t e)) ∙ there) (Some h.id)
    by false e = sym (or_nothing (holder_of recent settled t))

none_first : (o p : Option Holder) → id_in (or_else o p) ≡ None → (o ≡ None) × (p ≡ None)
none_first None None e = (refl, refl)
none_first None (Some x) e = cc
none_first (Some x) p e = cc

pub given_more : (recent settled after : List Holder) (h : Holder) → ((t : Key) → found_key t after ≡ or_else (found_key t recent) (found_key t (h ∷ []))) → holder_of recent settled h.key ≡ None → (t : Key) →
    holder_of after settled t ≡ or_else (holder_of recent settled t) (id_in (found_key t (h ∷ [])))
given_more recent settled after h e none t =
    ap (λ (o : Option Holder). id_in (or_else o (found_key t settled))) (e t) ∙ by (same_key h.key t) refl
  where
    off : (r s : Option Holder) → id_in (or_else (or_else r None) s) ≡ or_else (id_in (or_else r s)) None
    off r s = ap (λ (o : Option Holder). id_in (or_else o s)) (or_nothing r) ∙ sym (or_nothing (id_in (or_else r s)))

    on : (r s : Option Holder) → (r ≡ None) × (s ≡ None) → id_in (or_else (or_else r (Some h)) s) ≡ or_else (id_in (or_else r s)) (Some h.id)
    on None None e = refl
    on (Some x) s e = cc
    on None (Some x) e = cc

    by : (b : Bool) → same_key h.key t ≡ b → id_in (or_else (or_else (found_key t recent) (if b then Some h else None)) (found_key t settled)) ≡ or_else (holder_of recent settled t) (id_in (if b then Some h else None))
    by true e = on (found_key t recent) (found_key t settled) (none_first (found_key t recent) (found_key t settled) (ap (holder_of recent settled) (sym (key_is h.key t e)) ∙ none))
    by false e = off (found_key t recent) (found_key t settled)

-- none of the newest has a key that nobody has
pub none_of_newest : (recent settled : List Holder) (k : Key) → holder_of recent settled k ≡ None → found_key k recent ≡ None
none_of_newest recent settled k e = (none_first (found_key k recent) (found_key k settled) e).0

-- all that are given, one after the other
pub given_all : (t : Key) (o p : Option Key) (h : Holder) (hs : List Holder) → p ≡ or_else o (id_in (found_key t (h ∷ []))) → or_else p (id_in (found_key t hs)) ≡ or_else o (id_in (found_key t (h ∷ hs)))
given_all t o p h hs e = ap (λ (z : Option Key). or_else z (id_in (found_key t hs))) e ∙ by (same_key h.key t) o
  where
    by : (b : Bool) (o : Option Key) → or_else (or_else o (id_in (if b then Some h else None))) (id_in (found_key t hs)) ≡ or_else o (id_in (if b then Some h else found_key t hs))
    by true None = refl
    by true (Some x) = refl
    by false None = refl
    by false (Some x) = refl

-- the newest is put in its place
pub settled_one : (recent settled after : List Holder) (h : Holder) → ((t : Key) → found_key t after ≡ (if same_key t h.key then Some h else found_key t settled)) → (t : Key) → holder_of recent after t ≡ holder_of (recent ++ h ∷ []) settled t
settled_one recent settled after h e t =
    ap (λ (o : Option Holder). id_in (or_else (found_key t recent) o)) (e t)
    ∙ (by (found_key t recent) (same_key t h.key) (same_key h.key t) (sym (key_turn t h.key (same_key t h.key) refl))
    ∙ sym (ap (λ (o : Option Holder). id_in (or_else o (found_key t settled))) (found_append t recent h)))
  where
    by : (r : Option Holder) (a b : Bool) → a ≡ b → id_in (or_else r (if a then Some h else found_key t settled)) ≡ id_in (or_else (or_else r (if b then Some h else None)) (found_key t settled))
    by (Some x) a b e = refl
    by None true true e = refl
    by None false false e = refl
    by None true false e = cc
    by None false true e = cc

-- ---- keys that nobody has any more

pub taken_one : (recent settled after : List Holder) (k : Key) → ((t : Key) → found_key t after ≡ (if same_key t k then None else found_key t recent)) → Rise key_cmp holder_key settled → (t : Key) →
    holder_of after (take_out (beside key_cmp holder_key k) settled) t ≡ (if same_key t k then None else holder_of recent settled t)
taken_one recent settled after k e r t =
    (λ i. id_in (or_else (e t i) (found_take key_cmp key_total key_anti holder_key settled k t r i))) ∙ by (same_key t k)
  where
    by : (b : Bool) → id_in (or_else (if b then None else found_key t recent) (if b then None else found_key t settled)) ≡ (if b then None else holder_of recent settled t)
    by true = refl
    by false = refl

has_last : (t : Key) (rest : Texts) (k : Key) → has t (rest ++ k ∷ []) ≡ (has t rest || bytes_eq t k)
has_last t [] k = or_false (bytes_eq t k)
  where
    or_false : (b : Bool) → (b || false) ≡ b
    or_false true = refl
    or_false false = refl
has_last t (x ∷ rest) k = by (bytes_eq t x) (has_last t rest k)
  where
    by : (b : Bool) → has t (rest ++ k ∷ []) ≡ (has t rest || bytes_eq t k) → (b || has t (rest ++ k ∷ [])) ≡ ((b || has t rest) || bytes_eq t k)
    by true e = refl
    by false e = e

-- one after the other, the last first
pub taken_all : (t k : Key) (rest : Texts) (o p : Option Key) → p ≡ (if same_key t k then None else o) → (if has t rest then None else p) ≡ (if has t (rest ++ k ∷ []) then None else o)
taken_all t k rest o p e =
    ap (λ (z : Option Key). if has t rest then None else z) e
    ∙ (by (has t rest) (same_key t k) (bytes_eq t k) (sym (texts_ties t k)) ∙ ap (λ (b : Bool). if b then None else o) (sym (has_last t rest k)))
  where
    by : (a b c : Bool) → b ≡ c → (if a then None else if b then None else o) ≡ (if a || c then None else o)
    by true true true e = refl
    by true false false e = refl
    by false true true e = refl
    by false false false e = refl
    by a true false e = cc
    by a false true e = cc
