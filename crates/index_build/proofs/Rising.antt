-- Holders by rising keys, after each edit.
use Rattle.std.proofs.Common.{◌≡◌, ℕ, List, [], ◌∷◌, ◌++◌, Bool, true, false, refl, sym, ap, ◌∙◌, subst, Option, Some, None}
use Rattle.std.specs.Prelude.{if◌then◌else◌}
use Rattle.std.specs.Option.{option_to_list}
use Rattle.std.specs.List.{insert, remove}
use Rattle.state_model.specs.Keys.{Key, key_cmp, same_key}
use Rattle.state_model.proofs.Keys.{key_total, key_anti, key_is, key_turn}
use Rattle.coll_state.specs.Stock.{AllAfter, Rise, beside}
use Rattle.coll_state.proofs.Keyed.{rise_ordered, found_put, found_take, rise_put, rise_take}
use Rattle.sorted_list.specs.Order.{IsFound, place, take_out}
use Rattle.sorted_list.proofs.Order.{put_at, take_at}
use Rattle.index_build.specs.declared.holder.Holder.{Holder}
use Rattle.index_build.specs.Faults.{or_else}
use Rattle.index_build.specs.Holders.{holder_key, found_key}

no_some : {A : Type 0} (x : A) → Some x ≡ None → ⊥
no_some x e = cc

-- ---- one holder more, at its place

pub rise_more : (hs : List Holder) (h : Holder) (at : ℕ) → at ≡ place (beside key_cmp holder_key h.key) hs → found_key h.key hs ≡ None → Rise key_cmp holder_key hs → Rise key_cmp holder_key (insert hs at h)
rise_more hs h at e n r =
    subst (Rise key_cmp holder_key) (sym (ap (λ (m : ℕ). insert hs m h) e ∙ put_at (beside key_cmp holder_key h.key) hs h))
    (rise_put key_cmp key_total key_anti holder_key hs h.key h refl n r)

pub found_more : (hs : List Holder) (h : Holder) (at : ℕ) → at ≡ place (beside key_cmp holder_key h.key) hs → found_key h.key hs ≡ None → (t : Key) → found_key t (insert hs at h) ≡ or_else (found_key t hs) (found_key t (h ∷ []))
found_more hs h at e n t =
    ap (found_key t) (ap (λ (m : ℕ). insert hs m h) e ∙ put_at (beside key_cmp holder_key h.key) hs h)
    ∙ (found_put key_cmp key_total key_anti holder_key hs h.key t h refl
    ∙ by (same_key t h.key) (same_key h.key t) (found_key t hs) (sym (key_turn t h.key (same_key t h.key) refl)) (λ s. ap (λ (k : Key). found_key k hs) (key_is t h.key s) ∙ n))
  where
    by : (b c : Bool) (o : Option Holder) → b ≡ c → (b ≡ true → o ≡ None) → (if b then Some h else o) ≡ or_else o (if c then Some h else None)
    by true true None e n = refl
    by true true (Some x) e n = absurd (no_some x (n refl))
    by false false None e n = refl
    by false false (Some x) e n = refl
    by true false o e n = cc
    by false true o e n = cc

-- ---- one holder less

taken_is : (hs : List Holder) (k : Key) (at : ℕ) → IsFound (beside key_cmp holder_key k) hs at → Rise key_cmp holder_key hs → remove hs at ≡ take_out (beside key_cmp holder_key k) hs
taken_is hs k at f r =
    ap (remove hs) (sym f.is_place)
    ∙ take_at (beside key_cmp holder_key k) hs _ (rise_ordered key_cmp key_total key_anti holder_key hs k r) (f.is_found (record { key = []; id = [] }))

pub rise_less : (hs : List Holder) (k : Key) (at : ℕ) → IsFound (beside key_cmp holder_key k) hs at → Rise key_cmp holder_key hs → Rise key_cmp holder_key (remove hs at)
rise_less hs k at f r = subst (Rise key_cmp holder_key) (sym (taken_is hs k at f r)) (rise_take key_cmp key_total key_anti holder_key hs k r)

pub found_less : (hs : List Holder) (k : Key) (at : ℕ) → IsFound (beside key_cmp holder_key k) hs at → Rise key_cmp holder_key hs → (t : Key) → found_key t (remove hs at) ≡ (if same_key t k then None else found_key t hs)
found_less hs k at f r t = ap (found_key t) (taken_is hs k at f r) ∙ found_take key_cmp key_total key_anti holder_key hs k t r

-- a key that none has
pub found_none : (hs : List Holder) (k : Key) → found_key k hs ≡ None → (t : Key) → found_key t hs ≡ (if same_key t k then None else found_key t hs)
found_none hs k n t = by (same_key t k) (λ s. ap (λ (q : Key). found_key q hs) (key_is t k s) ∙ n)
  where
    by : (b : Bool) → (b ≡ true → found_key t hs ≡ None) → found_key t hs ≡ (if b then None else found_key t hs)
    by true h = h refl
    by false h = refl

after_front : (k : Key) (hs : List Holder) (h : Holder) → AllAfter key_cmp holder_key k (hs ++ h ∷ []) → AllAfter key_cmp holder_key k hs
after_front k [] h a = tt
after_front k (x ∷ hs) h a = (a.0, after_front k hs h a.1)

rise_front : (hs : List Holder) (h : Holder) → Rise key_cmp holder_key (hs ++ h ∷ []) → Rise key_cmp holder_key hs
rise_front [] h r = tt
rise_front (x ∷ hs) h r = (after_front x.key hs h r.0, rise_front hs h r.1)

no_more : (hs : List Holder) → hs ++ [] ≡ hs
no_more [] = refl
no_more (x ∷ hs) = ap (λ (l : List Holder). x ∷ l) (no_more hs)

pub rise_popped : (hs left : List Holder) (o : Option Holder) → hs ≡ left ++ option_to_list o → Rise key_cmp holder_key hs → Rise key_cmp holder_key left
rise_popped hs left None e r = subst (Rise key_cmp holder_key) (e ∙ no_more left) r
rise_popped hs left (Some h) e r = rise_front left h (subst (Rise key_cmp holder_key) e r)
