-- One item after the other.
use Rattle.std.proofs.Common.{◌≡◌, ℕ, ◌<◌, Bool as Truth, true, false, List, [], ◌∷◌, ◌++◌, length, Some, None, Ok, Err, refl, sym, ap, ◌∙◌}
use Rattle.std.specs.Prelude.{map}
use Rattle.bson_value.specs.declared.value.Value.{Value}
use Rattle.json_tree.specs.declared.tree.Tree.{Tree}
use Rattle.json_text.specs.Reading.{after_space, more_at, item_at, closing, list_at, value_at}
use Rattle.json_text.proofs.Loop.{Left, starts, shut, goes_on, ends}
use Rattle.extjson.specs.Values.{Read, ◌>>=◌, value_of, items_value}
use Rattle.plain_json.specs.Reading.{IsValueRead, IsItemRead, IsItemPut, AreItemsRead}

-- an item and what follows it
item_read : (levels : ℕ) (bytes rest after : List ℕ) (v : Value) (more : Truth) → IsValueRead levels bytes v rest → ((end : ℕ) → more_at 93 end (after_space rest) ≡ Ok (more, after)) → IsItemRead levels bytes v more after
unfolding IsValueRead IsItemRead item_at
item_read levels bytes rest after v more (t, f, e) m = (t, (λ end done. rw (f end, m end) refl), e)

-- the item, put behind the others
pub item_put : (levels : ℕ) (before after : List Value) (bytes r1 rest : List ℕ) (v : Value) (more : Truth) → after ≡ before ++ v ∷ [] → IsValueRead levels bytes v r1 → ((end : ℕ) → more_at 93 end (after_space r1) ≡ Ok (more, rest)) → IsItemPut levels bytes before after more rest
unfolding IsItemPut
item_put levels before after bytes r1 rest v more is h m = (v, is, item_read levels bytes r1 rest v more h m)

push_case : (r : Read Value) (s : Read (List Value)) (q : Read Value)
    → (r >>= λ w. (s >>= λ vs. q >>= λ v. Ok (vs ++ v ∷ [])) >>= λ ws. Ok (w ∷ ws)) ≡ ((r >>= λ w. s >>= λ vs. Ok (w ∷ vs)) >>= λ vs. q >>= λ v. Ok (vs ++ v ∷ []))
push_case (Err e) s q = refl
push_case (Ok w) (Err e) q = refl
push_case (Ok w) (Ok vs) (Err e) = refl
push_case (Ok w) (Ok vs) (Ok v) = refl

one_case : (q : Read Value) → (q >>= λ v. Ok [] >>= λ vs. Ok (v ∷ vs)) ≡ (q >>= λ v. Ok ([] ++ v ∷ []))
one_case (Err e) = refl
one_case (Ok v) = refl

values_push : (ts : List Tree) (t : Tree) → items_value (map value_of (ts ++ t ∷ [])) ≡ (items_value (map value_of ts) >>= λ vs. value_of t >>= λ v. Ok (vs ++ v ∷ []))
unfolding items_value
values_push [] t = one_case (value_of t)
values_push (u ∷ ts) t = rw (values_push ts t) (push_case (value_of u) (items_value (map value_of ts)) (value_of t))

values_more : (ts : List Tree) (t : Tree) (vs : List Value) (v : Value) → items_value (map value_of ts) ≡ Ok vs → value_of t ≡ Ok v → items_value (map value_of (ts ++ t ∷ [])) ≡ Ok (vs ++ v ∷ [])
values_more ts t vs v e d = values_push ts t ∙ rw (e, d) refl

module _ (levels : ℕ) (bytes : List ℕ) where
  -- these values are read, and the rest is still to be read
  unfoldable pub ItemsLeft : List Value → List ℕ → Type 0
  ItemsLeft vs rest = (ts : List Tree) × ((end : ℕ) → Left (item_at (value_at levels) end) end ts rest (list_at 93 (item_at (value_at levels) end) end bytes)) × (items_value (map value_of ts) ≡ Ok vs)

  pub items_start : closing 93 bytes ≡ None → ItemsLeft [] bytes
  unfolding ItemsLeft items_value
  items_start h = ([], (λ end. starts 93 (item_at (value_at levels) end) end bytes h), refl)

  pub items_shut : (rest : List ℕ) → closing 93 bytes ≡ Some rest → AreItemsRead levels bytes [] rest
  unfolding AreItemsRead items_value
  items_shut rest h = ([], (λ end. shut 93 (item_at (value_at levels) end) end bytes rest h), refl)

  pub items_on : (vs ws : List Value) (rest : List ℕ) (more : Truth) (after : List ℕ) → IsItemPut levels rest vs ws more after → more ≡ true → length after < length rest → ItemsLeft vs rest → ItemsLeft ws after
  unfolding ItemsLeft IsItemPut IsItemRead
  items_on vs ws rest more after (v, is, (t, g, d)) m lt (ts, f, e) =
      (ts ++ t ∷ [], (λ end. goes_on (item_at (value_at levels) end) end ts rest _ (t ∷ []) more after (g end ts) m lt (f end)), values_more ts t vs v e d ∙ ap (λ (l : List Value). Ok l) (sym is))

  pub items_end : (vs ws : List Value) (rest : List ℕ) (more : Truth) (after : List ℕ) → IsItemPut levels rest vs ws more after → more ≡ false → ItemsLeft vs rest → AreItemsRead levels bytes ws after
  unfolding ItemsLeft IsItemPut IsItemRead AreItemsRead
  items_end vs ws rest more after (v, is, (t, g, d)) m (ts, f, e) =
      (ts ++ t ∷ [], (λ end. ends (item_at (value_at levels) end) end ts rest _ (t ∷ []) more after (g end ts) m (f end)), values_more ts t vs v e d ∙ ap (λ (l : List Value). Ok l) (sym is))
