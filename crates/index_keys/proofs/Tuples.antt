-- The keys of several fields, one branch of each.
use Rattle.std.proofs.Common.{◌≡◌, ℕ, List, [], ◌∷◌, ◌++◌, map, Bool, true, false, cond, ◌&&◌, refl, sym, ap, ◌∙◌, append-nil}
use Rattle.std.proofs.lemmas.List.{map-append}
use Rattle.std.specs.List.{list_all, flat_map}
use Rattle.bson_value.specs.declared.value.Value.{Object}
use Rattle.index_keys.specs.declared.branches.HeldBranch.{HeldBranch}
use Rattle.index_keys.specs.Branches.{Path, Branch, branches}
use Rattle.index_keys.specs.HeldBranches.{HeldField, branch_of, branches_of, texts_behind}
use Rattle.index_keys.specs.declared.plan.Plan.{Plan}
use Rattle.index_keys.specs.Keys.{Fields, Key, Cell, is_missing, has_none, cell, cells, tuples}
use Rattle.index_keys.specs.Texts.{key_text, key_texts, each_once}
use Rattle.index_keys.proofs.Loops.{list_all-map}

abbrev front_cells : List HeldBranch → List Cell
front_cells front = map cell (branches_of front)

shifted : (front : List HeldBranch) (b : HeldBranch) (k : Key) → front_cells (front ++ b ∷ []) ++ k ≡ front_cells front ++ (cell (branch_of b) ∷ k)
shifted [] b k = refl
shifted (x ∷ front) b k = ap (λ (l : Key). cell (branch_of x) ∷ l) (shifted front b k)

abbrev after : List HeldBranch → Key → List ℕ
after front k = key_text (front_cells front ++ k)

moved : (front : List HeldBranch) (b : HeldBranch) (ks : List Key) → map (after (front ++ b ∷ [])) ks ≡ map (after front) (map (λ k. cell (branch_of b) ∷ k) ks)
moved front b [] = refl
moved front b (k ∷ ks) = λ i. key_text (shifted front b k i) ∷ moved front b ks i

each_is : (front : List HeldBranch) (fs : List HeldField) (ks : List Key) → ((b : HeldBranch) → texts_behind (front ++ b ∷ []) fs ≡ map (after (front ++ b ∷ [])) ks) → (bs : List HeldBranch) →
    flat_map (λ b. texts_behind (front ++ b ∷ []) fs) bs ≡ map (after front) (flat_map (λ c. map (λ k. c ∷ k) ks) (map cell (branches_of bs)))
each_is front fs ks ih [] = refl
each_is front fs ks ih (b ∷ bs) =
    (λ i. (ih b ∙ moved front b ks) i ++ each_is front fs ks ih bs i)
    ∙ sym (map-append (after front) (map (λ k. cell (branch_of b) ∷ k) ks) (flat_map (λ c. map (λ k. c ∷ k) ks) (map cell (branches_of bs))))

abbrev met : List HeldField → List (List Branch)
met fs = map (λ (f : HeldField). branches_of f.items) fs

behind_is : (fs : List HeldField) (front : List HeldBranch) → texts_behind front fs ≡ map (after front) (tuples (map (map cell) (met fs)))
behind_is [] front = ap (λ (k : Key). key_text k ∷ []) (sym (append-nil (front_cells front)))
behind_is (f ∷ fs) front = each_is front fs (tuples (map (map cell) (met fs))) (λ b. behind_is fs (front ++ b ∷ [])) f.items

-- ---- the fields of a plan

cells_are : (paths : List Path) (doc : Fields) → cells paths doc ≡ map (map cell) (map (λ p. branches p (Object doc)) paths)
cells_are [] doc = refl
cells_are (p ∷ paths) doc = ap (λ (l : List (List Cell)). map cell (branches p (Object doc)) ∷ l) (cells_are paths doc)

module _ (fs : List HeldField) (plan : Plan) (doc : Fields) (is : met fs ≡ map (λ p. branches p (Object doc)) plan.paths) where
  none_is : list_all (λ (f : HeldField). list_all is_missing (branches_of f.items)) fs ≡ has_none plan.paths doc
  none_is =
      sym (list_all-map (list_all is_missing) (λ (f : HeldField). branches_of f.items) fs)
      ∙ (ap (list_all (list_all is_missing)) is ∙ list_all-map (list_all is_missing) (λ (p : Path). branches p (Object doc)) plan.paths)

  texts_by : (b : Bool) → (plan.sparse && has_none plan.paths doc) ≡ b → key_texts plan doc ≡ each_once (map key_text (cond b [] (tuples (cells plan.paths doc))))
  texts_by b e = ap (λ (c : Bool). each_once (map key_text (cond c [] (tuples (cells plan.paths doc))))) e

  pub left_all : (plan.sparse && list_all (λ (f : HeldField). list_all is_missing (branches_of f.items)) fs) ≡ true → key_texts plan doc ≡ []
  left_all e = texts_by true (ap (λ b. plan.sparse && b) (sym none_is) ∙ e)

  pub given_all : (plan.sparse && list_all (λ (f : HeldField). list_all is_missing (branches_of f.items)) fs) ≡ false → key_texts plan doc ≡ each_once (texts_behind [] fs)
  given_all e =
      texts_by false (ap (λ b. plan.sparse && b) (sym none_is) ∙ e)
      ∙ ap each_once (ap (λ (css : List (List Cell)). map key_text (tuples css)) (cells_are plan.paths doc ∙ ap (map (map cell)) (sym is)) ∙ sym (behind_is fs []))
