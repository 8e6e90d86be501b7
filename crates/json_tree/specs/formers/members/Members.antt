-- `Members` as a type that may hold the type that holds it. Its value is the list of its entries.
use mathlib.Core.Path.{◌≡◌, refl, sym, ap, subst}
use mathlib.Core.List.{List, [], ◌∷◌, map}
use mathlib.Core.Former.{Former, this, const, pair, list, via}
use Prim.Native.Nat.{ℕ}
use base.Stored.{code_map, coded×, coded_list, coded_ℕ, gcons}
use denote.RattleType.{RattleType}
use denote.HoleLaws.{Alike}
use denote.HolePlaces.{Recodes, struct_places, laid, stays}
use denote.Hole.Fix.{over}
use denote.Param.Weighed.{Weighed, w_list, w_pair, w_const}
use denote.Model.Placed.{view_places}
use denote.Struct.Tuple.{Tuple, tuple_type}
use Rattle.containers.specs.Entries.{AreDistinct, AreDistinct-prop, names_of}
use Rattle.std.specs.formers.vec.Vec as vec
use Rattle.std.specs.declared.alloc.Global.{Global}
use Rattle.std.specs.contracts.alloc.Global as heap
use Rattle.std.specs.contracts.impls.GlobalAllocator.TheImpl.{ghosts}
use Rattle.containers.specs.contracts.text.Text as text
use Rattle.json_tree.specs.declared.members.Members.TheInside.{Inside}
use Rattle.json_tree.specs.declared.members.Members.TheView.{view, invariant}
use Rattle.json_tree.specs.contracts.members.Members as C
use Rattle.json_tree.specs.contracts.members.Members.TheInside as I

abbrev entry : Former {0} → Former {0}
entry g = pair (const (List ℕ)) g

abbrev pub the_former : Former {0} → Former {0}
the_former g = list (entry g)

abbrev pub the_weighed : {g : Former {0}} → Weighed g → Weighed (the_former g)
the_weighed w = w_list (w_pair (w_const (List ℕ)) w)

pub the_empty : List (List ℕ × ⊥)
the_empty = []

abbrev on_value : {X Y : Type 0} → (X → Y) → List ℕ × X → List ℕ × Y
on_value h e = (e.0, h e.1)

names_kept : {X Y : Type 0} (h : X → Y) (es : List (List ℕ × X)) → names_of (map (on_value h) es) ≡ names_of es
names_kept h [] = refl
names_kept h (e ∷ es) = ap (λ (ns : List (List ℕ)). e.0 ∷ ns) (names_kept h es)

abbrev fields : Former {0}
fields = via (vec.the_former (entry this) Global) Inside (λ X a. a.entries) (λ X v. record { entries = v }) (λ X a. refl) (λ X v. refl)

abbrev pair_row : RattleType → RattleType
pair_row R = Tuple (text.the_row ∷ R ∷ [])

module _ (R S : RattleType) (h : R.Denot → S.Denot) where
  pair_places : Alike R S h → Alike (pair_row R) (pair_row S) (on_value h)
  pair_places a = struct_places (tuple_type (text.the_row ∷ R ∷ [])) (tuple_type (text.the_row ∷ S ∷ [])) ((λ x. x), (h, tt)) (on_value h) (λ d. refl) refl (stays text.the_row, (laid _ _ _ a, tt))

  pub the_places : Alike R S h → Alike (C.the_row R) (C.the_row S) ((the_former this).map R.Denot S.Denot h)
  the_places a = view_places fields (the_former this) view (λ X Y k u. refl) (λ X u. refl) R.Denot S.Denot h (C.the_row R).coded (C.the_row S).coded
      (invariant R.Denot) (invariant S.Denot) (λ u. AreDistinct-prop _) (λ u. AreDistinct-prop _)
      (λ u. subst AreDistinct (sym (names_kept h u.entries.items))) (λ u. subst AreDistinct (names_kept h u.entries.items))
      (over (I.the_row R)) (over (I.the_row S))
      (struct_places (I.the_type R) (I.the_type S) (vec.mapped (on_value h), tt) _ (λ d. refl) refl (laid _ _ _ (vec.the_places heap.the_row ghosts (pair_row R) (pair_row S) (on_value h) (pair_places a)), tt))

  pub the_codes_placed : Recodes R S h → Recodes (C.the_row R) (C.the_row S) ((the_former this).map R.Denot S.Denot h)
  the_codes_placed e d = sym (code_map (coded× (coded_list coded_ℕ) R.coded).code (coded× (coded_list coded_ℕ) S.coded).code (on_value h) (λ x i. gcons ((coded_list coded_ℕ).code x.0) (sym (e x.1) i)) d)
