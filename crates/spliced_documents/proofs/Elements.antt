-- Elements with another one in the place of that of its name are the fields with this one set.
use Rattle.std.proofs.Common.{◌≡◌, ℕ, List, [], ◌∷◌, ◌++◌, map, refl, sym, ap, subst, ◌∙◌, append_assoc, inl, inr}
use Rattle.std.specs.Str.{bytes_eq}
use Rattle.std.proofs.lemmas.Bool.{cases_Bool}
use Rattle.std.proofs.lemmas.List.{append-nil}
use Rattle.containers.specs.Entries.{put}
use Rattle.bson_value.specs.declared.value.Value.{Value, out-Value}
use Rattle.bson_check.specs.Spells.{type_byte, AreFields}
use Rattle.bson_view.specs.Parts.{Part, bytes_of, parts_in, parts_of, SpellsValue}
use Rattle.bson_view.proofs.Parting.{First, parts_on, bytes_are, fields_items}
use Rattle.spliced_documents.specs.Splicing.{front_of, rest_of}

module _ (n : ℕ) (k c : List ℕ) (v : Value) (one : AreFields (SpellsValue n) c ((k, v) ∷ [])) where
  abbrev tag : ℕ
  tag = type_byte (out-Value v)

  abbrev named : List ℕ
  named = k ++ 0 ∷ []

  -- the element before others
  before : (rest : List ℕ) → c ++ rest ≡ tag ∷ (named ++ (one.0 ++ rest))
  before rest =
      let behind : (one.0 ++ one.1) ++ rest ≡ one.0 ++ rest = ap (λ (z : List ℕ). (one.0 ++ z) ++ rest) one.4 ∙ ap (λ (z : List ℕ). z ++ rest) (append-nil one.0) in
      ap (λ (z : List ℕ). z ++ rest) one.5 ∙ ap (λ (z : List ℕ). tag ∷ z) (append_assoc named (one.0 ++ one.1) rest ∙ ap (λ (z : List ℕ). named ++ z) behind)

  put_first : (rest : List ℕ) (fs : List (List ℕ × Value)) → AreFields (SpellsValue n) rest fs → AreFields (SpellsValue n) (c ++ rest) ((k, v) ∷ fs)
  put_first rest fs s = (one.0, rest, one.2, one.3, s, before rest)

  abbrev around : List Part → List ℕ
  around ps = front_of k ps ++ (c ++ rest_of k ps)

  pub put_spelled : (b : List ℕ) (fs : List (List ℕ × Value)) → AreFields (SpellsValue n) b fs → AreFields (SpellsValue n) (around (parts_of b)) (put k v fs)
  unfolding parts_of parts_in
  put_spelled b [] s = subst (λ (x : List ℕ). AreFields (SpellsValue n) (around (parts_of x)) ((k, v) ∷ [])) (sym s) (put_first [] [] refl)
  put_spelled b (e ∷ es) s =
      let more = map (λ d. d.1) es in
      let items = fields_items n s.1 es s.4 in
      let first = type_byte (out-Value e.1) in
      let name = e.0 ++ 0 ∷ [] in
      let f : First n first (name ++ (s.0 ++ s.1)) (e.1 ∷ more) =
      record { name = e.0; value = e.1; spelling = s.0; others = s.1; more = more; is = refl; no_zero = s.2.no_zero; spells = s.3; kind = refl; parts = refl; left = items } in
      let p : Part = record { name = e.0; tag = first; value = s.0 } in
      let ps = parts_of s.1 in
      let rest = name ++ (s.0 ++ s.1) in
      let later = put_spelled s.1 es s.4 in
      let parted : ((first ∷ (name ++ s.0)) ++ front_of k ps) ++ (c ++ rest_of k ps) ≡ first ∷ (name ++ (s.0 ++ around ps)) =
      ap (λ (z : List ℕ). first ∷ z) (append_assoc (name ++ s.0) (front_of k ps) (c ++ rest_of k ps) ∙ append_assoc name s.0 (around ps)) in
      let here : AreFields (SpellsValue n) (around (p ∷ ps)) (put k v (e ∷ es)) =
      elim (cases_Bool (bytes_eq e.0 k)) [
        | inl h ↦ rw h (put_first (bytes_of ps) es (subst (λ (z : List ℕ). AreFields (SpellsValue n) z es) (sym (bytes_are n s.1 more items)) s.4))
        | inr h ↦ rw h (s.0, around ps, s.2, s.3, later, parted)
      ] in
      let there : AreFields (SpellsValue n) (around (parts_of (first ∷ rest))) (put k v (e ∷ es)) =
      subst (λ (qs : List Part). AreFields (SpellsValue n) (around qs) (put k v (e ∷ es))) (sym (parts_on n first rest (e.1 ∷ more) f)) here in
      subst (λ (x : List ℕ). AreFields (SpellsValue n) (around (parts_of x)) (put k v (e ∷ es))) (sym s.5) there
