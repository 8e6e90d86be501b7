-- What is read is well formed, and has at most 256 levels.
use Rattle.std.proofs.Common.{◌≡◌, ℕ, zero, suc, ◌≤◌, true, List, [], ◌∷◌, Result, Ok, Err, subst, arith}
use Rattle.std.specs.Prelude.{IfOk}
use Rattle.std.specs.List.{AllByRecursion}
use Rattle.std.specs.Str.{is_utf8}
use Rattle.json_tree.specs.declared.tree.Tree.{Tree, Tree-F, out-Tree, roll-Tree, roll-out-Tree}
use Rattle.json_tree.specs.Levels.{levels_of, items_levels, field_levels}
use Rattle.json_tree.specs.WellFormed.{AreNames, IsWellFormed, AreWellFormedItems, AreWellFormedFields}
use Rattle.json_tree.proofs.Levels.{levels_at, levels_out, fields_same}
use Rattle.json_tree.proofs.WellFormed.{well_one}
use Rattle.json_text.specs.declared.fault.JsonFault.{JsonFault}
use Rattle.json_text.specs.Reading.{Gives, tree_of_text}
use Rattle.json_text.specs.Grammar.{AreMore, AreListed, IsMember, IsOne, IsArray, IsObject, Json}
use Rattle.json_text.proofs.FoundValues.{json_found}

module _ (A : List ℕ → List Tree → Type 0) (O : List ℕ → List (List ℕ × Tree) → Type 0) (n : ℕ)
    (arrays : (b : List ℕ) (ts : List Tree) → A b ts → AreWellFormedItems ts × (suc (items_levels ts) ≤ n))
    (objects : (b : List ℕ) (es : List (List ℕ × Tree)) → O b es → AreNames es × AreWellFormedFields es × (suc (field_levels es) ≤ n)) where
  rolled : (b : List ℕ) (x : Tree-F Tree) → IsOne A O b x → IsWellFormed (roll-Tree x) × (levels_at x ≤ n)
  rolled b Tree-F.Null h = (well_one Tree-F.Null tt tt, omega arith)
  rolled b (Tree-F.Bool v) h = (well_one (Tree-F.Bool v) tt tt, omega arith)
  rolled b (Tree-F.Number t) h = (well_one (Tree-F.Number t) h.0 tt, omega arith)
  rolled b (Tree-F.Str t) h = (well_one (Tree-F.Str t) h.2 tt, omega arith)
  rolled b (Tree-F.Items ts) h = let r = arrays b ts h in (well_one (Tree-F.Items ts) tt r.0, r.1)
  rolled b (Tree-F.Object es) h = let r = objects b es h in (well_one (Tree-F.Object es) r.0 r.1, omega (arith, r.2, fields_same es))

  abbrev V : List ℕ → Tree → Type 0
  V b t = IsOne A O b (out-Tree t)

  value_well : (b : List ℕ) (t : Tree) → V b t → IsWellFormed t × (levels_of t ≤ n)
  value_well b t h = let r = rolled b (out-Tree t) h in (subst IsWellFormed (roll-out-Tree t) r.0, omega (arith, r.1, levels_out t))

  more_well : (b : List ℕ) (ts : List Tree) → AreMore V b ts → AreWellFormedItems ts × (items_levels ts ≤ n)
  more_well b [] h = (tt, omega arith)
  more_well b (t ∷ ts) h = let x = value_well h.1 t h.5 in let r = more_well h.3 ts h.7 in ((x.0, r.0), omega (arith, x.1, r.1))

  items_well : (b : List ℕ) (ts : List Tree) → AreListed V b ts → AreWellFormedItems ts × (items_levels ts ≤ n)
  items_well b [] h = (tt, omega arith)
  items_well b (t ∷ ts) h = let x = value_well h.1 t h.5 in let r = more_well h.3 ts h.7 in ((x.0, r.0), omega (arith, x.1, r.1))

  abbrev AreFields : List (List ℕ × Tree) → Type 0
  AreFields es = AllByRecursion (λ e. is_utf8 e.0 ≡ true) es × AreWellFormedFields es × (field_levels es ≤ n)

  field_well : (b : List ℕ) (e : List ℕ × Tree) (es : List (List ℕ × Tree)) → IsMember V b e → AreFields es → AreFields (e ∷ es)
  field_well b e es h r = let x = value_well h.3 e.1 h.7 in ((h.4.2, r.0), (x.0, r.1), omega (arith, x.1, r.2))

  more_fields : (b : List ℕ) (es : List (List ℕ × Tree)) → AreMore (IsMember V) b es → AreFields es
  more_fields b [] h = (tt, tt, omega arith)
  more_fields b (e ∷ es) h = field_well h.1 e es h.5 (more_fields h.3 es h.7)

  fields_well : (b : List ℕ) (es : List (List ℕ × Tree)) → AreListed (IsMember V) b es → AreFields es
  fields_well b [] h = (tt, tt, omega arith)
  fields_well b (e ∷ es) h = field_well h.1 e es h.5 (more_fields h.3 es h.7)

mutual
  unfolding IsArray

  array_well : (n : ℕ) (b : List ℕ) (ts : List Tree) → IsArray n b ts → AreWellFormedItems ts × (suc (items_levels ts) ≤ n)
  array_well zero b ts h = absurd h
  array_well (suc n) b ts h = let r = items_well (IsArray n) (IsObject n) n (array_well n) (object_well n) h.0 ts h.1 in (r.0, omega (arith, r.1))

  object_well : (n : ℕ) (b : List ℕ) (es : List (List ℕ × Tree)) → IsObject n b es → AreNames es × AreWellFormedFields es × (suc (field_levels es) ≤ n)
  object_well zero b es h = absurd h
  object_well (suc n) b es h = let r = fields_well (IsArray n) (IsObject n) n (array_well n) (object_well n) h.0 es h.1 in ((h.2, r.0), r.1, omega (arith, r.2))

pub json_well : (text : List ℕ) (t : Tree) → Json text t → IsWellFormed t × (levels_of t ≤ 256)
unfolding Json
json_well text t h = value_well (IsArray 256) (IsObject 256) 256 (array_well 256) (object_well 256) h.1 t h.4

-- the value that a call read
pub read_well : (r : Result Tree JsonFault) (text : List ℕ) → Gives (λ t. t) r (tree_of_text text) → IfOk r (λ t. IsWellFormed t)
read_well (Ok t) text h = (json_well text t (json_found text t h)).0
read_well (Err e) text h = tt

pub read_levels : (r : Result Tree JsonFault) (text : List ℕ) → Gives (λ t. t) r (tree_of_text text) → IfOk r (λ t. levels_of t ≤ 256)
read_levels (Ok t) text h = (json_well text t (json_found text t h)).1
read_levels (Err e) text h = tt
