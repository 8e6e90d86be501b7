-- Objects of one and of two members, whose values are known.
use Rattle.std.proofs.Common.{◌≡◌, ℕ, List, [], ◌∷◌, Result, refl, subst, ap, ◌∙◌}
use Rattle.std.specs.Prelude.{IfOk}
use Rattle.json_tree.specs.declared.tree.Tree.{Tree}
use Rattle.json_tree.specs.declared.tree.Tree.TheVariants as trees
use Rattle.containers.specs.Entries.{names_of}
use Rattle.bson_value.specs.declared.value.Value.{Value, Value-F, fold-roll-Value}
use Rattle.bson_value.specs.declared.value.Value.TheVariants.{ScopedCode, rolls-ScopedCode}
use Rattle.extjson.specs.Trees.{wrapped, paired, scoped_tree, tree_step, tree_of, fields_of}

pub wrap_is : {E : Type 0} (r : Result Tree E) (name : List ℕ) (t u : Tree) → t ≡ u → IfOk r (λ x. x ≡ wrapped name t) → IfOk r (λ x. x ≡ wrapped name u)
wrap_is r name t u e h = subst (λ (y : Tree). IfOk r (λ x. x ≡ wrapped name y)) e h

pub pair_is : (name : List ℕ) (t u : Tree) (other : List ℕ) (v w : Tree) → t ≡ u → v ≡ w → paired name t other v ≡ paired name u other w
pair_is name t u other v w e f = ap (λ (x : Tree). paired name x other v) e ∙ ap (λ (x : Tree). paired name u other x) f

pub str_is : (a b : List ℕ) → a ≡ b → trees.Str a ≡ trees.Str b
str_is a b e = ap (λ (l : List ℕ). trees.Str l) e

-- the names are kept
pub names_kept : (fs : List (List ℕ × Value)) → names_of (fields_of fs) ≡ names_of fs
names_kept [] = refl
names_kept (f ∷ fs) = ap (λ (ns : List (List ℕ)). f.0 ∷ ns) (names_kept fs)

pub scoped_is : (t : List ℕ) (fs : List (List ℕ × Value)) → tree_of (ScopedCode t fs) ≡ scoped_tree t (fields_of fs)
scoped_is t fs = subst (λ (v : Value). tree_of v ≡ scoped_tree t (fields_of fs)) (rolls-ScopedCode t fs) (fold-roll-Value Tree tree_step (Value-F.ScopedCode t fs))

pub scoped_same : (t u : List ℕ) (es fs : List (List ℕ × Tree)) → t ≡ u → es ≡ fs → scoped_tree t es ≡ scoped_tree u fs
scoped_same t u es fs p q = ap (λ (l : List ℕ). scoped_tree l es) p ∙ ap (λ (l : List (List ℕ × Tree)). scoped_tree u l) q
