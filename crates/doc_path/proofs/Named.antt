-- The first fault of a path, part by part.
use Rattle.std.proofs.Common.{arith, ◌≡◌, ℕ, ◌<◌, ◌+◌, List, [], ◌∷◌, length, get_or, drop, false, refl, sym, ap, ◌∙◌, Option, None}
use Rattle.std.specs.Prelude.{◌==◌}
use Rattle.std.proofs.lemmas.List.Splits.{length-slice_split}
use Rattle.std.proofs.lemmas.List.{at_drop_more}
use Rattle.doc_path.specs.declared.path.PathFault.{PathFault}
use Rattle.doc_path.specs.declared.path.PathFault.TheVariants as faults
use Rattle.doc_path.specs.Paths.{parts_of, part_fault, first_of, first_fault, path_fault, IsFault}

pub first_fault-drop : (all : List (List ℕ)) (k : ℕ) (part : List ℕ) → (k < length all) × (part ≡ get_or all k part) → first_fault (drop k all) ≡ first_of (part_fault part) (first_fault (drop (k + 1) all))
first_fault-drop all k part h = at_drop_more first_fault all k part h.0 ∙ ap (λ (x : List ℕ). first_of (part_fault x) (first_fault (drop (k + 1) all))) (sym h.1)

pub passes : (part : List ℕ) (later : Option PathFault) → part_fault part ≡ None → first_of (part_fault part) later ≡ later
passes part later e = rw e refl

-- a text that isn't empty
pub some_text : (text : List ℕ) → (length text == 0) ≡ false → path_fault text ≡ first_fault (parts_of text)
some_text [] e = cc
some_text (c ∷ cs) e = refl

pub stops : (e : PathFault) (o later : Option PathFault) → IsFault e o → IsFault e (first_of o later)
stops faults.NoMemory o later f = f
stops faults.Empty o later f = rw f refl
stops faults.EmptyPart o later f = rw f refl
stops faults.Dollar o later f = rw f refl
stops faults.Zero o later f = rw f refl

pub some_parts : (text : List ℕ) → parts_of text ≡ [] → ⊥
some_parts text e =
    let l = length-slice_split (λ (b : ℕ). b == 46) text in
    let n : length (parts_of text) ≡ 0 = ap length e in
    omega (arith, l, n)

-- what a path keeps
pub is_path : (text : List ℕ) (names : List (List ℕ)) → names ≡ parts_of text → first_fault (parts_of text) ≡ None → (names ≡ [] → ⊥) × (first_fault names ≡ None)
is_path text names e f = ((λ n. some_parts text (sym e ∙ n)), ap first_fault e ∙ f)
