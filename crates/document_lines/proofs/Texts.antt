-- The texts of values, put together from pieces.
use Rattle.std.proofs.Common.{◌≡◌, ℕ, List, [], ◌∷◌, ◌++◌, refl, sym, ap, ◌∙◌, append_assoc}
use Rattle.std.proofs.lemmas.List.{append-nil}
use Rattle.json_tree.specs.declared.tree.Tree.{Tree, Tree-F, fold-roll-Tree}
use Rattle.json_tree.specs.declared.tree.Tree.TheVariants as trees
use Rattle.json_text.specs.Print.{quoted, print_step, text_of, items_text}
use Rattle.json_text.proofs.Printed.{object_text}
use Rattle.extjson.specs.Trees.{wrapped, paired}
use Rattle.document_lines.specs.Json.{opened, further}

pub str_text : (t : List ℕ) → text_of (trees.Str t) ≡ quoted t
str_text t = ap text_of (sym (trees.rolls-Str t)) ∙ fold-roll-Tree (List ℕ) print_step (Tree-F.Str t)

pub number_text : (t : List ℕ) → text_of (trees.Number t) ≡ t
number_text t = ap text_of (sym (trees.rolls-Number t)) ∙ fold-roll-Tree (List ℕ) print_step (Tree-F.Number t)

pub items_are : (ts : List Tree) → text_of (trees.Items ts) ≡ 91 ∷ (items_text ts ++ 93 ∷ [])
items_are ts = ap text_of (sym (trees.rolls-Items ts)) ∙ fold-roll-Tree (List ℕ) print_step (Tree-F.Items ts)

-- an object of one member
pub wrapped_text : (name : List ℕ) (t : Tree) → text_of (wrapped name t) ≡ opened name ++ (text_of t ++ 125 ∷ [])
wrapped_text name t =
    let q = quoted name in
    object_text ((name, t) ∷ [])
    ∙ ap (λ z. 123 ∷ (z ++ 125 ∷ [])) (append-nil (q ++ 58 ∷ text_of t))
    ∙ ap (λ z. 123 ∷ z) (append_assoc q (58 ∷ text_of t) (125 ∷ []) ∙ sym (append_assoc q (58 ∷ []) (text_of t ++ 125 ∷ [])))

-- an object of two members
pub paired_text : (name : List ℕ) (t : Tree) (other : List ℕ) (u : Tree) → text_of (paired name t other u) ≡ opened name ++ (text_of t ++ (further other ++ (text_of u ++ 125 ∷ [])))
paired_text name t other u =
    let q = quoted name in
    let p = quoted other in
    let second : (44 ∷ (p ++ 58 ∷ text_of u)) ++ [] ≡ 44 ∷ (p ++ 58 ∷ text_of u) = append-nil (44 ∷ (p ++ 58 ∷ text_of u)) in
    object_text ((name, t) ∷ (other, u) ∷ [])
    ∙ ap (λ z. 123 ∷ (((q ++ 58 ∷ text_of t) ++ z) ++ 125 ∷ [])) second
    ∙ ap (λ z. 123 ∷ z) (
    append_assoc (q ++ 58 ∷ text_of t) (44 ∷ (p ++ 58 ∷ text_of u)) (125 ∷ [])
    ∙ append_assoc q (58 ∷ text_of t) ((44 ∷ (p ++ 58 ∷ text_of u)) ++ 125 ∷ [])
    ∙ ap (λ z. q ++ 58 ∷ (text_of t ++ 44 ∷ z)) (append_assoc p (58 ∷ text_of u) (125 ∷ []) ∙ sym (append_assoc p (58 ∷ []) (text_of u ++ 125 ∷ [])))
    ∙ sym (append_assoc q (58 ∷ []) (text_of t ++ (further other ++ (text_of u ++ 125 ∷ []))))
    )

-- pieces that were put one behind the other

pub wrapped_put : (name : List ℕ) (t : Tree) (out o1 o2 o3 front body : List ℕ) → front ≡ opened name → body ≡ text_of t → o1 ≡ out ++ front → o2 ≡ o1 ++ body → o3 ≡ o2 ++ 125 ∷ [] → o3 ≡ out ++ text_of (wrapped name t)
wrapped_put name t out o1 o2 o3 front body f b one two three =
    three ∙ ap (λ z. z ++ 125 ∷ []) (two ∙ ap (λ z. z ++ body) one ∙ append_assoc out front body) ∙ append_assoc out (front ++ body) (125 ∷ [])
    ∙ ap (λ z. out ++ z) (append_assoc front body (125 ∷ []) ∙ ap (λ z. z ++ (body ++ 125 ∷ [])) f ∙ ap (λ z. opened name ++ (z ++ 125 ∷ [])) b ∙ sym (wrapped_text name t))

pub paired_put : (name : List ℕ) (t : Tree) (other : List ℕ) (u : Tree) (out o1 o2 o3 o4 o5 front body next more : List ℕ) → front ≡ opened name → body ≡ text_of t → next ≡ further other → more ≡ text_of u
    → o1 ≡ out ++ front → o2 ≡ o1 ++ body → o3 ≡ o2 ++ next → o4 ≡ o3 ++ more → o5 ≡ o4 ++ 125 ∷ [] → o5 ≡ out ++ text_of (paired name t other u)
paired_put name t other u out o1 o2 o3 o4 o5 front body next more f b n m one two three four five =
    let first : o2 ≡ out ++ (front ++ body) = two ∙ ap (λ z. z ++ body) one ∙ append_assoc out front body in
    let second : o4 ≡ out ++ ((front ++ body) ++ (next ++ more)) = four ∙ ap (λ z. z ++ more) (three ∙ ap (λ z. z ++ next) first ∙ append_assoc out (front ++ body) next) ∙ append_assoc out ((front ++ body) ++ next) more ∙ ap (λ z. out ++ z) (append_assoc (front ++ body) next more) in
    five ∙ ap (λ z. z ++ 125 ∷ []) second ∙ append_assoc out ((front ++ body) ++ (next ++ more)) (125 ∷ [])
    ∙ ap (λ z. out ++ z) (
    append_assoc (front ++ body) (next ++ more) (125 ∷ []) ∙ append_assoc front body ((next ++ more) ++ 125 ∷ [])
    ∙ ap (λ z. front ++ (body ++ z)) (append_assoc next more (125 ∷ []))
    ∙ rw (f, b, n, m) (sym (paired_text name t other u))
    )

-- an object of two members in an object of one
pub nested_put : (outer name : List ℕ) (t : Tree) (other : List ℕ) (u : Tree) (out o1 o2 o3 o4 o5 front body next more : List ℕ) → front ≡ opened outer ++ opened name → body ≡ text_of t → next ≡ further other → more ≡ text_of u
    → o1 ≡ out ++ front → o2 ≡ o1 ++ body → o3 ≡ o2 ++ next → o4 ≡ o3 ++ more → o5 ≡ o4 ++ 125 ∷ 125 ∷ [] → o5 ≡ out ++ text_of (wrapped outer (paired name t other u))
nested_put outer name t other u out o1 o2 o3 o4 o5 front body next more f b n m one two three four five =
    let begun : o1 ≡ (out ++ opened outer) ++ opened name = one ∙ ap (λ z. out ++ z) f ∙ sym (append_assoc out (opened outer) (opened name)) in
    let inner = paired_put name t other u (out ++ opened outer) o1 o2 o3 o4 (o4 ++ 125 ∷ []) (opened name) body next more refl b n m begun two three four refl in
    wrapped_put outer (paired name t other u) out (out ++ opened outer) (o4 ++ 125 ∷ []) o5 (opened outer) (text_of (paired name t other u)) refl refl refl inner (five ∙ sym (append_assoc o4 (125 ∷ []) (125 ∷ [])))
