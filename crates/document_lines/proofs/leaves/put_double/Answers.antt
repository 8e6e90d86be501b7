use Rattle.std.proofs.Common.{◌≡◌, refl, sym, ap, ◌∙◌, rules}
use Rattle.std.specs.Prelude.{codes}
use Rattle.json_text.specs.Print.{escaped, quoted}
use Rattle.json_tree.specs.declared.tree.Tree.TheVariants as trees
use Rattle.std.specs.Prelude.{reverse, true, false, OnOk, List, ℕ, ◌++◌, ◌∷◌, []}
use Rattle.std.proofs.Common.{subst}
use Rattle.std.specs.Str.{bytes_eq}
use Rattle.extjson.specs.Trees.{double_tree, hex_text, one, minus_one, wrapped}
use Rattle.json_text.specs.Print.{text_of}
use Rattle.document_lines.proofs.Texts.{wrapped_put, wrapped_text, str_text}
use Rattle.document_lines.proofs.LeafTexts.{appended}
use Rattle.document_lines.proofs.leaves.put_double.Goals as goal

-- a double that has a name
named : (t : List ℕ) → text_of (wrapped (codes "$numberDouble") (trees.Str t)) ≡ codes "{\"$numberDouble\":" ++ (quoted t ++ 125 ∷ [])
unfolding escaped
named t = wrapped_text (codes "$numberDouble") (trees.Str t) ∙ ap (λ z. codes "{\"$numberDouble\":" ++ (z ++ 125 ∷ [])) (str_text t)

is_one : (d : List ℕ) → bytes_eq d one ≡ true → text_of (double_tree d) ≡ codes "{\"$numberDouble\":\"1.0\"}"
unfolding double_tree escaped
is_one d e = rw e (named (codes "1.0"))

is_minus_one : (d : List ℕ) → bytes_eq d one ≡ false → bytes_eq d minus_one ≡ true → text_of (double_tree d) ≡ codes "{\"$numberDouble\":\"-1.0\"}"
unfolding double_tree escaped
is_minus_one d n e = rw (n, e) (named (codes "-1.0"))

pub returns-then-eq : goal.returns-then-eq
returns-then-eq c = subst (λ (z : List ℕ). OnOk c.extend_from_slice.result (c.extend_from_slice.new.self.items ≡ c.args.out.now.items ++ z)) (sym (is_one c.args.bits (sym c.eq.ensures ∙ c.if-eq.true))) (appended _ _ _ _ c.extend_from_slice.ensures.items)

pub returns-then-eq-2 : goal.returns-then-eq-2
returns-then-eq-2 c = subst (λ (z : List ℕ). OnOk c.extend_from_slice-then-eq-2.result (c.extend_from_slice-then-eq-2.new.self.items ≡ c.args.out.now.items ++ z)) (sym (is_minus_one c.args.bits (sym c.eq.ensures ∙ c.if-eq.false) (sym c.eq-2.ensures ∙ c.if-eq-2.true))) (appended _ _ _ _ c.extend_from_slice-then-eq-2.ensures.items)

other : (d : List ℕ) → bytes_eq d one ≡ false → bytes_eq d minus_one ≡ false → double_tree d ≡ wrapped (codes "$numberDoubleBits") (hex_text (reverse d))
unfolding double_tree
other d n m = rw (n, m) refl

pub returns : goal.returns
unfolding escaped
returns c =
    let bits : c.reverse.new.self ≡ reverse c.args.bits = search rules in
    wrapped_put (codes "$numberDoubleBits") (hex_text (reverse c.args.bits)) c.args.out.now.items _ _ _ _ _ refl (ap (λ z. text_of (hex_text z)) bits)
    c.in_ok-extend_from_slice.ensures.items c.in_ok-put_digits.ensures c.in_ok-push.ensures.items
    ∙ ap (λ z. c.args.out.now.items ++ text_of z) (sym (other c.args.bits (sym c.eq.ensures ∙ c.if-eq.false) (sym c.eq-2.ensures ∙ c.if-eq-2.false)))
