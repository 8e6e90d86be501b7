-- The text of a character in a string, and of an object.
use Rattle.std.proofs.Common.{◌≡◌, ℕ, ◌+◌, ◌/◌, ◌%◌, ◌≤◌, Bool, true, false, cond, List, [], ◌∷◌, ◌++◌, ltb, eqb, refl, sym, ap, subst, ◌∙◌, append_assoc, arith}
use Rattle.std.specs.Prelude.{Result, Ok, Err, OnOk}
use Rattle.std.specs.Char.{encode_utf8}
use Rattle.std.specs.List.{flat_map}
use Rattle.std.proofs.lemmas.Bool.{ne_eqb, le-ltb, ltb-false}
use Rattle.std.proofs.lemmas.List.{append-nil}
use Rattle.std.proofs.lemmas.Grind.{flat_map-append}
use Rattle.std.proofs.lemmas.Simd.{map-map}
use Rattle.json_tree.specs.declared.tree.Tree.{Tree, Tree-F, fold-roll-Tree}
use Rattle.json_tree.specs.declared.tree.Tree.TheVariants.{Object, rolls-Object}
use Rattle.json_text.specs.Print.{escaped, escaped_or, with_commas, member_text, print_step, text_of, entries_text}

-- no byte is ASCII
abbrev AreHigh : List ℕ → Type 0
AreHigh [] = Unit {0}
AreHigh (x ∷ xs) = (128 ≤ x) × AreHigh xs

plain : (b : ℕ) → 128 ≤ b → (p : List ℕ) → escaped_or p b ≡ p
plain b h p =
    let a : eqb b 34 ≡ false = ne_eqb b 34 (λ e. omega (arith, h, e)) in
    let c : eqb b 92 ≡ false = ne_eqb b 92 (λ e. omega (arith, h, e)) in
    let d : eqb b 8 ≡ false = ne_eqb b 8 (λ e. omega (arith, h, e)) in
    let f : eqb b 12 ≡ false = ne_eqb b 12 (λ e. omega (arith, h, e)) in
    let g : eqb b 10 ≡ false = ne_eqb b 10 (λ e. omega (arith, h, e)) in
    let i : eqb b 13 ≡ false = ne_eqb b 13 (λ e. omega (arith, h, e)) in
    let j : eqb b 9 ≡ false = ne_eqb b 9 (λ e. omega (arith, h, e)) in
    let k : ltb b 32 ≡ false = le-ltb b 32 (omega (arith, h)) in
    rw (a, c, d, f, g, i, j, k) refl

stays : (bs : List ℕ) → AreHigh bs → flat_map escaped bs ≡ bs
unfolding escaped
stays [] h = refl
stays (b ∷ bs) h = rw (plain b h.0 (b ∷ [])) (ap (λ (l : List ℕ). b ∷ l) (stays bs h.1))

abbrev next : ℕ → ℕ
next bits = 128 + bits % 64

-- a character by its length
written : (c : ℕ) → (a b d : Bool) → ltb c 128 ≡ a → flat_map escaped (cond a (c ∷ []) (cond b ((192 + c / 64) ∷ next c ∷ []) (cond d ((224 + c / 4096) ∷ next (c / 64) ∷ next c ∷ []) ((240 + c / 262144) ∷ next (c / 4096) ∷ next (c / 64) ∷ next c ∷ []))))
    ≡ escaped_or (cond a (c ∷ []) (cond b ((192 + c / 64) ∷ next c ∷ []) (cond d ((224 + c / 4096) ∷ next (c / 64) ∷ next c ∷ []) ((240 + c / 262144) ∷ next (c / 4096) ∷ next (c / 64) ∷ next c ∷ [])))) c
unfolding escaped
written c true b d e = append-nil (escaped c)
written c false true d e = stays _ (omega arith, (omega arith, tt)) ∙ sym (plain c (ltb-false c 128 e) _)
written c false false true e = stays _ (omega arith, (omega arith, (omega arith, tt))) ∙ sym (plain c (ltb-false c 128 e) _)
written c false false false e = stays _ (omega arith, (omega arith, (omega arith, (omega arith, tt)))) ∙ sym (plain c (ltb-false c 128 e) _)

character : (c : ℕ) → flat_map escaped (encode_utf8 c) ≡ escaped_or (encode_utf8 c) c
unfolding encode_utf8
character c = written c (ltb c 128) (ltb c 2048) (ltb c 65536) refl

-- one character more of a text that is printed
pub escapes : (c : ℕ) (rest after out next total : List ℕ) → rest ≡ encode_utf8 c ++ after → next ≡ out ++ escaped_or (encode_utf8 c) c → out ++ flat_map escaped rest ≡ total → next ++ flat_map escaped after ≡ total
escapes c rest after out next total r n t =
    ap (λ (l : List ℕ). l ++ flat_map escaped after) (n ∙ ap (λ (l : List ℕ). out ++ l) (sym (character c)))
    ∙ append_assoc out (flat_map escaped (encode_utf8 c)) (flat_map escaped after)
    ∙ ap (λ (l : List ℕ). out ++ l) (sym (flat_map-append escaped (encode_utf8 c) after) ∙ ap (λ (l : List ℕ). flat_map escaped l) (sym r))
    ∙ t

pub object_text : (es : List (List ℕ × Tree)) → text_of (Object es) ≡ 123 ∷ (entries_text es ++ 125 ∷ [])
object_text es =
    subst (λ (t : Tree). text_of t ≡ 123 ∷ (entries_text es ++ 125 ∷ [])) (rolls-Object es)
    (fold-roll-Tree (List ℕ) print_step (Tree-F.Object es) ∙ ap (λ (ms : List (List ℕ)). 123 ∷ (with_commas ms ++ 125 ∷ [])) (map-map member_text (λ (e : List ℕ × Tree). (e.0, text_of e.1)) es))

-- what is so where a call succeeded
pub ok_if : {X E P : Type 0} (r : Result X E) → P → OnOk r P
ok_if (Ok x) p = p
ok_if (Err e) p = tt

pub ok_map : {X E P Q : Type 0} (r : Result X E) → (P → Q) → OnOk r P → OnOk r Q
ok_map (Ok x) f p = f p
ok_map (Err e) f p = tt
