-- The bytes of a text before the place at which it is refused can be continued.
use Rattle.std.proofs.Common.{◌≡◌, ℕ, ◌-◌, Bool as Truth, true, false, List, [], ◌∷◌, ◌++◌, length, take, drop, Result, Ok, Err, refl, sym, ap, ◌∙◌, subst, inl, inr, append_assoc, arith}
use Rattle.std.specs.Str.{IsUtf8}
use Rattle.std.proofs.lemmas.Bool.{eqb-true}
use Rattle.std.proofs.Common.{eqb}
use Rattle.std.proofs.lemmas.List.{length-append, append-nil, take-append-drop, take_all}
use Rattle.std.proofs.lemmas.Str.{IsUtf8-from_is_utf8}
use Rattle.json_tree.specs.declared.tree.Tree.{Tree}
use Rattle.json_text.specs.Reading.{◌>>=◌, after_space, value_at, ended, tree_of_text}
use Rattle.json_text.specs.Grammar.{Json}
use Rattle.json_text.proofs.Found.{bind_ok, taken_is}
use Rattle.json_text.proofs.FoundValues.{json_found}
use Rattle.json_text.proofs.FoundStrings.{differs}
use Rattle.json_faults.specs.Tokens.{token_from, up_to_token}
use Rattle.json_faults.specs.Faults.{Continues, ContinuesToItsFault, RefusedAtItsEnd}
use Rattle.json_faults.proofs.Decisions.{Step, run, err_is, value_is_none, bind_err, take-append}
use Rattle.json_faults.proofs.Numbers.{space_decided}
use Rattle.json_faults.proofs.Values.{Free, InToken, IsDecidedAnywhere, told_both, spaced, spaced_told, read_told}
use Rattle.json_faults.proofs.OpenValues.{read_go}
use Rattle.json_faults.proofs.Texts.{refused_at_token, token_front}

abbrev front_value : Step Tree
front_value = spaced (value_at 256)

ends_there : (end : ℕ) (t : Tree) → ended end t (after_space []) ≡ Ok t
unfolding after_space
ends_there end t = refl

-- a text whose value is read, and nothing stands behind it
value_alone : (text : List ℕ) (t : Tree) → run front_value 0 text ≡ Ok (t, []) → tree_of_text text ≡ Ok t
unfolding tree_of_text
value_alone text t h =
    let here : value_at 256 (length text) (after_space text) ≡ Ok (t, []) = ap (λ (n : ℕ). value_at 256 n (after_space text)) (omega arith) ∙ h in
    rw here (ends_there (length text) t)

front_is : (p : ℕ) (text front rest : List ℕ) → text ≡ front ++ rest → p ≡ length front → take p text ≡ front
front_is p text front rest e at = ap (λ (n : ℕ). take n text) at ∙ (ap (λ (l : List ℕ). take (length front) l) e ∙ take-append front rest)

goes_on : (p : ℕ) (text front rest more : List ℕ) (t : Tree) → text ≡ front ++ rest → p ≡ length front → tree_of_text (front ++ more) ≡ Ok t → Continues (take p text)
goes_on p text front rest more t e at h = (more, t, json_found (take p text ++ more) t (ap (λ (l : List ℕ). tree_of_text (l ++ more)) (front_is p text front rest e at) ∙ h))

-- the value, and the white space behind it
spaced_behind : Step Tree
spaced_behind end bytes = front_value end bytes >>= λ x. Ok (x.0, after_space x.1)

behind_told : IsDecidedAnywhere spaced_behind
unfolding spaced_behind
behind_told s = told_both Free front_value (λ t end bytes. Ok (t, after_space bytes)) spaced_behind s (λ bytes. refl) (spaced_told Free (value_at 256) s (read_told 256) (λ y c d k. tt)) (λ t r. space_decided Free InToken t r (λ c. tt)) (λ y c d k. tt)

behind_alone : (text : List ℕ) (t : Tree) → run spaced_behind 0 text ≡ Ok (t, []) → tree_of_text text ≡ Ok t
unfolding tree_of_text spaced_behind
behind_alone text t h =
    let one = bind_ok (run front_value 0 text) (λ x. Ok (x.0, after_space x.1)) (t, []) h in
    let same = taken_is one.0.0 t (after_space one.0.1) [] one.2 in
    let here : value_at 256 (length text) (after_space text) ≡ Ok one.0 = ap (λ (n : ℕ). value_at 256 n (after_space text)) (omega arith) ∙ one.1 in
    rw here (ap (λ (l : List ℕ). ended (length text) one.0.0 l) same.1 ∙ ap (λ (u : Tree). Ok u) same.0)

-- something stands behind the value
behind_fault : (end p : ℕ) (t : Tree) (bytes : List ℕ) → ended end t bytes ≡ Err p → p ≡ end - length bytes
behind_fault end p t [] e = absurd (value_is_none t p e)
behind_fault end p t (b ∷ bytes) e = sym (err_is {A = Tree} _ p e)

no_more : (text : List ℕ) (p : ℕ) (t : Tree) (r : List ℕ) → value_at 256 (length text) (after_space text) ≡ Ok (t, r) → ended (length text) t (after_space r) ≡ Err p → Continues (take p text)
unfolding spaced_behind
no_more text p t r e h =
    let d = behind_told 0 in
    let read : run front_value 0 text ≡ Ok (t, r) = ap (λ (n : ℕ). value_at 256 n (after_space text)) (omega arith) ∙ e in
    let a = d.ok text t (after_space r) (ap (λ (q : Result (Tree × List ℕ) ℕ). q >>= λ x. Ok (x.0, after_space x.1)) read) in
    let at : p ≡ length a.front = omega (arith, behind_fault (length text) p t (after_space r) h, ap length a.here, length-append a.front (after_space r)) in
    goes_on p text a.front (after_space r) [] t a.here at (behind_alone (a.front ++ []) t (a.always [] (inr tt)))

completed : (text : List ℕ) (p : ℕ) → IsUtf8 text → run front_value 0 text ≡ Err p → Continues (take p text)
completed text p u e =
    let go = read_go text u p 256 in
    let c = go.complete 0 text ([], refl) e in
    let none : c.front ++ (c.more ++ []) ≡ c.front ++ c.more = ap (λ (l : List ℕ). c.front ++ l) (append-nil c.more) in
    goes_on p text c.front c.rest c.more c.thing c.here (omega (arith, c.at)) (ap tree_of_text (sym none) ∙ value_alone (c.front ++ (c.more ++ [])) c.thing (c.always [] tt))

pub continues_to_fault : ContinuesToItsFault
unfolding tree_of_text
continues_to_fault text p utf8 e =
    elim (bind_err (value_at 256 (length text) (after_space text)) (λ x. ended (length text) x.0 (after_space x.1)) p e) [
      | inl k ↦ completed text p (IsUtf8-from_is_utf8 text utf8) (ap (λ (n : ℕ). value_at 256 n (after_space text)) (omega arith) ∙ k)
      | inr one ↦ no_more text p one.0.0 one.0.1 one.1 one.2
    ]

-- ---- a text that ends too early

front_goes_on : (front rest : List ℕ) → Continues (front ++ rest) → Continues front
front_goes_on front rest c = (rest ++ c.0, c.1, subst (λ (l : List ℕ). Json l c.1) (append_assoc front rest c.0) c.2)

token_goes_on : (p : ℕ) (text : List ℕ) → Continues text → Continues (up_to_token p text)
token_goes_on p text c =
    let f = token_front (drop p text) in
    let here : text ≡ up_to_token p text ++ f.0 = sym (take-append-drop p text) ∙ (ap (λ (l : List ℕ). take p text ++ l) f.1 ∙ sym (append_assoc (take p text) (token_from (drop p text)) f.0)) in
    front_goes_on (up_to_token p text) f.0 (subst Continues here c)

at_end : (text : List ℕ) (p : ℕ) (b : Truth) → eqb p (length text) ≡ b → tree_of_text text ≡ Err p → Continues text → p ≡ length text
at_end text p true h e c = eqb-true p (length text) h
at_end text p false h e c = absurd (refused_at_token text p e (differs p (length text) h) (token_goes_on p text c))

pub refused_at_end : RefusedAtItsEnd
refused_at_end text p utf8 e = (λ c. at_end text p (eqb p (length text)) refl e c, λ at. subst Continues (ap (λ (n : ℕ). take n text) at ∙ take_all (length text) text (omega arith)) (continues_to_fault text p utf8 e))
