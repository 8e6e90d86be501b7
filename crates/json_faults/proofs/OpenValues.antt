-- A value that is refused can be completed from the place of the fault on.
use Rattle.std.proofs.Common.{◌≡◌, ◌≢◌, ◌⊎◌, ℕ, zero, suc, ◌+◌, ◌<◌, Bool as Truth, true, false, eqb, ltb, List, [], ◌∷◌, ◌++◌, length, Option, Some, None, Result, Ok, Err, refl, sym, ap, ◌∙◌, subst, inl, inr, append_assoc, arith}
use Rattle.std.specs.List.{list_all, position_from}
use Rattle.std.specs.Str.{IsUtf8, bytes_eq}
use Rattle.std.proofs.lemmas.Bool.{cases_Bool, and_parts, eqb-true, eq-eqb}
use Rattle.std.proofs.lemmas.List.{length-append, append-nil}
use Rattle.std.proofs.lemmas.Slice.Eq.{bytes_eq-Decides}
use Rattle.std.proofs.lemmas.Str.{is_utf8-from_IsUtf8}
use Rattle.containers.specs.Entries.{place_of}
use Rattle.json_tree.specs.declared.tree.Tree.{Tree}
use Rattle.json_tree.specs.declared.tree.Tree.TheVariants as trees
use Rattle.json_text.specs.Reading.{◌>>=◌, Taken, place, is_space, after_space, steps_at, word_at, number_at, string_at, Reader, more_at, item_at, unless_there, name_at, colon_at, member_at, closing, list_at, value_with, array_at, object_at, value_at}
use Rattle.json_text.specs.Grammar.{AreChars, none, plain}
use Rattle.json_text.proofs.FoundStrings.{differs}
use Rattle.json_text.proofs.Strings.{string_read}
use Rattle.json_faults.specs.Tokens.{is_part}
use Rattle.json_faults.proofs.Decisions.{Step, run, Clean, MayFollow, Goes, IsDecided, err_is, value_is_none, bind_err, behind_length}
use Rattle.json_faults.proofs.Numbers.{plain as alone_step, alone_then, space_decided, clean_space}
use Rattle.json_faults.proofs.Steps.{turns, turns_behind, one_turn, stepped}
use Rattle.json_faults.proofs.Values.{Free, Takes, InToken, IsDecidedAnywhere, place_is, spaces, spaced, more_told, with_more, listed, listed_told, name_told, colon_told, item_told, named, with_colon, member_told, no_value, no_item, no_member, bracket_is, array_told, object_told, value_told, spaced_told}
use Rattle.json_faults.proofs.Completions.{AreLow, low_append, Whatever, Completes, Fresh, at_start, behind_one, some_is_none, follows_first, none_before, IsCompletable, both, changed}
use Rattle.json_faults.proofs.OpenStrings.{AreA, a_low, low_utf8, utf8_split, OpenString, open_string}
use Rattle.json_faults.proofs.OpenNumbers.{cut_number, cut_word}

-- ---- a name that none of these has

name_sum : List (List ℕ × Tree) → ℕ
name_sum [] = 0
name_sum (e ∷ es) = length e.0 + name_sum es

letters : ℕ → List ℕ
letters zero = []
letters (suc k) = 97 ∷ letters k

letters_length : (k : ℕ) → length (letters k) ≡ k
unfolding letters
letters_length zero = refl
letters_length (suc k) = omega (arith, letters_length k)

letters_a : (k : ℕ) → AreA (letters k)
unfolding letters
letters_a zero = refl
letters_a (suc k) = letters_a k

longer_name : (n : List ℕ) (es : List (List ℕ × Tree)) (k : ℕ) → name_sum es < length n → position_from (λ (e : List ℕ × Tree). bytes_eq e.0 n) k es ≡ None
unfolding name_sum
longer_name n [] k lt = refl
longer_name n (e ∷ es) k lt =
    elim (cases_Bool (bytes_eq e.0 n)) [
      | inl h ↦ let same : e.0 ≡ n = (bytes_eq-Decides e.0 n).0 h in absurd (omega (arith, lt, ap length same))
      | inr h ↦ rw h (longer_name n es (k + 1) (omega arith))
    ]

no_name : (n : List ℕ) (es : List (List ℕ × Tree)) → name_sum es < length n → place_of n es ≡ None
no_name n es lt = longer_name n es 0 lt

a_chars : (l : List ℕ) → AreA l → AreChars l l
a_chars [] h = none
a_chars (b ∷ l) h =
    let q = and_parts (eqb b 97) (list_all (λ c. eqb c 97) l) h in
    let is = eqb-true b 97 q.0 in
    plain (omega (arith, is)) (λ e. omega (arith, is, e)) (λ e. omega (arith, is, e)) (a_chars l q.1)

a_read : (end : ℕ) (l w : List ℕ) → AreA l → string_at end (l ++ 34 ∷ w) ≡ Ok (l, w)
a_read end l w h = string_read end l l w (a_chars l h) (is_utf8-from_IsUtf8 l (low_utf8 l (a_low l h)))

low_end : (c d : List ℕ) → AreLow (c ++ d) → AreLow d
low_end [] d h = h
low_end (b ∷ c) d h = low_end c d (and_parts (ltb b 128) (list_all (λ a. ltb a 128) (c ++ d)) h).1

module _ (text : List ℕ) (utf8 : IsUtf8 text) (p : ℕ) where
  -- these bytes stand at the end of the text
  abbrev IsTail : List ℕ → Type 0
  IsTail bytes = (before : List ℕ) × (text ≡ before ++ bytes)

  later : (c r : List ℕ) → IsTail (c ++ r) → IsTail r
  later c r k = (k.0 ++ c, k.1 ∙ sym (append_assoc k.0 c r))

  abbrev CanGoOn : {A : Type 0} → (A → Type 0) → Step A → Type 0
  CanGoOn R f = IsCompletable false IsTail p R f

  goes : {A B : Type 0} (R : B → Type 0) (f : Step A) (g : A → Step B) (h : Step B) → ((end : ℕ) (bytes : List ℕ) → h end bytes ≡ (f end bytes >>= λ x. g x.0 end x.1)) → IsDecidedAnywhere f → CanGoOn Whatever f → ((x : A) → CanGoOn R (g x)) → CanGoOn R h
  goes R f g h made d first next = both false IsTail p later R Free InToken f g h made d first next

  spaces_go : CanGoOn Whatever spaces
  spaces_go = record {
    fresh = λ s. record { text = []; thing = tt; made = tt; low = refl; clean = λ w l. l; always = λ w l. ap (λ (q : List ℕ). Ok (tt, q)) (clean_space w l) };
    complete = λ s bytes k e. absurd (value_is_none (tt, after_space bytes) p e);
  }

  spaced_go : {A : Type 0} (R : A → Type 0) (f : Step A) → CanGoOn R f → CanGoOn R (spaced f)
  spaced_go R f c = goes R spaces (λ x. f) (spaced f) (λ end bytes. refl) (λ s. space_decided Free InToken tt s (λ d. tt)) spaces_go (λ x. c)

  -- a step that is refused at its first byte alone
  first_go : {A : Type 0} (R : A → Type 0) (f : Step A) → ((s : ℕ) → Fresh false R f s) → ((s : ℕ) (bytes : List ℕ) → run f s bytes ≡ Err p → p ≡ s) → CanGoOn R f
  first_go R f fresh first = record { fresh = fresh; complete = λ s bytes k e. at_start false R f s bytes p (fresh s) (first s bytes e) }

  -- ---- what follows an item or a member

  record IsClose (close : ℕ) : Type 0 where
    part : is_part close ≡ false
    space : is_space close ≡ false
    low : AreLow (close ∷ [])
    no_comma : eqb close 44 ≡ false

  is_bracket : IsClose 93
  is_bracket = record { part = refl; space = refl; low = refl; no_comma = refl }

  is_brace : IsClose 125
  is_brace = record { part = refl; space = refl; low = refl; no_comma = refl }

  abbrev IsLast : Truth → Type 0
  IsLast m = m ≡ false

  abbrev IsLastOf : {A : Type 0} → List A × Truth → Type 0
  IsLastOf x = x.1 ≡ false

  module _ (close : ℕ) (is : IsClose close) where
    more_fresh : (s : ℕ) → Fresh false IsLast (more_at close) s
    unfolding more_at
    more_fresh s = record { text = close ∷ []; thing = false; made = refl; low = is.low; clean = λ w l. (is.part, is.space); always = λ w l. rw (is.no_comma, eq-eqb close close refl) refl }

    more_first : (s : ℕ) (bytes : List ℕ) → run (more_at close) s bytes ≡ Err p → p ≡ s
    unfolding more_at
    more_first s [] h = omega (arith, err_is {A = Truth × List ℕ} (s + 0) p h)
    more_first s (b ∷ bs) h =
        elim (cases_Bool (eqb b 44)) [
          | inl e ↦ let k : ◌≡◌ {A = Taken Truth} (Ok (true, after_space bs)) (Err p) = rw e at h in absurd (value_is_none (true, after_space bs) p k)
          | inr e ↦
              elim (cases_Bool (eqb b close)) [
                | inl f ↦ let k : ◌≡◌ {A = Taken Truth} (Ok (false, bs)) (Err p) = rw (e, f) at h in absurd (value_is_none (false, bs) p k)
                | inr f ↦
                    let k : ◌≡◌ {A = Taken Truth} (Err (place (s + length (b ∷ bs)) (b ∷ bs))) (Err p) = rw (e, f) at h in
                    sym (err_is {A = Truth × List ℕ} (place (s + length (b ∷ bs)) (b ∷ bs)) p k) ∙ place_is s (b ∷ bs)
              ]
        ]

    with_more_go : {A : Type 0} (x : A) → CanGoOn IsLastOf (with_more close x)
    with_more_go x =
        changed false IsTail p later IsLast IsLastOf Takes InToken (spaced (more_at close)) (λ more. (x ∷ [], more)) (with_more close x) (λ end bytes. refl) (λ s. more_takes s) (λ m k. k) (spaced_go IsLast (more_at close) (first_go IsLast (more_at close) more_fresh more_first))
      where
        more_takes : (s : ℕ) → IsDecided false Takes InToken (spaced (more_at close)) s
        more_takes s = spaced_told Takes (more_at close) s (more_told close) (λ y c d h. omega (arith, h, length-append c d))

    -- ---- one thing after the other

    module _ {A : Type 0} (step : ℕ → List A → List ℕ → Taken (List A × Truth)) (at_end : (end : ℕ) → step end [] [] ≡ Err end) (told : (done : List A) (s : ℕ) → IsDecided false Takes InToken (λ end bytes. step end done bytes) s)
        (go : (done : List A) → CanGoOn IsLastOf (λ end bytes. step end done bytes)) where
      record Open (done : List A) (s : ℕ) (bytes : List ℕ) : Type 0 where
        front : List ℕ
        rest : List ℕ
        more : List ℕ
        all : List A
        here : bytes ≡ front ++ rest
        at : p ≡ s + length front
        low : AreLow more
        clean : front ≡ [] → (w : List ℕ) → Clean w → Clean (more ++ w)
        always : (w : List ℕ) (m : ℕ) → Clean w → length (front ++ (more ++ w)) < m → turns step m done (s + length (front ++ (more ++ w))) (front ++ (more ++ w)) ≡ Ok (all, w)

      step_open : (done : List A) (s : ℕ) (bytes : List ℕ) → Completes false IsLastOf (λ end bs. step end done bs) s bytes p → Open done s bytes
      step_open done s bytes c = record { front = c.front; rest = c.rest; more = c.more; all = done ++ c.thing.0; here = c.here; at = c.at; low = c.low; clean = λ n w l. c.clean n w l; always = λ w m l lt. read w m l lt }
        where
          read : (w : List ℕ) (m : ℕ) → Clean w → length (c.front ++ (c.more ++ w)) < m → turns step m done (s + length (c.front ++ (c.more ++ w))) (c.front ++ (c.more ++ w)) ≡ Ok (done ++ c.thing.0, w)
          read w zero l lt = absurd (omega arith)
          read w (suc m) l lt = stepped step m done c.thing (s + length (c.front ++ (c.more ++ w))) (c.front ++ (c.more ++ w)) w (Ok (done ++ c.thing.0, w)) (c.always w l) (rw c.made refl)

      abbrev StepRead : List A → ℕ → List ℕ → List A → Truth → List ℕ → Type 0
      StepRead done s bytes xs more r = Goes false Takes (λ end bs. step end done bs) s bytes (xs, more) r

      later_open : (done : List A) (s : ℕ) (bytes : List ℕ) (xs : List A) (r : List ℕ) → (a : StepRead done s bytes xs true r) → Open (done ++ xs) (s + length a.front) r → Open done s bytes
      later_open done s bytes xs r a o = record {
        front = a.front ++ o.front;
        rest = o.rest;
        more = o.more;
        all = o.all;
        here = a.here ∙ (ap (λ (l : List ℕ). a.front ++ l) o.here ∙ sym (append_assoc a.front o.front o.rest));
        at = omega (arith, o.at, length-append a.front o.front);
        low = o.low;
        clean = λ n w l. o.clean (none_before a.front o.front n).1 w l;
        always = λ w m l lt.
            subst (λ (q : List ℕ). turns step m done (s + length q) q ≡ Ok (o.all, w)) (sym (append_assoc a.front o.front (o.more ++ w)))
            (read w m l (subst (λ (q : List ℕ). length q < m) (append_assoc a.front o.front (o.more ++ w)) lt));
      }
        where
          read : (w : List ℕ) (m : ℕ) → Clean w → length (a.front ++ (o.front ++ (o.more ++ w))) < m → turns step m done (s + length (a.front ++ (o.front ++ (o.more ++ w)))) (a.front ++ (o.front ++ (o.more ++ w))) ≡ Ok (o.all, w)
          read w zero l lt = absurd (omega arith)
          read w (suc m) l lt =
              let tail = o.front ++ (o.more ++ w) in
              let end = s + length (a.front ++ tail) in
              let follows : MayFollow false r tail = follows_first false r o.front o.rest o.more w o.here (λ n. o.clean n w l) in
              let fewer : length tail < m = omega (arith, lt, length-append a.front tail, a.kept) in
              stepped step m done (xs, true) end (a.front ++ tail) tail (Ok (o.all, w)) (a.always tail follows) (ap (λ (n : ℕ). turns step m (done ++ xs) n tail) (behind_length s a.front tail) ∙ o.always w m l fewer)

      next_open : (n s : ℕ) (done : List A) (bytes : List ℕ) (xs : List A) (r : List ℕ) (more : Truth) → length bytes < suc n → IsTail bytes → ((t : ℕ) (before : List A) (bs : List ℕ) → length bs < n → IsTail bs → turns step n before (t + length bs) bs ≡ Err p → Open before t bs)
          → StepRead done s bytes xs more r → turns_behind step n (s + length bytes) done ((xs, more), r) ≡ Err p → Open done s bytes
      next_open n s done bytes xs r false lt k ih a e = absurd (value_is_none (done ++ xs, r) p e)
      next_open n s done bytes xs r true lt k ih a e =
          let shift : turns step n (done ++ xs) ((s + length a.front) + length r) r ≡ Err p = ap (λ (m : ℕ). turns step n (done ++ xs) m r) (sym (ap (λ (l : List ℕ). s + length l) a.here ∙ behind_length s a.front r)) ∙ e in
          later_open done s bytes xs r a (ih (s + length a.front) (done ++ xs) r (omega (arith, lt, ap length a.here, length-append a.front r, a.kept)) (later a.front r (subst IsTail a.here k)) shift)

      open_steps : (n s : ℕ) (done : List A) (bytes : List ℕ) → length bytes < n → IsTail bytes → turns step n done (s + length bytes) bytes ≡ Err p → Open done s bytes
      open_steps zero s done bytes lt k h = absurd (omega arith)
      open_steps (suc n) s done bytes lt k h =
          let end = s + length bytes in
          let d = told done s in
          let c = go done in
          elim (bind_err (step end done bytes) (turns_behind step n end done) p (sym (one_turn step n done end bytes) ∙ h)) [
            | inl e ↦ step_open done s bytes (c.complete s bytes k e)
            | inr one ↦ next_open n s done bytes one.0.0.0 one.0.1 one.0.0.1 lt k (λ t before bs l j e. open_steps n t before bs l j e) (d.ok bytes one.0.0 one.0.1 one.1) one.2
          ]

      -- the list behind its bracket
      abbrev list : Step (List A)
      list end bytes = list_at close (step end) end bytes

      list_fresh : (s : ℕ) → Fresh false Whatever list s
      unfolding list_at closing
      list_fresh s = record { text = close ∷ []; thing = []; made = tt; low = is.low; clean = λ w l. (is.part, is.space); always = λ w l. rw (eq-eqb close close refl) refl }

      list_steps : (s b : ℕ) (bs : List ℕ) → eqb b close ≡ false → run list s (b ∷ bs) ≡ turns step (suc (length (b ∷ bs))) [] (s + length (b ∷ bs)) (b ∷ bs)
      unfolding list_at closing
      list_steps s b bs e = rw e refl

      list_opened : (s b : ℕ) (bs : List ℕ) → eqb b close ≡ false → (front : List ℕ) (o : Open [] s (b ∷ bs)) → o.front ≡ front → Completes false Whatever list s (b ∷ bs) p
      list_opened s b bs e [] o f = at_start false Whatever list s (b ∷ bs) p (list_fresh s) (omega (arith, o.at, ap length f))
      list_opened s b bs e (c ∷ front) o f =
          let is_first : b ≡ c = first_of b c bs (front ++ o.rest) (o.here ∙ ap (λ (l : List ℕ). l ++ o.rest) f) in
          let other : eqb c close ≡ false = subst (λ (n : ℕ). eqb n close ≡ false) is_first e in
          record {
            front = c ∷ front;
            rest = o.rest;
            more = o.more;
            thing = o.all;
            here = o.here ∙ ap (λ (l : List ℕ). l ++ o.rest) f;
            at = omega (arith, o.at, ap length f);
            made = tt;
            low = o.low;
            clean = λ n w l. absurd (some_is_none c front n);
            always = λ w l.
                let body = front ++ (o.more ++ w) in
                list_steps s c body other ∙ subst (λ (q : List ℕ). turns step (suc (length (q ++ (o.more ++ w)))) [] (s + length (q ++ (o.more ++ w))) (q ++ (o.more ++ w)) ≡ Ok (o.all, w)) f (o.always w (suc (length (o.front ++ (o.more ++ w)))) l (omega arith));
          }
        where
          first_of : (b c : ℕ) (bs l : List ℕ) → b ∷ bs ≡ c ∷ l → b ≡ c
          first_of b c bs l h = cc

      list_complete : (s : ℕ) (bytes : List ℕ) → IsTail bytes → run list s bytes ≡ Err p → Completes false Whatever list s bytes p
      unfolding list_at closing steps_at
      list_complete s [] k h =
          let e : ◌≡◌ {A = Taken (List A)} (Err (s + 0)) (Err p) = rw (at_end (s + 0)) at h in
          at_start false Whatever list s [] p (list_fresh s) (omega (arith, err_is {A = List A × List ℕ} (s + 0) p e))
      list_complete s (b ∷ bs) k h =
          elim (cases_Bool (eqb b close)) [
            | inl e ↦ let q : ◌≡◌ {A = Taken (List A)} (Ok ([], bs)) (Err p) = rw e at h in absurd (value_is_none ([], bs) p q)
            | inr e ↦
                let o = open_steps (suc (length (b ∷ bs))) s [] (b ∷ bs) (omega arith) k (sym (list_steps s b bs e) ∙ h) in
                list_opened s b bs e o.front o refl
          ]

      list_go : CanGoOn Whatever list
      list_go = record { fresh = list_fresh; complete = list_complete }

  -- ---- names and colons

  module _ (done : List (List ℕ × Tree)) where
    abbrev name : Step (List ℕ)
    name end bytes = name_at end done bytes

    name_read : (s : ℕ) (body n w : List ℕ) → run string_at (suc s) body ≡ Ok (n, w) → place_of n done ≡ None → run name s (34 ∷ body) ≡ Ok (n, w)
    unfolding name_at
    name_read s body n w h q =
        let here : string_at (s + length (34 ∷ body)) body ≡ Ok (n, w) = ap (λ (m : ℕ). string_at m body) (omega arith) ∙ h in
        rw (here, q) refl

    free_name : List ℕ
    free_name = letters (suc (name_sum done))

    free_length : (l : List ℕ) → name_sum done < length (l ++ free_name)
    unfolding free_name
    free_length l = omega (arith, length-append l (letters (suc (name_sum done))), letters_length (suc (name_sum done)))

    free_a : AreA free_name
    unfolding free_name
    free_a = letters_a (suc (name_sum done))

    name_fresh : (s : ℕ) → Fresh false Whatever name s
    name_fresh s = record {
      text = 34 ∷ (free_name ++ 34 ∷ []);
      thing = free_name;
      made = tt;
      low = low_append free_name (34 ∷ []) (a_low free_name free_a) refl;
      clean = λ w l. (refl, refl);
      always = λ w l.
          let split : (free_name ++ 34 ∷ []) ++ w ≡ free_name ++ 34 ∷ w = append_assoc free_name (34 ∷ []) w in
          subst (λ (q : List ℕ). run name s (34 ∷ q) ≡ Ok (free_name, w)) (sym split)
          (name_read s (free_name ++ 34 ∷ w) free_name w (a_read (suc s + length (free_name ++ 34 ∷ w)) free_name w free_a) (no_name free_name done (free_length [])));
    }

    string_name : (s : ℕ) (other : p ≢ s) (bs : List ℕ) → OpenString s p other bs → Completes false Whatever name s (34 ∷ bs) p
    string_name s other bs o = record {
      front = 34 ∷ o.front;
      rest = o.rest;
      more = o.more ++ (free_name ++ 34 ∷ []);
      thing = o.text ++ free_name;
      here = ap (λ (l : List ℕ). 34 ∷ l) o.here;
      at = omega (arith, o.at);
      made = tt;
      low = low_append o.more (free_name ++ 34 ∷ []) o.low (low_append free_name (34 ∷ []) (a_low free_name free_a) refl);
      clean = λ n w l. absurd (some_is_none 34 o.front n);
      always = λ w l.
          let regroup : o.front ++ ((o.more ++ (free_name ++ 34 ∷ [])) ++ w) ≡ o.front ++ (o.more ++ (free_name ++ 34 ∷ w)) = simp append_assoc in
          subst (λ (q : List ℕ). run name s (34 ∷ q) ≡ Ok (o.text ++ free_name, w)) (sym regroup)
          (name_read s (o.front ++ (o.more ++ (free_name ++ 34 ∷ w))) (o.text ++ free_name) w (o.always free_name w free_a) (no_name (o.text ++ free_name) done (free_length o.text)));
    }

    there_first : (s : ℕ) (n r : List ℕ) (o : Option ℕ) → unless_there s n o r ≡ Err p → p ≡ s
    there_first s n r None h = absurd (value_is_none (n, r) p h)
    there_first s n r (Some i) h = sym (err_is {A = List ℕ × List ℕ} s p h)

    quote_complete : (s : ℕ) (bs : List ℕ) → IsTail (34 ∷ bs) → p ≢ s → run name s (34 ∷ bs) ≡ Err p → Completes false Whatever name s (34 ∷ bs) p
    unfolding name_at
    quote_complete s bs k other h =
        let end = s + length (34 ∷ bs) in
        elim (bind_err (string_at end bs) (λ x. unless_there (place end (34 ∷ bs)) x.0 (place_of x.0 done) x.1) p h) [
          | inl e ↦
              let shift : run string_at (suc s) bs ≡ Err p = ap (λ (m : ℕ). string_at m bs) (omega arith) ∙ e in
              string_name s other bs (open_string s p other bs (utf8_split k.0 34 bs (omega arith) (subst IsUtf8 k.1 utf8)).1 shift)
          | inr one ↦
              let q : unless_there s one.0.0 (place_of one.0.0 done) one.0.1 ≡ Err p = ap (λ (m : ℕ). unless_there m one.0.0 (place_of one.0.0 done) one.0.1) (sym (place_is s (34 ∷ bs))) ∙ one.2 in
              absurd (other (there_first s one.0.0 one.0.1 (place_of one.0.0 done) q))
        ]

    name_complete : (s : ℕ) (bytes : List ℕ) → IsTail bytes → run name s bytes ≡ Err p → Completes false Whatever name s bytes p
    unfolding name_at
    name_complete s [] k h = at_start false Whatever name s [] p (name_fresh s) (omega (arith, err_is {A = List ℕ × List ℕ} (s + 0) p h))
    name_complete s (b ∷ bs) k h =
        elim (cases_Bool (eqb p s)) [
          | inl e ↦ at_start false Whatever name s (b ∷ bs) p (name_fresh s) (eqb-true p s e)
          | inr e ↦
              elim (cases_Bool (eqb b 34)) [
                | inl q ↦
                    let is : b ≡ 34 = eqb-true b 34 q in
                    subst (λ (n : ℕ). Completes false Whatever name s (n ∷ bs) p) (sym is)
                    (quote_complete s bs (subst (λ (n : ℕ). IsTail (n ∷ bs)) is k) (differs p s e) (subst (λ (n : ℕ). run name s (n ∷ bs) ≡ Err p) is h))
                | inr q ↦
                    let j : ◌≡◌ {A = Taken (List ℕ)} (Err (place (s + length (b ∷ bs)) (b ∷ bs))) (Err p) = rw q at h in
                    absurd (differs p s e (sym (err_is {A = List ℕ × List ℕ} (place (s + length (b ∷ bs)) (b ∷ bs)) p j) ∙ place_is s (b ∷ bs)))
              ]
        ]

    name_go : CanGoOn Whatever name
    name_go = record { fresh = name_fresh; complete = name_complete }

  colon_fresh : (s : ℕ) → Fresh false Whatever (alone_step colon_at) s
  unfolding colon_at
  colon_fresh s = record { text = 58 ∷ []; thing = tt; made = tt; low = refl; clean = λ w l. (refl, refl); always = λ w l. ap (λ (q : List ℕ). Ok (tt, q)) (clean_space w l) }

  colon_first : (s : ℕ) (bytes : List ℕ) → run (alone_step colon_at) s bytes ≡ Err p → p ≡ s
  unfolding colon_at
  colon_first s [] h = omega (arith, err_is {A = Unit {0} × List ℕ} (s + 0) p h)
  colon_first s (b ∷ bs) h =
      elim (cases_Bool (eqb b 58)) [
        | inl e ↦ let k : ◌≡◌ {A = Taken (Unit {0})} (Ok (tt, after_space bs)) (Err p) = rw e at h in absurd (value_is_none (tt, after_space bs) p k)
        | inr e ↦
            let k : ◌≡◌ {A = Taken (Unit {0})} (Err (place (s + length (b ∷ bs)) (b ∷ bs))) (Err p) = rw e at h in
            sym (err_is {A = Unit {0} × List ℕ} (place (s + length (b ∷ bs)) (b ∷ bs)) p k) ∙ place_is s (b ∷ bs)
      ]

  colon_go : CanGoOn Whatever (alone_step colon_at)
  colon_go = first_go Whatever (alone_step colon_at) colon_fresh colon_first

  -- ---- items and members

  module _ (read : Reader) (told : IsDecidedAnywhere read) (go : CanGoOn Whatever read) where
    item_go : (done : List Tree) → CanGoOn IsLastOf (λ end bytes. item_at read end done bytes)
    unfolding item_at
    item_go done = goes IsLastOf read (λ t. with_more 93 t) (λ end bytes. item_at read end done bytes) (λ end bytes. refl) told go (λ t. with_more_go 93 is_bracket t)

    named_go : (n : List ℕ) → CanGoOn IsLastOf (named read told n)
    named_go n = goes IsLastOf read (λ t. with_more 125 (n, t)) (named read told n) (λ end bytes. refl) told go (λ t. with_more_go 125 is_brace (n, t))

    with_colon_go : (n : List ℕ) → CanGoOn IsLastOf (with_colon read told n)
    with_colon_go n =
        goes IsLastOf (spaced (alone_step colon_at)) (λ x. named read told n) (with_colon read told n) (λ end bytes. alone_then (colon_at end (after_space bytes)) (λ rest. named read told n end rest))
        (λ s. spaced_told Free (alone_step colon_at) s colon_told (λ y c d k. tt)) (spaced_go Whatever (alone_step colon_at) colon_go) (λ x. named_go n)

    member_go : (done : List (List ℕ × Tree)) → CanGoOn IsLastOf (λ end bytes. member_at read end done bytes)
    unfolding member_at
    member_go done = goes IsLastOf (λ end bytes. name_at end done bytes) (with_colon read told) (λ end bytes. member_at read end done bytes) (λ end bytes. refl) (name_told done) (name_go done) with_colon_go

  -- ---- values

  -- an array or an object behind its bracket, or a refusal of the bracket
  abbrev Inner : {A : Type 0} → Step A → Type 0
  Inner f = (IsDecidedAnywhere f × CanGoOn Whatever f) ⊎ ((s : ℕ) (bytes : List ℕ) → run f (suc s) bytes ≡ Err s)

  module _ (array : Step (List Tree)) (object : Step (List (List ℕ × Tree))) (arrays : Inner array) (objects : Inner object) where
    abbrev value : Step Tree
    value = value_with array object

    abbrev Done : ℕ → List ℕ → Type 0
    Done s bytes = Completes false Whatever value s bytes p

    value_fresh : (s : ℕ) → Fresh false Whatever value s
    unfolding value_with
    value_fresh s = record {
      text = 34 ∷ 34 ∷ [];
      thing = trees.Str [];
      made = tt;
      low = refl;
      clean = λ w l. (refl, refl);
      always = λ w l. ap (λ (r : Taken (List ℕ)). r >>= λ x. Ok (trees.Str x.0, x.1)) (a_read (s + length (34 ∷ 34 ∷ w)) [] w refl);
    }

    bracket : {A : Type 0} (f : Step A) (k : A → Tree) (s b : ℕ) (bs : List ℕ) → p ≢ s → Inner f → IsTail (b ∷ bs) → ((bytes : List ℕ) → run value s (b ∷ bytes) ≡ (f (suc s + length bytes) bytes >>= λ x. Ok (k x.0, x.1))) → run value s (b ∷ bs) ≡ Err p → Done s (b ∷ bs)
    bracket f k s b bs other (inl i) tail made h =
        let g : Step Tree = λ end bytes. f end bytes >>= λ x. Ok (k x.0, x.1) in
        let c = changed false IsTail p later Whatever Whatever Free InToken f k g (λ end bytes. refl) i.0 (λ x l. tt) i.1 in
        behind_one false Whatever value g s b bs p made (c.complete (suc s) bs (later (b ∷ []) bs tail) (sym (made bs) ∙ h))
    bracket {A} f k s b bs other (inr refused) tail made h =
        let e : ◌≡◌ {A = Taken Tree} (Err s) (Err p) = sym (made bs ∙ ap (λ (q : Taken A). q >>= λ x. Ok (k x.0, x.1)) (refused s bs)) ∙ h in
        absurd (other (sym (err_is {A = Tree × List ℕ} s p e)))

    word_value : (word : List ℕ) (t : Tree) (s b : ℕ) (bs : List ℕ) → p ≢ s → AreLow word → ((bytes : List ℕ) → run value s (b ∷ bytes) ≡ (word_at word s (suc s + length bytes) bytes >>= λ rest. Ok (t, rest))) → run value s (b ∷ bs) ≡ Err p → Done s (b ∷ bs)
    word_value word t s b bs other low made h =
        elim (bind_err (word_at word s (suc s + length bs) bs) (λ rest. Ok (t, rest)) p (sym (made bs) ∙ h)) [
          | inl e ↦
              let c = cut_word s p other word (suc s + length bs) bs e in
              record {
                front = b ∷ bs;
                rest = [];
                more = c.more;
                thing = t;
                here = sym (append-nil (b ∷ bs));
                at = omega (arith, c.at);
                made = tt;
                low = low_end bs c.more (subst AreLow c.whole low);
                clean = λ n w l. absurd (some_is_none b bs n);
                always = λ w l. made (bs ++ (c.more ++ w)) ∙ ap (λ (r : Result (List ℕ) ℕ). r >>= λ rest. Ok (t, rest)) (c.read (suc s + length (bs ++ (c.more ++ w))) w);
              }
          | inr one ↦ absurd (value_is_none (t, one.0) p one.2)
        ]

    number_value : (s b : ℕ) (bs : List ℕ) → p ≢ s → ((c : ℕ) (bytes : List ℕ) → c ≡ b → run value s (c ∷ bytes) ≡ (number_at s (s + length (c ∷ bytes)) (c ∷ bytes) >>= λ x. Ok (trees.Number x.0, x.1))) → run value s (b ∷ bs) ≡ Err p → Done s (b ∷ bs)
    number_value s b bs other made h =
        elim (bind_err (number_at s (s + length (b ∷ bs)) (b ∷ bs)) (λ x. Ok (trees.Number x.0, x.1)) p (sym (made b bs refl) ∙ h)) [
          | inl e ↦
              let c = cut_number s p other (s + length (b ∷ bs)) (b ∷ bs) e in
              record {
                front = b ∷ bs;
                rest = [];
                more = 48 ∷ [];
                thing = trees.Number ((b ∷ bs) ++ 48 ∷ []);
                here = sym (append-nil (b ∷ bs));
                at = c.at;
                made = tt;
                low = refl;
                clean = λ n w l. absurd (some_is_none b bs n);
                always = λ w l. made b (bs ++ 48 ∷ w) refl ∙ ap (λ (r : Taken (List ℕ)). r >>= λ x. Ok (trees.Number x.0, x.1)) (c.read (s + length (b ∷ (bs ++ 48 ∷ w))) w l);
              }
          | inr one ↦ absurd (value_is_none (trees.Number one.0.0, one.0.1) p one.2)
        ]

    string_value : (s : ℕ) (bs : List ℕ) → p ≢ s → IsTail (34 ∷ bs) → run value s (34 ∷ bs) ≡ Err p → Done s (34 ∷ bs)
    unfolding value_with
    string_value s bs other k h =
        elim (bind_err (string_at (s + length (34 ∷ bs)) bs) (λ x. Ok (trees.Str x.0, x.1)) p h) [
          | inl e ↦
              let shift : run string_at (suc s) bs ≡ Err p = ap (λ (m : ℕ). string_at m bs) (omega arith) ∙ e in
              let o = open_string s p other bs (utf8_split k.0 34 bs (omega arith) (subst IsUtf8 k.1 utf8)).1 shift in
              record {
                front = 34 ∷ o.front;
                rest = o.rest;
                more = o.more ++ 34 ∷ [];
                thing = trees.Str (o.text ++ []);
                here = ap (λ (l : List ℕ). 34 ∷ l) o.here;
                at = omega (arith, o.at);
                made = tt;
                low = low_append o.more (34 ∷ []) o.low refl;
                clean = λ n w l. absurd (some_is_none 34 o.front n);
                always = λ w l.
                    let body = o.front ++ (o.more ++ 34 ∷ w) in
                    let regroup : o.front ++ ((o.more ++ 34 ∷ []) ++ w) ≡ body = simp append_assoc in
                    let read : string_at (s + length (34 ∷ body)) body ≡ Ok (o.text ++ [], w) = ap (λ (m : ℕ). string_at m body) (omega arith) ∙ o.always [] w refl in
                    subst (λ (q : List ℕ). run value s (34 ∷ q) ≡ Ok (trees.Str (o.text ++ []), w)) (sym regroup) (ap (λ (r : Taken (List ℕ)). r >>= λ x. Ok (trees.Str x.0, x.1)) read);
              }
          | inr one ↦ absurd (value_is_none (trees.Str one.0.0, one.0.1) p one.2)
        ]

    first_is : (s b n : ℕ) (bs : List ℕ) → eqb b n ≡ true → IsTail (b ∷ bs) → run value s (b ∷ bs) ≡ Err p → (IsTail (n ∷ bs) → run value s (n ∷ bs) ≡ Err p → Done s (n ∷ bs)) → Done s (b ∷ bs)
    first_is s b n bs e k h f =
        let is : b ≡ n = eqb-true b n e in
        subst (λ (m : ℕ). Done s (m ∷ bs)) (sym is) (f (subst (λ (m : ℕ). IsTail (m ∷ bs)) is k) (subst (λ (m : ℕ). run value s (m ∷ bs) ≡ Err p) is h))

    made_array : (s : ℕ) (bytes : List ℕ) → run value s (91 ∷ bytes) ≡ (array (suc s + length bytes) bytes >>= λ x. Ok (trees.Items x.0, x.1))
    unfolding value_with
    made_array s bytes = ap (λ (n : ℕ). array n bytes >>= λ x. Ok (trees.Items x.0, x.1)) (omega arith)

    made_object : (s : ℕ) (bytes : List ℕ) → run value s (123 ∷ bytes) ≡ (object (suc s + length bytes) bytes >>= λ x. Ok (trees.Object x.0, x.1))
    unfolding value_with
    made_object s bytes = ap (λ (n : ℕ). object n bytes >>= λ x. Ok (trees.Object x.0, x.1)) (omega arith)

    made_null : (s : ℕ) (bytes : List ℕ) → run value s (110 ∷ bytes) ≡ (word_at (117 ∷ 108 ∷ 108 ∷ []) s (suc s + length bytes) bytes >>= λ rest. Ok (trees.Null, rest))
    unfolding value_with
    made_null s bytes = rw (place_is s (110 ∷ bytes)) (ap (λ (n : ℕ). word_at (117 ∷ 108 ∷ 108 ∷ []) s n bytes >>= λ rest. Ok (trees.Null, rest)) (omega arith))

    made_true : (s : ℕ) (bytes : List ℕ) → run value s (116 ∷ bytes) ≡ (word_at (114 ∷ 117 ∷ 101 ∷ []) s (suc s + length bytes) bytes >>= λ rest. Ok (trees.Bool true, rest))
    unfolding value_with
    made_true s bytes = rw (place_is s (116 ∷ bytes)) (ap (λ (n : ℕ). word_at (114 ∷ 117 ∷ 101 ∷ []) s n bytes >>= λ rest. Ok (trees.Bool true, rest)) (omega arith))

    made_false : (s : ℕ) (bytes : List ℕ) → run value s (102 ∷ bytes) ≡ (word_at (97 ∷ 108 ∷ 115 ∷ 101 ∷ []) s (suc s + length bytes) bytes >>= λ rest. Ok (trees.Bool false, rest))
    unfolding value_with
    made_false s bytes = rw (place_is s (102 ∷ bytes)) (ap (λ (n : ℕ). word_at (97 ∷ 108 ∷ 115 ∷ 101 ∷ []) s n bytes >>= λ rest. Ok (trees.Bool false, rest)) (omega arith))

    late_value : (s b : ℕ) (bs : List ℕ) → p ≢ s → IsTail (b ∷ bs) → run value s (b ∷ bs) ≡ Err p → Done s (b ∷ bs)
    unfolding value_with
    late_value s b bs other k h =
        elim (cases_Bool (eqb b 91)) [
          | inl e ↦ first_is s b 91 bs e k h (λ j g. bracket array (λ x. trees.Items x) s 91 bs other arrays j (made_array s) g)
          | inr na ↦
              elim (cases_Bool (eqb b 123)) [
                | inl e ↦ first_is s b 123 bs e k h (λ j g. bracket object (λ x. trees.Object x) s 123 bs other objects j (made_object s) g)
                | inr nb ↦
                    elim (cases_Bool (eqb b 34)) [
                      | inl e ↦ first_is s b 34 bs e k h (λ j g. string_value s bs other j g)
                      | inr ns ↦
                          elim (cases_Bool (eqb b 110)) [
                            | inl e ↦ first_is s b 110 bs e k h (λ j g. word_value (117 ∷ 108 ∷ 108 ∷ []) trees.Null s 110 bs other refl (made_null s) g)
                            | inr nn ↦
                                elim (cases_Bool (eqb b 116)) [
                                  | inl e ↦ first_is s b 116 bs e k h (λ j g. word_value (114 ∷ 117 ∷ 101 ∷ []) (trees.Bool true) s 116 bs other refl (made_true s) g)
                                  | inr nt ↦
                                      elim (cases_Bool (eqb b 102)) [
                                        | inl e ↦ first_is s b 102 bs e k h (λ j g. word_value (97 ∷ 108 ∷ 115 ∷ 101 ∷ []) (trees.Bool false) s 102 bs other refl (made_false s) g)
                                        | inr nf ↦ number_value s b bs other (λ c bytes e. rw (e, na, nb, ns, nn, nt, nf, place_is s (b ∷ bytes)) refl) h
                                      ]
                                ]
                          ]
                    ]
              ]
        ]

    value_complete : (s : ℕ) (bytes : List ℕ) → IsTail bytes → run value s bytes ≡ Err p → Done s bytes
    value_complete s [] k h = at_start false Whatever value s [] p (value_fresh s) (omega (arith, err_is {A = Tree × List ℕ} (s + 0) p (sym (no_value array object (s + 0)) ∙ h)))
    value_complete s (b ∷ bs) k h =
        elim (cases_Bool (eqb p s)) [
          | inl e ↦ at_start false Whatever value s (b ∷ bs) p (value_fresh s) (eqb-true p s e)
          | inr e ↦ late_value s b bs (differs p s e) k h
        ]

    value_go : CanGoOn Whatever value
    value_go = record { fresh = value_fresh; complete = value_complete }

  -- ---- arrays and objects

  abbrev told_at : (n : ℕ) → IsDecidedAnywhere (value_at n)
  told_at n = value_told (array_at n) (object_at n) (array_told n) (object_told n)

  mutual
    unfolding array_at

    array_go : (levels : ℕ) → Inner (array_at levels)
    array_go zero = inr (λ s bytes. ap (λ (n : ℕ). Err n) (bracket_is s bytes))
    array_go (suc n) =
        let told = told_at n in
        let go = value_go (array_at n) (object_at n) (array_go n) (object_go n) in
        let none : (end : ℕ) → item_at (value_at n) end [] [] ≡ Err end = λ end. no_item (value_at n) end (no_value (array_at n) (object_at n) end) in
        let items : Step (List Tree) = listed 93 (item_at (value_at n)) none (item_told (value_at n) told) in
        inl (
          (λ s. spaced_told Free items s (listed_told 93 (item_at (value_at n)) none (item_told (value_at n) told)) (λ y c d k. tt)),
          spaced_go Whatever items (list_go 93 is_bracket (item_at (value_at n)) none (item_told (value_at n) told) (item_go (value_at n) told go)),
        )

    object_go : (levels : ℕ) → Inner (object_at levels)
    object_go zero = inr (λ s bytes. ap (λ (n : ℕ). Err n) (bracket_is s bytes))
    object_go (suc n) =
        let told = told_at n in
        let go = value_go (array_at n) (object_at n) (array_go n) (object_go n) in
        let none : (end : ℕ) → member_at (value_at n) end [] [] ≡ Err end = λ end. no_member (value_at n) end in
        let members : Step (List (List ℕ × Tree)) = listed 125 (member_at (value_at n)) none (member_told (value_at n) told) in
        inl (
          (λ s. spaced_told Free members s (listed_told 125 (member_at (value_at n)) none (member_told (value_at n) told)) (λ y c d k. tt)),
          spaced_go Whatever members (list_go 125 is_brace (member_at (value_at n)) none (member_told (value_at n) told) (member_go (value_at n) told go)),
        )

  -- a value of at most so many levels behind white space
  pub read_go : (levels : ℕ) → CanGoOn Whatever (spaced (value_at levels))
  read_go levels = spaced_go Whatever (value_at levels) (value_go (array_at levels) (object_at levels) (array_go levels) (object_go levels))
