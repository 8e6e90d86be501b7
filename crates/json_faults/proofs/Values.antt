-- Values are decided by the token at which they are refused.
use Rattle.std.proofs.Common.{◌≡◌, ◌≢◌, ◌⊎◌, ℕ, zero, suc, ◌+◌, ◌-◌, ◌<◌, Bool as Truth, true, false, eqb, List, [], ◌∷◌, ◌++◌, length, Option, Some, None, Ok, Err, refl, sym, ap, ◌∙◌, subst, inl, inr, append_assoc, arith}
use Rattle.std.proofs.lemmas.Bool.{cases_Bool, and_parts, eqb-true, ne_eqb}
use Rattle.std.specs.List.{list_all}
use Rattle.std.proofs.lemmas.List.{length-append}
use Rattle.containers.specs.Entries.{place_of}
use Rattle.json_tree.specs.declared.tree.Tree.{Tree}
use Rattle.json_tree.specs.declared.tree.Tree.TheVariants as trees
use Rattle.json_text.specs.Reading.{◌>>=◌, Taken, place, after_space, steps_at, word_at, number_at, string_at, Reader, more_at, item_at, unless_there, name_at, colon_at, member_at, closing, list_at, value_with, array_at, object_at, value_at}
use Rattle.json_text.proofs.Found.{bind_ok, taken_is}
use Rattle.json_faults.specs.Tokens.{is_part, word_from, string_from, token_from}
use Rattle.json_faults.proofs.Decisions.{Step, run, Goes, Stops, IsDecided, err_is, fault_is_none, value_is_none, bind_err, bound, mapped, nothing, eased, ends, AtByte, goes_on, refuses, alike, by_first}
use Rattle.json_faults.proofs.Numbers.{AllParts, AreParts, IsNumeral, InWord, part_first, plain, alone_then, word_decided, number_decided, space_decided}
use Rattle.json_faults.proofs.Steps.{steps_decided}
use Rattle.json_faults.proofs.Strings.{Inside, InString, IsQuoted, string_decided}

-- ---- tokens

word_long : (u : List ℕ) (b : ℕ) (z : List ℕ) → AllParts u → length u < length (word_from (u ++ b ∷ z))
unfolding word_from
word_long [] b z h = elim (cases_Bool (is_part b)) [ inl k ↦ rw k (omega arith) | inr k ↦ rw k (omega arith) ]
word_long (a ∷ u) b z h = let p = and_parts (is_part a) (list_all is_part u) h in rw p.0 (omega (arith, word_long u b z p.1))

string_long : (e f : Truth) (u : List ℕ) (b : ℕ) (z : List ℕ) → Inside e u f → length u < length (string_from e (u ++ b ∷ z))
unfolding string_from
string_long true f [] b z h = omega arith
string_long false f [] b z h = elim (cases_Bool (eqb b 34)) [ inl k ↦ rw k (omega arith) | inr k ↦ rw k (omega arith) ]
string_long true f (a ∷ u) b z h = omega (arith, string_long false f u b z h)
string_long false f (a ∷ u) b z h = rw (ne_eqb a 34 h.0) (omega (arith, string_long (eqb a 92) f u b z h.1))

some_token : (b : ℕ) (z : List ℕ) → 0 < length (token_from (b ∷ z))
unfolding token_from
some_token b z =
    elim (cases_Bool (eqb b 34)) [
      | inl q ↦ rw q (omega arith)
      | inr q ↦ elim (cases_Bool (is_part b)) [ inl k ↦ rw (q, k) (omega arith) | inr k ↦ rw (q, k) (omega arith) ]
    ]

part_no_quote : (a : ℕ) → is_part a ≡ true → a ≢ 34
part_no_quote a h q = no_part (sym (ap is_part q) ∙ h)
  where
    no_part : is_part 34 ≡ true → ⊥
    no_part e = absurd cc

token_word : (u : List ℕ) (b : ℕ) (z : List ℕ) → AllParts u → length u < length (token_from (u ++ b ∷ z))
unfolding token_from
token_word [] b z h = some_token b z
token_word (a ∷ u) b z h = let p = and_parts (is_part a) (list_all is_part u) h in rw (ne_eqb a 34 (part_no_quote a p.0), p.0) (omega (arith, word_long u b z p.1))

token_string : (e : Truth) (u : List ℕ) (b : ℕ) (z : List ℕ) → Inside false u e → length (34 ∷ u) < length (token_from (34 ∷ (u ++ b ∷ z)))
unfolding token_from
token_string e u b z h = omega (arith, string_long false e u b z h)

-- the byte behind these belongs to the token that begins at this place, which is among them or that byte's
abbrev pub InToken : ℕ → List ℕ → ℕ → ℕ → Type 0
InToken s u b p = (c d : List ℕ) × (u ≡ c ++ d) × (p ≡ s + length c) × ((z : List ℕ) → length d < length (token_from (d ++ b ∷ z)))

abbrev pub Free : {A : Type 0} → A → List ℕ → Type 0
Free x c = Unit {0}

-- what takes a byte at least
abbrev pub Takes : {A : Type 0} → A → List ℕ → Type 0
Takes x c = 0 < length c

pub itself : (s b : ℕ) → InToken s [] b s
itself s b = ([], [], refl, omega arith, λ z. some_token b z)

pub shifted : (s : ℕ) (c u : List ℕ) (b p : ℕ) → InToken (s + length c) u b p → InToken s (c ++ u) b p
shifted s c u b p (d, e, is, at, long) = (c ++ d, e, ap (λ (l : List ℕ). c ++ l) is ∙ sym (append_assoc c d e), omega (arith, at, length-append c d), long)

one_shifted : (s a : ℕ) (u : List ℕ) (b p : ℕ) → InToken (suc s) u b p → InToken s (a ∷ u) b p
one_shifted s a u b p (d, e, is, at, long) = (a ∷ d, e, ap (λ (l : List ℕ). a ∷ l) is, omega (arith, at), long)

in_string : (s : ℕ) (u : List ℕ) (b p : ℕ) → InString s (suc s) u b p → InToken s (34 ∷ u) b p
in_string s u b p (at, e, h) = ([], 34 ∷ u, refl, omega (arith, at), λ z. token_string e u b z h)

in_word : (s : ℕ) (u : List ℕ) (b p : ℕ) → (p ≡ s) × AllParts u → InToken s u b p
in_word s u b p (at, h) = ([], u, refl, omega (arith, at), λ z. token_word u b z h)

abbrev pub IsDecidedAnywhere : {A : Type 0} → Step A → Type 0
IsDecidedAnywhere f = (s : ℕ) → IsDecided false Free InToken f s

pub place_is : (s : ℕ) (bytes : List ℕ) → place (s + length bytes) bytes ≡ s
place_is s bytes = omega arith

-- one step behind the other
pub told_both : {A B : Type 0} (Q : B → List ℕ → Type 0) (f : Step A) (g : A → Step B) (h : Step B) (s : ℕ) → ((bytes : List ℕ) → run h s bytes ≡ (run f s bytes >>= λ x. g x.0 (s + length bytes) x.1))
    → IsDecided false Free InToken f s → ((x : A) (t : ℕ) → IsDecided false Q InToken (g x) t) → ((y : B) (c d : List ℕ) → Q y d → Q y (c ++ d)) → IsDecided false Q InToken h s
told_both Q f g h s made first second more = bound false Free Q Q InToken f g h s made first (λ x c k. second x (s + length c)) (λ x y c d k l. more y c d l) (λ x c u b p k t. shifted s c u b p t)

-- behind a byte
behind_byte : {A : Type 0} (P Q : A → List ℕ → Type 0) (f : Step A) (s a : ℕ) → ((x : A) (c : List ℕ) → P x c → Q x (a ∷ c)) → IsDecided false P InToken f (suc s) → IsDecided false (λ x c. Q x (a ∷ c)) (λ t u b p. InToken s (a ∷ u) b p) f (suc s)
behind_byte P Q f s a k d = eased false false P (λ x c. Q x (a ∷ c)) InToken (λ t u b p. InToken s (a ∷ u) b p) f (suc s) (λ rest w m. m) k (λ u b p t. one_shifted s a u b p t) d

pub takes_more : {A : Type 0} (y : A) (c d : List ℕ) → 0 < length d → 0 < length (c ++ d)
takes_more y c d h = omega (arith, h, length-append c d)

-- ---- what follows an item or a member

abbrev pub spaced : {A : Type 0} → Step A → Step A
spaced f end bytes = f end (after_space bytes)

abbrev pub spaces : Step (Unit {0})
spaces end bytes = Ok (tt, after_space bytes)

pub spaced_told : {A : Type 0} (Q : A → List ℕ → Type 0) (f : Step A) (s : ℕ) → ((t : ℕ) → IsDecided false Q InToken f t) → ((y : A) (c d : List ℕ) → Q y d → Q y (c ++ d)) → IsDecided false Q InToken (spaced f) s
spaced_told Q f s d more = told_both Q spaces (λ x. f) (spaced f) s (λ bytes. refl) (space_decided Free InToken tt s (λ c. tt)) (λ x t. d t) more

module _ (close : ℕ) where
  pub more_told : (s : ℕ) → IsDecided false Takes InToken (more_at close) s
  unfolding more_at
  more_told s =
      by_first false Takes InToken (more_at close) s (ends (λ end. refl)) (λ b.
      elim (cases_Bool (eqb b 44)) [
        | inl e ↦
            goes_on (λ end bytes. Ok (true, after_space bytes)) (λ bytes. rw e refl) (behind_byte Free Takes (λ end bytes. Ok (true, after_space bytes)) s b (λ x c k. omega arith) (space_decided Free InToken true (suc s) (λ c. tt)))
        | inr e ↦
            elim (cases_Bool (eqb b close)) [
              | inl f ↦
                  goes_on (λ end bytes. Ok (false, bytes)) (λ bytes. rw (e, f) refl) (behind_byte Free Takes (λ end bytes. Ok (false, bytes)) s b (λ x c k. omega arith) (nothing false Free InToken false (suc s) tt))
              | inr f ↦ refuses s (λ bytes. rw (e, f) (ap (λ (n : ℕ). Err n) (place_is s (b ∷ bytes)))) (itself s b)
            ]
      ])

  -- one thing more, and whether another follows
  abbrev pub with_more : {A : Type 0} → A → Step (List A × Truth)
  with_more x end bytes = more_at close end (after_space bytes) >>= λ more. Ok ((x ∷ [], more.0), more.1)

  pub with_more_told : {A : Type 0} (x : A) (s : ℕ) → IsDecided false Takes InToken (with_more x) s
  with_more_told x s = mapped false Takes Takes InToken (spaced (more_at close)) (λ more. (x ∷ [], more)) (with_more x) s (λ bytes. refl) (λ m c k. k) (spaced_told Takes (more_at close) s more_told takes_more)

  -- nothing and the end, or one thing after the other
  module _ {A : Type 0} (step : ℕ → List A → List ℕ → Taken (List A × Truth)) (at_end : (end : ℕ) → step end [] [] ≡ Err end) (told : (done : List A) (s : ℕ) → IsDecided false Takes InToken (λ end bytes. step end done bytes) s) where
    abbrev pub listed : Step (List A)
    listed end bytes = list_at close (step end) end bytes

    abbrev pub steps : Step (List A)
    steps end bytes = steps_at (step end) (suc (length bytes)) end [] bytes

    steps_told : (s : ℕ) → IsDecided false Takes InToken steps s
    steps_told s = steps_decided false step Takes Takes InToken told (λ x c k. k) (λ all xs c k. k) (λ all xs c d k l. takes_more all c d l) (λ xs t c u b p k l. shifted t c u b p l) s

    listed_takes : (s : ℕ) → IsDecided false Takes InToken listed s
    unfolding list_at closing steps_at
    listed_takes s =
        by_first false Takes InToken listed s (ends (λ end. rw (at_end end) refl)) (λ b.
        elim (cases_Bool (eqb b close)) [
          | inl e ↦ goes_on (λ end bytes. Ok ([], bytes)) (λ bytes. rw e refl) (behind_byte Free Takes (λ end bytes. Ok ([], bytes)) s b (λ x c k. omega arith) (nothing false Free InToken [] (suc s) tt))
          | inr e ↦ alike refl steps (λ bytes. rw e refl) (steps_told s) (λ w c x k. absurd (omega (arith, k)))
        ])

    pub listed_told : IsDecidedAnywhere listed
    listed_told s = eased false false Takes Free InToken InToken listed s (λ rest w m. m) (λ x c k. tt) (λ u b p t. t) (listed_takes s)

-- ---- names and colons

module _ (s : ℕ) (done : List (List ℕ × Tree)) where
  new_name : Step (List ℕ)
  new_name end bytes = string_at end bytes >>= λ x. unless_there s x.0 (place_of x.0 done) x.1

  new_is : (n rest w : List ℕ) (o : Option ℕ) (y : List ℕ × List ℕ) → place_of n done ≡ o → unless_there s n o rest ≡ Ok y → (n ≡ y.0) × (rest ≡ y.1) × (unless_there s n (place_of n done) w ≡ Ok (n, w))
  new_is n rest w None y h e = let same = taken_is n y.0 rest y.1 e in (same.0, same.1, rw h refl)
  new_is n rest w (Some i) y h e = absurd (fault_is_none y s e)

  old_is : (n rest w : List ℕ) (o : Option ℕ) (p : ℕ) → place_of n done ≡ o → unless_there s n o rest ≡ Err p → (p ≡ s) × (unless_there s n (place_of n done) w ≡ Err s)
  old_is n rest w None p h e = absurd (value_is_none (n, rest) p e)
  old_is n rest w (Some i) p h e = (sym (err_is {A = List ℕ × List ℕ} s p e), rw h refl)

  abbrev InName : ℕ → List ℕ → ℕ → ℕ → Type 0
  InName t u b p = InToken s (34 ∷ u) b p

  name_goes : (bytes n rest : List ℕ) → run new_name (suc s) bytes ≡ Ok (n, rest) → Goes false Free new_name (suc s) bytes n rest
  unfolding new_name
  name_goes bytes n rest e =
      let one = bind_ok (run string_at (suc s) bytes) (λ x. unless_there s x.0 (place_of x.0 done) x.1) (n, rest) e in
      let d = string_decided s in
      let a = d.ok bytes one.0.0 one.0.1 one.1 in
      let k : (w : List ℕ) → (one.0.0 ≡ n) × (one.0.1 ≡ rest) × (unless_there s one.0.0 (place_of one.0.0 done) w ≡ Ok (one.0.0, w)) = λ w. new_is one.0.0 one.0.1 w (place_of one.0.0 done) (n, rest) refl one.2 in
      record {
        front = a.front;
        here = a.here ∙ ap (λ (l : List ℕ). a.front ++ l) (k []).1;
        kept = tt;
        always = λ w m. ap (λ (q : Taken (List ℕ)). q >>= λ x. unless_there s x.0 (place_of x.0 done) x.1) (a.always w tt) ∙ ((k w).2 ∙ ap (λ (l : List ℕ). Ok (l, w)) (k w).0);
      }

  again : (bytes n rest : List ℕ) (p : ℕ) → Goes true (IsQuoted s) string_at (suc s) bytes n rest → ((w : List ℕ) → (p ≡ s) × (unless_there s n (place_of n done) w ≡ Err s)) → Stops InName new_name (suc s) bytes p
  unfolding new_name
  again bytes n rest p a k =
      let q = a.kept in
      let split : (w : List ℕ) → a.front ++ w ≡ q.0 ++ 34 ∷ w = λ w. ap (λ (l : List ℕ). l ++ w) q.1 ∙ append_assoc q.0 (34 ∷ []) w in
      record {
        front = q.0;
        byte = 34;
        behind = rest;
        here = a.here ∙ split rest;
        told = in_string s q.0 34 p ((k []).0, false, q.2);
        always = λ w.
            subst (λ (l : List ℕ). run new_name (suc s) l ≡ Err p) (split w)
            (ap (λ (r : Taken (List ℕ)). r >>= λ x. unless_there s x.0 (place_of x.0 done) x.1) (a.always w tt) ∙ ((k w).1 ∙ ap (λ (m : ℕ). Err m) (sym (k w).0)));
      }

  name_stops : (bytes : List ℕ) (p : ℕ) → run new_name (suc s) bytes ≡ Err p → (p ≡ suc s + length bytes) ⊎ Stops InName new_name (suc s) bytes p
  unfolding new_name
  name_stops bytes p e =
      let d = string_decided s in
      elim (bind_err (run string_at (suc s) bytes) (λ x. unless_there s x.0 (place_of x.0 done) x.1) p e) [
        | inl k ↦
            elim (d.err bytes p k) [
              | inl q ↦ inl q
              | inr a ↦
                  inr (record {
                    front = a.front;
                    byte = a.byte;
                    behind = a.behind;
                    here = a.here;
                    told = in_string s a.front a.byte p a.told;
                    always = λ w. ap (λ (r : Taken (List ℕ)). r >>= λ x. unless_there s x.0 (place_of x.0 done) x.1) (a.always w);
                  })
            ]
        | inr one ↦ inr (again bytes one.0.0 one.0.1 p (d.ok bytes one.0.0 one.0.1 one.1) (λ w. old_is one.0.0 one.0.1 w (place_of one.0.0 done) p refl one.2))
      ]

  new_name_told : IsDecided false Free InName new_name (suc s)
  new_name_told = record { ok = name_goes; err = name_stops }

name_quote : (done : List (List ℕ × Tree)) (s : ℕ) → AtByte false Free InToken (λ end bytes. name_at end done bytes) s 34
unfolding name_at new_name
name_quote done s = goes_on (new_name s done) (λ bytes.
    rw (place_is s (34 ∷ bytes)) (ap (λ (n : ℕ). new_name s done n bytes) (omega arith))) (new_name_told s done)

pub name_told : (done : List (List ℕ × Tree)) → IsDecidedAnywhere (λ end bytes. name_at end done bytes)
unfolding name_at
name_told done s =
    by_first false Free InToken (λ end bytes. name_at end done bytes) s (ends (λ end. refl)) (λ b.
    elim (cases_Bool (eqb b 34)) [
      | inl e ↦ subst (λ (n : ℕ). AtByte false Free InToken (λ end bytes. name_at end done bytes) s n) (sym (eqb-true b 34 e)) (name_quote done s)
      | inr e ↦ refuses s (λ bytes. rw e (ap (λ (n : ℕ). Err n) (place_is s (b ∷ bytes)))) (itself s b)
    ])

pub colon_told : IsDecidedAnywhere (plain colon_at)
unfolding colon_at
colon_told s =
    by_first false Free InToken (plain colon_at) s (ends (λ end. refl)) (λ b.
    elim (cases_Bool (eqb b 58)) [
      | inl e ↦ goes_on (λ end bytes. Ok (tt, after_space bytes)) (λ bytes. rw e refl) (behind_byte Free Free (λ end bytes. Ok (tt, after_space bytes)) s b (λ x c k. tt) (space_decided Free InToken tt (suc s) (λ c. tt)))
      | inr e ↦ refuses s (λ bytes. rw e (ap (λ (n : ℕ). Err n) (place_is s (b ∷ bytes)))) (itself s b)
    ])

-- ---- items and members

module _ (read : Reader) (told : IsDecidedAnywhere read) where
  pub item_told : (done : List Tree) (s : ℕ) → IsDecided false Takes InToken (λ end bytes. item_at read end done bytes) s
  unfolding item_at
  item_told done s = told_both Takes read (λ t. with_more 93 t) (λ end bytes. item_at read end done bytes) s (λ bytes. refl) (told s) (λ t r. with_more_told 93 t r) takes_more

  abbrev pub named : List ℕ → Step (List (List ℕ × Tree) × Truth)
  named name end bytes = read end bytes >>= λ x. with_more 125 (name, x.0) end x.1

  pub named_told : (name : List ℕ) (s : ℕ) → IsDecided false Takes InToken (named name) s
  named_told name s = told_both Takes read (λ t. with_more 125 (name, t)) (named name) s (λ bytes. refl) (told s) (λ t r. with_more_told 125 (name, t) r) takes_more

  abbrev pub with_colon : List ℕ → Step (List (List ℕ × Tree) × Truth)
  with_colon name end bytes = colon_at end (after_space bytes) >>= λ rest. named name end rest

  pub with_colon_told : (name : List ℕ) (s : ℕ) → IsDecided false Takes InToken (with_colon name) s
  with_colon_told name s =
      told_both Takes (spaced (plain colon_at)) (λ x. named name) (with_colon name) s (λ bytes. alone_then (colon_at (s + length bytes) (after_space bytes)) (λ rest. named name (s + length bytes) rest))
      (spaced_told Free (plain colon_at) s colon_told (λ y c d k. tt)) (λ x t. named_told name t) takes_more

  pub member_told : (done : List (List ℕ × Tree)) (s : ℕ) → IsDecided false Takes InToken (λ end bytes. member_at read end done bytes) s
  unfolding member_at
  member_told done s =
      told_both Takes (λ end bytes. name_at end done bytes) with_colon (λ end bytes. member_at read end done bytes) s (λ bytes. refl) (name_told done s) (λ name t. with_colon_told name t) takes_more

-- ---- values

-- an array or an object behind its bracket, or a refusal of the bracket
abbrev pub Opens : {A : Type 0} → Step A → Type 0
Opens f = IsDecidedAnywhere f ⊎ ((s : ℕ) (bytes : List ℕ) → run f (suc s) bytes ≡ Err s)

module _ (array : Step (List Tree)) (object : Step (List (List ℕ × Tree))) (arrays : Opens array) (objects : Opens object) where
  abbrev pub value : Step Tree
  value = value_with array object

  opened : {A : Type 0} (f : Step A) (k : A → Tree) (s b : ℕ) → Opens f → ((bytes : List ℕ) → run value s (b ∷ bytes) ≡ (f (suc s + length bytes) bytes >>= λ x. Ok (k x.0, x.1))) → AtByte false Takes InToken value s b
  opened f k s b (inl told) made =
      goes_on (λ end bytes. f end bytes >>= λ x. Ok (k x.0, x.1)) made
      (behind_byte Free Takes (λ end bytes. f end bytes >>= λ x. Ok (k x.0, x.1)) s b (λ x c h. omega arith) (mapped false Free Free InToken f k (λ end bytes. f end bytes >>= λ x. Ok (k x.0, x.1)) (suc s) (λ bytes. refl) (λ x c h. tt) (told (suc s))))
  opened {A} f k s b (inr refused) made = refuses s (λ bytes. made bytes ∙ ap (λ (q : Taken A). q >>= λ x. Ok (k x.0, x.1)) (refused s bytes)) (itself s b)

  words : (word : List ℕ) (t : Tree) (s b : ℕ) → AllParts word → is_part b ≡ true → ((bytes : List ℕ) → run value s (b ∷ bytes) ≡ (word_at word s (suc s + length bytes) bytes >>= λ rest. Ok (t, rest))) → AtByte false Takes InToken value s b
  words word t s b h part made =
      let k : Step Tree = λ end bytes. word_at word s end bytes >>= λ rest. Ok (t, rest) in
      let told = eased true false AreParts Free (InWord s) (λ r u c p. InToken s (b ∷ u) c p) (plain (word_at word s)) (suc s) (λ rest w m. tt) (λ x c l. tt) (λ u c p l. in_word s (b ∷ u) c p (l.0, part_first b u part l.1)) (word_decided s word (suc s) h) in
      goes_on k made (mapped false Free (λ x c. Takes x (b ∷ c)) (λ r u c p. InToken s (b ∷ u) c p) (plain (word_at word s)) (λ x. t) k (suc s) (λ bytes. alone_then (word_at word s (suc s + length bytes) bytes) (λ rest. Ok (t, rest))) (λ x c l. omega arith) told)

  quoted : (s : ℕ) → AtByte false Takes InToken value s 34
  unfolding value_with
  quoted s =
      let k : Step Tree = λ end bytes. string_at end bytes >>= λ x. Ok (trees.Str x.0, x.1) in
      let told = eased true false (IsQuoted s) Free (InString s) (λ r u c p. InToken s (34 ∷ u) c p) string_at (suc s) (λ rest w m. tt) (λ x c l. tt) (λ u c p l. in_string s u c p l) (string_decided s) in
      goes_on k (λ bytes. ap (λ (n : ℕ). k n bytes) (omega arith)) (mapped false Free (λ x c. Takes x (34 ∷ c)) (λ r u c p. InToken s (34 ∷ u) c p) string_at (λ t. trees.Str t) k (suc s) (λ bytes. refl) (λ x c l. omega arith) told)

  numbers : (s b : ℕ) → ((bytes : List ℕ) → run value s (b ∷ bytes) ≡ (number_at s (s + length (b ∷ bytes)) (b ∷ bytes) >>= λ x. Ok (trees.Number x.0, x.1))) → AtByte false Takes InToken value s b
  numbers s b made =
      let k : Step Tree = λ end bytes. number_at s end bytes >>= λ x. Ok (trees.Number x.0, x.1) in
      let told = eased false false IsNumeral Takes (InWord s) InToken (number_at s) s (λ rest w m. m) (λ x c l. l.1) (λ u c p l. in_word s u c p l) (number_decided s s) in
      alike refl k made (mapped false Takes Takes InToken (number_at s) (λ t. trees.Number t) k s (λ bytes. refl) (λ x c l. l) told) (λ w c x h. absurd (omega (arith, h)))

  at_bracket : (s : ℕ) → AtByte false Takes InToken value s 91
  unfolding value_with
  at_bracket s = opened array (λ x. trees.Items x) s 91 arrays (λ bytes. ap (λ (n : ℕ). array n bytes >>= λ x. Ok (trees.Items x.0, x.1)) (omega arith))

  at_brace : (s : ℕ) → AtByte false Takes InToken value s 123
  unfolding value_with
  at_brace s = opened object (λ x. trees.Object x) s 123 objects (λ bytes. ap (λ (n : ℕ). object n bytes >>= λ x. Ok (trees.Object x.0, x.1)) (omega arith))

  at_n : (s : ℕ) → AtByte false Takes InToken value s 110
  unfolding value_with
  at_n s = words (117 ∷ 108 ∷ 108 ∷ []) trees.Null s 110 refl refl (λ bytes. rw (place_is s (110 ∷ bytes)) (ap (λ (n : ℕ). word_at (117 ∷ 108 ∷ 108 ∷ []) s n bytes >>= λ rest. Ok (trees.Null, rest)) (omega arith)))

  at_t : (s : ℕ) → AtByte false Takes InToken value s 116
  unfolding value_with
  at_t s = words (114 ∷ 117 ∷ 101 ∷ []) (trees.Bool true) s 116 refl refl (λ bytes. rw (place_is s (116 ∷ bytes)) (ap (λ (n : ℕ). word_at (114 ∷ 117 ∷ 101 ∷ []) s n bytes >>= λ rest. Ok (trees.Bool true, rest)) (omega arith)))

  at_f : (s : ℕ) → AtByte false Takes InToken value s 102
  unfolding value_with
  at_f s = words (97 ∷ 108 ∷ 115 ∷ 101 ∷ []) (trees.Bool false) s 102 refl refl (λ bytes. rw (place_is s (102 ∷ bytes)) (ap (λ (n : ℕ). word_at (97 ∷ 108 ∷ 115 ∷ 101 ∷ []) s n bytes >>= λ rest. Ok (trees.Bool false, rest)) (omega arith)))

  is_at : (s b n : ℕ) → eqb b n ≡ true → AtByte false Takes InToken value s n → AtByte false Takes InToken value s b
  is_at s b n e a = subst (λ (m : ℕ). AtByte false Takes InToken value s m) (sym (eqb-true b n e)) a

  value_takes : (s : ℕ) → IsDecided false Takes InToken value s
  unfolding value_with
  value_takes s =
      by_first false Takes InToken value s (ends (λ end. refl)) (λ b.
      elim (cases_Bool (eqb b 91)) [
        | inl e ↦ is_at s b 91 e (at_bracket s)
        | inr na ↦
            elim (cases_Bool (eqb b 123)) [
              | inl e ↦ is_at s b 123 e (at_brace s)
              | inr nb ↦
                  elim (cases_Bool (eqb b 34)) [
                    | inl e ↦ is_at s b 34 e (quoted s)
                    | inr ns ↦
                        elim (cases_Bool (eqb b 110)) [
                          | inl e ↦ is_at s b 110 e (at_n s)
                          | inr nn ↦
                              elim (cases_Bool (eqb b 116)) [
                                | inl e ↦ is_at s b 116 e (at_t s)
                                | inr nt ↦
                                    elim (cases_Bool (eqb b 102)) [
                                      | inl e ↦ is_at s b 102 e (at_f s)
                                      | inr nf ↦ numbers s b (λ bytes. rw (na, nb, ns, nn, nt, nf, place_is s (b ∷ bytes)) refl)
                                    ]
                              ]
                        ]
                  ]
            ]
      ])

  pub value_told : IsDecidedAnywhere value
  value_told s = eased false false Takes Free InToken InToken value s (λ rest w m. m) (λ x c k. tt) (λ u b p t. t) (value_takes s)

-- ---- arrays and objects

pub no_value : (array : Step (List Tree)) (object : Step (List (List ℕ × Tree))) (end : ℕ) → value_with array object end [] ≡ Err end
unfolding value_with
no_value array object end = refl

pub no_item : (read : Reader) (end : ℕ) → read end [] ≡ Err end → item_at read end [] [] ≡ Err end
unfolding item_at
no_item read end h = rw h refl

pub no_member : (read : Reader) (end : ℕ) → member_at read end [] [] ≡ Err end
unfolding member_at name_at
no_member read end = refl

pub bracket_is : (s : ℕ) (bytes : List ℕ) → place (suc s + length bytes) bytes - 1 ≡ s
bracket_is s bytes = omega arith

mutual
  unfolding array_at

  pub array_told : (levels : ℕ) → Opens (array_at levels)
  array_told zero = inr (λ s bytes. ap (λ (n : ℕ). Err n) (bracket_is s bytes))
  array_told (suc n) =
      let told = value_told (array_at n) (object_at n) (array_told n) (object_told n) in
      let none : (end : ℕ) → item_at (value_at n) end [] [] ≡ Err end = λ end. no_item (value_at n) end (no_value (array_at n) (object_at n) end) in
      inl (λ s. spaced_told Free (listed 93 (item_at (value_at n)) none (item_told (value_at n) told)) s (listed_told 93 (item_at (value_at n)) none (item_told (value_at n) told)) (λ y c d k. tt))

  pub object_told : (levels : ℕ) → Opens (object_at levels)
  object_told zero = inr (λ s bytes. ap (λ (n : ℕ). Err n) (bracket_is s bytes))
  object_told (suc n) =
      let told = value_told (array_at n) (object_at n) (array_told n) (object_told n) in
      let none : (end : ℕ) → member_at (value_at n) end [] [] ≡ Err end = λ end. no_member (value_at n) end in
      inl (λ s. spaced_told Free (listed 125 (member_at (value_at n)) none (member_told (value_at n) told)) s (listed_told 125 (member_at (value_at n)) none (member_told (value_at n) told)) (λ y c d k. tt))

-- a value of at most so many levels
pub read_told : (levels : ℕ) → IsDecidedAnywhere (value_at levels)
read_told levels = value_told (array_at levels) (object_at levels) (array_told levels) (object_told levels)
