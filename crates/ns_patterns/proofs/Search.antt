-- Going through bytes from the left, until something stands there.
use Rattle.std.proofs.Common.{◌≡◌, ◌≢◌, ℕ, zero, suc, ◌<◌, ◌≤◌, List, [], ◌∷◌, ◌++◌, ◌⊎◌, inl, inr, length, take, drop, refl, sym, ap, ◌∙◌, subst, append_assoc, slice_index, arith, length-append}
use Rattle.std.proofs.lemmas.List.{append_cancel_left, append-nil, take-append-drop, length-drop}
use Rattle.std.proofs.lemmas.Bool.{cases_lt}
use Rattle.ns_patterns.specs.Search.{IsFirst}

-- two ways to part the same bytes
pub record Overlap (t u a b : List ℕ) : Type 0 where
  pub between : List ℕ
  pub longer : u ≡ t ++ between
  pub rest : a ≡ between ++ b

pub overlap : (t u a b : List ℕ) → t ++ a ≡ u ++ b → length t ≤ length u → Overlap t u a b
overlap [] u a b e l = record { between = u; longer = refl; rest = e }
overlap (x ∷ t) [] a b e l = absurd (omega arith)
overlap (x ∷ t) (y ∷ u) a b e l =
    let head : x ≡ y = cc in
    let tail : t ++ a ≡ u ++ b = cc in
    let o = overlap t u a b tail (omega arith) in
    record { between = o.between; longer = ap (λ (xs : List ℕ). y ∷ xs) o.longer ∙ ap (λ (z : ℕ). z ∷ (t ++ o.between)) (sym head); rest = o.rest }

-- this text stands in front
abbrev pub Begins : List ℕ → List ℕ → Type 0
Begins text v = (rest : List ℕ) × (v ≡ text ++ rest)

-- everything before the rest was passed, since what is looked for doesn't stand there
pub record Passed (P : List ℕ → Type 0) (bytes rest : List ℕ) : Type 0 where
  pub front : List ℕ
  pub parts : bytes ≡ front ++ rest
  pub none : (u v : List ℕ) → bytes ≡ u ++ v → P v → length front ≤ length u

pub at_start : (P : List ℕ → Type 0) (bytes : List ℕ) → Passed P bytes bytes
at_start P bytes = record { front = []; parts = refl; none = λ u v e p. omega arith }

-- at the front itself only the rest stands
here : (P : List ℕ → Type 0) (bytes rest : List ℕ) (p : Passed P bytes rest) (u v : List ℕ) → bytes ≡ u ++ v → length u ≤ length p.front → P v → P rest
here P bytes rest p u v e l is =
    let o = overlap u p.front v rest (sym e ∙ p.parts) l in
    go o.between o.longer o.rest (p.none u v e is) where
      go : (x : List ℕ) → p.front ≡ u ++ x → v ≡ x ++ rest → length p.front ≤ length u → P rest
      go [] long is_rest short = subst P is_rest is
      go (b ∷ x) long is_rest short = absurd (omega (arith, ap length long, length-append u (b ∷ x)))

pub one_on : (P : List ℕ → Type 0) (bytes rest : List ℕ) (b : ℕ) (next : List ℕ) → Passed P bytes rest → (P rest → ⊥) → rest ≡ b ∷ next → Passed P bytes next
one_on P bytes rest b next p missing is = record {
  front = p.front ++ b ∷ [];
  parts = p.parts ∙ (ap (λ (xs : List ℕ). p.front ++ xs) is ∙ sym (append_assoc p.front (b ∷ []) next));
  none = λ u v e q. go u v e q (cases_lt (length p.front) (length u));
} where
  go : (u v : List ℕ) → bytes ≡ u ++ v → P v → (length p.front < length u) ⊎ (length u ≤ length p.front) → length (p.front ++ b ∷ []) ≤ length u
  go u v e q (inl l) = omega (arith, l, length-append p.front (b ∷ []))
  go u v e q (inr l) = absurd (missing (here P bytes rest p u v e l q))

pub nowhere : (P : List ℕ → Type 0) (bytes rest : List ℕ) → Passed P bytes rest → (P rest → ⊥) → rest ≡ [] → (u v : List ℕ) → bytes ≡ u ++ v → P v → ⊥
nowhere P bytes rest p missing is u v e q =
    let whole : length u ≤ length p.front = omega (arith, ap length e, ap length p.parts, length-append u v, length-append p.front rest, ap length is) in
    missing (here P bytes rest p u v e whole q)

-- ---- one text in front

pub differs : (bytes text : List ℕ) (i : ℕ) (f : List ℕ) → bytes ≡ take i text ++ f → (rest : List ℕ) → bytes ≡ text ++ rest → f ≡ drop i text ++ rest
differs bytes text i f is rest e =
    append_cancel_left (take i text) f (drop i text ++ rest) (sym is ∙ (e ∙ (ap (λ (xs : List ℕ). xs ++ rest) (sym (take-append-drop i text)) ∙ append_assoc (take i text) (drop i text) rest)))

pub ends_early : (bytes text w : List ℕ) (i : ℕ) → bytes ≡ take i text ++ w → w ≡ [] → i < length text → (rest : List ℕ) → bytes ≡ text ++ rest → ⊥
ends_early bytes text w i is empty l rest e =
    omega (arith, l, ap length (sym empty ∙ differs bytes text i w is rest e), length-append (drop i text) rest, length-drop i text)

first_of_drop : (i : ℕ) (text : List ℕ) → i < length text → drop i text ≡ slice_index text i ∷ drop (suc i) text
first_of_drop i [] l = absurd (omega arith)
first_of_drop zero (x ∷ text) l = refl
first_of_drop (suc i) (x ∷ text) l = first_of_drop i text (omega arith)

pub differs_here : (bytes text w more : List ℕ) (i f : ℕ) → bytes ≡ take i text ++ w → w ≡ f ∷ more → i < length text → (f ≡ slice_index text i → ⊥) → (rest : List ℕ) → bytes ≡ text ++ rest → ⊥
differs_here bytes text w more i f is one l other rest e =
    let both : f ∷ more ≡ slice_index text i ∷ (drop (suc i) text ++ rest) = sym one ∙ (differs bytes text i w is rest e ∙ ap (λ (xs : List ℕ). xs ++ rest) (first_of_drop i text l)) in
    other cc

-- ---- one text somewhere

pub found : (text bytes rest after : List ℕ) (p : Passed (Begins text) bytes rest) → rest ≡ text ++ after → IsFirst text bytes p.front after
found text bytes rest after p is = record {
  here = p.parts ∙ ap (λ (xs : List ℕ). p.front ++ xs) is;
  first = λ u more e. p.none u (text ++ more) e (more, refl);
}

pub lacking : (text bytes rest : List ℕ) → Passed (Begins text) bytes rest → ((r : List ℕ) → rest ≢ text ++ r) → rest ≡ [] → (t r : List ℕ) → bytes ≡ t ++ (text ++ r) → ⊥
lacking text bytes rest p missing is t r e = nowhere (Begins text) bytes rest p (λ b. missing b.0 b.1) is t (text ++ r) e (r, refl)

-- what stands behind a text isn't the text, where there is more
pub more_behind : (text rest after : List ℕ) → rest ≡ text ++ after → (after ≡ [] → ⊥) → rest ≡ text → ⊥
more_behind text rest [] is some e = some refl
more_behind text rest (x ∷ after) is some e = omega (arith, ap length (sym is ∙ e), length-append text (x ∷ after))

pub not_behind : (text rest : List ℕ) → ((r : List ℕ) → rest ≢ text ++ r) → rest ≡ text → ⊥
not_behind text rest missing e = missing [] (e ∙ sym (append-nil text))

-- an empty text stands behind everything
pub empty_last : (v text : List ℕ) → length text < 1 → (t : List ℕ) × (v ≡ t ++ text)
empty_last v [] e = (v, sym (append-nil v))
empty_last v (b ∷ text) e = absurd (omega (arith, e))
