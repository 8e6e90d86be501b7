-- A step that is refused can be completed: behind the bytes before the place, other bytes let it read.
use Rattle.std.proofs.Common.{◌≡◌, ℕ, suc, ◌+◌, Bool as Truth, true, false, ltb, List, [], ◌∷◌, ◌++◌, length, Ok, Err, refl, sym, ap, ◌∙◌, subst, inl, inr, append_assoc, arith}
use Rattle.std.specs.List.{list_all}
use Rattle.std.proofs.lemmas.Bool.{and_parts}
use Rattle.std.proofs.lemmas.List.{length-append}
use Rattle.json_text.specs.Reading.{◌>>=◌, Taken}
use Rattle.json_faults.proofs.Decisions.{Step, run, Clean, MayFollow, follow_same, Goes, IsDecided, value_is_none, bind_err, behind_length}

-- what may stand behind what is completed: anything, or clean bytes
abbrev pub Follows : Truth → List ℕ → Type 0
Follows true w = Unit {0}
Follows false w = Clean w

pub may_follow : (any : Truth) (rest w : List ℕ) → Follows any w → MayFollow any rest w
may_follow true rest w h = tt
may_follow false rest w h = inr h

-- ASCII bytes
abbrev pub AreLow : List ℕ → Type 0
AreLow l = list_all (λ b. ltb b 128) l ≡ true

pub low_append : (c d : List ℕ) → AreLow c → AreLow d → AreLow (c ++ d)
low_append [] d h k = k
low_append (b ∷ c) d h k = let p = and_parts (ltb b 128) (list_all (λ b. ltb b 128) c) h in rw p.0 (low_append c d p.1 k)

abbrev pub Whatever : {A : Type 0} → A → Type 0
Whatever x = Unit {0}

-- the bytes before the place, and what lets them be read as a thing of which R is known
pub record Completes {A : Type 0} (any : Truth) (R : A → Type 0) (f : Step A) (s : ℕ) (bytes : List ℕ) (p : ℕ) : Type 0 where
  pub front : List ℕ
  pub rest : List ℕ
  pub more : List ℕ
  pub thing : A
  pub here : bytes ≡ front ++ rest
  pub at : p ≡ s + length front
  pub made : R thing
  pub low : AreLow more
  pub clean : front ≡ [] → (w : List ℕ) → Follows any w → Follows any (more ++ w)
  pub always : (w : List ℕ) → Follows any w → run f s (front ++ (more ++ w)) ≡ Ok (thing, w)

-- a text that is read where nothing stands yet
pub record Fresh {A : Type 0} (any : Truth) (R : A → Type 0) (f : Step A) (s : ℕ) : Type 0 where
  pub text : List ℕ
  pub thing : A
  pub made : R thing
  pub low : AreLow text
  pub clean : (w : List ℕ) → Follows any w → Follows any (text ++ w)
  pub always : (w : List ℕ) → Follows any w → run f s (text ++ w) ≡ Ok (thing, w)

pub at_start : {A : Type 0} (any : Truth) (R : A → Type 0) (f : Step A) (s : ℕ) (bytes : List ℕ) (p : ℕ) → Fresh any R f s → p ≡ s → Completes any R f s bytes p
at_start any R f s bytes p a e = record { front = []; rest = bytes; more = a.text; thing = a.thing; here = refl; at = omega (arith, e); made = a.made; low = a.low; clean = λ n w l. a.clean w l; always = λ w l. a.always w l }

pub some_is_none : (b : ℕ) (l : List ℕ) → b ∷ l ≡ [] → ⊥
some_is_none b l e = absurd cc

-- behind a byte
pub behind_one : {A : Type 0} (any : Truth) (R : A → Type 0) (h k : Step A) (s b : ℕ) (bs : List ℕ) (p : ℕ) → ((bytes : List ℕ) → run h s (b ∷ bytes) ≡ run k (suc s) bytes) → Completes any R k (suc s) bs p → Completes any R h s (b ∷ bs) p
behind_one any R h k s b bs p m a = record {
  front = b ∷ a.front;
  rest = a.rest;
  more = a.more;
  thing = a.thing;
  here = ap (λ (l : List ℕ). b ∷ l) a.here;
  at = omega (arith, a.at);
  made = a.made;
  low = a.low;
  clean = λ n w l. absurd (some_is_none b a.front n);
  always = λ w l. m (a.front ++ (a.more ++ w)) ∙ a.always w l;
}

pub given : {A : Type 0} (any : Truth) (R : A → Type 0) (y : A) (s : ℕ) → R y → Fresh any R (λ end bytes. Ok (y, bytes)) s
given any R y s r = record { text = []; thing = y; made = r; low = refl; clean = λ w l. l; always = λ w l. refl }

-- what may follow the first thing, where the second is completed
pub follows_first : (any : Truth) (r front rest more w : List ℕ) → r ≡ front ++ rest → (front ≡ [] → Follows any (more ++ w)) → MayFollow any r (front ++ (more ++ w))
follows_first any r [] rest more w e c = may_follow any r (more ++ w) (c refl)
follows_first any r (b ∷ front) rest more w e c = subst (λ (q : List ℕ). MayFollow any q (b ∷ (front ++ (more ++ w)))) (sym e) (follow_same any [] b (front ++ rest) (front ++ (more ++ w)))

pub none_before : (c d : List ℕ) → c ++ d ≡ [] → (c ≡ []) × (d ≡ [])
none_before [] d e = (refl, e)
none_before (b ∷ c) d e = absurd (some_is_none b (c ++ d) e)

-- ---- one step after the other

module _ {A B : Type 0} (any : Truth) (P : A → Type 0) (R : B → Type 0) (f : Step A) (g : A → Step B) (h : Step B) (s : ℕ)
    (made : (bytes : List ℕ) → run h s bytes ≡ (run f s bytes >>= λ x. g x.0 (s + length bytes) x.1)) where
  then : (c r : List ℕ) (x : A) (y : Taken B) → run f s (c ++ r) ≡ Ok (x, r) → run (g x) (s + length c) r ≡ y → run h s (c ++ r) ≡ y
  then c r x y e k = made (c ++ r) ∙ (ap (λ (q : Taken A). q >>= λ z. g z.0 (s + length (c ++ r)) z.1) e ∙ (ap (λ (n : ℕ). g x n r) (behind_length s c r) ∙ k))

  pub both_fresh : (a : Fresh any P f s) → ((x : A) → P x → (t : ℕ) → Fresh any R (g x) t) → Fresh any R h s
  both_fresh a next =
      let b = next a.thing a.made (s + length a.text) in
      record {
        text = a.text ++ b.text;
        thing = b.thing;
        made = b.made;
        low = low_append a.text b.text a.low b.low;
        clean = λ w l. subst (Follows any) (sym (append_assoc a.text b.text w)) (a.clean (b.text ++ w) (b.clean w l));
        always = λ w l. subst (λ (q : List ℕ). run h s q ≡ Ok (b.thing, w)) (sym (append_assoc a.text b.text w)) (then a.text (b.text ++ w) a.thing (Ok (b.thing, w)) (a.always (b.text ++ w) (b.clean w l)) (b.always w l));
      }

  first_fails : (bytes : List ℕ) (p : ℕ) → Completes any P f s bytes p → ((x : A) → P x → (t : ℕ) → Fresh any R (g x) t) → Completes any R h s bytes p
  first_fails bytes p a next =
      let b = next a.thing a.made (s + length (a.front ++ a.more)) in
      let regroup : (w : List ℕ) → (a.front ++ a.more) ++ (b.text ++ w) ≡ a.front ++ ((a.more ++ b.text) ++ w) = λ w. append_assoc a.front a.more (b.text ++ w) ∙ ap (λ (q : List ℕ). a.front ++ q) (sym (append_assoc a.more b.text w)) in
      record {
        front = a.front;
        rest = a.rest;
        more = a.more ++ b.text;
        thing = b.thing;
        here = a.here;
        at = a.at;
        made = b.made;
        low = low_append a.more b.text a.low b.low;
        clean = λ n w l. subst (Follows any) (sym (append_assoc a.more b.text w)) (a.clean n (b.text ++ w) (b.clean w l));
        always = λ w l.
            let read : run f s ((a.front ++ a.more) ++ (b.text ++ w)) ≡ Ok (a.thing, b.text ++ w) = subst (λ (q : List ℕ). run f s q ≡ Ok (a.thing, b.text ++ w)) (sym (append_assoc a.front a.more (b.text ++ w))) (a.always (b.text ++ w) (b.clean w l)) in
            subst (λ (q : List ℕ). run h s q ≡ Ok (b.thing, w)) (regroup w) (then (a.front ++ a.more) (b.text ++ w) a.thing (Ok (b.thing, w)) read (b.always w l));
      }

  second_fails : (Q : A → List ℕ → Type 0) (bytes r : List ℕ) (p : ℕ) (x : A) → (a : Goes any Q f s bytes x r) → Completes any R (g x) (s + length a.front) r p → Completes any R h s bytes p
  second_fails Q bytes r p x a b = record {
    front = a.front ++ b.front;
    rest = b.rest;
    more = b.more;
    thing = b.thing;
    here = a.here ∙ (ap (λ (q : List ℕ). a.front ++ q) b.here ∙ sym (append_assoc a.front b.front b.rest));
    at = omega (arith, b.at, length-append a.front b.front);
    made = b.made;
    low = b.low;
    clean = λ n w l. b.clean (none_before a.front b.front n).1 w l;
    always = λ w l.
        let follows = follows_first any r b.front b.rest b.more w b.here (λ n. b.clean n w l) in
        subst (λ (q : List ℕ). run h s q ≡ Ok (b.thing, w)) (sym (append_assoc a.front b.front (b.more ++ w))) (then a.front (b.front ++ (b.more ++ w)) x (Ok (b.thing, w)) (a.always (b.front ++ (b.more ++ w)) follows) (b.always w l));
  }

  pub both_complete : (Q : A → List ℕ → Type 0) (T : ℕ → List ℕ → ℕ → ℕ → Type 0) (bytes : List ℕ) (p : ℕ) → IsDecided any Q T f s → (run f s bytes ≡ Err p → Completes any P f s bytes p) → ((x : A) → P x → (t : ℕ) → Fresh any R (g x) t)
      → ((x : A) (c r : List ℕ) (t : ℕ) → bytes ≡ c ++ r → Q x c → run (g x) t r ≡ Err p → Completes any R (g x) t r p) → run h s bytes ≡ Err p → Completes any R h s bytes p
  both_complete Q T bytes p d first next second e =
      elim (bind_err (run f s bytes) (λ x. g x.0 (s + length bytes) x.1) p (sym (made bytes) ∙ e)) [
        | inl k ↦ first_fails bytes p (first k) next
        | inr one ↦
            let a = d.ok bytes one.0.0 one.0.1 one.1 in
            let shift : run (g one.0.0) (s + length a.front) one.0.1 ≡ Err p = ap (λ (n : ℕ). g one.0.0 n one.0.1) (sym (ap (λ (l : List ℕ). s + length l) a.here ∙ behind_length s a.front one.0.1)) ∙ one.2 in
            second_fails Q bytes one.0.1 p one.0.0 a (second one.0.0 a.front one.0.1 (s + length a.front) a.here a.kept shift)
      ]

-- ---- steps that can be completed and begun

pub record IsCompletable {A : Type 0} (any : Truth) (K : List ℕ → Type 0) (p : ℕ) (R : A → Type 0) (f : Step A) : Type 0 where
  pub fresh : (s : ℕ) → Fresh any R f s
  pub complete : (s : ℕ) (bytes : List ℕ) → K bytes → run f s bytes ≡ Err p → Completes any R f s bytes p

module _ (any : Truth) (K : List ℕ → Type 0) (p : ℕ) (closed : (c r : List ℕ) → K (c ++ r) → K r) where
  pub giving : {A : Type 0} (R : A → Type 0) (y : A) → R y → IsCompletable any K p R (λ end bytes. Ok (y, bytes))
  giving R y r = record { fresh = λ s. given any R y s r; complete = λ s bytes k e. absurd (value_is_none (y, bytes) p e) }

  pub both : {A B : Type 0} (R : B → Type 0) (Q : A → List ℕ → Type 0) (T : ℕ → List ℕ → ℕ → ℕ → Type 0) (f : Step A) (g : A → Step B) (h : Step B) → ((end : ℕ) (bytes : List ℕ) → h end bytes ≡ (f end bytes >>= λ x. g x.0 end x.1)) → ((s : ℕ) → IsDecided any Q T f s)
      → IsCompletable any K p Whatever f → ((x : A) → IsCompletable any K p R (g x)) → IsCompletable any K p R h
  both R Q T f g h made d first second = record {
    fresh = λ s. both_fresh any Whatever R f g h s (λ bytes. made (s + length bytes) bytes) (first.fresh s) (λ x k t. let n = second x in n.fresh t);
    complete = λ s bytes k e.
        both_complete any Whatever R f g h s (λ bs. made (s + length bs) bs) Q T bytes p (d s) (first.complete s bytes k) (λ x l t. let n = second x in n.fresh t)
        (λ x c r t is q l. let n = second x in n.complete t r (closed c r (subst K is k)) l) e;
  }

  pub changed : {A B : Type 0} (P : A → Type 0) (R : B → Type 0) (Q : A → List ℕ → Type 0) (T : ℕ → List ℕ → ℕ → ℕ → Type 0) (f : Step A) (m : A → B) (h : Step B) → ((end : ℕ) (bytes : List ℕ) → h end bytes ≡ (f end bytes >>= λ x. Ok (m x.0, x.1))) → ((s : ℕ) → IsDecided any Q T f s)
      → ((x : A) → P x → R (m x)) → IsCompletable any K p P f → IsCompletable any K p R h
  changed {A} {B} P R Q T f m h made d kept first = record {
    fresh = λ s. both_fresh any P R f (λ x end bytes. Ok (m x, bytes)) h s (λ bytes. made (s + length bytes) bytes) (first.fresh s) (λ x k t. given any R (m x) t (kept x k));
    complete = λ s bytes k e.
        both_complete any P R f (λ x end bytes. Ok (m x, bytes)) h s (λ bs. made (s + length bs) bs) Q T bytes p (d s) (first.complete s bytes k) (λ x l t. given any R (m x) t (kept x l))
        (λ x c r t is q l. absurd (value_is_none (m x, r) p l)) e;
  }
