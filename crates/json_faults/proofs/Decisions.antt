-- What a step reads is decided by bytes that it has looked at, whatever stands behind them.
use Rattle.std.proofs.Common.{◌≡◌, ◌⊎◌, ℕ, suc, ◌+◌, Bool as Truth, true, false, List, [], ◌∷◌, ◌++◌, length, take, Result, Ok, Err, refl, sym, ap, ◌∙◌, subst, inl, inr, append_assoc, arith}
use Rattle.std.proofs.lemmas.List.{length-append, take-append-le, take_all}
use Rattle.json_text.specs.Reading.{◌>>=◌, Taken, is_space}
use Rattle.json_text.proofs.Found.{bind_ok, taken_is}
use Rattle.json_faults.specs.Tokens.{is_part}

-- a step, which is given the place at which the text ends and the bytes up to there
abbrev pub Step : Type 0 → Type 0
Step A = ℕ → List ℕ → Taken A

-- a step at this place of a text
abbrev pub run : {A : Type 0} → Step A → ℕ → List ℕ → Taken A
run f s bytes = f (s + length bytes) bytes

-- bytes that end a number, a word and white space
abbrev pub Clean : List ℕ → Type 0
Clean [] = Unit {0}
Clean (b ∷ w) = (is_part b ≡ false) × (is_space b ≡ false)

-- the second begins with the first byte of the first
abbrev pub SameFirst : List ℕ → List ℕ → Type 0
SameFirst [] w = ⊥
SameFirst (b ∷ z) w = (v : List ℕ) × (w ≡ b ∷ v)

-- other bytes that may stand in the place of the rest: any, or those with the same first byte, and clean ones
abbrev pub MayFollow : Truth → List ℕ → List ℕ → Type 0
MayFollow true rest w = Unit {0}
MayFollow false rest w = SameFirst rest w ⊎ Clean w

pub follow_behind : (any : Truth) (d rest w : List ℕ) → MayFollow any rest w → MayFollow any (d ++ rest) (d ++ w)
follow_behind true d rest w h = tt
follow_behind false [] rest w h = h
follow_behind false (b ∷ d) rest w h = inl (d ++ w, refl)

follow_first : (any : Truth) (b : ℕ) (z w : List ℕ) → MayFollow any (b ∷ z) (b ∷ w)
follow_first true b z w = tt
follow_first false b z w = inl (w, refl)

pub follow_same : (any : Truth) (d : List ℕ) (b : ℕ) (z w : List ℕ) → MayFollow any (d ++ b ∷ z) (d ++ b ∷ w)
follow_same any d b z w = follow_behind any d (b ∷ z) (b ∷ w) (follow_first any b z w)

-- these bytes were read as a thing, and are so before other bytes too; Q says what is known of them
pub record Goes {A : Type 0} (any : Truth) (Q : A → List ℕ → Type 0) (f : Step A) (s : ℕ) (bytes : List ℕ) (x : A) (rest : List ℕ) : Type 0 where
  pub front : List ℕ
  pub here : bytes ≡ front ++ rest
  pub kept : Q x front
  pub always : (w : List ℕ) → MayFollow any rest w → run f s (front ++ w) ≡ Ok (x, w)

-- these bytes with this byte behind them are refused at a place, and are so before other bytes too; T says what is known of them
pub record Stops {A : Type 0} (T : ℕ → List ℕ → ℕ → ℕ → Type 0) (f : Step A) (s : ℕ) (bytes : List ℕ) (p : ℕ) : Type 0 where
  pub front : List ℕ
  pub byte : ℕ
  pub behind : List ℕ
  pub here : bytes ≡ front ++ byte ∷ behind
  pub told : T s front byte p
  pub always : (w : List ℕ) → run f s (front ++ byte ∷ w) ≡ Err p

pub record IsDecided {A : Type 0} (any : Truth) (Q : A → List ℕ → Type 0) (T : ℕ → List ℕ → ℕ → ℕ → Type 0) (f : Step A) (s : ℕ) : Type 0 where
  pub ok : (bytes : List ℕ) (x : A) (rest : List ℕ) → run f s bytes ≡ Ok (x, rest) → Goes any Q f s bytes x rest
  pub err : (bytes : List ℕ) (p : ℕ) → run f s bytes ≡ Err p → (p ≡ s + length bytes) ⊎ Stops T f s bytes p

-- ---- one step after the other

pub err_is : {A : Type 0} (u v : ℕ) → ◌≡◌ {A = Result A ℕ} (Err u) (Err v) → u ≡ v
err_is u v h = cc

-- a fault is no value
pub fault_is_none : {A : Type 0} (x : A) (p : ℕ) → ◌≡◌ {A = Result A ℕ} (Err p) (Ok x) → ⊥
fault_is_none x p h = absurd cc

pub value_is_none : {A : Type 0} (x : A) (p : ℕ) → ◌≡◌ {A = Result A ℕ} (Ok x) (Err p) → ⊥
value_is_none x p h = absurd cc

pub bind_err : {A B : Type 0} (r : Result A ℕ) (k : A → Result B ℕ) (p : ℕ) → (r >>= k) ≡ Err p → (r ≡ Err p) ⊎ ((x : A) × (r ≡ Ok x) × (k x ≡ Err p))
bind_err (Ok x) k p h = inr (x, refl, h)
bind_err {A} (Err e) k p h = let is : e ≡ p = cc in inl (ap (λ (n : ℕ). Err n) is)

pub take-append : (c r : List ℕ) → take (length c) (c ++ r) ≡ c
take-append c r = take-append-le (length c) c r (omega arith) ∙ take_all (length c) c (omega arith)

pub behind_length : (s : ℕ) (c r : List ℕ) → s + length (c ++ r) ≡ (s + length c) + length r
behind_length s c r = omega (arith, length-append c r)

module _ {A B : Type 0} (any : Truth) (Qf : A → List ℕ → Type 0) (Qg Q : B → List ℕ → Type 0) (T : ℕ → List ℕ → ℕ → ℕ → Type 0) (f : Step A) (g : A → Step B) (h : Step B) (s : ℕ)
    (made : (bytes : List ℕ) → run h s bytes ≡ (run f s bytes >>= λ x. g x.0 (s + length bytes) x.1))
    (first : IsDecided any Qf T f s)
    (second : (x : A) (c : List ℕ) → Qf x c → IsDecided any Qg T (g x) (s + length c))
    (kept : (x : A) (y : B) (c d : List ℕ) → Qf x c → Qg y d → Q y (c ++ d))
    (told : (x : A) (c u : List ℕ) (b p : ℕ) → Qf x c → T (s + length c) u b p → T s (c ++ u) b p) where
  -- the second step behind the first
  behind : (bytes c rest : List ℕ) (x : A) (y : Taken B) → bytes ≡ c ++ rest → g x (s + length bytes) rest ≡ y → run (g x) (s + length c) rest ≡ y
  behind bytes c rest x y e k = ap (λ (n : ℕ). g x n rest) (sym (ap (λ (l : List ℕ). s + length l) e ∙ behind_length s c rest)) ∙ k

  after : (c r : List ℕ) (x : A) (y : Taken B) → run f s (c ++ r) ≡ Ok (x, r) → run (g x) (s + length c) r ≡ y → run h s (c ++ r) ≡ y
  after c r x y e k = made (c ++ r) ∙ (ap (λ (q : Taken A). q >>= λ z. g z.0 (s + length (c ++ r)) z.1) e ∙ (ap (λ (n : ℕ). g x n r) (behind_length s c r) ∙ k))

  bind_goes : (bytes : List ℕ) (y : B) (rest : List ℕ) → run h s bytes ≡ Ok (y, rest) → Goes any Q h s bytes y rest
  bind_goes bytes y rest e =
      let one = bind_ok (run f s bytes) (λ x. g x.0 (s + length bytes) x.1) (y, rest) (sym (made bytes) ∙ e) in
      let a = first.ok bytes one.0.0 one.0.1 one.1 in
      let next = second one.0.0 a.front a.kept in
      let b = next.ok one.0.1 y rest (behind bytes a.front one.0.1 one.0.0 (Ok (y, rest)) a.here one.2) in
      record {
        front = a.front ++ b.front;
        here = a.here ∙ (ap (λ (l : List ℕ). a.front ++ l) b.here ∙ sym (append_assoc a.front b.front rest));
        kept = kept one.0.0 y a.front b.front a.kept b.kept;
        always = λ w m.
            let l : MayFollow any one.0.1 (b.front ++ w) = subst (λ (r : List ℕ). MayFollow any r (b.front ++ w)) (sym b.here) (follow_behind any b.front rest w m) in
            subst (λ (r : List ℕ). run h s r ≡ Ok (y, w)) (sym (append_assoc a.front b.front w)) (after a.front (b.front ++ w) one.0.0 (Ok (y, w)) (a.always (b.front ++ w) l) (b.always w m));
      }

  second_stops : (bytes : List ℕ) (p : ℕ) (x : A) (rest : List ℕ) → (a : Goes any Qf f s bytes x rest) → Stops T (g x) (s + length a.front) rest p → Stops T h s bytes p
  second_stops bytes p x rest a b = record {
    front = a.front ++ b.front;
    byte = b.byte;
    behind = b.behind;
    here = a.here ∙ (ap (λ (l : List ℕ). a.front ++ l) b.here ∙ sym (append_assoc a.front b.front (b.byte ∷ b.behind)));
    told = told x a.front b.front b.byte p a.kept b.told;
    always = λ w.
        let l : MayFollow any rest (b.front ++ b.byte ∷ w) = subst (λ (r : List ℕ). MayFollow any r (b.front ++ b.byte ∷ w)) (sym b.here) (follow_same any b.front b.byte b.behind w) in
        subst (λ (r : List ℕ). run h s r ≡ Err p) (sym (append_assoc a.front b.front (b.byte ∷ w))) (after a.front (b.front ++ b.byte ∷ w) x (Err p) (a.always (b.front ++ b.byte ∷ w) l) (b.always w));
  }

  first_stops : (bytes : List ℕ) (p : ℕ) → Stops T f s bytes p → Stops T h s bytes p
  first_stops bytes p a = record {
    front = a.front;
    byte = a.byte;
    behind = a.behind;
    here = a.here;
    told = a.told;
    always = λ w. made (a.front ++ a.byte ∷ w) ∙ ap (λ (q : Taken A). q >>= λ z. g z.0 (s + length (a.front ++ a.byte ∷ w)) z.1) (a.always w);
  }

  bind_stops : (bytes : List ℕ) (p : ℕ) → run h s bytes ≡ Err p → (p ≡ s + length bytes) ⊎ Stops T h s bytes p
  bind_stops bytes p e =
      elim (bind_err (run f s bytes) (λ x. g x.0 (s + length bytes) x.1) p (sym (made bytes) ∙ e)) [
        | inl k ↦ elim (first.err bytes p k) [ inl l ↦ inl l | inr a ↦ inr (first_stops bytes p a) ]
        | inr one ↦
            let a = first.ok bytes one.0.0 one.0.1 one.1 in
            let next = second one.0.0 a.front a.kept in
            elim (next.err one.0.1 p (behind bytes a.front one.0.1 one.0.0 (Err p) a.here one.2)) [
              | inl l ↦ inl (l ∙ sym (ap (λ (r : List ℕ). s + length r) a.here ∙ behind_length s a.front one.0.1))
              | inr b ↦ inr (second_stops bytes p one.0.0 one.0.1 a b)
            ]
      ]

  pub bound : IsDecided any Q T h s
  bound = record { ok = bind_goes; err = bind_stops }

-- ---- a step that reads nothing, and one with weaker words

pub nothing : {A : Type 0} (any : Truth) (Q : A → List ℕ → Type 0) (T : ℕ → List ℕ → ℕ → ℕ → Type 0) (y : A) (s : ℕ) → Q y [] → IsDecided any Q T (λ end bytes. Ok (y, bytes)) s
nothing {A} any Q T y s k = record {
  ok = λ bytes x rest e.
      let same = taken_is y x bytes rest e in
      record { front = []; here = same.1; kept = subst (λ (z : A). Q z []) same.0 k; always = λ w m. ap (λ (z : A). Ok (z, w)) same.0 };
  err = λ bytes p e. absurd (value_is_none (y, bytes) p e);
}

pub eased : {A : Type 0} (any less : Truth) (P Q : A → List ℕ → Type 0) (S T : ℕ → List ℕ → ℕ → ℕ → Type 0) (f : Step A) (s : ℕ) → ((rest w : List ℕ) → MayFollow less rest w → MayFollow any rest w) → ((x : A) (c : List ℕ) → P x c → Q x c)
    → ((u : List ℕ) (b p : ℕ) → S s u b p → T s u b p) → IsDecided any P S f s → IsDecided less Q T f s
eased any less P Q S T f s l k t d = record {
  ok = λ bytes x rest e. let a = d.ok bytes x rest e in record { front = a.front; here = a.here; kept = k x a.front a.kept; always = λ w m. a.always w (l rest w m) };
  err = λ bytes p e.
      elim (d.err bytes p e) [
        | inl q ↦ inl q
        | inr a ↦ inr (record { front = a.front; byte = a.byte; behind = a.behind; here = a.here; told = t a.front a.byte p a.told; always = a.always })
      ];
}

-- ---- a step by its first byte

first_same : (b : ℕ) (bs front rest w : List ℕ) → b ∷ bs ≡ front ++ rest → SameFirst rest w → (v : List ℕ) × (front ++ w ≡ b ∷ v)
first_same b bs [] [] w e m = absurd m
first_same b bs [] (c ∷ rest) w e (v, m) = let is : c ≡ b = cc in (v, m ∙ ap (λ (n : ℕ). n ∷ v) is)
first_same b bs (c ∷ front) rest w e m = let is : c ≡ b = cc in (front ++ w, ap (λ (n : ℕ). n ∷ (front ++ w)) is)

first_or_clean : (b : ℕ) (bs front rest w : List ℕ) → b ∷ bs ≡ front ++ rest → MayFollow false rest w → ((v : List ℕ) × (front ++ w ≡ b ∷ v)) ⊎ ((front ≡ []) × Clean w)
first_or_clean b bs [] rest w e (inl m) = inl (first_same b bs [] rest w e m)
first_or_clean b bs [] rest w e (inr c) = inr (refl, c)
first_or_clean b bs (a ∷ front) rest w e m = let is : a ≡ b = cc in inl (front ++ w, ap (λ (n : ℕ). n ∷ (front ++ w)) is)

module _ {A : Type 0} (any : Truth) (Q : A → List ℕ → Type 0) (T : ℕ → List ℕ → ℕ → ℕ → Type 0) (h : Step A) (s : ℕ) where
  -- what is done at the end of the text
  pub data AtEnd : Type 0 where
    ends : ((end : ℕ) → h end [] ≡ Err end) → AtEnd
    passes : any ≡ false → (x : A) → Q x [] → ((end : ℕ) → h end [] ≡ Ok (x, [])) → ((w : List ℕ) → Clean w → run h s w ≡ Ok (x, w)) → AtEnd

  -- what is done at this byte: another step behind it, or a refusal, or another step from it on
  pub data AtByte (b : ℕ) : Type 0 where
    goes_on : (k : Step A) → ((bytes : List ℕ) → run h s (b ∷ bytes) ≡ run k (suc s) bytes) → IsDecided any (λ x c. Q x (b ∷ c)) (λ t u c p. T s (b ∷ u) c p) k (suc s) → AtByte b
    refuses : (p : ℕ) → ((bytes : List ℕ) → run h s (b ∷ bytes) ≡ Err p) → T s [] b p → AtByte b
    alike : any ≡ false → (k : Step A) → ((bytes : List ℕ) → run h s (b ∷ bytes) ≡ run k s (b ∷ bytes)) → IsDecided false Q T k s → ((w : List ℕ) → Clean w → (x : A) → Q x [] → run h s w ≡ run k s w) → AtByte b

  module _ (at_end : AtEnd) (at_byte : (b : ℕ) → AtByte b) where
    end_goes : AtEnd → (x : A) (rest : List ℕ) → run h s [] ≡ Ok (x, rest) → Goes any Q h s [] x rest
    end_goes (ends n) x rest e = absurd (fault_is_none (x, rest) _ (sym (n _) ∙ e))
    end_goes (passes a y q n clean) x rest e =
        let same = taken_is y x [] rest (sym (n _) ∙ e) in
        record {
          front = [];
          here = same.1;
          kept = subst (λ (z : A). Q z []) same.0 q;
          always = λ w m.
              elim (subst (λ (r : List ℕ). MayFollow false r w) (sym same.1) (subst (λ (t : Truth). MayFollow t rest w) a m)) [
                | inl n ↦ absurd n
                | inr c ↦ clean w c ∙ ap (λ (z : A). Ok (z, w)) same.0
              ];
        }

    byte_goes : (b : ℕ) (bs : List ℕ) (x : A) (rest : List ℕ) → AtByte b → run h s (b ∷ bs) ≡ Ok (x, rest) → Goes any Q h s (b ∷ bs) x rest
    byte_goes b bs x rest (goes_on k m d) e =
        let a = d.ok bs x rest (sym (m bs) ∙ e) in
        record { front = b ∷ a.front; here = ap (λ (l : List ℕ). b ∷ l) a.here; kept = a.kept; always = λ w l. m (a.front ++ w) ∙ a.always w l }
    byte_goes b bs x rest (refuses p m t) e = absurd (fault_is_none (x, rest) p (sym (m bs) ∙ e))
    byte_goes b bs x rest (alike weak k m d clean) e =
        let a = d.ok (b ∷ bs) x rest (sym (m bs) ∙ e) in
        record {
          front = a.front;
          here = a.here;
          kept = a.kept;
          always = λ w l.
              let q : MayFollow false rest w = subst (λ (t : Truth). MayFollow t rest w) weak l in
              elim (first_or_clean b bs a.front rest w a.here q) [
                | inl v ↦ subst (λ (r : List ℕ). run h s r ≡ run k s r) (sym v.1) (m v.0) ∙ a.always w q
                | inr c ↦
                    subst (λ (r : List ℕ). run h s (r ++ w) ≡ run k s (r ++ w)) (sym c.0) (clean w c.1 x (subst (Q x) c.0 a.kept)) ∙ a.always w q
              ];
        }

    byte_stops : (b : ℕ) (bs : List ℕ) (p : ℕ) → AtByte b → run h s (b ∷ bs) ≡ Err p → (p ≡ s + length (b ∷ bs)) ⊎ Stops T h s (b ∷ bs) p
    byte_stops b bs p (goes_on k m d) e =
        elim (d.err bs p (sym (m bs) ∙ e)) [
          | inl q ↦ inl (omega (arith, q))
          | inr a ↦ inr (record { front = b ∷ a.front; byte = a.byte; behind = a.behind; here = ap (λ (l : List ℕ). b ∷ l) a.here; told = a.told; always = λ w. m (a.front ++ a.byte ∷ w) ∙ a.always w })
        ]
    byte_stops b bs p (refuses q m t) e =
        let is : q ≡ p = err_is {A = A × List ℕ} q p (sym (m bs) ∙ e) in
        inr (record { front = []; byte = b; behind = bs; here = refl; told = subst (λ (n : ℕ). T s [] b n) is t; always = λ w. m w ∙ ap (λ (n : ℕ). Err n) is })
    byte_stops b bs p (alike weak k m d clean) e =
        elim (d.err (b ∷ bs) p (sym (m bs) ∙ e)) [
          | inl q ↦ inl q
          | inr a ↦
              inr (record {
                front = a.front;
                byte = a.byte;
                behind = a.behind;
                here = a.here;
                told = a.told;
                always = λ w.
                    let v = first_same b bs a.front (a.byte ∷ a.behind) (a.byte ∷ w) a.here (w, refl) in
                    let same : run h s (a.front ++ a.byte ∷ w) ≡ run k s (a.front ++ a.byte ∷ w) = subst (λ (r : List ℕ). run h s r ≡ run k s r) (sym v.1) (m v.0) in
                    same ∙ a.always w;
              })
        ]

    end_stops : AtEnd → (p : ℕ) → run h s [] ≡ Err p → p ≡ s + length {A = ℕ} []
    end_stops (ends n) p e = sym (err_is {A = A × List ℕ} _ p (sym (n _) ∙ e))
    end_stops (passes a y q n clean) p e = absurd (value_is_none (y, []) p (sym (n _) ∙ e))

    goes_first : (bytes : List ℕ) (x : A) (rest : List ℕ) → run h s bytes ≡ Ok (x, rest) → Goes any Q h s bytes x rest
    goes_first [] x rest e = end_goes at_end x rest e
    goes_first (b ∷ bs) x rest e = byte_goes b bs x rest (at_byte b) e

    stops_first : (bytes : List ℕ) (p : ℕ) → run h s bytes ≡ Err p → (p ≡ s + length bytes) ⊎ Stops T h s bytes p
    stops_first [] p e = inl (end_stops at_end p e)
    stops_first (b ∷ bs) p e = byte_stops b bs p (at_byte b) e

    pub by_first : IsDecided any Q T h s
    by_first = record { ok = goes_first; err = stops_first }

-- another thing made of what a step gives
pub mapped : {A B : Type 0} (any : Truth) (P : A → List ℕ → Type 0) (Q : B → List ℕ → Type 0) (T : ℕ → List ℕ → ℕ → ℕ → Type 0) (f : Step A) (k : A → B) (h : Step B) (s : ℕ) → ((bytes : List ℕ) → run h s bytes ≡ (run f s bytes >>= λ x. Ok (k x.0, x.1)))
    → ((x : A) (c : List ℕ) → P x c → Q (k x) c) → IsDecided any P T f s → IsDecided any Q T h s
mapped {A} {B} any P Q T f k h s made kept d = record {
  ok = λ bytes y rest e.
      let one = bind_ok (run f s bytes) (λ x. Ok (k x.0, x.1)) (y, rest) (sym (made bytes) ∙ e) in
      let same = taken_is (k one.0.0) y one.0.1 rest one.2 in
      let a = d.ok bytes one.0.0 one.0.1 one.1 in
      record {
        front = a.front;
        here = a.here ∙ ap (λ (l : List ℕ). a.front ++ l) same.1;
        kept = subst (λ (z : B). Q z a.front) same.0 (kept one.0.0 a.front a.kept);
        always = λ w m. made (a.front ++ w) ∙ (ap (λ (q : Taken A). q >>= λ x. Ok (k x.0, x.1)) (a.always w (subst (λ (r : List ℕ). MayFollow any r w) (sym same.1) m)) ∙ ap (λ (z : B). Ok (z, w)) same.0);
      };
  err = λ bytes p e.
      elim (bind_err (run f s bytes) (λ x. Ok (k x.0, x.1)) p (sym (made bytes) ∙ e)) [
        | inl l ↦
            elim (d.err bytes p l) [
              | inl q ↦ inl q
              | inr a ↦
                  inr (record { front = a.front; byte = a.byte; behind = a.behind; here = a.here; told = a.told; always = λ w. made (a.front ++ a.byte ∷ w) ∙ ap (λ (q : Taken A). q >>= λ x. Ok (k x.0, x.1)) (a.always w) })
            ]
        | inr one ↦ absurd (value_is_none (k one.0.0, one.0.1) p one.2)
      ];
}
