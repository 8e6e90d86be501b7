-- Steps one after the other are decided as each of them is.
use Rattle.std.proofs.Common.{◌≡◌, ◌⊎◌, ℕ, zero, suc, ◌+◌, ◌<◌, Bool as Truth, true, false, cond, List, [], ◌∷◌, ◌++◌, length, Ok, Err, refl, sym, ap, ◌∙◌, subst, inl, inr, append_assoc, arith}
use Rattle.std.proofs.lemmas.List.{length-append}
use Rattle.json_text.specs.Reading.{◌>>=◌, Taken, steps_at}
use Rattle.json_text.proofs.Found.{bind_ok, taken_is}
use Rattle.json_faults.proofs.Decisions.{Step, MayFollow, follow_behind, follow_same, Goes, Stops, IsDecided, err_is, fault_is_none, value_is_none, bind_err, behind_length}

-- turns of a step, each of which adds to what is done
module _ {A : Type 0} (step : ℕ → List A → List ℕ → Taken (List A × Truth)) where
  abbrev pub turns : ℕ → List A → ℕ → List ℕ → Taken (List A)
  turns n done end bytes = steps_at (step end) n end done bytes

  abbrev pub turns_behind : ℕ → ℕ → List A → (List A × Truth) × List ℕ → Taken (List A)
  turns_behind n end done x = cond x.0.1 (turns n (done ++ x.0.0) end x.1) (Ok (done ++ x.0.0, x.1))

  pub one_turn : (n : ℕ) (done : List A) (end : ℕ) (bytes : List ℕ) → turns (suc n) done end bytes ≡ (step end done bytes >>= turns_behind n end done)
  unfolding steps_at
  one_turn n done end bytes = refl

  pub no_turn : (done : List A) (end : ℕ) (bytes : List ℕ) → turns zero done end bytes ≡ Err end
  unfolding steps_at
  no_turn done end bytes = refl

  -- what follows a step that said this
  pub stepped : (n : ℕ) (done : List A) (x : List A × Truth) (end : ℕ) (bytes rest : List ℕ) (y : Taken (List A)) → step end done bytes ≡ Ok (x, rest) → turns_behind n end done (x, rest) ≡ y → turns (suc n) done end bytes ≡ y
  stepped n done x end bytes rest y e k = one_turn n done end bytes ∙ (ap (λ (q : Taken (List A × Truth)). q >>= turns_behind n end done) e ∙ k)

  pub first_fails : (n : ℕ) (done : List A) (end : ℕ) (bytes : List ℕ) (p : ℕ) → step end done bytes ≡ Err p → turns (suc n) done end bytes ≡ Err p
  first_fails n done end bytes p e = one_turn n done end bytes ∙ ap (λ (q : Taken (List A × Truth)). q >>= turns_behind n end done) e

module _ {A : Type 0} (any : Truth) (step : ℕ → List A → List ℕ → Taken (List A × Truth)) (P : List A × Truth → List ℕ → Type 0) (Q : List A → List ℕ → Type 0) (T : ℕ → List ℕ → ℕ → ℕ → Type 0)
    (decided : (done : List A) (s : ℕ) → IsDecided any P T (λ end bytes. step end done bytes) s)
    (some : (x : List A × Truth) (c : List ℕ) → P x c → 0 < length c)
    (last : (all xs : List A) (c : List ℕ) → P (xs, false) c → Q all c)
    (next : (all xs : List A) (c d : List ℕ) → P (xs, true) c → Q all d → Q all (c ++ d))
    (told : (xs : List A) (s : ℕ) (c u : List ℕ) (b p : ℕ) → P (xs, true) c → T (s + length c) u b p → T s (c ++ u) b p) where
  record Go (done : List A) (s : ℕ) (bytes : List ℕ) (all : List A) (rest : List ℕ) : Type 0 where
    front : List ℕ
    here : bytes ≡ front ++ rest
    kept : Q all front
    always : (w : List ℕ) (m : ℕ) → MayFollow any rest w → length (front ++ w) < m → turns step m done (s + length (front ++ w)) (front ++ w) ≡ Ok (all, w)

  record Stop (done : List A) (s : ℕ) (bytes : List ℕ) (p : ℕ) : Type 0 where
    front : List ℕ
    byte : ℕ
    behind : List ℕ
    here : bytes ≡ front ++ byte ∷ behind
    told_so : T s front byte p
    always : (w : List ℕ) (m : ℕ) → length (front ++ byte ∷ w) < m → turns step m done (s + length (front ++ byte ∷ w)) (front ++ byte ∷ w) ≡ Err p

  abbrev First : List A → ℕ → List ℕ → List A → Truth → List ℕ → Type 0
  First done s bytes xs more rest = Goes any P (λ end bs. step end done bs) s bytes (xs, more) rest

  -- the turns step behind the first one
  behind : (n s : ℕ) (done : List A) (bytes c rest : List ℕ) (y : Taken (List A)) → bytes ≡ c ++ rest → turns step n done (s + length bytes) rest ≡ y → turns step n done ((s + length c) + length rest) rest ≡ y
  behind n s done bytes c rest y e k = ap (λ (m : ℕ). turns step n done m rest) (sym (ap (λ (l : List ℕ). s + length l) e ∙ behind_length s c rest)) ∙ k

  before : (n s : ℕ) (done : List A) (c rest : List ℕ) (y : Taken (List A)) → turns step n done ((s + length c) + length rest) rest ≡ y → turns step n done (s + length (c ++ rest)) rest ≡ y
  before n s done c rest y k = ap (λ (m : ℕ). turns step n done m rest) (behind_length s c rest) ∙ k

  last_turn : (n s : ℕ) (done xs all : List A) (bytes r rest : List ℕ) → First done s bytes xs false r → ◌≡◌ {A = Taken (List A)} (Ok (done ++ xs, r)) (Ok (all, rest)) → Go done s bytes all rest
  last_turn n s done xs all bytes r rest a e =
      let same = taken_is (done ++ xs) all r rest e in
      record {
        front = a.front;
        here = a.here ∙ ap (λ (l : List ℕ). a.front ++ l) same.1;
        kept = last all xs a.front a.kept;
        always = λ w m l lt. ends w m (subst (λ (q : List ℕ). MayFollow any q w) (sym same.1) l) lt same.0;
      }
    where
      ends : (w : List ℕ) (m : ℕ) → MayFollow any r w → length (a.front ++ w) < m → done ++ xs ≡ all → turns step m done (s + length (a.front ++ w)) (a.front ++ w) ≡ Ok (all, w)
      ends w zero l lt is = absurd (omega arith)
      ends w (suc m) l lt is = stepped step m done (xs, false) (s + length (a.front ++ w)) (a.front ++ w) w (Ok (all, w)) (a.always w l) (ap (λ (q : List A). Ok (q, w)) is)

  more_turns : (n s : ℕ) (done xs all : List A) (bytes r rest : List ℕ) → (a : First done s bytes xs true r) → Go (done ++ xs) (s + length a.front) r all rest → Go done s bytes all rest
  more_turns n s done xs all bytes r rest a b = record {
    front = a.front ++ b.front;
    here = a.here ∙ (ap (λ (l : List ℕ). a.front ++ l) b.here ∙ sym (append_assoc a.front b.front rest));
    kept = next all xs a.front b.front a.kept b.kept;
    always = λ w m l lt.
        subst (λ (q : List ℕ). turns step m done (s + length q) q ≡ Ok (all, w)) (sym (append_assoc a.front b.front w)) (goes w m l (subst (λ (q : List ℕ). length q < m) (append_assoc a.front b.front w) lt));
  }
    where
      goes : (w : List ℕ) (m : ℕ) → MayFollow any rest w → length (a.front ++ (b.front ++ w)) < m → turns step m done (s + length (a.front ++ (b.front ++ w))) (a.front ++ (b.front ++ w)) ≡ Ok (all, w)
      goes w zero l lt = absurd (omega arith)
      goes w (suc m) l lt =
          let follows : MayFollow any r (b.front ++ w) = subst (λ (q : List ℕ). MayFollow any q (b.front ++ w)) (sym b.here) (follow_behind any b.front rest w l) in
          let fewer : length (b.front ++ w) < m = omega (arith, lt, length-append a.front (b.front ++ w), some (xs, true) a.front a.kept) in
          stepped step m done (xs, true) (s + length (a.front ++ (b.front ++ w))) (a.front ++ (b.front ++ w)) (b.front ++ w) (Ok (all, w)) (a.always (b.front ++ w) follows) (before m s (done ++ xs) a.front (b.front ++ w) (Ok (all, w)) (b.always w m l fewer))

  turn_goes : (n s : ℕ) (done xs all : List A) (more : Truth) (bytes r rest : List ℕ) → ((t : ℕ) (before : List A) (bs : List ℕ) → turns step n before (t + length bs) bs ≡ Ok (all, rest) → Go before t bs all rest)
      → First done s bytes xs more r → turns_behind step n (s + length bytes) done ((xs, more), r) ≡ Ok (all, rest) → Go done s bytes all rest
  turn_goes n s done xs all false bytes r rest ih a e = last_turn n s done xs all bytes r rest a e
  turn_goes n s done xs all true bytes r rest ih a e = more_turns n s done xs all bytes r rest a (ih (s + length a.front) (done ++ xs) r (behind n s (done ++ xs) bytes a.front r (Ok (all, rest)) a.here e))

  go : (n s : ℕ) (done : List A) (bytes : List ℕ) (all : List A) (rest : List ℕ) → turns step n done (s + length bytes) bytes ≡ Ok (all, rest) → Go done s bytes all rest
  go zero s done bytes all rest e = absurd (fault_is_none (all, rest) (s + length bytes) (sym (no_turn step done (s + length bytes) bytes) ∙ e))
  go (suc n) s done bytes all rest e =
      let one = bind_ok (step (s + length bytes) done bytes) (turns_behind step n (s + length bytes) done) (all, rest) (sym (one_turn step n done (s + length bytes) bytes) ∙ e) in
      let d = decided done s in
      turn_goes n s done one.0.0.0 all one.0.0.1 bytes one.0.1 rest (λ t before bs k. go n t before bs all rest k) (d.ok bytes one.0.0 one.0.1 one.1) one.2

  -- ---- a fault

  first_fault : (s : ℕ) (done : List A) (bytes : List ℕ) (p : ℕ) → Stops T (λ end bs. step end done bs) s bytes p → Stop done s bytes p
  first_fault s done bytes p a = record { front = a.front; byte = a.byte; behind = a.behind; here = a.here; told_so = a.told; always = fails }
    where
      fails : (w : List ℕ) (m : ℕ) → length (a.front ++ a.byte ∷ w) < m → turns step m done (s + length (a.front ++ a.byte ∷ w)) (a.front ++ a.byte ∷ w) ≡ Err p
      fails w zero lt = absurd (omega arith)
      fails w (suc m) lt =
          first_fails step m done (s + length (a.front ++ a.byte ∷ w)) (a.front ++ a.byte ∷ w) p (a.always w)

  later_fault : (s : ℕ) (done xs : List A) (bytes r : List ℕ) (p : ℕ) → (a : First done s bytes xs true r) → Stop (done ++ xs) (s + length a.front) r p → Stop done s bytes p
  later_fault s done xs bytes r p a b = record {
    front = a.front ++ b.front;
    byte = b.byte;
    behind = b.behind;
    here = a.here ∙ (ap (λ (l : List ℕ). a.front ++ l) b.here ∙ sym (append_assoc a.front b.front (b.byte ∷ b.behind)));
    told_so = told xs s a.front b.front b.byte p a.kept b.told_so;
    always = λ w m lt.
        subst (λ (q : List ℕ). turns step m done (s + length q) q ≡ Err p) (sym (append_assoc a.front b.front (b.byte ∷ w))) (fails w m (subst (λ (q : List ℕ). length q < m) (append_assoc a.front b.front (b.byte ∷ w)) lt));
  }
    where
      fails : (w : List ℕ) (m : ℕ) → length (a.front ++ (b.front ++ b.byte ∷ w)) < m → turns step m done (s + length (a.front ++ (b.front ++ b.byte ∷ w))) (a.front ++ (b.front ++ b.byte ∷ w)) ≡ Err p
      fails w zero lt = absurd (omega arith)
      fails w (suc m) lt =
          let tail = b.front ++ b.byte ∷ w in
          let follows : MayFollow any r tail = subst (λ (q : List ℕ). MayFollow any q tail) (sym b.here) (follow_same any b.front b.byte b.behind w) in
          let fewer : length tail < m = omega (arith, lt, length-append a.front tail, some (xs, true) a.front a.kept) in
          stepped step m done (xs, true) (s + length (a.front ++ tail)) (a.front ++ tail) tail (Err p) (a.always tail follows) (before m s (done ++ xs) a.front tail (Err p) (b.always w m fewer))

  turn_stops : (n s : ℕ) (done xs : List A) (more : Truth) (bytes r : List ℕ) (p : ℕ) → ((t : ℕ) (before : List A) (bs : List ℕ) → turns step n before (t + length bs) bs ≡ Err p → (p ≡ t + length bs) ⊎ Stop before t bs p)
      → First done s bytes xs more r → turns_behind step n (s + length bytes) done ((xs, more), r) ≡ Err p → (p ≡ s + length bytes) ⊎ Stop done s bytes p
  turn_stops n s done xs false bytes r p ih a e = absurd (value_is_none (done ++ xs, r) p e)
  turn_stops n s done xs true bytes r p ih a e =
      elim (ih (s + length a.front) (done ++ xs) r (behind n s (done ++ xs) bytes a.front r (Err p) a.here e)) [
        | inl q ↦ inl (q ∙ sym (ap (λ (l : List ℕ). s + length l) a.here ∙ behind_length s a.front r))
        | inr b ↦ inr (later_fault s done xs bytes r p a b)
      ]

  stop : (n s : ℕ) (done : List A) (bytes : List ℕ) (p : ℕ) → turns step n done (s + length bytes) bytes ≡ Err p → (p ≡ s + length bytes) ⊎ Stop done s bytes p
  stop zero s done bytes p e = inl (sym (err_is {A = List A × List ℕ} (s + length bytes) p (sym (no_turn step done (s + length bytes) bytes) ∙ e)))
  stop (suc n) s done bytes p e =
      let d = decided done s in
      elim (bind_err (step (s + length bytes) done bytes) (turns_behind step n (s + length bytes) done) p (sym (one_turn step n done (s + length bytes) bytes) ∙ e)) [
        | inl k ↦ elim (d.err bytes p k) [ inl q ↦ inl q | inr a ↦ inr (first_fault s done bytes p a) ]
        | inr one ↦ turn_stops n s done one.0.0.0 one.0.0.1 bytes one.0.1 p (λ t before bs k. stop n t before bs p k) (d.ok bytes one.0.0 one.0.1 one.1) one.2
      ]

  -- as many turns step as there are bytes, and one more
  abbrev pub all_steps : Step (List A)
  all_steps end bytes = turns step (suc (length bytes)) [] end bytes

  pub steps_decided : (s : ℕ) → IsDecided any Q T all_steps s
  steps_decided s = record {
    ok = λ bytes x rest e.
        let g = go (suc (length bytes)) s [] bytes x rest e in
        record { front = g.front; here = g.here; kept = g.kept; always = λ w m. g.always w (suc (length (g.front ++ w))) m (omega arith) };
    err = λ bytes p e.
        elim (stop (suc (length bytes)) s [] bytes p e) [
          | inl q ↦ inl q
          | inr g ↦ inr (record { front = g.front; byte = g.byte; behind = g.behind; here = g.here; told = g.told_so; always = λ w. g.always w (suc (length (g.front ++ g.byte ∷ w))) (omega arith) })
        ];
  }
