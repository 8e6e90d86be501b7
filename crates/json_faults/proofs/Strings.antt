-- Strings are decided by their bytes up to the closing quote.
use Rattle.std.proofs.Common.{◌≡◌, ◌≢◌, ◌⊎◌, ℕ, suc, ◌+◌, ◌-◌, ◌*◌, ◌<◌, Bool as Truth, true, false, cond, ◌||◌, eqb, ltb, List, [], ◌∷◌, ◌++◌, length, Option, Some, None, Ok, Err, refl, sym, ap, ◌∙◌, subst, inl, inr, append_assoc, arith}
use Rattle.std.specs.Char.{encode_utf8}
use Rattle.std.specs.Str.{is_utf8}
use Rattle.std.proofs.lemmas.Bool.{cases_Bool, eqb-true, eq-eqb, ne_eqb}
use Rattle.json_text.specs.Reading.{◌>>=◌, Taken, place, steps_at, word_at, hex_value, hex_at, unit_at, low_at, unicode_at, meant, escape_at, piece_at, as_text, string_at}
use Rattle.json_text.proofs.Found.{bind_ok, text_found}
use Rattle.json_faults.proofs.Decisions.{Step, run, Goes, Stops, IsDecided, err_is, value_is_none, bind_err, bound, mapped, nothing, eased, ends, AtByte, goes_on, refuses, by_first}
use Rattle.json_faults.proofs.Numbers.{alone, alone_then}
use Rattle.json_faults.proofs.Steps.{steps_decided}

-- ---- what is known of the bytes of a string

-- no quote ends the string within these bytes; the two tell whether a backslash stands before them, and at their end
abbrev pub Inside : Truth → List ℕ → Truth → Type 0
Inside e [] f = e ≡ f
Inside true (b ∷ u) f = Inside false u f
Inside false (b ∷ u) f = (b ≢ 34) × Inside (eqb b 92) u f

pub inside_then : (e m f : Truth) (c d : List ℕ) → Inside e c m → Inside m d f → Inside e (c ++ d) f
inside_then e m f [] d h k = subst (λ (t : Truth). Inside t d f) (sym h) k
inside_then true m f (b ∷ c) d h k = inside_then false m f c d h k
inside_then false m f (b ∷ c) d h k = (h.0, inside_then (eqb b 92) m f c d h.1 k)

abbrev pub Within : {A : Type 0} → A → List ℕ → Type 0
Within x c = Inside false c false

-- within the string whose quote stands at this place
abbrev pub InString : ℕ → ℕ → List ℕ → ℕ → ℕ → Type 0
InString start s u b p = (p ≡ start) × (e : Truth) × Inside false u e

-- the same behind a backslash
abbrev pub InEscape : ℕ → ℕ → List ℕ → ℕ → ℕ → Type 0
InEscape start s u b p = (p ≡ start) × (e : Truth) × Inside true u e

module _ (start : ℕ) where
  abbrev IsDecidedHere : {A : Type 0} → Step A → ℕ → Type 0
  IsDecidedHere f s = IsDecided true Within (InString start) f s

  both_told : {A B : Type 0} (f : Step A) (g : A → Step B) (h : Step B) (s : ℕ) → ((bytes : List ℕ) → run h s bytes ≡ (run f s bytes >>= λ x. g x.0 (s + length bytes) x.1)) → IsDecidedHere f s → ((x : A) (t : ℕ) → IsDecidedHere (g x) t) → IsDecidedHere h s
  both_told f g h s made first second =
      bound true Within Within Within (InString start) f g h s made first (λ x c k. second x (s + length c)) (λ x y c d k l. inside_then false false false c d k l) (λ x c u b p k t. (t.0, t.1, inside_then false false t.1 c u k t.2))

  no_more : {A : Type 0} (y : A) (s : ℕ) → IsDecidedHere (λ end bytes. Ok (y, bytes)) s
  no_more y s = nothing true Within (InString start) y s refl

  -- ---- digits

  digit_inside : (b v : ℕ) → hex_value b ≡ Some v → (b ≢ 34) × (eqb b 92 ≡ false)
  digit_inside b v h = (λ q. no_quote (sym (ap hex_value q) ∙ h), ne_eqb b 92 (λ q. no_back (sym (ap hex_value q) ∙ h)))
    where
      no_quote : hex_value 34 ≡ Some v → ⊥
      no_quote e = absurd cc

      no_back : hex_value 92 ≡ Some v → ⊥
      no_back e = absurd cc

  module _ (low high : ℕ) where
    abbrev pub hex : Step ℕ
    hex end bytes = hex_at start end low high bytes

    hex_byte : (s b : ℕ) (o : Option ℕ) → hex_value b ≡ o → AtByte true Within (InString start) hex s b
    unfolding hex_at
    hex_byte s b None e = refuses start (λ bytes. rw e refl) (refl, false, refl)
    hex_byte s b (Some v) e =
        elim (cases_Bool (ltb v low || ltb high v)) [
          | inl h ↦ refuses start (λ bytes. rw (e, h) refl) (refl, false, refl)
          | inr h ↦
              goes_on (λ end bytes. Ok (v, bytes)) (λ bytes. rw (e, h) refl) (nothing true (λ x c. Within x (b ∷ c)) (λ t u c p. InString start s (b ∷ u) c p) v (suc s) (digit_inside b v e))
        ]

    pub hex_decided : (s : ℕ) → IsDecidedHere hex s
    unfolding hex_at
    hex_decided s = by_first true Within (InString start) hex s (ends (λ end. refl)) (λ b. hex_byte s b (hex_value b) refl)

  abbrev pub last_digit : ℕ → ℕ → Step ℕ
  last_digit high c end bytes = hex_at start end 0 15 bytes >>= λ d. Ok (256 * high + 16 * c + d.0, d.1)

  pub unit_decided : (high s : ℕ) → IsDecidedHere (λ end bytes. unit_at start end high bytes) s
  unfolding unit_at
  unit_decided high s =
      both_told (hex 0 15) (last_digit high) (λ end bytes. unit_at start end high bytes) s (λ bytes. refl) (hex_decided 0 15 s) (λ c t.
      both_told (hex 0 15) (λ d end bytes. Ok (256 * high + 16 * c + d, bytes)) (last_digit high c) t (λ bytes. refl) (hex_decided 0 15 t) (λ d r. no_more (256 * high + 16 * c + d) r))

  -- ---- the two halves of a character

  abbrev pub slash_u : Step (Unit {0})
  slash_u end bytes = alone (word_at (92 ∷ 117 ∷ []) start end bytes)

  abbrev pub only_u : Step (Unit {0})
  only_u end bytes = alone (word_at (117 ∷ []) start end bytes)

  u_decided : (s : ℕ) → IsDecided true (λ x c. Within x (92 ∷ c)) (λ t u c p. InString start s (92 ∷ u) c p) only_u (suc s)
  unfolding word_at
  u_decided s =
      by_first true (λ x c. Within x (92 ∷ c)) (λ t u c p. InString start s (92 ∷ u) c p) only_u (suc s) (ends (λ end. refl)) (λ b.
      elim (cases_Bool (eqb b 117)) [
        | inl e ↦
            goes_on (λ end bytes. Ok (tt, bytes)) (λ bytes. rw e refl)
            (nothing true (λ x c. Within x (92 ∷ b ∷ c)) (λ t u c p. InString start s (92 ∷ b ∷ u) c p) tt (suc (suc s)) ((λ q. omega (arith, q)), refl))
        | inr e ↦ refuses start (λ bytes. rw e refl) (refl, true, ((λ q. omega (arith, q)), refl))
      ])

  back_byte : (s : ℕ) → AtByte true Within (InString start) slash_u s 92
  unfolding word_at
  back_byte s = goes_on only_u (λ bytes. ap (λ (n : ℕ). only_u n bytes) (omega arith)) (u_decided s)

  pub slash_decided : (s : ℕ) → IsDecidedHere slash_u s
  unfolding word_at
  slash_decided s =
      by_first true Within (InString start) slash_u s (ends (λ end. refl)) (λ b.
      elim (cases_Bool (eqb b 92)) [
        | inl e ↦ subst (λ (n : ℕ). AtByte true Within (InString start) slash_u s n) (sym (eqb-true b 92 e)) (back_byte s)
        | inr e ↦ refuses start (λ bytes. rw e refl) (refl, false, refl)
      ])

  abbrev pub low_unit : ℕ → ℕ → Step (List ℕ)
  low_unit unit top end bytes = unit_at start end top bytes >>= λ low. Ok (encode_utf8 (65536 + 1024 * (unit - 55296) + (low.0 - 56320)), low.1)

  abbrev pub low_second : ℕ → ℕ → Step (List ℕ)
  low_second unit a end bytes = hex_at start end 12 15 bytes >>= λ b. low_unit unit (16 * a + b.0) end b.1

  abbrev pub low_first : ℕ → Step (List ℕ)
  low_first unit end bytes = hex_at start end 13 13 bytes >>= λ a. low_second unit a.0 end a.1

  pub low_decided : (unit s : ℕ) → IsDecidedHere (λ end bytes. low_at start end unit bytes) s
  unfolding low_at
  low_decided unit s =
      both_told slash_u (λ x. low_first unit) (λ end bytes. low_at start end unit bytes) s
      (λ bytes. alone_then (word_at (92 ∷ 117 ∷ []) start (s + length bytes) bytes) (λ rest. low_first unit (s + length bytes) rest)) (slash_decided s) (λ x t.
      both_told (hex 13 13) (low_second unit) (low_first unit) t (λ bytes. refl) (hex_decided 13 13 t) (λ a r.
      both_told (hex 12 15) (λ b. low_unit unit (16 * a + b)) (low_second unit a) r (λ bytes. refl) (hex_decided 12 15 r) (λ b q.
      both_told (λ end bytes. unit_at start end (16 * a + b) bytes) (λ low end bytes. Ok (encode_utf8 (65536 + 1024 * (unit - 55296) + (low - 56320)), bytes)) (low_unit unit (16 * a + b)) q (λ bytes. refl) (unit_decided (16 * a + b) q)
      (λ low o. no_more (encode_utf8 (65536 + 1024 * (unit - 55296) + (low - 56320))) o))))

  abbrev pub character : ℕ → Step (List ℕ)
  character unit end bytes = cond (ltb unit 55296 || ltb 57343 unit) (Ok (encode_utf8 unit, bytes)) (low_at start end unit bytes)

  pub either : (unit s : ℕ) (t : Truth) → IsDecidedHere (λ end bytes. cond t (Ok (encode_utf8 unit, bytes)) (low_at start end unit bytes)) s
  either unit s true = no_more (encode_utf8 unit) s
  either unit s false = low_decided unit s

  abbrev pub third : ℕ → Step (List ℕ)
  third top end bytes = unit_at start end top bytes >>= λ unit. character unit.0 end unit.1

  abbrev pub second : ℕ → Step (List ℕ)
  second a end bytes = hex_at start end 0 (cond (eqb a 13) 11 15) bytes >>= λ b. third (16 * a + b.0) end b.1

  pub unicode_decided : (s : ℕ) → IsDecidedHere (λ end bytes. unicode_at start end bytes) s
  unfolding unicode_at
  unicode_decided s =
      both_told (hex 0 15) second (λ end bytes. unicode_at start end bytes) s (λ bytes. refl) (hex_decided 0 15 s) (λ a t.
      both_told (hex 0 (cond (eqb a 13) 11 15)) (λ b. third (16 * a + b)) (second a) t (λ bytes. refl) (hex_decided 0 (cond (eqb a 13) 11 15) t) (λ b r.
      both_told (λ end bytes. unit_at start end (16 * a + b) bytes) character (third (16 * a + b)) r (λ bytes. refl) (unit_decided (16 * a + b) r) (λ unit q. either unit q (ltb unit 55296 || ltb 57343 unit))))

  -- ---- escapes and pieces

  abbrev pub Escaped : {A : Type 0} → A → List ℕ → Type 0
  Escaped x c = Inside true c false

  letter_byte : (s b : ℕ) (o : Option ℕ) → eqb b 117 ≡ false → meant b ≡ o → AtByte true Escaped (InEscape start) (λ end bytes. escape_at start end bytes) s b
  unfolding escape_at
  letter_byte s b None n e = refuses start (λ bytes. rw (n, e) refl) (refl, true, refl)
  letter_byte s b (Some m) n e =
      goes_on (λ end bytes. Ok (m ∷ [], bytes)) (λ bytes. rw (n, e) refl) (nothing true (λ x c. Escaped x (b ∷ c)) (λ t u c p. InEscape start s (b ∷ u) c p) (m ∷ []) (suc s) refl)

  pub escape_decided : (s : ℕ) → IsDecided true Escaped (InEscape start) (λ end bytes. escape_at start end bytes) s
  unfolding escape_at
  escape_decided s =
      by_first true Escaped (InEscape start) (λ end bytes. escape_at start end bytes) s (ends (λ end. refl)) (λ b.
      elim (cases_Bool (eqb b 117)) [
        | inl e ↦ goes_on (λ end bytes. unicode_at start end bytes) (λ bytes. rw e (ap (λ (n : ℕ). unicode_at start n bytes) (omega arith))) (unicode_decided (suc s))
        | inr e ↦ letter_byte s b (meant b) e refl
      ])

  -- a piece, and whether another follows: the closing quote is the last
  abbrev pub IsPiece : Truth → List ℕ → Type 0
  IsPiece true c = (0 < length c) × Inside false c false
  IsPiece false c = c ≡ 34 ∷ []

  abbrev pub Piece : List ℕ × Truth → List ℕ → Type 0
  Piece x c = IsPiece x.1 c

  abbrev pub escaped : Step (List ℕ × Truth)
  escaped end bytes = escape_at start end bytes >>= λ x. Ok ((x.0, true), x.1)

  escaped_decided : (s : ℕ) → IsDecided true (λ y c. Piece y (92 ∷ c)) (λ t u c p. InString start s (92 ∷ u) c p) escaped (suc s)
  escaped_decided s =
      mapped true Escaped (λ y c. Piece y (92 ∷ c)) (λ t u c p. InString start s (92 ∷ u) c p) (λ end bytes. escape_at start end bytes) (λ x. (x, true)) escaped (suc s) (λ bytes. refl) (λ x c k. (omega arith, ((λ q. omega (arith, q)), k)))
      (eased true true Escaped Escaped (InEscape start) (λ t u c p. InString start s (92 ∷ u) c p) (λ end bytes. escape_at start end bytes) (suc s) (λ rest w m. m) (λ x c k. k) (λ u b p k. (k.0, k.1, ((λ q. omega (arith, q)), k.2))) (escape_decided (suc s)))

  back_piece : (done : List ℕ) (s : ℕ) → AtByte true Piece (InString start) (λ end bytes. piece_at start end done bytes) s 92
  unfolding piece_at
  back_piece done s = goes_on escaped (λ bytes. ap (λ (n : ℕ). escaped n bytes) (omega arith)) (escaped_decided s)

  differs : (b n : ℕ) → eqb b n ≡ false → b ≢ n
  differs b n e q = let t : true ≡ false = sym (eq-eqb b n q) ∙ e in absurd cc

  plain_piece : (done : List ℕ) (s b : ℕ) → eqb b 34 ≡ false → eqb b 92 ≡ false → AtByte true Piece (InString start) (λ end bytes. piece_at start end done bytes) s b
  unfolding piece_at
  plain_piece done s b q n =
      elim (cases_Bool (ltb b 32)) [
        | inl l ↦ refuses start (λ bytes. rw (q, n, l) refl) (refl, false, refl)
        | inr l ↦
            goes_on (λ end bytes. Ok ((b ∷ [], true), bytes)) (λ bytes. rw (q, n, l) refl)
            (nothing true (λ x c. Piece x (b ∷ c)) (λ t u c p. InString start s (b ∷ u) c p) (b ∷ [], true) (suc s) (omega arith, (differs b 34 q, n)))
      ]

  pub piece_decided : (done : List ℕ) (s : ℕ) → IsDecided true Piece (InString start) (λ end bytes. piece_at start end done bytes) s
  unfolding piece_at
  piece_decided done s =
      by_first true Piece (InString start) (λ end bytes. piece_at start end done bytes) s (ends (λ end. refl)) (λ b.
      elim (cases_Bool (eqb b 34)) [
        | inl q ↦
            goes_on (λ end bytes. Ok (([], false), bytes)) (λ bytes. rw q refl)
            (nothing true (λ x c. Piece x (b ∷ c)) (λ t u c p. InString start s (b ∷ u) c p) ([], false) (suc s) (ap (λ (n : ℕ). n ∷ []) (eqb-true b 34 q)))
        | inr q ↦
            elim (cases_Bool (eqb b 92)) [
              | inl e ↦ subst (λ (n : ℕ). AtByte true Piece (InString start) (λ end bytes. piece_at start end done bytes) s n) (sym (eqb-true b 92 e)) (back_piece done s)
              | inr e ↦ plain_piece done s b q e
            ]
      ])

  -- ---- the whole string behind its opening quote

  abbrev pub IsQuoted : List ℕ → List ℕ → Type 0
  IsQuoted t c = (chars : List ℕ) × (c ≡ chars ++ 34 ∷ []) × Inside false chars false

  piece_some : (x : List ℕ × Truth) (c : List ℕ) → Piece x c → 0 < length c
  piece_some (t, true) c h = h.0
  piece_some (t, false) c h = omega (arith, ap length h)

  one_more : (c d : List ℕ) → Inside false c false → (q : IsQuoted [] d) → IsQuoted [] (c ++ d)
  one_more c d k q = (c ++ q.0, ap (λ (l : List ℕ). c ++ l) q.1 ∙ sym (append_assoc c q.0 (34 ∷ [])), inside_then false false false c q.0 k q.2)

  abbrev pub pieces : Step (List ℕ)
  pieces end bytes = steps_at (λ done bs. piece_at start end done bs) (suc (length bytes)) end [] bytes

  pieces_decided : (s : ℕ) → IsDecided true IsQuoted (InString start) pieces s
  pieces_decided s =
      steps_decided true (λ end done bs. piece_at start end done bs) Piece IsQuoted (InString start) piece_decided piece_some (λ all xs c k. ([], k, refl)) (λ all xs c d k q. one_more c d k.1 q)
      (λ xs t c u b p k l. (l.0, l.1, inside_then false false l.1 c u k.1 l.2)) s

-- the string whose quote stands at this place
module _ (start : ℕ) where
  start_is : (bytes : List ℕ) → place (suc start + length bytes) bytes - 1 ≡ start
  start_is bytes = omega arith

  pub string_is : (bytes : List ℕ) → string_at (suc start + length bytes) bytes ≡ (run (pieces start) (suc start) bytes >>= λ x. as_text start x.0 x.1)
  unfolding string_at
  string_is bytes = rw (start_is bytes) refl

  text_ok : (t rest : List ℕ) → is_utf8 t ≡ true → as_text start t rest ≡ Ok (t, rest)
  text_ok t rest h = rw h refl

  text_no : (t rest : List ℕ) → is_utf8 t ≡ false → as_text start t rest ≡ Err start
  text_no t rest h = rw h refl

  -- the string behind its opening quote: the bytes up to the closing one decide it
  pub string_goes : (bytes t rest : List ℕ) → run string_at (suc start) bytes ≡ Ok (t, rest) → Goes true (IsQuoted start) string_at (suc start) bytes t rest
  string_goes bytes t rest e =
      let one = bind_ok (run (pieces start) (suc start) bytes) (λ x. as_text start x.0 x.1) (t, rest) (sym (string_is bytes) ∙ e) in
      let d = pieces_decided start (suc start) in
      let a = d.ok bytes one.0.0 one.0.1 one.1 in
      let k = text_found start one.0.0 one.0.1 t rest one.2 in
      record {
        front = a.front;
        here = a.here ∙ ap (λ (l : List ℕ). a.front ++ l) k.1;
        kept = a.kept;
        always = λ w m. string_is (a.front ++ w) ∙ (ap (λ (q : Taken (List ℕ)). q >>= λ x. as_text start x.0 x.1) (a.always w tt) ∙ (text_ok one.0.0 w k.2 ∙ ap (λ (l : List ℕ). Ok (l, w)) k.0));
      }

  text_fault : (t rest : List ℕ) (p : ℕ) (b : Truth) → is_utf8 t ≡ b → as_text start t rest ≡ Err p → (p ≡ start) × (is_utf8 t ≡ false)
  text_fault t rest p true h e = absurd (value_is_none (t, rest) p (sym (text_ok t rest h) ∙ e))
  text_fault t rest p false h e = (sym (err_is {A = List ℕ × List ℕ} start p (sym (text_no t rest h) ∙ e)), h)

  no_text : (bytes t rest : List ℕ) (p : ℕ) → Goes true (IsQuoted start) (pieces start) (suc start) bytes t rest → (p ≡ start) × (is_utf8 t ≡ false) → Stops (InString start) string_at (suc start) bytes p
  no_text bytes t rest p a k =
      let q = a.kept in
      let split : (w : List ℕ) → a.front ++ w ≡ q.0 ++ 34 ∷ w = λ w. ap (λ (l : List ℕ). l ++ w) q.1 ∙ append_assoc q.0 (34 ∷ []) w in
      record {
        front = q.0;
        byte = 34;
        behind = rest;
        here = a.here ∙ split rest;
        told = (k.0, false, q.2);
        always = λ w.
            subst (λ (l : List ℕ). run string_at (suc start) l ≡ Err p) (split w)
            (string_is (a.front ++ w) ∙ (ap (λ (r : Taken (List ℕ)). r >>= λ x. as_text start x.0 x.1) (a.always w tt) ∙ (text_no t w k.1 ∙ ap (λ (n : ℕ). Err n) (sym k.0))));
      }

  pub string_stops : (bytes : List ℕ) (p : ℕ) → run string_at (suc start) bytes ≡ Err p → (p ≡ suc start + length bytes) ⊎ Stops (InString start) string_at (suc start) bytes p
  string_stops bytes p e =
      let d = pieces_decided start (suc start) in
      elim (bind_err (run (pieces start) (suc start) bytes) (λ x. as_text start x.0 x.1) p (sym (string_is bytes) ∙ e)) [
        | inl k ↦
            elim (d.err bytes p k) [
              | inl q ↦ inl q
              | inr a ↦
                  inr (record {
                    front = a.front;
                    byte = a.byte;
                    behind = a.behind;
                    here = a.here;
                    told = a.told;
                    always = λ w. string_is (a.front ++ a.byte ∷ w) ∙ ap (λ (r : Taken (List ℕ)). r >>= λ x. as_text start x.0 x.1) (a.always w);
                  })
            ]
        | inr one ↦ inr (no_text bytes one.0.0 one.0.1 p (d.ok bytes one.0.0 one.0.1 one.1) (text_fault one.0.0 one.0.1 p (is_utf8 one.0.0) refl one.2))
      ]

  pub string_decided : IsDecided true (IsQuoted start) (InString start) string_at (suc start)
  string_decided = record { ok = string_goes; err = string_stops }
