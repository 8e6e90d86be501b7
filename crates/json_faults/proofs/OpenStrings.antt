-- A string with which the text ends can be completed.
use Rattle.std.proofs.Common.{◌≡◌, ◌≢◌, ℕ, zero, suc, ◌+◌, ◌-◌, ◌*◌, ◌<◌, Bool as Truth, true, false, cond, ◌||◌, eqb, ltb, List, [], ◌∷◌, ◌++◌, length, take, drop, get_or, Option, Some, None, Result, Ok, Err, refl, sym, ap, ◌∙◌, subst, inl, inr, append_assoc, arith}
use Rattle.std.specs.Char.{encode_utf8}
use Rattle.std.specs.List.{list_all}
use Rattle.std.specs.Str.{IsUtf8, IsAscii, is_utf8}
use Rattle.std.proofs.lemmas.Bool.{cases_Bool, and_parts, eqb-true, ltb-true, lt-ltb}
use Rattle.std.proofs.lemmas.List.{length-append, append-nil}
use Rattle.std.proofs.Math.Seq.{drop-append_seam}
use Rattle.std.proofs.lemmas.Str.{IsUtf8-take, IsUtf8-drop, IsUtf8-append, IsUtf8-from_ascii, IsCharBoundary-before_ascii, IsCharBoundary-after_ascii, is_utf8-from_IsUtf8}
use Rattle.std.proofs.lemmas.Str.Ascii.{IsAscii-cons, IsAscii-nil}
use Rattle.json_text.specs.Reading.{◌>>=◌, Taken, steps_at, word_at, hex_value, hex_at, unit_at, low_at, unicode_at, meant, one as letter, escape_at, piece_at, as_text, string_at}
use Rattle.json_text.proofs.Found.{bind_ok, ok_is, taken_is}
use Rattle.json_faults.proofs.Decisions.{Step, run, IsDecided, Goes, err_is, fault_is_none, value_is_none, bind_err, behind_length, take-append}
use Rattle.json_faults.proofs.Numbers.{alone, alone_then}
use Rattle.json_faults.proofs.Steps.{turns, turns_behind, one_turn, stepped, first_fails}
use Rattle.json_faults.proofs.Strings.{Within, InString, hex, hex_decided, last_digit, unit_decided, slash_u, slash_decided, low_unit, low_second, low_first, character, third, second, Piece, piece_decided, pieces, string_is, string_decided}
use Rattle.json_faults.proofs.Completions.{AreLow, low_append, Whatever, Completes, Fresh, at_start, behind_one, IsCompletable, giving, both}
use Rattle.json_faults.proofs.Escapes.{escape_means}

abbrev Any : List ℕ → Type 0
Any bytes = Unit {0}

-- letters a, which make a name longer than others
abbrev pub AreA : List ℕ → Type 0
AreA l = list_all (λ b. eqb b 97) l ≡ true

pub a_low : (l : List ℕ) → AreA l → AreLow l
a_low [] h = refl
a_low (b ∷ l) h =
    let q = and_parts (eqb b 97) (list_all (λ c. eqb c 97) l) h in
    let below : b < 128 = omega (arith, eqb-true b 97 q.0) in
    rw (lt-ltb b 128 below) (a_low l q.1)

low_ascii : (l : List ℕ) → AreLow l → IsAscii l
low_ascii [] h = IsAscii-nil
low_ascii (b ∷ l) h = let q = and_parts (ltb b 128) (list_all (λ c. ltb c 128) l) h in IsAscii-cons b l (ltb-true b 128 q.0) (low_ascii l q.1)

pub low_utf8 : (l : List ℕ) → AreLow l → IsUtf8 l
low_utf8 l h = IsUtf8-from_ascii l (low_ascii l h)

byte_at : (a : List ℕ) (b : ℕ) (r : List ℕ) → get_or (a ++ b ∷ r) (length a) 0 ≡ b
byte_at [] b r = refl
byte_at (c ∷ a) b r = byte_at a b r

-- a text beside an ASCII byte
pub utf8_split : (a : List ℕ) (b : ℕ) (r : List ℕ) → b < 128 → IsUtf8 (a ++ b ∷ r) → IsUtf8 a × IsUtf8 r
utf8_split a b r h u =
    let text = a ++ b ∷ r in
    let inside : length a < length text = omega (arith, length-append a (b ∷ r)) in
    let ascii : get_or text (length a) 0 < 128 = omega (arith, byte_at a b r, h) in
    let before : IsUtf8 (take (length a) text) = IsUtf8-take text (length a) u (IsCharBoundary-before_ascii text (length a) inside ascii) in
    let behind : IsUtf8 (drop (length a + 1) text) = IsUtf8-drop text (length a + 1) u (IsCharBoundary-after_ascii text (length a) u inside ascii) in
    let longer : length (a ++ b ∷ []) ≡ length a + 1 = omega (arith, length-append a (b ∷ [])) in
    let rest : drop (length a + 1) text ≡ r = ap (λ (n : ℕ). drop n text) (sym longer) ∙ (ap (λ (l : List ℕ). drop (length (a ++ b ∷ [])) l) (sym (append_assoc a (b ∷ []) r)) ∙ drop-append_seam (a ++ b ∷ []) r) in
    (subst IsUtf8 (take-append a (b ∷ r)) before, subst IsUtf8 rest behind)

-- within a string that begins at this place, with a fault at another one
module _ (start p : ℕ) (late : p ≢ start) where
  abbrev IsOpen : {A : Type 0} → Step A → Type 0
  IsOpen f = IsCompletable true Any p Whatever f

  behind : {A B : Type 0} (f : Step A) (g : A → Step B) (h : Step B) → ((end : ℕ) (bytes : List ℕ) → h end bytes ≡ (f end bytes >>= λ x. g x.0 end x.1)) → ((s : ℕ) → IsDecided true Within (InString start) f s) → IsOpen f → ((x : A) → IsOpen (g x)) → IsOpen h
  behind f g h made d first next = both true Any p (λ c r k. tt) Whatever Within (InString start) f g h made d first next

  gives : {A : Type 0} (y : A) → IsOpen (λ end bytes. Ok (y, bytes))
  gives y = giving true Any p (λ c r k. tt) Whatever y tt

  -- ---- digits

  module _ (low high : ℕ) where
    no_digit : (s b : ℕ) (bs : List ℕ) (o : Option ℕ) → hex_value b ≡ o → run (hex start low high) s (b ∷ bs) ≡ Err p → ⊥
    unfolding hex_at
    no_digit s b bs None e h =
        let k : ◌≡◌ {A = Taken ℕ} (Err start) (Err p) = rw e at h in
        late (sym (err_is {A = ℕ × List ℕ} start p k))
    no_digit s b bs (Some v) e h = no_value (ltb v low || ltb high v) (rw e at h)
      where
        no_value : (t : Truth) → ◌≡◌ {A = Taken ℕ} (cond t (Err start) (Ok (v, bs))) (Err p) → ⊥
        no_value true k = late (sym (err_is {A = ℕ × List ℕ} start p k))
        no_value false k = value_is_none (v, bs) p k

    at_end : (s : ℕ) → run (hex start low high) s [] ≡ Err p → p ≡ s
    unfolding hex_at
    at_end s h = omega (arith, err_is {A = ℕ × List ℕ} (s + 0) p h)

    digit_complete : ((s : ℕ) → Fresh true Whatever (hex start low high) s) → (s : ℕ) (bytes : List ℕ) → run (hex start low high) s bytes ≡ Err p → Completes true Whatever (hex start low high) s bytes p
    digit_complete fresh s [] h = at_start true Whatever (hex start low high) s [] p (fresh s) (at_end s h)
    digit_complete fresh s (b ∷ bs) h = absurd (no_digit s b bs (hex_value b) refl h)

    digit_open : ((s : ℕ) → Fresh true Whatever (hex start low high) s) → IsOpen (hex start low high)
    digit_open fresh = record { fresh = fresh; complete = λ s bytes k e. digit_complete fresh s bytes e }

  any_fresh : (s : ℕ) → Fresh true Whatever (hex start 0 15) s
  unfolding hex_at
  any_fresh s = record { text = 48 ∷ []; thing = 0; made = tt; low = refl; clean = λ w l. tt; always = λ w l. refl }

  top_fresh : (t : Truth) (s : ℕ) → Fresh true Whatever (hex start 0 (cond t 11 15)) s
  unfolding hex_at
  top_fresh true s = record { text = 48 ∷ []; thing = 0; made = tt; low = refl; clean = λ w l. tt; always = λ w l. refl }
  top_fresh false s = record { text = 48 ∷ []; thing = 0; made = tt; low = refl; clean = λ w l. tt; always = λ w l. refl }

  d_fresh : (s : ℕ) → Fresh true Whatever (hex start 13 13) s
  unfolding hex_at
  d_fresh s = record { text = 100 ∷ []; thing = 13; made = tt; low = refl; clean = λ w l. tt; always = λ w l. refl }

  c_fresh : (s : ℕ) → Fresh true Whatever (hex start 12 15) s
  unfolding hex_at
  c_fresh s = record { text = 99 ∷ []; thing = 12; made = tt; low = refl; clean = λ w l. tt; always = λ w l. refl }

  any_open : IsOpen (hex start 0 15)
  any_open = digit_open 0 15 any_fresh

  unit_open : (high : ℕ) → IsOpen (λ end bytes. unit_at start end high bytes)
  unfolding unit_at
  unit_open high =
      behind (hex start 0 15) (last_digit start high) (λ end bytes. unit_at start end high bytes) (λ end bytes. refl) (hex_decided start 0 15) any_open (λ c.
      behind (hex start 0 15) (λ d end bytes. Ok (256 * high + 16 * c + d, bytes)) (last_digit start high c) (λ end bytes. refl) (hex_decided start 0 15) any_open (λ d. gives (256 * high + 16 * c + d)))

  -- ---- the two halves of a character

  slash_fresh : (s : ℕ) → Fresh true Whatever (slash_u start) s
  unfolding word_at
  slash_fresh s = record { text = 92 ∷ 117 ∷ []; thing = tt; made = tt; low = refl; clean = λ w l. tt; always = λ w l. refl }

  no_more : (r : Result (List ℕ) ℕ) → alone r ≡ Err p → r ≡ Err start → ⊥
  no_more r h e = late (sym (err_is {A = Unit {0} × List ℕ} start p (sym (ap alone e) ∙ h)))

  u_fails : (s b : ℕ) (bs : List ℕ) → alone (word_at (117 ∷ []) start (s + length (92 ∷ b ∷ bs)) (b ∷ bs)) ≡ Err p → ⊥
  unfolding word_at
  u_fails s b bs h =
      elim (cases_Bool (eqb b 117)) [
        | inl e ↦ let k : ◌≡◌ {A = Taken (Unit {0})} (Ok (tt, bs)) (Err p) = rw e at h in value_is_none (tt, bs) p k
        | inr e ↦ let k : ◌≡◌ {A = Taken (Unit {0})} (Err start) (Err p) = rw e at h in late (sym (err_is {A = Unit {0} × List ℕ} start p k))
      ]

  slash_complete : (s : ℕ) (bytes : List ℕ) → run (slash_u start) s bytes ≡ Err p → Completes true Whatever (slash_u start) s bytes p
  unfolding word_at
  slash_complete s [] h = at_start true Whatever (slash_u start) s [] p (slash_fresh s) (omega (arith, err_is {A = Unit {0} × List ℕ} (s + 0) p h))
  slash_complete s (b ∷ []) h =
      elim (cases_Bool (eqb b 92)) [
        | inl e ↦
            let k : ◌≡◌ {A = Taken (Unit {0})} (Err (s + length (b ∷ []))) (Err p) = rw e at h in
            let is : b ≡ 92 = eqb-true b 92 e in
            record {
              front = b ∷ [];
              rest = [];
              more = 117 ∷ [];
              thing = tt;
              here = refl;
              at = sym (err_is {A = Unit {0} × List ℕ} (s + length (b ∷ [])) p k);
              made = tt;
              low = refl;
              clean = λ n w l. tt;
              always = λ w l. rw e refl;
            }
        | inr e ↦ let k : ◌≡◌ {A = Taken (Unit {0})} (Err start) (Err p) = rw e at h in absurd (late (sym (err_is {A = Unit {0} × List ℕ} start p k)))
      ]
  slash_complete s (b ∷ c ∷ bs) h =
      elim (cases_Bool (eqb b 92)) [
        | inl e ↦
            let k : alone (word_at (117 ∷ []) start (s + length (b ∷ c ∷ bs)) (c ∷ bs)) ≡ Err p = rw e at h in
            absurd (u_fails s c bs k)
        | inr e ↦ let k : ◌≡◌ {A = Taken (Unit {0})} (Err start) (Err p) = rw e at h in absurd (late (sym (err_is {A = Unit {0} × List ℕ} start p k)))
      ]

  slash_open : IsOpen (slash_u start)
  slash_open = record { fresh = slash_fresh; complete = λ s bytes k e. slash_complete s bytes e }

  low_open : (unit : ℕ) → IsOpen (λ end bytes. low_at start end unit bytes)
  unfolding low_at
  low_open unit =
      behind (slash_u start) (λ x. low_first start unit) (λ end bytes. low_at start end unit bytes) (λ end bytes. alone_then (word_at (92 ∷ 117 ∷ []) start end bytes) (λ rest. low_first start unit end rest)) (slash_decided start) slash_open (λ x.
      behind (hex start 13 13) (low_second start unit) (low_first start unit) (λ end bytes. refl) (hex_decided start 13 13) (digit_open 13 13 d_fresh) (λ a.
      behind (hex start 12 15) (λ b. low_unit start unit (16 * a + b)) (low_second start unit a) (λ end bytes. refl) (hex_decided start 12 15) (digit_open 12 15 c_fresh) (λ b.
      behind (λ end bytes. unit_at start end (16 * a + b) bytes) (λ low end bytes. Ok (encode_utf8 (65536 + 1024 * (unit - 55296) + (low - 56320)), bytes)) (low_unit start unit (16 * a + b)) (λ end bytes. refl) (unit_decided start (16 * a + b)) (unit_open (16 * a + b))
      (λ low. gives (encode_utf8 (65536 + 1024 * (unit - 55296) + (low - 56320)))))))

  either_open : (unit : ℕ) (t : Truth) → IsOpen (λ end bytes. cond t (Ok (encode_utf8 unit, bytes)) (low_at start end unit bytes))
  either_open unit true = gives (encode_utf8 unit)
  either_open unit false = low_open unit

  unicode_open : IsOpen (λ end bytes. unicode_at start end bytes)
  unfolding unicode_at
  unicode_open =
      behind (hex start 0 15) (second start) (λ end bytes. unicode_at start end bytes) (λ end bytes. refl) (hex_decided start 0 15) any_open (λ a.
      behind (hex start 0 (cond (eqb a 13) 11 15)) (λ b. third start (16 * a + b)) (second start a) (λ end bytes. refl) (hex_decided start 0 (cond (eqb a 13) 11 15)) (digit_open 0 (cond (eqb a 13) 11 15) (top_fresh (eqb a 13))) (λ b.
      behind (λ end bytes. unit_at start end (16 * a + b) bytes) (character start) (third start (16 * a + b)) (λ end bytes. refl) (unit_decided start (16 * a + b)) (unit_open (16 * a + b)) (λ unit. either_open unit (ltb unit 55296 || ltb 57343 unit))))

  -- ---- escapes

  abbrev escape : Step (List ℕ)
  escape end bytes = escape_at start end bytes

  escape_fresh : (s : ℕ) → Fresh true Whatever escape s
  unfolding escape_at
  escape_fresh s = record { text = 110 ∷ []; thing = 10 ∷ []; made = tt; low = refl; clean = λ w l. tt; always = λ w l. refl }

  no_letter : (bs : List ℕ) (o : Option ℕ) → letter start o bs ≡ Err p → ⊥
  no_letter bs None h = late (sym (err_is {A = List ℕ × List ℕ} start p h))
  no_letter bs (Some m) h = value_is_none (m ∷ [], bs) p h

  u_behind : (s : ℕ) (bytes : List ℕ) → run escape s (117 ∷ bytes) ≡ run (λ end bs. unicode_at start end bs) (suc s) bytes
  unfolding escape_at
  u_behind s bytes = ap (λ (n : ℕ). unicode_at start n bytes) (omega arith)

  escape_complete : (s : ℕ) (bytes : List ℕ) → run escape s bytes ≡ Err p → Completes true Whatever escape s bytes p
  unfolding escape_at
  escape_complete s [] h = at_start true Whatever escape s [] p (escape_fresh s) (omega (arith, err_is {A = List ℕ × List ℕ} (s + 0) p h))
  escape_complete s (b ∷ bs) h =
      elim (cases_Bool (eqb b 117)) [
        | inl e ↦
            let u = unicode_open in
            let is : b ≡ 117 = eqb-true b 117 e in
            let k : run escape s (117 ∷ bs) ≡ Err p = subst (λ (n : ℕ). run escape s (n ∷ bs) ≡ Err p) is h in
            subst (λ (n : ℕ). Completes true Whatever escape s (n ∷ bs) p) (sym is) (behind_one true Whatever escape (λ end bytes. unicode_at start end bytes) s 117 bs p (u_behind s) (u.complete (suc s) bs tt (sym (u_behind s bs) ∙ k)))
        | inr e ↦ let k : letter start (meant b) bs ≡ Err p = rw e at h in absurd (no_letter bs (meant b) k)
      ]

  -- ---- pieces

  abbrev piece : ℕ → List ℕ → List ℕ → Taken (List ℕ × Truth)
  piece end done bytes = piece_at start end done bytes

  a_piece : (end : ℕ) (done bs : List ℕ) → piece_at start end done (97 ∷ bs) ≡ Ok ((97 ∷ [], true), bs)
  unfolding piece_at
  a_piece end done bs = refl

  quote_turn : (n end : ℕ) (done bs : List ℕ) → turns piece (suc n) done end (34 ∷ bs) ≡ Ok (done ++ [], bs)
  unfolding steps_at piece_at
  quote_turn n end done bs = refl

  run_extra : (extra : List ℕ) (m end : ℕ) (done w : List ℕ) → AreA extra → length (extra ++ 34 ∷ w) < m → turns piece m done end (extra ++ 34 ∷ w) ≡ Ok (done ++ extra, w)
  run_extra extra zero end done w a lt = absurd (omega arith)
  run_extra [] (suc m) end done w a lt = quote_turn m end done w
  run_extra (b ∷ extra) (suc m) end done w a lt =
      let q = and_parts (eqb b 97) (list_all (λ c. eqb c 97) extra) a in
      let is : b ≡ 97 = eqb-true b 97 q.0 in
      let rest : turns piece m (done ++ 97 ∷ []) end (extra ++ 34 ∷ w) ≡ Ok (done ++ 97 ∷ extra, w) = run_extra extra m end (done ++ 97 ∷ []) w q.1 (omega arith) ∙ ap (λ (l : List ℕ). Ok (l, w)) (append_assoc done (97 ∷ []) extra) in
      let whole : turns piece (suc m) done end (97 ∷ (extra ++ 34 ∷ w)) ≡ Ok (done ++ 97 ∷ extra, w) = stepped piece m done (97 ∷ [], true) end (97 ∷ (extra ++ 34 ∷ w)) (extra ++ 34 ∷ w) (Ok (done ++ 97 ∷ extra, w)) (a_piece end done (extra ++ 34 ∷ w)) rest in
      subst (λ (n : ℕ). turns piece (suc m) done end (n ∷ (extra ++ 34 ∷ w)) ≡ Ok (done ++ n ∷ extra, w)) (sym is) whole

  -- what is added, letters behind it, a closing quote and anything
  abbrev ended : List ℕ → List ℕ → List ℕ → List ℕ
  ended more extra w = more ++ (extra ++ 34 ∷ w)

  record OpenPieces (done : List ℕ) (s : ℕ) (bytes : List ℕ) : Type 0 where
    front : List ℕ
    rest : List ℕ
    more : List ℕ
    text : List ℕ
    here : bytes ≡ front ++ rest
    at : p ≡ s + length front
    low : AreLow more
    always : (extra w : List ℕ) (m : ℕ) → AreA extra → length (front ++ ended more extra w) < m → turns piece m done (s + length (front ++ ended more extra w)) (front ++ ended more extra w) ≡ Ok (done ++ (text ++ extra), w)

  nothing_open : (done : List ℕ) (s : ℕ) → p ≡ s → OpenPieces done s []
  nothing_open done s e = record { front = []; rest = []; more = []; text = []; here = refl; at = omega (arith, e); low = refl; always = λ extra w m a lt. run_extra extra m (s + length (extra ++ 34 ∷ w)) done w a lt }

  back_piece : (end : ℕ) (done bs m rest : List ℕ) → escape_at start end bs ≡ Ok (m, rest) → piece_at start end done (92 ∷ bs) ≡ Ok ((m, true), rest)
  unfolding piece_at
  back_piece end done bs m rest e = rw e refl

  escape_opened : (done : List ℕ) (s : ℕ) (bs : List ℕ) → Completes true Whatever escape (suc s) bs p → OpenPieces done s (92 ∷ bs)
  escape_opened done s bs c = record {
    front = 92 ∷ c.front;
    rest = c.rest;
    more = c.more;
    text = c.thing;
    here = ap (λ (l : List ℕ). 92 ∷ l) c.here;
    at = omega (arith, c.at);
    low = c.low;
    always = λ extra w m a lt. goes extra w m a lt;
  }
    where
      goes : (extra w : List ℕ) (m : ℕ) → AreA extra → length (92 ∷ (c.front ++ ended c.more extra w)) < m → turns piece m done (s + length (92 ∷ (c.front ++ ended c.more extra w))) (92 ∷ (c.front ++ ended c.more extra w)) ≡ Ok (done ++ (c.thing ++ extra), w)
      goes extra w zero a lt = absurd (omega arith)
      goes extra w (suc m) a lt =
          let tail = extra ++ 34 ∷ w in
          let body = c.front ++ (c.more ++ tail) in
          let end = s + length (92 ∷ body) in
          let read : escape_at start end body ≡ Ok (c.thing, tail) = ap (λ (n : ℕ). escape_at start n body) (omega arith) ∙ c.always tail tt in
          let fewer : length tail < m = omega (arith, lt, length-append c.front (c.more ++ tail), length-append c.more tail) in
          stepped piece m done (c.thing, true) end (92 ∷ body) tail (Ok (done ++ (c.thing ++ extra), w)) (back_piece end done body c.thing tail read) (run_extra extra m end (done ++ c.thing) w a fewer ∙ ap (λ (l : List ℕ). Ok (l, w)) (append_assoc done c.thing extra))

  abbrev PieceRead : List ℕ → ℕ → List ℕ → List ℕ → List ℕ → Type 0
  PieceRead done s bytes xs r = Goes true (Piece start) (λ end bs. piece_at start end done bs) s bytes (xs, true) r

  later_opened : (done : List ℕ) (s : ℕ) (bytes xs r : List ℕ) → (a : PieceRead done s bytes xs r) → OpenPieces (done ++ xs) (s + length a.front) r → OpenPieces done s bytes
  later_opened done s bytes xs r a o = record {
    front = a.front ++ o.front;
    rest = o.rest;
    more = o.more;
    text = xs ++ o.text;
    here = a.here ∙ (ap (λ (l : List ℕ). a.front ++ l) o.here ∙ sym (append_assoc a.front o.front o.rest));
    at = omega (arith, o.at, length-append a.front o.front);
    low = o.low;
    always = λ extra w m l lt.
        subst (λ (q : List ℕ). turns piece m done (s + length q) q ≡ Ok (done ++ ((xs ++ o.text) ++ extra), w)) (sym (append_assoc a.front o.front (ended o.more extra w)))
        (goes extra w m l (subst (λ (q : List ℕ). length q < m) (append_assoc a.front o.front (ended o.more extra w)) lt));
  }
    where
      goes : (extra w : List ℕ) (m : ℕ) → AreA extra → length (a.front ++ (o.front ++ ended o.more extra w)) < m
          → turns piece m done (s + length (a.front ++ (o.front ++ ended o.more extra w))) (a.front ++ (o.front ++ ended o.more extra w)) ≡ Ok (done ++ ((xs ++ o.text) ++ extra), w)
      goes extra w zero l lt = absurd (omega arith)
      goes extra w (suc m) l lt =
          let tail = o.front ++ ended o.more extra w in
          let end = s + length (a.front ++ tail) in
          let k = a.kept in
          let fewer : length tail < m = omega (arith, lt, length-append a.front tail, k.0) in
          let regroup : (done ++ xs) ++ (o.text ++ extra) ≡ done ++ ((xs ++ o.text) ++ extra) = simp append_assoc in
          let shift : turns piece m (done ++ xs) end tail ≡ Ok (done ++ ((xs ++ o.text) ++ extra), w) = ap (λ (n : ℕ). turns piece m (done ++ xs) n tail) (behind_length s a.front tail) ∙ (o.always extra w m l fewer ∙ ap (λ (q : List ℕ). Ok (q, w)) regroup) in
          stepped piece m done (xs, true) end (a.front ++ tail) tail (Ok (done ++ ((xs ++ o.text) ++ extra), w)) (a.always tail tt) shift

  -- a piece that is refused is an escape that is cut
  piece_fault : (done : List ℕ) (s b : ℕ) (bs : List ℕ) → run (λ end l. piece_at start end done l) s (b ∷ bs) ≡ Err p → OpenPieces done s (b ∷ bs)
  unfolding piece_at
  piece_fault done s b bs h =
      elim (cases_Bool (eqb b 34)) [
        | inl q ↦ let k : ◌≡◌ {A = Taken (List ℕ × Truth)} (Ok (([], false), bs)) (Err p) = rw q at h in absurd (value_is_none (([], false), bs) p k)
        | inr q ↦
            elim (cases_Bool (eqb b 92)) [
              | inl e ↦
                  let k : (escape_at start (s + length (b ∷ bs)) bs >>= λ x. Ok ((x.0, true), x.1)) ≡ Err p = rw (q, e) at h in
                  let is : b ≡ 92 = eqb-true b 92 e in
                  elim (bind_err (escape_at start (s + length (b ∷ bs)) bs) (λ x. Ok ((x.0, true), x.1)) p k) [
                    | inl f ↦
                        let shift : run escape (suc s) bs ≡ Err p = ap (λ (n : ℕ). escape_at start n bs) (omega arith) ∙ f in
                        subst (λ (n : ℕ). OpenPieces done s (n ∷ bs)) (sym is) (escape_opened done s bs (escape_complete (suc s) bs shift))
                    | inr one ↦ absurd (value_is_none ((one.0.0, true), one.0.1) p one.2)
                  ]
              | inr e ↦
                  elim (cases_Bool (ltb b 32)) [
                    | inl l ↦ let k : ◌≡◌ {A = Taken (List ℕ × Truth)} (Err start) (Err p) = rw (q, e, l) at h in absurd (late (sym (err_is {A = (List ℕ × Truth) × List ℕ} start p k)))
                    | inr l ↦ let k : ◌≡◌ {A = Taken (List ℕ × Truth)} (Ok ((b ∷ [], true), bs)) (Err p) = rw (q, e, l) at h in absurd (value_is_none ((b ∷ [], true), bs) p k)
                  ]
            ]
      ]

  no_piece : (done : List ℕ) (end : ℕ) → piece_at start end done [] ≡ Err end
  unfolding piece_at
  no_piece done end = refl

  next_opened : (n s : ℕ) (done : List ℕ) (bytes xs r : List ℕ) (more : Truth) → length bytes < suc n → ((t : ℕ) (before : List ℕ) (bs : List ℕ) → length bs < n → turns piece n before (t + length bs) bs ≡ Err p → OpenPieces before t bs)
      → Goes true (Piece start) (λ end bs. piece_at start end done bs) s bytes (xs, more) r → turns_behind piece n (s + length bytes) done ((xs, more), r) ≡ Err p → OpenPieces done s bytes
  next_opened n s done bytes xs r false lt ih a e = absurd (value_is_none (done ++ xs, r) p e)
  next_opened n s done bytes xs r true lt ih a e =
      let k = a.kept in
      let shift : turns piece n (done ++ xs) ((s + length a.front) + length r) r ≡ Err p = ap (λ (m : ℕ). turns piece n (done ++ xs) m r) (sym (ap (λ (l : List ℕ). s + length l) a.here ∙ behind_length s a.front r)) ∙ e in
      later_opened done s bytes xs r a (ih (s + length a.front) (done ++ xs) r (omega (arith, lt, ap length a.here, length-append a.front r, k.0)) shift)

  open_pieces : (n s : ℕ) (done bytes : List ℕ) → length bytes < n → turns piece n done (s + length bytes) bytes ≡ Err p → OpenPieces done s bytes
  open_pieces zero s done bytes lt h = absurd (omega arith)
  open_pieces (suc n) s done [] lt h =
      let k : ◌≡◌ {A = Taken (List ℕ)} (Err (s + 0)) (Err p) = sym (first_fails piece n done (s + 0) [] (s + 0) (no_piece done (s + 0))) ∙ h in
      nothing_open done s (omega (arith, err_is {A = List ℕ × List ℕ} (s + 0) p k))
  open_pieces (suc n) s done (b ∷ bs) lt h =
      let end = s + length (b ∷ bs) in
      let d = piece_decided start done s in
      elim (bind_err (piece_at start end done (b ∷ bs)) (turns_behind piece n end done) p (sym (one_turn piece n done end (b ∷ bs)) ∙ h)) [
        | inl k ↦ piece_fault done s b bs k
        | inr one ↦ next_opened n s done (b ∷ bs) one.0.0.0 one.0.1 one.0.0.1 lt (λ t before rest l k. open_pieces n t before rest l k) (d.ok (b ∷ bs) one.0.0 one.0.1 one.1) one.2
      ]

  -- ---- what is read of a text is UTF-8

  low_behind : (front rest : List ℕ) → AreLow front → IsUtf8 (front ++ rest) → IsUtf8 rest
  low_behind [] rest h u = u
  low_behind (b ∷ front) rest h u = let q = and_parts (ltb b 128) (list_all (λ c. ltb c 128) front) h in low_behind front rest q.1 (utf8_split [] b (front ++ rest) (ltb-true b 128 q.0) u).1

  utf8_pieces : (n end : ℕ) (done bytes t rest : List ℕ) → turns piece n done end bytes ≡ Ok (t, rest) → IsUtf8 (done ++ bytes) → IsUtf8 t
  unfolding steps_at piece_at
  utf8_pieces zero end done bytes t rest h u = absurd (fault_is_none (t, rest) end h)
  utf8_pieces (suc n) end done [] t rest h u = absurd (fault_is_none (t, rest) end h)
  utf8_pieces (suc n) end done (b ∷ bs) t rest h u =
      elim (cases_Bool (eqb b 34)) [
        | inl q ↦
            let k : ◌≡◌ {A = Taken (List ℕ)} (Ok (done ++ [], bs)) (Ok (t, rest)) = rw q at h in
            let same = taken_is (done ++ []) t bs rest k in
            subst IsUtf8 (sym (append-nil done) ∙ same.0) (utf8_split done b bs (omega (arith, eqb-true b 34 q)) u).0
        | inr q ↦
            elim (cases_Bool (eqb b 92)) [
              | inl e ↦
                  let k : ((escape_at start end bs >>= λ x. Ok ((x.0, true), x.1)) >>= turns_behind piece n end done) ≡ Ok (t, rest) = rw (q, e) at h in
                  let one = bind_ok (escape_at start end bs >>= λ x. Ok ((x.0, true), x.1)) (turns_behind piece n end done) (t, rest) k in
                  let two = bind_ok (escape_at start end bs) (λ x. Ok ((x.0, true), x.1)) one.0 one.1 in
                  let m = escape_means start end bs two.0.0 two.0.1 two.1 in
                  let parts = utf8_split done b bs (omega (arith, eqb-true b 92 e)) u in
                  let tail : IsUtf8 two.0.1 = low_behind m.front two.0.1 m.low (subst IsUtf8 m.here parts.1) in
                  let next : turns piece n (done ++ two.0.0) end two.0.1 ≡ Ok (t, rest) = ap (turns_behind piece n end done) (ok_is ((two.0.0, true), two.0.1) one.0 two.2) ∙ one.2 in
                  utf8_pieces n end (done ++ two.0.0) two.0.1 t rest next (IsUtf8-append (done ++ two.0.0) two.0.1 (IsUtf8-append done two.0.0 parts.0 m.utf8) tail)
              | inr e ↦
                  elim (cases_Bool (ltb b 32)) [
                    | inl l ↦ let k : ◌≡◌ {A = Taken (List ℕ)} (Err start) (Ok (t, rest)) = rw (q, e, l) at h in absurd (fault_is_none (t, rest) start k)
                    | inr l ↦
                        let k : turns piece n (done ++ b ∷ []) end bs ≡ Ok (t, rest) = rw (q, e, l) at h in
                        utf8_pieces n end (done ++ b ∷ []) bs t rest k (subst IsUtf8 (sym (append_assoc done (b ∷ []) bs)) u)
                  ]
            ]
      ]

  -- ---- the whole string

  pub record OpenString (bytes : List ℕ) : Type 0 where
    pub front : List ℕ
    pub rest : List ℕ
    pub more : List ℕ
    pub text : List ℕ
    pub here : bytes ≡ front ++ rest
    pub at : p ≡ suc start + length front
    pub low : AreLow more
    pub always : (extra w : List ℕ) → AreA extra → run string_at (suc start) (front ++ ended more extra w) ≡ Ok (text ++ extra, w)

  opened_string : (bytes : List ℕ) → IsUtf8 bytes → p ≡ suc start + length bytes → OpenPieces [] (suc start) bytes → OpenString bytes
  opened_string bytes u q o =
      let none : o.rest ≡ [] = no_rest o.rest (omega (arith, q, o.at, ap length o.here, length-append o.front o.rest)) in
      let front_utf8 : IsUtf8 o.front = subst IsUtf8 (o.here ∙ (ap (λ (l : List ℕ). o.front ++ l) none ∙ append-nil o.front)) u in
      record {
        front = o.front;
        rest = o.rest;
        more = o.more;
        text = o.text;
        here = o.here;
        at = o.at;
        low = o.low;
        always = λ extra w a.
            let body = o.front ++ ended o.more extra w in
            let closed = o.front ++ ended o.more extra [] in
            let low : AreLow (ended o.more extra []) = low_append o.more (extra ++ 34 ∷ []) o.low (low_append extra (34 ∷ []) (a_low extra a) refl) in
            let whole : IsUtf8 closed = IsUtf8-append o.front (ended o.more extra []) front_utf8 (low_utf8 (ended o.more extra []) low) in
            let utf8 : is_utf8 (o.text ++ extra) ≡ true = is_utf8-from_IsUtf8 (o.text ++ extra) (utf8_pieces (suc (length closed)) (suc start + length closed) [] closed (o.text ++ extra) [] (o.always extra [] (suc (length closed)) a (omega arith)) whole) in
            string_is start body ∙ (ap (λ (r : Taken (List ℕ)). r >>= λ x. as_text start x.0 x.1) (o.always extra w (suc (length body)) a (omega arith)) ∙ as_text_ok (o.text ++ extra) w utf8);
      }
    where
      no_rest : (l : List ℕ) → length l ≡ 0 → l ≡ []
      no_rest [] e = refl
      no_rest (b ∷ l) e = absurd (omega (arith, e))

      as_text_ok : (t w : List ℕ) → is_utf8 t ≡ true → as_text start t w ≡ Ok (t, w)
      as_text_ok t w h = rw h refl

  text_fault : (t rest : List ℕ) (b : Truth) → is_utf8 t ≡ b → as_text start t rest ≡ Err p → ⊥
  text_fault t rest true h e = let k : ◌≡◌ {A = Taken (List ℕ)} (Ok (t, rest)) (Err p) = rw h at e in value_is_none (t, rest) p k
  text_fault t rest false h e = let k : ◌≡◌ {A = Taken (List ℕ)} (Err start) (Err p) = rw h at e in late (sym (err_is {A = List ℕ × List ℕ} start p k))

  pub open_string : (bytes : List ℕ) → IsUtf8 bytes → run string_at (suc start) bytes ≡ Err p → OpenString bytes
  open_string bytes u e =
      let d = string_decided start in
      let q : p ≡ suc start + length bytes = elim (d.err bytes p e) [ inl k ↦ k | inr a ↦ let t = a.told in absurd (late t.0) ] in
      elim (bind_err (run (pieces start) (suc start) bytes) (λ x. as_text start x.0 x.1) p (sym (string_is start bytes) ∙ e)) [
        | inl k ↦ opened_string bytes u q (open_pieces (suc (length bytes)) (suc start) [] bytes (omega arith) k)
        | inr one ↦ absurd (text_fault one.0.0 one.0.1 (is_utf8 one.0.0) refl one.2)
      ]
