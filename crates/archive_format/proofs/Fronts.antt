-- A whole item that the grammar allows is met by reading, and what reading goes on by is such an item.
use Rattle.std.proofs.Common.{◌≡◌, inl, inr, ℕ, ◌≤◌, true, false, ltb, List, ◌++◌, length, take, drop, refl, sym, ap, ◌∙◌, arith}
use Rattle.std.specs.Prelude.{None, Some, Option}
use Rattle.std.proofs.lemmas.List.{take_at, take-append-le, take-append-drop, take-take, length-take-le, length-append}
use Rattle.std.proofs.lemmas.Bool.{le-ltb, lt-ltb, cases_Bool, false_from_ne_true, cases_lt}
use Rattle.std.proofs.lemmas.Slice.Eq.{bytes_eq-Decides}
use Rattle.archive_format.specs.Archive.{number}
use Rattle.archive_format.specs.declared.fault.FormatFault.{FormatFault}
use Rattle.archive_format.specs.declared.place.Place.{Place}
use Rattle.archive_format.specs.declared.place.Place.TheVariants.{Front, Header, Metas, Blocks, Inside, Ending}
use Rattle.archive_format.specs.Archive.{Item, magic, terminator, document, Taking, magic_bytes, stop_bytes, text_of, IsItem, Stage, Verdict, goes, bad, step_at, step, is_magic, is_stop, lengthy, early, size_of, item_of, onward, wrong, judged, unless_early, next}

-- four bytes that are a length within the bounds are no terminator and no magic number
number_stop : number stop_bytes ≡ 4294967295
unfolding number
number_stop = refl

number_magic : number magic_bytes ≡ 2174345837
unfolding number
number_magic = refl

no_stop : (word : List ℕ) → number word ≤ 16793600 → is_stop word ≡ false
no_stop word le = false_from_ne_true _ (λ y. let e : word ≡ stop_bytes = (bytes_eq-Decides word stop_bytes).0 y in omega (arith, ap number e ∙ number_stop))

no_magic : (word : List ℕ) → number word ≤ 16793600 → is_magic word ≡ false
no_magic word le = false_from_ne_true _ (λ y. let e : word ≡ magic_bytes = (bytes_eq-Decides word magic_bytes).0 y in omega (arith, ap number e ∙ number_magic))

fit_length : (at n : ℕ) → 5 ≤ n → n ≤ 16793600 → lengthy at n ≡ None
unfolding lengthy
fit_length at n low high =
    let a : ltb n 5 ≡ false = le-ltb _ _ low in
    let b : ltb 2147483647 n ≡ false = le-ltb _ _ (omega arith) in
    let c : ltb 16793600 n ≡ false = le-ltb _ _ high in
    rw (a, b, c) refl

-- a word that is no fault as a length
length_fits : (at n : ℕ) → lengthy at n ≡ None → (5 ≤ n) × (n ≤ 16793600)
unfolding lengthy
length_fits at n h = elim (cases_lt n 5) [
  | inl lt ↦ absurd (let a : ltb n 5 ≡ true = lt-ltb _ _ lt in let k = rw a at h in cc)
  | inr le ↦ elim (cases_lt 16793600 n) [
    | inl lt ↦ absurd (elim (cases_lt 2147483647 n) [
      | inl far ↦ (let a : ltb n 5 ≡ false = le-ltb _ _ le in let b : ltb 2147483647 n ≡ true = lt-ltb _ _ far in let k = rw (a, b) at h in cc)
      | inr near ↦ (let a : ltb n 5 ≡ false = le-ltb _ _ le in let b : ltb 2147483647 n ≡ false = le-ltb _ _ near in let c : ltb 16793600 n ≡ true = lt-ltb _ _ lt in let k = rw (a, b, c) at h in cc)
    ])
    | inr high ↦ (le, high)
  ]
]

-- what an item that is allowed shows first is no fault
early_none : (p : Place) (s : Stage) (at : ℕ) (i : Item) (m : Stage) (one : List Taking) → IsItem i → step_at p s at i ≡ goes m one → early p at (take 4 (text_of i)) ≡ None
unfolding step_at early
early_none Front s at magic m one h e = refl
early_none Front s at terminator m one h e = absurd (cc)
early_none Front s at (document b) m one h e = absurd (cc)
early_none Header s at magic m one h e = absurd (cc)
early_none Header s at terminator m one h e = absurd (cc)
early_none Header s at (document b) m one h e = rw (no_stop (take 4 b) (omega (arith, h.1, h.2)), h.2, fit_length at (length b) h.0 h.1) refl
early_none Metas s at magic m one h e = absurd (cc)
early_none Metas s at terminator m one h e = refl
early_none Metas s at (document b) m one h e = rw (no_stop (take 4 b) (omega (arith, h.1, h.2)), h.2, fit_length at (length b) h.0 h.1) refl
early_none Blocks s at magic m one h e = absurd (cc)
early_none Blocks s at terminator m one h e = absurd (cc)
early_none Blocks s at (document b) m one h e = rw (no_stop (take 4 b) (omega (arith, h.1, h.2)), h.2, fit_length at (length b) h.0 h.1) refl
early_none (Inside k) s at magic m one h e = absurd (cc)
early_none (Inside k) s at terminator m one h e = refl
early_none (Inside k) s at (document b) m one h e = rw (no_stop (take 4 b) (omega (arith, h.1, h.2)), h.2, fit_length at (length b) h.0 h.1) refl
early_none (Ending k said) s at magic m one h e = absurd (cc)
early_none (Ending k said) s at terminator m one h e = refl
early_none (Ending k said) s at (document b) m one h e = absurd (cc)

-- its length and itself are read off its bytes
size_is : (i : Item) → IsItem i → size_of (take 4 (text_of i)) ≡ length (text_of i)
unfolding size_of
size_is magic h = refl
size_is terminator h = refl
size_is (document b) h = rw (no_stop (take 4 b) (omega (arith, h.1, h.2)), no_magic (take 4 b) (omega (arith, h.1, h.2))) h.2

item_is : (i : Item) → IsItem i → item_of (take 4 (text_of i)) (text_of i) ≡ i
unfolding item_of
item_is magic h = refl
item_is terminator h = refl
item_is (document b) h = rw (no_stop (take 4 b) (omega (arith, h.1, h.2)), no_magic (take 4 b) (omega (arith, h.1, h.2))) refl

four : (i : Item) → IsItem i → 4 ≤ length (text_of i)
four magic h = omega arith
four terminator h = omega arith
four (document b) h = omega (arith, h.0)

-- an item that is allowed is met
pub item_met : (s : Stage) (at : ℕ) (i : Item) (rest : List ℕ) (m : Stage) (one : List Taking) → IsItem i → step s at i ≡ goes m one → next s at (text_of i ++ rest) ≡ onward m one (length (text_of i))
unfolding next
item_met s at i rest m one h e =
    let t = text_of i in
    let long : ltb (length (t ++ rest)) 4 ≡ false = le-ltb _ _ (omega (arith, length-append t rest, four i h)) in
    let word : take 4 (t ++ rest) ≡ take 4 t = take-append-le 4 t rest (four i h) in
    let fine : early s.place at (take 4 t) ≡ None = early_none s.place s at i m one h e in
    let size : size_of (take 4 t) ≡ length t = size_is i h in
    let held : ltb (length (t ++ rest)) (length t) ≡ false = le-ltb _ _ (omega (arith, length-append t rest)) in
    let whole : take (length t) (t ++ rest) ≡ t = take_at t rest (length t) refl in
    rw (long, word, fine, size, held, whole, item_is i h, e) refl

-- an item that reading met
pub record Meets (s : Stage) (at : ℕ) (bytes : List ℕ) (m : Stage) (one : List Taking) (n : ℕ) : Type 0 where
  pub item : Item
  pub is : IsItem item
  pub size : length (text_of item) ≡ n
  pub text : bytes ≡ text_of item ++ drop n bytes
  pub steps : step s at item ≡ goes m one

judged_onward : (k : ℕ) (v : Verdict) (m : Stage) (one : List Taking) (n : ℕ) → judged k v ≡ onward m one n → (v ≡ goes m one) × (k ≡ n)
judged_onward k (goes s ts) m one n e = (cc, cc)
judged_onward k (bad f) m one n e = absurd (cc)

unless_onward : (s : Stage) (at : ℕ) (bytes word : List ℕ) (e : Option FormatFault) (m : Stage) (one : List Taking) (n : ℕ) → unless_early s at bytes word e ≡ onward m one n
    → (e ≡ None) × (size_of word ≤ length bytes) × (step s at (item_of word (take (size_of word) bytes)) ≡ goes m one) × (size_of word ≡ n)
unless_onward s at bytes word (Some f) m one n h = absurd (cc)
unless_onward s at bytes word None m one n h = elim (cases_lt (length bytes) (size_of word)) [
  | inl lt ↦ absurd (let a : ltb (length bytes) (size_of word) ≡ true = lt-ltb _ _ lt in let k = rw a at h in cc)
  | inr le ↦ (let a : ltb (length bytes) (size_of word) ≡ false = le-ltb _ _ le in let j = judged_onward (size_of word) (step s at (item_of word (take (size_of word) bytes))) m one n (rw a at h) in (refl, le, j.0, j.1))
]

-- what is no terminator and no magic number, and no fault as it begins, is a document within the bounds
pub early_fits : (p : Place) (at : ℕ) (word : List ℕ) → is_stop word ≡ false → is_magic word ≡ false → early p at word ≡ None → (5 ≤ number word) × (number word ≤ 16793600)
unfolding early
early_fits Front at word a b h = absurd (let k = rw b at h in cc)
early_fits Header at word a b h = length_fits at (number word) (rw a at h)
early_fits Metas at word a b h = length_fits at (number word) (rw a at h)
early_fits Blocks at word a b h = length_fits at (number word) (rw a at h)
early_fits (Inside i) at word a b h = length_fits at (number word) (rw a at h)
early_fits (Ending i said) at word a b h = absurd (let k = rw a at h in cc)

record Shape (word bytes : List ℕ) : Type 0 where
  is : IsItem (item_of word (take (size_of word) bytes))
  text : text_of (item_of word (take (size_of word) bytes)) ≡ take (size_of word) bytes

shape : (p : Place) (at : ℕ) (bytes : List ℕ) → 4 ≤ length bytes → early p at (take 4 bytes) ≡ None → size_of (take 4 bytes) ≤ length bytes → Shape (take 4 bytes) bytes
unfolding item_of size_of
shape p at bytes long none le = let word = take 4 bytes in elim (cases_Bool (is_stop word)) [
  | inl y ↦ (let e : word ≡ stop_bytes = (bytes_eq-Decides word stop_bytes).0 y in record { is = rw y tt; text = rw y (sym e) })
  | inr n ↦ elim (cases_Bool (is_magic word)) [
    | inl y ↦ (let e : word ≡ magic_bytes = (bytes_eq-Decides word magic_bytes).0 y in record { is = rw (n, y) tt; text = rw (n, y) (sym e) })
    | inr nm ↦ (
        let f = early_fits p at word n nm none in
        let le2 : number word ≤ length bytes = rw (n, nm) at le in
        let len : length (take (number word) bytes) ≡ number word = length-take-le (number word) bytes le2 in
        let front : take 4 (take (number word) bytes) ≡ word = take-take 4 (number word) bytes (omega (arith, f.0)) in
        record { is = rw (n, nm) (omega (arith, len, f.0), omega (arith, len, f.1), ap number front ∙ sym len); text = rw (n, nm) refl })
  ]
]

-- what four bytes that are no fault begin, where it is held whole
pub record Begins (word bytes : List ℕ) : Type 0 where
  pub is : IsItem (item_of word (take (size_of word) bytes))
  pub text : bytes ≡ text_of (item_of word (take (size_of word) bytes)) ++ drop (size_of word) bytes

pub begins : (p : Place) (at : ℕ) (bytes : List ℕ) → 4 ≤ length bytes → early p at (take 4 bytes) ≡ None → size_of (take 4 bytes) ≤ length bytes → Begins (take 4 bytes) bytes
begins p at bytes long none le =
    let s = shape p at bytes long none le in
    record { is = s.is; text = sym (ap (λ z. z ++ drop (size_of (take 4 bytes)) bytes) s.text ∙ take-append-drop (size_of (take 4 bytes)) bytes) }

pub item_found : (s : Stage) (at : ℕ) (bytes : List ℕ) (m : Stage) (one : List Taking) (n : ℕ) → next s at bytes ≡ onward m one n → Meets s at bytes m one n
unfolding next
item_found s at bytes m one n h = elim (cases_lt (length bytes) 4) [
  | inl lt ↦ absurd (let a : ltb (length bytes) 4 ≡ true = lt-ltb _ _ lt in let k = rw a at h in cc)
  | inr le ↦ (
      let a : ltb (length bytes) 4 ≡ false = le-ltb _ _ le in
      let word = take 4 bytes in
      let u = unless_onward s at bytes word (early s.place at word) m one n (rw a at h) in
      let sh = shape s.place at bytes le u.0 u.1 in
      let cut : take n bytes ++ drop n bytes ≡ bytes = take-append-drop n bytes in
      let t : text_of (item_of word (take (size_of word) bytes)) ≡ take n bytes = sh.text ∙ ap (λ k. take k bytes) u.3 in
      record {
        item = item_of word (take (size_of word) bytes);
        is = sh.is;
        size = ap length t ∙ length-take-le n bytes (omega (arith, u.1, u.3));
        text = rw t (sym cut);
        steps = u.2;
      })
]

pub met_length : (s : Stage) (at : ℕ) (bytes : List ℕ) (m : Stage) (one : List Taking) (n : ℕ) → Meets s at bytes m one n → (4 ≤ n) × (n ≤ length bytes)
met_length s at bytes m one n met = (omega (arith, four met.item met.is, met.size), omega (arith, met.size, ap length met.text, length-append (text_of met.item) (drop n bytes)))

-- a fault stays where more bytes come
judged_wrong_grows : (s : Stage) (at : ℕ) (bytes more word : List ℕ) (e : Option FormatFault) (f : FormatFault) → unless_early s at bytes word e ≡ wrong f → unless_early s at (bytes ++ more) word e ≡ wrong f
judged_wrong_grows s at bytes more word (Some g) f h = h
judged_wrong_grows s at bytes more word None f h = elim (cases_lt (length bytes) (size_of word)) [
  | inl lt ↦ absurd (let a : ltb (length bytes) (size_of word) ≡ true = lt-ltb _ _ lt in let k = rw a at h in cc)
  | inr le ↦ (
      let a : ltb (length bytes) (size_of word) ≡ false = le-ltb _ _ le in
      let b : ltb (length (bytes ++ more)) (size_of word) ≡ false = le-ltb _ _ (omega (arith, le, length-append bytes more)) in
      let c : take (size_of word) (bytes ++ more) ≡ take (size_of word) bytes = take-append-le (size_of word) bytes more le in
      rw (b, c) (rw a at h))
]

pub wrong_grows : (s : Stage) (at : ℕ) (bytes more : List ℕ) (f : FormatFault) → next s at bytes ≡ wrong f → next s at (bytes ++ more) ≡ wrong f
unfolding next
wrong_grows s at bytes more f h = elim (cases_lt (length bytes) 4) [
  | inl lt ↦ absurd (let a : ltb (length bytes) 4 ≡ true = lt-ltb _ _ lt in let k = rw a at h in cc)
  | inr le ↦ (
      let a : ltb (length bytes) 4 ≡ false = le-ltb _ _ le in
      let b : ltb (length (bytes ++ more)) 4 ≡ false = le-ltb _ _ (omega (arith, le, length-append bytes more)) in
      let word : take 4 (bytes ++ more) ≡ take 4 bytes = take-append-le 4 bytes more le in
      rw (b, word) (judged_wrong_grows s at bytes more (take 4 bytes) (early s.place at (take 4 bytes)) f (rw a at h)))
]

-- what is no terminator and no magic number is at least as long as a document
pub long_enough : (p : Place) (at : ℕ) (word : List ℕ) → early p at word ≡ None → is_stop word ≡ false → is_magic word ≡ false → 5 ≤ size_of word
unfolding size_of
long_enough p at word h a b = let k = early_fits p at word a b h in rw (a, b) k.0
