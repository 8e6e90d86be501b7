-- Diffs of arrays of one touch are read as it.
use Rattle.std.proofs.Common.{◌≡◌, ℕ, zero, suc, ◌+◌, ◌/◌, ◌%◌, ◌<◌, List, [], ◌∷◌, ◌++◌, Bool, true, false, refl, sym, ap, ◌∙◌, subst, arith}
use Rattle.std.proofs.lemmas.Grind.{common_steps}
use Rattle.std.proofs.lemmas.Str.{is_utf8-from_IsUtf8, IsUtf8-from_ascii, IsAscii-append}
use Rattle.std.proofs.lemmas.Str.Ascii.{IsAscii-cons, IsAscii-nil}
use Rattle.std.specs.Str.{IsAscii, is_utf8}
use Rattle.std.specs.Prelude.{◌==◌, ◌^◌, nat_lt, if◌then◌else◌, pos, Option, Some, None, option_map, Result, IfOk, IfSome}
use Rattle.bson_value.specs.declared.value.Value.{Value, Value-F, out-Value}
use Rattle.bson_value.proofs.Digits.{index_of-is}
use Rattle.bson_value.specs.Digits.{digits_in, digits, index_of}
use Rattle.doc_path.specs.declared.parts.Part.{Part}
use Rattle.doc_path.specs.declared.parts.Part.TheVariants.{Index}
use Rattle.doc_path.specs.declared.touches.Touch.{Touch}
use Rattle.doc_path.specs.declared.touches.Touch.TheVariants.{Set, Resize}
use Rattle.entry_model.specs.Edits.{Sets, mapped}
use Rattle.entry_model.specs.Written.{Fields, a_name, l_name}
use Rattle.entry_model.specs.Reads.{Read, then_also, below_part, at_index, length_of, length_read, diff_read}
use Rattle.oplog_entry.proofs.Pushes.{append_nil}
use Rattle.oplog_entry.specs.DiffFields.{at_front, low_index}
use Rattle.entry_reader.specs.Singles.{IsTouchAt, IsOfArray, IsResize, SaysOfArray, index_in, index_behind, int_in, edits_in}
use Rattle.entry_reader.proofs.Singles.{like, if_so, read_below}

-- ---- a name that is no text is no index's

digit_ascii : (d : ℕ) → d < 10 → IsAscii ((48 + d) ∷ [])
digit_ascii d l = IsAscii-cons (48 + d) [] (omega (arith, l)) IsAscii-nil

digits_ascii : (k n : ℕ) → IsAscii (digits_in k n)
unfolding digits_in
digits_ascii zero n = IsAscii-nil
digits_ascii (suc k) n = by (nat_lt n 10) refl (digits_ascii k (n / 10))
  where
    by : (b : Bool) → nat_lt n 10 ≡ b → IsAscii (digits_in k (n / 10)) → IsAscii (if b then (48 + n) ∷ [] else digits_in k (n / 10) ++ ((48 + n % 10) ∷ []))
    by true e h = digit_ascii n (grind (arith, common_steps))
    by false e h = IsAscii-append (digits_in k (n / 10)) ((48 + n % 10) ∷ []) h (digit_ascii (n % 10) (omega arith))

digits_text : (n : ℕ) → is_utf8 (digits n) ≡ true
unfolding digits
digits_text n = is_utf8-from_IsUtf8 (digits_in (suc n) n) (IsUtf8-from_ascii (digits_in (suc n) n) (digits_ascii (suc n) n))

pub no_text : (name : List ℕ) → is_utf8 name ≡ false → None ≡ low_index (index_of name)
no_text name h = by (index_of name) refl
  where
    by : (o : Option ℕ) → index_of name ≡ o → None ≡ low_index o
    by None e = refl
    by (Some n) e = let text : is_utf8 name ≡ true = ap is_utf8 (index_of-is name n e) ∙ digits_text n in absurd cc

-- ---- a name with an index

pub index_name : (c : ℕ) (name : List ℕ) (n : ℕ) → Some n ≡ index_behind c name → (cs : List ℕ) × (name ≡ c ∷ cs) × (Some n ≡ low_index (index_of cs))
index_name c [] n e = absurd cc
index_name c (x ∷ xs) n e = by (x == c) refl e
  where
    by : (b : Bool) → (x == c) ≡ b → Some n ≡ index_in (if b then Some xs else None) → (cs : List ℕ) × (x ∷ xs ≡ c ∷ cs) × (Some n ≡ low_index (index_of cs))
    by true same h = (xs, (λ i. like x c same i ∷ xs), h)
    by false same h = absurd cc

at_low : (o : Option ℕ) (n : ℕ) (go : ℕ → Read) → Some n ≡ low_index o → at_index o go ≡ go n
at_low None n go e = absurd cc
at_low (Some m) n go e = by (nat_lt m (2 ^ 32)) e
  where
    by : (b : Bool) → Some n ≡ (if b then Some m else None) → (if b then go m else None) ≡ go n
    by true h = let same : m ≡ n = cc in ap go same
    by false h = absurd cc

-- ---- an array's diff of one field

u_read : (place : List Part) (m : ℕ) (v x : Value) (cs : List ℕ) → edits_in (Some place) (suc m) ((a_name, v) ∷ ((117 ∷ cs, x) ∷ [])) ≡ then_also (Some []) (then_also (at_index (index_of cs) (λ n. Some (([], Sets (Index n) x false) ∷ []))) (Some []))
u_read place m v x cs = refl

s_read : (place : List Part) (m : ℕ) (v w : Value) (cs : List ℕ) → edits_in (Some place) (suc m) ((a_name, v) ∷ ((115 ∷ cs, w) ∷ [])) ≡ then_also (Some []) (then_also (at_index (index_of cs) (λ n. below_part (Index n) (diff_read m) w)) (Some []))
s_read place m v w cs = refl

l_read : (place : List Part) (m : ℕ) (v w : Value) → edits_in (Some place) (suc m) ((a_name, v) ∷ ((l_name, w) ∷ [])) ≡ then_also (Some []) (then_also (length_read (out-Value w)) (Some []))
l_read place m v w = refl

by_mark : (o : Read) → then_also (Some []) o ≡ o
by_mark None = refl
by_mark (Some es) = refl

module _ (place : List Part) (name : List ℕ) (x : Value) where
  renamed : (j : List ℕ) (t : Touch) → name ≡ j → SaysOfArray place (j, x) t → SaysOfArray place (name, x) t
  renamed j t e h = subst (λ (l : List ℕ). SaysOfArray place (l, x) t) (sym e) h

  pub sets_element : (n : ℕ) → Some n ≡ index_behind 117 name → SaysOfArray place (name, x) (Set (place ++ Index n ∷ []) x false)
  sets_element n e =
      let p = index_name 117 name n e in
      renamed (117 ∷ p.0) (Set (place ++ Index n ∷ []) x false) p.1
      (λ v m. ap (option_map (mapped (at_front place))) (u_read place m v x p.0)
      ∙ (ap (λ (o : Read). option_map (mapped (at_front place)) (then_also (Some []) (then_also o (Some [])))) (at_low (index_of p.0) n (λ i. Some (([], Sets (Index i) x false) ∷ [])) p.2)
      ∙ ap (λ (l : List Part). Some (Set (l ++ Index n ∷ []) x false ∷ [])) (append_nil place)))

  length_is : (v : Value-F Value) (n : ℕ) → int_in v ≡ Some (pos n) → length_read v ≡ length_of (pos n)
  length_is (Value-F.Int z) n h = let same : z ≡ pos n = cc in ap length_of same
  length_is _ n h = absurd cc

  pub sets_length : (t : Touch) → name ≡ l_name → IsResize place (out-Value x) t → SaysOfArray place (name, x) t
  sets_length t e p = renamed l_name t e
      (λ v m. ap (option_map (mapped (at_front place))) (l_read place m v x)
      ∙ (ap (λ (o : Read). option_map (mapped (at_front place)) (then_also (Some []) (then_also o (Some [])))) (length_is (out-Value x) p.0 p.1)
      ∙ (ap (λ (l : List Part). Some (Resize l p.0 ∷ [])) (append_nil place)
      ∙ ap (λ (u : Touch). Some (u ∷ [])) (sym p.2))))

goes_into : (front place : List Part) (name : List ℕ) (v w : Value) (i m : ℕ) (ds : Fields) (t : Touch) → Some i ≡ index_behind 115 name → place ≡ front ++ Index i ∷ [] → out-Value w ≡ Value-F.Object ds → IsTouchAt (Some place) m ds t → IsTouchAt (Some front) (suc m) ((a_name, v) ∷ ((name, w) ∷ [])) t
goes_into front place name v w i m ds t at e is h =
    let p = index_name 115 name i at in
    ap (λ (k : List ℕ). option_map (mapped (at_front front)) (edits_in (Some front) (suc m) ((a_name, v) ∷ ((k, w) ∷ [])))) p.1
    ∙ (ap (option_map (mapped (at_front front))) (s_read front m v w p.0)
    ∙ (ap (λ (o : Read). option_map (mapped (at_front front)) (then_also (Some []) (then_also o (Some [])))) (at_low (index_of p.0) i (λ n. below_part (Index n) (diff_read m) w) p.2)
    ∙ (ap (option_map (mapped (at_front front))) (by_mark (then_also (below_part (Index i) (diff_read m) w) (Some [])))
    ∙ read_below front place (Index i) w m ds t e is h)))

-- ---- where memory lasts

pub if_length : (place : List Part) (name : List ℕ) (x : Value) (o : Option Touch) → name ≡ l_name → IfSome o (λ t. IsResize place (out-Value x) t) → IfSome o (λ t. SaysOfArray place (name, x) t)
if_length place name x (Some t) e h = sets_length place name x t e h
if_length place name x None e h = tt

pub if_says_of : {E : Type 0} (place : List Part) (f : List ℕ × Value) (n : ℕ) (fs : Fields) (r : Result (Option Touch) E) → IsOfArray f fs → IfOk r (λ o. IfSome o (λ t. SaysOfArray place f t)) → IfOk r (λ o. IfSome o (λ t. IsTouchAt (Some place) (suc n) fs t))
if_says_of place f n fs r p h = if_so (λ t. SaysOfArray place f t) (λ t. IsTouchAt (Some place) (suc n) fs t) r (λ t says. subst (λ (l : Fields). IsTouchAt (Some place) (suc n) l t) (sym p.1) (says p.0 n)) h

pub if_into : {E : Type 0} (front place : List Part) (name : List ℕ) (w : Value) (i m : ℕ) (fs ds : Fields) (r : Result (Option Touch) E) → Some i ≡ index_behind 115 name → place ≡ front ++ Index i ∷ [] → out-Value w ≡ Value-F.Object ds → IsOfArray (name, w) fs →
    IfOk r (λ o. IfSome o (λ t. IsTouchAt (Some place) m ds t)) → IfOk r (λ o. IfSome o (λ t. IsTouchAt (Some front) (suc m) fs t))
if_into front place name w i m fs ds r at e is p h = if_so (λ t. IsTouchAt (Some place) m ds t) (λ t. IsTouchAt (Some front) (suc m) fs t) r
    (λ t one. subst (λ (l : Fields). IsTouchAt (Some front) (suc m) l t) (sym p.1) (goes_into front place name p.0 w i m ds t at e is one)) h
