-- An array with another value in the place of one of its elements.
use Rattle.std.proofs.Common.{◌≡◌, ℕ, suc, ◌+◌, ◌<◌, ◌^◌, List, [], ◌∷◌, ◌++◌, length, map, refl, sym, ap, subst, ◌∙◌, append_assoc, arith}
use Rattle.std.specs.Prelude.{Contains}
use Rattle.std.specs.Fmt.{decimal}
use Rattle.std.proofs.lemmas.List.{append_cancel_left, length-append, length-map}
use Rattle.bson_value.specs.declared.value.Value.{Value, Value-F, fold-roll-Value, out-Value}
use Rattle.bson_value.specs.declared.value.Value.TheVariants.{Array, rolls-Array}
use Rattle.bson_value.specs.Place.{put_item}
use Rattle.bson_value.specs.Spelling.{Typed, element, framed, items_of, numbered, spelled, spelling, spelling_step, tag_of}
use Rattle.bson_value.specs.WellFormed.{AreBytes}
use Rattle.bson_value.proofs.Runs.{front_bytes, back_bytes}
use Rattle.bson_check.specs.Spells.{type_byte, AreItems, IsArray}
use Rattle.bson_encode.proofs.Grammar.{frame_is, index_no_zero, tag_is}
use Rattle.bson_view.specs.Parts.{Part, body_of, bytes_of, elements_in, part_bytes, part_value, parts_of, SpellsValue}
use Rattle.bson_view.proofs.Bodies.{in_frame}
use Rattle.bson_view.proofs.Parting.{First, bytes_are, items_are, no_parts, parts_on}
use Rattle.bson_spelling.proofs.Fronts.{names_end, value_front}
use Rattle.spliced_documents.proofs.Whole.{body_framed}

tail_of : List ℕ → List ℕ
tail_of [] = []
tail_of (x ∷ xs) = xs

none_there : (before : List Part) (part : Part) (behind : List Part) (b : List ℕ) → b ≡ [] → parts_of b ≡ before ++ part ∷ behind → ⊥
none_there before part behind b s e = omega (arith, ap length (sym (no_parts b (ap length s)) ∙ e), length-append before (part ∷ behind))

-- the first of these elements, and the others
record Ahead (w : Value) (name value others : List ℕ) (q : Part) (qs : List Part) : Type 0 where
  first : record { name = name; tag = type_byte (out-Value w); value = value } ≡ q
  more : parts_of others ≡ qs

ahead_of : (n : ℕ) (b : List ℕ) (w : Value) (ws : List Value) → (s : AreItems (SpellsValue n) b (w ∷ ws)) → (q : Part) (qs : List Part) → parts_of b ≡ q ∷ qs → Ahead w s.0 s.1 s.2 q qs
ahead_of n b w ws s q qs e =
    let first = type_byte (out-Value w) in
    let rest = (s.0 ++ 0 ∷ []) ++ (s.1 ++ s.2) in
    let f : First n first rest (w ∷ ws) = record { name = s.0; value = w; spelling = s.1; others = s.2; more = ws; is = refl; no_zero = s.3; spells = s.4; kind = refl; parts = refl; left = s.5 } in
    let p : Part = record { name = s.0; tag = first; value = s.1 } in
    let both : p ∷ parts_of s.2 ≡ q ∷ qs = sym (parts_on n first rest (w ∷ ws) f) ∙ ap parts_of (sym s.6) ∙ e in
    record { first = ap (head_or p) both; more = ap tails_of both } where
      head_or : Part → List Part → Part
      head_or p [] = p
      head_or p (q ∷ qs) = q

      tails_of : List Part → List Part
      tails_of [] = []
      tails_of (q ∷ qs) = qs

-- where these items are the spelling from this index on, the first of them is named by it
record Numbered (i : ℕ) (w : Value) (ws : List Value) (name value others : List ℕ) : Type 0 where
  named : name ≡ decimal i
  here : value ≡ spelled w
  later : others ≡ numbered (i + 1) (map spelling ws)
  bytes : AreBytes others
  short : i + 1 + length others < 2 ^ 31

numbered_of : (n : ℕ) (b : List ℕ) (w : Value) (ws : List Value) → (s : AreItems (SpellsValue n) b (w ∷ ws)) → (i : ℕ) → b ≡ numbered i (map spelling (w ∷ ws)) → AreBytes b → i + length b < 2 ^ 31 → Numbered i w ws s.0 s.1 s.2
unfolding tail_of
numbered_of n b w ws s i is h small =
    let first = type_byte (out-Value w) in
    let name = s.0 ++ 0 ∷ [] in
    let later = numbered (i + 1) (map spelling ws) in
    let bytes : AreBytes (s.1 ++ s.2) = back_bytes name (s.1 ++ s.2) (back_bytes (first ∷ []) (name ++ (s.1 ++ s.2)) (subst AreBytes s.6 h)) in
    let size : length b ≡ length s.0 + 2 + length (s.1 ++ s.2) = omega (arith, ap length s.6, length-append name (s.1 ++ s.2), length-append s.0 (0 ∷ [])) in
    let lengths : length (s.1 ++ s.2) ≡ length s.1 + length s.2 = length-append s.1 s.2 in
    let inside : s.0 ++ 0 ∷ (s.1 ++ s.2) ≡ decimal i ++ 0 ∷ (spelled w ++ later) =
    sym (append_assoc s.0 (0 ∷ []) (s.1 ++ s.2)) ∙ ap tail_of (sym s.6 ∙ is) ∙ append_assoc (decimal i) (0 ∷ spelled w) later in
    let ends = names_end s.0 (decimal i) (s.1 ++ s.2) (spelled w ++ later) s.3 (index_no_zero i (omega (arith, small))) inside in
    let value : s.1 ≡ spelled w = value_front first s.1 s.2 later w (record { levels = n; kind = refl; spells = s.4 }) (front_bytes s.1 s.2 bytes) (omega (arith, small, size)) ends.rest in
    record {
      named = ends.name;
      here = value;
      later = append_cancel_left s.1 s.2 later (ends.rest ∙ ap (λ (z : List ℕ). z ++ later) (sym value));
      bytes = back_bytes s.1 s.2 bytes;
      short = omega (arith, small, size, lengths);
    }

module _ (n t : ℕ) (new : List ℕ) (v : Value) (spells : SpellsValue n new v) (kind : t ≡ type_byte (out-Value v)) (part : Part) (behind : List Part) where
  abbrev own : List ℕ
  own = element (part.name, (t, new))

  abbrev pub with_new : List Part → List ℕ
  with_new before = bytes_of before ++ (own ++ bytes_of behind)

  new_items : (before : List Part) (b : List ℕ) (vs : List Value) → AreItems (SpellsValue n) b vs → parts_of b ≡ before ++ part ∷ behind → AreItems (SpellsValue n) (with_new before) (put_item vs (length before) v)
  new_items before b [] s e = absurd (none_there before part behind b s e)
  new_items [] b (w ∷ ws) s e =
      let a = ahead_of n b w ws s part behind e in
      let rest = bytes_of behind in
      let others : s.2 ≡ rest = sym (bytes_are n s.2 ws s.5) ∙ ap bytes_of a.more in
      let no_zero = subst (λ (p : Part). Contains p.name 0 → ⊥) a.first s.3 in
      let whole : own ++ rest ≡ type_byte (out-Value v) ∷ ((part.name ++ 0 ∷ []) ++ (new ++ rest)) =
      ap (λ (u : ℕ). u ∷ ((part.name ++ 0 ∷ new) ++ rest)) kind ∙ ap (λ (z : List ℕ). type_byte (out-Value v) ∷ z) (append_assoc part.name (0 ∷ new) rest ∙ sym (append_assoc part.name (0 ∷ []) (new ++ rest))) in
      (part.name, new, rest, no_zero, spells, subst (λ (z : List ℕ). AreItems (SpellsValue n) z ws) others s.5, whole)
  new_items (q ∷ before) b (w ∷ ws) s e =
      let a = ahead_of n b w ws s q (before ++ part ∷ behind) e in
      let later = with_new before in
      let whole : with_new (q ∷ before) ≡ type_byte (out-Value w) ∷ ((s.0 ++ 0 ∷ []) ++ (s.1 ++ later)) =
      append_assoc (part_bytes q) (bytes_of before) (own ++ bytes_of behind) ∙ ap (λ (p : Part). part_bytes p ++ later) (sym a.first) ∙ ap (λ (z : List ℕ). type_byte (out-Value w) ∷ z) (append_assoc (s.0 ++ 0 ∷ []) s.1 later) in
      (s.0, s.1, later, s.3, s.4, new_items before s.2 ws s.5 a.more, whole)

  new_text : (t, new) ≡ spelling v → (before : List Part) (b : List ℕ) (vs : List Value) → AreItems (SpellsValue n) b vs → parts_of b ≡ before ++ part ∷ behind → (i : ℕ) → b ≡ numbered i (map spelling vs) → AreBytes b → i + length b < 2 ^ 31
      → with_new before ≡ numbered i (map spelling (put_item vs (length before) v))
  new_text typed before b [] s e i is h small = absurd (none_there before part behind b s e)
  new_text typed [] b (w ∷ ws) s e i is h small =
      let a = ahead_of n b w ws s part behind e in
      let m = numbered_of n b w ws s i is h small in
      let others : bytes_of behind ≡ numbered (i + 1) (map spelling ws) = ap bytes_of (sym a.more) ∙ bytes_are n s.2 ws s.5 ∙ m.later in
      let named : part.name ≡ decimal i = ap (λ (p : Part). p.name) (sym a.first) ∙ m.named in
      ap (λ (z : List ℕ). own ++ z) others ∙ ap (λ (k : List ℕ). element (k, (t, new)) ++ numbered (i + 1) (map spelling ws)) named ∙ ap (λ (u : Typed). element (decimal i, u) ++ numbered (i + 1) (map spelling ws)) typed
  new_text typed (q ∷ before) b (w ∷ ws) s e i is h small =
      let a = ahead_of n b w ws s q (before ++ part ∷ behind) e in
      let m = numbered_of n b w ws s i is h small in
      let first = type_byte (out-Value w) in
      let later = new_text typed before s.2 ws s.5 a.more (i + 1) m.later m.bytes m.short in
      let element_is : part_bytes q ≡ element (decimal i, spelling w) =
      ap part_bytes (sym a.first) ∙ ap (λ (u : ℕ). u ∷ ((s.0 ++ 0 ∷ []) ++ s.1)) (tag_is w) ∙ ap (λ (z : List ℕ). tag_of w ∷ z) (append_assoc s.0 (0 ∷ []) s.1 ∙ ap (λ (z : List ℕ). z ++ 0 ∷ s.1) m.named ∙ ap (λ (z : List ℕ). decimal i ++ 0 ∷ z) m.here) in
      append_assoc (part_bytes q) (bytes_of before) (own ++ bytes_of behind) ∙ ap (λ (z : List ℕ). part_bytes q ++ z) later ∙ ap (λ (z : List ℕ). z ++ numbered (i + 1) (map spelling (put_item ws (length before) v))) element_is

  -- the array's bytes
  pub array_put : (before : List Part) (b : List ℕ) (vs : List Value) → IsArray (suc n) b vs → elements_in b ≡ before ++ part ∷ behind → length (framed (with_new before)) < 2 ^ 31 → IsArray (suc n) (framed (with_new before)) (put_item vs (length before) v)
  unfolding IsArray elements_in
  array_put before b vs d e small =
      (with_new before, frame_is (with_new before) small, new_items before d.0 vs d.2 (ap parts_of (sym (in_frame b d.0 d.1).body) ∙ e))

  pub array_text : (t, new) ≡ spelling v → (before : List Part) (b : List ℕ) (vs : List Value) → IsArray (suc n) b vs → elements_in b ≡ before ++ part ∷ behind → b ≡ framed (items_of vs) → AreBytes b → length b < 2 ^ 31 → framed (with_new before) ≡ framed (items_of (put_item vs (length before) v))
  unfolding IsArray elements_in
  array_text typed before b vs d e is h small =
      let body = (in_frame b d.0 d.1).body in
      let frame = d.1 in
      let text : d.0 ≡ items_of vs = sym body ∙ ap body_of is ∙ body_framed (items_of vs) in
      let bytes : AreBytes d.0 = back_bytes frame.0 d.0 (front_bytes (frame.0 ++ d.0) (0 ∷ []) (subst AreBytes frame.2 h)) in
      let size : 0 + length d.0 < 2 ^ 31 = omega (arith, small, ap length frame.2, length-append (frame.0 ++ d.0) (0 ∷ []), length-append frame.0 d.0) in
      ap framed (new_text typed before d.0 vs d.2 (ap parts_of (sym body) ∙ e) 0 text bytes size)

-- there are as many elements as values
pub count_is : (n : ℕ) (b : List ℕ) (vs : List Value) → IsArray (suc n) b vs → length (elements_in b) ≡ length vs
unfolding IsArray elements_in
count_is n b vs d =
    let parts = ap parts_of (in_frame b d.0 d.1).body in
    ap length parts ∙ sym (length-map (parts_of d.0) (λ p. part_value p)) ∙ ap length (items_are n d.0 vs d.2)

pub array_spelling : (vs : List Value) → spelling (Array vs) ≡ (4, framed (items_of vs))
array_spelling vs = ap (λ (v : Value). spelling v) (sym (rolls-Array vs)) ∙ fold-roll-Value Typed spelling_step (Value-F.Array vs)
