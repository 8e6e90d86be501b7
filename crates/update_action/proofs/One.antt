-- What the second form writes of one edit, and its reading.
use Rattle.std.proofs.Common.{◌≡◌, ℕ, suc, zero, ◌+◌, ◌<◌, ◌≤◌, ◌^◌, List, [], ◌∷◌, ◌++◌, length, Bool, true, false, refl, sym, ap, ◌∙◌, subst, arith}
use Rattle.std.specs.Prelude.{◌==◌, if◌then◌else◌, Some, None, option_map, nat_lt, ℤ, pos, Ok}
use Rattle.std.proofs.lemmas.Grind.{common_steps}
use Rattle.bson_value.specs.declared.value.Value.{Value, Value-F, Object, fold-roll-Value}
use Rattle.bson_value.specs.declared.value.Value.TheVariants.{Bool as Truth, Int, rolls-Bool, rolls-Int}
use Rattle.bson_value.specs.Levels.{levels_in, levels_of, levels_step}
use Rattle.bson_value.specs.Spelling.{document_text}
use Rattle.bson_value.specs.WellFormed.{IsName, IsWellFormed, IsWellFormedDocument}
use Rattle.bson_value.proofs.Digits.{index_of-digits}
use Rattle.bson_value.proofs.Sizes.{levels-object}
use Rattle.bson_value.proofs.WellFormed.{formed_object, formed_bool, formed_int}
use Rattle.bson_check.specs.Reading.{document_of}
use Rattle.bson_check.proofs.Whole.{spelled_is_read}
use Rattle.bson_encode.proofs.Grammar.{spelling_spells}
use Rattle.doc_path.specs.declared.parts.Part.{Part}
use Rattle.doc_path.specs.declared.parts.Part.TheVariants.{Name as name, Index as index}
use Rattle.doc_path.specs.declared.parts.Form.TheVariants.{V2}
use Rattle.doc_path.specs.Touch.{key_of}
use Rattle.entry_model.specs.Edits.{Step, Sets, Unsets, Resizes, Edit, onto, mapped, group, under}
use Rattle.entry_model.specs.Written.{Fields, a_name, d_name, u_name, i_name, s_of, u_of, below, in_array, diff, diff_name, v_name, spelled_v2}
use Rattle.entry_model.specs.Reads.{Read, all_read, unset_of, set_of, document_field, array_field, has_a, diff_read, outermost, update_read}
use Rattle.entry_model.proofs.Lists.{own_part}
use Rattle.entry_model.proofs.Names.{apart}
use Rattle.entry_model.proofs.Ordered.{object_read, next_read, one_read}
use Rattle.entry_model.proofs.Whole.{second_read}
use Rattle.update_action.specs.Single.{AreWellFormedParts, IsShallow}
use Rattle.update_action.proofs.Texts.{name_letters, name_letter, name_led, name_digits}

-- ---- the edit: its value has few levels, and an index is of no new field and isn't removed

abbrev pub IsStep : Step → Type 0
IsStep (Sets (name k) a fresh) = IsName k × IsShallow a
IsStep (Sets (index n) a fresh) = (n < 2 ^ 32) × (fresh ≡ false) × IsShallow a
IsStep (Unsets (name k)) = IsName k
IsStep (Unsets (index n)) = ⊥
IsStep (Resizes n) = ⊥

-- ---- its diff

abbrev one : List Part → Step → Fields
one [] (Sets (name k) a false) = (u_name, Object ((k, a) ∷ [])) ∷ []
one [] (Sets (name k) a true) = (i_name, Object ((k, a) ∷ [])) ∷ []
one [] (Sets (index n) a fresh) = (a_name, Truth true) ∷ ((u_of (index n), a) ∷ [])
one [] (Unsets (name k)) = (d_name, Object ((k, Truth false) ∷ [])) ∷ []
one [] (Unsets (index n)) = []
one [] (Resizes n) = []
one (name k ∷ ws) s = (s_of (name k), Object (one ws s)) ∷ []
one (index n ∷ ws) s = (a_name, Truth true) ∷ ((s_of (index n), Object (one ws s)) ∷ [])

abbrev alone : List Part → Step → List Edit
alone ws s = (ws, s) ∷ []

-- the edits behind a part, where it is the first one
abbrev behind_if : List Part → Step → Bool → List Edit
behind_if ws s b = onto (if b then Some (ws, s) else None) []

diff_is : (n : ℕ) (ws : List Part) (s : Step) → IsStep s → length ws < n → diff n (alone ws s) ≡ one ws s
diff_is zero ws s h l = absurd (omega (arith, l))
diff_is (suc n) [] (Sets (name k) a false) h l = refl
diff_is (suc n) [] (Sets (name k) a true) h l = refl
diff_is (suc n) [] (Sets (index m) a fresh) h l = ap (λ (b : Bool). (a_name, Truth true) ∷ ((onto (if b then Some (u_of (index m), a) else None) [] ++ []) ++ [])) (own_part (index m))
diff_is (suc n) [] (Unsets (name k)) h l = refl
diff_is (suc n) [] (Unsets (index m)) h l = absurd h
diff_is (suc n) [] (Resizes m) h l = absurd h
diff_is (suc n) (name k ∷ ws) s h l =
    ap (λ (b : Bool). (s_of (name k), Object (diff n (behind_if ws s b))) ∷ []) (own_part (name k))
    ∙ ap (λ (fs : Fields). (s_of (name k), Object fs) ∷ []) (diff_is n ws s h (omega (arith, l)))
diff_is (suc n) (index m ∷ ws) s h l =
    ap (λ (b : Bool). (a_name, Truth true) ∷ (below (λ r. diff n (group r (alone (index m ∷ ws) s))) (index m) (behind_if ws s b) ++ [])) (own_part (index m))
    ∙ (ap (λ (b : Bool). (a_name, Truth true) ∷ ((s_of (index m), Object (diff n (behind_if ws s b))) ∷ [])) (own_part (index m))
    ∙ ap (λ (fs : Fields). (a_name, Truth true) ∷ ((s_of (index m), Object fs) ∷ [])) (diff_is n ws s h (omega (arith, l))))

-- ---- it is read as the edit

in_word : (n : ℕ) → n < 2 ^ 32 → nat_lt n (2 ^ 32) ≡ true
in_word n l = grind (arith, common_steps)

index_read : (rd : Fields → Read) (n : ℕ) (a : Value) → n < 2 ^ 32 → array_field rd (u_of (index n)) a ≡ Some (([], Sets (index n) a false) ∷ [])
index_read rd n a l = rw (index_of-digits n, in_word n l) refl

below_index : (rd : Fields → Read) (n : ℕ) (fs : Fields) (es : List Edit) → n < 2 ^ 32 → rd fs ≡ Some es → array_field rd (s_of (index n)) (Object fs) ≡ Some (mapped (under (index n)) es)
below_index rd n fs es l e = rw (index_of-digits n, in_word n l) (ap (option_map (mapped (under (index n)))) (object_read rd fs ∙ e))

module _ (rd : Fields → Read) where
  abbrev in_list : List ℕ × Value → Read
  in_list f = array_field rd f.0 f.1

  abbrev in_document : List ℕ × Value → Read
  in_document f = document_field rd f.0 f.1

  array_is : (f : List ℕ × Value) (es : List Edit) → in_list f ≡ Some es → all_read in_list ((a_name, Truth true) ∷ (f ∷ [])) ≡ Some es
  array_is f es e = next_read in_list (a_name, Truth true) (f ∷ []) [] es refl (one_read in_list f es e)

  set_is : (k : List ℕ) (a : Value) → all_read in_document ((u_name, Object ((k, a) ∷ [])) ∷ []) ≡ Some (alone [] (Sets (name k) a false))
  set_is k a = one_read in_document (u_name, Object ((k, a) ∷ [])) (alone [] (Sets (name k) a false)) (object_read (λ fs. Some (mapped (set_of false) fs)) ((k, a) ∷ []))

  new_is : (k : List ℕ) (a : Value) → all_read in_document ((i_name, Object ((k, a) ∷ [])) ∷ []) ≡ Some (alone [] (Sets (name k) a true))
  new_is k a = one_read in_document (i_name, Object ((k, a) ∷ [])) (alone [] (Sets (name k) a true)) (object_read (λ fs. Some (mapped (set_of true) fs)) ((k, a) ∷ []))

  gone_is : (k : List ℕ) → all_read in_document ((d_name, Object ((k, Truth false) ∷ [])) ∷ []) ≡ Some (alone [] (Unsets (name k)))
  gone_is k = one_read in_document (d_name, Object ((k, Truth false) ∷ [])) (alone [] (Unsets (name k))) (object_read (λ fs. Some (mapped unset_of fs)) ((k, Truth false) ∷ []))

  below_is : (k : List ℕ) (fs : Fields) (ws : List Part) (s : Step) → rd fs ≡ Some (alone ws s) → all_read in_document ((s_of (name k), Object fs) ∷ []) ≡ Some (alone (name k ∷ ws) s)
  below_is k fs ws s e = one_read in_document (s_of (name k), Object fs) (alone (name k ∷ ws) s) (ap (option_map (mapped (under (name k)))) (object_read rd fs ∙ e))

read_is : (n : ℕ) (ws : List Part) (s : Step) → AreWellFormedParts ws → IsStep s → length ws < n → diff_read n (one ws s) ≡ Some (alone ws s)
read_is zero ws s w h l = absurd (omega (arith, l))
read_is (suc n) [] (Sets (name k) a false) w h l = set_is (diff_read n) k a
read_is (suc n) [] (Sets (name k) a true) w h l = new_is (diff_read n) k a
read_is (suc n) [] (Sets (index m) a fresh) w h l =
    array_is (diff_read n) (u_of (index m), a) (alone [] (Sets (index m) a false)) (index_read (diff_read n) m a h.0)
    ∙ ap (λ (b : Bool). Some (alone [] (Sets (index m) a b))) (sym h.1)
read_is (suc n) [] (Unsets (name k)) w h l = gone_is (diff_read n) k
read_is (suc n) [] (Unsets (index m)) w h l = absurd h
read_is (suc n) [] (Resizes m) w h l = absurd h
read_is (suc n) (name k ∷ ws) s w h l = below_is (diff_read n) k (one ws s) ws s (read_is n ws s w.1 h (omega (arith, l)))
read_is (suc n) (index m ∷ ws) s w h l =
    array_is (diff_read n) (s_of (index m), Object (one ws s)) (alone (index m ∷ ws) s)
    (below_index (diff_read n) m (one ws s) (alone ws s) w.0 (read_is n ws s w.1 h (omega (arith, l))))

no_a : (ws : List Part) (s : Step) → IsStep s → in_array ws s ≡ false → has_a (one ws s) ≡ false
no_a [] (Sets (name k) a false) h e = refl
no_a [] (Sets (name k) a true) h e = refl
no_a [] (Sets (index m) a fresh) h e = cc
no_a [] (Unsets (name k)) h e = refl
no_a [] (Unsets (index m)) h e = absurd h
no_a [] (Resizes m) h e = absurd h
no_a (name k ∷ ws) s h e = refl
no_a (index m ∷ ws) s h e = cc

-- ---- it has few levels

truth_levels : (b : Bool) → levels_in (Truth b) ≡ 0
unfolding levels_in
truth_levels b = ap levels_in (sym (rolls-Bool b)) ∙ fold-roll-Value ℕ levels_step (Value-F.Bool b)

int_levels : (z : ℤ) → levels_in (Int z) ≡ 0
unfolding levels_in
int_levels z = ap levels_in (sym (rolls-Int z)) ∙ fold-roll-Value ℕ levels_step (Value-F.Int z)

one_levels : (ws : List Part) (s : Step) → IsStep s → levels_of (one ws s) ≤ length ws + 102
one_levels [] (Sets (name k) a false) h = omega (arith, h.1.1, levels-object ((k, a) ∷ []))
one_levels [] (Sets (name k) a true) h = omega (arith, h.1.1, levels-object ((k, a) ∷ []))
one_levels [] (Sets (index n) a fresh) h = omega (arith, h.2.1, truth_levels true)
one_levels [] (Unsets (name k)) h = omega (arith, levels-object ((k, Truth false) ∷ []), truth_levels false)
one_levels [] (Unsets (index n)) h = absurd h
one_levels [] (Resizes n) h = absurd h
one_levels (name k ∷ ws) s h = omega (arith, levels-object (one ws s), one_levels ws s h)
one_levels (index n ∷ ws) s h = omega (arith, levels-object (one ws s), one_levels ws s h, truth_levels true)

-- ---- it is well-formed

one_field : (k : List ℕ) (v : Value) → IsName k → IsWellFormed v → IsWellFormedDocument ((k, v) ∷ [])
one_field k v n h = (((tt, tt), (n, tt)), (h, tt))

two_fields : (k j : List ℕ) (v w : Value) → (k ≡ j → ⊥) → IsName k → IsName j → IsWellFormed v → IsWellFormed w → IsWellFormedDocument ((k, v) ∷ ((j, w) ∷ []))
two_fields k j v w d n m h g = ((((d, tt), (tt, tt)), (n, (m, tt))), (h, (g, tt)))

below_letter : (b : ℕ) (k : List ℕ) (v : Value) → 0 < b → b < 128 → IsName k → IsWellFormed v → IsWellFormedDocument ((b ∷ [], Object ((k, v) ∷ [])) ∷ [])
below_letter b k v l g n h = one_field (b ∷ []) (Object ((k, v) ∷ [])) (name_letter b l g) (formed_object ((k, v) ∷ []) (one_field k v n h))

with_a : (b : ℕ) (k : List ℕ) (v : Value) → (97 == b) ≡ false → 0 < b → b < 128 → IsName k → IsWellFormed v → IsWellFormedDocument ((a_name, Truth true) ∷ ((b ∷ k, v) ∷ []))
with_a b k v e l g n h = two_fields a_name (b ∷ k) (Truth true) v (apart 97 b [] k e) (name_letter 97 (omega arith) (omega arith)) (name_led b k l g n) (formed_bool true) h

one_formed : (ws : List Part) (s : Step) → AreWellFormedParts ws → IsStep s → IsWellFormedDocument (one ws s)
one_formed [] (Sets (name k) a false) w h = below_letter 117 k a (omega arith) (omega arith) h.0 h.1.0
one_formed [] (Sets (name k) a true) w h = below_letter 105 k a (omega arith) (omega arith) h.0 h.1.0
one_formed [] (Sets (index n) a fresh) w h = with_a 117 (key_of (index n)) a refl (omega arith) (omega arith) (name_digits n) h.2.0
one_formed [] (Unsets (name k)) w h = below_letter 100 k (Truth false) (omega arith) (omega arith) h (formed_bool false)
one_formed [] (Unsets (index n)) w h = absurd h
one_formed [] (Resizes n) w h = absurd h
one_formed (name k ∷ ws) s w h = one_field (s_of (name k)) (Object (one ws s)) (name_led 115 k (omega arith) (omega arith) w.0) (formed_object (one ws s) (one_formed ws s w.1 h))
one_formed (index n ∷ ws) s w h = with_a 115 (key_of (index n)) (Object (one ws s)) refl (omega arith) (omega arith) (name_digits n) (formed_object (one ws s) (one_formed ws s w.1 h))

-- ---- the whole delta

pub name_v : IsName v_name
name_v = name_letters v_name ((omega arith, omega arith), ((omega arith, omega arith), tt))

pub name_diff : IsName diff_name
name_diff = name_letters diff_name ((omega arith, omega arith), ((omega arith, omega arith), ((omega arith, omega arith), ((omega arith, omega arith), tt))))

abbrev whole : Fields → Fields
whole fs = (v_name, Int (pos 2)) ∷ ((diff_name, Object fs) ∷ [])

whole_formed : (fs : Fields) → IsWellFormedDocument fs → IsWellFormedDocument (whole fs)
whole_formed fs h =
    two_fields v_name diff_name (Int (pos 2)) (Object fs) (apart 36 100 (118 ∷ []) (105 ∷ (102 ∷ (102 ∷ []))) refl) name_v name_diff (formed_int (pos 2) (omega arith)) (formed_object fs h)

whole_levels : (fs : Fields) → levels_of (whole fs) ≡ suc (levels_of fs)
whole_levels fs = omega (arith, levels-object fs, int_levels (pos 2))

outer : (n : ℕ) (fs : Fields) (es : List Edit) → has_a fs ≡ false → diff_read n fs ≡ Some es → outermost n fs ≡ Some es
outer n fs es a e = ap (λ (b : Bool). if b then None else diff_read n fs) a ∙ e

module _ (ws : List Part) (s : Step) (w : AreWellFormedParts ws) (h : IsStep s) (few : length ws < 64) where
  abbrev delta : ℕ → Fields
  delta n = spelled_v2 n (alone ws s)

  delta_is : (n : ℕ) → 64 ≤ n → delta n ≡ whole (one ws s)
  delta_is n l = ap whole (diff_is n ws s h (omega (arith, few, l)))

  pub delta_read : (n max : ℕ) → 167 ≤ n → max < 2 ^ 31 → length (document_text (delta n)) ≤ max → document_of max n (document_text (delta n)) ≡ Ok (delta n)
  delta_read n max l small short =
      let formed : IsWellFormedDocument (delta n) = subst IsWellFormedDocument (sym (delta_is n (omega (arith, l)))) (whole_formed (one ws s) (one_formed ws s w h)) in
      let levels : levels_of (delta n) ≡ suc (levels_of (one ws s)) = ap levels_of (delta_is n (omega (arith, l))) ∙ whole_levels (one ws s) in
      spelled_is_read max n (document_text (delta n)) (delta n)
      (record { spells = spelling_spells (delta n) formed (omega (arith, small, short)); short = short; shallow = omega (arith, l, levels, few, one_levels ws s h) })

  pub edit_read : (n : ℕ) → 64 ≤ n → in_array ws s ≡ false → update_read (suc n) (delta n) ≡ Ok (V2, alone ws s)
  edit_read n l e =
      second_read n (alone ws s) (alone ws s)
      (ap (outermost (suc n)) (diff_is n ws s h (omega (arith, few, l))) ∙ outer (suc n) (one ws s) (alone ws s) (no_a ws s h e) (read_is (suc n) ws s w h (omega (arith, few, l))))
