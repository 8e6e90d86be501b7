-- One member after the other.
use Rattle.std.proofs.Common.{◌≡◌, ℕ, ◌<◌, Bool as Truth, true, false, List, [], ◌∷◌, ◌++◌, length, Some, None, Ok, Err, refl, sym, ap, ◌∙◌, subst}
use Rattle.std.specs.Prelude.{Contains, is_some}
use Rattle.std.proofs.lemmas.List.Folds.{list_any-append}
use Rattle.bson_value.specs.declared.value.Value.{Value}
use Rattle.containers.specs.Entries.{names_of, place_of}
use Rattle.json_tree.specs.declared.tree.Tree.{Tree}
use Rattle.json_tree.proofs.Names.{names_of-push}
use Rattle.json_text.specs.Reading.{after_space, string_at, name_at, colon_at, more_at, member_at, closing, list_at, value_at}
use Rattle.json_text.proofs.Loop.{Left, starts, shut, goes_on, ends}
use Rattle.extjson.specs.Values.{Read, ◌>>=◌, value_of, parts_of, fields_value, has_wrapper, without_zero}
use Rattle.extjson.specs.Wrappers.{wrapper_of}
use Rattle.extjson.proofs.ReadBack.{no_zero_is}
use Rattle.plain_json.specs.Reading.{Document, IsValueRead, IsNameRead, IsMemberRead, IsMemberPut, AreFields, AreMembersRead}
use Rattle.plain_json.proofs.NewNames.{no_place}

pub name_read : (before : Document) (bytes name rest : List ℕ) → ((end : ℕ) → string_at end bytes ≡ Ok (name, rest)) → is_some (place_of name before) ≡ false → wrapper_of name ≡ None → (Contains name 0 → ⊥) → IsNameRead (names_of before) (34 ∷ bytes) name rest
unfolding IsNameRead name_at
name_read before bytes name rest h new w z = ((λ end done same. rw (h end, no_place name before done same new) refl), w, z)

member_read : (levels : ℕ) (before : List (List ℕ)) (bytes name r1 r2 r3 rest : List ℕ) (v : Value) (more : Truth) → IsNameRead before bytes name r1 → ((end : ℕ) → colon_at end (after_space r1) ≡ Ok r2) → IsValueRead levels r2 v r3
    → ((end : ℕ) → more_at 125 end (after_space r3) ≡ Ok (more, rest)) → IsMemberRead levels before bytes name v more rest
unfolding IsNameRead IsValueRead IsMemberRead member_at
member_read levels before bytes name r1 r2 r3 rest v more (n, w, z) c (t, f, e) m =
    (t, (λ end done same. rw (n end done same, c end, f end, m end) refl), e, w, z)

-- the member, put behind the fields
pub member_put : (levels : ℕ) (before after : Document) (bytes name r1 r2 r3 rest : List ℕ) (v : Value) (more : Truth) → after ≡ before ++ (name, v) ∷ [] → IsNameRead (names_of before) bytes name r1 → ((end : ℕ) → colon_at end (after_space r1) ≡ Ok r2) → IsValueRead levels r2 v r3
    → ((end : ℕ) → more_at 125 end (after_space r3) ≡ Ok (more, rest)) → IsMemberPut levels bytes before after more rest
unfolding IsMemberPut
member_put levels before after bytes name r1 r2 r3 rest v more is n c h m = (name, v, is, member_read levels (names_of before) bytes name r1 r2 r3 rest v more n c h m)

abbrev field : List ℕ → Value → List ℕ × Value
field n v = (n, v)

push_case : (a : Read (List ℕ)) (r : Read Value) (s : Read Document) (b : Read (List ℕ)) (q : Read Value)
    → (a >>= λ m. r >>= λ w. (s >>= λ fs. b >>= λ n. q >>= λ v. Ok (fs ++ field n v ∷ [])) >>= λ gs. Ok (field m w ∷ gs)) ≡ ((a >>= λ m. r >>= λ w. s >>= λ fs. Ok (field m w ∷ fs)) >>= λ fs. b >>= λ n. q >>= λ v. Ok (fs ++ field n v ∷ []))
push_case (Err e) r s b q = refl
push_case (Ok m) (Err e) s b q = refl
push_case (Ok m) (Ok w) (Err e) b q = refl
push_case (Ok m) (Ok w) (Ok fs) (Err e) q = refl
push_case (Ok m) (Ok w) (Ok fs) (Ok n) (Err e) = refl
push_case (Ok m) (Ok w) (Ok fs) (Ok n) (Ok v) = refl

one_case : (b : Read (List ℕ)) (q : Read Value) → (b >>= λ n. q >>= λ v. Ok [] >>= λ fs. Ok (field n v ∷ fs)) ≡ (b >>= λ n. q >>= λ v. Ok ([] ++ field n v ∷ []))
one_case (Err e) q = refl
one_case (Ok n) (Err e) = refl
one_case (Ok n) (Ok v) = refl

fields_push : (es : List (List ℕ × Tree)) (n : List ℕ) (t : Tree) → fields_value (parts_of (es ++ (n, t) ∷ [])) ≡ (fields_value (parts_of es) >>= λ fs. without_zero n >>= λ m. value_of t >>= λ v. Ok (fs ++ (m, v) ∷ []))
unfolding fields_value
fields_push [] n t = one_case (without_zero n) (value_of t)
fields_push (e ∷ es) n t = rw (fields_push es n t) (push_case (without_zero e.0) (value_of e.1) (fields_value (parts_of es)) (without_zero n) (value_of t))

wrapper_push : (es : List (List ℕ × Tree)) (n : List ℕ) (t : Tree) → has_wrapper es ≡ false → wrapper_of n ≡ None → has_wrapper (es ++ (n, t) ∷ []) ≡ false
unfolding has_wrapper
wrapper_push es n t h w = rw (list_any-append, h, w) refl

fields_more : (es : List (List ℕ × Tree)) (fs : Document) (n : List ℕ) (t : Tree) (v : Value) → AreFields es fs → value_of t ≡ Ok v → wrapper_of n ≡ None → (Contains n 0 → ⊥) → AreFields (es ++ (n, t) ∷ []) (fs ++ (n, v) ∷ [])
fields_more es fs n t v (e, h, names) d w z = (
  fields_push es n t ∙ rw (e, no_zero_is n z, d) refl,
  wrapper_push es n t h w,
  names_of-push es (n, t) ∙ ap (λ (ns : List (List ℕ)). ns ++ n ∷ []) names ∙ sym (names_of-push fs (n, v)),
)

module _ (levels : ℕ) (bytes : List ℕ) where
  -- these fields are read, and the rest is still to be read
  unfoldable pub MembersLeft : Document → List ℕ → Type 0
  MembersLeft fs rest = (es : List (List ℕ × Tree)) × ((end : ℕ) → Left (member_at (value_at levels) end) end es rest (list_at 125 (member_at (value_at levels) end) end bytes)) × AreFields es fs

  pub members_start : closing 125 bytes ≡ None → MembersLeft [] bytes
  unfolding MembersLeft fields_value has_wrapper
  members_start h = ([], (λ end. starts 125 (member_at (value_at levels) end) end bytes h), (refl, refl, refl))

  pub members_shut : (rest : List ℕ) → closing 125 bytes ≡ Some rest → AreMembersRead levels bytes [] rest
  unfolding AreMembersRead fields_value has_wrapper
  members_shut rest h = ([], (λ end. shut 125 (member_at (value_at levels) end) end bytes rest h), (refl, refl, refl))

  pub members_on : (fs gs : Document) (rest : List ℕ) (more : Truth) (after : List ℕ) → IsMemberPut levels rest fs gs more after → more ≡ true → length after < length rest → MembersLeft fs rest → MembersLeft gs after
  unfolding MembersLeft IsMemberPut IsMemberRead
  members_on fs gs rest more after (name, v, is, (t, g, d, w, z)) m lt (es, f, a) =
      (es ++ (name, t) ∷ [], (λ end. goes_on (member_at (value_at levels) end) end es rest _ ((name, t) ∷ []) more after (g end es a.2) m lt (f end)), subst (AreFields (es ++ (name, t) ∷ [])) (sym is) (fields_more es fs name t v a d w z))

  pub members_end : (fs gs : Document) (rest : List ℕ) (more : Truth) (after : List ℕ) → IsMemberPut levels rest fs gs more after → more ≡ false → MembersLeft fs rest → AreMembersRead levels bytes gs after
  unfolding MembersLeft IsMemberPut IsMemberRead AreMembersRead
  members_end fs gs rest more after (name, v, is, (t, g, d, w, z)) m (es, f, a) =
      (es ++ (name, t) ∷ [], (λ end. ends (member_at (value_at levels) end) end es rest _ ((name, t) ∷ []) more after (g end es a.2) m (f end)), subst (AreFields (es ++ (name, t) ∷ [])) (sym is) (fields_more es fs name t v a d w z))
