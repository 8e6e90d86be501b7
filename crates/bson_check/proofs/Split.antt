-- Reading fields first and looking for a repeated name after: the same answer.
use Rattle.std.proofs.Common.{◌≡◌, ℕ, ◌-◌, ◌≤◌, Bool, true, false, cond, List, [], ◌∷◌, ◌++◌, length, drop, Result, Ok, Err, refl, sym, ap, subst, ◌∙◌, append_assoc, arith}
use Rattle.std.specs.Prelude.{Option, Some, None}
use Rattle.std.specs.Str.{is_utf8, bytes_eq}
use Rattle.std.proofs.lemmas.Slice.Eq.{bytes_eq-Decides}
use Rattle.std.proofs.lemmas.List.{append-nil}
use Rattle.bson_check.specs.declared.fault.BsonFault.{BsonFault}
use Rattle.bson_check.specs.declared.fault.BsonKind.TheVariants as kinds
use Rattle.bson_check.specs.declared.fault.DecodeFault.TheVariants as errors
use Rattle.bson_value.specs.declared.value.Value.{Value}
use Rattle.containers.specs.Entries.{names_of, IsAbsent, AreDistinct}
use Rattle.bson_check.specs.Reading.{◌>>=◌, Taken, Reader, place, fails, name_at, named, is_type, field_at, fields_at}
use Rattle.bson_check.specs.Passing.{first_name, passed, Path, has, repeat_at, head_at, fault_of}
use Rattle.bson_check.proofs.Loop.{FieldsLeft, field_goes_on, field_ends, fields_done}
use Rattle.bson_check.proofs.Walk.{known_is, not_known, path_push, names_of-push}

abbrev pub found_or : Option ℕ → Bool → ℕ → Option ℕ
found_or (Some q) b p = Some q
found_or None b p = cond b (Some p) None

pub repeat-push : (end : ℕ) (seen ns : List (List ℕ)) (n from mid : List ℕ) → Path ns from mid → repeat_at end seen (ns ++ n ∷ []) from ≡ found_or (repeat_at end seen ns from) (has n (seen ++ ns)) (place end (drop 1 mid))
repeat-push end seen [] n from mid p = rw (append-nil, p) refl
repeat-push end seen (m ∷ ns) n from mid p = go (has m seen) (repeat-push end (seen ++ m ∷ []) ns n (passed from) mid p.2) where
  go : (b : Bool) → repeat_at end (seen ++ m ∷ []) (ns ++ n ∷ []) (passed from) ≡ found_or (repeat_at end (seen ++ m ∷ []) ns (passed from)) (has n ((seen ++ m ∷ []) ++ ns)) (place end (drop 1 mid))
      → cond b (Some (place end (drop 1 from))) (repeat_at end (seen ++ m ∷ []) (ns ++ n ∷ []) (passed from)) ≡ found_or (cond b (Some (place end (drop 1 from))) (repeat_at end (seen ++ m ∷ []) ns (passed from))) (has n (seen ++ m ∷ ns)) (place end (drop 1 mid))
  go true h = refl
  go false h = h ∙ ap (λ (l : List (List ℕ)). found_or (repeat_at end (seen ++ m ∷ []) ns (passed from)) (has n l) (place end (drop 1 mid))) (append_assoc seen (m ∷ []) ns)

abbrev joined : List ℕ → Value × List ℕ → Taken (List ℕ × Value)
joined known v = Ok ((known, v.0), v.1)

module _ (read : Reader) (end : ℕ) (done : List (List ℕ × Value)) (tag : ℕ) (bytes : List ℕ) where
  abbrev behind_name : List ℕ × List ℕ → Taken (List ℕ × Value)
  behind_name h = cond (has h.0 (names_of done)) (fails kinds.Repeat (place end bytes)) (read tag end h.1 >>= joined h.0)

  over : (n : List ℕ × List ℕ) (c : Bool) → (cond c (fails {A = List ℕ} kinds.Repeat (place end bytes)) (Ok n.0) >>= λ known. read tag end n.1 >>= joined known) ≡ cond c (fails kinds.Repeat (place end bytes)) (read tag end n.1 >>= joined n.0)
  over n true = refl
  over n false = refl

  text : (n : List ℕ × List ℕ) (b : Bool) → is_utf8 n.0 ≡ b → (named (place end bytes) done n.0 >>= λ known. read tag end n.1 >>= joined known) ≡ (cond b (Ok n) (fails kinds.Text (place end bytes)) >>= behind_name)
  text n true e = ap (λ (r : Result (List ℕ) BsonFault). r >>= λ known. read tag end n.1 >>= joined known) (known_is (place end bytes) n.0 done (has n.0 (names_of done)) e refl) ∙ over n (has n.0 (names_of done))
  text n false e = ap (λ (r : Result (List ℕ) BsonFault). r >>= λ known. read tag end n.1 >>= joined known) (not_known (place end bytes) n.0 done e)

  form : (b : Bool) (r : Taken (List ℕ)) → cond b (r >>= λ name. named (place end bytes) done name.0 >>= λ known. read tag end name.1 >>= joined known) (fails kinds.Tag (place end bytes - 1))
      ≡ (cond b (r >>= λ n. cond (is_utf8 n.0) (Ok n) (fails kinds.Text (place end bytes))) (fails kinds.Tag (place end bytes - 1)) >>= behind_name)
  form false r = refl
  form true (Err e) = refl
  form true (Ok n) = text n (is_utf8 n.0) refl

  pub field_form : field_at read end done tag bytes ≡ (head_at end tag bytes >>= behind_name)
  unfolding field_at
  field_form = form (is_type tag) (name_at end bytes)

-- reading on behind these fields, where no name came twice; else the answer is known
abbrev pub State : Reader → ℕ → List ℕ → Result (List (List ℕ × Value)) BsonFault → List (List ℕ × Value) → Option ℕ → Type 0
State read end rest total done None = FieldsLeft read end done rest total
State read end rest total done (Some q) = total ≡ fails kinds.Repeat q

-- these fields were read from the body up to here
pub record Split (read : Reader) (end : ℕ) (body rest : List ℕ) (done : List (List ℕ × Value)) (total : Result (List (List ℕ × Value)) BsonFault) : Type 0 where
  pub path : Path (names_of done) body rest
  pub state : State read end rest total done (repeat_at end [] (names_of done) body)

-- the answer behind the search, where the walk met this
abbrev pub answer : {A : Type 0} → Option ℕ → Result A BsonFault → Result A BsonFault
answer (Some q) r = fails kinds.Repeat q
answer None r = r

-- no element was read yet
pub split_starts : (read : Reader) (end : ℕ) (body : List ℕ) (total : Result (List (List ℕ × Value)) BsonFault) → fields_at read (length body) end [] body ≡ total → Split read end body body [] total
split_starts read end body total same = record { path = refl; state = record { turns = length body; enough = omega arith; same = same } }

module _ (read : Reader) (end : ℕ) (body : List ℕ) (done : List (List ℕ × Value)) (total : Result (List (List ℕ × Value)) BsonFault) (tag : ℕ) (bytes rest : List ℕ) (is : rest ≡ tag ∷ bytes) where
  head_state : (f : BsonFault) → head_at end tag bytes ≡ Err f → (o : Option ℕ) → State read end rest total done o → total ≡ answer o (Err f)
  head_state f e (Some q) s = s
  head_state f e None s = field_ends read end done total tag bytes rest (errors.Bad f) is (field_form read end done tag bytes ∙ ap (λ (r : Taken (List ℕ)). r >>= behind_name read end done tag bytes) e) s

  -- the head of an element fails
  pub head_fails : (f : BsonFault) → head_at end tag bytes ≡ Err f → Split read end body rest done total → total ≡ answer (repeat_at end [] (names_of done) body) (Err f)
  head_fails f e s = head_state f e (repeat_at end [] (names_of done) body) s.state

  module _ (h : List ℕ × List ℕ) (head : head_at end tag bytes ≡ Ok h) where
    field_is : (b : Bool) → has h.0 (names_of done) ≡ b → field_at read end done tag bytes ≡ cond b (fails kinds.Repeat (place end bytes)) (read tag end h.1 >>= joined h.0)
    field_is b e = field_form read end done tag bytes ∙ ap (λ (r : Taken (List ℕ)). r >>= behind_name read end done tag bytes) head ∙ ap (λ (c : Bool). cond c (fails kinds.Repeat (place end bytes)) (read tag end h.1 >>= joined h.0)) e

    value_state : (f : BsonFault) → read tag end h.1 ≡ Err f → (o : Option ℕ) (b : Bool) → has h.0 (names_of done) ≡ b → State read end rest total done o → total ≡ answer (found_or o b (place end bytes)) (Err f)
    value_state f e (Some q) b k s = s
    value_state f e None true k s = field_ends read end done total tag bytes rest (errors.Bad (record { kind = kinds.Repeat; at = place end bytes })) is (field_is true k) s
    value_state f e None false k s = field_ends read end done total tag bytes rest (errors.Bad f) is (field_is false k ∙ ap (λ (r : Taken Value). r >>= joined h.0) e) s

    at_rest : place end (drop 1 rest) ≡ place end bytes
    at_rest = ap (λ (l : List ℕ). place end (drop 1 l)) is

    pushed : Path (names_of done) body rest → repeat_at end [] (names_of done ++ h.0 ∷ []) body ≡ found_or (repeat_at end [] (names_of done) body) (has h.0 (names_of done)) (place end bytes)
    pushed path = repeat-push end [] (names_of done) h.0 body rest path ∙ ap (λ (k : ℕ). found_or (repeat_at end [] (names_of done) body) (has h.0 (names_of done)) k) at_rest

    -- its value fails: the name counts
    pub value_fails : (f : BsonFault) → read tag end h.1 ≡ Err f → Split read end body rest done total → total ≡ answer (repeat_at end [] (names_of done ++ h.0 ∷ []) body) (Err f)
    value_fails f e s = value_state f e (repeat_at end [] (names_of done) body) (has h.0 (names_of done)) refl s.state ∙ ap (λ (o : Option ℕ). answer o (Err f)) (sym (pushed s.path))

    on_state : (v : Value) (after : List ℕ) → read tag end h.1 ≡ Ok (v, after) → length after ≤ length bytes → (o : Option ℕ) (b : Bool) → has h.0 (names_of done) ≡ b → State read end rest total done o → State read end after total (done ++ (h.0, v) ∷ []) (found_or o b (place end bytes))
    on_state v after e le (Some q) b k s = s
    on_state v after e le None true k s = field_ends read end done total tag bytes rest (errors.Bad (record { kind = kinds.Repeat; at = place end bytes })) is (field_is true k) s
    on_state v after e le None false k s = field_goes_on read end done total tag bytes rest (h.0, v) after is (field_is false k ∙ ap (λ (r : Taken Value). r >>= joined h.0) e) le s

    -- its value is read
    pub element_passes : (v : Value) (after : List ℕ) → read tag end h.1 ≡ Ok (v, after) → length after ≤ length bytes → first_name (tag ∷ bytes) ≡ h.0 → after ≡ passed (tag ∷ bytes) → Split read end body rest done total → Split read end body after (done ++ (h.0, v) ∷ []) total
    element_passes v after e le n pass s = record {
      path = subst (λ (ns : List (List ℕ)). Path ns body after) (sym (names_of-push done (h.0, v))) (path_push (names_of done) h.0 body rest after s.path (omega (arith, le, ap length is)) (ap first_name is ∙ n) (ap passed is ∙ sym pass));
      state = subst (λ (o : Option ℕ). State read end after total (done ++ (h.0, v) ∷ []) o) (sym (ap (λ (ns : List (List ℕ)). repeat_at end [] ns body) (names_of-push done (h.0, v)) ∙ pushed s.path)) (on_state v after e le (repeat_at end [] (names_of done) body) (has h.0 (names_of done)) refl s.state);
    }

module _ (read : Reader) (end : ℕ) (body : List ℕ) (done : List (List ℕ × Value)) (total : Result (List (List ℕ × Value)) BsonFault) where
  end_state : (rest : List ℕ) → rest ≡ [] → (o : Option ℕ) → State read end rest total done o → total ≡ answer o (Ok done)
  end_state rest is (Some q) s = s
  end_state rest is None s = fields_done read end done total rest is s

  -- no element is left
  pub split_ends : (rest : List ℕ) → rest ≡ [] → Split read end body rest done total → total ≡ answer (repeat_at end [] (names_of done) body) (Ok done)
  split_ends rest is s = end_state rest is (repeat_at end [] (names_of done) body) s.state

pub as_fault : {A : Type 0} (total : Result A BsonFault) (o : Option ℕ) (f g : BsonFault) → total ≡ answer o (Err f) → fault_of o f ≡ g → total ≡ Err g
as_fault total (Some q) f g e k = e ∙ ap (λ (x : BsonFault). Err x) k
as_fault total None f g e k = e ∙ ap (λ (x : BsonFault). Err x) k

pub as_end : {A : Type 0} (total : Result A BsonFault) (x : A) (o r : Option ℕ) → total ≡ answer o (Ok x) → o ≡ r → r ≡ None → total ≡ Ok x
as_end total x o r e k n = e ∙ ap (λ (p : Option ℕ). answer p (Ok x)) (k ∙ n)

pub as_repeat : {A : Type 0} (total : Result A BsonFault) (x : A) (o r : Option ℕ) (q : ℕ) → total ≡ answer o (Ok x) → o ≡ r → r ≡ Some q → total ≡ fails kinds.Repeat q
as_repeat total x o r q e k n = e ∙ ap (λ (p : Option ℕ). answer p (Ok x)) (k ∙ n)

-- where no byte was passed, no name was
none_passed : (ns : List (List ℕ)) (from to : List ℕ) → length to ≡ length from → Path ns from to → ns ≡ []
none_passed [] from to same p = refl
none_passed (n ∷ ns) from to same p = absurd (omega (arith, same, p.0))

-- one name alone doesn't stand twice
pub once_alone : (end : ℕ) (ns : List (List ℕ)) (n body rest : List ℕ) → length rest ≡ length body → Path ns body rest → repeat_at end [] (ns ++ n ∷ []) body ≡ None
once_alone end ns n body rest same path = ap (λ (l : List (List ℕ)). repeat_at end [] (l ++ n ∷ []) body) (none_passed ns body rest same path)

-- ---- names without a repeat are distinct

pub has_first : (n : List ℕ) (seen ms : List (List ℕ)) → has n (seen ++ n ∷ ms) ≡ true
has_first n [] ms = let e : bytes_eq n n ≡ true = (bytes_eq-Decides n n).1 refl in rw e refl
has_first n (x ∷ seen) ms = go (bytes_eq x n) (has_first n seen ms) where
  go : (b : Bool) → has n (seen ++ n ∷ ms) ≡ true → cond b true (has n (seen ++ n ∷ ms)) ≡ true
  go true h = refl
  go false h = h

has_more : (n : List ℕ) (seen ms : List (List ℕ)) → has n seen ≡ true → has n (seen ++ ms) ≡ true
has_more n [] ms h = absurd cc
has_more n (x ∷ seen) ms h = go (bytes_eq x n) h (λ k. has_more n seen ms k) where
  go : (b : Bool) → cond b true (has n seen) ≡ true → (has n seen ≡ true → has n (seen ++ ms) ≡ true) → cond b true (has n (seen ++ ms)) ≡ true
  go true h more = refl
  go false h more = more h

pub no_repeat : (end : ℕ) (seen : List (List ℕ)) (m : List ℕ) (ms : List (List ℕ)) (from : List ℕ) → repeat_at end seen (m ∷ ms) from ≡ None → (has m seen ≡ false) × (repeat_at end (seen ++ m ∷ []) ms (passed from) ≡ None)
no_repeat end seen m ms from e = go (has m seen) e where
  go : (b : Bool) → cond b (Some (place end (drop 1 from))) (repeat_at end (seen ++ m ∷ []) ms (passed from)) ≡ None → (b ≡ false) × (repeat_at end (seen ++ m ∷ []) ms (passed from) ≡ None)
  go true e = absurd cc
  go false e = (refl, e)

absent : (end : ℕ) (n : List ℕ) (seen ns : List (List ℕ)) (from : List ℕ) → has n seen ≡ true → repeat_at end seen ns from ≡ None → IsAbsent n ns
absent end n seen [] from h e = tt
absent end n seen (m ∷ ms) from h e =
    let r = no_repeat end seen m ms from e in
    ((λ p. let q : has m seen ≡ true = ap (λ (x : List ℕ). has x seen) (sym p) ∙ h in let f = r.0 in absurd cc), absent end n (seen ++ m ∷ []) ms (passed from) (has_more n seen (m ∷ []) h) r.1)

distinct_from : (end : ℕ) (seen ns : List (List ℕ)) (from : List ℕ) → repeat_at end seen ns from ≡ None → AreDistinct ns
distinct_from end seen [] from e = tt
distinct_from end seen (n ∷ ns) from e =
    let r = no_repeat end seen n ns from e in
    (absent end n (seen ++ n ∷ []) ns (passed from) (has_first n seen []) r.1, distinct_from end (seen ++ n ∷ []) ns (passed from) r.1)

pub none_twice : (end : ℕ) (ns : List (List ℕ)) (from : List ℕ) → repeat_at end [] ns from ≡ None → AreDistinct ns
none_twice end ns from e = distinct_from end [] ns from e
