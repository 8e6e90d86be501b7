-- Where elements stand, and the first one whose name stands before it.
use Rattle.std.proofs.Common.{◌≡◌, ℕ, ◌+◌, ◌-◌, ◌<◌, ◌≤◌, ◌⊎◌, inl, inr, Bool, true, false, cond, List, [], ◌∷◌, ◌++◌, length, drop, refl, sym, ap, subst, ◌∙◌, append_assoc, arith, Contains}
use Rattle.std.specs.Prelude.{Option, Some, None, ◌==◌, ◌||◌}
use Rattle.std.specs.Str.{bytes_eq}
use Rattle.std.specs.List.{position_from}
use Rattle.std.proofs.lemmas.Slice.Eq.{bytes_eq-Decides}
use Rattle.std.proofs.lemmas.List.{drop-drop, length-drop, drop_all}
use Rattle.std.proofs.lemmas.List.Elements.{Contains-append_left, Contains-append_right, Contains-append_cases, Contains-push_cases, Contains-push}
use Rattle.std.proofs.lemmas.Bool.{cases_lt, cases_eq}
use Rattle.bson_check.specs.Reading.{place}
use Rattle.bson_check.specs.Passing.{behind, count_of, past_zero, jump, first_name, passed, Path, has, repeat_at}
use Rattle.bson_check.proofs.Walk.{path_push}
use Rattle.bson_check.specs.Blocks.{IsEnd, name_at, starts, Known, FirstKnown, Way}

-- ---- ends of the body

pub record IsDrop (from rest : List ℕ) : Type 0 where
  pub count : ℕ
  pub is : rest ≡ drop count from

drop_on : (k : ℕ) (from rest : List ℕ) → IsDrop from rest → IsDrop from (drop k rest)
drop_on k from rest d = record { count = d.count + k; is = ap (λ (l : List ℕ). drop k l) d.is ∙ drop-drop k d.count from }

past_zero_on : (from rest : List ℕ) → IsDrop from rest → IsDrop from (past_zero rest)
unfolding past_zero
past_zero_on from rest d = go (position_from (λ b. b == 0) 0 rest) where
  go : (o : Option ℕ) → IsDrop from (behind rest o)
  go None = record { count = length from; is = sym (drop_all (length from) from (omega arith)) }
  go (Some i) = drop_on (i + 1) from rest d

choose : (from a b : List ℕ) (c : Bool) → IsDrop from a → IsDrop from b → IsDrop from (cond c a b)
choose from a b true p q = p
choose from a b false p q = q

jump_on : (tag : ℕ) (from rest : List ℕ) → IsDrop from rest → IsDrop from (jump tag rest)
unfolding jump
jump_on tag from rest d =
    choose from _ _ (tag == 1 || tag == 9 || tag == 17 || tag == 18) (drop_on 8 from rest d)
    (choose from _ _ (tag == 2 || tag == 13 || tag == 14) (drop_on (count_of rest + 4) from rest d)
    (choose from _ _ (tag == 3 || tag == 4 || tag == 15) (drop_on (count_of rest) from rest d)
    (choose from _ _ (tag == 5) (drop_on (count_of rest + 5) from rest d)
    (choose from _ _ (tag == 7) (drop_on 12 from rest d)
    (choose from _ _ (tag == 8) (drop_on 1 from rest d)
    (choose from _ _ (tag == 11) (past_zero_on from (past_zero rest) (past_zero_on from rest d))
    (choose from _ _ (tag == 12) (drop_on 12 from (drop (count_of rest + 4) rest) (drop_on (count_of rest + 4) from rest d))
    (choose from _ _ (tag == 16) (drop_on 4 from rest d)
    (choose from _ _ (tag == 19) (drop_on 16 from rest d) d)))))))))

passed_on : (body rest : List ℕ) → IsDrop body rest → IsDrop body (passed rest)
passed_on body [] d = d
passed_on body (tag ∷ bytes) d = jump_on tag body (past_zero bytes) (past_zero_on body bytes (drop_on 1 body (tag ∷ bytes) d))

end_of_drop : (body rest : List ℕ) → IsDrop body rest → IsEnd body rest
end_of_drop body rest d = d.is ∙ go (ap length d.is ∙ length-drop d.count body) (cases_lt (length body) d.count) where
  go : length rest ≡ length body - d.count → (length body < d.count) ⊎ (d.count ≤ length body) → drop d.count body ≡ drop (length body - length rest) body
  go l (inl past) = drop_all d.count body (omega arith) ∙ sym (drop_all (length body - length rest) body (omega arith))
  go l (inr within) = ap (λ (n : ℕ). drop n body) (omega arith)

pub end_on : (body rest : List ℕ) → IsEnd body rest → IsEnd body (passed rest)
end_on body rest e = end_of_drop body (passed rest) (passed_on body rest (record { count = length body - length rest; is = e }))

pub end_itself : (body : List ℕ) → IsEnd body body
end_itself body = let z : length body - length body ≡ 0 = omega arith in rw z refl

-- the name of the first element, by its place
pub name_here : (body rest : List ℕ) → IsEnd body rest → name_at body (length rest) ≡ first_name rest
unfolding name_at
name_here body rest e = ap first_name (sym e)

-- ---- on the way

abbrev pub way_start : (ns : List (List ℕ)) (from to : List ℕ) → Path ns from to → Way ns from from to
way_start ns from to p = record { gone = []; left = ns; so_far = refl; path = p; all = refl }

-- one element on
pub way_on : (ns : List (List ℕ)) (from rest next to : List ℕ) → length to < length rest → passed rest ≡ next → length next < length rest → (w : Way ns from rest to) → (v : Way ns from next to) × (v.gone ≡ w.gone ++ first_name rest ∷ [])
way_on ns from rest next to lt is less w = go w.left w.path w.all where
  go : (ms : List (List ℕ)) → Path ms rest to → ns ≡ w.gone ++ ms → (v : Way ns from next to) × (v.gone ≡ w.gone ++ first_name rest ∷ [])
  go [] p all = absurd (omega (arith, lt, ap length p))
  go (m ∷ ms) p all = (
    record {
      gone = w.gone ++ first_name rest ∷ [];
      left = ms;
      so_far = path_push w.gone (first_name rest) from rest next w.so_far less refl is;
      path = subst (λ (r : List ℕ). Path ms r to) is p.2;
      all = all ∙ sym (append_assoc w.gone (m ∷ []) ms) ∙ ap (λ (n : List ℕ). (w.gone ++ n ∷ []) ++ ms) (sym p.1);
    },
    refl,
  )

pub starts-append : (ns ms : List (List ℕ)) (from rest : List ℕ) → Path ns from rest → starts (ns ++ ms) from ≡ starts ns from ++ starts ms rest
starts-append [] ms from rest p = ap (starts ms) p
starts-append (n ∷ ns) ms from rest p = ap (λ (l : List ℕ). length from ∷ l) (starts-append ns ms (passed from) rest p.2)

pub starts-push : (ns : List (List ℕ)) (n from rest : List ℕ) → Path ns from rest → starts (ns ++ n ∷ []) from ≡ starts ns from ++ length rest ∷ []
starts-push ns n from rest p = starts-append ns (n ∷ []) from rest p

path_shortens : (ns : List (List ℕ)) (from to : List ℕ) → Path ns from to → length to ≤ length from
path_shortens [] from to p = omega (arith, ap length p)
path_shortens (n ∷ ns) from to p = omega (arith, p.0)

in_cons : (x y : ℕ) (xs : List ℕ) → Contains (x ∷ xs) y → (x ≡ y) ⊎ Contains xs y
in_cons x y xs c = go (Contains-append_cases (x ∷ []) xs y c) where
  last : Contains [] y ⊎ (x ≡ y) → (x ≡ y) ⊎ Contains xs y
  last (inl n) = absurd (omega (arith, n.1))
  last (inr e) = inl e

  go : Contains (x ∷ []) y ⊎ Contains xs y → (x ≡ y) ⊎ Contains xs y
  go (inl a) = last (Contains-push_cases [] x y a)
  go (inr b) = inr b

pub in_first : (x : ℕ) (xs : List ℕ) → Contains (x ∷ xs) x
in_first x xs = Contains-append_left (x ∷ []) xs x (Contains-push [] x)

in_more : (x y : ℕ) (xs : List ℕ) → Contains xs y → Contains (x ∷ xs) y
in_more x y xs c = Contains-append_right (x ∷ []) xs y c

-- what stands before starts before, and what is left doesn't
pub starts_above : (ns : List (List ℕ)) (from rest : List ℕ) → Path ns from rest → (l : ℕ) → Contains (starts ns from) l → length rest < l
starts_above [] from rest p l c = absurd (omega (arith, c.1))
starts_above (n ∷ ns) from rest p l c = go (starts_above ns (passed from) rest p.2 l) (in_cons (length from) l (starts ns (passed from)) c) where
  go : (Contains (starts ns (passed from)) l → length rest < l) → (length from ≡ l) ⊎ Contains (starts ns (passed from)) l → length rest < l
  go further (inl e) = omega (arith, p.0, e)
  go further (inr more) = further more

passed_shortens : (rest : List ℕ) → length (passed rest) ≤ length rest
passed_shortens rest =
    let d = passed_on rest rest (record { count = 0; is = refl }) in
    omega (arith, ap length d.is, length-drop d.count rest)

passed_falls : (rest : List ℕ) → 0 < length rest → length (passed rest) < length rest
passed_falls [] some = absurd (omega arith)
passed_falls (tag ∷ bytes) some =
    let d = jump_on tag bytes (past_zero bytes) (past_zero_on bytes bytes (record { count = 0; is = refl })) in
    omega (arith, ap length d.is, length-drop d.count bytes)

pub starts_below : (ns : List (List ℕ)) (from rest : List ℕ) → Path ns from rest → (l : ℕ) → Contains (starts ns from) l → l ≤ length from
starts_below [] from rest p l c = absurd (omega (arith, c.1))
starts_below (n ∷ ns) from rest p l c = go (starts_below ns (passed from) rest p.2 l) (in_cons (length from) l (starts ns (passed from)) c) where
  go : (Contains (starts ns (passed from)) l → l ≤ length (passed from)) → (length from ≡ l) ⊎ Contains (starts ns (passed from)) l → l ≤ length from
  go further (inl e) = omega (arith, e)
  go further (inr more) = omega (arith, further more, passed_shortens from)

-- where a name stands
pub has_start : (body n : List ℕ) (ns : List (List ℕ)) (from to : List ℕ) → Path ns from to → IsEnd body from → has n ns ≡ true → (l : ℕ) × Contains (starts ns from) l × (name_at body l ≡ n)
has_start body n [] from to p e h = absurd cc
has_start body n (m ∷ ns) from to p e h = go (bytes_eq m n) refl h (λ k. has_start body n ns (passed from) to p.2 (end_on body from e) k) where
  go : (b : Bool) → bytes_eq m n ≡ b → cond b true (has n ns) ≡ true → (has n ns ≡ true → (l : ℕ) × Contains (starts ns (passed from)) l × (name_at body l ≡ n)) → (l : ℕ) × Contains (length from ∷ starts ns (passed from)) l × (name_at body l ≡ n)
  go true is h more = (length from, in_first (length from) (starts ns (passed from)), name_here body from e ∙ p.1 ∙ (bytes_eq-Decides m n).0 is)
  go false is h more = let r = more h in (r.0, in_more (length from) r.0 (starts ns (passed from)) r.1, r.2)

pub start_has : (body n : List ℕ) (ns : List (List ℕ)) (from to : List ℕ) → Path ns from to → IsEnd body from → (l : ℕ) → Contains (starts ns from) l → name_at body l ≡ n → has n ns ≡ true
start_has body n [] from to p e l c same = absurd (omega (arith, c.1))
start_has body n (m ∷ ns) from to p e l c same = go (bytes_eq m n) refl (in_cons (length from) l (starts ns (passed from)) c) (λ k. start_has body n ns (passed from) to p.2 (end_on body from e) l k same) where
  go : (b : Bool) → bytes_eq m n ≡ b → (length from ≡ l) ⊎ Contains (starts ns (passed from)) l → (Contains (starts ns (passed from)) l → has n ns ≡ true) → cond b true (has n ns) ≡ true
  go true is c more = refl
  go false is (inl at) more =
      let yes = (bytes_eq-Decides m n).1 (sym p.1 ∙ sym (name_here body from e) ∙ ap (name_at body) at ∙ same) in absurd cc
  go false is (inr c) more = more c

path_join : (ns ms : List (List ℕ)) (from mid to : List ℕ) → Path ns from mid → Path ms mid to → Path (ns ++ ms) from to
path_join [] ms from mid to p q = subst (λ (r : List ℕ). Path ms r to) (sym p) q
path_join (n ∷ ns) ms from mid to p q = (omega (arith, p.0, path_shortens ms mid to q), p.1, path_join ns ms (passed from) mid to p.2 q)

starts_on_way : (ns : List (List ℕ)) (from rest to : List ℕ) → (w : Way ns from rest to) → starts ns from ≡ starts w.gone from ++ starts w.left rest
starts_on_way ns from rest to w = ap (λ (ms : List (List ℕ)). starts ms from) w.all ∙ starts-append w.gone w.left from rest w.so_far

pub in_gone : (ns : List (List ℕ)) (from rest to : List ℕ) → (w : Way ns from rest to) → (l : ℕ) → Contains (starts w.gone from) l → Contains (starts ns from) l
in_gone ns from rest to w l c = subst (λ (xs : List ℕ). Contains xs l) (sym (starts_on_way ns from rest to w)) (Contains-append_left (starts w.gone from) (starts w.left rest) l c)

pub in_left : (ns : List (List ℕ)) (from rest to : List ℕ) → (w : Way ns from rest to) → (l : ℕ) → Contains (starts w.left rest) l → Contains (starts ns from) l
in_left ns from rest to w l c = subst (λ (xs : List ℕ). Contains xs l) (sym (starts_on_way ns from rest to w)) (Contains-append_right (starts w.gone from) (starts w.left rest) l c)

pub on_either : (ns : List (List ℕ)) (from rest to : List ℕ) → (w : Way ns from rest to) → (l : ℕ) → Contains (starts ns from) l → Contains (starts w.gone from) l ⊎ Contains (starts w.left rest) l
on_either ns from rest to w l c = Contains-append_cases (starts w.gone from) (starts w.left rest) l (subst (λ (xs : List ℕ). Contains xs l) (starts_on_way ns from rest to w) c)

-- ---- the first element that is known

module _ (body block : List ℕ) (ns : List (List ℕ)) (from rest to : List ℕ) (stop : ℕ) (w : Way ns from rest to) (none : (k : ℕ) → Contains (starts w.gone from) k → Known body block (name_at body k) k → ⊥) where
  not_before : (l : ℕ) → length rest < l → Contains (starts w.gone from) l ⊎ Contains (starts w.left rest) l → Known body block (name_at body l) l → ⊥
  not_before l past (inl c) known = none l c known
  not_before l past (inr c) known = omega (arith, past, starts_below w.left rest to w.path l c)

  pub first_none : length rest ≤ stop → FirstKnown body block (starts ns from) stop stop
  first_none le = record {
    none = λ l c past known. not_before l (omega arith) (on_either ns from rest to w l c) known;
    found = inl refl;
  }

  stands : length to < length rest → (ms : List (List ℕ)) → Path ms rest to → Contains (starts ms rest) (length rest)
  stands some [] p = absurd (omega (arith, some, ap length p))
  stands some (m ∷ ms) p = in_first (length rest) (starts ms (passed rest))

  pub first_here : length to < length rest → Known body block (name_at body (length rest)) (length rest) → FirstKnown body block (starts ns from) stop (length rest)
  first_here some known = record {
    none = λ l c past known. not_before l past (on_either ns from rest to w l c) known;
    found = inr (in_left ns from rest to w (length rest) (stands some w.left w.path), known);
  }

  pub none_on : (next : List ℕ) → length to < length rest → passed rest ≡ next → length next < length rest → (Known body block (name_at body (length rest)) (length rest) → ⊥)
      → (v : Way ns from next to) × ((k : ℕ) → Contains (starts v.gone from) k → Known body block (name_at body k) k → ⊥)
  none_on next some is less new =
      let v = way_on ns from rest next to some is less w in
      (v.0, λ k c known. go k known (Contains-push_cases (starts w.gone from) (length rest) k (subst (λ (xs : List ℕ). Contains xs k) (ap (λ (ms : List (List ℕ)). starts ms from) v.1 ∙ starts-push w.gone (first_name rest) from rest w.so_far) c))) where
        go : (k : ℕ) → Known body block (name_at body k) k → Contains (starts w.gone from) k ⊎ (length rest ≡ k) → ⊥
        go k known (inl c) = none k c known
        go k known (inr e) = new (subst (λ (j : ℕ). Known body block (name_at body j) j) (sym e) known)

-- ---- the blocks

-- what starts here has the name of something before it
pub record Repeats (body places : List ℕ) (here : ℕ) : Type 0 where
  pub stands : Contains places here
  pub before : ℕ
  pub seen : Contains places before
  pub earlier : here < before
  pub same : name_at body before ≡ name_at body here

-- the names up to here were looked for among those behind them, up to the stop, the first repeat so far
pub record Searched (body : List ℕ) (left : ℕ) (ns : List (List ℕ)) (rest to : List ℕ) (stop : ℕ) : Type 0 where
  pub way : Way ns body rest to
  pub apart : (l k : ℕ) → Contains (starts way.gone body) l → Contains (starts ns body) k → k < l → stop < k → name_at body l ≡ name_at body k → ⊥
  pub found : (stop ≡ left) ⊎ Repeats body (starts ns body) stop

pub searched_start : (body : List ℕ) (left : ℕ) (ns : List (List ℕ)) (to : List ℕ) → Path ns body to → Searched body left ns body to left
searched_start body left ns to p = record {
  way = way_start ns body to p;
  apart = λ l k c d lt past same. omega (arith, c.1);
  found = inl refl;
}

module _ (body : List ℕ) (left : ℕ) (ns : List (List ℕ)) (rest after to : List ℕ) (stop first : ℕ) (le : stop ≤ first) (s : Searched body left ns rest to stop) (v : Way s.way.left rest after to)
    (block : List ℕ) (into : (l : ℕ) → Contains (starts v.gone rest) l → Contains block l) (from : (l : ℕ) → Contains block l → Contains (starts v.gone rest) l)
    (f : FirstKnown body block (starts s.way.left rest) stop first) where
  abbrev further : Way ns body after to
  further = record {
    gone = s.way.gone ++ v.gone;
    left = v.left;
    so_far = path_join s.way.gone v.gone body rest after s.way.so_far v.so_far;
    path = v.path;
    all = s.way.all ∙ ap (λ (ms : List (List ℕ)). s.way.gone ++ ms) v.all ∙ sym (append_assoc s.way.gone v.gone v.left);
  }

  block_apart : (l k : ℕ) → Contains (starts v.gone rest) l → k < l → first < k → name_at body l ≡ name_at body k → Contains (starts s.way.gone body) k ⊎ Contains (starts s.way.left rest) k → ⊥
  block_apart l k c lt past same (inl d) = omega (arith, lt, starts_above s.way.gone body rest s.way.so_far k d, starts_below v.gone rest after v.so_far l c)
  block_apart l k c lt past same (inr d) = f.none k d past (l, into l c, lt, same)

  all_apart : (l k : ℕ) → Contains (starts s.way.gone body) l ⊎ Contains (starts v.gone rest) l → Contains (starts ns body) k → k < l → first < k → name_at body l ≡ name_at body k → ⊥
  all_apart l k (inl c) d lt past same = s.apart l k c d lt (omega arith) same
  all_apart l k (inr c) d lt past same = block_apart l k c lt past same (on_either ns body rest to s.way k d)

  next_found : (first ≡ stop) ⊎ (Contains (starts s.way.left rest) first × Known body block (name_at body first) first) → (first ≡ left) ⊎ Repeats body (starts ns body) first
  next_found (inl e) = subst (λ (q : ℕ). (q ≡ left) ⊎ Repeats body (starts ns body) q) (sym e) s.found
  next_found (inr k) = inr (record {
    stands = in_left ns body rest to s.way first k.0;
    before = k.1.0;
    seen = in_left ns body rest to s.way k.1.0 (in_gone s.way.left rest after to v k.1.0 (from k.1.0 k.1.1));
    earlier = k.1.2;
    same = k.1.3;
  })

  pub searched_on : Searched body left ns after to first
  searched_on = record {
    way = further;
    apart = λ l k c d lt past same. all_apart l k (Contains-append_cases (starts s.way.gone body) (starts v.gone rest) l (subst (λ (xs : List ℕ). Contains xs l) (starts-append s.way.gone v.gone body rest s.way.so_far) c)) d lt past same;
    found = next_found f.found;
  }

-- ---- the answer

module _ (end : ℕ) (body : List ℕ) (left : ℕ) (ns : List (List ℕ)) (rest to : List ℕ) (stop : ℕ) (at_end : length to ≡ left) (low : left ≤ stop) (done : length rest ≤ stop) (s : Searched body left ns rest to stop) where
  distinct_by : (l k : ℕ) → Contains (starts s.way.gone body) l ⊎ Contains (starts s.way.left rest) l → Contains (starts ns body) k → k < l → stop < k → name_at body l ≡ name_at body k → ⊥
  distinct_by l k (inl c) d lt past same = s.apart l k c d lt past same
  distinct_by l k (inr c) d lt past same = omega (arith, lt, past, done, starts_below s.way.left rest to s.way.path l c)

  module _ (w : List (List ℕ)) (n : List ℕ) (ms : List (List ℕ)) (from : List ℕ) (so_far : Path w body from) (path : Path (n ∷ ms) from to) (e : IsEnd body from) (all : ns ≡ w ++ n ∷ ms) where
    abbrev here : Way ns body from to
    here = record { gone = w; left = n ∷ ms; so_far = so_far; path = path; all = all }

    stands_here : Contains (starts ns body) (length from)
    stands_here = in_left ns body from to here (length from) (in_first (length from) (starts ms (passed from)))

    new_by : stop < length from → (b : Bool) → has n w ≡ b → has n w ≡ false
    new_by past true h =
        let r = has_start body n w body from so_far (end_itself body) h in
        absurd (distinct_by r.0 (length from) (on_either ns body rest to s.way r.0 (in_gone ns body from to here r.0 r.1)) stands_here (starts_above w body from so_far r.0 r.1) past (r.2 ∙ sym path.1 ∙ sym (name_here body from e)))
    new_by past false h = h

    is_new : stop < length from → has n w ≡ false
    is_new past = new_by past (has n w) refl

    now_all : ns ≡ (w ++ n ∷ []) ++ ms
    now_all = all ∙ sym (append_assoc w (n ∷ []) ms)

    now_path : Path (w ++ n ∷ []) body (passed from)
    now_path = path_join w (n ∷ []) body from (passed from) so_far (passed_falls from (omega (arith, path.0)), path.1, refl)

    now_stop : stop < length from → (stop ≡ left) ⊎ Repeats body (starts ns body) stop → stop ≤ length (passed from)
    now_stop past (inl none) = omega (arith, none, at_end, path_shortens ms (passed from) to path.2)
    now_stop past (inr r) = later (on_either ns body from to here stop r.stands) where
      behind_it : (length from ≡ stop) ⊎ Contains (starts ms (passed from)) stop → stop ≤ length (passed from)
      behind_it (inl e) = absurd (omega (arith, e, past))
      behind_it (inr c) = starts_below ms (passed from) to path.2 stop c

      later : Contains (starts w body) stop ⊎ Contains (length from ∷ starts ms (passed from)) stop → stop ≤ length (passed from)
      later (inl c) = absurd (omega (arith, past, starts_above w body from so_far stop c))
      later (inr c) = behind_it (in_cons (length from) stop (starts ms (passed from)) c)

    was_seen : Repeats body (starts ns body) stop → length from ≡ stop → has n w ≡ true
    was_seen r at = earlier_one (on_either ns body from to here r.before r.seen) where
      earlier_one : Contains (starts w body) r.before ⊎ Contains (length from ∷ starts ms (passed from)) r.before → has n w ≡ true
      earlier_one (inl c) = start_has body n w body from so_far (end_itself body) r.before c (r.same ∙ ap (name_at body) (sym at) ∙ name_here body from e ∙ path.1)
      earlier_one (inr c) = absurd (omega (arith, r.earlier, at, starts_below (n ∷ ms) from to path r.before c))

  none_by : (w ms : List (List ℕ)) (from : List ℕ) → stop ≡ left → Path w body from → Path ms from to → IsEnd body from → ns ≡ w ++ ms → repeat_at end w ms from ≡ None
  none_by w [] from none so_far path e all = refl
  none_by w (n ∷ ms) from none so_far path e all =
      let new = is_new w n ms from so_far path e all (omega (arith, path.0, at_end, none)) in
      rw new (none_by (w ++ n ∷ []) ms (passed from) none (now_path w n ms from so_far path e all) path.2 (end_on body from e) (now_all w n ms from so_far path e all))

  whole_path : Path ns body to
  whole_path = subst (λ (ms : List (List ℕ)). Path ms body to) (sym s.way.all) (path_join s.way.gone s.way.left body rest to s.way.so_far s.way.path)

  pub none_repeats : stop ≡ left → repeat_at end [] ns body ≡ None
  none_repeats none = none_by [] ns body none refl whole_path (end_itself body) refl

  at_stop : (from : List ℕ) → length from ≡ stop → 0 < length from → place end (drop 1 from) ≡ end - (stop - 1)
  at_stop from at some = let l = length-drop 1 from in omega (arith, l, at)

  some_by : (w ms : List (List ℕ)) (from : List ℕ) → Repeats body (starts ns body) stop → left < stop → stop ≤ length from → Path w body from → Path ms from to → IsEnd body from → ns ≡ w ++ ms → repeat_at end w ms from ≡ Some (end - (stop - 1))
  some_by w [] from r some below so_far path e all = absurd (omega (arith, ap length path, at_end, some, below))
  some_by w (n ∷ ms) from r some below so_far path e all = go (cases_eq (length from) stop) (λ past. some_by (w ++ n ∷ []) ms (passed from) r some (now_stop w n ms from so_far path e all past (inr r)) (now_path w n ms from so_far path e all) path.2 (end_on body from e) (now_all w n ms from so_far path e all)) where
    go : (length from ≡ stop) ⊎ (length from ≡ stop → ⊥) → (stop < length from → repeat_at end (w ++ n ∷ []) ms (passed from) ≡ Some (end - (stop - 1))) → cond (has n w) (Some (place end (drop 1 from))) (repeat_at end (w ++ n ∷ []) ms (passed from)) ≡ Some (end - (stop - 1))
    go (inl at) more = rw (was_seen w n ms from so_far path e all r at) (ap (λ (q : ℕ). Some q) (at_stop from at (omega (arith, at, some))))
    go (inr other) more = let past : stop < length from = omega (arith, below, other) in rw (is_new w n ms from so_far path e all past) (more past)

  pub some_repeats : Repeats body (starts ns body) stop → left < stop → repeat_at end [] ns body ≡ Some (end - (stop - 1))
  some_repeats r some = some_by [] ns body r some (starts_below ns body to whole_path stop r.stands) refl whole_path (end_itself body) refl

  some_of : left < stop → (stop ≡ left) ⊎ Repeats body (starts ns body) stop → repeat_at end [] ns body ≡ Some (end - (stop - 1))
  some_of some (inl e) = absurd (omega (arith, e, some))
  some_of some (inr r) = some_repeats r some

  -- the stop is the first repeat
  pub stop_is_first : left < stop → repeat_at end [] ns body ≡ Some (end - (stop - 1))
  stop_is_first some = some_of some s.found
