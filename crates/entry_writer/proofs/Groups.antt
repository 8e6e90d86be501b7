-- Edits by their parts: what a loop from the left gathers.
use Rattle.std.proofs.Common.{◌≡◌, ℕ, zero, suc, ◌+◌, ◌<◌, List, [], ◌∷◌, ◌++◌, length, take, get_or, Bool, true, false, refl, sym, ap, ◌∙◌, arith, inl, inr}
use Rattle.std.specs.Prelude.{Option, Some, None, option_map, if◌then◌else◌, ◌||◌, slice_set}
use Rattle.std.proofs.lemmas.Bool.{cases_Bool}
use Rattle.std.proofs.lemmas.List.{take_more, append-nil}
use Rattle.doc_path.specs.declared.parts.Part.{Part}
use Rattle.entry_model.specs.Edits.{Edit, onto, picked, mapped, same_part, behind, group, once, without}
use Rattle.entry_model.proofs.Lists.{one_part, own_part}
use Rattle.entry_writer.specs.declared.edits.Edit.{Edit as Held}
use Rattle.entry_writer.specs.declared.parts.PartEdits.{PartEdits}
use Rattle.entry_writer.specs.Edits.{edit_in, edits_in, part_by}
use Rattle.entry_writer.specs.Order.{IsOnce}
use Rattle.entry_writer.specs.Groups.{Group, group_in, groups_in, among, is_part, members, parts_by, grouped, put_edit, put_by, joined, place_of}

-- ---- lists

module _ {A B : Type 0} where
  pub picked-append : (h : A → Option B) (xs ys : List A) → picked h (xs ++ ys) ≡ picked h xs ++ picked h ys
  picked-append h [] ys = refl
  picked-append h (x ∷ xs) ys = by (h x) (picked-append h xs ys)
    where
      by : (o : Option B) → picked h (xs ++ ys) ≡ picked h xs ++ picked h ys → onto o (picked h (xs ++ ys)) ≡ onto o (picked h xs) ++ picked h ys
      by None e = e
      by (Some f) e = ap (λ (l : List B). f ∷ l) e

  pub mapped-append : (f : A → B) (xs ys : List A) → mapped f (xs ++ ys) ≡ mapped f xs ++ mapped f ys
  mapped-append f [] ys = refl
  mapped-append f (x ∷ xs) ys = ap (λ (l : List B). f x ∷ l) (mapped-append f xs ys)

  pub length-mapped : (f : A → B) (xs : List A) → length (mapped f xs) ≡ length xs
  length-mapped f [] = refl
  length-mapped f (x ∷ xs) = ap (λ (n : ℕ). suc n) (length-mapped f xs)

  -- a loop's step
  pub mapped_more : (f : A → B) (xs : List A) (i : ℕ) (x : A) → i < length xs → x ≡ get_or xs i x → mapped f (take (i + 1) xs) ≡ mapped f (take i xs) ++ (f x ∷ [])
  mapped_more f xs i x lt e = ap (mapped f) (take_more xs i x lt ∙ ap (λ (y : A). take i xs ++ y ∷ []) (sym e)) ∙ mapped-append f (take i xs) (x ∷ [])

-- ---- parts each once, from the left

unlike : (p r : Part) → same_part p r ≡ false → same_part r p ≡ false
unlike p r n = elim (cases_Bool (same_part r p)) [
  | inl k ↦ let x : same_part p r ≡ true = ap (same_part p) (one_part r p k) ∙ own_part p in let y : true ≡ false = sym x ∙ n in cc
  | inr k ↦ k
]

among_without : (p : Part) (qs : List Part) (r : Part) → same_part p r ≡ false → among r (without p qs) ≡ among r qs
among_without p [] r n = refl
among_without p (q ∷ qs) r n = by (same_part q p) refl (among_without p qs r n)
  where
    by : (a : Bool) → same_part q p ≡ a → among r (without p qs) ≡ among r qs → among r (if a then without p qs else q ∷ without p qs) ≡ (same_part q r || among r qs)
    by true e h = h ∙ ap (λ (b : Bool). b || among r qs) (sym (ap (λ (x : Part). same_part x r) (one_part q p e) ∙ n))
    by false e h = ap (λ (b : Bool). same_part q r || b) h

among_once : (ps : List Part) (r : Part) → among r (once ps) ≡ among r ps
among_once [] r = refl
among_once (p ∷ ps) r = by (same_part p r) refl (among_once ps r)
  where
    by : (a : Bool) → same_part p r ≡ a → among r (once ps) ≡ among r ps → (a || among r (without p (once ps))) ≡ (a || among r ps)
    by true e h = refl
    by false e h = among_without p (once ps) r e ∙ h

without_end : (p : Part) (qs : List Part) (r : Part) → without p (qs ++ (r ∷ [])) ≡ (if same_part r p then without p qs else without p qs ++ (r ∷ []))
without_end p [] r = refl
without_end p (q ∷ qs) r = by (same_part q p) (same_part r p) (without_end p qs r)
  where
    by : (a b : Bool) → without p (qs ++ (r ∷ [])) ≡ (if b then without p qs else without p qs ++ (r ∷ [])) →
        (if a then without p (qs ++ (r ∷ [])) else q ∷ without p (qs ++ (r ∷ []))) ≡ (if b then (if a then without p qs else q ∷ without p qs) else (if a then without p qs else q ∷ without p qs) ++ (r ∷ []))
    by true b h = h
    by false true h = ap (λ (l : List Part). q ∷ l) h
    by false false h = ap (λ (l : List Part). q ∷ l) h

once_end : (ps : List Part) (r : Part) → once (ps ++ (r ∷ [])) ≡ (if among r ps then once ps else once ps ++ (r ∷ []))
once_end [] r = refl
once_end (p ∷ ps) r = by (same_part p r) refl (among r ps) (once_end ps r)
  where
    by : (a : Bool) → same_part p r ≡ a → (b : Bool) → once (ps ++ (r ∷ [])) ≡ (if b then once ps else once ps ++ (r ∷ [])) →
        p ∷ without p (once (ps ++ (r ∷ []))) ≡ (if (a || b) then p ∷ without p (once ps) else (p ∷ without p (once ps)) ++ (r ∷ []))
    by true e true h = ap (λ (l : List Part). p ∷ without p l) h
    by true e false h =
        let o : same_part r p ≡ true = ap (same_part r) (one_part p r e) ∙ own_part r in
        ap (λ (l : List Part). p ∷ without p l) h ∙ ap (λ (l : List Part). p ∷ l) (without_end p (once ps) r ∙ rw o refl)
    by false e true h = ap (λ (l : List Part). p ∷ without p l) h
    by false e false h = ap (λ (l : List Part). p ∷ without p l) h ∙ ap (λ (l : List Part). p ∷ l) (without_end p (once ps) r ∙ rw (unlike p r e) refl)

none_without : (p r : Part) (qs : List Part) → among r qs ≡ false → among r (without p qs) ≡ false
none_without p r [] h = refl
none_without p r (q ∷ qs) h = by (same_part q p) (same_part q r) refl h (none_without p r qs)
  where
    by : (a b : Bool) → same_part q r ≡ b → (b || among r qs) ≡ false → (among r qs ≡ false → among r (without p qs) ≡ false) → among r (if a then without p qs else q ∷ without p qs) ≡ false
    by a true e h ih = cc
    by true false e h ih = ih h
    by false false e h ih = ap (λ (b : Bool). b || among r (without p qs)) e ∙ ih h

own_without : (p : Part) (qs : List Part) → among p (without p qs) ≡ false
own_without p [] = refl
own_without p (q ∷ qs) = by (same_part q p) refl (own_without p qs)
  where
    by : (a : Bool) → same_part q p ≡ a → among p (without p qs) ≡ false → among p (if a then without p qs else q ∷ without p qs) ≡ false
    by true e h = h
    by false e h = ap (λ (b : Bool). b || among p (without p qs)) e ∙ h

once_without : (p : Part) (qs : List Part) → IsOnce qs → IsOnce (without p qs)
once_without p [] h = tt
once_without p (q ∷ qs) h = by (same_part q p) (once_without p qs h.1)
  where
    by : (a : Bool) → IsOnce (without p qs) → IsOnce (if a then without p qs else q ∷ without p qs)
    by true ih = ih
    by false ih = (none_without p q qs h.0, ih)

pub is_once : (ps : List Part) → IsOnce (once ps)
is_once [] = tt
is_once (p ∷ ps) = (own_without p (once ps), once_without p (once ps) (is_once ps))

-- ---- the members of a part

module _ (at : Bool) where
  abbrev one : Part → Option Part → Edit → List Edit
  one r o e = onto (if is_part r o then Some e else None) []

  members_end : (r : Part) (o : Option Part) (es : List Edit) (e : Edit) → part_by at e ≡ o → members at r (es ++ e ∷ []) ≡ members at r es ++ one r o e
  members_end r o es e h =
      picked-append (λ (d : Edit). if is_part r (part_by at d) then Some d else None) es (e ∷ []) ∙ ap (λ (p : Option Part). members at r es ++ one r p e) h

  own_member : (r : Part) (es : List Edit) (e : Edit) → part_by at e ≡ Some r → members at r (es ++ e ∷ []) ≡ members at r es ++ e ∷ []
  own_member r es e h = members_end r (Some r) es e h ∙ ap (λ (b : Bool). members at r es ++ onto (if b then Some e else None) []) (own_part r)

  other_member : (r q : Part) (es : List Edit) (e : Edit) → part_by at e ≡ Some q → same_part q r ≡ false → members at r (es ++ e ∷ []) ≡ members at r es
  other_member r q es e h n = members_end r (Some q) es e h ∙ (ap (λ (b : Bool). members at r es ++ onto (if b then Some e else None) []) n ∙ append-nil (members at r es))

  no_member : (r : Part) (es : List Edit) → among r (picked (part_by at) es) ≡ false → members at r es ≡ []
  no_member r [] h = refl
  no_member r (e ∷ es) h = by (part_by at e) h (no_member r es)
    where
      part : (q : Part) (b : Bool) → (b || among r (picked (part_by at) es)) ≡ false → (among r (picked (part_by at) es) ≡ false → members at r es ≡ []) → onto (if b then Some e else None) (members at r es) ≡ []
      part q true h ih = cc
      part q false h ih = ih h

      by : (o : Option Part) → among r (onto o (picked (part_by at) es)) ≡ false → (among r (picked (part_by at) es) ≡ false → members at r es ≡ []) → onto (if is_part r o then Some e else None) (members at r es) ≡ []
      by None h ih = ih h
      by (Some q) h ih = part q (same_part q r) h ih

  -- ---- one edit more

  abbrev table : List Edit → List Part → List Group
  table es ps = mapped (λ r. (r, members at r es)) ps

  no_part : (es : List Edit) (e : Edit) (ps : List Part) → part_by at e ≡ None → table (es ++ e ∷ []) ps ≡ table es ps
  no_part es e [] h = refl
  no_part es e (p ∷ ps) h =
      let first : members at p (es ++ e ∷ []) ≡ members at p es = members_end p None es e h ∙ append-nil (members at p es) in
      λ i. (p, first i) ∷ no_part es e ps h i

  apart : (es : List Edit) (e : Edit) (r : Part) (ps : List Part) → part_by at e ≡ Some r → among r ps ≡ false → table (es ++ e ∷ []) ps ≡ table es ps
  apart es e r [] h n = refl
  apart es e r (p ∷ ps) h n = by (same_part p r) refl n (apart es e r ps h)
    where
      by : (b : Bool) → same_part p r ≡ b → (b || among r ps) ≡ false → (among r ps ≡ false → table (es ++ e ∷ []) ps ≡ table es ps) → table (es ++ e ∷ []) (p ∷ ps) ≡ table es (p ∷ ps)
      by true k n ih = cc
      by false k n ih = let first = other_member p r es e h (unlike p r k) in λ i. (p, first i) ∷ ih n i

  there : (es : List Edit) (e : Edit) (r : Part) (ps : List Part) → part_by at e ≡ Some r → IsOnce ps → among r ps ≡ true → put_edit r e (table es ps) ≡ table (es ++ e ∷ []) ps
  there es e r [] h o n = cc
  there es e r (p ∷ ps) h o n = by (same_part p r) refl n (there es e r ps h o.1)
    where
      by : (b : Bool) → same_part p r ≡ b → (b || among r ps) ≡ true → (among r ps ≡ true → put_edit r e (table es ps) ≡ table (es ++ e ∷ []) ps) →
          (if b then (p, members at p es ++ e ∷ []) ∷ table es ps else (p, members at p es) ∷ put_edit r e (table es ps)) ≡ table (es ++ e ∷ []) (p ∷ ps)
      by true k n ih =
          let is : r ≡ p = sym (one_part p r k) in
          let first : members at p (es ++ e ∷ []) ≡ members at p es ++ e ∷ [] = own_member p es e (h ∙ ap Some is) in
          let none : among r ps ≡ false = ap (λ (q : Part). among q ps) is ∙ o.0 in
          let rest : table (es ++ e ∷ []) ps ≡ table es ps = apart es e r ps h none in
          sym (λ i. (p, first i) ∷ rest i)
      by false k n ih =
          let first : members at p (es ++ e ∷ []) ≡ members at p es = other_member p r es e h (unlike p r k) in
          let back : members at p es ≡ members at p (es ++ e ∷ []) = sym first in
          λ i. (p, back i) ∷ ih n i

  absent : (es : List Edit) (e : Edit) (r : Part) (ps : List Part) → among r ps ≡ false → put_edit r e (table es ps) ≡ table es ps ++ (r, e ∷ []) ∷ []
  absent es e r [] n = refl
  absent es e r (p ∷ ps) n = by (same_part p r) n (absent es e r ps)
    where
      by : (b : Bool) → (b || among r ps) ≡ false → (among r ps ≡ false → put_edit r e (table es ps) ≡ table es ps ++ (r, e ∷ []) ∷ []) →
          (if b then (p, members at p es ++ e ∷ []) ∷ table es ps else (p, members at p es) ∷ put_edit r e (table es ps)) ≡ table es (p ∷ ps) ++ (r, e ∷ []) ∷ []
      by true n ih = cc
      by false n ih = ap (λ (l : List Group). (p, members at p es) ∷ l) (ih n)

  parts_end : (es : List Edit) (e : Edit) (o : Option Part) → part_by at e ≡ o → parts_by at (es ++ e ∷ []) ≡ once (picked (part_by at) es ++ onto o [])
  parts_end es e o h = ap once (picked-append (part_by at) es (e ∷ []) ∙ ap (λ (p : Option Part). picked (part_by at) es ++ onto p []) h)

  part_more : (es : List Edit) (e : Edit) (r : Part) (b : Bool) → part_by at e ≡ Some r → among r (picked (part_by at) es) ≡ b → put_edit r e (grouped at es) ≡ grouped at (es ++ e ∷ [])
  part_more es e r true h n =
      let ps : List Part = picked (part_by at) es in
      let same : parts_by at (es ++ e ∷ []) ≡ once ps = parts_end es e (Some r) h ∙ (once_end ps r ∙ ap (λ (b : Bool). if b then once ps else once ps ++ r ∷ []) n) in
      there es e r (once ps) h (is_once ps) (among_once ps r ∙ n) ∙ ap (table (es ++ e ∷ [])) (sym same)
  part_more es e r false h n =
      let ps : List Part = picked (part_by at) es in
      let more : parts_by at (es ++ e ∷ []) ≡ once ps ++ r ∷ [] = parts_end es e (Some r) h ∙ (once_end ps r ∙ ap (λ (b : Bool). if b then once ps else once ps ++ r ∷ []) n) in
      let none : among r (once ps) ≡ false = among_once ps r ∙ n in
      let first : members at r (es ++ e ∷ []) ≡ e ∷ [] = own_member r es e h ∙ ap (λ (l : List Edit). l ++ e ∷ []) (no_member r es n) in
      let rest : table (es ++ e ∷ []) (once ps) ≡ table es (once ps) = apart es e r (once ps) h none in
      absent es e r (once ps) none ∙ sym (ap (table (es ++ e ∷ [])) more ∙ (mapped-append (λ (q : Part). (q, members at q (es ++ e ∷ []))) (once ps) (r ∷ []) ∙ (λ i. rest i ++ (r, first i) ∷ [])))

  edit_more : (es : List Edit) (e : Edit) (o : Option Part) → part_by at e ≡ o → put_by o e (grouped at es) ≡ grouped at (es ++ e ∷ [])
  edit_more es e None h =
      let same : parts_by at (es ++ e ∷ []) ≡ parts_by at es = parts_end es e None h ∙ ap once (append-nil (picked (part_by at) es)) in
      sym (ap (table (es ++ e ∷ [])) same ∙ no_part es e (parts_by at es) h)
  edit_more es e (Some r) h = part_more es e r (among r (picked (part_by at) es)) h refl

  pub grouped_more : (xs : List Held) (i : ℕ) (x : Held) (now new : List Group) → i < length xs → x ≡ get_or xs i x → now ≡ grouped at (edits_in (take i xs)) → new ≡ put_by (part_by at (edit_in x)) (edit_in x) now → new ≡ grouped at (edits_in (take (i + 1) xs))
  grouped_more xs i x now new lt e inv is =
      is ∙ (ap (put_by (part_by at (edit_in x)) (edit_in x)) inv ∙ (edit_more (edits_in (take i xs)) (edit_in x) (part_by at (edit_in x)) refl ∙ ap (grouped at) (sym (mapped_more edit_in xs i x lt e))))

-- ---- places

pub within : (r : Part) (gs : List Group) (k : ℕ) → place_of r gs ≡ Some k → k < length gs
within r [] k h = cc
within r (g ∷ gs) k h = by (same_part g.0 r) (place_of r gs) h (λ n e. within r gs n e)
  where
    by : (b : Bool) (o : Option ℕ) → (if b then Some 0 else option_map (λ n. suc n) o) ≡ Some k → ((n : ℕ) → o ≡ Some n → n < length gs) → k < length (g ∷ gs)
    by true o h ih = let z : 0 ≡ k = cc in omega (arith, z)
    by false None h ih = cc
    by false (Some n) h ih = let z : suc n ≡ k = cc in omega (arith, z, ih n refl)

pub joined_is : (r : Part) (e : Edit) (gs : List Group) (k : ℕ) → place_of r gs ≡ Some k → joined k e gs ≡ put_edit r e gs
joined_is r e [] k h = cc
joined_is r e (g ∷ gs) k h = by (same_part g.0 r) (place_of r gs) h (λ n q. joined_is r e gs n q)
  where
    by : (b : Bool) (o : Option ℕ) → (if b then Some 0 else option_map (λ n. suc n) o) ≡ Some k → ((n : ℕ) → o ≡ Some n → joined n e gs ≡ put_edit r e gs) → joined k e (g ∷ gs) ≡ (if b then (g.0, g.1 ++ e ∷ []) ∷ gs else g ∷ put_edit r e gs)
    by true o h ih = let z : k ≡ 0 = cc in ap (λ (n : ℕ). joined n e (g ∷ gs)) z
    by false None h ih = cc
    by false (Some n) h ih = let z : k ≡ suc n = cc in ap (λ (m : ℕ). joined m e (g ∷ gs)) z ∙ ap (λ (l : List Group). g ∷ l) (ih n refl)

pub place_joined : (q : Part) (e : Edit) (gs : List Group) (k : ℕ) → place_of q (joined k e gs) ≡ place_of q gs
place_joined q e [] k = refl
place_joined q e (g ∷ gs) zero = refl
place_joined q e (g ∷ gs) (suc k) = ap (λ (o : Option ℕ). if same_part g.0 q then Some 0 else option_map (λ n. suc n) o) (place_joined q e gs k)

pub begun_is : (r : Part) (e : Edit) (gs : List Group) → place_of r gs ≡ None → gs ++ (r, e ∷ []) ∷ [] ≡ put_edit r e gs
begun_is r e [] h = refl
begun_is r e (g ∷ gs) h = by (same_part g.0 r) (place_of r gs) h (λ n. begun_is r e gs n)
  where
    by : (b : Bool) (o : Option ℕ) → (if b then Some 0 else option_map (λ n. suc n) o) ≡ None → (o ≡ None → gs ++ (r, e ∷ []) ∷ [] ≡ put_edit r e gs) → (g ∷ gs) ++ (r, e ∷ []) ∷ [] ≡ (if b then (g.0, g.1 ++ e ∷ []) ∷ gs else g ∷ put_edit r e gs)
    by true o h ih = cc
    by false None h ih = ap (λ (l : List Group). g ∷ l) (ih refl)
    by false (Some n) h ih = cc

pub place_begun : (q r : Part) (es : List Edit) (gs : List Group) → place_of r gs ≡ None → place_of q (gs ++ (r, es) ∷ []) ≡ (if same_part r q then Some (length gs) else place_of q gs)
place_begun q r es [] h = refl
place_begun q r es (g ∷ gs) h = by (same_part g.0 r) (same_part g.0 q) refl refl (place_of r gs) (same_part r q) refl h (λ n. place_begun q r es gs n)
  where
    by : (a b : Bool) → same_part g.0 r ≡ a → same_part g.0 q ≡ b → (o : Option ℕ) (d : Bool) → same_part r q ≡ d → (if a then Some 0 else option_map (λ n. suc n) o) ≡ None →
        (o ≡ None → place_of q (gs ++ (r, es) ∷ []) ≡ (if d then Some (length gs) else place_of q gs)) →
        (if b then Some 0 else option_map (λ n. suc n) (place_of q (gs ++ (r, es) ∷ []))) ≡ (if d then Some (suc (length gs)) else (if b then Some 0 else option_map (λ n. suc n) (place_of q gs)))
    by true b x y o d z h ih = cc
    by false b x y (Some n) d z h ih = cc
    by false true x y None true z h ih =
        let p : g.0 ≡ q = one_part g.0 q y in
        let s : r ≡ q = one_part r q z in
        let t : same_part g.0 r ≡ true = ap (same_part g.0) (s ∙ sym p) ∙ own_part g.0 in
        let u : true ≡ false = sym t ∙ x in cc
    by false true x y None false z h ih = refl
    by false false x y None true z h ih = ap (option_map (λ n. suc n)) (ih refl)
    by false false x y None false z h ih = ap (option_map (λ n. suc n)) (ih refl)

-- ---- in the code's lists

pub joined_set : (gs : List PartEdits) (at : ℕ) (g h : PartEdits) (e : Held) → at < length gs → g ≡ get_or gs at g → h.part ≡ g.part → h.edits.items ≡ g.edits.items ++ e ∷ [] → groups_in (slice_set gs at h) ≡ joined at (edit_in e) (groups_in gs)
joined_set [] at g h e lt is p es = absurd (omega (arith, lt))
joined_set (x ∷ gs) zero g h e lt is p es =
    let items : edits_in h.edits.items ≡ edits_in x.edits.items ++ edit_in e ∷ [] =
    ap edits_in (es ∙ ap (λ (y : PartEdits). y.edits.items ++ e ∷ []) is) ∙ mapped-append edit_in x.edits.items (e ∷ []) in
    let part : h.part ≡ x.part = p ∙ ap (λ (y : PartEdits). y.part) is in
    λ i. ((part i).now, items i) ∷ groups_in gs
joined_set (x ∷ gs) (suc at) g h e lt is p es = ap (λ (l : List Group). group_in x ∷ l) (joined_set gs at g h e (omega (arith, lt)) is p es)

pub below_more : (r : Part) (xs : List Held) (i : ℕ) (x : Held) (now new : List Edit) → i < length xs → x ≡ get_or xs i x → now ≡ group r (edits_in (take i xs)) → new ≡ now ++ onto (behind r (edit_in x)) [] → new ≡ group r (edits_in (take (i + 1) xs))
below_more r xs i x now new lt e inv is =
    is ∙ (ap (λ (l : List Edit). l ++ onto (behind r (edit_in x)) []) inv
    ∙ (sym (picked-append (behind r) (edits_in (take i xs)) (edit_in x ∷ [])) ∙ ap (group r) (sym (mapped_more edit_in xs i x lt e))))
