-- Each operator keeps what is apart from its paths; and only a $pop of the last element makes a mark of a cut array, whose other elements stay.
use Rattle.std.proofs.Common.{◌≡◌, ◌≢◌, ℕ, zero, suc, ◌≤◌, ◌+◌, List, [], ◌∷◌, ◌++◌, length, Bool, true, false, refl, sym, ap, ◌∙◌, subst, arith, lit<, Option, Some, None, inl, inr, ◌<◌}
use Rattle.std.specs.Prelude.{⊤, ◌||◌, ◌⊎◌, ◌-◌, not, if◌then◌else◌, nat_lt, ◌==◌, ◌/◌, ◌%◌}
use Rattle.std.specs.List.{list_any}
use Rattle.std.proofs.lemmas.Grind.{common_steps}
use Rattle.bson_value.specs.declared.value.Value.{Value, Value-F, Array, Null, out-Value, out-roll-Value}
use Rattle.bson_value.specs.Digits.{digits, digits_in, index_of}
use Rattle.doc_path.specs.Paths.{dot}
use Rattle.std.proofs.lemmas.Nat.{mod_below}
use Rattle.std.proofs.lemmas.List.Elements.{All-nil, All-cons, All-append}
use Rattle.update_model.proofs.Recording.{keys_more}
use Rattle.bson_value.specs.Place.{Place, an_array, look, child, put, nth, at_index, sized}
use Rattle.bson_value.proofs.Child.{array_shape, rolled_array, child_array}
use Rattle.doc_path.specs.declared.parts.Part.{Part}
use Rattle.doc_path.specs.declared.parts.Part.TheVariants.{Name as name, Index as index}
use Rattle.doc_path.specs.declared.parts.Form.TheVariants.{V2}
use Rattle.doc_path.specs.declared.parts.Change.TheVariants.{Delete, Resize as Length}
use Rattle.doc_path.specs.Touch.{key_of, limit, Way, last_step, resize_in, resize_here, or_else, changed}
use Rattle.doc_path.specs.Places.{keys}
use Rattle.touch_laws.proofs.Replay.{walk_on, takes-put}
use Rattle.update_model.specs.declared.mark.Mark.{Mark}
use Rattle.update_model.specs.declared.mark.Made.{Made}
use Rattle.update_model.specs.declared.mark.Made.TheVariants as made
use Rattle.update_model.specs.declared.operator.Operator.{Operator}
use Rattle.update_model.specs.declared.operator.Operator.TheVariants as operators
use Rattle.update_model.specs.declared.operator.Number.{Number}
use Rattle.update_model.specs.declared.operator.ArrayEnd.{ArrayEnd}
use Rattle.update_model.specs.declared.operator.ArrayEnd.TheVariants as ends
use Rattle.update_model.specs.declared.fault.UpdateFault.TheVariants as faults
use Rattle.update_model.specs.Conflicts.{Path, conflict}
use Rattle.update_model.specs.Arguments.{number_in}
use Rattle.update_model.specs.Equality.{same}
use Rattle.update_model.specs.Numbers.{sum, product, zero_of, value_of}
use Rattle.update_model.specs.Located.{Located, There, Missing, Blocked, located, build}
use Rattle.update_model.specs.Steps.{Trace, after, marks_of, mark, elements, padding, newly, putting, replaced, added, appended, removed, cut}
use Rattle.update_model.specs.Acts.{Act, Steps, Refused, Oversized, is_far, made_at, changed_at, set, is_null, unset, counted_as, counted, count, goes_through_array, can_take, moved_to, moved, rename, grown, pushed_in, push, new_ones, shortened, popped, popped_in, pop, others, pulled_in, pull, act}
use Rattle.update_model.proofs.MarkTheory.{In, in_append}
use Rattle.update_model.proofs.ActSteps.{IsThere, IsMissing, Holds, located_holds, replaced_goes, removed_goes, cut_goes, appended_goes}
use Rattle.update_replay.specs.Plain.{Undotted, PlainName, ArePlain, IsNamed}
use Rattle.update_replay.proofs.Kept.{look_on, look_none, look_root, Kept, kept_none, kept_then, there_kept, grown_kept, added_kept, IsAt, is_at, WayEnd, way_end}
use Rattle.update_model.proofs.ActsGo.{no_index_last, within}

-- ---- an array that was cut

-- the first elements of the array at a path, as many as stand in w, are as in v
pub record CutAt (path : Path) (v w : Value) : Type 0 where
  pub was : look (Some v) path ≡ Some an_array
  pub is : look (Some w) path ≡ Some an_array
  pub low : (j : List ℕ) (r : Place) → look (Some w) (path ++ (j ∷ [])) ≢ None → look (Some w) (path ++ (j ∷ r)) ≡ look (Some v) (path ++ (j ∷ r))

nth_sized : (n m : ℕ) (vs : List Value) → n ≤ length vs → nth (sized n vs) m ≢ None → nth (sized n vs) m ≡ nth vs m
nth_sized zero m vs l h = absurd (h refl)
nth_sized (suc n) m [] l h = absurd (omega arith)
nth_sized (suc n) zero (v ∷ vs) l h = refl
nth_sized (suc n) (suc m) (v ∷ vs) l h = nth_sized n m vs (omega arith) h

resized : (n : ℕ) (c : Value) (vs : List Value) → out-Value c ≡ Value-F.Array vs → out-Value (resize_here n c) ≡ Value-F.Array (sized n vs)
unfolding resize_here
resized n c vs e = out-roll-Value (resize_in n (out-Value c)) ∙ ap (resize_in n) e

array_child : (c : Value) (vs : List Value) (j : List ℕ) → out-Value c ≡ Value-F.Array vs → child c j ≡ at_index vs (index_of j)
array_child c vs j e = ap (λ (z : Value). child z j) (rolled_array c vs e) ∙ child_array vs j

element : (o : Option Value) → look o [] ≢ None → o ≢ None
element o h e = h (ap (λ (z : Option Value). look z []) e ∙ look_none [])

-- of a value: the array in it is cut to so many elements
low_here : (n : ℕ) (c : Value) (vs : List Value) (j : List ℕ) (r : Place) → out-Value c ≡ Value-F.Array vs → n ≤ length vs → look (Some (resize_here n c)) (j ∷ []) ≢ None → look (Some (resize_here n c)) (j ∷ r) ≡ look (Some c) (j ∷ r)
low_here n c vs j r e l h = look_on (resize_here n c) j r ∙ (ap (λ (o : Option Value). look o r) (same_child (index_of j) refl) ∙ sym (look_on c j r))
  where
    new : child (resize_here n c) j ≡ at_index (sized n vs) (index_of j)
    new = array_child (resize_here n c) (sized n vs) j (resized n c vs e)

    there : child (resize_here n c) j ≢ None
    there = element (child (resize_here n c) j) (λ z. h (look_on (resize_here n c) j [] ∙ z))

    same_child : (o : Option ℕ) → index_of j ≡ o → child (resize_here n c) j ≡ child c j
    same_child None i = absurd (there (new ∙ ap (at_index (sized n vs)) i))
    same_child (Some m) i =
        new ∙ (ap (at_index (sized n vs)) i ∙ (nth_sized n m vs l (λ z. there (new ∙ (ap (at_index (sized n vs)) i ∙ z))) ∙ sym (array_child c vs j e ∙ ap (at_index vs) i)))

cut_looks : (p : Part) (n : ℕ) (c x : Value) (r : Place) → IsThere p c x → look (Some (last_step V2 p (Length n) x)) (key_of p ∷ r) ≡ look (Some (resize_here n c)) r
cut_looks p n c x r h =
    let on : or_else (child x (key_of p)) None ≡ Some c = rw h.1 refl in
    ap (λ (z : Value). look (Some z) (key_of p ∷ r)) (walk_on V2 None p [] (resize_here n) x c h.0 on)
    ∙ (look_on (put x (key_of p) (resize_here n c)) (key_of p) r ∙ ap (λ (o : Option Value). look o r) (takes-put V2 p x (resize_here n c) h.0))

there_looks : (p : Part) (c x : Value) (r : Place) → IsThere p c x → look (Some x) (key_of p ∷ r) ≡ look (Some c) r
there_looks p c x r h = look_on x (key_of p) r ∙ ap (λ (o : Option Value). look o r) h.1

pub cut_at : (ws : List Part) (p : Part) (n : ℕ) (c v : Value) (vs : List Value) (path : Path) → keys ws ++ (key_of p ∷ []) ≡ path → Way V2 ws (IsThere p c) v → out-Value c ≡ Value-F.Array vs → n ≤ length vs → CutAt path v (changed V2 ws p (Length n) v)
cut_at ws p n c v vs path e h a l = subst (λ (z : Path). CutAt z v w) e (record {
  was = old [] ∙ (look_root c ∙ ap Some (array_shape c vs a));
  is = new [] ∙ (look_root (resize_here n c) ∙ ap Some (array_shape (resize_here n c) (sized n vs) (resized n c vs a)));
  low = λ j r m. below j r ∙ (low_here n c vs j r a l (λ z. m (below j [] ∙ z)) ∙ sym (below_old j r));
})
  where
    w : Value
    w = changed V2 ws p (Length n) v

    k : List ℕ
    k = key_of p

    end : WayEnd ws (IsThere p c) v
    end = way_end ws (IsThere p c) v h

    behind : (j r : Place) → (keys ws ++ (k ∷ j)) ++ r ≡ keys ws ++ (k ∷ (j ++ r))
    behind j r = associates (keys ws)
      where
        associates : (xs : Place) → (xs ++ (k ∷ j)) ++ r ≡ xs ++ (k ∷ (j ++ r))
        associates [] = refl
        associates (x ∷ xs) = ap (λ (z : Place). x ∷ z) (associates xs)

    new : (r : Place) → look (Some w) (keys ws ++ (k ∷ r)) ≡ look (Some (resize_here n c)) r
    new r = end.new (last_step V2 p (Length n)) (k ∷ r) ∙ cut_looks p n c end.end r end.holds

    old : (r : Place) → look (Some v) (keys ws ++ (k ∷ r)) ≡ look (Some c) r
    old r = end.old (k ∷ r) ∙ there_looks p c end.end r end.holds

    below : (j : List ℕ) (r : Place) → look (Some w) ((keys ws ++ (k ∷ [])) ++ (j ∷ r)) ≡ look (Some (resize_here n c)) (j ∷ r)
    below j r = ap (look (Some w)) (behind [] (j ∷ r)) ∙ new (j ∷ r)

    below_old : (j : List ℕ) (r : Place) → look (Some v) ((keys ws ++ (k ∷ [])) ++ (j ∷ r)) ≡ look (Some c) (j ∷ r)
    below_old j r = ap (look (Some v)) (behind [] (j ∷ r)) ∙ old (j ∷ r)

-- ---- names without dots

pub plain_both : (p q : Place) → ArePlain p → ArePlain q → ArePlain (p ++ q)
plain_both [] q a b = b
plain_both (k ∷ p) q a b = (a.0, plain_both p q a.1 b)

pub plain_front : (p q : Place) → ArePlain (p ++ q) → ArePlain p
plain_front [] q a = tt
plain_front (k ∷ p) q a = (a.0, plain_front p q a.1)

pub plain_back : (p q : Place) → ArePlain (p ++ q) → ArePlain q
plain_back [] q a = a
plain_back (k ∷ p) q a = plain_back p q a.1

no_dot : (d : ℕ) → d < 10 → ((48 + d) == dot) ≡ false
no_dot d l = grind (arith, common_steps)

plain_digits_in : (k n : ℕ) → PlainName (digits_in k n)
unfolding digits_in
plain_digits_in zero n = All-nil Undotted
plain_digits_in (suc k) n = by (nat_lt n 10) refl (plain_digits_in k (n / 10))
  where
    by : (b : Bool) → nat_lt n 10 ≡ b → PlainName (digits_in k (n / 10)) → PlainName (if b then (48 + n) ∷ [] else digits_in k (n / 10) ++ ((48 + n % 10) ∷ []))
    by true e later = All-cons Undotted (48 + n) [] (no_dot n (grind (arith, common_steps))) (All-nil Undotted)
    by false e later = All-append Undotted (digits_in k (n / 10)) ((48 + n % 10) ∷ []) later (All-cons Undotted (48 + n % 10) [] (no_dot (n % 10) (mod_below n 10 (lit< tt))) (All-nil Undotted))

pub plain_digits : (n : ℕ) → PlainName (digits n)
unfolding digits
plain_digits n = plain_digits_in (suc n) n

-- ---- what steps at a path do

-- of a mark: what is new is a field with a name, and its place has names without dots where P holds
pub record IsMarked (P : Type 0) (m : Mark) : Type 0 where
  pub fresh : m.made ≡ made.Fresh → IsNamed m.last
  pub plain : P → ArePlain (keys m.way ++ (key_of m.last ∷ []))

abbrev pub AllMarked : Type 0 → List Mark → Type 0
AllMarked P ms = (m : Mark) → In m ms → IsMarked P m

pub record IsCutBy (path : Path) (m : Mark) (v w : Value) : Type 0 where
  pub place : keys m.way ++ (key_of m.last ∷ []) ≡ path
  pub at : CutAt path v w

pub record Does (path : Path) (v : Value) (ss : Trace) : Type 0 where
  pub keeps : (q : Place) → conflict path q ≡ false → Kept q v (after v ss)
  pub cuts : (m : Mark) → In m (marks_of ss) → m.made ≡ made.Cut → IsCutBy path m v (after v ss)
  pub marked : AllMarked (ArePlain path) (marks_of ss)

abbrev Acts : Path → Value → Act → Type 0
Acts path v (Steps ss) = Does path v ss
Acts path v (Refused f) = ⊤
Acts path v Oversized = ⊤

nothing_done : (path : Path) (v : Value) → Does path v []
nothing_done path v = record { keeps = λ q c. kept_none q v; cuts = λ m h e. absurd h; marked = λ m h. absurd h }

-- no mark is of a cut array
abbrev pub NotCut : List Mark → Type 0
NotCut ms = (m : Mark) → In m ms → m.made ≡ made.Cut → ⊥

one_not_cut : (ws : List Part) (p : Part) (k : Made) → (k ≡ made.Cut → ⊥) → NotCut (mark ws p k ∷ [])
one_not_cut ws p k h m (inl e) f = h (sym (ap (λ (z : Mark). z.made) e) ∙ f)
one_not_cut ws p k h m (inr g) f = g

changed_not_cut : made.Changed ≡ made.Cut → ⊥
changed_not_cut e = cc

newly_not_cut : (p : Part) → newly p ≡ made.Cut → ⊥
newly_not_cut (name k) e = cc
newly_not_cut (index n) e = cc

elements_not_cut : (us : List Part) (from n : ℕ) → NotCut (elements us from n)
elements_not_cut us from zero m h e = h
elements_not_cut us from (suc n) m (inl h) e = changed_not_cut (sym (ap (λ (z : Mark). z.made) h) ∙ e)
elements_not_cut us from (suc n) m (inr h) e = elements_not_cut us (suc from) n m h e

padding_not_cut : (ws : List Part) (p : Part) (n : ℕ) → NotCut (padding ws p n)
padding_not_cut ws (name k) n m h e = h
padding_not_cut ws (index i) n m h e = elements_not_cut ws n (i - n) m h e

both_not_cut : (ms ns : List Mark) → NotCut ms → NotCut ns → NotCut (ms ++ ns)
both_not_cut ms ns a b m h e = by (in_append ms ns m h)
  where
    by : In m ms ⊎ In m ns → ⊥
    by (inl i) = a m i e
    by (inr i) = b m i e

one_marked : (P : Type 0) (ws : List Part) (p : Part) (k : Made) → (k ≡ made.Fresh → IsNamed p) → (P → ArePlain (keys ws ++ (key_of p ∷ []))) → AllMarked P (mark ws p k ∷ [])
one_marked P ws p k f h m (inl e) = subst (IsMarked P) (sym e) (record { fresh = f; plain = h })
one_marked P ws p k f h m (inr g) = absurd g

not_fresh : (p : Part) → made.Changed ≡ made.Fresh → IsNamed p
not_fresh p e = absurd (no e)
  where
    no : made.Changed ≡ made.Fresh → ⊥
    no f = cc

not_new : (p : Part) → made.Cut ≡ made.Fresh → IsNamed p
not_new p e = absurd (no e)
  where
    no : made.Cut ≡ made.Fresh → ⊥
    no f = cc

newly_named : (p : Part) → newly p ≡ made.Fresh → IsNamed p
newly_named (name k) e = tt
newly_named (index n) e = not_fresh (index n) e

elements_marked : (P : Type 0) (us : List Part) (from n : ℕ) → (P → ArePlain (keys us)) → AllMarked P (elements us from n)
elements_marked P us from zero h m i = absurd i
elements_marked P us from (suc n) h m (inl e) = subst (IsMarked P) (sym e) (record { fresh = not_fresh (index from); plain = λ a. plain_both (keys us) (digits from ∷ []) (h a) (plain_digits from, tt) })
elements_marked P us from (suc n) h m (inr i) = elements_marked P us (suc from) n h m i

padding_marked : (P : Type 0) (ws : List Part) (p : Part) (n : ℕ) → (P → ArePlain (keys ws)) → AllMarked P (padding ws p n)
padding_marked P ws (name k) n h m i = absurd i
padding_marked P ws (index j) n h m i = elements_marked P ws n (j - n) h m i

both_marked : (P : Type 0) (ms ns : List Mark) → AllMarked P ms → AllMarked P ns → AllMarked P (ms ++ ns)
both_marked P ms ns a b m h = by (in_append ms ns m h)
  where
    by : In m ms ⊎ In m ns → IsMarked P m
    by (inl i) = a m i
    by (inr i) = b m i

none_marked : (P : Type 0) → AllMarked P []
none_marked P m h = absurd h

added_marked : (P : Type 0) (ws : List Part) (p : Part) (n : ℕ) (ks : Path) → (P → ArePlain (keys ws ++ (key_of p ∷ ks))) → AllMarked P (padding ws p n ++ (mark ws p (newly p) ∷ []))
added_marked P ws p n ks h =
    both_marked P (padding ws p n) (mark ws p (newly p) ∷ []) (padding_marked P ws p n (λ a. plain_front (keys ws) (key_of p ∷ ks) (h a)))
    (one_marked P ws p (newly p) (newly_named p) (λ a. plain_both (keys ws) (key_of p ∷ []) (plain_front (keys ws) (key_of p ∷ ks) (h a)) ((plain_back (keys ws) (key_of p ∷ ks) (h a)).0, tt)))

at_path : (ws : List Part) (p : Part) (ks : Path) (path : Path) → keys ws ++ (key_of p ∷ ks) ≡ path → ArePlain path → ArePlain (keys ws ++ (key_of p ∷ ks))
at_path ws p ks path e a = subst ArePlain (sym e) a

-- a trace of one step
one_does : (path : Path) (v w : Value) (ms : List Mark) → ((q : Place) → conflict path q ≡ false → Kept q v w) → NotCut ms → AllMarked (ArePlain path) ms → Does path v ((ms, w) ∷ [])
one_does path v w ms k n a = record { keeps = k; cuts = λ m h e. absurd (both_not_cut ms [] n (λ l i f. i) m h e); marked = both_marked (ArePlain path) ms [] a (none_marked (ArePlain path)) }

replaced_does : (ws : List Part) (p : Part) (c a v : Value) (path : Path) → keys ws ++ (key_of p ∷ []) ≡ path → Way V2 ws (IsThere p c) v → Does path v (replaced ws p a v)
replaced_does ws p c a v path e h = one_does path v (putting ws p a v) (mark ws p made.Changed ∷ []) (λ q f. there_kept ws p made.Changed v _ path q e (replaced_goes ws p c a v h).0 f) (one_not_cut ws p made.Changed changed_not_cut)
    (one_marked (ArePlain path) ws p made.Changed (not_fresh p) (at_path ws p [] path e))

removed_does : (ws : List Part) (k : List ℕ) (c v : Value) (path : Path) → keys ws ++ (k ∷ []) ≡ path → Way V2 ws (IsThere (name k) c) v → Does path v (removed ws (name k) v)
removed_does ws k c v path e h = one_does path v (changed V2 ws (name k) Delete v) (mark ws (name k) made.Changed ∷ []) (λ q f. there_kept ws (name k) made.Changed v _ path q e (removed_goes ws k c v h).0 f) (one_not_cut ws (name k) made.Changed changed_not_cut)
    (one_marked (ArePlain path) ws (name k) made.Changed (not_fresh (name k)) (at_path ws (name k) [] path e))

added_does : (ws : List Part) (p : Part) (n : ℕ) (ks : Path) (a v : Value) (path : Path) → keys ws ++ (key_of p ∷ ks) ≡ path → Way V2 ws (IsMissing p n) v → Does path v (added ws p n (build ks a) v)
added_does ws p n ks a v path e h =
    one_does path v (putting ws p (build ks a) v) (padding ws p n ++ (mark ws p (newly p) ∷ [])) (λ q f. added_kept ws p n ks a v path q e h f)
    (both_not_cut (padding ws p n) (mark ws p (newly p) ∷ []) (padding_not_cut ws p n) (one_not_cut ws p (newly p) (newly_not_cut p))) (added_marked (ArePlain path) ws p n ks (at_path ws p ks path e))

appended_does : (ws : List Part) (p : Part) (is vs : List Value) (c v : Value) (path : Path) → keys ws ++ (key_of p ∷ []) ≡ path → out-Value c ≡ Value-F.Array is → length is + length vs ≤ limit → Way V2 ws (IsThere p c) v → Does path v (appended ws p is vs v)
appended_does ws p is vs c v path e a l h =
    one_does path v (putting ws p (Array (is ++ vs)) v) (elements (ws ++ (p ∷ [])) (length is) (length vs)) (λ q f. grown_kept ws p (length is) (length vs) v _ path q e (appended_goes ws p is vs c v a l h).0 f)
    (elements_not_cut (ws ++ (p ∷ [])) (length is) (length vs)) (elements_marked (ArePlain path) (ws ++ (p ∷ [])) (length is) (length vs) (λ x. subst ArePlain (sym (keys_more ws p ∙ e)) x))

cut_does : (ws : List Part) (p : Part) (n : ℕ) (c v : Value) (vs : List Value) (path : Path) → keys ws ++ (key_of p ∷ []) ≡ path → out-Value c ≡ Value-F.Array vs → n ≤ length vs → Way V2 ws (IsThere p c) v → Does path v (cut ws p n v)
cut_does ws p n c v vs path e a l h = record {
  keeps = λ q f. there_kept ws p made.Cut v _ path q e (cut_goes ws p n c v h).0 f;
  cuts = λ m i f. by m i;
  marked = both_marked (ArePlain path) (mark ws p made.Cut ∷ []) [] (one_marked (ArePlain path) ws p made.Cut (not_new p) (at_path ws p [] path e)) (none_marked (ArePlain path));
}
  where
    by : (m : Mark) → In m (marks_of (cut ws p n v)) → IsCutBy path m v (after v (cut ws p n v))
    by m (inl g) = record { place = ap (λ (z : Mark). keys z.way ++ (key_of z.last ∷ [])) g ∙ e; at = cut_at ws p n c v vs path e h a l }
    by m (inr g) = absurd g

-- ---- operators

made_does : (ws : List Part) (p : Part) (n : ℕ) (ks : Path) (a v : Value) (path : Path) → keys ws ++ (key_of p ∷ ks) ≡ path → Way V2 ws (IsMissing p n) v → Acts path v (made_at ws p n ks a v)
made_does ws p n ks a v path e h = by (is_far p n)
  where
    by : (b : Bool) → Acts path v (if b then Refused faults.Backfill else Steps (added ws p n (build ks a) v))
    by true = tt
    by false = added_does ws p n ks a v path e h

changed_does : (ws : List Part) (p : Part) (c a v : Value) (path : Path) → keys ws ++ (key_of p ∷ []) ≡ path → Way V2 ws (IsThere p c) v → Acts path v (changed_at ws p c a v)
changed_does ws p c a v path e h = by (same c a)
  where
    by : (b : Bool) → Acts path v (if b then Steps [] else Steps (replaced ws p a v))
    by true = nothing_done path v
    by false = replaced_does ws p c a v path e h

set_does : (l : Located) (a v : Value) (path : Path) → Holds v l → IsAt path l → Acts path v (set l a v)
set_does (There ws p c) a v path h e = changed_does ws p c a v path e h
set_does (Missing ws p n ks) a v path h e = made_does ws p n ks a v path e h
set_does Blocked a v path h e = tt

unset_does : (l : Located) (v : Value) (path : Path) → Holds v l → IsAt path l → Acts path v (unset l v)
unset_does (There ws (name k) c) v path h e = removed_does ws k c v path e h
unset_does (There ws (index i) c) v path h e = by (is_null (out-Value c))
  where
    by : (b : Bool) → Acts path v (if b then Steps [] else Steps (replaced ws (index i) Null v))
    by true = nothing_done path v
    by false = replaced_does ws (index i) c Null v path e h
unset_does (Missing ws p n ks) v path h e = nothing_done path v
unset_does Blocked v path h e = nothing_done path v

counted_does : (ws : List Part) (p : Part) (c v : Value) (op : Number → Option Number) (o : Option Number) (path : Path) → keys ws ++ (key_of p ∷ []) ≡ path → Way V2 ws (IsThere p c) v → Acts path v (counted ws p c op o v)
counted_does ws p c v op None path e h = tt
counted_does ws p c v op (Some n) path e h = by (op n)
  where
    by : (o : Option Number) → Acts path v (counted_as ws p c o v)
    by None = tt
    by (Some m) = changed_does ws p c (value_of m) v path e h

count_does : (l : Located) (op : Number → Option Number) (first : Number) (v : Value) (path : Path) → Holds v l → IsAt path l → Acts path v (count l op first v)
count_does (There ws p c) op first v path h e = counted_does ws p c v op (number_in (out-Value c)) path e h
count_does (Missing ws p n ks) op first v path h e = made_does ws p n ks (value_of first) v path e h
count_does Blocked op first v path h e = tt

grown_does : (ws : List Part) (p : Part) (is vs : List Value) (c v : Value) (path : Path) → keys ws ++ (key_of p ∷ []) ≡ path → out-Value c ≡ Value-F.Array is → Way V2 ws (IsThere p c) v → Acts path v (grown ws p is vs v)
grown_does ws p is [] c v path e a h = nothing_done path v
grown_does ws p is (b ∷ vs) c v path e a h = by (nat_lt limit (length is + length (b ∷ vs))) refl
  where
    by : (x : Bool) → nat_lt limit (length is + length (b ∷ vs)) ≡ x → Acts path v (if x then Oversized else Steps (appended ws p is (b ∷ vs) v))
    by true f = tt
    by false f = appended_does ws p is (b ∷ vs) c v path e a (within (length is + length (b ∷ vs)) false f refl) h

pushed_does : (news : List Value → List Value) (ws : List Part) (p : Part) (c v : Value) (f : Value-F Value) (path : Path) → keys ws ++ (key_of p ∷ []) ≡ path → out-Value c ≡ f → Way V2 ws (IsThere p c) v → Acts path v (pushed_in news ws p f v)
pushed_does news ws p c v (Value-F.Array is) path e a h = grown_does ws p is (news is) c v path e a h
pushed_does news ws p c v _ path e a h = tt

push_does : (news : List Value → List Value) (l : Located) (v : Value) (path : Path) → Holds v l → IsAt path l → Acts path v (push news l v)
push_does news (There ws p c) v path h e = pushed_does news ws p c v (out-Value c) path e refl h
push_does news (Missing ws p n ks) v path h e = made_does ws p n ks (Array (news [])) v path e h
push_does news Blocked v path h e = tt

shortened_does : (ws : List Part) (p : Part) (n : ℕ) (c v : Value) (vs : List Value) (path : Path) → keys ws ++ (key_of p ∷ []) ≡ path → out-Value c ≡ Value-F.Array vs → n ≤ length vs → Way V2 ws (IsThere p c) v → Acts path v (shortened ws p n v)
shortened_does ws p n c v vs path e a l h = by (nat_lt n limit)
  where
    by : (b : Bool) → Acts path v (if b then Steps (cut ws p n v) else Oversized)
    by true = cut_does ws p n c v vs path e a l h
    by false = tt

popped_does : (end : ArrayEnd) (ws : List Part) (p : Part) (is : List Value) (c v : Value) (path : Path) → keys ws ++ (key_of p ∷ []) ≡ path → out-Value c ≡ Value-F.Array is → Way V2 ws (IsThere p c) v → Acts path v (popped end ws p is v)
popped_does end ws p [] c v path e a h = nothing_done path v
popped_does ends.First ws p (i ∷ is) c v path e a h = replaced_does ws p c (Array is) v path e h
popped_does ends.Last ws p (i ∷ is) c v path e a h = shortened_does ws p (length is) c v (i ∷ is) path e a (omega arith) h

popped_in_does : (end : ArrayEnd) (ws : List Part) (p : Part) (f : Value-F Value) (c v : Value) (path : Path) → keys ws ++ (key_of p ∷ []) ≡ path → out-Value c ≡ f → Way V2 ws (IsThere p c) v → Acts path v (popped_in end ws p f v)
popped_in_does end ws p (Value-F.Array is) c v path e a h = popped_does end ws p is c v path e a h
popped_in_does end ws p _ c v path e a h = tt

pop_does : (end : ArrayEnd) (l : Located) (v : Value) (path : Path) → Holds v l → IsAt path l → Acts path v (pop end l v)
pop_does end (There ws p c) v path h e = popped_in_does end ws p (out-Value c) c v path e refl h
pop_does end (Missing ws p n ks) v path h e = nothing_done path v
pop_does end Blocked v path h e = tt

pull_does : (a : Value) (l : Located) (v : Value) (path : Path) → Holds v l → IsAt path l → Acts path v (pull a l v)
pull_does a (There ws p c) v path h e = by (out-Value c)
  where
    some : (is : List Value) (b : Bool) → Acts path v (if b then Steps (replaced ws p (Array (others a is)) v) else Steps [])
    some is true = replaced_does ws p c (Array (others a is)) v path e h
    some is false = nothing_done path v

    by : (f : Value-F Value) → Acts path v (pulled_in a ws p f v)
    by (Value-F.Array is) = some is (list_any (λ i. same i a) is)
    by _ = tt
pull_does a (Missing ws p n ks) v path h e = nothing_done path v
pull_does a Blocked v path h e = tt

-- ---- $rename, of two paths

pub record DoesBoth (from to : Path) (v : Value) (ss : Trace) : Type 0 where
  pub keeps : (q : Place) → conflict from q ≡ false → conflict to q ≡ false → Kept q v (after v ss)
  pub cuts : (m : Mark) → In m (marks_of ss) → m.made ≡ made.Cut → ⊥
  pub marked : AllMarked (ArePlain from × ArePlain to) (marks_of ss)

abbrev ActsBoth : Path → Path → Value → Act → Type 0
ActsBoth from to v (Steps ss) = DoesBoth from to v ss
ActsBoth from to v (Refused f) = ⊤
ActsBoth from to v Oversized = ⊤

moved_keeps : (l : Located) (a v : Value) (to : Path) (q : Place) → Holds v l → IsAt to l → conflict to q ≡ false → Kept q v (after v (moved_to l a v))
moved_keeps (There ws p c) a v to q h e f = (replaced_does ws p c a v to e h).keeps q f
moved_keeps (Missing ws p n ks) a v to q h e f = (added_does ws p n ks a v to e h).keeps q f
moved_keeps Blocked a v to q h e f = kept_none q v

moved_not_cut : (l : Located) (a v : Value) → NotCut (marks_of (moved_to l a v))
moved_not_cut (There ws p c) a v = both_not_cut (mark ws p made.Changed ∷ []) [] (one_not_cut ws p made.Changed changed_not_cut) (λ m h e. h)
moved_not_cut (Missing ws p n ks) a v =
    both_not_cut (padding ws p n ++ (mark ws p (newly p) ∷ [])) [] (both_not_cut (padding ws p n) (mark ws p (newly p) ∷ []) (padding_not_cut ws p n) (one_not_cut ws p (newly p) (newly_not_cut p))) (λ m h e. h)
moved_not_cut Blocked a v = λ m h e. h

moved_marked : (P : Type 0) (l : Located) (a v : Value) (to : Path) → IsAt to l → (P → ArePlain to) → AllMarked P (marks_of (moved_to l a v))
moved_marked P (There ws p c) a v to e h = both_marked P (mark ws p made.Changed ∷ []) [] (one_marked P ws p made.Changed (not_fresh p) (λ x. at_path ws p [] to e (h x))) (none_marked P)
moved_marked P (Missing ws p n ks) a v to e h = both_marked P (padding ws p n ++ (mark ws p (newly p) ∷ [])) [] (added_marked P ws p n ks (λ x. at_path ws p ks to e (h x))) (none_marked P)
moved_marked P Blocked a v to e h = none_marked P

nothing_both : (from to : Path) (v : Value) → DoesBoth from to v []
nothing_both from to v = record { keeps = λ q c d. kept_none q v; cuts = λ m h e. h; marked = λ m h. absurd h }

rename_does : (l : Located) (from to : Path) (v : Value) → Holds v l → IsAt from l → ActsBoth from to v (rename l to v)
rename_does (There ws (name k) c) from to v h e = by (goes_through_array ws (name k) || not (can_take (located to v)))
  where
    w : Value
    w = changed V2 ws (name k) Delete v

    by : (b : Bool) → ActsBoth from to v (if b then Refused faults.NotViable else Steps (moved (removed ws (name k) v) to c v))
    by true = tt
    by false = record {
      keeps = λ q f g. kept_then q v w _ ((removed_does ws k c v from e h).keeps q f) (moved_keeps (located to w) c w to q (located_holds to w) (is_at to w) g);
      cuts = both_not_cut (mark ws (name k) made.Changed ∷ []) (marks_of (moved_to (located to w) c w)) (one_not_cut ws (name k) made.Changed changed_not_cut) (moved_not_cut (located to w) c w);
      marked = both_marked (ArePlain from × ArePlain to) (mark ws (name k) made.Changed ∷ []) (marks_of (moved_to (located to w) c w))
          (one_marked (ArePlain from × ArePlain to) ws (name k) made.Changed (not_fresh (name k)) (λ x. at_path ws (name k) [] from e x.0)) (moved_marked (ArePlain from × ArePlain to) (located to w) c w to (is_at to w) (λ x. x.1));
    }
rename_does (There ws (index i) c) from to v h e = rw (no_index_last ws i) tt
rename_does (Missing ws p n ks) from to v h e = nothing_both from to v
rename_does Blocked from to v h e = tt

-- ---- all of them

abbrev pub IsDone : Operator → Value → Trace → Type 0
IsDone (operators.Set path a) v ss = Does path v ss
IsDone (operators.Unset path) v ss = Does path v ss
IsDone (operators.Inc path n) v ss = Does path v ss
IsDone (operators.Mul path n) v ss = Does path v ss
IsDone (operators.Rename from to) v ss = DoesBoth from to v ss
IsDone (operators.Push path vs) v ss = Does path v ss
IsDone (operators.AddToSet path vs) v ss = Does path v ss
IsDone (operators.Pop path end) v ss = Does path v ss
IsDone (operators.Pull path a) v ss = Does path v ss

in_steps : (path : Path) (v : Value) (a : Act) (ss : Trace) → a ≡ Steps ss → Acts path v a → Does path v ss
in_steps path v a ss e h = subst (Acts path v) e h

both_in_steps : (from to : Path) (v : Value) (a : Act) (ss : Trace) → a ≡ Steps ss → ActsBoth from to v a → DoesBoth from to v ss
both_in_steps from to v a ss e h = subst (ActsBoth from to v) e h

pub act_does : (o : Operator) (v : Value) (ss : Trace) → act o v ≡ Steps ss → IsDone o v ss
act_does (operators.Set path a) v ss e = in_steps path v _ ss e (set_does (located path v) a v path (located_holds path v) (is_at path v))
act_does (operators.Unset path) v ss e = in_steps path v _ ss e (unset_does (located path v) v path (located_holds path v) (is_at path v))
act_does (operators.Inc path n) v ss e = in_steps path v _ ss e (count_does (located path v) (λ m. sum m n) n v path (located_holds path v) (is_at path v))
act_does (operators.Mul path n) v ss e = in_steps path v _ ss e (count_does (located path v) (λ m. product m n) (zero_of n) v path (located_holds path v) (is_at path v))
act_does (operators.Rename from to) v ss e = both_in_steps from to v _ ss e (rename_does (located from v) from to v (located_holds from v) (is_at from v))
act_does (operators.Push path vs) v ss e = in_steps path v _ ss e (push_does (λ is. vs) (located path v) v path (located_holds path v) (is_at path v))
act_does (operators.AddToSet path vs) v ss e = in_steps path v _ ss e (push_does (λ is. new_ones is vs) (located path v) v path (located_holds path v) (is_at path v))
act_does (operators.Pop path end) v ss e = in_steps path v _ ss e (pop_does end (located path v) v path (located_holds path v) (is_at path v))
act_does (operators.Pull path a) v ss e = in_steps path v _ ss e (pull_does a (located path v) v path (located_holds path v) (is_at path v))
