-- The touches of an accepted update in the second form record it, those of lengths too.
use Rattle.std.proofs.Common.{◌≡◌, ◌≢◌, ℕ, ◌<◌, List, [], ◌∷◌, ◌++◌, length, map, Bool, true, false, refl, sym, ap, ◌∙◌, subst, arith, Option, Some, None, inl, inr, append-nil}
use Rattle.std.specs.Prelude.{◌||◌, ◌⊎◌, nat_lt, if◌then◌else◌, Ok, Err}
use Rattle.std.proofs.lemmas.Bool.{cases_Bool}
use Rattle.std.proofs.lemmas.Grind.{common_steps}
use Rattle.bson_value.specs.declared.value.Value.{Value, Value-F, Object, out-Value}
use Rattle.bson_value.specs.Digits.{index_of}
use Rattle.bson_value.specs.Place.{Place, Shape, an_array, look, shape, child, at_index}
use Rattle.bson_value.proofs.Child.{name_refl, nth-within, an_array_too, rolled_array, child_array}
use Rattle.doc_path.specs.declared.parts.Part.{Part}
use Rattle.doc_path.specs.declared.parts.Form.TheVariants.{V2}
use Rattle.doc_path.specs.declared.parts.Change.TheVariants.{Put, Resize as Length}
use Rattle.doc_path.specs.Touch.{Touch, Set, Resize, key_of, takes, limit, below, from_index, from_at, covers, Way}
use Rattle.doc_path.specs.Played.{touch_of}
use Rattle.doc_path.specs.Places.{keys}
use Rattle.doc_path.specs.Ways.{value_in}
use Rattle.doc_path.proofs.Last.{split-append}
use Rattle.touch_laws.specs.Agree.{any_covers, Done, AllDone, Records, ResizeDone}
use Rattle.update_model.specs.declared.mark.Mark.{Mark}
use Rattle.update_model.specs.declared.mark.Made.{Made}
use Rattle.update_model.specs.declared.mark.Made.TheVariants as made
use Rattle.update_model.specs.declared.updated.Updated.{Updated}
use Rattle.update_model.specs.Arguments.{Fields}
use Rattle.update_model.specs.Conflicts.{begins}
use Rattle.update_model.specs.Reading.{operators, ops_fault}
use Rattle.update_model.specs.Steps.{Trace, after, marks_of}
use Rattle.update_model.specs.Touched as spec
use Rattle.update_model.specs.Touched.{parts_of, touched, touches, whole, whole_at}
use Rattle.update_model.specs.Updating.{Outcome, fields_of, outcome, updated_by, updated}
use Rattle.update_model.proofs.MarkTerms.{mark_covers, at_keys, Stands, Steps as AreSteps}
use Rattle.update_model.proofs.MarkTheory.{In, top_stands}
use Rattle.update_model.proofs.ActsGo.{Traced, outcome_traced}
use Rattle.update_model.proofs.Recording.{covers_begins, keys_more, touched_in, value_at_mark, whole_records, after_is_document}
use Rattle.update_replay.proofs.Kept.{no_some, begins_rest, look_on, look_none, look_root}
use Rattle.update_replay.proofs.Spared.{CutAt}
use Rattle.update_replay.proofs.Cuts.{cut_arrays, first_false, second_false}

-- ---- a touch as it is played, and with the whole array in place of a length

-- they are the same, or the touch is of an array that was cut
data Link (z : Value) (m : Mark) : Type 0 where
  Same : touch_of (spec.touch_of z m) ≡ whole z (spec.touch_of z m) → Link z m
  Cuts : (a : Value) (vs : List Value) → m.made ≡ made.Cut → value_in (parts_of m) z ≡ Some a → out-Value a ≡ Value-F.Array vs → length vs < limit →
      whole z (spec.touch_of z m) ≡ Set m.way m.last a → touch_of (spec.touch_of z m) ≡ Resize (parts_of m) (length vs) → Link z m

-- the length that a cut array has
record Shorter (m : Mark) (a : Value) (n : ℕ) : Type 0 where
  cut : m.made ≡ made.Cut
  vs : List Value
  level : out-Value a ≡ Value-F.Array vs
  count : length vs ≡ n
  low : n < limit

shorter : (m : Mark) (a : Value) (n : ℕ) → spec.cut_to_length m.made a ≡ Some n → Shorter m a n
shorter m a n e = by m.made refl e
  where
    in_array : (vs : List Value) (b : Bool) → out-Value a ≡ Value-F.Array vs → m.made ≡ made.Cut → nat_lt (length vs) limit ≡ b → (if b then Some (length vs) else None) ≡ Some n → Shorter m a n
    in_array vs true l c b f =
        let is : length vs ≡ n = cc in
        record { cut = c; vs = vs; level = l; count = is; low = subst (λ (k : ℕ). k < limit) is (grind (arith, common_steps)) }
    in_array vs false l c b f = cc

    at : (f : Value-F Value) → out-Value a ≡ f → m.made ≡ made.Cut → spec.length_in f ≡ Some n → Shorter m a n
    at (Value-F.Array vs) l c f = in_array vs (nat_lt (length vs) limit) l c refl f
    at _ l c f = cc

    by : (k : Made) → m.made ≡ k → spec.cut_to_length k a ≡ Some n → Shorter m a n
    by made.Cut c f = at (out-Value a) refl c f
    by made.Fresh c f = cc
    by made.Changed c f = cc

link : (z : Value) (m : Mark) → Link z m
link z m = by (value_in (parts_of m) z) refl
  where
    some : (a : Value) (o : Option ℕ) → value_in (parts_of m) z ≡ Some a → spec.cut_to_length m.made a ≡ o → spec.touch_of z m ≡ spec.set_or_cut m a o → Link z m
    some a None e c t = Same (ap touch_of t ∙ sym (ap (whole z) t))
    some a (Some n) e c t =
        let s = shorter m a n c in
        Cuts a s.vs s.cut e s.level (subst (λ (k : ℕ). k < limit) (sym s.count) s.low)
        (ap (whole z) t ∙ (ap (whole_at (parts_of m) n) e ∙ split-append m.way m.last (Put a)))
        (ap touch_of t ∙ (split-append m.way m.last (Length n) ∙ ap (Resize (parts_of m)) (sym s.count)))

    by : (o : Option Value) → value_in (parts_of m) z ≡ o → Link z m
    by None e = Same (ap touch_of (ap (spec.touch_by m) e) ∙ sym (ap (whole z) (ap (spec.touch_by m) e)))
    by (Some a) e = some a (spec.cut_to_length m.made a) e refl (ap (spec.touch_by m) e)

-- ---- values at places

look_at : (o : Option Value) (p r : Place) (a : Value) → at_keys o p ≡ Some a → look o (p ++ r) ≡ look (Some a) r
look_at None p r a e = cc
look_at (Some v) [] r a e = ap (λ (z : Option Value). look z r) e
look_at (Some v) (k ∷ p) r a e = look_on v k (p ++ r) ∙ look_at (child v k) p r a e

record Held (o : Option Value) (p : Place) (s : Shape) : Type 0 where
  value : Value
  at : at_keys o p ≡ Some value
  kind : shape value ≡ s

held : (o : Option Value) (p : Place) (s : Shape) → look o p ≡ Some s → Held o p s
held None p s e = absurd (no_some (look None p) s (look_none p) e)
held (Some v) [] s e = record { value = v; at = refl; kind = let f : Some (shape v) ≡ Some s = sym (look_root v) ∙ e in cc }
held (Some v) (k ∷ p) s e = let h = held (child v k) p s (sym (look_on v k p) ∙ e) in record { value = h.value; at = h.at; kind = h.kind }

below_at : (ps : List Part) (c : Place → Bool) (r : Place) → below ps c (keys ps ++ r) ≡ c r
below_at [] c r = refl
below_at (p ∷ ps) c r = rw (name_refl (key_of p)) (below_at ps c r)

array_child : (c : Value) (vs : List Value) (j : List ℕ) → out-Value c ≡ Value-F.Array vs → child c j ≡ at_index vs (index_of j)
array_child c vs j e = ap (λ (z : Value). child z j) (rolled_array c vs e) ∙ child_array vs j

no_element : (b : Value) (j : List ℕ) → shape b ≡ an_array → index_of j ≡ None → child b j ≡ None
no_element b j s i = let a = an_array_too b s in array_child b a.0 j a.1 ∙ ap (at_index a.0) i

some_look : (o : Option Value) → o ≢ None → look o [] ≢ None
some_look None h e = h refl
some_look (Some v) h e = no_some (look (Some v) []) (shape v) e (look_root v)

-- ---- where the array was cut, what isn't covered stands as before

cut_frame : (v z a : Value) (vs : List Value) (m : Mark) (r : Place) → CutAt (keys m.way ++ (key_of m.last ∷ [])) v z → at_keys (Some z) (keys m.way ++ (key_of m.last ∷ [])) ≡ Some a → out-Value a ≡ Value-F.Array vs → from_index (length vs) r ≡ false →
    look (Some z) ((keys m.way ++ (key_of m.last ∷ [])) ++ r) ≡ look (Some v) ((keys m.way ++ (key_of m.last ∷ [])) ++ r)
cut_frame v z a vs m [] c e l f = (λ i. look (Some z) (append-nil (keys m.way ++ (key_of m.last ∷ [])) i)) ∙ (c.is ∙ (sym c.was ∙ sym (λ i. look (Some v) (append-nil (keys m.way ++ (key_of m.last ∷ [])) i))))
cut_frame v z a vs m (j ∷ r) c e l f = by (index_of j) refl f
  where
    p : Place
    p = keys m.way ++ (key_of m.last ∷ [])

    there : (i : ℕ) → index_of j ≡ Some i → i < length vs → look (Some z) (p ++ (j ∷ [])) ≢ None
    there i o b n =
        some_look (child a j) (λ g. nth-within vs i b (sym (array_child a vs j l ∙ ap (at_index vs) o) ∙ g))
        (sym (look_on a j []) ∙ (sym (look_at (Some z) p (j ∷ []) a e) ∙ n))

    by : (o : Option ℕ) → index_of j ≡ o → from_at (length vs) o ≡ false → look (Some z) (p ++ (j ∷ r)) ≡ look (Some v) (p ++ (j ∷ r))
    by (Some i) o g = c.low j r (there i o (grind (arith, common_steps)))
    by None o g =
        let h = held (Some v) p an_array c.was in
        look_at (Some z) p (j ∷ r) a e
        ∙ (look_on a j r ∙ (ap (λ (x : Option Value). look x r) (array_child a vs j l ∙ ap (at_index vs) o)
        ∙ (sym (ap (λ (x : Option Value). look x r) (no_element h.value j h.kind o)) ∙ (sym (look_on h.value j r) ∙ sym (look_at (Some v) p (j ∷ r) h.value h.at)))))

both_false : (a b : Bool) → a ≡ false → b ≡ false → (a || b) ≡ false
both_false a b x y = rw (x, y) refl

abbrev Facts : Value → Value → List Mark → Type 0
Facts v z ms = (m : Mark) → In m ms → Stands m z × (m.made ≡ made.Cut → CutAt (keys m.way ++ (key_of m.last ∷ [])) v z)

-- what the touches don't cover isn't covered with whole arrays, or it stands as before
one_frame : (v z : Value) (m : Mark) (q : Place) → Stands m z × (m.made ≡ made.Cut → CutAt (keys m.way ++ (key_of m.last ∷ [])) v z) → covers (touch_of (spec.touch_of z m)) q ≡ false →
    (covers (whole z (spec.touch_of z m)) q ≡ false) ⊎ (look (Some z) q ≡ look (Some v) q)
one_frame v z m q h n = by (link z m)
  where
    p : Place
    p = keys m.way ++ (key_of m.last ∷ [])

    by : Link z m → (covers (whole z (spec.touch_of z m)) q ≡ false) ⊎ (look (Some z) q ≡ look (Some v) q)
    by (Same e) = inl (ap (λ (t : Touch). covers t q) (sym e) ∙ n)
    by (Cuts a vs cut e l low w t) = of (cases_Bool (mark_covers m q))
      where
        none : below (parts_of m) (from_index (length vs)) q ≡ false
        none = sym (ap (λ (x : Touch). covers x q) t) ∙ n

        of : (mark_covers m q ≡ true) ⊎ (mark_covers m q ≡ false) → (covers (whole z (spec.touch_of z m)) q ≡ false) ⊎ (look (Some z) q ≡ look (Some v) q)
        of (inr f) = inl (ap (λ (x : Touch). covers x q) w ∙ f)
        of (inl y) =
            let r = begins_rest p q (sym (covers_begins m q ∙ ap (λ (x : Place). begins x q) (keys_more m.way m.last)) ∙ y) in
            let off : from_index (length vs) r.0 ≡ false =
            sym (below_at (parts_of m) (from_index (length vs)) r.0) ∙ (ap (below (parts_of m) (from_index (length vs))) (ap (λ (x : Place). x ++ r.0) (keys_more m.way m.last) ∙ sym r.1) ∙ none) in
            inr (subst (λ (x : Place). look (Some z) x ≡ look (Some v) x) (sym r.1) (cut_frame v z a vs m r.0 (h.1 cut) (sym (value_at_mark m.way m.last z h.0) ∙ e) l off))

all_frame : (v z : Value) (ms : List Mark) (q : Place) → Facts v z ms → any_covers (map touch_of (map (spec.touch_of z) ms)) q ≡ false →
    (any_covers (map (whole z) (map (spec.touch_of z) ms)) q ≡ false) ⊎ (look (Some z) q ≡ look (Some v) q)
all_frame v z [] q h n = inl refl
all_frame v z (m ∷ ms) q h n =
    by (one_frame v z m q (h m (inl refl)) (first_false (covers (touch_of (spec.touch_of z m)) q) (any_covers (map touch_of (map (spec.touch_of z) ms)) q) n))
    (all_frame v z ms q (λ k i. h k (inr i)) (second_false (covers (touch_of (spec.touch_of z m)) q) (any_covers (map touch_of (map (spec.touch_of z) ms)) q) n))
  where
    by : (covers (whole z (spec.touch_of z m)) q ≡ false) ⊎ (look (Some z) q ≡ look (Some v) q) → (any_covers (map (whole z) (map (spec.touch_of z) ms)) q ≡ false) ⊎ (look (Some z) q ≡ look (Some v) q) →
        (covers (whole z (spec.touch_of z m)) q || any_covers (map (whole z) (map (spec.touch_of z) ms)) q ≡ false) ⊎ (look (Some z) q ≡ look (Some v) q)
    by (inl a) (inl b) = inl (both_false (covers (whole z (spec.touch_of z m)) q) (any_covers (map (whole z) (map (spec.touch_of z) ms)) q) a b)
    by (inr e) o = inr e
    by (inl a) (inr e) = inr e

-- ---- nothing is left to do

way_more : (ws : List Part) (p : Part) (a : Value) (Q : Value → Type 0) (z : Value) → Q a → Way V2 ws (λ w. (takes V2 p (shape w) ≡ true) × (child w (key_of p) ≡ Some a)) z → Way V2 (ws ++ (p ∷ [])) Q z
way_more [] p a Q z h w = (w.0, a, w.1, h)
way_more (q ∷ ws) p a Q z h w = (w.0, w.1, w.2, way_more ws p a Q w.1 h w.3)

one_done : (z : Value) (m : Mark) → Done V2 (whole z (spec.touch_of z m)) z → Done V2 (touch_of (spec.touch_of z m)) z
one_done z m d = by (link z m)
  where
    by : Link z m → Done V2 (touch_of (spec.touch_of z m)) z
    by (Same e) = subst (λ (t : Touch). Done V2 t z) (sym e) d
    by (Cuts a vs cut e l low w t) =
        subst (λ (x : Touch). Done V2 x z) (sym t)
        (way_more m.way m.last a (ResizeDone (length vs)) z (low, vs, l, refl) (subst (λ (x : Touch). Done V2 x z) w d))

all_done : (z : Value) (ms : List Mark) → AllDone V2 (map (whole z) (map (spec.touch_of z) ms)) z → AllDone V2 (map touch_of (map (spec.touch_of z) ms)) z
all_done z [] d = tt
all_done z (m ∷ ms) d = (one_done z m d.0, all_done z ms d.1)

-- ---- the law

trace_records : (d : Fields) (v : Value) (ss : Trace) → ops_fault d ≡ None → outcome (operators d) false v ≡ Ok ss → AreSteps v ss (after v ss) → Records V2 (map touch_of (touches (after v ss) (marks_of ss))) v (after v ss)
trace_records d v ss sound e s =
    let z = after v ss in
    let ms = touched (marks_of ss) in
    let r = whole_records ss v s in
    record {
      frame = λ q n. of q (all_frame v z ms q facts n);
      done = all_done z ms r.done;
    }
  where
    facts : Facts v (after v ss) (touched (marks_of ss))
    facts m i = let h = touched_in (marks_of ss) m i in (top_stands ss v (after v ss) m s h.0 h.1, λ c. cut_arrays d v ss sound e m h.0 c)

    of : (q : Place) → (any_covers (map (whole (after v ss)) (map (spec.touch_of (after v ss)) (touched (marks_of ss)))) q ≡ false) ⊎ (look (Some (after v ss)) q ≡ look (Some v) q) → look (Some (after v ss)) q ≡ look (Some v) q
    of q (inl n) = (whole_records ss v s).frame q n
    of q (inr e) = e

recorded_by : (d doc : Fields) (o : Outcome) (u : Updated) → ops_fault d ≡ None → outcome (operators d) false (Object doc) ≡ o → Traced (Object doc) o → updated_by (Object doc) o ≡ Ok u → Records V2 (map touch_of u.touches) (Object doc) (Object u.doc)
recorded_by d doc (Err f) u sound r t e = cc
recorded_by d doc (Ok ss) u sound r t e =
    let is : record { doc = fields_of (after (Object doc) ss); touches = touches (after (Object doc) ss) (marks_of ss) } ≡ u = cc in
    subst (λ (w : Updated). Records V2 (map touch_of w.touches) (Object doc) (Object w.doc)) is
    (subst (λ (z : Value). Records V2 (map touch_of (touches (after (Object doc) ss) (marks_of ss))) (Object doc) z) (sym (after_is_document ss doc t)) (trace_records d (Object doc) ss sound r t))

pub second_records : (d doc : Fields) (u : Updated) → ops_fault d ≡ None → updated (operators d) doc ≡ Ok u → Records V2 (map touch_of u.touches) (Object doc) (Object u.doc)
unfolding updated
second_records d doc u sound e = recorded_by d doc (outcome (operators d) false (Object doc)) u sound refl (outcome_traced (operators d) false (Object doc)) e
