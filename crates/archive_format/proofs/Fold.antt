-- Each input has one longest clean front and one end, and it is an archive exactly where that end is no fault.
use Rattle.std.proofs.Common.{◌≡◌, ℕ, zero, suc, ◌+◌, ◌<◌, ◌≤◌, Bool, true, false, List, [], ◌∷◌, ◌++◌, length, take, drop, refl, sym, ap, subst, ◌∙◌, append_assoc, arith}
use Rattle.std.specs.Prelude.{None, Some, Option, nat_lt, flat_map}
use Rattle.std.proofs.lemmas.List.{drop_at, take_all, length-append, length-drop, append-nil}
use Rattle.std.proofs.lemmas.Grind.{flat_map-append}
use Rattle.std.proofs.lemmas.List.Concat.{flat_map-cons}
use Rattle.std.proofs.lemmas.Bool.{le-ltb, ltb-false}
use Rattle.archive_format.specs.declared.fault.FormatFault.{FormatFault}
use Rattle.archive_format.specs.declared.place.Place.{Place}
use Rattle.archive_format.specs.declared.place.Place.TheVariants.{Front, Header, Metas, Blocks, Inside, Ending}
use Rattle.archive_format.specs.Archive.{Item, Taking, text_of, Stage, Runs, Clean, Next, short, onward, wrong, next, limit, open_of, at_end, ending, closing, Ends, EndsOf, Content}
use Rattle.archive_format.proofs.Fronts.{item_met, item_found, met_length}

pub runs_append : (is js : List Item) (s : Stage) (at : ℕ) (t : Stage) (ts : List Taking) (u : Stage) (us : List Taking)
    → Runs s at is t ts → Runs t (at + length (flat_map text_of is)) js u us → Runs s at (is ++ js) u (ts ++ us)
runs_append [] js s at t ts u us r q =
    let a : at + 0 ≡ at = omega arith in
    let k = rw a at q in
    subst (λ x. Runs s at js u (x ++ us)) (sym r.1) (subst (λ x. Runs x at js u us) r.0 k)
runs_append (i ∷ is) js s at t ts u us r q =
    let a : (at + length (text_of i)) + length (flat_map text_of is) ≡ at + length (flat_map text_of (i ∷ is)) =
    omega (arith, ap length (flat_map-cons text_of i is), length-append (text_of i) (flat_map text_of is)) in
    let q2 = rw (← a) at q in
    let k = runs_append is js r.0 (at + length (text_of i)) t r.2 u us r.5 q2 in
    (r.0, r.1, r.2 ++ us, r.3, r.4, k, ap (λ x. x ++ us) r.6 ∙ append_assoc r.1 r.2 us)

pub clean_none : (s : Stage) (at : ℕ) (bytes : List ℕ) → Clean s at bytes s at bytes []
clean_none s at bytes = record { items = []; text = refl; runs = (refl, refl); here = omega arith }

pub clean_join : (s : Stage) (at : ℕ) (bytes : List ℕ) (t : Stage) (to : ℕ) (rest : List ℕ) (ts : List Taking) (u : Stage) (so : ℕ) (left : List ℕ) (us : List Taking)
    → Clean s at bytes t to rest ts → Clean t to rest u so left us → Clean s at bytes u so left (ts ++ us)
clean_join s at bytes t to rest ts u so left us c d =
    let f = flat_map-append text_of c.items d.items in
    record {
      items = c.items ++ d.items;
      text = c.text ∙ ap (λ x. flat_map text_of c.items ++ x) d.text ∙ sym (append_assoc (flat_map text_of c.items) (flat_map text_of d.items) left) ∙ ap (λ x. x ++ left) (sym f);
      runs = runs_append c.items d.items s at t ts u us c.runs (subst (λ x. Runs t x d.items u us) c.here d.runs);
      here = omega (arith, c.here, d.here, ap length f, length-append (flat_map text_of c.items) (flat_map text_of d.items));
    }

-- one item more
pub clean_one : (s : Stage) (at : ℕ) (bytes : List ℕ) (m : Stage) (one : List Taking) (n : ℕ) → next s at bytes ≡ onward m one n → Clean s at bytes m (at + n) (drop n bytes) one
clean_one s at bytes m one n e =
    let met = item_found s at bytes m one n e in
    let alone : flat_map text_of (met.item ∷ []) ≡ text_of met.item = flat_map-cons text_of met.item [] ∙ append-nil (text_of met.item) in
    record {
      items = met.item ∷ [];
      text = met.text ∙ ap (λ x. x ++ drop n bytes) (sym alone);
      runs = (m, one, [], met.is, met.steps, (refl, refl), sym (append-nil one));
      here = omega (arith, ap length alone, met.size);
    }

pub clean_on : (s : Stage) (at : ℕ) (bytes : List ℕ) (t : Stage) (to : ℕ) (rest : List ℕ) (ts : List Taking) (m : Stage) (one : List Taking) (n : ℕ)
    → Clean s at bytes t to rest ts → next t to rest ≡ onward m one n → Clean s at bytes m (to + n) (drop n rest) (ts ++ one)
clean_on s at bytes t to rest ts m one n c e = clean_join s at bytes t to rest ts m (to + n) (drop n rest) one c (clean_one t to rest m one n e)

pub ends_join : (s : Stage) (at : ℕ) (bytes : List ℕ) (t : Stage) (to : ℕ) (rest : List ℕ) (ts : List Taking) (more : Bool) (us : List Taking) (e : Option FormatFault)
    → Clean s at bytes t to rest ts → Ends t to rest more us e → Ends s at bytes more (ts ++ us) e
ends_join s at bytes t to rest ts more us e c d = record {
  stage = d.stage;
  to = d.to;
  rest = d.rest;
  clean = clean_join s at bytes t to rest ts d.stage d.to d.rest us c d.clean;
  stops = d.stops;
}

pub record SomeEnd (s : Stage) (at : ℕ) (bytes : List ℕ) (more : Bool) : Type 0 where
  pub takings : List Taking
  pub fault : Option FormatFault
  pub ends : Ends s at bytes more takings fault

-- there is an end
ends_here : (s : Stage) (at : ℕ) (bytes : List ℕ) (more : Bool) (e : Option FormatFault) → closing more s at bytes (next s at bytes) ≡ Some e → SomeEnd s at bytes more
ends_here s at bytes more e h = record { takings = []; fault = e; ends = record { stage = s; to = at; rest = bytes; clean = clean_none s at bytes; stops = h } }

ends_next : (turns : ℕ) → ((s : Stage) (at : ℕ) (bytes : List ℕ) (more : Bool) → length bytes < turns → SomeEnd s at bytes more)
    → (s : Stage) (at : ℕ) (bytes : List ℕ) (more : Bool) → length bytes < suc turns → (x : Next) → next s at bytes ≡ x → SomeEnd s at bytes more
ends_next turns ends s at bytes more le short e = ends_here s at bytes more _ (ap (closing more s at bytes) e)
ends_next turns ends s at bytes more le (wrong f) e = ends_here s at bytes more _ (ap (closing more s at bytes) e)
ends_next turns ends s at bytes more le (onward m one n) e =
    let size = met_length s at bytes m one n (item_found s at bytes m one n e) in
    let k = ends m (at + n) (drop n bytes) more (omega (arith, length-drop n bytes, size.0, size.1)) in
    record { takings = one ++ k.takings; fault = k.fault; ends = ends_join s at bytes m (at + n) (drop n bytes) one more k.takings k.fault (clean_one s at bytes m one n e) k.ends }

ends_by : (turns : ℕ) (s : Stage) (at : ℕ) (bytes : List ℕ) (more : Bool) → length bytes < turns → SomeEnd s at bytes more
ends_by zero s at bytes more le = absurd (omega arith)
ends_by (suc turns) s at bytes more le = ends_next turns (ends_by turns) s at bytes more le (next s at bytes) refl

pub ends_total : (s : Stage) (at : ℕ) (bytes : List ℕ) (more : Bool) → SomeEnd s at bytes more
ends_total s at bytes more = ends_by (suc (length bytes)) s at bytes more (omega arith)

-- there is one end alone
stop_or_on : (more : Bool) (s : Stage) (at : ℕ) (bytes : List ℕ) (e : Option FormatFault) (m : Stage) (one : List Taking) (n : ℕ) → closing more s at bytes (next s at bytes) ≡ Some e → next s at bytes ≡ onward m one n → ⊥
stop_or_on more s at bytes e m one n h k = let x = rw k at h in cc

ends_alone : (is js : List Item) (s : Stage) (at : ℕ) (bytes : List ℕ) (more : Bool) (t u : Stage) (to so : ℕ) (rest left : List ℕ) (ts us : List Taking) (e f : Option FormatFault)
    → bytes ≡ flat_map text_of is ++ rest → bytes ≡ flat_map text_of js ++ left → Runs s at is t ts → Runs s at js u us → to ≡ at + length (flat_map text_of is) → so ≡ at + length (flat_map text_of js)
    → closing more t to rest (next t to rest) ≡ Some e → closing more u so left (next u so left) ≡ Some f → (ts ≡ us) × (Some e ≡ Some f)
ends_alone [] [] s at bytes more t u to so rest left ts us e f a b r q x y c d =
    let tu : t ≡ u = r.0 ∙ sym q.0 in
    let tso : to ≡ so = omega arith in
    let rl : rest ≡ left = sym a ∙ b in
    (r.1 ∙ sym q.1, sym c ∙ ap (λ w. closing more w to rest (next w to rest)) tu ∙ ap (λ w. closing more u w rest (next u w rest)) tso ∙ ap (λ w. closing more u so w (next u so w)) rl ∙ d)
ends_alone [] (j ∷ js) s at bytes more t u to so rest left ts us e f a b r q x y c d =
    let here : next s at (text_of j ++ (flat_map text_of js ++ left)) ≡ onward q.0 q.1 (length (text_of j)) = item_met s at j (flat_map text_of js ++ left) q.0 q.1 q.3 q.4 in
    let w : bytes ≡ text_of j ++ (flat_map text_of js ++ left) = b ∙ ap (λ z. z ++ left) (flat_map-cons text_of j js) ∙ append_assoc (text_of j) (flat_map text_of js) left in
    let st : to ≡ at = omega arith in
    let cc1 = subst (λ z. closing more z to rest (next z to rest) ≡ Some e) r.0 c in
    let cc2 = subst (λ z. closing more s z rest (next s z rest) ≡ Some e) st cc1 in
    let rb : rest ≡ text_of j ++ (flat_map text_of js ++ left) = sym a ∙ w in
    let cc3 = subst (λ z. closing more s at z (next s at z) ≡ Some e) rb cc2 in
    absurd (stop_or_on more s at (text_of j ++ (flat_map text_of js ++ left)) e q.0 q.1 (length (text_of j)) cc3 here)
ends_alone (i ∷ is) [] s at bytes more t u to so rest left ts us e f a b r q x y c d =
    let here : next s at (text_of i ++ (flat_map text_of is ++ rest)) ≡ onward r.0 r.1 (length (text_of i)) = item_met s at i (flat_map text_of is ++ rest) r.0 r.1 r.3 r.4 in
    let w : bytes ≡ text_of i ++ (flat_map text_of is ++ rest) = a ∙ ap (λ z. z ++ rest) (flat_map-cons text_of i is) ∙ append_assoc (text_of i) (flat_map text_of is) rest in
    let st : so ≡ at = omega arith in
    let cc1 = subst (λ z. closing more z so left (next z so left) ≡ Some f) q.0 d in
    let cc2 = subst (λ z. closing more s z left (next s z left) ≡ Some f) st cc1 in
    let rb : left ≡ text_of i ++ (flat_map text_of is ++ rest) = sym b ∙ w in
    let cc3 = subst (λ z. closing more s at z (next s at z) ≡ Some f) rb cc2 in
    absurd (stop_or_on more s at (text_of i ++ (flat_map text_of is ++ rest)) f r.0 r.1 (length (text_of i)) cc3 here)
ends_alone (i ∷ is) (j ∷ js) s at bytes more t u to so rest left ts us e f a b r q x y c d =
    let Ri : List ℕ = flat_map text_of is ++ rest in
    let Rj : List ℕ = flat_map text_of js ++ left in
    let wi : bytes ≡ text_of i ++ Ri = a ∙ ap (λ z. z ++ rest) (flat_map-cons text_of i is) ∙ append_assoc (text_of i) (flat_map text_of is) rest in
    let wj : bytes ≡ text_of j ++ Rj = b ∙ ap (λ z. z ++ left) (flat_map-cons text_of j js) ∙ append_assoc (text_of j) (flat_map text_of js) left in
    let hi : next s at bytes ≡ onward r.0 r.1 (length (text_of i)) = ap (next s at) wi ∙ item_met s at i Ri r.0 r.1 r.3 r.4 in
    let hj : next s at bytes ≡ onward q.0 q.1 (length (text_of j)) = ap (next s at) wj ∙ item_met s at j Rj q.0 q.1 q.3 q.4 in
    let same : onward r.0 r.1 (length (text_of i)) ≡ onward q.0 q.1 (length (text_of j)) = sym hi ∙ hj in
    let m : r.0 ≡ q.0 = cc in
    let o : r.1 ≡ q.1 = cc in
    let n : length (text_of i) ≡ length (text_of j) = cc in
    let di : drop (length (text_of i)) bytes ≡ Ri = ap (drop (length (text_of i))) wi ∙ drop_at (text_of i) Ri (length (text_of i)) refl in
    let dj : drop (length (text_of i)) bytes ≡ Rj = ap (drop (length (text_of i))) wj ∙ drop_at (text_of j) Rj (length (text_of i)) (sym n) in
    let li = ap length (flat_map-cons text_of i is) ∙ length-append (text_of i) (flat_map text_of is) in
    let lj = ap length (flat_map-cons text_of j js) ∙ length-append (text_of j) (flat_map text_of js) in
    let k = ends_alone is js r.0 (at + length (text_of i)) (drop (length (text_of i)) bytes) more t u to so rest left r.2 q.2 e f di dj r.5
    (subst (λ z. Runs r.0 (at + z) js u q.2) (sym n) (subst (λ z. Runs z (at + length (text_of j)) js u q.2) (sym m) q.5))
    (omega (arith, x, li)) (omega (arith, y, lj, n)) c d in
    (r.6 ∙ ap (λ z. z ++ r.2) o ∙ ap (λ z. q.1 ++ z) k.0 ∙ sym q.6, k.1)

pub ends_unique : (s : Stage) (at : ℕ) (bytes : List ℕ) (more : Bool) (ts us : List Taking) (e f : Option FormatFault) → Ends s at bytes more ts e → Ends s at bytes more us f → (ts ≡ us) × (e ≡ f)
ends_unique s at bytes more ts us e f p q =
    let k = ends_alone p.clean.items q.clean.items s at bytes more p.stage q.stage p.to q.to p.rest q.rest ts us e f p.clean.text q.clean.text p.clean.runs q.clean.runs p.clean.here q.clean.here p.stops q.stops in
    (k.0, cc)

-- an archive is what ends without a fault
pub content_ends : (bytes : List ℕ) (ts : List Taking) → Content bytes ts → EndsOf bytes ts None
unfolding next ending
content_ends bytes ts c =
    let no : nat_lt limit (length bytes) ≡ false = le-ltb limit (length bytes) c.within in
    let all : take limit bytes ≡ bytes = take_all limit bytes c.within in
    record {
      stage = c.stage;
      to = length (flat_map text_of c.items);
      rest = [];
      clean = record { items = c.items; text = all ∙ c.text ∙ sym (append-nil _); runs = c.runs; here = omega arith };
      stops = rw (no, c.closed) (ap Some c.ended);
    }

closes : (more : Bool) (s : Stage) (at : ℕ) (rest : List ℕ) (x : Next) → closing more s at rest x ≡ Some None → ending more s at rest ≡ None
closes more s at rest short h = cc
closes more s at rest (onward m one n) h = absurd (cc)
closes more s at rest (wrong f) h = absurd (cc)

at_blocks : (p : Place) (s : Stage) (at : ℕ) (rest : List ℕ) → at_end p s at rest ≡ None → (p ≡ Blocks) × (rest ≡ []) × (open_of s.seen ≡ None)
at_blocks Blocks s at [] h = (refl, refl, h)
at_blocks Blocks s at (b ∷ bs) h = absurd (cc)
at_blocks Front s at rest h = absurd (cc)
at_blocks Header s at rest h = absurd (cc)
at_blocks Metas s at rest h = absurd (cc)
at_blocks (Inside i) s at rest h = absurd (cc)
at_blocks (Ending i said) s at rest h = absurd (cc)

no_more : (more : Bool) (s : Stage) (at : ℕ) (rest : List ℕ) → ending more s at rest ≡ None → (more ≡ false) × (at_end s.place s at rest ≡ None)
unfolding ending
no_more true s at rest h = absurd (cc)
no_more false s at rest h = (refl, h)

pub ends_content : (bytes : List ℕ) (ts : List Taking) → EndsOf bytes ts None → Content bytes ts
ends_content bytes ts e =
    let c = e.clean in
    let k = no_more (nat_lt limit (length bytes)) e.stage e.to e.rest (closes (nat_lt limit (length bytes)) e.stage e.to e.rest (next e.stage e.to e.rest) e.stops) in
    let b = at_blocks e.stage.place e.stage e.to e.rest k.1 in
    let le : length bytes ≤ limit = ltb-false limit (length bytes) k.0 in
    let all : take limit bytes ≡ bytes = take_all limit bytes le in
    record {
      items = c.items;
      stage = e.stage;
      within = le;
      text = sym all ∙ c.text ∙ ap (λ x. flat_map text_of c.items ++ x) b.1 ∙ append-nil _;
      runs = c.runs;
      closed = b.0;
      ended = b.2;
    }
