-- Histories and windows up to a limit.
use Rattle.std.proofs.Common.{◌≡◌, List, [], ◌∷◌, ◌++◌, Bool, true, false, cond, refl, sym, ap, ◌∙◌, Option, Some, None, inl, inr}
use Rattle.std.specs.Prelude.{⊤, ◌⊎◌, filter, map as each}
use Rattle.std.proofs.lemmas.Bool.{false_from_ne_true}
use Rattle.std.proofs.lemmas.Bool.{cases_Bool}
use Rattle.bson_value.specs.declared.value.Ts.{Ts}
use Rattle.history_model.specs.Entries.{OplogEntry}
use Rattle.history_model.specs.Stages.{Write, earlier, Made, entry_of}
use Rattle.history_model.specs.Histories.{history_of}
use Rattle.history_model.specs.Recordings.{EachMade}
use Rattle.history_model.specs.Invariants.{RisesTo}
use Rattle.history_model.specs.Histories.{is_before}
use Rattle.history_model.specs.Laws.{IsLate}
use Rattle.history_model.proofs.Order.{earlier_trans, earlier_below}
use Rattle.history_model.proofs.Inductive.{each_map, all_above}

-- ---- a history that rises, cut at a limit

abbrev pub Earlier : Option Ts → Made → Type 0
Earlier l m = is_before l m.ts ≡ true

abbrev pub Late : Option Ts → Made → Type 0
Late l m = is_before l m.ts ≡ false

pub record Cut (l : Option Ts) (ms : List Made) : Type 0 where
  pub front : List Made
  pub back : List Made
  pub whole : ms ≡ front ++ back
  pub earlier : EachMade (Earlier l) front
  pub late : EachMade (Late l) back

all_earlier : (ms : List Made) → EachMade (Earlier None) ms
all_earlier [] = tt
all_earlier (m ∷ ms) = (refl, all_earlier ms)

pub append_none : (xs : List Made) → xs ++ [] ≡ xs
append_none [] = refl
append_none (x ∷ xs) = ap (λ (z : List Made). x ∷ z) (append_none xs)

pub still_late : (a b l : Ts) → earlier a l ≡ false → earlier a b ≡ true → earlier b l ≡ false
still_late a b l f g = false_from_ne_true (earlier b l) (λ h. (let k = earlier_trans a b l g h in cc))

pub cut_at : (l : Option Ts) (ms : List Made) (low high : Ts) → RisesTo low ms high → Cut l ms
cut_at None ms low high h = record { front = ms; back = []; whole = sym (append_none ms); earlier = all_earlier ms; late = tt }
cut_at (Some l) [] low high h = record { front = []; back = []; whole = refl; earlier = tt; late = tt }
cut_at (Some l) (m ∷ ms) low high h = by (cases_Bool (earlier m.ts l)) (cut_at (Some l) ms m.ts high h.1)
  where
    by : (earlier m.ts l ≡ true) ⊎ (earlier m.ts l ≡ false) → Cut (Some l) ms → Cut (Some l) (m ∷ ms)
    by (inl s) c = record { front = m ∷ c.front; back = c.back; whole = ap (λ (z : List Made). m ∷ z) c.whole; earlier = (s, c.earlier); late = c.late }
    by (inr s) c = record {
      front = [];
      back = m ∷ ms;
      whole = refl;
      earlier = tt;
      late = (s, each_map (λ (x : Made). earlier m.ts x.ts ≡ true) (Late (Some l)) (λ x g. still_late m.ts x.ts l s g) ms (all_above ms m.ts high h.1));
    }

-- what isn't later than a moment before the limit is before the limit
pub before_limit : (l : Option Ts) (last ts : Ts) → IsLate l last → earlier last ts ≡ false → is_before l ts ≡ true
before_limit None last ts h f = refl
before_limit (Some l) last ts h f = earlier_below last ts l f h

-- ---- filters over what was made

abbrev pub AllPass : (Ts → Bool) → Bool → List Made → Type 0
AllPass t b ms = EachMade (λ (m : Made). t m.ts ≡ b) ms

history_pass : (t : Ts → Bool) (ms ns : List Made) → AllPass t true ms → filter (λ (e : Ts × Write). t e.0) (history_of (ms ++ ns)) ≡ history_of ms ++ filter (λ (e : Ts × Write). t e.0) (history_of ns)
history_pass t [] ns h = refl
history_pass t (m ∷ ms) ns h =
    ap (λ (b : Bool). cond b ((m.ts, m.write) ∷ filter (λ (e : Ts × Write). t e.0) (history_of (ms ++ ns))) (filter (λ (e : Ts × Write). t e.0) (history_of (ms ++ ns)))) h.0
    ∙ ap (λ (z : List (Ts × Write)). (m.ts, m.write) ∷ z) (history_pass t ms ns h.1)

history_fail : (t : Ts → Bool) (ms : List Made) → AllPass t false ms → filter (λ (e : Ts × Write). t e.0) (history_of ms) ≡ []
history_fail t [] h = refl
history_fail t (m ∷ ms) h =
    ap (λ (b : Bool). cond b ((m.ts, m.write) ∷ filter (λ (e : Ts × Write). t e.0) (history_of ms)) (filter (λ (e : Ts × Write). t e.0) (history_of ms))) h.0 ∙ history_fail t ms h.1

history_none : (xs : List (Ts × Write)) → xs ++ [] ≡ xs
history_none [] = refl
history_none (x ∷ xs) = ap (λ (z : List (Ts × Write)). x ∷ z) (history_none xs)

-- the writes that pass are the front
pub history_front : (t : Ts → Bool) (ms ns : List Made) → AllPass t true ms → AllPass t false ns → filter (λ (e : Ts × Write). t e.0) (history_of (ms ++ ns)) ≡ history_of ms
history_front t ms ns a b = history_pass t ms ns a ∙ (ap (λ (z : List (Ts × Write)). history_of ms ++ z) (history_fail t ns b) ∙ history_none (history_of ms))

-- two filters, of which the first passes all of a front and nothing behind it
entries_fail : (u v : Ts → Bool) (ms : List Made) → EachMade (λ (m : Made). (v m.ts ≡ false) ⊎ (u m.ts ≡ false)) ms → filter (λ (e : OplogEntry). u e.ts) (filter (λ (e : OplogEntry). v e.ts) (each entry_of ms)) ≡ []
entries_fail u v [] h = refl
entries_fail u v (m ∷ ms) h = by h.0 (entries_fail u v ms h.1)
  where
    by : (v m.ts ≡ false) ⊎ (u m.ts ≡ false) → filter (λ (e : OplogEntry). u e.ts) (filter (λ (e : OplogEntry). v e.ts) (each entry_of ms)) ≡ [] → filter (λ (e : OplogEntry). u e.ts) (filter (λ (e : OplogEntry). v e.ts) (each entry_of (m ∷ ms))) ≡ []
    by (inl f) g = ap (λ (b : Bool). filter (λ (e : OplogEntry). u e.ts) (cond b (entry_of m ∷ filter (λ (e : OplogEntry). v e.ts) (each entry_of ms)) (filter (λ (e : OplogEntry). v e.ts) (each entry_of ms)))) f ∙ g
    by (inr f) g = on (v m.ts) f g
      where
        on : (b : Bool) → u m.ts ≡ false → filter (λ (e : OplogEntry). u e.ts) (filter (λ (e : OplogEntry). v e.ts) (each entry_of ms)) ≡ [] →
            filter (λ (e : OplogEntry). u e.ts) (cond b (entry_of m ∷ filter (λ (e : OplogEntry). v e.ts) (each entry_of ms)) (filter (λ (e : OplogEntry). v e.ts) (each entry_of ms))) ≡ []
        on true f g = ap (λ (b : Bool). cond b (entry_of m ∷ filter (λ (e : OplogEntry). u e.ts) (filter (λ (e : OplogEntry). v e.ts) (each entry_of ms))) (filter (λ (e : OplogEntry). u e.ts) (filter (λ (e : OplogEntry). v e.ts) (each entry_of ms)))) f ∙ g
        on false f g = g

abbrev pub EachOf : (OplogEntry → Type 0) → List OplogEntry → Type 0
EachOf P [] = ⊤
EachOf P (e ∷ es) = P e × EachOf P es

pub of_made : (P : OplogEntry → Type 0) (ms : List Made) → EachMade (λ (m : Made). P (entry_of m)) ms → EachOf P (each entry_of ms)
of_made P [] h = tt
of_made P (m ∷ ms) h = (h.0, of_made P ms h.1)

-- a front on which the first passes and the second is w
pub entries_front : (u v w : Ts → Bool) (es : List OplogEntry) (ms : List Made) → EachOf (λ (e : OplogEntry). (u e.ts ≡ true) × (v e.ts ≡ w e.ts)) es → EachMade (λ (m : Made). (v m.ts ≡ false) ⊎ (u m.ts ≡ false)) ms →
    filter (λ (e : OplogEntry). u e.ts) (filter (λ (e : OplogEntry). v e.ts) (es ++ each entry_of ms)) ≡ filter (λ (e : OplogEntry). w e.ts) es
entries_front u v w [] ms h g = entries_fail u v ms g
entries_front u v w (e ∷ es) ms h g = by (w e.ts) refl (entries_front u v w es ms h.1 g)
  where
    F : Bool → List OplogEntry → List OplogEntry
    F b xs = filter (λ (e : OplogEntry). u e.ts) (cond b (e ∷ xs) xs)

    by : (b : Bool) → w e.ts ≡ b → filter (λ (e : OplogEntry). u e.ts) (filter (λ (e : OplogEntry). v e.ts) (es ++ each entry_of ms)) ≡ filter (λ (e : OplogEntry). w e.ts) es →
        filter (λ (e : OplogEntry). u e.ts) (filter (λ (e : OplogEntry). v e.ts) (e ∷ (es ++ each entry_of ms))) ≡ cond (w e.ts) (e ∷ filter (λ (e : OplogEntry). w e.ts) es) (filter (λ (e : OplogEntry). w e.ts) es)
    by true f k =
        ap (λ (b : Bool). F b (filter (λ (e : OplogEntry). v e.ts) (es ++ each entry_of ms))) (h.0.1 ∙ f)
        ∙ (ap (λ (b : Bool). cond b (e ∷ filter (λ (e : OplogEntry). u e.ts) (filter (λ (e : OplogEntry). v e.ts) (es ++ each entry_of ms))) (filter (λ (e : OplogEntry). u e.ts) (filter (λ (e : OplogEntry). v e.ts) (es ++ each entry_of ms)))) h.0.0
        ∙ (ap (λ (z : List OplogEntry). e ∷ z) k ∙ sym (ap (λ (b : Bool). cond b (e ∷ filter (λ (e : OplogEntry). w e.ts) es) (filter (λ (e : OplogEntry). w e.ts) es)) f)))
    by false f k =
        ap (λ (b : Bool). F b (filter (λ (e : OplogEntry). v e.ts) (es ++ each entry_of ms))) (h.0.1 ∙ f)
        ∙ (k ∙ sym (ap (λ (b : Bool). cond b (e ∷ filter (λ (e : OplogEntry). w e.ts) es) (filter (λ (e : OplogEntry). w e.ts) es)) f))
