-- Each literal but the last is taken at its leftmost place: that leaves the most for those behind it.
use Rattle.std.proofs.Common.{◌≡◌, ◌≢◌, ℕ, suc, ◌+◌, List, [], ◌∷◌, ◌++◌, inl, inr, ◌↔◌, length, refl, sym, ap, ◌∙◌, subst, append_assoc, arith, length-append}
use Rattle.std.proofs.lemmas.List.{append_cancel_left, append-nil}
use Rattle.ns_patterns.specs.Literals.{Literals}
use Rattle.ns_patterns.specs.Matches.{filled_behind, Matches, NoLonger, IsShortest}
use Rattle.ns_patterns.specs.Search.{IsFirst}
use Rattle.ns_patterns.proofs.Search.{overlap}

-- these texts fill the stars of the literals behind them, and make the rest of a name
pub record Fills (ls : List (List ℕ)) (rest : List ℕ) (ts : List (List ℕ)) : Type 0 where
  pub one_each : length ts ≡ length ls
  pub makes : rest ≡ filled_behind ls ts

pub record Filled (ls : List (List ℕ)) (rest : List ℕ) : Type 0 where
  pub texts : List (List ℕ)
  pub fills : Fills ls rest texts

-- what is filled is filled with more in front of it
pub widened : (l : List ℕ) (ls : List (List ℕ)) (x rest : List ℕ) → Filled (l ∷ ls) rest → Filled (l ∷ ls) (x ++ rest)
widened l ls x rest f = go f.texts f.fills where
  go : (ts : List (List ℕ)) → Fills (l ∷ ls) rest ts → Filled (l ∷ ls) (x ++ rest)
  go [] s = absurd (omega (arith, s.one_each))
  go (t ∷ ts) s = record {
    texts = (x ++ t) ∷ ts;
    fills = record {
      one_each = s.one_each;
      makes = ap (λ (xs : List ℕ). x ++ xs) s.makes ∙ sym (append_assoc x t (l ++ filled_behind ls ts));
    };
  }

pub widened_all : (ls : List (List ℕ)) (last : List ℕ) (x rest : List ℕ) → Filled (ls ++ last ∷ []) rest → Filled (ls ++ last ∷ []) (x ++ rest)
widened_all [] last x rest f = widened last [] x rest f
widened_all (l ∷ ls) last x rest f = widened l (ls ++ last ∷ []) x rest f

-- where a later place of a literal leaves this rest, the leftmost one leaves more in front of it
pub record Leaves (t u after rest : List ℕ) : Type 0 where
  pub more : List ℕ
  pub is : after ≡ more ++ rest
  pub shorter : length u ≡ length t + length more

pub leaves : (l bytes t after u rest : List ℕ) → IsFirst l bytes t after → bytes ≡ u ++ (l ++ rest) → Leaves t u after rest
leaves l bytes t after u rest at e =
    let o = overlap (t ++ l) (u ++ l) after rest (append_assoc t l after ∙ (sym at.here ∙ (e ∙ sym (append_assoc u l rest)))) (omega (arith, at.first u rest e, length-append t l, length-append u l)) in
    record { more = o.between; is = o.rest; shorter = omega (arith, ap length o.longer, length-append (t ++ l) o.between, length-append t l, length-append u l) }

-- literals that are filled with more in front, as all are but none
abbrev pub Wide : List (List ℕ) → Type 0
Wide ls = (x rest : List ℕ) → Filled ls rest → Filled ls (x ++ rest)

pub leftmost : (l bytes t after : List ℕ) (ls : List (List ℕ)) → Wide ls → IsFirst l bytes t after → Filled (l ∷ ls) bytes ↔ Filled ls after
leftmost l bytes t after ls wide at = (λ f. go f.texts f.fills, back) where
  go : (ts : List (List ℕ)) → Fills (l ∷ ls) bytes ts → Filled ls after
  go [] s = absurd (omega (arith, s.one_each))
  go (u ∷ us) s =
      let m = leaves l bytes t after u (filled_behind ls us) at s.makes in
      let rest : Filled ls (filled_behind ls us) = record { texts = us; fills = record { one_each = omega (arith, s.one_each); makes = refl } } in
      subst (λ (b : List ℕ). Filled ls b) (sym m.is) (wide m.more _ rest)

  back : Filled ls after → Filled (l ∷ ls) bytes
  back f = record { texts = t ∷ f.texts; fills = record { one_each = ap suc f.fills.one_each; makes = at.here ∙ ap (λ (b : List ℕ). t ++ (l ++ b)) f.fills.makes } }

-- the last literal stands at the end
pub last_filled : (last bytes : List ℕ) → ((t : List ℕ) × (bytes ≡ t ++ last)) ↔ Filled (last ∷ []) bytes
last_filled last bytes = (to, λ f. back f.texts f.fills) where
  to : ((t : List ℕ) × (bytes ≡ t ++ last)) → Filled (last ∷ []) bytes
  to h = record { texts = h.0 ∷ []; fills = record { one_each = refl; makes = h.1 ∙ ap (λ (b : List ℕ). h.0 ++ b) (sym (append-nil last)) } }

  back : (ts : List (List ℕ)) → Fills (last ∷ []) bytes ts → (t : List ℕ) × (bytes ≡ t ++ last)
  back [] s = absurd (omega (arith, s.one_each))
  back (t ∷ ts) s = (t, s.makes ∙ ap (λ (b : List ℕ). t ++ b) (append-nil last))

pub nowhere_filled : (l bytes : List ℕ) (ls : List (List ℕ)) → ((t r : List ℕ) → bytes ≢ t ++ (l ++ r)) → Filled (l ∷ ls) bytes → ⊥
nowhere_filled l bytes ls missing f = go f.texts f.fills where
  go : (ts : List (List ℕ)) → Fills (l ∷ ls) bytes ts → ⊥
  go [] s = omega (arith, s.one_each)
  go (t ∷ ts) s = missing t (filled_behind ls ts) s.makes

-- ---- the first literal

pub first_literal : (p : Literals) (name rest : List ℕ) → name ≡ p.first ++ rest → Matches p name ↔ Filled p.behind rest
first_literal p name rest e = (
  λ m. record { texts = m.0; fills = record { one_each = m.1.one_each; makes = append_cancel_left p.first rest (filled_behind p.behind m.0) (sym e ∙ m.1.makes) } },
  λ f. (f.texts, record { one_each = f.fills.one_each; makes = e ∙ ap (λ (b : List ℕ). p.first ++ b) f.fills.makes }),
)

pub no_first_literal : (p : Literals) (name : List ℕ) → ((r : List ℕ) → name ≢ p.first ++ r) → Matches p name → ⊥
no_first_literal p name missing m = missing (filled_behind p.behind m.0) m.1.makes

pub no_stars : (bytes : List ℕ) → (bytes ≡ []) ↔ Filled [] bytes
no_stars bytes = (λ e. record { texts = []; fills = record { one_each = refl; makes = e } }, λ f. f.fills.makes)

-- ---- the shortest texts

pub record Shortest (ls : List (List ℕ)) (bytes : List ℕ) (ts : List (List ℕ)) : Type 0 where
  pub fills : Fills ls bytes ts
  pub least : (us : List (List ℕ)) → Fills ls bytes us → NoLonger ts us

pub shortest_first : (l bytes t after : List ℕ) (ls ts : List (List ℕ)) → IsFirst l bytes t after → Shortest ls after ts → Shortest (l ∷ ls) bytes (t ∷ ts)
shortest_first l bytes t after ls ts at s = record {
  fills = record { one_each = ap suc s.fills.one_each; makes = at.here ∙ ap (λ (b : List ℕ). t ++ (l ++ b)) s.fills.makes };
  least = least;
} where
  least : (us : List (List ℕ)) → Fills (l ∷ ls) bytes us → NoLonger (t ∷ ts) us
  least [] f = absurd (omega (arith, f.one_each))
  least (u ∷ us) f = go (leaves l bytes t after u (filled_behind ls us) at f.makes) where
    as_long : (more : List ℕ) → after ≡ more ++ filled_behind ls us → length u ≡ length t + length more → NoLonger (t ∷ ts) (u ∷ us)
    as_long [] is e = inr (omega (arith, e), s.least us (record { one_each = omega (arith, f.one_each); makes = is }))
    as_long (x ∷ more) is e = inl (omega (arith, e))

    go : Leaves t u after (filled_behind ls us) → NoLonger (t ∷ ts) (u ∷ us)
    go m = as_long m.more m.is m.shorter

pub shortest_last : (l bytes t : List ℕ) → bytes ≡ t ++ l → Shortest (l ∷ []) bytes (t ∷ [])
shortest_last l bytes t e = record {
  fills = record { one_each = refl; makes = e ∙ ap (λ (b : List ℕ). t ++ b) (sym (append-nil l)) };
  least = least;
} where
  least : (us : List (List ℕ)) → Fills (l ∷ []) bytes us → NoLonger (t ∷ []) us
  least [] f = absurd (omega (arith, f.one_each))
  least (u ∷ us) f = inr (omega (arith, ap length f.makes, ap length e, length-append u (l ++ []), length-append l [], length-append t l), tt)

pub shortest_of_pattern : (p : Literals) (name rest : List ℕ) → name ≡ p.first ++ rest → (ts : List (List ℕ)) → Shortest p.behind rest ts → IsShortest p name ts
shortest_of_pattern p name rest e ts s = record {
  is = record { one_each = s.fills.one_each; makes = e ∙ ap (λ (b : List ℕ). p.first ++ b) s.fills.makes };
  least = λ us m. s.least us (record { one_each = m.one_each; makes = append_cancel_left p.first rest (filled_behind p.behind us) (sym e ∙ m.makes) });
}

pub shortest_of_none : Shortest [] [] []
shortest_of_none = record { fills = record { one_each = refl; makes = refl }; least = λ us f. tt }

-- ---- what the texts make

pub filled_push : (ls ts : List (List ℕ)) (l t : List ℕ) → length ts ≡ length ls → filled_behind (ls ++ l ∷ []) (ts ++ t ∷ []) ≡ filled_behind ls ts ++ (t ++ l)
filled_push [] [] l t e = ap (λ (b : List ℕ). t ++ b) (append-nil l)
filled_push [] (u ∷ ts) l t e = absurd (omega (arith, e))
filled_push (m ∷ ls) [] l t e = absurd (omega (arith, e))
filled_push (m ∷ ls) (u ∷ ts) l t e =
    ap (λ (b : List ℕ). u ++ (m ++ b)) (filled_push ls ts l t (omega (arith, e))) ∙ (ap (λ (b : List ℕ). u ++ b) (sym (append_assoc m (filled_behind ls ts) (t ++ l))) ∙ sym (append_assoc u (m ++ filled_behind ls ts) (t ++ l)))
