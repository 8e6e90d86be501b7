-- A document that stands, as a look shows it.
use Rattle.std.proofs.Common.{◌≡◌, ℕ, List, [], ◌∷◌, length, Bool, true, false, refl, sym, ap, ◌∙◌, arith, Option, Some, None}
use Rattle.std.specs.Prelude.{option_map, nat_le, if◌then◌else◌}
use Rattle.std.proofs.lemmas.Bool.{leb-true, and_parts}
use Rattle.bson_value.specs.Levels.{levels_of}
use Rattle.bson_value.specs.Spelling.{document_text}
use Rattle.bson_check.specs.Faults.{first_fault, FaultlessIfSpelled}
use Rattle.bson_check.specs.Spells.{Spells}
use Rattle.bson_view.specs.declared.held.Held.{Held}
use Rattle.bson_view.specs.Held.{held_document}
use Rattle.coll_state.specs.Kept.{Look, bytes, fields, look, look_of, is_short, shown, shown_in}
use Rattle.coll_state.specs.Rows.{Document, Row}
use Rattle.coll_state.specs.Walks.{looks, item_of}

shown_look : (h : Held) (d : Document) → shown_in h ≡ shown d → look_of h ≡ look (held_document h)
shown_look h d e = ap (λ (x : Document × Look). x.1) e ∙ ap look (sym (ap (λ (x : Document × Look). x.0) e))

same_shown : (a b : Document × Look) → Some a ≡ Some b → a ≡ b
same_shown a b e = cc

pub found_look : (h : Held) (o : Option Document) → Some (shown_in h) ≡ option_map shown o → look_of h ≡ look (held_document h)
found_look h None e = cc
found_look h (Some d) e = shown_look h d (same_shown (shown_in h) (shown d) e)

first_item : (a b : ℕ × (Document × Look)) (xs ys : List (ℕ × (Document × Look))) → a ∷ xs ≡ b ∷ ys → a ≡ b
first_item a b xs ys e = cc

pub walked_look : (item : ℕ × Held) (rs : List Row) (rest : List (ℕ × (Document × Look))) → looks rs ≡ item_of item ∷ rest → look_of item.1 ≡ look (held_document item.1)
walked_look item [] rest e = cc
walked_look item (r ∷ rs) rest e = shown_look item.1 r.document (sym (ap (λ (x : ℕ × (Document × Look)). x.1) (first_item (r.no, shown r.document) (item_of item) (looks rs) rest e)))

same_bytes : (a b : List ℕ) → bytes a ≡ bytes b → a ≡ b
same_bytes a b e = cc

no_fields : (a : List ℕ) (d : Document) → bytes a ≡ fields d → ⊥
no_fields a d e = cc

-- bytes that are looked at are few, and of few levels
pub faultless : FaultlessIfSpelled → (b : List ℕ) (d : Document) → bytes b ≡ look d → Spells b d → first_fault 16793600 200 b ≡ None
faultless law b d e s = by (is_short d) refl e
  where
    by : (x : Bool) → is_short d ≡ x → bytes b ≡ (if x then bytes (document_text d) else fields d) → first_fault 16793600 200 b ≡ None
    by true f g =
        (let p = and_parts (nat_le (length (document_text d)) 16777216) (nat_le (levels_of d) 100) f in
        let n = leb-true (length (document_text d)) 16777216 p.0 in
        let l = leb-true (levels_of d) 100 p.1 in
        let k = ap length (same_bytes b (document_text d) g) in
        (law 16793600 200 b).1 (d, record { spells = s; short = omega (arith, n, k); shallow = omega (arith, l) }))
    by false f g = absurd (no_fields b d g)
