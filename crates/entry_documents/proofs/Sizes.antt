-- The bytes and the levels of an entry.
use Rattle.std.proofs.Common.{◌≡◌, ℕ, ◌+◌, ◌*◌, max, List, [], ◌∷◌, length, map, sym, ap, ◌∙◌, arith}
use Rattle.std.specs.Prelude.{ℤ, codes, pos, Option, Some, None}
use Rattle.std.proofs.lemmas.List.{length-append}
use Rattle.bson_value.specs.declared.value.Value.{Value, Value-F, Object, Str, Long, Date, Stamp, fold-roll-Value}
use Rattle.bson_value.specs.declared.value.Value.TheVariants.{rolls-Long, rolls-Date, rolls-Stamp}
use Rattle.bson_value.specs.declared.value.Ts.{Ts}
use Rattle.bson_value.specs.Levels.{largest, levels_of, levels_in, levels_step}
use Rattle.bson_value.specs.Spelling.{Typed, spelling, spelling_step, spelled, element, elements_of, document_text}
use Rattle.bson_value.proofs.Sizes.{document_length, spelled-object, levels-object, spelled-str, levels-str, element_length}
use Rattle.entry_model.specs.Written.{Fields}
use Rattle.entry_model.specs.Spelling.{Body, body_fields, with_o2, wall}
use Rattle.entry_documents.specs.Laws.{fields_at, item_fields, size_in, part_sizes, EntrySizes, ItemSizes, EntryLevels, ItemLevels}
use Rattle.entry_documents.specs.Laws as laws

spelled-long : (z : ℤ) → length (spelled (Long z)) ≡ 8
spelled-long z = ap (λ (v : Value). length (spelled v)) (sym (rolls-Long z)) ∙ ap (λ (p : Typed). length p.1) (fold-roll-Value Typed spelling_step (Value-F.Long z))

spelled-date : (z : ℤ) → length (spelled (Date z)) ≡ 8
spelled-date z = ap (λ (v : Value). length (spelled v)) (sym (rolls-Date z)) ∙ ap (λ (p : Typed). length p.1) (fold-roll-Value Typed spelling_step (Value-F.Date z))

spelled-stamp : (ts : Ts) → length (spelled (Stamp ts)) ≡ 8
spelled-stamp ts = ap (λ (v : Value). length (spelled v)) (sym (rolls-Stamp ts)) ∙ ap (λ (p : Typed). length p.1) (fold-roll-Value Typed spelling_step (Value-F.Stamp ts))

levels-long : (z : ℤ) → levels_in (Long z) ≡ 0
unfolding levels_in
levels-long z = ap levels_in (sym (rolls-Long z)) ∙ fold-roll-Value ℕ levels_step (Value-F.Long z)

levels-date : (z : ℤ) → levels_in (Date z) ≡ 0
unfolding levels_in
levels-date z = ap levels_in (sym (rolls-Date z)) ∙ fold-roll-Value ℕ levels_step (Value-F.Date z)

levels-stamp : (ts : Ts) → levels_in (Stamp ts) ≡ 0
unfolding levels_in
levels-stamp ts = ap levels_in (sym (rolls-Stamp ts)) ∙ fold-roll-Value ℕ levels_step (Value-F.Stamp ts)

pub elements_size : (n : List ℕ) (v : Value) (fs : Fields) → length (elements_of ((n, v) ∷ fs)) ≡ length n + length (spelled v) + 2 + length (elements_of fs)
elements_size n v fs = omega (arith, length-append (element (n, spelling v)) (elements_of fs), element_length n v)

o_size : (d fs : Fields) → length (elements_of ((codes "o", Object d) ∷ fs)) ≡ length (document_text d) + 3 + length (elements_of fs)
o_size d fs = omega (arith, elements_size (codes "o") (Object d) fs, spelled-object d)

o2_size : (o : Option Fields) (fs : Fields) → length (elements_of (with_o2 o fs)) ≡ size_in o + length (elements_of fs)
o2_size None fs = omega arith
o2_size (Some d) fs = omega (arith, elements_size (codes "o2") (Object d) fs, spelled-object d)

body_size : (b : Body) (fs : Fields) → length (elements_of (body_fields b fs)) ≡ part_sizes b + 21 + length (elements_of fs)
body_size b fs = omega (
  arith,
  elements_size (codes "op") (Str b.op) ((codes "ns", Str b.ns) ∷ with_o2 b.o2 ((codes "o", Object b.o) ∷ fs)),
  elements_size (codes "ns") (Str b.ns) (with_o2 b.o2 ((codes "o", Object b.o) ∷ fs)),
  o2_size b.o2 ((codes "o", Object b.o) ∷ fs),
  o_size b.o fs,
  spelled-str b.op,
  spelled-str b.ns,
)

pub item_sizes : ItemSizes
item_sizes b = omega (arith, document_length (item_fields b), body_size b [])

pub entry_sizes : EntrySizes
entry_sizes ts b =
    let last : Fields = (codes "wall", wall ts.secs) ∷ [] in
    let body : Fields = body_fields b last in
    omega (
      arith,
      document_length (fields_at ts b),
      elements_size (codes "ts") (Stamp ts) ((codes "t", Long (pos 1)) ∷ (codes "v", Long (pos 2)) ∷ body),
      elements_size (codes "t") (Long (pos 1)) ((codes "v", Long (pos 2)) ∷ body),
      elements_size (codes "v") (Long (pos 2)) body,
      body_size b last,
      elements_size (codes "wall") (wall ts.secs) [],
      spelled-stamp ts,
      spelled-long (pos 1),
      spelled-long (pos 2),
      spelled-date (pos (ts.secs * 1000)),
    )

field_levels : Fields → ℕ
field_levels fs = largest (map (λ e. levels_in e.1) fs)

o2_levels : (o : Option Fields) (fs : Fields) → field_levels (with_o2 o fs) ≡ max (laws.levels_in o) (field_levels fs)
unfolding field_levels
o2_levels None fs = omega arith
o2_levels (Some d) fs = omega (arith, levels-object d)

body_levels : (b : Body) (fs : Fields) → field_levels (body_fields b fs) ≡ max (laws.levels_in b.o2) (max (levels_of b.o) (field_levels fs))
unfolding field_levels
body_levels b fs = omega (arith, levels-str b.op, levels-str b.ns, o2_levels b.o2 ((codes "o", Object b.o) ∷ fs), levels-object b.o)

pub item_levels : ItemLevels
unfolding field_levels
item_levels b = omega (arith, body_levels b [])

pub entry_levels : EntryLevels
unfolding field_levels
entry_levels ts b = omega (arith, levels-stamp ts, levels-long (pos 1), levels-long (pos 2), body_levels b ((codes "wall", wall ts.secs) ∷ []), levels-date (pos (ts.secs * 1000)))
