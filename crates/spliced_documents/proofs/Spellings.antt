-- Of the spelling of a document, another element in the place of the one of its name makes the spelling of the document with this field set, and its other elements that of the document without this field.
use Rattle.std.proofs.Common.{◌≡◌, ℕ, Bool, true, false, Option, Some, zero, suc, ◌<◌, ◌^◌, List, [], ◌∷◌, ◌++◌, length, map, refl, sym, ap, subst, ◌∙◌, append_assoc, inl, inr, arith}
use Rattle.std.specs.Prelude.{if◌then◌else◌}
use Rattle.std.specs.Str.{bytes_eq}
use Rattle.std.proofs.lemmas.Bool.{cases_Bool}
use Rattle.std.proofs.lemmas.List.{length-append, append_cancel_left}
use Rattle.std.proofs.lemmas.Slice.Eq.{bytes_eq-Decides}
use Rattle.containers.specs.Entries.{AreDistinct, IsAbsent, lookup, names_of, put, without}
use Rattle.containers.proofs.Entries.{without-absent}
use Rattle.bson_value.specs.declared.value.Value.{Value, out-Value}
use Rattle.bson_value.specs.Spelling.{document_text, element, elements_of, framed, spelled, spelling, tag_of}
use Rattle.bson_value.specs.WellFormed.{AreBytes}
use Rattle.bson_value.proofs.Runs.{front_bytes, back_bytes}
use Rattle.bson_check.specs.Spells.{type_byte, AreFields, IsDocument, Spells, SpellsWithin}
use Rattle.bson_encode.proofs.Grammar.{tag_is}
use Rattle.bson_view.specs.Parts.{Part, body_of, elements_in, part_bytes, parts_in, parts_of, SpellsValue}
use Rattle.bson_view.specs.Paths.{part_named}
use Rattle.bson_view.proofs.Bodies.{in_frame}
use Rattle.bson_view.proofs.Parting.{First, parts_on, bytes_are, fields_items}
use Rattle.bson_spelling.proofs.Fronts.{value_front}
use Rattle.spliced_documents.specs.Splicing.{cut, front_of, rest_of, spliced}
use Rattle.spliced_documents.proofs.Whole.{body_framed}

-- the limits of a document that is kept as its spelling are within those of any document
pub wider : (b : List ℕ) (fs : List (List ℕ × Value)) → SpellsWithin 16777216 100 b fs → SpellsWithin 16793600 200 b fs
wider b fs s = record { spells = s.spells; short = omega (arith, s.short); shallow = omega (arith, s.shallow) }

tail_of : List ℕ → List ℕ
tail_of [] = []
tail_of (x ∷ xs) = xs

-- the bytes of a value and of other elements, behind a type and a name
behind : (k b more : List ℕ) (t u : ℕ) (x : List ℕ) → t ∷ ((k ++ 0 ∷ []) ++ b) ≡ (u ∷ (k ++ 0 ∷ x)) ++ more → b ≡ x ++ more
unfolding tail_of
behind k b more t u x e = append_cancel_left (k ++ 0 ∷ []) b (x ++ more) (ap tail_of e ∙ append_assoc k (0 ∷ x) more ∙ sym (append_assoc k (0 ∷ []) (x ++ more)))

-- of two ways to choose by the same test
either : {G : Type 0} (r : Bool) (p q : Part) (v w : Value) (o : Option Part) (l : Option Value) → (if r then Some p else o) ≡ Some q → (if r then Some v else l) ≡ Some w → (p ≡ q → v ≡ w → G) → (o ≡ Some q → l ≡ Some w → G) → G
either true p q v w o l a h first later =
    let here : p ≡ q = cc in
    let same : v ≡ w = cc in
    first here same
either false p q v w o l a h first later = later a h

-- of the spelling of a document, the bytes of a field are the spelling of its value
module _ (k : List ℕ) where
  value_spelled : (n : ℕ) (b : List ℕ) (fs : List (List ℕ × Value)) → AreFields (SpellsValue n) b fs → b ≡ elements_of fs → AreBytes b → length b < 2 ^ 31 → (p : Part) (x : Value) → part_named k (parts_of b) ≡ Some p → lookup k fs ≡ Some x → (p.value ≡ spelled x) × AreBytes p.value
  unfolding parts_of parts_in
  value_spelled n b [] s is h small p x named has = absurd cc
  value_spelled n b (e ∷ es) s is h small p x named has =
      let more = map (λ d. d.1) es in
      let items = fields_items n s.1 es s.4 in
      let first = type_byte (out-Value e.1) in
      let name = e.0 ++ 0 ∷ [] in
      let rest = name ++ (s.0 ++ s.1) in
      let f : First n first rest (e.1 ∷ more) =
      record { name = e.0; value = e.1; spelling = s.0; others = s.1; more = more; is = refl; no_zero = s.2.no_zero; spells = s.3; kind = refl; parts = refl; left = items } in
      let q : Part = record { name = e.0; tag = first; value = s.0 } in
      let bytes : AreBytes (s.0 ++ s.1) = back_bytes name (s.0 ++ s.1) (back_bytes (first ∷ []) rest (subst AreBytes s.5 h)) in
      let size : length (s.0 ++ s.1) < 2 ^ 31 = omega (arith, small, ap length s.5, length-append name (s.0 ++ s.1)) in
      let both : s.0 ++ s.1 ≡ spelled e.1 ++ elements_of es = behind e.0 (s.0 ++ s.1) (elements_of es) first (tag_of e.1) (spelled e.1) (sym s.5 ∙ is) in
      let value : s.0 ≡ spelled e.1 = value_front first s.0 s.1 (elements_of es) e.1 (record { levels = n; kind = refl; spells = s.3 }) (front_bytes s.0 s.1 bytes) size both in
      let others : s.1 ≡ elements_of es = append_cancel_left s.0 s.1 (elements_of es) (both ∙ ap (λ (z : List ℕ). z ++ elements_of es) (sym value)) in
      let there : part_named k (q ∷ parts_of s.1) ≡ Some p = subst (λ (qs : List Part). part_named k qs ≡ Some p) (ap parts_of s.5 ∙ parts_on n first rest (e.1 ∷ more) f) named in
      either (bytes_eq e.0 k) q p e.1 x (part_named k (parts_of s.1)) (lookup k es) there has
      (λ here same. (ap (λ (z : Part). z.value) (sym here) ∙ value ∙ ap (λ (w : Value). spelled w) same, subst (λ (z : Part). AreBytes z.value) here (front_bytes s.0 s.1 bytes)))
      (λ a l. value_spelled n s.1 es s.4 others (back_bytes s.0 s.1 bytes) (omega (arith, size, length-append s.0 s.1)) p x a l)

  field_at : (n : ℕ) (b : List ℕ) (fs : List (List ℕ × Value)) → IsDocument n b fs → b ≡ document_text fs → AreBytes b → length b < 2 ^ 31 → (p : Part) (x : Value) → part_named k (elements_in b) ≡ Some p → lookup k fs ≡ Some x → (p.value ≡ spelled x) × AreBytes p.value
  unfolding IsDocument elements_in
  field_at zero b fs d is h small p x named has = absurd d
  field_at (suc n) b fs d is h small p x named has =
      let body = (in_frame b d.0 d.1).body in
      let text : d.0 ≡ elements_of fs = sym body ∙ ap body_of is ∙ body_framed (elements_of fs) in
      let frame = d.1 in
      let bytes : AreBytes d.0 = back_bytes frame.0 d.0 (front_bytes (frame.0 ++ d.0) (0 ∷ []) (subst AreBytes frame.2 h)) in
      let size : length d.0 < 2 ^ 31 = omega (arith, small, ap length frame.2, length-append (frame.0 ++ d.0) (0 ∷ []), length-append frame.0 d.0) in
      value_spelled n d.0 fs d.3 text bytes size p x (ap (λ (z : List ℕ). part_named k (parts_of z)) (sym body) ∙ named) has

  pub field_spelled : (b : List ℕ) (fs : List (List ℕ × Value)) → Spells b fs → b ≡ document_text fs → AreBytes b → (p : Part) (x : Value) → part_named k (elements_in b) ≡ Some p → lookup k fs ≡ Some x → (p.value ≡ spelled x) × AreBytes p.value
  unfolding Spells
  field_spelled b fs s is h p x named has = field_at s.1 b fs s.2 is h s.0 p x named has

module _ (k : List ℕ) (v : Value) where
  abbrev own : List ℕ
  own = element (k, spelling v)

  abbrev around : List Part → List ℕ
  around ps = front_of k ps ++ (own ++ rest_of k ps)

  around_is : (n : ℕ) (b : List ℕ) (fs : List (List ℕ × Value)) → AreFields (SpellsValue n) b fs → b ≡ elements_of fs → AreBytes b → length b < 2 ^ 31 → around (parts_of b) ≡ elements_of (put k v fs)
  unfolding parts_of parts_in
  around_is n b [] s is h small = subst (λ (x : List ℕ). around (parts_of x) ≡ elements_of ((k, v) ∷ [])) (sym s) refl
  around_is n b (e ∷ es) s is h small =
      let more = map (λ d. d.1) es in
      let items = fields_items n s.1 es s.4 in
      let first = type_byte (out-Value e.1) in
      let name = e.0 ++ 0 ∷ [] in
      let rest = name ++ (s.0 ++ s.1) in
      let f : First n first rest (e.1 ∷ more) =
      record { name = e.0; value = e.1; spelling = s.0; others = s.1; more = more; is = refl; no_zero = s.2.no_zero; spells = s.3; kind = refl; parts = refl; left = items } in
      let p : Part = record { name = e.0; tag = first; value = s.0 } in
      let ps = parts_of s.1 in
      let bytes : AreBytes (s.0 ++ s.1) = back_bytes name (s.0 ++ s.1) (back_bytes (first ∷ []) rest (subst AreBytes s.5 h)) in
      let size : length (s.0 ++ s.1) < 2 ^ 31 = omega (arith, small, ap length s.5, length-append name (s.0 ++ s.1)) in
      let both : s.0 ++ s.1 ≡ spelled e.1 ++ elements_of es = behind e.0 (s.0 ++ s.1) (elements_of es) first (tag_of e.1) (spelled e.1) (sym s.5 ∙ is) in
      let value : s.0 ≡ spelled e.1 = value_front first s.0 s.1 (elements_of es) e.1 (record { levels = n; kind = refl; spells = s.3 }) (front_bytes s.0 s.1 bytes) size both in
      let others : s.1 ≡ elements_of es = append_cancel_left s.0 s.1 (elements_of es) (both ∙ ap (λ (z : List ℕ). z ++ elements_of es) (sym value)) in
      let later = around_is n s.1 es s.4 others (back_bytes s.0 s.1 bytes) (omega (arith, size, length-append s.0 s.1)) in
      let element_is : part_bytes p ≡ element (e.0, spelling e.1) =
      ap (λ (t : ℕ). t ∷ (name ++ s.0)) (tag_is e.1) ∙ ap (λ (z : List ℕ). tag_of e.1 ∷ z) (append_assoc e.0 (0 ∷ []) s.0 ∙ ap (λ (z : List ℕ). e.0 ++ 0 ∷ z) value) in
      let here : around (p ∷ ps) ≡ elements_of (put k v (e ∷ es)) =
      elim (cases_Bool (bytes_eq e.0 k)) [
        | inl q ↦ rw q (ap (λ (z : List ℕ). own ++ z) (bytes_are n s.1 more items ∙ others))
        | inr q ↦ rw q (append_assoc (part_bytes p) (front_of k ps) (own ++ rest_of k ps) ∙ ap (λ (z : List ℕ). part_bytes p ++ z) later ∙ ap (λ (z : List ℕ). z ++ elements_of (put k v es)) element_is)
      ] in
      subst (λ (x : List ℕ). around (parts_of x) ≡ elements_of (put k v (e ∷ es))) (sym s.5)
      (subst (λ (qs : List Part). around qs ≡ elements_of (put k v (e ∷ es))) (sym (parts_on n first rest (e.1 ∷ more) f)) here)

  spelling_at : (n : ℕ) (b : List ℕ) (fs : List (List ℕ × Value)) → IsDocument n b fs → b ≡ document_text fs → AreBytes b → length b < 2 ^ 31 → spliced k v b ≡ document_text (put k v fs)
  unfolding IsDocument elements_in
  spelling_at zero b fs d is h small = absurd d
  spelling_at (suc n) b fs d is h small =
      let body = (in_frame b d.0 d.1).body in
      let parts : parts_of d.0 ≡ elements_in b = ap parts_of (sym body) in
      let text : d.0 ≡ elements_of fs = sym body ∙ ap body_of is ∙ body_framed (elements_of fs) in
      let frame = d.1 in
      let bytes : AreBytes d.0 = back_bytes frame.0 d.0 (front_bytes (frame.0 ++ d.0) (0 ∷ []) (subst AreBytes frame.2 h)) in
      let size : length d.0 < 2 ^ 31 = omega (arith, small, ap length frame.2, length-append (frame.0 ++ d.0) (0 ∷ []), length-append frame.0 d.0) in
      ap framed (subst (λ (ps : List Part). around ps ≡ elements_of (put k v fs)) parts (around_is n d.0 fs d.3 text bytes size))

  pub spelling_put : (b : List ℕ) (fs : List (List ℕ × Value)) → Spells b fs → b ≡ document_text fs → AreBytes b → spliced k v b ≡ document_text (put k v fs)
  unfolding Spells
  spelling_put b fs s is h = spelling_at s.1 b fs s.2 is h s.0

module _ (k : List ℕ) where
  abbrev others_of : List Part → List ℕ
  others_of ps = front_of k ps ++ rest_of k ps

  others_are : (n : ℕ) (b : List ℕ) (fs : List (List ℕ × Value)) → AreDistinct (names_of fs) → AreFields (SpellsValue n) b fs → b ≡ elements_of fs → AreBytes b → length b < 2 ^ 31 → others_of (parts_of b) ≡ elements_of (without k fs)
  unfolding parts_of parts_in
  others_are n b [] d s is h small = subst (λ (x : List ℕ). others_of (parts_of x) ≡ []) (sym s) refl
  others_are n b (e ∷ es) d s is h small =
      let more = map (λ d. d.1) es in
      let items = fields_items n s.1 es s.4 in
      let first = type_byte (out-Value e.1) in
      let name = e.0 ++ 0 ∷ [] in
      let rest = name ++ (s.0 ++ s.1) in
      let f : First n first rest (e.1 ∷ more) =
      record { name = e.0; value = e.1; spelling = s.0; others = s.1; more = more; is = refl; no_zero = s.2.no_zero; spells = s.3; kind = refl; parts = refl; left = items } in
      let p : Part = record { name = e.0; tag = first; value = s.0 } in
      let ps = parts_of s.1 in
      let bytes : AreBytes (s.0 ++ s.1) = back_bytes name (s.0 ++ s.1) (back_bytes (first ∷ []) rest (subst AreBytes s.5 h)) in
      let size : length (s.0 ++ s.1) < 2 ^ 31 = omega (arith, small, ap length s.5, length-append name (s.0 ++ s.1)) in
      let both : s.0 ++ s.1 ≡ spelled e.1 ++ elements_of es = behind e.0 (s.0 ++ s.1) (elements_of es) first (tag_of e.1) (spelled e.1) (sym s.5 ∙ is) in
      let value : s.0 ≡ spelled e.1 = value_front first s.0 s.1 (elements_of es) e.1 (record { levels = n; kind = refl; spells = s.3 }) (front_bytes s.0 s.1 bytes) size both in
      let others : s.1 ≡ elements_of es = append_cancel_left s.0 s.1 (elements_of es) (both ∙ ap (λ (z : List ℕ). z ++ elements_of es) (sym value)) in
      let later = others_are n s.1 es d.1 s.4 others (back_bytes s.0 s.1 bytes) (omega (arith, size, length-append s.0 s.1)) in
      let element_is : part_bytes p ≡ element (e.0, spelling e.1) =
      ap (λ (t : ℕ). t ∷ (name ++ s.0)) (tag_is e.1) ∙ ap (λ (z : List ℕ). tag_of e.1 ∷ z) (append_assoc e.0 (0 ∷ []) s.0 ∙ ap (λ (z : List ℕ). e.0 ++ 0 ∷ z) value) in
      let here : others_of (p ∷ ps) ≡ elements_of (without k (e ∷ es)) =
      elim (cases_Bool (bytes_eq e.0 k)) [
        | inl q ↦
            let absent : without k es ≡ es = without-absent k es (subst (λ (m : List ℕ). IsAbsent m (names_of es)) ((bytes_eq-Decides e.0 k).0 q) d.0) in
            rw q (bytes_are n s.1 more items ∙ others ∙ ap elements_of (sym absent))
        | inr q ↦ rw q (append_assoc (part_bytes p) (front_of k ps) (rest_of k ps) ∙ ap (λ (z : List ℕ). part_bytes p ++ z) later ∙ ap (λ (z : List ℕ). z ++ elements_of (without k es)) element_is)
      ] in
      subst (λ (x : List ℕ). others_of (parts_of x) ≡ elements_of (without k (e ∷ es))) (sym s.5)
      (subst (λ (qs : List Part). others_of qs ≡ elements_of (without k (e ∷ es))) (sym (parts_on n first rest (e.1 ∷ more) f)) here)

  cut_at : (n : ℕ) (b : List ℕ) (fs : List (List ℕ × Value)) → IsDocument n b fs → b ≡ document_text fs → AreBytes b → length b < 2 ^ 31 → cut k b ≡ document_text (without k fs)
  unfolding IsDocument elements_in
  cut_at zero b fs d is h small = absurd d
  cut_at (suc n) b fs d is h small =
      let body = (in_frame b d.0 d.1).body in
      let parts : parts_of d.0 ≡ elements_in b = ap parts_of (sym body) in
      let text : d.0 ≡ elements_of fs = sym body ∙ ap body_of is ∙ body_framed (elements_of fs) in
      let frame = d.1 in
      let bytes : AreBytes d.0 = back_bytes frame.0 d.0 (front_bytes (frame.0 ++ d.0) (0 ∷ []) (subst AreBytes frame.2 h)) in
      let size : length d.0 < 2 ^ 31 = omega (arith, small, ap length frame.2, length-append (frame.0 ++ d.0) (0 ∷ []), length-append frame.0 d.0) in
      ap framed (subst (λ (ps : List Part). others_of ps ≡ elements_of (without k fs)) parts (others_are n d.0 fs d.2 d.3 text bytes size))

  pub spelling_cut : (b : List ℕ) (fs : List (List ℕ × Value)) → Spells b fs → b ≡ document_text fs → AreBytes b → cut k b ≡ document_text (without k fs)
  unfolding Spells
  spelling_cut b fs s is h = cut_at s.1 b fs s.2 is h s.0
