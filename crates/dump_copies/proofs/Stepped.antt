-- A step of the copy that stands at a place.
use Rattle.std.proofs.Common.{◌≡◌, ℕ, ◌-◌, ◌≤◌, List, [], ◌∷◌, length, get_or, Bool, true, false, cond, Option, Some, None, refl, sym, ap, ◌∙◌, subst, arith, set, map as each}
use Rattle.std.specs.Prelude.{option_map, slice_get}
use Rattle.std.proofs.lemmas.Option.{slice_get-map}
use Rattle.std.specs.FinMap as map
use Rattle.std.specs.Io.KnownBytes.{Appends}
use Rattle.std.proofs.Math.Seq.{map-set_same}
use Rattle.bson_value.specs.declared.namespace.NsName.{NsName}
use Rattle.bson_value.specs.NamespaceOrder.{namespace_cmp}
use Rattle.tool_io.specs.Causes.{AppendsFront}
use Rattle.archive_format.specs.Written.{Writing, with_documents}
use Rattle.state_model.specs.Keys.{same_ns}
use Rattle.state_model.proofs.Keys.{ns_is}
use Rattle.sorted_list.specs.Order.{found}
use Rattle.coll_state.specs.Rows.{Row, Table}
use Rattle.coll_state.specs.Stock.{Rise}
use Rattle.copy_model.specs.Cursors.{Cursor}
use Rattle.history_model.specs.Runs.{looked}
use Rattle.dump_model.specs.Archives.{document_texts}
use Rattle.dump_copies.specs.Writing.{read_text}
use Rattle.dump_copies.specs.Steps.{Copying, IsClosed, IsOpen, HasRead}
use Rattle.dump_copies.specs.Places.{name_of, cursor_in, at_name, copies_in, AreCopies, IsPlaceOf}
use Rattle.dump_copies.specs.declared.copies.CollectionCopy.{CollectionCopy}
use Rattle.dump_copies.proofs.Named.{get_entry, entry_set, entries_are, rise_was_set, count_ended, count_same}

abbrev cursor_of : CollectionCopy → Cursor
cursor_of c = c.cursor.cursor

abbrev writer_of : CollectionCopy → Writing
writer_of c = c.writer

found_name : (cs : List CollectionCopy) (n : NsName) (x : CollectionCopy) → found (at_name n) cs ≡ Some x → name_of x ≡ n
found_name [] n x e = cc
found_name (c ∷ cs) n x e = by (same_ns (name_of c) n) refl (λ f. found_name cs n x f) e
  where
    by : (b : Bool) → same_ns (name_of c) n ≡ b → (found (at_name n) cs ≡ Some x → name_of x ≡ n) → cond b (Some c) (found (at_name n) cs) ≡ Some x → name_of x ≡ n
    by true s h f = (let g : c ≡ x = cc in ap name_of (sym g) ∙ ns_is (name_of c) n s)
    by false s h f = h f

-- what stands at a place
pub same_at : (cs : List CollectionCopy) (n : NsName) (at : ℕ) (x u : CollectionCopy) → IsPlaceOf cs n (Some at) → x ≡ get_or cs at x → u ≡ get_or cs at u → u ≡ x
same_at cs n at x u p e f = (let g : Some u ≡ Some x = ap Some f ∙ (sym (p.1.is_found u) ∙ (p.1.is_found x ∙ ap Some (sym e))) in cc)

-- no cursor of the name reads on
pub none_open : (cs : List CollectionCopy) (old : Copying) (n : NsName) → copies_in cs ≡ old → found (at_name n) cs ≡ None → IsClosed (map.get old.cursors n)
none_open cs old n e f = subst IsClosed (sym (ap (λ (z : Copying). map.get z.cursors n) (sym e) ∙ (get_entry cursor_of cs n ∙ ap (option_map cursor_of) f))) tt

keys_of : (cs : List CollectionCopy) → each (λ (e : NsName × Cursor). e.0) (each cursor_in cs) ≡ each name_of cs
keys_of [] = refl
keys_of (c ∷ cs) = ap (λ (z : List NsName). name_of c ∷ z) (keys_of cs)

keys_are : (cs : List CollectionCopy) → Rise namespace_cmp name_of cs → map.keys (copies_in cs).cursors ≡ each name_of cs
keys_are cs r = ap (each (λ (e : NsName × Cursor). e.0)) (entries_are cursor_of cs r) ∙ keys_of cs

-- the name at a place
pub key_at : (cs : List CollectionCopy) (old : Copying) (at : ℕ) → copies_in cs ≡ old → Rise namespace_cmp name_of cs → slice_get (map.keys old.cursors) at ≡ option_map name_of (slice_get cs at)
key_at cs old at e r = ap (λ (z : Copying). slice_get (map.keys z.cursors) at) (sym e) ∙ (ap (λ (z : List NsName). slice_get z at) (keys_are cs r) ∙ slice_get-map name_of cs at)

module _ (cs : List CollectionCopy) (old : Copying) (n : NsName) (at : ℕ) (x y : CollectionCopy) (is_old : copies_in cs ≡ old) (rise : Rise namespace_cmp name_of cs) (place : IsPlaceOf cs n (Some at)) (is : x ≡ get_or cs at x) where
  found_is : found (at_name n) cs ≡ Some x
  found_is = place.1.is_found x ∙ ap Some (sym is)

  pub name_is : name_of x ≡ n
  name_is = found_name cs n x found_is

  there : map.get old.cursors n ≡ Some x.cursor.cursor
  there = ap (λ (z : Copying). map.get z.cursors n) (sym is_old) ∙ (get_entry cursor_of cs n ∙ ap (option_map cursor_of) found_is)

  writes : map.get old.writers n ≡ Some x.writer
  writes = ap (λ (z : Copying). map.get z.writers n) (sym is_old) ∙ (get_entry writer_of cs n ∙ ap (option_map writer_of) found_is)

  pub has_ended : x.cursor.cursor.ended ≡ true → IsClosed (map.get old.cursors n)
  has_ended e = subst IsClosed (sym there) e

  pub is_open : x.cursor.cursor.ended ≡ false → IsOpen old n x.cursor.cursor x.writer
  is_open e = record { there = there; open_yet = e; writes = writes }

  module _ (name : y.cursor.ns ≡ x.cursor.ns) where
    pub rise_on : Rise namespace_cmp name_of (set cs at y)
    rise_on = rise_was_set cs n y at place.1 (name ∙ name_is) rise

    pub still_ended : (count : ℕ) → AreCopies cs count → x.cursor.cursor.ended ≡ false → y.cursor.cursor.ended ≡ true → AreCopies (set cs at y) (count - 1)
    still_ended count a e f = (let k = count_ended cs at y x place.0 (ap (λ (z : CollectionCopy). z.cursor.cursor.ended) (sym is) ∙ e) f in let c = a.counted in record { rise = rise_on; counted = omega (arith, k, c) })

    pub at_least_one : (count : ℕ) → AreCopies cs count → x.cursor.cursor.ended ≡ false → y.cursor.cursor.ended ≡ true → 1 ≤ count
    at_least_one count a e f = (let k = count_ended cs at y x place.0 (ap (λ (z : CollectionCopy). z.cursor.cursor.ended) (sym is) ∙ e) f in let c = a.counted in omega (arith, k, c))

    pub still_open : (count : ℕ) → AreCopies cs count → x.cursor.cursor.ended ≡ false → y.cursor.cursor.ended ≡ false → AreCopies (set cs at y) count
    still_open count a e f = (let k = count_same cs at y x place.0 (ap (λ (z : CollectionCopy). z.cursor.cursor.ended) (sym is) ∙ e) f in record { rise = rise_on; counted = a.counted ∙ sym k })

    pub same_names : (new : Copying) → new ≡ copies_in (set cs at y) → map.keys new.cursors ≡ map.keys old.cursors
    same_names new e =
        ap (λ (z : Copying). map.keys z.cursors) e
        ∙ (keys_are (set cs at y) rise_on
        ∙ (map-set_same name_of cs at y x (name ∙ ap name_of is)
        ∙ (sym (keys_are cs rise) ∙ ap (λ (z : Copying). map.keys z.cursors) is_old)))

    module _ (ts : map.FinMap namespace_cmp Table) (k count : ℕ) (before after : Option (List ℕ)) (open_yet : x.cursor.cursor.ended ≡ false) where
      moved : looked k x.cursor.cursor (map.get ts x.cursor.ns) ≡ looked k x.cursor.cursor (map.get ts n)
      moved = ap (λ (m : NsName). looked k x.cursor.cursor (map.get ts m)) name_is

      pub has_read : (new : Copying) → new ≡ copies_in (set cs at y) → count ≡ length (looked k x.cursor.cursor (map.get ts x.cursor.ns)).0 → y.cursor.cursor ≡ (looked k x.cursor.cursor (map.get ts x.cursor.ns)).1 →
          y.writer ≡ with_documents x.writer (document_texts (looked k x.cursor.cursor (map.get ts x.cursor.ns)).0) →
          Appends before after (read_text x.writer (document_texts (looked k x.cursor.cursor (map.get ts x.cursor.ns)).0) (looked k x.cursor.cursor (map.get ts x.cursor.ns)).1.ended) →
          HasRead old new n x.cursor.cursor x.writer (looked k x.cursor.cursor (map.get ts n)) count before after
      has_read new e c d w a = record {
        counted = c ∙ ap (λ (z : List Row × Cursor). length z.0) moved;
        cursors = ap (λ (z : Copying). z.cursors) e
            ∙ (entry_set cursor_of cs n y at place.1 (name ∙ name_is) rise
            ∙ (ap (λ (z : Copying). map.insert z.cursors n y.cursor.cursor) is_old ∙ ap (map.insert old.cursors n) (d ∙ ap (λ (z : List Row × Cursor). z.1) moved)));
        writers = ap (λ (z : Copying). z.writers) e
            ∙ (entry_set writer_of cs n y at place.1 (name ∙ name_is) rise
            ∙ (ap (λ (z : Copying). map.insert z.writers n y.writer) is_old ∙ ap (map.insert old.writers n) (w ∙ ap (λ (z : List Row × Cursor). with_documents x.writer (document_texts z.0)) moved)));
        text = subst (λ (z : List Row × Cursor). Appends before after (read_text x.writer (document_texts z.0) z.1.ended)) moved a;
      }

      pub front_read : AppendsFront before after (read_text x.writer (document_texts (looked k x.cursor.cursor (map.get ts x.cursor.ns)).0) (looked k x.cursor.cursor (map.get ts x.cursor.ns)).1.ended) →
          AppendsFront before after (read_text x.writer (document_texts (looked k x.cursor.cursor (map.get ts n)).0) (looked k x.cursor.cursor (map.get ts n)).1.ended)
      front_read a = subst (λ (z : List Row × Cursor). AppendsFront before after (read_text x.writer (document_texts z.0) z.1.ended)) moved a
