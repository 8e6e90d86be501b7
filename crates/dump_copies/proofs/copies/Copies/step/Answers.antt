use Rattle.std.proofs.Common.{◌≡◌, ◌<◌, ℕ, Bool, true, false, List, Some, None, refl, sym, ap, ◌∙◌, subst, set, get_or, length, rules}
use Rattle.std.proofs.lemmas.List.{get_or-set_same}
use Rattle.dump_copies.specs.Places.{copies_in, IsPlaceOf, name_of}
use Rattle.bson_value.specs.NamespaceOrder.{namespace_cmp}
use Rattle.coll_state.specs.Stock.{Rise}
use Rattle.dump_copies.specs.declared.copies.CollectionCopy.{CollectionCopy}
use Rattle.dump_copies.proofs.Stepped.{none_open, same_at, has_ended, is_open, still_ended, at_least_one, still_open, same_names, has_read, front_read}
use Rattle.dump_copies.proofs.copies.Copies.step.Goals as goal
use Rattle.dump_copies.proofs.copies.Copies.step.Goals.{then-has_ended-2, else-has_ended-2}

place_in : (cs slice : List CollectionCopy) (n : _) (o : _) → slice ≡ cs → Rise namespace_cmp name_of cs → (Rise namespace_cmp name_of slice → IsPlaceOf slice n o) → IsPlaceOf cs n o
place_in cs slice n o e r h = subst (λ (z : List CollectionCopy). IsPlaceOf z n o) e (h (subst (Rise namespace_cmp name_of) (sym e) r))

pub returns-in_default-clause-step : goal.returns-in_default-clause-step
returns-in_default-clause-step g c =
    let none : c.place_of.result ≡ None = search rules in
    let place = place_in c.self.inside.items.items c.as_slice.result.now c.args.ns.now None c.as_slice.ensures.value c.self.invariant.rise (subst (λ o. Rise namespace_cmp name_of c.as_slice.result.now → IsPlaceOf c.as_slice.result.now c.args.ns.now o) none c.place_of.ensures.place) in
    (none_open c.self.inside.items.items c.args.self.now c.args.ns.now c.self.view_is place, refl, refl)

pub returns-then-has_ended-clause-step : goal.returns-then-has_ended-clause-step
returns-then-has_ended-clause-step g c =
    let cs = c.self.inside.items.items in
    let place = place_in cs c.as_slice.result.now c.args.ns.now (Some c.in-Some.at) c.as_slice.ensures.value c.self.invariant.rise c.in-Some.ensures.place in
    (has_ended cs c.args.self.now c.args.ns.now c.in-Some.at c.index.result.now c.index.result.now c.self.view_is c.self.invariant.rise place c.index.ensures (sym c.has_ended.ensures ∙ c.if-has_ended.true), refl, refl)

-- whether the cursor of a copy that was put at a place has ended
ended_at : (cs : List CollectionCopy) (at : ℕ) (y m : CollectionCopy) (r b : Bool) → at < length cs → m ≡ get_or (set cs at y) at m → r ≡ m.cursor.cursor.ended → r ≡ b → y.cursor.cursor.ended ≡ b
ended_at cs at y m r b l e f h = ap (λ (z : CollectionCopy). z.cursor.cursor.ended) (sym (e ∙ get_or-set_same cs at y m l)) ∙ (sym f ∙ h)

open_at : (cs : List CollectionCopy) (n : _) (at : ℕ) (x u : CollectionCopy) (r : Bool) → IsPlaceOf cs n (Some at) → x ≡ get_or cs at x → u ≡ get_or cs at u → r ≡ u.cursor.cursor.ended → r ≡ false → x.cursor.cursor.ended ≡ false
open_at cs n at x u r p e f h k = ap (λ (z : CollectionCopy). z.cursor.cursor.ended) (sym (same_at cs n at x u p e f)) ∙ (sym h ∙ k)

pub overflow_sub-self : goal.overflow_sub-self
overflow_sub-self g c =
    let cs = c.self.inside.items.items in
    let n = c.args.ns.now in
    let at = c.in-Some.at in
    let x = c.index_mut-copy.result.now in
    let y = c.step-count.new.self in
    let place = place_in cs c.as_slice.result.now n (Some at) c.as_slice.ensures.value c.self.invariant.rise c.in-Some.ensures.place in
    at_least_one cs c.args.self.now n at x y c.self.view_is c.self.invariant.rise place c.index_mut-copy.ensures.value c.step-count.ensures.name c.self.inside.open c.self.invariant
    (open_at cs n at x c.index.result.now c.has_ended.result place c.index_mut-copy.ensures.value c.index.ensures c.has_ended.ensures c.if-has_ended.false)
    (ended_at cs at y c.index-2.result.now c.has_ended-2.result true place.0 c.index-2.ensures c.has_ended-2.ensures c.if-has_ended-2.true)

pub invariant_of-self : goal.invariant_of-self
invariant_of-self g c =
    let cs = c.self.inside.items.items in
    let n = c.args.ns.now in
    let at = c.in-Some.at in
    let x = c.index_mut-copy.result.now in
    let y = c.step-count.new.self in
    let place = place_in cs c.as_slice.result.now n (Some at) c.as_slice.ensures.value c.self.invariant.rise c.in-Some.ensures.place in
    still_ended cs c.args.self.now n at x y c.self.view_is c.self.invariant.rise place c.index_mut-copy.ensures.value c.step-count.ensures.name c.self.inside.open c.self.invariant
    (open_at cs n at x c.index.result.now c.has_ended.result place c.index_mut-copy.ensures.value c.index.ensures c.has_ended.ensures c.if-has_ended.false)
    (ended_at cs at y c.index-2.result.now c.has_ended-2.result true place.0 c.index-2.ensures c.has_ended-2.ensures c.if-has_ended-2.true)

pub invariant_of-self-else-has_ended-2 : goal.invariant_of-self-else-has_ended-2
invariant_of-self-else-has_ended-2 g c =
    let cs = c.self.inside.items.items in
    let n = c.args.ns.now in
    let at = c.in-Some.at in
    let x = c.index_mut-copy.result.now in
    let y = c.step-count.new.self in
    let place = place_in cs c.as_slice.result.now n (Some at) c.as_slice.ensures.value c.self.invariant.rise c.in-Some.ensures.place in
    still_open cs c.args.self.now n at x y c.self.view_is c.self.invariant.rise place c.index_mut-copy.ensures.value c.step-count.ensures.name c.self.inside.open c.self.invariant
    (open_at cs n at x c.index.result.now c.has_ended.result place c.index_mut-copy.ensures.value c.index.ensures c.has_ended.ensures c.if-has_ended.false)
    (ended_at cs at y c.index-2.result.now c.has_ended-2.result false place.0 c.index-2.ensures c.has_ended-2.ensures c.if-has_ended-2.false)

pub returns-in-Ok-clause-step : goal.returns-in-Ok-clause-step
returns-in-Ok-clause-step g c =
    let cs = c.self.inside.items.items in
    let n = c.args.ns.now in
    let at = c.in-Some.at in
    let x = c.index_mut-copy.result.now in
    let y = c.step-count.new.self in
    let place = place_in cs c.as_slice.result.now n (Some at) c.as_slice.ensures.value c.self.invariant.rise c.in-Some.ensures.place in
    let reads_on = open_at cs n at x c.index.result.now c.has_ended.result place c.index_mut-copy.ensures.value c.index.ensures c.has_ended.ensures c.if-has_ended.false in
    let new : c.if-has_ended-2.self ≡ copies_in (set cs at y) = elim c.if-has_ended-2.branch [ then-has_ended-2 w ↦ w.self-is | else-has_ended-2 w ↦ w.self-is ] in (
      x.cursor.cursor,
      x.writer,
      is_open cs c.args.self.now n at x y c.self.view_is c.self.invariant.rise place c.index_mut-copy.ensures.value reads_on,
      has_read cs c.args.self.now n at x y c.self.view_is c.self.invariant.rise place c.index_mut-copy.ensures.value c.in-Ok.ensures.name c.args.store.now.rows.tables c.args.n c.in-Ok.count (g.K.Sink.end c.args.sink.now).bytes (g.K.Sink.end c.step-count.new.sink).bytes
          reads_on c.if-has_ended-2.self new c.in-Ok.ensures.count c.in-Ok.ensures.cursor c.in-Ok.ensures.writer c.in-Ok.ensures.ok,
    )

pub returns-in-Ok-clause-names : goal.returns-in-Ok-clause-names
returns-in-Ok-clause-names g c =
    let cs = c.self.inside.items.items in
    let n = c.args.ns.now in
    let at = c.in-Some.at in
    let x = c.index_mut-copy.result.now in
    let y = c.step-count.new.self in
    let place = place_in cs c.as_slice.result.now n (Some at) c.as_slice.ensures.value c.self.invariant.rise c.in-Some.ensures.place in
    let new : c.if-has_ended-2.self ≡ copies_in (set cs at y) = elim c.if-has_ended-2.branch [ then-has_ended-2 w ↦ w.self-is | else-has_ended-2 w ↦ w.self-is ] in
    same_names cs c.args.self.now n at x y c.self.view_is c.self.invariant.rise place c.index_mut-copy.ensures.value c.step-count.ensures.name c.if-has_ended-2.self new

pub returns-in-Err-clause-step : goal.returns-in-Err-clause-step
returns-in-Err-clause-step g c =
    let cs = c.self.inside.items.items in
    let n = c.args.ns.now in
    let at = c.in-Some.at in
    let x = c.index_mut-copy.result.now in
    let y = c.step-count.new.self in
    let place = place_in cs c.as_slice.result.now n (Some at) c.as_slice.ensures.value c.self.invariant.rise c.in-Some.ensures.place in
    let reads_on = open_at cs n at x c.index.result.now c.has_ended.result place c.index_mut-copy.ensures.value c.index.ensures c.has_ended.ensures c.if-has_ended.false in (
      x.cursor.cursor,
      x.writer,
      is_open cs c.args.self.now n at x y c.self.view_is c.self.invariant.rise place c.index_mut-copy.ensures.value reads_on,
      front_read cs c.args.self.now n at x y c.self.view_is c.self.invariant.rise place c.index_mut-copy.ensures.value c.step-count.ensures.name c.args.store.now.rows.tables c.args.n 0 (g.K.Sink.end c.args.sink.now).bytes (g.K.Sink.end c.step-count.new.sink).bytes
          reads_on c.in-Err.ensures.err,
    )

pub returns-in-Err-clause-names : goal.returns-in-Err-clause-names
returns-in-Err-clause-names g c =
    let cs = c.self.inside.items.items in
    let n = c.args.ns.now in
    let at = c.in-Some.at in
    let x = c.index_mut-copy.result.now in
    let y = c.step-count.new.self in
    let place = place_in cs c.as_slice.result.now n (Some at) c.as_slice.ensures.value c.self.invariant.rise c.in-Some.ensures.place in
    let new : c.if-has_ended-2.self ≡ copies_in (set cs at y) = elim c.if-has_ended-2.branch [ then-has_ended-2 w ↦ w.self-is | else-has_ended-2 w ↦ w.self-is ] in
    same_names cs c.args.self.now n at x y c.self.view_is c.self.invariant.rise place c.index_mut-copy.ensures.value c.step-count.ensures.name c.if-has_ended-2.self new
