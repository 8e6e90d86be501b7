use Rattle.std.proofs.Common.{◌≡◌, ℕ, ◌-◌, List, [], ◌∷◌, ◌++◌, sym, ap, ◌∙◌, subst}
use Rattle.std.specs.Prelude.{Option}
use Rattle.std.proofs.lemmas.List.{take_all}
use Rattle.bson_value.specs.declared.value.Value.{Value}
use Rattle.doc_path.specs.declared.parts.Part.{Part}
use Rattle.oplog_entry.specs.declared.delta.DiffField.{DiffField}
use Rattle.oplog_entry.specs.declared.delta.DeltaFault.{DeltaFault}
use Rattle.entry_model.specs.Written.{Fields}
use Rattle.entry_model.specs.Reads.{Read, all_read, diff_read}
use Rattle.oplog_entry.specs.DiffFields.{kind_in, by_kind, by_name, diff_at, Adds, IsBad}
use Rattle.oplog_entry.proofs.Diffs.{FitsFront, fits_document, fits_behind, diff_is, marked, bad_one, bad_so, adds_more, diff_below, below_kind, on_ok, if_err}
use Rattle.oplog_entry.proofs.delta.+diff.Goals as goal
use Rattle.oplog_entry.proofs.delta.+diff.Goals.{diff-else-array-via-then-array+else-is_empty, diff-else-array-via-else-array}

pub diff-returns-in_default-clause-err : goal.diff-returns-in_default-clause-err
diff-returns-in_default-clause-err t c =
    let read : List ℕ × Value → Read = λ f. by_name (diff_read (c.args.levels - 1)) (kind_in c.is_some-array.result f.0) f.1 in
    let fits : FitsFront c.args.front.now c.is_some-array.result = elim c.else-array.branch [
      | diff-else-array-via-then-array+else-is_empty w ↦ fits_behind c.args.front.now c.is_some-array.result w.is_empty.result w.is_empty.ensures w.if-is_empty.false
      | diff-else-array-via-else-array w ↦ fits_document c.args.front.now c.is_some-array.result w.if-array.false
    ] in
    let whole = diff_is c.args.front.now c.args.levels c.args.doc.now c.is_some-array.result (marked c.get.result c.is_some-array.result c.args.doc.now c.is_some-array.ensures c.get.ensures) c.if-levels-eq0.false fits in
    whole ∙ (ap (all_read read) (sym c.entries-name-items.ensures.entries)
    ∙ bad_one read c.entries-name-items.result.now c.loop-name.name-index c.loop-name-item.result c.loop-name-test.true c.loop-name-item.is
    (ap (λ (k : Option DiffField). by_name (diff_read (c.args.levels - 1)) k c.loop-name-item.result.1) (sym c.in_ok-kind.ensures ∙ c.in_default.is)))

pub diff-returns-in_err-field-clause-err : goal.diff-returns-in_err-field-clause-err
diff-returns-in_err-field-clause-err t c =
    let read : List ℕ × Value → Read = λ f. by_name (diff_read (c.args.levels - 1)) (kind_in c.is_some-array.result f.0) f.1 in
    let fits : FitsFront c.args.front.now c.is_some-array.result = elim c.else-array.branch [
      | diff-else-array-via-then-array+else-is_empty w ↦ fits_behind c.args.front.now c.is_some-array.result w.is_empty.result w.is_empty.ensures w.if-is_empty.false
      | diff-else-array-via-else-array w ↦ fits_document c.args.front.now c.is_some-array.result w.if-array.false
    ] in
    let whole = diff_is c.args.front.now c.args.levels c.args.doc.now c.is_some-array.result (marked c.get.result c.is_some-array.result c.args.doc.now c.is_some-array.ensures c.get.ensures) c.if-levels-eq0.false fits in
    let here : Read = by_kind (diff_read (c.args.levels - 1)) c.in-Some.kind c.loop-name-item.result.1 in
    if_err c.from_residual-in_err-field.result _ _ c.from_residual-in_err-field.ensures.1
    (λ x p. bad_so x here (diff_at c.args.front.now c.args.levels c.args.doc.now)
    (λ h. whole ∙ (ap (all_read read) (sym c.entries-name-items.ensures.entries)
    ∙ bad_one read c.entries-name-items.result.now c.loop-name.name-index c.loop-name-item.result c.loop-name-test.true c.loop-name-item.is
    (ap (λ (k : Option DiffField). by_name (diff_read (c.args.levels - 1)) k c.loop-name-item.result.1) (sym c.in_ok-kind.ensures ∙ c.in-Some.is) ∙ h)))
    (subst (λ (e : DeltaFault). IsBad e here) (sym p) c.in_err-field.ensures.err))

pub diff-loop-name-preserved : goal.diff-loop-name-preserved
diff-loop-name-preserved t c =
    let read : List ℕ × Value → Read = λ f. by_name (diff_read (c.args.levels - 1)) (kind_in c.is_some-array.result f.0) f.1 in
    adds_more read c.args.front.now c.entries-name-items.result.now c.loop-name.name-index c.loop-name-item.result c.args.touches.now c.loop-name.touches c.field.new.touches
    c.loop-name-test.true c.loop-name-item.is c.loop-name.invariant
    (subst (λ (o : Read). Adds c.args.front.now o c.loop-name.touches c.field.new.touches)
    (sym (ap (λ (k : Option DiffField). by_name (diff_read (c.args.levels - 1)) k c.loop-name-item.result.1) (sym c.in_ok-kind.ensures ∙ c.in-Some.is))) c.in_ok-field.ensures.ok)

pub diff-returns-clause-ok : goal.diff-returns-clause-ok
diff-returns-clause-ok t c =
    let read : List ℕ × Value → Read = λ f. by_name (diff_read (c.args.levels - 1)) (kind_in c.is_some-array.result f.0) f.1 in
    let fits : FitsFront c.args.front.now c.is_some-array.result = elim c.else-array.branch [
      | diff-else-array-via-then-array+else-is_empty w ↦ fits_behind c.args.front.now c.is_some-array.result w.is_empty.result w.is_empty.ensures w.if-is_empty.false
      | diff-else-array-via-else-array w ↦ fits_document c.args.front.now c.is_some-array.result w.if-array.false
    ] in
    let whole = diff_is c.args.front.now c.args.levels c.args.doc.now c.is_some-array.result (marked c.get.result c.is_some-array.result c.args.doc.now c.is_some-array.ensures c.get.ensures) c.if-levels-eq0.false fits in
    subst (λ (o : Read). Adds c.args.front.now o c.args.touches.now c.loop-name.touches)
    (ap (all_read read) (take_all c.loop-name.name-index c.entries-name-items.result.now c.loop-name-test.false ∙ c.entries-name-items.ensures.entries) ∙ sym whole) c.loop-name.invariant

pub field-returns-in_ok-place-in-Below-clause-ok : goal.field-returns-in_ok-place-in-Below-clause-ok
field-returns-in_ok-place-in-Below-clause-ok t c =
    let at : c.as_slice.result.now ≡ c.args.front.now ++ c.in-Below.part ∷ [] = c.as_slice.ensures ∙ (c.parts.ensures.parts ∙ c.in_ok-place-in-Below.ensures) in
    let below : Fields = c.in-Object-value-2.below in
    on_ok c.diff.result _ _
    (λ h. below_kind c.args.front.now c.in-Below.part c.args.levels below c.args.kind c.args.value.now c.args.touches.now c.diff.new.touches c.in-Below.is c.in-Object-value-2.is
    (diff_below c.args.front.now c.in-Below.part c.args.levels below c.args.touches.now c.diff.new.touches (subst (λ (p : List Part). Adds p (diff_at p c.args.levels below) c.args.touches.now c.diff.new.touches) at h)))
    c.diff.ensures.ok
