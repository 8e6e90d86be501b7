use Rattle.std.proofs.Common.{ap, sym, ◌∙◌, ◌∷◌, ◌++◌, ◌+◌, [], length, take, List, ℕ}
use Rattle.std.specs.Fmt.{decimal}
use Rattle.bson_value.specs.declared.value.Value.{Value}
use Rattle.bson_value.specs.Spelling.{count_bytes, document_text, element, elements_of, items_of, spelled, spelling, text_bytes}
use Rattle.bson_encode.specs.Comparing.{step, behind}
use Rattle.bson_encode.proofs.Spelled.{items_more, fields_more}
use Rattle.bson_encode.proofs.Comparing.{State, on, then, decided_ne, framed_count, counted_count, spelled_regex, spelled_pointer}
use Rattle.bson_encode.proofs.key.+key.Goals as goal

pub array-returns : goal.array-returns
array-returns t c =
    let o = c.args.so_far.order in
    let r = c.args.so_far.rest.now in
    let body = items_of c.args.items.now in
    let n = count_bytes (length body + 5) in
    then o r (n ++ body) (0 ∷ []) (c.elements.result.order, c.elements.result.rest.now) _
    (then o r n body (c.count.result.order, c.count.result.rest.now) _ (c.count.ensures ∙ ap (behind o r) (framed_count body c.args.len c.requires)) c.elements.ensures) c.next.ensures

pub document-returns-then-is_ne : goal.document-returns-then-is_ne
document-returns-then-is_ne t c = decided_ne c.args.so_far.order c.args.so_far.rest.now (document_text c.args.doc.now) (sym c.is_ne.ensures ∙ c.if-is_ne.true)

pub document-returns : goal.document-returns
document-returns t c =
    let o = c.args.so_far.order in
    let r = c.args.so_far.rest.now in
    let body = elements_of c.args.doc.now in
    let n = count_bytes (length body + 5) in
    let first : State = (c.count-now.result.order, c.count-now.result.rest.now) in
    then o r (n ++ body) (0 ∷ []) (c.fields.result.order, c.fields.result.rest.now) _
    (then o r n body first _ (c.count-now.ensures ∙ ap (behind o r) (framed_count body c.spelling_len.result c.spelling_len.ensures)) (c.fields.ensures ∙ ap (λ (fs : List (List ℕ × Value)). on first (elements_of fs)) c.entries.ensures.entries)) c.next.ensures

pub elements-loop-i-preserved : goal.elements-loop-i-preserved
elements-loop-i-preserved t c =
    let o = c.args.so_far.order in
    let r = c.args.so_far.rest.now in
    let i = c.loop-i.i in
    let v = c.index-items-i.result in
    let now : State = (c.loop-i.now.order, c.loop-i.now.rest.now) in
    then o r (items_of (take i c.args.items.now)) (element (decimal i, spelling v)) now _ c.loop-i.invariant (c.one-now.ensures ∙ ap (λ (n : List ℕ). on now (element (n, spelling v))) (c.as_bytes.ensures.value ∙ c.format.ensures.text))
    ∙ ap (behind o r) (sym (items_more c.args.items.now i v c.loop-i-test.true c.index-items-i.is))

pub fields-loop-i-preserved : goal.fields-loop-i-preserved
fields-loop-i-preserved t c =
    let o = c.args.so_far.order in
    let r = c.args.so_far.rest.now in
    let e = c.index-fields-i.result in
    then o r (elements_of (take c.loop-i.i c.args.fields.now)) (element (e.0, spelling e.1)) (c.loop-i.now.order, c.loop-i.now.rest.now) _ c.loop-i.invariant c.field-now.ensures
    ∙ ap (behind o r) (sym (fields_more c.args.fields.now c.loop-i.i e c.loop-i-test.true c.index-fields-i.is))

pub one-returns : goal.one-returns
one-returns t c =
    let o = c.args.so_far.order in
    let r = c.args.so_far.rest.now in
    let name = c.args.name.now in
    let sp = spelled c.args.inner.now in
    let first : State = (c.next-now.result.order, c.next-now.result.rest.now) in
    let named : State = (c.piece.result.order, c.piece.result.rest.now) in
    then first.0 first.1 name (0 ∷ sp) named _ c.piece.ensures (c.value.ensures ∙ ap (λ (s : State). on s sp) c.next-now-2.ensures)
    ∙ ap (λ (s : State). on s (name ++ (0 ∷ sp))) (c.next-now.ensures ∙ ap (step o r) c.type_of.ensures)

pub scoped-returns : goal.scoped-returns
scoped-returns t c =
    let o = c.args.so_far.order in
    let r = c.args.so_far.rest.now in
    let code = text_bytes c.args.code.now in
    let scope = document_text c.args.scope.now in
    let first : State = (c.count.result.order, c.count.result.rest.now) in
    then o r (count_bytes (length (code ++ scope) + 4)) (code ++ scope) first _ (c.count.ensures ∙ ap (behind o r) (counted_count (code ++ scope) c.args.len c.requires))
    (then first.0 first.1 code scope (c.boxed_text-now.result.order, c.boxed_text-now.result.rest.now) _ c.boxed_text-now.ensures c.document.ensures)

pub value-returns-in-Regex : goal.value-returns-in-Regex
value-returns-in-Regex t c =
    let o = c.args.so_far.order in
    let r = c.args.so_far.rest.now in
    then o r (c.in-Regex.pattern ++ 0 ∷ []) (c.in-Regex.options ++ 0 ∷ []) (c.boxed_name.result.order, c.boxed_name.result.rest.now) _ c.boxed_name.ensures c.boxed_name-in-Regex.ensures
    ∙ ap (behind o r) (sym (ap (λ (v : Value). spelled v) c.in-Regex.is ∙ spelled_regex c.in-Regex.pattern c.in-Regex.options))

pub value-returns-in-DbPointer : goal.value-returns-in-DbPointer
value-returns-in-DbPointer t c =
    let o = c.args.so_far.order in
    let r = c.args.so_far.rest.now in
    then o r (text_bytes c.in-DbPointer.ns) c.in-DbPointer.id (c.boxed_text.result.order, c.boxed_text.result.rest.now) _ c.boxed_text.ensures c.piece-in-DbPointer.ensures
    ∙ ap (behind o r) (sym (ap (λ (v : Value). spelled v) c.in-DbPointer.is ∙ spelled_pointer c.in-DbPointer.ns c.in-DbPointer.id))
