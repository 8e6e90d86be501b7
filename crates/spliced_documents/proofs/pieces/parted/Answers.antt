use Rattle.std.proofs.Common.{◌≡◌, ℕ, ◌+◌, ◌-◌, true, false, List, [], ◌∷◌, ◌++◌, length, drop, sym, ap, ◌∙◌, rules, arith}
use Rattle.std.specs.Str.{bytes_eq}
use Rattle.std.proofs.lemmas.List.{length-take, length-drop}
use Rattle.bson_view.specs.Views.{elem_part, parts_left}
use Rattle.bson_view.proofs.Stepping.{to_the_end}
use Rattle.spliced_documents.proofs.Walking.{passed_is, goes_on, front_found, rest_found, behind_found, front_all}
use Rattle.spliced_documents.proofs.pieces.parted.Goals as goal

pub returns-then-eq-clause-front : goal.returns-then-eq-clause-front
returns-then-eq-clause-front c =
    let k = c.args.name.now in
    let b = c.args.bytes.now in
    let all = parts_left c.args.elements in
    let start = c.loop-elem.start in
    let left = parts_left c.loop-elem.elem-iterator in
    let name = c.in-Some.elem.name.now in
    let equal : c.eq.result ≡ true = search rules in
    let same : bytes_eq name k ≡ true = ap (bytes_eq name) (sym c.as_bytes.ensures.value) ∙ sym c.eq.ensures ∙ equal in
    passed_is k b all left start c.loop-elem.invariant
    ∙ sym (front_found k b all left start c.loop-elem.invariant (elem_part c.in-Some.elem) (parts_left c.next.new.self) c.in-Some.ensures.steps same)

pub returns-then-eq-clause-rest : goal.returns-then-eq-clause-rest
returns-then-eq-clause-rest c =
    let k = c.args.name.now in
    let b = c.args.bytes.now in
    let all = parts_left c.args.elements in
    let start = c.loop-elem.start in
    let left = parts_left c.loop-elem.elem-iterator in
    let p = elem_part c.in-Some.elem in
    let ps = parts_left c.next.new.self in
    let name = c.in-Some.elem.name.now in
    let end = start + length name + length c.in-Some.elem.value.now + 2 in
    let equal : c.eq.result ≡ true = search rules in
    let same : bytes_eq name k ≡ true = ap (bytes_eq name) (sym c.as_bytes.ensures.value) ∙ sym c.eq.ensures ∙ equal in
    to_the_end end b ∙ behind_found k b all left start c.loop-elem.invariant p ps c.in-Some.ensures.steps
    ∙ ap (λ (z : List ℕ). z ++ 0 ∷ []) (sym (rest_found k b all left start c.loop-elem.invariant p ps c.in-Some.ensures.steps same))

pub returns-then-eq-clause-short : goal.returns-then-eq-clause-short
returns-then-eq-clause-short c =
    let bytes = c.args.bytes.now in
    let start = c.loop-elem.start in
    let end = start + length c.in-Some.elem.name.now + length c.in-Some.elem.value.now + 2 in
    omega (arith, c.requires.short, length-take (start - 4) (drop 4 bytes), length-drop 4 bytes, length-take (length bytes - end) (drop end bytes), length-drop end bytes)

pub loop-elem-preserved : goal.loop-elem-preserved
loop-elem-preserved c =
    let k = c.args.name.now in
    let b = c.args.bytes.now in
    let all = parts_left c.args.elements in
    let name = c.in-Some.elem.name.now in
    let unequal : c.eq.result ≡ false = search rules in
    let other : bytes_eq name k ≡ false = ap (bytes_eq name) (sym c.as_bytes.ensures.value) ∙ sym c.eq.ensures ∙ unequal in
    goes_on k b all (parts_left c.loop-elem.elem-iterator) c.loop-elem.start c.loop-elem.invariant (elem_part c.in-Some.elem) (parts_left c.next.new.self) c.in-Some.ensures.steps other

pub returns-clause-front : goal.returns-clause-front
returns-clause-front c =
    let k = c.args.name.now in
    let b = c.args.bytes.now in
    let all = parts_left c.args.elements in
    let start = c.loop-elem.start in
    let left = parts_left c.loop-elem.elem-iterator in
    passed_is k b all left start c.loop-elem.invariant
    ∙ sym (front_all k b all left start c.loop-elem.invariant c.in-None.ensures.steps.0)

pub returns-clause-short : goal.returns-clause-short
returns-clause-short c =
    let bytes = c.args.bytes.now in
    let start = c.loop-elem.start in
    omega (arith, c.requires.short, length-take (start - 4) (drop 4 bytes), length-drop 4 bytes, length-take (length bytes - start) (drop start bytes), length-drop start bytes)
