use Rattle.std.proofs.Common.{arith, ◌∙◌, suc, ◌≡◌, ◌-◌, subst, ℕ}
use Rattle.bson_value.specs.declared.value.Value.{Null}
use Rattle.bson_value.specs.Place.{sized, put_item}
use Rattle.doc_path.proofs.Steps.{resized_array, sized_cut, sized_padded, on_ok}
use Rattle.doc_path.proofs.elements.resize_items.Goals as goal

pub returns-then-len-count-clause-ok : goal.returns-then-len-count-clause-ok
returns-then-len-count-clause-ok c =
    resized_array c.args.len c.args.items.now _ (c.truncate.ensures ∙ sized_cut c.args.len c.args.items.now (omega (arith, c.if-len-count.true, c.len-count.ensures)))

pub returns-else-len-count-clause-ok : goal.returns-else-len-count-clause-ok
returns-else-len-count-clause-ok c =
    on_ok c.put_element.result (λ e.
    resized_array c.args.len c.args.items.now c.put_element.new.items
    (e ∙ subst (λ (n : ℕ). put_item c.args.items.now (c.args.len - 1) Null ≡ sized n c.args.items.now) (let p : suc (c.args.len - 1) ≡ c.args.len = omega (arith, c.if-len-count.false) in p) (sized_padded (c.args.len - 1) c.args.items.now (omega (arith, c.if-len-count.false, c.len-count.ensures))))) c.put_element.ensures.ok
