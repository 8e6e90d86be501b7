use Rattle.std.proofs.Common.{◌∙◌}
use Rattle.bson_check.specs.Spells.{IsName}
use Rattle.bson_value.specs.WellFormed.{IsWellFormed}
use Rattle.bson_encode.proofs.Spelled.{item_put, field_put}
use Rattle.bson_value.proofs.WellFormed.{all_more}
use Rattle.bson_encode.proofs.writing.+encode.Goals as goal

pub put_items-loop-i-preserved : goal.put_items-loop-i-preserved
put_items-loop-i-preserved t c = record {
  bytes = item_put c.args.out.now.items c.loop-i.out.items c.put_element.new.out.items c.as_bytes.result.now c.args.items.now c.loop-i.i c.index-items-i.result
      c.loop-i.invariant.bytes (c.as_bytes.ensures.value ∙ c.format.ensures.text) c.loop-i-test.true c.index-items-i.is c.in_ok-put_element.ensures.bytes;
  well_formed = all_more IsWellFormed c.args.items.now c.loop-i.i c.index-items-i.result c.loop-i-test.true c.index-items-i.is c.loop-i.invariant.well_formed c.in_ok-put_element.ensures.well_formed;
}

pub put_fields-loop-field-preserved : goal.put_fields-loop-field-preserved
put_fields-loop-field-preserved t c =
    let i = c.loop-field.field-index in
    let e = c.field-item.result in
    record {
      bytes = field_put c.args.out.now.items c.loop-field.out.items c.put_field.new.out.items c.args.fields.now i e c.loop-field.invariant.bytes c.loop-field-test.true c.field-item.is c.in_ok-put_field.ensures.bytes;
      names = all_more (λ f. IsName f.0) c.args.fields.now i e c.loop-field-test.true c.field-item.is c.loop-field.invariant.names c.in_ok-put_field.ensures.well_formed.0;
      well_formed = all_more (λ f. IsWellFormed f.1) c.args.fields.now i e c.loop-field-test.true c.field-item.is c.loop-field.invariant.well_formed c.in_ok-put_field.ensures.well_formed.1;
    }
