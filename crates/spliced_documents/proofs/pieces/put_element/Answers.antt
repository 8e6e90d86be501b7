use Rattle.std.proofs.Common.{ℕ, List, [], ◌∷◌, ◌++◌, ap, ◌∙◌}
use Rattle.bson_value.specs.Spelling.{spelled, tag_of}
use Rattle.spliced_documents.proofs.Joining.{element_put}
use Rattle.spliced_documents.proofs.pieces.put_element.Goals as goal

pub returns : goal.returns
returns c =
    let v = c.args.value.now in
    let old = c.args.out.now.items in
    let one = c.push.new.self.items in
    element_put old one c.extend_from_slice.new.self.items c.put_key.new.out.items c.args.name.now (spelled v) (tag_of v) c.len-zero.result
    (c.in_ok-push.ensures.items ∙ ap (λ (t : ℕ). old ++ t ∷ []) c.type_of.ensures) (c.in_ok-extend_from_slice.ensures.items ∙ ap (λ (l : List ℕ). one ++ l) (c.as_bytes.ensures.value ∙ c.as_str.ensures.text)) c.in_ok-put_key.ensures (c.len-zero.ensures ∙ c.extend_from_slice.new.self.ok.0)
