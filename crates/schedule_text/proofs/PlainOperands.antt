-- A document that is read without its tree.
use Rattle.std.proofs.Common.{◌≡◌, ℕ, List, Ok, refl}
use Rattle.bson_value.specs.declared.value.Value.TheVariants as values
use Rattle.plain_json.specs.Reading.{IsDocumentOf}
use Rattle.schedule_text.specs.Operands.{Doc, tree_in, value_in, document_of, document_in}

pub plain_document : (text : List ℕ) (doc : Doc) → IsDocumentOf text doc → document_in text ≡ Ok doc
unfolding IsDocumentOf document_in tree_in value_in document_of
plain_document text doc (t, p, e) = rw (p, e, values.outs-Object doc) refl
