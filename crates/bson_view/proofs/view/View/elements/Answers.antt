use Rattle.std.proofs.Common.{List, ap, subst, sym, ◌∙◌}
use Rattle.bson_check.specs.Spells.{IsFrame}
use Rattle.bson_view.specs.Parts.{Part, fields_of, bytes_of}
use Rattle.bson_view.proofs.Bodies.{document_has, document_elements}
use Rattle.bson_view.proofs.Nested.{document_short}
use Rattle.bson_view.proofs.view.View.elements.Goals as goal

pub of_frame-requires : goal.of_frame-requires
of_frame-requires c = record { elements = document_has c.args.self.now.bytes.now c.args.self.now.checked; short = document_short c.args.self.now.bytes.now c.args.self.now.checked }

pub returns : goal.returns
returns c =
    let d = document_elements c.args.self.now.bytes.now c.args.self.now.checked in
    record {
      fields = ap fields_of c.of_frame.ensures ∙ d.1;
      places = subst (λ (ps : List Part). IsFrame c.args.self.now.bytes.now (bytes_of ps)) (sym c.of_frame.ensures) d.0;
      parts = c.of_frame.ensures;
    }
