use Rattle.std.proofs.Common.{ℕ, Bool, List, ◌++◌, is_some, if◌then◌else◌, sym, ap, ◌∙◌, append_assoc}
use Rattle.std.specs.Prelude.{codes}
use Rattle.bson_encode.specs.Key.{key_of}
use Rattle.coll_state.specs.Changes.{document_at}
use Rattle.state_rows.specs.Rows.{kind_text}
use Rattle.state_rows.proofs.collections.held_text.Goals as goal

abbrev bool_text : Bool → List ℕ
bool_text is_so = if is_so then codes "true" else codes "false"

pub returns : goal.returns
returns c =
    let doc = document_at c.args.ns.now (key_of c.args.id.now) c.args.state.now.tables in
    let kind = c.kind_of-kind.ensures doc c.get.ensures in
    c.in_ok-format.ensures.ok
    ∙ (ap (λ (k : List ℕ). k ++ (codes " " ++ bool_text c.in_ok-is_copied.is_copied)) kind
    ∙ (ap (λ (b : Bool). kind_text doc ++ (codes " " ++ bool_text b)) c.in_ok-is_copied.ensures
    ∙ sym (append_assoc (kind_text doc) (codes " ") (bool_text (is_some doc)))))
