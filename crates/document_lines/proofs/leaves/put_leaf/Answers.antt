use Rattle.std.proofs.Common.{◌≡◌, ◌++◌, sym, ap, ◌∙◌, rules}
use Rattle.std.specs.Prelude.{OnOk}
use Rattle.json_text.specs.Print.{text_of}
use Rattle.extjson.specs.Trees.{int_tree, long_tree}
use Rattle.bson_view.specs.Meaning.{value_in}
use Rattle.document_lines.proofs.LeafTexts.{leaf_put, int_json, long_json}
use Rattle.document_lines.proofs.leaves.put_leaf.Goals as goal

pub returns : goal.returns
returns c =
    let put : OnOk c.put_int.result (c.put_int.new.out.items ≡ c.args.out.now.items ++ text_of (int_tree c.in-Some.n)) = search rules in
    leaf_put _ _ _ _ _ _ (c.in-Some.ensures ∙ ap (λ t. value_in t c.args.elem.now.value.now) (sym c.if-elem-eq-INT32.true)) (int_json c.in-Some.n) put

pub returns-2 : goal.returns-2
returns-2 c =
    let put : OnOk c.put_long.result (c.put_long.new.out.items ≡ c.args.out.now.items ++ text_of (long_tree c.in-Some-long_of.n)) = search rules in
    leaf_put _ _ _ _ _ _ (c.in-Some-long_of.ensures ∙ ap (λ t. value_in t c.args.elem.now.value.now) (sym c.if-elem-eq-INT64.true)) (long_json c.in-Some-long_of.n) put
