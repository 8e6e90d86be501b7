use Rattle.std.proofs.Common.{◌≡◌, refl, rules}
use Rattle.std.specs.Prelude.{codes}
use Rattle.json_text.specs.Print.{escaped}
use Rattle.std.specs.Prelude.{◌++◌}
use Rattle.json_text.specs.Print.{text_of}
use Rattle.extjson.specs.Trees.{date_tree, long_tree}
use Rattle.document_lines.proofs.Texts.{wrapped_put}
use Rattle.document_lines.proofs.leaves.put_date.Goals as goal

pub returns : goal.returns
unfolding date_tree escaped
returns c =
    let put : c.put_long.new.out.items ≡ c.extend_from_slice.new.self.items ++ text_of (long_tree c.args.millis) = search rules in
    wrapped_put (codes "$date") (long_tree c.args.millis) c.args.out.now.items _ _ _ _ _ refl refl c.in_ok-extend_from_slice.ensures.items put c.in_ok-push.ensures.items
