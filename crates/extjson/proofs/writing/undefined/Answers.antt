use Rattle.extjson.specs.Trees.{undefined_tree}
use Rattle.extjson.proofs.writing.undefined.Goals as goal

pub returns : goal.returns
unfolding undefined_tree
returns c = c.wrap.ensures
