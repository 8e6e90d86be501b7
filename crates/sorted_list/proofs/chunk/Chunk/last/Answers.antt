use Rattle.std.proofs.Common.{ap, ◌∙◌}
use Rattle.sorted_list.specs.Chunks.{last_of}
use Rattle.sorted_list.proofs.Ends.{last_is}
use Rattle.sorted_list.proofs.chunk.Chunk.last.Goals as goal

pub returns : goal.returns
returns g c = c.last.ensures.value ∙ (last_is c.as_slice.result.now ∙ ap last_of (c.as_slice.ensures.value ∙ c.self.view_is))
