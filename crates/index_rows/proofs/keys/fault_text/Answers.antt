use Rattle.std.proofs.Common.{subst}
use Rattle.index_keys.specs.Faults.{IsKeyFault}
use Rattle.index_rows.proofs.KeyTexts.{told_two}
use Rattle.index_rows.proofs.keys.fault_text.Goals as goal

pub returns-in_ok-format-in-ParallelArrays : goal.returns-in_ok-format-in-ParallelArrays
returns-in_ok-format-in-ParallelArrays c = λ two count is. told_two two count _ _ _ _ _ (subst (λ f. IsKeyFault f two) c.in-ParallelArrays.is is)
    c.as_str.ensures c.as_str-in-ParallelArrays.ensures c.in_ok-format-in-ParallelArrays.ensures.ok
