use Rattle.std.proofs.Common.{subst, List}
use Rattle.doc_path.specs.declared.parts.Part.{Part}
use Rattle.doc_path.specs.Places.{keys}
use Rattle.update_ops.specs.Keys.{HaveNoZero}
use Rattle.update_ops.proofs.Zeros.{clean_more}
use Rattle.update_ops.proofs.place_keys.key_of_mark.Goals as goal

pub returns-clause-clean : goal.returns-clause-clean
returns-clause-clean c =
    clean_more c.args.mark.now.way c.args.mark.now.last
    (subst (λ (z : List Part). HaveNoZero (keys z)) c.as_slice.ensures c.in_ok-text.ensures.clean) c.in_ok-push_part.ensures.clean
