use Rattle.std.proofs.Common.{List, ℕ, sym, ap, ◌∙◌, subst}
use Rattle.std.specs.Prelude.{Contains}
use Rattle.std.specs.Option.{option_copied}
use Rattle.oplog_entry.proofs.Letters.{no_zero_behind}
use Rattle.oplog_entry.proofs.delta.document_kind.Goals as goal

pub of_text-requires : goal.of_text-requires
of_text-requires c =
    no_zero_behind 115 c.as_str-text.result.now c.in-Some.rest.now (sym (ap option_copied c.in-Some.is) ∙ c.behind_s.ensures)
    (λ h. c.as_str-text.ensures.no_zero (subst (λ (l : List ℕ). Contains l 0) c.as_str-text.ensures.text h))
