use Rattle.std.proofs.Common.{◌≡◌, ap, ◌∙◌, subst}
use Rattle.bson_view.specs.declared.held.Held.{Held}
use Rattle.bson_view.specs.Held.{held_document}
use Rattle.bson_view.specs.Views.{document}
use Rattle.coll_state.specs.Kept.{bytes, look, look_of}
use Rattle.transactions.proofs.Looks.{faultless}
use Rattle.transactions.proofs.scratch.put_copy.Goals as goal

pub of-requires : goal.of-requires
of-requires c =
    faultless c.faultless_if_spelled.ensures c.bytes.result.now (document c.in-Spelled.view) (ap bytes c.bytes.ensures.bytes ∙ subst (λ (h : Held). look_of h ≡ look (held_document h)) c.in-Spelled.is c.requires) c.bytes.ensures.spelled
