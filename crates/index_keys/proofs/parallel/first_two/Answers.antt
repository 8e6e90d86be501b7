use Rattle.std.proofs.Common.{sym, ap, ◌∙◌, Option, Bor}
use Rattle.std.specs.Option.{option_copied}
use Rattle.bson_value.specs.declared.value.Value.{Object}
use Rattle.bson_view.specs.Held.{held_document}
use Rattle.index_keys.specs.Branches.{Path, meets_array}
use Rattle.index_keys.proofs.Meeting.{listed, second_meets, first_meets, none_more, fewer_meet}
use Rattle.index_keys.proofs.parallel.first_two.Goals.{then-meets_in+in-None, else-meets_in}
use Rattle.index_keys.proofs.parallel.first_two.Goals as goal

pub returns-in-Some : goal.returns-in-Some
returns-in-Some c =
    second_meets (λ p. meets_array p (Object (held_document c.args.doc))) c.args.paths.now c.loop-path.path-index c.in-Some.first.now c.path-item.result c.loop-path-test.true c.path-item.is
    (sym c.meets_in.ensures ∙ c.if-meets_in.true) (ap (λ (o : Option (Bor Path)). listed (option_copied o)) (sym c.in-Some.is) ∙ c.loop-path.invariant)

pub loop-path-preserved : goal.loop-path-preserved
loop-path-preserved c =
    let f : Path → _ = λ p. meets_array p (Object (held_document c.args.doc)) in
    elim c.if-meets_in.branch [
      | then-meets_in+in-None w ↦
          ap (λ (o : Option (Bor Path)). listed (option_copied o)) w.first-is
          ∙ first_meets f c.args.paths.now c.loop-path.path-index c.path-item.result (option_copied c.loop-path.first) c.loop-path-test.true c.path-item.is
          (sym c.meets_in.ensures ∙ w.if-meets_in.true) (ap option_copied w.in-None.is) c.loop-path.invariant
      | else-meets_in w ↦
          ap (λ (o : Option (Bor Path)). listed (option_copied o)) w.first-is
          ∙ none_more f c.args.paths.now c.loop-path.path-index c.path-item.result (option_copied c.loop-path.first) c.loop-path-test.true c.path-item.is
          (sym c.meets_in.ensures ∙ w.if-meets_in.false) c.loop-path.invariant
    ]

pub returns : goal.returns
returns c =
    fewer_meet (λ p. meets_array p (Object (held_document c.args.doc))) c.args.paths.now c.loop-path.path-index (option_copied c.loop-path.first) c.loop-path-test.false c.loop-path.invariant
