use Rattle.std.proofs.Common.{false, sym, ap, ◌∙◌}
use Rattle.std.specs.Option.{option_copied}
use Rattle.doc_path.specs.declared.touches.Touch.TheVariants.{Set, Resize}
use Rattle.update_action.specs.Recorded.{set_or_length}
use Rattle.update_action.proofs.delta.whole_array.Goals as goal

pub returns-in_ok-copy-in-Some : goal.returns-in_ok-copy-in-Some
returns-in_ok-copy-in-Some c =
    (λ i. Set (c.in_ok-place_copy.ensures i) (c.in_ok-copy-in-Some.ensures i) false)
    ∙ ap (set_or_length c.args.place.now c.args.len) (sym (ap option_copied c.in-Some.is) ∙ c.at.ensures)

pub returns-in-None : goal.returns-in-None
returns-in-None c =
    (λ i. Resize (c.in_ok-place_copy.ensures i) c.args.len)
    ∙ ap (set_or_length c.args.place.now c.args.len) (sym (ap option_copied c.in-None.is) ∙ c.at.ensures)
