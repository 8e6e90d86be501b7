use Rattle.std.proofs.Common.{◌++◌, sym, ap, ◌∙◌, ℕ, List, length}
use Rattle.index_keys.specs.Faults.{dotted, behind_dots}
use Rattle.index_keys.proofs.Ways.{no_name_left}
use Rattle.index_keys.proofs.Dots.{dotted_is}
use Rattle.index_keys.proofs.parallel.dotted.Goals as goal

pub returns-in-None : goal.returns-in-None
returns-in-None c = absurd (no_name_left c.args.path.now (ap length (sym (c.as_slice.ensures ∙ c.names.ensures.names)) ∙ c.in-None.ensures.cases) c.names.ensures.some)

pub returns-in_ok-put_names-in-Some : goal.returns-in_ok-put_names-in-Some
returns-in_ok-put_names-in-Some c =
    let path = sym (c.as_slice.ensures ∙ c.names.ensures.names) ∙ c.in-Some.ensures.cases.0 in
    c.in_ok-put_names-in-Some.ensures
    ∙ (ap (λ (l : List ℕ). l ++ behind_dots c.in-Some.rest.now) (c.in_ok-text-in-Some.ensures ∙ c.as_str.ensures.text)
    ∙ (dotted_is c.in-Some.first.now c.in-Some.rest.now ∙ ap dotted (sym path)))
