use Rattle.std.proofs.Common.{List, ℕ, ap, sym, ◌∙◌}
use Rattle.std.specs.Prelude.{Some}
use Rattle.std.proofs.lemmas.Slice.Eq.{bytes_eq-Decides}
use Rattle.containers.proofs.Entries.{own_at}
use Rattle.json_tree.proofs.members.Members.get_near.Goals as goal

pub returns-then-eq : goal.returns-then-eq
returns-then-eq g c =
    let same = (bytes_eq-Decides c.name.result.now c.args.name.now).0 (sym c.eq.ensures ∙ c.if-eq.true) in
    sym (own_at c.args.self.now c.args.at _ _ c.len.ensures.distinct (c.name.ensures ∙ ap (λ (n : List ℕ). Some n) same) c.value.ensures)
