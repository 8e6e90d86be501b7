use Rattle.std.proofs.Common.{refl, sym, ap, ◌∙◌}
use Rattle.coll_state.proofs.Parts.{on_ok}
use Rattle.index_build.specs.Faults.{meet}
use Rattle.index_build.specs.Owners.{place_where}
use Rattle.index_build.proofs.Repeated.{none_of, follows_found, follows_here, follows_none}
use Rattle.index_build.proofs.owners.Repeats.add.Goals as goal

pub returns-then-is_some : goal.returns-then-is_some
returns-then-is_some c = λ lists f at. follows_found c.args.self.now lists c.args.keys (sym c.is_some.ensures ∙ c.if-is_some.true) f

pub returns-in-Some : goal.returns-in-Some
returns-in-Some c = λ lists f at.
    let none = none_of c.args.self.now.first (sym c.is_some.ensures ∙ c.if-is_some.false) in
    let is = sym c.in-Some.is ∙ (c.first_owner.ensures lists (f.owners_are none) ∙ ap (λ ts. place_where (meet ts) lists) c.as_slice.ensures) in
    follows_here c.args.self.now _ lists c.args.keys c.in-Some.owner c.args.place none f at is refl

pub returns-in-None : goal.returns-in-None
returns-in-None c = λ lists f at.
    let none = none_of c.args.self.now.first (sym c.is_some.ensures ∙ c.if-is_some.false) in
    let is = sym c.in-None.is ∙ (c.first_owner.ensures lists (f.owners_are none) ∙ ap (λ ts. place_where (meet ts) lists) c.as_slice.ensures) in
    on_ok c.own.result (follows_none c.args.self.now _ lists c.args.keys c.args.place none f at is refl) c.own.ensures
