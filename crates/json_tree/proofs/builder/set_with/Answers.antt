use Rattle.std.proofs.Common.{List, ℕ, ◌++◌, ◌∷◌, [], subst}
use Rattle.containers.specs.Entries.{names_of}
use Rattle.json_tree.specs.Covers.{Covers}
use Rattle.json_tree.proofs.Names.{covers_more}
use Rattle.json_tree.proofs.builder.set_with.Goals as goal

pub returns : goal.returns
returns g c = λ le.
    subst (λ (m : List ℕ). Covers c.insert.new.self (names_of c.args.entries.now ++ m ∷ [])) c.in_ok-from_str.ensures.ok (covers_more _ c.insert.new.self _ _ c.in_ok-insert.ensures.updates c.in_ok-names.ensures)
