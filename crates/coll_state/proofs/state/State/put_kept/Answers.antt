use Rattle.std.proofs.Common.{◌≡◌, ◌+◌, rules, sym, ap, subst, arith}
use Rattle.std.specs.FinMap as map
use Rattle.coll_state.specs.Rows.{Rows, key_in, id_of}
use Rattle.coll_state.specs.Changes.{put_table, or_fresh}
use Rattle.coll_state.specs.Tables.{tables_in}
use Rattle.coll_state.proofs.Sound.{AreKeptWell, kept_put}
use Rattle.coll_state.proofs.state.State.put_kept.Goals as goal

pub put-requires-clause-number : goal.put-requires-clause-number
put-requires-clause-number c t e = let w = c.self.invariant c.args.ns.now t e in let same = ap (λ (s : Rows). s.count) c.self.view_is in omega (arith, w.1, same, c.requires.count)

pub invariant_of-self : goal.invariant_of-self
invariant_of-self c =
    let same : tables_in c.put.new.tables ≡ tables_in c.self.inside.tables = search rules in
    subst (AreKeptWell c.self.inside.count) (sym same) c.self.invariant

pub invariant_of-self-2 : goal.invariant_of-self-2
invariant_of-self-2 c =
    let key = key_in (id_of c.args.document) in
    let set : tables_in c.put.new.tables ≡ map.insert (tables_in c.self.inside.tables) c.args.ns.now (put_table key c.args.document (or_fresh c.self.inside.count (map.get (tables_in c.self.inside.tables) c.args.ns.now))) = search rules in
    subst (AreKeptWell (c.self.inside.count + 1)) (sym set) (kept_put c.self.inside.count (tables_in c.self.inside.tables) c.args.ns.now key c.args.document c.self.invariant)
