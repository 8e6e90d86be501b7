use Rattle.std.proofs.Common.{◌≡◌, ◌+◌, false, rules, sym, ap, ◌∙◌, subst, arith, ℕ}
use Rattle.std.specs.FinMap as map
use Rattle.coll_state.specs.Rows.{Rows, key_in, id_of}
use Rattle.state_model.specs.States.{no_options}
use Rattle.coll_state.specs.Changes.{put_table, or_fresh, put, create}
use Rattle.coll_state.specs.Tables.{tables_in}
use Rattle.coll_state.proofs.Sound.{AreKeptWell, kept_put, later}
use Rattle.coll_state.proofs.FirstPut.{with_first, first_put}
use Rattle.coll_state.proofs.state.State.put_first_kept.Goals as goal

pub put-requires-clause-number : goal.put-requires-clause-number
put-requires-clause-number c t e = let w = c.self.invariant c.args.ns.now t e in let same = ap (λ (s : Rows). s.count) c.self.view_is in omega (arith, w.1, same, c.requires.count)

pub invariant_of-self : goal.invariant_of-self
invariant_of-self c =
    let same : tables_in c.put.new.tables ≡ tables_in c.self.inside.tables = search rules in
    subst (AreKeptWell c.self.inside.count) (sym same) c.self.invariant

pub invariant_of-self-2 : goal.invariant_of-self-2
invariant_of-self-2 c =
    let key = key_in (id_of c.args.document) in
    let set : tables_in c.put.new.tables ≡ map.insert (tables_in c.self.inside.tables) c.args.ns.now (put_table key c.args.document (or_fresh c.self.inside.count (map.get (tables_in c.self.inside.tables) c.args.ns.now))) = search rules in
    let two : c.self.inside.count + 1 + 1 ≡ c.self.inside.count + 2 = omega arith in
    let new = map.insert (tables_in c.self.inside.tables) c.args.ns.now (put_table key c.args.document (or_fresh c.self.inside.count (map.get (tables_in c.self.inside.tables) c.args.ns.now))) in
    subst (AreKeptWell (c.self.inside.count + 2)) (sym set) (subst (λ (n : ℕ). AreKeptWell n new) two (later (c.self.inside.count + 1) new (kept_put c.self.inside.count (tables_in c.self.inside.tables) c.args.ns.now key c.args.document c.self.invariant)))

pub returns-clause-ok : goal.returns-clause-ok
returns-clause-ok c =
    let key = key_in (id_of c.args.document) in
    let old : Rows = record { tables = tables_in c.self.inside.tables; count = c.self.inside.count } in
    let set : tables_in c.put.new.tables ≡ map.insert (tables_in c.self.inside.tables) c.args.ns.now (put_table key c.args.document (or_fresh c.self.inside.count (map.get (tables_in c.self.inside.tables) c.args.ns.now))) = search rules in
    let missing : map.contains_key old.tables c.args.ns.now ≡ false = subst (λ (r : Rows). map.contains_key r.tables c.args.ns.now ≡ false) (sym c.self.view_is) c.requires.missing in
    let new : (record { tables = tables_in c.put.new.tables; count = c.self.inside.count + 2 }) ≡ with_first c.args.ns.now key c.args.document old = (λ i. record { tables = set i; count = c.self.inside.count + 2 }) in
    new ∙ (sym (first_put old c.args.ns.now key c.args.document missing) ∙ ap (λ (r : Rows). put c.args.ns.now c.args.document (create c.args.ns.now no_options r)) c.self.view_is)
