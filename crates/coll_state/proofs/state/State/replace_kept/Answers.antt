use Rattle.std.proofs.Common.{◌≡◌, ◌+◌, ap, ◌∙◌, sym, subst, Some}
use Rattle.std.specs.FinMap as map
use Rattle.coll_state.specs.Rows.{Rows, key_in, id_of}
use Rattle.coll_state.specs.Changes.{number_at, or_fresh, put, put_table}
use Rattle.coll_state.specs.Tables.{tables_in}
use Rattle.coll_state.proofs.Named.{put_there}
use Rattle.coll_state.proofs.Sound.{AreKeptWell, kept_put}
use Rattle.coll_state.proofs.state.State.replace_kept.Goals as goal

pub replace_document-requires : goal.replace_document-requires
replace_document-requires c = ap (λ (s : Rows). number_at c.args.ns.now (key_in (id_of c.args.document)) s.tables) c.self.view_is ∙ c.requires.number

pub invariant_of-self : goal.invariant_of-self
invariant_of-self c =
    let key = key_in (id_of c.args.document) in
    let old = tables_in c.self.inside.tables in
    let there : number_at c.args.ns.now key old ≡ Some c.args.number = ap (λ (s : Rows). number_at c.args.ns.now key s.tables) c.self.view_is ∙ c.requires.number in
    let set = c.replace_document.ensures ∙ put_there old c.args.ns.now key c.args.document c.self.inside.count c.args.number there in
    subst (AreKeptWell (c.self.inside.count + 1)) (sym set) (kept_put c.self.inside.count old c.args.ns.now key c.args.document c.self.invariant)

pub returns : goal.returns
returns c =
    let key = key_in (id_of c.args.document) in
    let old = tables_in c.self.inside.tables in
    let there : number_at c.args.ns.now key old ≡ Some c.args.number = ap (λ (s : Rows). number_at c.args.ns.now key s.tables) c.self.view_is ∙ c.requires.number in
    let set : tables_in c.replace_document.new.tables ≡ map.insert old c.args.ns.now (put_table key c.args.document (or_fresh c.self.inside.count (map.get old c.args.ns.now))) =
    c.replace_document.ensures ∙ put_there old c.args.ns.now key c.args.document c.self.inside.count c.args.number there in
    let was : Rows = record { tables = old; count = c.self.inside.count } in
    let new : (record { tables = tables_in c.replace_document.new.tables; count = c.self.inside.count + 1 }) ≡ put c.args.ns.now c.args.document was = (λ i. record { tables = set i; count = c.self.inside.count + 1 }) in
    new ∙ ap (λ (r : Rows). put c.args.ns.now c.args.document r) c.self.view_is
