use Rattle.std.proofs.Common.{◌≡◌, [], ◌∷◌, ◌++◌, length, sym, ap, subst, ◌∙◌, rules}
use Rattle.std.specs.Prelude.{None}
use Rattle.archive_format.specs.Archive.{meta_place}
use Rattle.demux.specs.Names.{FindsMetas}
use Rattle.demux.proofs.Names.{Puts, metas_push}
use Rattle.demux.proofs.metas.Metas.push.Goals as goal

pub invariant_of-self-in-Ok : goal.invariant_of-self-in-Ok
invariant_of-self-in-Ok c =
    let xs = c.self.inside.names.items in
    let ns = c.args.ns.now in
    let new : meta_place ns xs ≡ None = search rules in
    let i : c.len-i.result ≡ length xs = search rules in
    let puts : Puts c.self.inside.index.databases c.insert.new.self.databases ns.db ns.coll (length xs) = rw (c.as_str.ensures, c.as_str-2.ensures, i) at c.in-Ok.ensures.ok in
    let more = c.in_ok-push.ensures.items ∙ ap (λ z. xs ++ z ∷ []) c.in_ok-copy.ensures in
    subst (FindsMetas c.insert.new.self.databases) (sym more) (metas_push c.self.inside.index.databases c.insert.new.self.databases xs ns.db ns.coll new c.self.invariant puts)
