use Rattle.std.proofs.Common.{◌≡◌, string_bytes}
use Rattle.std.proofs.lemmas.Result.{IfOk-at_ok}
use Rattle.std.proofs.lemmas.Map.Text.{btree_map_updates_text}
use Rattle.demux.proofs.index.set.Goals as goal

pub returns-clause-ok : goal.returns-clause-ok
returns-clause-ok c = λ q.
    let is = IfOk-at_ok (λ s. string_bytes s ≡ c.args.name.now) c.in_ok-key.was c.from_str.ensures.ok in
    rw is at (btree_map_updates_text (string_bytes c.in_ok-key.key) c.args.names.now c.insert.new.self _ c.in_ok-insert.ensures.updates q)
