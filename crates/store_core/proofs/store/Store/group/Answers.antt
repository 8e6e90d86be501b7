use Rattle.std.proofs.Common.{◌≡◌, ◌<◌, ◌≤◌, ◌^◌, length, arith}
use Rattle.std.proofs.lemmas.Grind.{common_steps}
use Rattle.store_core.proofs.TogetherEffects.{together_made, together_large, together_none}
use Rattle.store_core.proofs.store.Store.group.Goals as goal

pub returns-then-len-eq0-clause-makes : goal.returns-then-len-eq0-clause-makes
returns-then-len-eq0-clause-makes c =
    (let none : length c.args.transaction.changes ≡ 0 = (let e = c.len.ensures in grind (arith, common_steps)) in λ ds h. together_none ds c.args.self.now c.args.transaction h none)

pub returns-then-len-gt-MOST_BYTES-clause-makes : goal.returns-then-len-gt-MOST_BYTES-clause-makes
returns-then-len-gt-MOST_BYTES-clause-makes c =
    (let t = c.args.transaction in
    let size : c.len.result ≡ length t.changes = c.len.ensures in
    let some : 0 < length t.changes = grind (arith, common_steps) in
    let long : 16793600 < length c.in_ok-bytes.bytes = (let e = c.len-2.ensures in grind (arith, common_steps)) in
    λ ds h. together_large c.entry_sizes.ensures.entries ds c.args.self.now t c.in_ok-bytes.bytes c.next_ts.result h some c.next_ts.ensures c.in_ok-bytes.ensures long)

pub returns-clause-makes : goal.returns-clause-makes
returns-clause-makes c =
    (let t = c.args.transaction in
    let size : c.len.result ≡ length t.changes = c.len.ensures in
    let some : 0 < length t.changes = grind (arith, common_steps) in
    let few : length t.changes < 2 ^ 64 = grind (arith, common_steps) in
    let short : length c.in_ok-bytes.bytes ≤ 16793600 = (let e = c.len-2.ensures in grind (arith, common_steps)) in
    λ ds h. together_made c.entry_sizes.ensures.entries ds c.args.self.now t c.in_ok-bytes.bytes c.next_ts.result h some few c.next_ts.ensures c.in_ok-bytes.ensures short)
