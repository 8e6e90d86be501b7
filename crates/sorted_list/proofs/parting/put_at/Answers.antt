use Rattle.std.proofs.Common.{List, ap, sym, ◌∙◌, arith, length}
use Rattle.sorted_list.proofs.Rooms.{surplus_set, surplus_few}
use Rattle.std.specs.Prelude.{slice_set}
use Rattle.std.specs.List.{insert}
use Rattle.sorted_list.specs.Chunks.{joined}
use Rattle.sorted_list.proofs.Edits.{some_is, get_at, roomy_at, roomy_set, set_at_self}
use Rattle.sorted_list.proofs.parting.put_at.Goals as goal

pub insert-requires-clause-room : goal.insert-requires-clause-room
insert-requires-clause-room g c =
    let cs = c.args.chunks.now.items in
    let d = c.index_mut.result.now in
    (roomy_at cs c.args.at d (get_at cs c.args.at d c.requires.within c.index_mut.ensures.value) c.requires.roomy).1

pub returns-then-len-eq-CHUNK_LEN-clause-items : goal.returns-then-len-eq-CHUNK_LEN-clause-items
returns-then-len-eq-CHUNK_LEN-clause-items g c = λ b e.
    let cs = c.args.chunks.now.items in
    let d = c.index_mut.result.now in
    let same = some_is d b (sym (get_at cs c.args.at d c.requires.within c.index_mut.ensures.value) ∙ e) in
    c.part.ensures.items ∙ ap (λ (l : List g.row.T.Denot). joined (slice_set cs c.args.at l)) (c.insert.ensures.items ∙ ap (λ (l : List g.row.T.Denot). insert l c.args.place c.args.item) same)

pub returns-else-len-eq-CHUNK_LEN-clause-items : goal.returns-else-len-eq-CHUNK_LEN-clause-items
returns-else-len-eq-CHUNK_LEN-clause-items g c = λ b e.
    let cs = c.args.chunks.now.items in
    let d = c.index_mut.result.now in
    let same = some_is d b (sym (get_at cs c.args.at d c.requires.within c.index_mut.ensures.value) ∙ e) in
    ap (λ (l : List g.row.T.Denot). joined (slice_set cs c.args.at l)) (c.insert.ensures.items ∙ ap (λ (l : List g.row.T.Denot). insert l c.args.place c.args.item) same)

pub returns-else-len-eq-CHUNK_LEN-clause-roomy : goal.returns-else-len-eq-CHUNK_LEN-clause-roomy
returns-else-len-eq-CHUNK_LEN-clause-roomy g c =
    let cs = c.args.chunks.now.items in
    let d = c.index_mut.result.now in
    let size = roomy_at cs c.args.at d (get_at cs c.args.at d c.requires.within c.index_mut.ensures.value) c.requires.roomy in
    let self = ap length (c.index.ensures ∙ set_at_self cs c.args.at c.insert.new.self c.index.result.now c.requires.within) in
    roomy_set cs c.args.at c.insert.new.self c.requires.roomy (omega (arith, c.insert.ensures.len)) (omega (arith, self, size.1, c.if-len-eq-CHUNK_LEN.false, c.len-len.ensures.len, c.insert.ensures.len))

pub overflow_add-over : goal.overflow_add-over
overflow_add-over g c =
    omega (arith, surplus_few c.args.chunks.now.items c.requires.roomy, c.requires.few, c.requires.surplus, c.over_half.ensures, c.len-len.ensures.bound)

pub overflow_sub-over-then-len-eq-CHUNK_LEN : goal.overflow_sub-over-then-len-eq-CHUNK_LEN
overflow_sub-over-then-len-eq-CHUNK_LEN g c =
    let cs = c.args.chunks.now.items in
    let d = c.index_mut.result.now in
    let set = surplus_set cs c.args.at d c.insert.new.self (get_at cs c.args.at d c.requires.within c.index_mut.ensures.value) in
    let self = ap length (c.index.ensures ∙ set_at_self cs c.args.at c.insert.new.self c.index.result.now c.requires.within) in
    omega (arith, set, self, c.part.ensures.surplus, c.requires.surplus, c.over_half.ensures, c.over_half-2.ensures, c.len-len.ensures.len, c.insert.ensures.len, c.if-len-eq-CHUNK_LEN.true)

pub returns-then-len-eq-CHUNK_LEN-clause-surplus : goal.returns-then-len-eq-CHUNK_LEN-clause-surplus
returns-then-len-eq-CHUNK_LEN-clause-surplus g c =
    let cs = c.args.chunks.now.items in
    let d = c.index_mut.result.now in
    let set = surplus_set cs c.args.at d c.insert.new.self (get_at cs c.args.at d c.requires.within c.index_mut.ensures.value) in
    let self = ap length (c.index.ensures ∙ set_at_self cs c.args.at c.insert.new.self c.index.result.now c.requires.within) in
    omega (arith, set, self, c.part.ensures.surplus, c.requires.surplus, c.over_half.ensures, c.over_half-2.ensures, c.len-len.ensures.len, c.insert.ensures.len, c.if-len-eq-CHUNK_LEN.true)

pub returns-then-len-eq-CHUNK_LEN-clause-kept : goal.returns-then-len-eq-CHUNK_LEN-clause-kept
returns-then-len-eq-CHUNK_LEN-clause-kept g c =
    let cs = c.args.chunks.now.items in
    let d = c.index_mut.result.now in
    let set = surplus_set cs c.args.at d c.insert.new.self (get_at cs c.args.at d c.requires.within c.index_mut.ensures.value) in
    let self = ap length (c.index.ensures ∙ set_at_self cs c.args.at c.insert.new.self c.index.result.now c.requires.within) in
    omega (arith, set, self, c.part.ensures.surplus, c.part.ensures.less, c.requires.surplus, c.over_half.ensures, c.over_half-2.ensures, c.len-len.ensures.len, c.insert.ensures.len, c.if-len-eq-CHUNK_LEN.true)

pub returns-else-len-eq-CHUNK_LEN-clause-surplus : goal.returns-else-len-eq-CHUNK_LEN-clause-surplus
returns-else-len-eq-CHUNK_LEN-clause-surplus g c =
    let cs = c.args.chunks.now.items in
    let d = c.index_mut.result.now in
    let set = surplus_set cs c.args.at d c.insert.new.self (get_at cs c.args.at d c.requires.within c.index_mut.ensures.value) in
    let self = ap length (c.index.ensures ∙ set_at_self cs c.args.at c.insert.new.self c.index.result.now c.requires.within) in
    omega (arith, set, self, c.requires.surplus, c.over_half.ensures, c.over_half-2.ensures, c.len-len.ensures.len, c.insert.ensures.len)
