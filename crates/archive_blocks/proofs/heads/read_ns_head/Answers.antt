use Rattle.std.proofs.Common.{arith}
use Rattle.archive_blocks.proofs.Typed.{body_of, read_again, none_again, fault_again}
use Rattle.archive_blocks.proofs.heads.read_ns_head.Goals as goal

pub overflow_sub-bytes : goal.overflow_sub-bytes
overflow_sub-bytes c = let b = body_of c.args.bytes.now c.requires in omega (arith, b.long)

pub slice_bounds-of_elements-count : goal.slice_bounds-of_elements-count
slice_bounds-of_elements-count c = let b = body_of c.args.bytes.now c.requires in omega (arith, b.long)

pub slice_bounds-of_elements-start : goal.slice_bounds-of_elements-start
slice_bounds-of_elements-start c = let b = body_of c.args.bytes.now c.requires in omega (arith, b.long)

pub returns-clause-ok : goal.returns-clause-ok
returns-clause-ok c = let b = body_of c.args.bytes.now c.requires in read_again _ c.args.bytes.now b c.of_elements.result (c.of_elements.ensures b.levels b.fields b.spells)

pub returns-clause-err : goal.returns-clause-err
returns-clause-err c = let b = body_of c.args.bytes.now c.requires in fault_again _ c.args.bytes.now b c.of_elements.result (c.of_elements.ensures b.levels b.fields b.spells)

pub returns-clause-none : goal.returns-clause-none
returns-clause-none c = let b = body_of c.args.bytes.now c.requires in none_again _ c.args.bytes.now b c.of_elements.result (c.of_elements.ensures b.levels b.fields b.spells)
