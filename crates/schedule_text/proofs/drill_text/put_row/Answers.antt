use Rattle.schedule_text.proofs.drill_text.put_row.Goals as goal

pub returns-in-Pop : goal.returns-in-Pop
returns-in-Pop c = rw c.in-Pop.is (c.put_pop.ensures c.args.i)

pub returns-in-Replace : goal.returns-in-Replace
returns-in-Replace c = rw c.in-Replace.is (c.put_replace.ensures c.args.i)

pub returns-in-Delete : goal.returns-in-Delete
returns-in-Delete c = rw c.in-Delete.is (c.put_delete.ensures c.args.i)

pub returns-in-Copy : goal.returns-in-Copy
returns-in-Copy c = rw c.in-Copy.is (c.put_copy.ensures c.args.k c.args.i)
