use Rattle.entry_writer.proofs.Order.{index_put, index_laid, name_put, name_laid}
use Rattle.entry_writer.proofs.rising.place.Goals as goal

pub returns-in_ok-insert-in-Index-clause-all : goal.returns-in_ok-insert-in-Index-clause-all
returns-in_ok-insert-in-Index-clause-all c = λ left h.
    index_put c.args.front.now c.args.behind.now.items left c.args.group h _ c.in-Index.is c.insert.new.self c.in_ok-insert-in-Index.ensures.entries

pub returns-in_ok-insert-in-Index-clause-laid : goal.returns-in_ok-insert-in-Index-clause-laid
returns-in_ok-insert-in-Index-clause-laid c = λ left h.
    index_laid c.args.front.now c.args.behind.now.items left c.args.group h _ c.in-Index.is c.insert.new.self c.in_ok-insert-in-Index.ensures.entries c.in_ok-insert-in-Index.ensures.updates

pub returns-in_ok-push-in-Name-clause-all : goal.returns-in_ok-push-in-Name-clause-all
returns-in_ok-push-in-Name-clause-all c = λ left h.
    name_put c.args.front.now c.args.behind.now.items left c.args.group h _ c.in-Name.is c.unload.new.front c.unload.new.behind.items c.push.new.self.items
    c.in_ok-unload-in-Name.ensures.empty c.in_ok-push-in-Name.ensures.items c.in_ok-unload-in-Name.ensures.all

pub returns-in_ok-push-in-Name-clause-laid : goal.returns-in_ok-push-in-Name-clause-laid
returns-in_ok-push-in-Name-clause-laid c = λ left h.
    name_laid c.args.front.now c.args.behind.now.items left c.args.group h _ c.in-Name.is c.unload.new.front c.unload.new.behind.items c.push.new.self.items
    c.in_ok-unload-in-Name.ensures.empty c.in_ok-push-in-Name.ensures.items
