use Rattle.std.proofs.Common.{ℕ, sym, subst}
use Rattle.bson_check.specs.NameSet.{Holds, outline}
use Rattle.bson_check.specs.Slots.{IsMarked, HasBits, slot_of}
use Rattle.bson_check.proofs.NameSet.{still_once, all_marked}
use Rattle.bson_check.proofs.name_set.NameSet.insert.Goals as goal

pub returns-then-not-self : goal.returns-then-not-self
unfolding Holds IsMarked
returns-then-not-self c = λ ns h e.
    let name = c.args.name.now in
    let old = c.args.self.now.words in
    let factor : ℕ = 11400714819323198485 in
    let k = h c.if-not-self.true in
    let new = c.put_slot-self.new.words in
    let is_new : IsMarked old factor (outline name) → ⊥ = λ m. let there = c.put_slot-self.ensures.there (subst (HasBits old) (sym c.outline_slot.ensures) m) in cc in (
      still_once old factor ns name k.0 k.1 is_new,
      all_marked old new factor ns name k.1 (λ n. c.put_slot-self.ensures.others (slot_of factor n)) (subst (HasBits new) c.outline_slot.ensures c.put_slot-self.ensures.itself),
    )
