use Rattle.std.proofs.Common.{List, rules, sym, ap, ◌∙◌, subst}
use Rattle.std.specs.FinMap as map
use Rattle.std.specs.Option.{option_copied}
use Rattle.std.proofs.lemmas.Fn.{always_returns_same}
use Rattle.bson_value.specs.declared.namespace.NsName.{NsName}
use Rattle.state_model.specs.Keys.{key_cmp}
use Rattle.index_build.specs.Numbers.{joined, number_at}
use Rattle.index_build.specs.Sorted.{NumbersVec, numbers_told, AreByName}
use Rattle.index_build.proofs.Names.{at_space, spaces_ordered, space_rises, space_some, space_none}
use Rattle.index_build.proofs.counts.Counts.get.Goals as goal

pub returns-in-Some : goal.returns-in-Some
returns-in-Some c =
    let n = c.args.ns.now in
    let i = c.args.index.now in
    let es = c.as_slice.result.now in
    let by : AreByName (numbers_told es) = subst (λ (l : List (NsName × NumbersVec)). AreByName (numbers_told l)) (sym c.as_slice.ensures.value) c.self.invariant in
    let f = sym (ap option_copied c.in-Some.is) ∙ c.find.ensures (at_space n) (always_returns_same _ _ _ (λ a r f called. (search rules, search rules))) (spaces_ordered es n by) in
    c.number_in.ensures (rw c.as_slice-in-Some.ensures.value (space_rises es n c.in-Some.collection.now by.indexes f))
    ∙ (ap (λ l. joined (map.find key_cmp i l)) c.as_slice-in-Some.ensures.value
    ∙ (space_some es n i c.in-Some.collection.now f
    ∙ (ap (λ l. number_at (numbers_told l) n i) c.as_slice.ensures.value ∙ ap (λ z. number_at z n i) c.self.view_is)))

pub returns-in-None : goal.returns-in-None
returns-in-None c =
    let n = c.args.ns.now in
    let i = c.args.index.now in
    let es = c.as_slice.result.now in
    let by : AreByName (numbers_told es) = subst (λ (l : List (NsName × NumbersVec)). AreByName (numbers_told l)) (sym c.as_slice.ensures.value) c.self.invariant in
    let f = sym (ap option_copied c.in-None.is) ∙ c.find.ensures (at_space n) (always_returns_same _ _ _ (λ a r f called. (search rules, search rules))) (spaces_ordered es n by) in
    space_none es n i f ∙ (ap (λ l. number_at (numbers_told l) n i) c.as_slice.ensures.value ∙ ap (λ z. number_at z n i) c.self.view_is)
