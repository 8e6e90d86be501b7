use Rattle.std.proofs.Common.{◌≡◌, ◌++◌, ◌∷◌, [], sym, subst, ◌∙◌}
use Rattle.std.specs.Ordering.{nat_cmp}
use Rattle.std.specs.Cmp.Lexicographic.{slice_cmp}
use Rattle.bson_encode.specs.Leading.{Leads}
use Rattle.bson_encode.proofs.Leading.{leads_name}
use Rattle.bson_encode.proofs.order.name.Goals as goal

pub returns : goal.returns
returns c =
    let a = c.args.a.now in
    let b = c.args.b.now in
    let x : c.as_bytes.result.now ≡ a = c.as_bytes.ensures.value ∙ c.name_of.ensures.value in
    let y : c.as_bytes-2.result.now ≡ b = c.as_bytes-2.ensures.value ∙ c.name_of-2.ensures.value in
    subst (Leads (a ++ 0 ∷ []) (b ++ 0 ∷ [])) (sym (c.cmp.ensures ∙ (λ i. slice_cmp nat_cmp (x i) (y i)))) (leads_name a b c.name_of.ensures.name.no_zero c.name_of-2.ensures.name.no_zero)
