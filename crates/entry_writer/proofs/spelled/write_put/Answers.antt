use Rattle.std.proofs.Common.{◌≡◌, refl, sym, subst, [], ◌∷◌, ◌++◌, ◌∙◌}
use Rattle.std.specs.Prelude.{codes}
use Rattle.bson_value.specs.declared.value.Value.{Str}
use Rattle.entry_model.specs.declared.entry.Entry.{Entry}
use Rattle.entry_model.specs.declared.entry.Action.TheVariants.{Put}
use Rattle.bson_value.specs.Spelling.{elements_of}
use Rattle.entry_model.specs.Written.{Fields}
use Rattle.entry_model.specs.Spelling.{text_of}
use Rattle.entry_writer.proofs.Items.{entry_put, spelled_put, put_is}
use Rattle.entry_writer.proofs.spelled.write_put.Goals as goal

pub returns : goal.returns
returns c = λ d e.
    let entry : Entry = record { ts = c.args.ts; ns = c.args.ns.now; action = Put d } in
    c.from_vec.ensures
    ∙ entry_put entry (0 ∷ (0 ∷ (0 ∷ (0 ∷ [])))) c.in_ok-out.out.items c.put_spelled.new.out.items c.put_wall.new.out.items c.close.new.out.items
    refl
    c.in_ok-out.ensures
    (subst (λ (fs : Fields). c.put_spelled.new.out.items ≡ c.in_ok-out.out.items ++ elements_of fs) (sym (put_is c.args.ts c.args.ns.now d))
    (spelled_put c.in_ok-out.out.items c.put_heading.new.out.items c.put_spelled.new.out.items c.args.doc.now ((codes "op", Str (codes "i")) ∷ ((codes "ns", Str (text_of c.args.ns.now)) ∷ [])) d
    c.in_ok-put_heading.ensures c.in_ok-put_spelled.ensures e))
    c.in_ok-put_wall.ensures c.in_ok-close.ensures
