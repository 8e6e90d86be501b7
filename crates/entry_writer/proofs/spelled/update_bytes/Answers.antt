use Rattle.std.proofs.Common.{◌≡◌, refl, sym, ap, subst, [], ◌∷◌, ◌++◌, ◌∙◌, List, ℕ}
use Rattle.std.specs.Prelude.{codes}
use Rattle.bson_value.specs.declared.value.Ts.{Ts}
use Rattle.bson_value.specs.declared.value.Value.{Str, Object}
use Rattle.bson_value.specs.Spelling.{elements_of}
use Rattle.entry_model.specs.Spelling.{namespace_text, id_alone, wall}
use Rattle.entry_model.specs.Written.{Fields}
use Rattle.entry_writer.proofs.Items.{entry_put, spelled_put, front}
use Rattle.entry_writer.proofs.spelled.update_bytes.Goals as goal

abbrev heading : List ℕ → List ℕ → Fields → Fields
heading db coll id = (codes "op", Str (codes "u")) ∷ ((codes "ns", Str (namespace_text db coll)) ∷ ((codes "o2", Object id) ∷ []))

pub returns : goal.returns
returns c = λ e d at text is.
    c.from_vec.ensures
    ∙ entry_put e (0 ∷ (0 ∷ (0 ∷ (0 ∷ [])))) c.in_ok-out.out.items c.put_spelled.new.out.items c.put_wall.new.out.items c.close.new.out.items
    refl
    (c.in_ok-out.ensures ∙ ap (λ (ts : Ts). (0 ∷ (0 ∷ (0 ∷ (0 ∷ [])))) ++ elements_of (front ts)) (sym at))
    (subst (λ (fs : Fields). c.put_spelled.new.out.items ≡ c.in_ok-out.out.items ++ elements_of fs) (sym is)
    (spelled_put c.in_ok-out.out.items c.put_update_head.new.out.items c.put_spelled.new.out.items c.args.doc.now (heading c.args.ns.now.db c.args.ns.now.coll (id_alone c.args.id.now)) d
    c.in_ok-put_update_head.ensures c.in_ok-put_spelled.ensures text))
    (c.in_ok-put_wall.ensures ∙ ap (λ (ts : Ts). c.put_spelled.new.out.items ++ elements_of ((codes "wall", wall ts.secs) ∷ [])) (sym at)) c.in_ok-close.ensures
