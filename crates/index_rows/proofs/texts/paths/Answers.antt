use Rattle.std.proofs.Common.{◌≡◌, ◌∙◌, All, None, [], ◌∷◌, ◌++◌, map as each, ap, subst, lit<}
use Rattle.std.proofs.lemmas.List.{map-append}
use Rattle.std.proofs.lemmas.List.Elements.{All-push}
use Rattle.std.proofs.lemmas.Iterator.Splits.{YieldsList-from_str_split}
use Rattle.std.proofs.lemmas.Iterator.Consumers.{YieldsList-end}
use Rattle.doc_path.specs.Paths.{parts_of, path_fault}
use Rattle.index_rows.proofs.texts.paths.Goals as goal

pub loop-field-preserved : goal.loop-field-preserved
loop-field-preserved c = record {
  next = tt;
  ends = tt;
  read = rw (map-append, map-append) (c.in_ok-push_path.ensures.ok ∙ ap (λ paths. paths ++ (parts_of c.in-Some.field.now ∷ [])) c.loop-field.invariant.read);
  faultless = rw map-append (All-push (λ field. path_fault field ≡ None) _ _ c.loop-field.invariant.faultless c.in_ok-push_path.ensures.faultless);
}

pub returns-clause-paths : goal.returns-clause-paths
returns-clause-paths c =
    let y = YieldsList-from_str_split 44 c.args.fields.now (lit< tt) (rw c.into_iter-field-iterator.ensures.into_iter_gives c.split-field-items.ensures.text) (rw c.into_iter-field-iterator.ensures.into_iter_gives c.split-field-items.ensures.has_more) (rw c.into_iter-field-iterator.ensures.into_iter_gives c.split-field-items.ensures.pattern) in
    let t = YieldsList-end y c.loop-field.yielded _ c.loop-field.yielded_by _ _ c.in-None.is c.next.ensures.steps in
    c.loop-field.invariant.read ∙ ap (each parts_of) t.0

pub returns-clause-faultless : goal.returns-clause-faultless
returns-clause-faultless c =
    let y = YieldsList-from_str_split 44 c.args.fields.now (lit< tt) (rw c.into_iter-field-iterator.ensures.into_iter_gives c.split-field-items.ensures.text) (rw c.into_iter-field-iterator.ensures.into_iter_gives c.split-field-items.ensures.has_more) (rw c.into_iter-field-iterator.ensures.into_iter_gives c.split-field-items.ensures.pattern) in
    let t = YieldsList-end y c.loop-field.yielded _ c.loop-field.yielded_by _ _ c.in-None.is c.next.ensures.steps in
    subst (All (λ field. path_fault field ≡ None)) t.0 c.loop-field.invariant.faultless
