use Rattle.std.proofs.Common.{sym, ap, ◌∙◌}
use Rattle.std.specs.Prelude.{is_some}
use Rattle.std.proofs.lemmas.Result.{on_ok_weaker}
use Rattle.bson_value.specs.Spelling.{document_text}
use Rattle.coll_state.specs.Changes.{put}
use Rattle.coll_state.specs.Kept.{is_short}
use Rattle.coll_state.specs.Rows.{Document as Fields, id_of}
use Rattle.store_core.proofs.own_bytes.put_spelled.Goals as goal

pub put_spelling-requires-clause-id : goal.put_spelling-requires-clause-id
put_spelling-requires-clause-id c = ap (λ (d : Fields). is_some (id_of d)) c.requires.spelling.1 ∙ c.requires.id

pub put_spelling-requires-clause-spelling : goal.put_spelling-requires-clause-spelling
put_spelling-requires-clause-spelling c = c.requires.spelling.0 ∙ ap document_text (sym c.requires.spelling.1)

pub put_spelling-requires-clause-short : goal.put_spelling-requires-clause-short
put_spelling-requires-clause-short c = ap is_short c.requires.spelling.1 ∙ c.requires.short

pub returns-clause-ok : goal.returns-clause-ok
returns-clause-ok c = on_ok_weaker c.put_spelling.result (λ h. h ∙ ap (λ (d : Fields). put c.args.ns.now d c.args.state.now) c.requires.spelling.1) c.put_spelling.ensures.ok
