use Rattle.std.proofs.Common.{◌∙◌, ◌++◌, ℕ, ap, append_assoc, min, rules, string_bytes, sym}
use Rattle.std.specs.Prelude.{codes}
use Rattle.std.specs.Fmt.{decimal}
use Rattle.index_build.specs.Owned.{pairs_in}
use Rattle.index_rows.specs.Rows.{refusal_of}
use Rattle.index_rows.proofs.Calls.{is_answer, owned_is}
use Rattle.index_rows.proofs.kept.Kept.call.Goals as goal

pub returns : goal.returns
returns c =
    let id = c.in-Some.id.now in
    let doc = c.in_ok-doc.doc in
    let old = c.args.self.now.index in
    let new = c.called.new.index in
    let text = string_bytes c.in_ok-answer-2.answer in (
      id,
      doc,
      (search rules),
      (search rules),
      record {
        plan = c.called.ensures.plan;
        owned = owned_is c.args.verb.now id doc old new c.in_ok-answer.answer c.in_ok-answer-2.ensures.memory c.in_ok-answer.ensures.called;
        told = (
          text,
          c.in_ok-answer-2.ensures.told id (refusal_of c.args.verb.now id doc old) (is_answer c.args.verb.now id doc old new c.in_ok-answer.answer c.in_ok-answer.ensures.called),
          c.in_ok-format.ensures.ok ∙ (ap (λ (n : ℕ). text ++ (codes " " ++ decimal n)) c.len.ensures ∙ sym (append_assoc text (codes " ") (decimal (min (pairs_in new.owned) 18446744073709551615)))),
        );
      },
    )
