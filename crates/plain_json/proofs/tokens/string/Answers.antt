use Rattle.json_text.proofs.Plain.{plain_string}
use Rattle.plain_json.proofs.NewNames.{no_zero}
use Rattle.plain_json.proofs.tokens.string.Goals as goal

pub returns-clause-gives : goal.returns-clause-gives
returns-clause-gives c end =
    rw c.in_ok-text_of.ensures.1 (plain_string end c.args.bytes.now _ _ _ _ _ c.plain_span-len.ensures.value c.split_at.ensures.front c.split_at.ensures.back c.in_ok-quote.ensures.cases.0 c.if-quote-ne34.false c.in_ok-text_of.ensures.0)

pub returns-clause-no_zero : goal.returns-clause-no_zero
returns-clause-no_zero c =
    rw c.in_ok-text_of.ensures.1 (no_zero c.args.bytes.now _ _ c.plain_span-len.ensures.value c.split_at.ensures.front)
