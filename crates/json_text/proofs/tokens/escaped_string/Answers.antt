use Rattle.std.proofs.Common.{ap, sym, ◌∙◌}
use Rattle.std.specs.Str.{is_utf8}
use Rattle.std.proofs.lemmas.Str.{is_utf8-from_IsUtf8, IsUtf8-string_bytes}
use Rattle.json_text.proofs.Texts.{string_is, string_not}
use Rattle.json_text.proofs.tokens.escaped_string.Goals as goal

pub returns-in-Ok-clause-gives : goal.returns-in-Ok-clause-gives
returns-in-Ok-clause-gives c =
    let t = ap (λ v. v.items) c.in-Ok.ensures.ok in
    let u = ap is_utf8 (sym t) ∙ is_utf8-from_IsUtf8 _ (IsUtf8-string_bytes c.in-Ok.text) in
    rw (c.in_ok-from_string-in-Ok.ensures, t) (string_is c.args.end c.args.bytes.now c.in_ok-text.text.items c.in_ok-text.rest.now c.in_ok-text.ensures.gives u)

pub returns-clause-gives : goal.returns-clause-gives
returns-clause-gives c =
    rw c.bad.ensures (string_not c.args.end c.args.bytes.now c.in_ok-text.text.items c.in_ok-text.rest.now c.in_ok-text.ensures.gives (λ u. let f = c.in-Err.ensures.succeeds u in cc))
