use Rattle.std.proofs.Common.{◌≡◌, subst, rules, string_bytes}
use Rattle.std.specs.Prelude.{IfOk}
use Rattle.archive_rows.proofs.Heads.{is_head, is_no_head}
use Rattle.archive_rows.proofs.blocks.head_text.Goals as goal

pub returns-in-Ok-read_ns_head : goal.returns-in-Ok-read_ns_head
returns-in-Ok-read_ns_head c = subst (λ told. IfOk c.head_line.result (λ answer. string_bytes answer ≡ told)) (is_head c.args.bytes.now _ c.in-Ok-read_ns_head.ensures.ok) c.head_line.ensures

pub returns-in-Err-read_ns_head : goal.returns-in-Err-read_ns_head
returns-in-Err-read_ns_head c =
    subst (λ told. IfOk c.from_str-in-Err-read_ns_head.result (λ answer. string_bytes answer ≡ told))
    (is_no_head c.args.bytes.now c.shape_word.result.now c.in-Err-read_ns_head.fault c.shape_word.ensures c.in-Err-read_ns_head.ensures.err) (search rules)
