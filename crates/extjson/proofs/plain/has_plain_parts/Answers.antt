use Rattle.std.proofs.Common.{sym}
use Rattle.extjson.proofs.Wrapping.{parts_none, parts_one, parts_more}
use Rattle.extjson.proofs.plain.has_plain_parts.Goals as goal

pub returns-in-empty : goal.returns-in-empty
returns-in-empty c = sym (parts_none c.args.entries.now c.in-empty.len_below)

pub returns-in-len1 : goal.returns-in-len1
returns-in-len1 c =
    let e = parts_one c.args.entries.now c.entry-item.result c.in-len1.len_at_least c.in-len1.len_below c.entry-item.is in
    rw (e, ← c.as_str.ensures, ← c.named.ensures) c.is_told.ensures

pub returns-in_default : goal.returns-in_default
returns-in_default c = sym (parts_more c.args.entries.now c.in_default.len_at_least)
