use Rattle.std.proofs.Common.{◌≡◌, ◌<◌, ◌≤◌, ◌+◌, ◌-◌, length, take, drop}
use Rattle.std.specs.List.{prefix_len}
use Rattle.std.specs.Str.{IsAscii}
use Rattle.json_text.specs.Pieces.{is_plain}
use Rattle.plain_json.proofs.tokens.plain_span.Given as goal

abbrev pub invariant-bytes : goal.invariant-bytes
invariant-bytes l = record {
  value : l.len + prefix_len is_plain (drop l.len l.bytes) ≡ prefix_len is_plain l.bytes;
  within : l.len ≤ length l.bytes;
  ascii : l.seen < 128 → IsAscii (take l.len l.bytes);
}

abbrev pub decreases-bytes : goal.decreases-bytes
decreases-bytes l = length l.bytes - l.len
