use Rattle.std.proofs.Common.{◌≡◌, ◌+◌, ◌*◌, ◌%◌, ◌^◌, max, take, length}
use denote.Param.Weighed.{most}
use Rattle.bson_value.specs.declared.value.Value.{size-Value}
use Rattle.bson_value.specs.Spelling.{elements_of, items_of}
use Rattle.bson_value.proofs.+length.Given as goal

abbrev pub decreases-value::Value::spelling_len : goal.decreases-value::Value::spelling_len
decreases-value::Value::spelling_len l = 4 * size-Value l.self.now

abbrev pub decreases-length::field : goal.decreases-length::field
decreases-length::field l = 4 * size-Value l.entry.now.1 + 1

abbrev pub decreases-length::fields : goal.decreases-length::fields
decreases-length::fields l = 4 * most (λ e. max 0 (size-Value e.1)) l.entries.now + 2

abbrev pub decreases-length::Fields+Value::spelling_len : goal.decreases-length::Fields+Value::spelling_len
decreases-length::Fields+Value::spelling_len l = 4 * most (λ e. max 0 (size-Value e.1)) l.self.now + 3

abbrev pub decreases-length::items : goal.decreases-length::items
decreases-length::items l = 4 * most (λ v. size-Value v) l.items.now + 2

abbrev pub invariant-length::fields-loop-i : goal.invariant-length::fields-loop-i
invariant-length::fields-loop-i l = l.len ≡ length (elements_of (take l.i l.entries)) % 2 ^ 64

abbrev pub invariant-length::items-loop-i : goal.invariant-length::items-loop-i
invariant-length::items-loop-i l = l.len ≡ (length (items_of (take l.i l.items)) + 5) % 2 ^ 64
