use Rattle.std.proofs.Common.{length, ◌-◌, ◌≡◌, ◌<◌, ◌≤◌, take, true}
use Rattle.std.specs.List.{list_all}
use Rattle.std.specs.Str.Parse.{digits_value}
use Rattle.json_tree.specs.Numbers.{is_digit}
use Rattle.plain_json.proofs.numbers.digits.Given as goal

abbrev pub invariant-digits : goal.invariant-digits
invariant-digits l = record {
  value : digits_value 10 (take l.count l.bytes) ≡ l.number;
  digits : list_all is_digit (take l.count l.bytes) ≡ true;
  within : l.count ≤ length l.bytes;
  bound : l.number < 1000000000;
}

abbrev pub decreases-digits : goal.decreases-digits
decreases-digits l = length l.bytes - l.count
