use Rattle.std.proofs.Common.{◌≡◌, ◌<◌, ◌≤◌, ◌-◌, ◌^◌, true, length, take}
use Rattle.std.specs.Str.Parse.{digits_value}
use Rattle.line_text.specs.Numbers.{are_digits}
use Rattle.fate_check.proofs.front.number_on.Given as goal

-- the digits so far write the value
abbrev pub invariant-loop-digits : goal.invariant-loop-digits
invariant-loop-digits l = record {
  few : l.most ≤ 19;
  within : l.most ≤ length l.text;
  inside : l.digits ≤ l.most;
  digits : are_digits 10 (take l.digits l.text) ≡ true;
  value : l.value ≡ digits_value 10 (take l.digits l.text);
  small : l.value < 10 ^ l.digits;
}

abbrev pub decreases-loop-digits : goal.decreases-loop-digits
decreases-loop-digits l = l.most - l.digits
