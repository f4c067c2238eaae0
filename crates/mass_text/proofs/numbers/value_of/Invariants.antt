use Rattle.std.proofs.Common.{◌≡◌, ◌≤◌, take}
use Rattle.std.specs.Str.Parse.{digits_value}
use Rattle.mass_text.specs.Numbers.{base_of}
use Rattle.mass_text.proofs.numbers.value_of.Given as goal

abbrev pub invariant-loop-byte : goal.invariant-loop-byte
invariant-loop-byte l = record {
  value : l.value ≡ digits_value (base_of l.radix) (take l.byte-index l.digits);
  bound : l.value ≤ l.max;
}
