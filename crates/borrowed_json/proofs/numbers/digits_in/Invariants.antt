-- The invariant of the loop of `digits_in`.
use Rattle.std.proofs.Common.{◌≡◌, ◌<◌, ◌^◌, take}
use Rattle.std.specs.Str.Parse.{AllDigits, digits_value}
use Rattle.borrowed_json.proofs.numbers.digits_in.Given as goal

abbrev pub invariant-loop-byte : goal.invariant-loop-byte
invariant-loop-byte l = (l.number ≡ digits_value 10 (take l.byte-index l.bytes)) × AllDigits 10 (take l.byte-index l.bytes) × (l.number < 2 ^ 64)
