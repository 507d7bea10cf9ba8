use Rattle.std.proofs.Common.{◌≡◌, ◌^◌, ◌≤◌, drop}
use Rattle.script.specs.Number.{in_base}
use Rattle.script.proofs.Digits.{after}
use Rattle.script.proofs.number.in_base.Given as goal

abbrev pub invariant-loop-byte : goal.invariant-loop-byte
invariant-loop-byte l = (l.number ≤ 2 ^ 32) × (after l.base l.number (drop l.byte-index l.digits) ≡ in_base l.base l.digits)
