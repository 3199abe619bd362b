use Rattle.std.proofs.Common.{◌≡◌, ◌++◌, take, drop}
use Rattle.stamp_codec.specs.Spelling.{by_place}
use Rattle.stamp_codec.specs.Opening.{decipher}
use Rattle.stamp_codec.proofs.cipher.decipher_line.Given as goal

-- the bytes so far are changed, and those behind them are as they were
abbrev pub invariant-loop-place : goal.invariant-loop-place
invariant-loop-place l =
    take l.place l.bytes ++ by_place decipher l.place (drop l.place l.bytes) ≡ by_place decipher 0 l.fn.bytes
