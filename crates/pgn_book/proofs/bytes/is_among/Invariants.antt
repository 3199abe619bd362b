use Rattle.std.proofs.Common.{◌≡◌, drop}
use Rattle.pgn_book.specs.Bytes.{is_among}
use Rattle.pgn_book.proofs.bytes.is_among.Given as goal

-- none of the bytes so far is it
abbrev pub invariant-loop-one : goal.invariant-loop-one
invariant-loop-one l = is_among l.bytes l.byte ≡ is_among (drop l.one-index l.bytes) l.byte
