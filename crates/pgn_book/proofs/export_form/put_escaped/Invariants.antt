use Rattle.std.proofs.Common.{◌≡◌, ◌++◌, take}
use Rattle.pgn_book.specs.Lexing.{escaped}
use Rattle.pgn_book.proofs.export_form.put_escaped.Given as goal

-- the bytes so far were put
abbrev pub invariant-loop-byte : goal.invariant-loop-byte
invariant-loop-byte l = l.out.items ≡ l.fn.out.items ++ escaped (take l.byte-index l.text)
