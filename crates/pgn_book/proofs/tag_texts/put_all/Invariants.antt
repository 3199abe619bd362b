use Rattle.std.proofs.Common.{◌≡◌, ◌++◌, take}
use Rattle.pgn_book.proofs.tag_texts.put_all.Given as goal

-- the items so far were put
abbrev pub invariant-loop-item : goal.invariant-loop-item
invariant-loop-item g l = l.list ≡ l.fn.list ++ take l.item-index l.items
