use Rattle.std.proofs.Common.{List, subst}
use Rattle.seek_match.specs.declared.seek.Seek.{Seek}
use Rattle.collections.proofs.Rising.{first_gap-is_least}
use Rattle.seek_match.specs.Seeks.{IsLeastUnused, next_number, number_of}
use Rattle.seek_match.proofs.laws.next_number_is_least.Goals as goal

pub returns : goal.returns
returns c =
    subst (λ (seeks : List Seek). IsLeastUnused seeks (next_number seeks)) c.book.view_is
    (first_gap-is_least number_of 65536 c.book.inside.rows c.book.invariant)
