-- What a list ends as, where a `&mut` to one of its items is returned.
use Rattle.std.specs.Prelude.{ℕ, List, slice_set}
use Rattle.std.specs.Borrow.{Lends, Fml, RattleType, MutBor}
use Rattle.collections.specs.ItemsWithRoom.{ItemsWithRoom}
use Rattle.collections.specs.contracts.list.Listed.{the_row as listed_row}
use Rattle.collections.specs.contracts.room.Roomy.{the_row as roomy_row}
use Rattle.collections.specs.contracts.reserve.Reserved.{the_row as reserved_row}

-- Each says: once the borrow `item` ends, the place has the last value written through it, and no other item has
-- changed.
abbrev pub lends_listed_item : (T : RattleType) → MutBor (List T.Denot) → ℕ → MutBor T.Denot → Fml
lends_listed_item T list place item = Lends (listed_row T) T list item (slice_set list.now place)

abbrev pub lends_roomy_item : (T N : RattleType) → MutBor (List T.Denot) → ℕ → MutBor T.Denot → Fml
lends_roomy_item T N list place item = Lends (roomy_row T N) T list item (slice_set list.now place)

abbrev pub lends_reserved_item : (T : RattleType) → MutBor (ItemsWithRoom T.Denot) → ℕ → MutBor T.Denot → Fml
lends_reserved_item T list place item =
    Lends (reserved_row T) T list item (λ last. record list.now { items = slice_set list.now.items place last })
