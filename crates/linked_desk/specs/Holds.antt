-- What the fields of every game at a desk keep.
use Rattle.std.specs.Prelude.{◌≡◌, ◌≤◌, length, None}
use Rattle.fics_words.specs.Seats.{seat_list}
use Rattle.linked_desk.specs.declared.game.Game.TheInside.{Inside}
use Rattle.desk_boards.specs.Boards.{latest}

pub record HoldsGame (g : Inside) : Type 0 where
  -- while the game runs there is room for the items of its end, so nobody who leaves needs memory
  pub room : g.ended ≡ None → 4 ≤ g.feed.room
  -- no clock of a board runs ahead of the desk's
  pub order : latest g.boards ≤ g.last
  -- every seat can make offers
  pub seated : g.offers.seats ≡ length (seat_list g.seats)
