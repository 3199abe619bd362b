-- The charges of a colour in a list of half-moves, and the clocks that they give.
use Rattle.std.specs.Prelude.{List, [], ◌∷◌, ◌++◌, if◌then◌else◌, Bool, Option, ℤ}
use Rattle.std.specs.Option.{option_to_list}
use Rattle.chess_model.specs.declared.man.Colour.{Colour}
use Rattle.chess_model.specs.declared.man.Colour.TheVariants.{White}
use Rattle.chess_model.specs.declared.variant.Terms.{Terms}
use Rattle.chess_model.specs.Placement.{opposite}
use Rattle.chess_model.specs.Holdings.{same_colour}
use Rattle.clock_ledger.specs.declared.charges.Charge.{Charge}
use Rattle.clock_ledger.specs.Clock as clock
use Rattle.game_board.specs.declared.played.Played.{Played}
use Rattle.game_board.specs.Board.{Board}

-- the charge of a half-move made by `by`, where there is one and it is c's
abbrev pub charge_to : Colour → Colour → Option Charge → List Charge
charge_to c by charge = if same_colour c by then option_to_list charge else []

-- the charges of c in a list of half-moves, of which the first is made by `by`
abbrev pub charges_from : Colour → Colour → List Played → List Charge
charges_from c by [] = []
charges_from c by (p ∷ ps) = charge_to c by p.charge ++ charges_from c (opposite by) ps

-- the charges of a colour; White begins
abbrev pub charges_of : Colour → List Played → List Charge
charges_of c list = charges_from c White list

-- the clock of a colour: what it started with, and its charges
abbrev pub clock_of : Terms → Colour → List Played → clock.Ledger
clock_of t c list = record { minutes = t.minutes; increment = t.increment; charges = charges_of c list }

-- whether the game is played with clocks
abbrev pub is_timed : Terms → Bool
is_timed t = clock.timed (record { minutes = t.minutes; increment = t.increment; charges = [] })

-- what a colour's clock shows, in milliseconds; it doesn't count time that is running
abbrev pub remaining_of : Board → Colour → ℤ
remaining_of b c = clock.remaining (clock_of b.terms c b.list)
