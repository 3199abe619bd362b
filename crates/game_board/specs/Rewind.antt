-- Going back to the start of a game.
use Rattle.game_board.specs.Board.{Board, new_board}

-- the board at its start, from which the first player is thinking since the same moment as the player to move was
abbrev pub rewound : Board → Board
rewound b = new_board b.number b.terms b.begin
