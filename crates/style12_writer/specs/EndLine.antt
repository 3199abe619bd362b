-- The line that tells how a game ended: `{Game G (W vs. B) REASON} RESULT`. The reasons are this server's texts.
use Rattle.std.specs.Prelude.{ℕ, Bool, true, false, List, [], ◌++◌, Option, Some, None, codes}
use Rattle.chess_model.specs.declared.man.Colour.{Colour}
use Rattle.chess_model.specs.declared.man.Colour.TheVariants.{White, Black}
use Rattle.chess_model.specs.declared.why.Why.{Why}
use Rattle.chess_model.specs.declared.why.Why.TheVariants.{Mate, Stalemate, Resigned, Flag, FlagDraw, Agreed, Fifty, Threefold, Aborted, Adjourned, Left}
use Rattle.style12_writer.specs.declared.view.BoardView.{BoardView}
use Rattle.style12_writer.specs.GameLine.{game_text}

-- a win of one of the players ends the game so
abbrev pub is_decisive : Why → Bool
is_decisive Mate = true
is_decisive Stalemate = false
is_decisive Resigned = true
is_decisive Flag = true
is_decisive FlagDraw = false
is_decisive Agreed = false
is_decisive Fifty = false
is_decisive Threefold = false
is_decisive Aborted = false
is_decisive Adjourned = false
is_decisive Left = true

-- the name of the player who lost and a blank, where somebody won
abbrev pub loser_text : BoardView → Option Colour → List ℕ
loser_text v (Some White) = v.black ++ codes " "
loser_text v (Some Black) = v.white ++ codes " "
loser_text v None = []

-- how the game ended, or what the player who lost did
abbrev pub manner_text : Why → List ℕ
manner_text Mate = codes "checkmated"
manner_text Stalemate = codes "drawn by stalemate"
manner_text Resigned = codes "resigns"
manner_text Flag = codes "forfeits on time"
manner_text FlagDraw = codes "drawn by time"
manner_text Agreed = codes "drawn by agreement"
manner_text Fifty = codes "drawn by the 50 move rule"
manner_text Threefold = codes "drawn by repetition"
manner_text Aborted = codes "aborted"
manner_text Adjourned = codes "adjourned"
manner_text Left = codes "forfeits by disconnection"

-- the reason on the board where the game ended, and on the other board of a pair
abbrev pub reason_text : BoardView → Why → Option Colour → Bool → List ℕ
reason_text v why winner true = loser_text v winner ++ manner_text why
reason_text v why winner false = codes "partner's game ended"

-- the result of a game that nobody won
abbrev pub unwon_text : Why → List ℕ
unwon_text Aborted = codes "*"
unwon_text Adjourned = codes "*"
unwon_text why = codes "1/2-1/2"

-- the result, by the colour that won
abbrev pub result_text : Option Colour → Why → List ℕ
result_text (Some White) why = codes "1-0"
result_text (Some Black) why = codes "0-1"
result_text None why = unwon_text why

-- the whole line
abbrev pub end_text : BoardView → Why → Option Colour → Bool → List ℕ
end_text v why winner own =
    game_text v.game v.white v.black ++ reason_text v why winner own ++ codes "} " ++ result_text winner why
