-- The draws that a player may claim, in chess and in Fischer random alone (FIDE Laws 9.2 and 9.3).
use Rattle.std.specs.Prelude.{Bool, true, false, not, if◌then◌else◌, Result, Ok, Err}
use Rattle.chess_model.specs.declared.variant.Variant.{Variant}
use Rattle.chess_model.specs.declared.variant.Variant.TheVariants.{Chess, Crazyhouse, Bughouse, Fischer}
use Rattle.chess_model.specs.declared.why.Why.{Why}
use Rattle.chess_model.specs.declared.why.Why.TheVariants.{Fifty, Threefold}
use Rattle.chess_model.specs.Claims.{is_fifty, is_threefold}
use Rattle.fics_words.specs.declared.refusal.Refusal.{Refusal}
use Rattle.fics_words.specs.declared.refusal.Refusal.TheVariants.{NothingToClaim}
use Rattle.game_board.specs.Board.{Board, position_of}

-- whether draws are claimed in a variant
abbrev pub has_claims : Variant → Bool
has_claims Chess = true
has_claims Crazyhouse = false
has_claims Bughouse = false
has_claims (Fischer number) = true

-- whether the position on the board stands at least for the third time
abbrev pub is_third_time : Board → Bool
is_third_time b = is_threefold b.terms.variant b.all b.number

-- why the game is a draw by a claim, the fifty moves first; or the refusal
unfoldable pub claim_answer : Board → Result Why Refusal
claim_answer b =
    if not (has_claims b.terms.variant) then Err NothingToClaim
    else if is_fifty (position_of b) then Ok Fifty
    else if is_third_time b then Ok Threefold
    else Err NothingToClaim
