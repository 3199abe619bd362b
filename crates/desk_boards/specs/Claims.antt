-- The draw that may be claimed at a board of a game.
use Rattle.std.specs.Prelude.{Option, Some, None, Result, Ok, Err}
use Rattle.chess_model.specs.declared.why.Why.{Why}
use Rattle.fics_words.specs.declared.refusal.Refusal.{Refusal}
use Rattle.game_board.specs.Board.{Board}
use Rattle.game_board.specs.Claim.{claim_answer}

-- the draw that an answer to a claim grants, if it does
abbrev pub granted : Result Why Refusal → Option Why
granted (Ok cause) = Some cause
granted (Err none) = None

-- the draw that may be claimed at a board, if there is one
abbrev pub claim_at : Option Board → Option Why
claim_at None = None
claim_at (Some b) = granted (claim_answer b)
