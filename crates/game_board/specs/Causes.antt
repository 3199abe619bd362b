-- The answers of the rules in the words of the server.
use Rattle.std.specs.Prelude.{Result, Ok, Err}
use Rattle.fics_words.specs.declared.refusal.Refusal.{Refusal}
use Rattle.fics_words.specs.declared.refusal.Refusal.TheVariants as refusal
use Rattle.chess_model.specs.declared.moves.Rejection.{Rejection}
use Rattle.chess_model.specs.declared.moves.Rejection.TheVariants as rejection

-- the refusal of a word that has no move
abbrev pub refusal_of_rejection : Rejection → Refusal
refusal_of_rejection rejection.Ambiguous = refusal.Ambiguous
refusal_of_rejection rejection.LeavesKing = refusal.LeavesKing
refusal_of_rejection rejection.CastleForbidden = refusal.CastleForbidden
refusal_of_rejection rejection.NoDrops = refusal.NoDrops
refusal_of_rejection rejection.NotInHand = refusal.NotInHand
refusal_of_rejection rejection.Occupied = refusal.Occupied
refusal_of_rejection rejection.EndRank = refusal.EndRank
refusal_of_rejection rejection.NoPiece = refusal.NoPiece
refusal_of_rejection rejection.CannotReach = refusal.CannotReach

-- the answer of the rules, with its refusal in the words of the server
abbrev pub in_words : {T : Type 0} → Result T Rejection → Result T Refusal
in_words (Ok m) = Ok m
in_words (Err r) = Err (refusal_of_rejection r)
