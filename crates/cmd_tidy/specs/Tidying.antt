-- What `tidy` writes for the bytes of its input.
use Rattle.std.specs.Prelude.{◌≡◌, ◌≢◌, ℕ, Bool, true, false, List, [], ◌++◌, None, codes}
use Rattle.std.specs.List.{flat_map}
use Rattle.cmd_lines.specs.Feeding.{Feeding}
use Rattle.cmd_lines.specs.Handling.{bad_line}
use Rattle.pgn_book.specs.declared.game.PgnGame.{PgnGame}
use Rattle.pgn_book.specs.Games.{ReadsGames}
use Rattle.pgn_book.specs.Export.{export_text}
use Rattle.pgn_book.specs.Reader.{Reader}
use Rattle.pgn_book.specs.BadLines.{IsLeftOn}
use Rattle.pgn_book.specs.Runs.{AreWhole, HasGiven, begun_with, outcome_of}

-- games in the export form, one behind the other
abbrev pub exports : List PgnGame → List ℕ
exports games = flat_map export_text games

-- these bytes have come of an input that goes on so: the reader gave the games that are whole in them, and their
-- exports are due
pub record HasTidied (taken : List ℕ) (r : Reader) (due : List ℕ) : Type 0 where
  -- there are
  pub games : List PgnGame
  -- such that
  pub whole : AreWhole taken games
  -- a game is told with the byte behind its result, which `whole` leaves open where this is no white space
  pub told : games ≡ (begun_with taken).games
  pub given : HasGiven taken games r
  pub all : r.rest ≡ []
  pub goes_on : r.on ≢ None
  pub text : due ≡ exports games

-- these bytes are the whole input: the grammar reads games in them, and the exports of exactly these are due
pub record HasTidiedAll (taken due : List ℕ) : Type 0 where
  pub games : List PgnGame
  pub read : ReadsGames taken games
  pub text : due ≡ exports games

-- the bytes leave the grammar on a line, whatever follows them where the input hasn't ended: due are the exports of the
-- games that are whole before that, and the line's number
pub record IsRefused (ended : Bool) (taken due : List ℕ) : Type 0 where
  -- there are
  pub games : List PgnGame
  pub line : ℕ
  -- such that
  pub whole : AreWhole taken games
  -- a game is told with the byte behind its result, or the end, which `whole` leaves open where this is no white space
  pub told : games ≡ (outcome_of taken).games
  pub left : (more : List ℕ) → (ended ≡ true → more ≡ []) → IsLeftOn (taken ++ more) line
  pub text : due ≡ exports games ++ bad_line (codes "\n") line

abbrev pub IsTidied : Bool → List ℕ → Reader → List ℕ → Type 0
IsTidied false taken r due = HasTidied taken r due
IsTidied true taken r due = HasTidiedAll taken due

-- `tidy` as a command that is fed the bytes of its input
abbrev pub tidying : Feeding Reader
tidying = record { fed = IsTidied; refused = IsRefused; closed = λ taken r due. HasTidiedAll taken due }
