-- What the grammar and the export form mean for each other.
use Rattle.std.specs.Prelude.{◌≡◌, ℕ, ◌≤◌, true, List, [], ◌∷◌, ◌++◌, length, Option, Some, None}
use Rattle.std.specs.List.{AllByRecursion}
use Rattle.fics_words.specs.Pieces.{pieces}
use Rattle.pgn_book.specs.declared.game.PgnGame.{PgnGame}
use Rattle.pgn_book.specs.Games.{ReadsGames}
use Rattle.pgn_book.specs.Export.{movetext, export_text, IsExportable}
use Rattle.pgn_book.specs.Reading.{State, read_from, first_state, gone, gone_both, adding_all}

-- the grammar reads in the export of a game exactly that game
pub record ExportsReadBack : Type 0 where
  pub read : (g : PgnGame) → IsExportable g → ReadsGames (export_text g) (g ∷ [])
  pub only : (g : PgnGame) (games : List PgnGame) → IsExportable g → ReadsGames (export_text g) games → games ≡ g ∷ []

-- reading from left to right finds whole games exactly in the texts that the grammar reads, and these games
pub record ReaderReads : Type 0 where
  pub sound : (text : List ℕ) (games : List PgnGame)
      → read_from (Some first_state) text ≡ record { games = games; whole = true }
      → ReadsGames text games
  pub complete : (text : List ℕ) (games : List PgnGame) → ReadsGames text games
      → read_from (Some first_state) text ≡ record { games = games; whole = true }

-- a text is read alike however it is cut, and where no reading goes on behind its first bytes, the grammar reads
-- nothing that begins with them
pub record ReadsInPieces : Type 0 where
  pub read : (s : Option State) (front rest : List ℕ) → read_from s (front ++ rest)
      ≡ adding_all (gone s front).games (read_from (gone s front).on rest)
  pub goes_on : (s : Option State) (front rest : List ℕ) → gone s (front ++ rest)
      ≡ gone_both (gone s front) (gone (gone s front).on rest)
  pub lost : (front rest : List ℕ) (games : List PgnGame) → (gone (Some first_state) front).on ≡ None
      → ReadsGames (front ++ rest) games → ⊥

-- each game that is read may be exported
abbrev pub ReadsExportable : Type 0
ReadsExportable = (text : List ℕ) (games : List PgnGame) → ReadsGames text games → AllByRecursion IsExportable games

-- no line of an exported movetext is longer than 79 bytes
abbrev pub LinesFit : Type 0
LinesFit = (g : PgnGame) → IsExportable g → AllByRecursion (λ line. length line ≤ 79) (pieces (movetext g))
