-- What is put for a step of the reader.
use Rattle.std.specs.Prelude.{◌≡◌, ℕ, Bool, true, false, List, ◌++◌, codes, Ok, Err, Result, ⊤}
use Rattle.cmd_lines.specs.declared.stop.Stop.{Stop}
use Rattle.cmd_lines.specs.declared.stop.Stop.TheVariants.{BadLine, Memory}
use Rattle.cmd_lines.specs.Handling.{bad_line}
use Rattle.pgn_book.specs.declared.game.PgnGame.{PgnGame}
use Rattle.pgn_book.specs.declared.reader.PgnStep.{PgnStep}
use Rattle.pgn_book.specs.declared.reader.PgnStep.TheVariants.{Game, More, Bad}
use Rattle.pgn_book.specs.Export.{export_text}
use Rattle.pgn_book.specs.Reader.{Reader}
use Rattle.pgn_book.specs.Runs.{EndsSo, HasGiven}
use Rattle.cmd_tidy.specs.Tidying.{HasTidied, HasTidiedAll, IsRefused, exports}

-- a game's export was put, or nothing where there is no game, or the number of the line that is outside the grammar
abbrev pub PutsStep : PgnStep → List ℕ → List ℕ → Result Bool Stop → Type 0
PutsStep (Game g) out out' (Ok more) = (more ≡ true) × (out' ≡ out ++ export_text g)
PutsStep (Game g) out out' (Err BadLine) = ⊥
PutsStep (Game g) out out' (Err Memory) = ⊤
PutsStep More out out' (Ok more) = (more ≡ false) × (out' ≡ out)
PutsStep More out out' (Err BadLine) = ⊥
PutsStep More out out' (Err Memory) = ⊤
PutsStep (Bad line) out out' (Ok more) = ⊥
PutsStep (Bad line) out out' (Err BadLine) = out' ≡ out ++ bad_line (codes "\n") line
PutsStep (Bad line) out out' (Err Memory) = ⊤

-- what is due was put up to a game, behind which more may be whole
pub record HasPutGames (taken due : List ℕ) (r : Reader) : Type 0 where
  pub games : List PgnGame
  pub given : HasGiven taken games r
  pub text : due ≡ exports games

-- after the next step in the midst of a text
abbrev pub AfterPut : List ℕ → List ℕ → Reader → Result Bool Stop → Type 0
AfterPut taken due r (Ok true) = HasPutGames taken due r
AfterPut taken due r (Ok false) = HasTidied taken r due
AfterPut taken due r (Err BadLine) = IsRefused false taken due
AfterPut taken due r (Err Memory) = ⊤

-- the same at the end of the text
pub record HasPutLast (taken due : List ℕ) (r : Reader) : Type 0 where
  pub games : List PgnGame
  pub ends : EndsSo taken games r
  pub text : due ≡ exports games

abbrev pub AfterLast : List ℕ → List ℕ → Reader → Result Bool Stop → Type 0
AfterLast taken due r (Ok true) = HasPutLast taken due r
AfterLast taken due r (Ok false) = HasTidiedAll taken due
AfterLast taken due r (Err BadLine) = IsRefused true taken due
AfterLast taken due r (Err Memory) = ⊤
