-- What a line about a game begins with: its number and its players, `{Game G (W vs. B) `, this server's text.
use Rattle.std.specs.Prelude.{ℕ, List, ◌++◌, codes, decimal}

-- the number, up to the players
abbrev pub number_text : ℕ → List ℕ
number_text game = codes "{Game " ++ decimal game ++ codes " ("

-- all of it
abbrev pub game_text : ℕ → List ℕ → List ℕ → List ℕ
game_text game white black =
    number_text game ++ white ++ codes " vs. " ++ black ++ codes ") "
