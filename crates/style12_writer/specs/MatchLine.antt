-- The lines that tell that a game is on: `{Game G (W vs. B) WHAT M I V match.}`, this server's text.
use Rattle.std.specs.Prelude.{ℕ, List, ◌++◌, codes, decimal}
use Rattle.chess_model.specs.declared.variant.Terms.{Terms}
use Rattle.chess_model.specs.VariantWord.{word_of}
use Rattle.style12_writer.specs.GameLine.{game_text}

-- the minutes, the increment and the variant
abbrev pub terms_text : Terms → List ℕ
terms_text t = decimal t.minutes ++ codes " " ++ decimal t.increment ++ codes " " ++ word_of t.variant

-- the whole line, where `what` says what becomes of the game
abbrev pub match_text : List ℕ → ℕ → List ℕ → List ℕ → Terms → List ℕ
match_text what game white black t =
    game_text game white black ++ what ++ codes " " ++ terms_text t ++ codes " match.}"
