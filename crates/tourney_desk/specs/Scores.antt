-- Results of games, and what a player has from them: a win gives 2 half-points, a draw 1 (FIDE Laws 10.1).
use Rattle.std.specs.Prelude.{ℕ, ◌==◌, Bool, ◌||◌, if◌then◌else◌}
use Rattle.tourney_desk.specs.declared.score.Score.{Score}
use Rattle.tourney_desk.specs.declared.score.Score.TheVariants.{White, Draw, Black}
use Rattle.tourney_desk.specs.declared.score.Report.{Report}

-- what White has from a game
abbrev pub white_halves : Score → ℕ
white_halves White = 2
white_halves Draw = 1
white_halves Black = 0

-- what Black has from it
abbrev pub black_halves : Score → ℕ
black_halves White = 0
black_halves Draw = 1
black_halves Black = 2

-- the result is one of a game of this player
abbrev pub is_by_player : ℕ → Report → Bool
is_by_player player report = (report.white == player) || (report.black == player)

-- what the player has from the result
abbrev pub halves_from : ℕ → Report → ℕ
halves_from player report =
    if report.white == player then white_halves report.score
    else (if report.black == player then black_halves report.score else 0)
