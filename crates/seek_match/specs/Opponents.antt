-- With whom players have challenges, as rows for those who have some. This server's own.
use Rattle.std.specs.Prelude.{◌≡◌, ℕ, ◌==◌, Bool, not, ◌&&◌, ◌||◌, List, []}
use Rattle.std.specs.List.{find, list_any}
use Rattle.std.specs.Option.{option_map_or}
use Rattle.seek_match.specs.declared.challenge.Challenge.{Challenge}
use Rattle.seek_match.specs.declared.opponents.Opponents.{Opponents}
use Rattle.seek_match.specs.Matches.{has_challenge}

-- the others in the row of this player; none where it has no row
abbrev pub opponents_of : List Opponents → ℕ → List ℕ
opponents_of rows who = option_map_or (λ row. row.others) (find (λ row. who == row.who) rows) []

-- the other is in the row of this player
abbrev pub is_opponent : List Opponents → ℕ → ℕ → Bool
is_opponent rows who other = list_any (λ one. one == other) (opponents_of rows who)

-- the first two are the last two
abbrev pub are_these : ℕ → ℕ → ℕ → ℕ → Bool
are_these who other x y = (who == x) && (other == y)

-- the rows after say the same as those before, and that the other is in the row of this player
abbrev pub Lists : ℕ → ℕ → List Opponents → List Opponents → Type 0
Lists who other before after = (x y : ℕ) → is_opponent after x y ≡ (are_these who other x y || is_opponent before x y)

-- they say the same, but that the other isn't
abbrev pub Unlists : ℕ → ℕ → List Opponents → List Opponents → Type 0
Unlists who other before after =
    (x y : ℕ) → is_opponent after x y ≡ (not (are_these who other x y) && is_opponent before x y)

-- they say the same
abbrev pub SaysTheSame : List Opponents → List Opponents → Type 0
SaysTheSame before after = (x y : ℕ) → is_opponent after x y ≡ is_opponent before x y

-- the first rows say whom each player challenges, and the others who challenges each player
pub record AreOpponents (challenged challengers : List Opponents) (challenges : List Challenge) : Type 0 where
  pub by_first : (from to : ℕ) → is_opponent challenged from to ≡ has_challenge challenges from to
  pub by_second : (from to : ℕ) → is_opponent challengers to from ≡ has_challenge challenges from to
