-- What the numbers of a Games mean to players. This server's own.
use Rattle.std.specs.Prelude.{◌≡◌, ◌↔◌, ℕ, ◌<◌, IsSome, List, ◌++◌, map, Contains, codes, decimal}
use Rattle.std.specs.List.{AllPairs}
use Rattle.lobby_state.specs.FindGame.{first_seat}
use Rattle.lobby_state.specs.Lobby.{LobbyState}

-- the lines are those of the games that a FindGame finds, each of them once, in the order of their numbers, and each
-- line begins with its game's number
pub record ListWhatIsFound (lobby : LobbyState) (lines : List (List ℕ)) : Type 0 where
  pub numbers : List ℕ
  pub found : (number : ℕ) → Contains numbers number ↔ IsSome (first_seat lobby number)
  pub ascending : AllPairs (λ one another. one < another) numbers
  -- what stands in a line behind its number
  pub behind : ℕ → List ℕ
  pub told : lines ≡ map (λ number. decimal number ++ codes " " ++ behind number) numbers
