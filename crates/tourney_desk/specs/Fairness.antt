-- What makes the pairs of a round robin fair.
use Rattle.std.specs.Prelude.{◌≡◌, ◌≢◌, ℕ, ◌+◌, ◌<◌, ◌≤◌, ◌==◌, Bool, ◌&&◌, ◌||◌, count_by}
use Rattle.tourney_desk.specs.Pairing.{all_pairs, pairs_in, rounds_of}

-- the player stands in the pair
abbrev pub stands_in : ℕ → ℕ × ℕ → Bool
stands_in player pair = (pair.0 == player) || (pair.1 == player)

-- the pair is of these two, with whatever colours
abbrev pub is_pair_of : ℕ → ℕ → ℕ × ℕ → Bool
is_pair_of i j pair = stands_in i pair && stands_in j pair

-- how often the player has White, and Black, over all rounds
abbrev pub white_games : ℕ → ℕ → ℕ
white_games n player = count_by (λ pair. pair.0 == player) (all_pairs n)

abbrev pub black_games : ℕ → ℕ → ℕ
black_games n player = count_by (λ pair. pair.1 == player) (all_pairs n)

-- nobody stands in two pairs of the round
abbrev pub IsRoundFair : ℕ → ℕ → Type 0
IsRoundFair n round = (player : ℕ) → player < n → count_by (stands_in player) (pairs_in n round) ≤ 1

-- over all rounds every two players meet exactly once, nobody stands in two pairs of a round, and the numbers of a
-- player's White and Black games differ by at most 1
pub record IsFair (n : ℕ) : Type 0 where
  pub once : (i j : ℕ) → i < n → j < n → i ≢ j → count_by (is_pair_of i j) (all_pairs n) ≡ 1
  pub apart : (round : ℕ) → 0 < round → round ≤ rounds_of n → IsRoundFair n round
  pub colours : (player : ℕ) → player < n
      → (white_games n player ≤ black_games n player + 1) × (black_games n player ≤ white_games n player + 1)
