-- The pairs of a round robin. Players are numbered from 0; the order of the rounds is the one that comes about where
-- the players sit in a circle that is turned by one place after each round.
use Rattle.std.specs.Prelude.{ℕ, ◌+◌, ◌-◌, ◌%◌, ◌<◌, ◌==◌, Bool, not, ◌&&◌, nat_lt, if◌then◌else◌, List, map}
use Rattle.std.specs.List.{filter, flat_map, list_any, range_with_len}

abbrev pub is_odd : ℕ → Bool
is_odd k = (k % 2) == 1

-- the number of rounds, which is odd: as many as there are players, or one less where these are even. Then the last
-- player, whose number this is, has a place of its own beside the circle
unfoldable pub rounds_of : ℕ → ℕ
rounds_of n = if is_odd n then n else n - 1

-- two players, the first with the lesser number, meet in the round: those of the circle where their numbers, added and
-- divided by the number of rounds, leave the round's number less 1; and the last player meets the one of the circle
-- whose number does so that is added to itself
abbrev pub meet : ℕ → ℕ → ℕ × ℕ → Bool
meet n round two =
    ((two.0 + (if two.1 == rounds_of n then two.0 else two.1)) % rounds_of n) == (round - 1)

-- the first of the two has White: in the circle where the numbers differ by an odd number, and against the last player
-- where its own is even
abbrev pub first_is_white : ℕ → ℕ × ℕ → Bool
first_is_white n two = if two.1 == rounds_of n then not (is_odd two.0) else is_odd (two.1 - two.0)

-- the two as a pair, White before Black
abbrev pub as_pair : ℕ → ℕ × ℕ → ℕ × ℕ
as_pair n two = if first_is_white n two then two else (two.1, two.0)

-- the numbers of n players
abbrev pub players : ℕ → List ℕ
players n = range_with_len 0 n

-- a player with each of those who have greater numbers, in ascending order
abbrev pub with_greater : ℕ → ℕ → List (ℕ × ℕ)
with_greater n i = map (λ j. (i, j)) (filter (nat_lt i) (players n))

-- the pair of a player with one who has a greater number, in the round, where there is such a pair
unfoldable pub pairs_of : ℕ → ℕ → ℕ → List (ℕ × ℕ)
pairs_of n round i = map (as_pair n) (filter (meet n round) (with_greater n i))

-- the pairs of a round, White before Black, in ascending order of the lesser number
unfoldable pub pairs_in : ℕ → ℕ → List (ℕ × ℕ)
pairs_in n round = flat_map (pairs_of n round) (players n)

-- the pairs of all rounds
unfoldable pub all_pairs : ℕ → List (ℕ × ℕ)
all_pairs n = flat_map (pairs_in n) (range_with_len 1 (rounds_of n))

-- in some round these two meet with these colours
abbrev pub is_paired : ℕ → ℕ → ℕ → Bool
is_paired n white black = list_any (λ pair. (pair.0 == white) && (pair.1 == black)) (all_pairs n)

-- both players of the pair are among n players
abbrev pub IsOfPlayers : ℕ → ℕ × ℕ → Type 0
IsOfPlayers n pair = (pair.0 < n) × (pair.1 < n)
