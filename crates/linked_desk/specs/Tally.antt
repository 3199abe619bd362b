-- How many offers and declines each seat has made since the game began.
use Rattle.std.specs.Prelude.{ℕ, ◌+◌, nat_le, Bool, List, [], ◌∷◌, get_or, slice_set}

-- so many may a seat make
abbrev pub most_told : ℕ
most_told = 256

-- the count of a seat
abbrev pub count_of : List ℕ → ℕ → ℕ
count_of tally seat = get_or tally seat 0

-- no seat has made any
abbrev pub none_told : List ℕ
none_told = 0 ∷ 0 ∷ 0 ∷ 0 ∷ []

-- the seat may make no more
abbrev pub is_told_out : List ℕ → ℕ → Bool
is_told_out tally seat = nat_le most_told (count_of tally seat)

-- the seat has made one more
abbrev pub counted : List ℕ → ℕ → List ℕ
counted tally seat = slice_set tally seat (count_of tally seat + 1)
