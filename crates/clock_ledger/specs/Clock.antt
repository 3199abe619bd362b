-- The clock of one player: terms, charges, and what remains (FICS: initial minutes, increment in seconds).
use Rattle.std.specs.Prelude.{◌≡◌, Bool, nat_lt, ◌&&◌, if◌then◌else◌, ℕ, ℤ, pos, ◌+◌, ◌-◌, ◌*◌, ◌-ℤ◌, zero, suc, List, [], ◌∷◌, ◌++◌, length, take}
use Rattle.std.specs.List.{All, sum_by}
use Rattle.clock_ledger.specs.declared.charges.Charge.{Charge}
use Rattle.clock_ledger.specs.Charges.{amount, IsChargeable}

-- the minutes at the start, the seconds of increment, and the charges in their order
pub record Ledger : Type 0 where
  pub minutes : ℕ
  pub increment : ℕ
  pub charges : List Charge

-- the milliseconds at the start: the minutes, or ten seconds where there is only an increment
abbrev pub start_of : ℕ → ℕ → ℕ
start_of zero zero = 0
start_of zero (suc increment) = 10000
start_of (suc minutes) increment = suc minutes * 60000

-- a game has clocks where it has minutes or an increment
abbrev pub timed : Ledger → Bool
timed l = nat_lt 0 (l.minutes + l.increment)

-- the player's next half-move is charged: the game has clocks, and it isn't the player's first one
abbrev pub is_next_charged : Ledger → Bool → Bool
is_next_charged l has_moved = timed l && has_moved

-- the milliseconds that were given: the start, and the increment for each charge
abbrev pub given : Ledger → ℕ
given l = start_of l.minutes l.increment + l.increment * 1000 * length l.charges

-- the milliseconds that the charges amount to
abbrev pub time_spent : Ledger → ℕ
time_spent l = sum_by amount l.charges

-- the milliseconds that remain: what was given less what was spent, and 0 without clocks
abbrev pub remaining : Ledger → ℤ
remaining l = (if timed l then (pos (given l) -ℤ pos (time_spent l)) else pos 0)

-- the ledger with one charge more
abbrev pub charged : Ledger → Charge → Ledger
charged l c = record l { charges = l.charges ++ c ∷ [] }

-- the ledger without its last charge
abbrev pub taken_back : Ledger → Ledger
taken_back l = record l { charges = take (length l.charges - 1) l.charges }

-- a ledger's charges may all be made, and it keeps their sum
pub record SumsUp (charges : List Charge) (sum : ℕ) : Type 0 where
  pub sound : All IsChargeable charges
  pub counted : sum ≡ sum_by amount charges
