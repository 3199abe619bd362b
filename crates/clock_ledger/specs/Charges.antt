-- What a charge takes off a clock (FICS timeseal: a player isn't charged for the time that lines are on their way).
use Rattle.std.specs.Prelude.{ℕ, ◌-◌, ◌^◌, ◌≤◌, min, Option, Some, None}
use Rattle.clock_ledger.specs.declared.charges.Charge.{Charge}
use Rattle.clock_ledger.specs.Span.{span, IsStamp}

-- the time that passed, or the client's span where it is stamped and less
abbrev pub least : ℕ → Option (ℕ × ℕ) → ℕ
least passed None = passed
least passed (Some stamps) = min passed (span stamps.0 stamps.1)

-- the milliseconds that a charge amounts to
abbrev pub amount : Charge → ℕ
amount c = least (c.end - c.begin) c.client

-- the two stamps of a charge, where it has them, are stamps
abbrev pub AreStamps : Option (ℕ × ℕ) → Type 0
AreStamps None = Unit {0}
AreStamps (Some stamps) = IsStamp stamps.0 × IsStamp stamps.1

-- the last moment that a server knows, in milliseconds
abbrev pub last_moment : ℕ
last_moment = 2 ^ 48

-- a charge that may be made: its moments follow one another and stay below the last moment that the server knows
pub record IsChargeable (c : Charge) : Type 0 where
  pub ordered : c.begin ≤ c.end
  pub timely : c.end ≤ last_moment
  pub stamped : AreStamps c.client
