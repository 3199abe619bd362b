-- The desks of the hall. This server's own.
use Rattle.std.specs.Prelude.{ℕ, ◌≤◌}

-- the number of desks
abbrev pub desks : ℕ
desks = 128

-- a number of a desk
abbrev pub IsDesk : ℕ → Type 0
IsDesk desk = (1 ≤ desk) × (desk ≤ desks)
