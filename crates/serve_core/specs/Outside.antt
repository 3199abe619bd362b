-- A sink at a time: what it tells, where it tells, and how many faults it has counted.
use Rattle.std.specs.Prelude.{ℕ, List}
use Rattle.std.specs.declared.option.Option.{Option}

-- a sink: what it was written
pub record Sheet : Type 0 where
  pub written : Option (List ℕ)
  pub faults : ℕ

-- a sink of which these are what it was written and the count
abbrev pub sheet_of : {K : Type 0} → (K → Option (List ℕ)) → (K → ℕ) → K → Sheet
sheet_of written faults sink = record { written = written sink; faults = faults sink }
