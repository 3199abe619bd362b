-- The plan by which a fake fails.
use Rattle.std.specs.Prelude.{ℕ, ◌+◌, ◌-◌, ◌^◌, ◌<◌, min, Bool, if◌then◌else◌, List, Contains}

-- the next value of a count of 64 bits, which stands still at its end
abbrev pub next_count : ℕ → ℕ
next_count n = min (n + 1) (2 ^ 64 - 1)

-- which calls fail, the number of the next call, and how many calls failed
pub record Plan : Type 0 where
  pub fails : List ℕ
  pub calls : ℕ
  pub faults : ℕ

-- the next call fails: its number is in the list, and numbers end at 2^64 - 2
abbrev pub IsToFail : Plan → Type 0
IsToFail plan = (plan.calls < 2 ^ 64 - 1) × Contains plan.fails plan.calls

-- the plan after a call, which failed or not
abbrev pub after_call : Plan → Bool → Plan
after_call plan failed = record {
  fails = plan.fails;
  calls = next_count plan.calls;
  faults = if failed then next_count plan.faults else plan.faults;
}
