-- Where the machine stands that is fed the bytes of an input.
use Rattle.std.specs.Prelude.{ℕ, List}

-- where the handler stands, the number of the next line, and the beginning of what has come of that line
pub record HandlerStanding (S : Type 0) : Type 0 where
  pub handler : S
  pub number : ℕ
  pub kept : List ℕ
