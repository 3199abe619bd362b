-- What a write does to the bytes that a sink was written.
use Rattle.std.specs.Prelude.{ℕ, ⊤, List, take}
use Rattle.std.specs.declared.option.Option.{Option}
use Rattle.std.specs.Io.KnownBytes.{Appends}
use Rattle.edge_traits.specs.declared.sink.Sent.{Sent}
use Rattle.edge_traits.specs.declared.sink.Sent.TheVariants.{All, Failed, Memory}

-- what was written grew by a prefix of the bytes
abbrev pub AppendsFront : Option (List ℕ) → Option (List ℕ) → List ℕ → Type 0
AppendsFront old new bytes = (n : ℕ) × Appends old new (take n bytes)

-- what was written grew by all the bytes, or by a prefix of them where the write failed or ran out of memory
abbrev pub Wrote : Option (List ℕ) → Option (List ℕ) → List ℕ → Sent → Type 0
Wrote old new bytes All = Appends old new bytes
Wrote old new bytes Failed = AppendsFront old new bytes
Wrote old new bytes Memory = AppendsFront old new bytes

-- the fact holds where the write failed
abbrev pub OnWriteFailed : Sent → Type 0 → Type 0
OnWriteFailed Failed P = P
OnWriteFailed answer P = ⊤

-- the fact holds where the write didn't fail
abbrev pub UnlessWriteFailed : Sent → Type 0 → Type 0
UnlessWriteFailed Failed P = ⊤
UnlessWriteFailed answer P = P
