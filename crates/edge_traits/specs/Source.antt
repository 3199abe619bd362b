-- What a read does to the bytes that a source has left.
use Rattle.std.specs.Prelude.{ℕ, ◌^◌, ◌<◌, ◌≤◌, ⊤, List, length, take}
use Rattle.std.specs.declared.option.Option.{Option}
use Rattle.std.specs.Io.KnownBytes.{Consumes, Keeps, IsAtEnd}
use Rattle.edge_traits.specs.declared.source.Got.{Got}
use Rattle.edge_traits.specs.declared.source.Got.TheVariants.{Bytes, End, Failed}

-- the most reads of one run
abbrev pub most_reads : ℕ
most_reads = 2 ^ 40

-- what is left lost the bytes that the buffer now begins with; the end comes only where nothing is left
abbrev pub Took : Option (List ℕ) → Option (List ℕ) → Got → List ℕ → Type 0
Took old new (Bytes n) buf = (0 < n) × (n ≤ length buf) × Consumes old new (take n buf)
Took old new End buf = Keeps old new × IsAtEnd new
Took old new Failed buf = Keeps old new

-- the fact holds where the read failed
abbrev pub OnReadFailed : Got → Type 0 → Type 0
OnReadFailed Failed P = P
OnReadFailed answer P = ⊤

-- the fact holds of the number of bytes that were given
abbrev pub IfBytes : Got → (ℕ → Type 0) → Type 0
IfBytes (Bytes n) P = P n
IfBytes answer P = ⊤
