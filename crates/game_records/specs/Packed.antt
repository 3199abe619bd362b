-- What a half-move took off a clock, as it lies in memory: the moments and the stamps stand in fields of their own.
use Rattle.std.specs.Prelude.{ℕ, Option, Some, None}
use Rattle.clock_ledger.specs.declared.charges.Charge.{Charge}
use Rattle.game_records.specs.declared.packed.Charging.{Charging}
use Rattle.game_records.specs.declared.packed.Charging.TheVariants.{Free, Plain, Stamped}

-- the charge that these fields are
abbrev pub charge_of : Charging → ℕ → ℕ → ℕ × ℕ → Option Charge
charge_of Free begin end stamps = None
charge_of Plain begin end stamps = Some (record { begin = begin; end = end; client = None })
charge_of Stamped begin end stamps = Some (record { begin = begin; end = end; client = Some stamps })
