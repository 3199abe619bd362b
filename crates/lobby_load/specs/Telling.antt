-- The line that tells of a bad record, and when it is written. This server's own.
use Rattle.std.specs.Prelude.{◌≡◌, ◌⊎◌, ℕ, List, [], ◌++◌, codes, IfSome, Ok, Err, Result, refl}
use Rattle.std.specs.declared.option.Option.{Option}
use Rattle.std.specs.Io.KnownBytes.{Appends}
use Rattle.hex.specs.Hex.{encode_lower, encode_with}
use Rattle.edge_traits.specs.Pairs.{Records}
use Rattle.edge_traits.specs.Sink.{AppendsFront}
use Rattle.lobby_load.specs.BadRows.{IsLeastBad}
use Rattle.lobby_load.specs.declared.refusals.StoreFault.{StoreFault}
use Rattle.lobby_load.specs.declared.refusals.StoreFault.TheVariants.{BadRecord, KeeperFault, WriteFault, Memory}

-- the line that tells of the record under this key: two hexadecimal digits for each byte of the key, in lower case
abbrev pub bad_record_line : List ℕ → List ℕ
bad_record_line key = codes "bad record " ++ (encode_lower key ++ codes "\n")

-- the key is the least bad one of a table that is told
abbrev pub IsFirstBad : Option Records → List ℕ → Type 0
IsFirstBad table key = IfSome table (λ told. IsLeastBad told key)

-- a beginning of the line of the least bad key was written
abbrev pub WroteFront : Option Records → Option (List ℕ) → Option (List ℕ) → Type 0
WroteFront table old new = (key : List ℕ) × IsFirstBad table key × AppendsFront old new (bad_record_line key)

-- a record of the store is bad, and the line of the least bad key was written
pub record IsBadTold (table : Option Records) (old new : Option (List ℕ)) : Type 0 where
  pub key : List ℕ
  pub first : IsFirstBad table key
  pub wrote : Appends old new (bad_record_line key)

-- what was written as a store was opened: nothing, unless a record is bad; the line of the least bad key; and a
-- beginning of that line where the write failed or memory ran out at it
abbrev pub TellsBadRecord : {A : Type 0} → Option Records → Option (List ℕ) → Option (List ℕ) → Result A StoreFault
    → Type 0
TellsBadRecord table old new (Ok lobby) = Appends old new []
TellsBadRecord table old new (Err BadRecord) =
    (key : List ℕ) × IsFirstBad table key × Appends old new (bad_record_line key)
TellsBadRecord table old new (Err KeeperFault) = Appends old new []
TellsBadRecord table old new (Err WriteFault) = WroteFront table old new
TellsBadRecord table old new (Err Memory) = Appends old new [] ⊎ WroteFront table old new

example_account : bad_record_line (codes "aann") ≡ codes "bad record 61616e6e\n"
unfolding encode_with
example_account = refl

example_no_bytes : bad_record_line [] ≡ codes "bad record \n"
unfolding encode_with
example_no_bytes = refl

-- what was written to tell of the record under a key: its line, or a beginning of it
abbrev pub TellsKey : List ℕ → Option (List ℕ) → Option (List ℕ) → StoreFault → Type 0
TellsKey key old new BadRecord = Appends old new (bad_record_line key)
TellsKey key old new KeeperFault = ⊥
TellsKey key old new WriteFault = AppendsFront old new (bad_record_line key)
TellsKey key old new Memory = AppendsFront old new (bad_record_line key)
