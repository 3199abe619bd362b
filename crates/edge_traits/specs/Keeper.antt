-- What the calls of a keeper do to its table.
use Rattle.std.specs.Prelude.{◌≡◌, ◌⊎◌, ℕ, ⊤, List, Some, None, Err, Result}
use Rattle.std.specs.declared.option.Option.{Option}
use Rattle.std.specs.FinMap as map
use Rattle.edge_traits.specs.Pairs.{Records, Pairs}
use Rattle.edge_traits.specs.WhereTold.{WhereTold}
use Rattle.edge_traits.specs.declared.keeper.Kept.{Kept}
use Rattle.edge_traits.specs.declared.keeper.Kept.TheVariants.{Done, Failed, Memory}
use Rattle.edge_traits.specs.declared.keeper.KeeperFail.{KeeperFail}
use Rattle.edge_traits.specs.declared.keeper.KeeperFail.TheVariants as fail

-- a table that is told stays as it was
abbrev pub Stays : Option Records → Option Records → Type 0
Stays old new = WhereTold old new (λ before after. after ≡ before)

-- what a change of a table makes of one that is told, by how it was answered: it was made where it is done, and wasn't
-- where memory ran out; where it failed it is in doubt, and the table is as it was or as the change makes it
abbrev pub HasChanged : Option Records → Option Records → (Records → Records) → Kept → Type 0
HasChanged old new change Done = WhereTold old new (λ before after. after ≡ change before)
HasChanged old new change Failed = WhereTold old new (λ before after. (after ≡ before) ⊎ (after ≡ change before))
HasChanged old new change Memory = Stays old new

-- the record stands under its key, and all else is as before; or the change wasn't made
abbrev pub HasPut : Option Records → Option Records → List ℕ → List ℕ → Kept → Type 0
HasPut old new key bytes answer = HasChanged old new (λ table. map.insert table key bytes) answer

-- nothing stands under the key, and all else is as before; or the change wasn't made
abbrev pub HasRemoved : Option Records → Option Records → List ℕ → Kept → Type 0
HasRemoved old new key answer = HasChanged old new (λ table. map.remove table key) answer

-- the pairs are all of a table that is told, in ascending order of key
abbrev pub AreAllOf : Option Records → Pairs → Type 0
AreAllOf None pairs = ⊤
AreAllOf (Some table) pairs = pairs ≡ map.entries table

-- the fact holds where the call failed
abbrev pub OnKeepFailed : Kept → Type 0 → Type 0
OnKeepFailed Failed P = P
OnKeepFailed answer P = ⊤

-- the fact holds where the load failed
abbrev pub OnLoadFailed : {A : Type 0} → Result A KeeperFail → Type 0 → Type 0
OnLoadFailed (Err fail.Failed) P = P
OnLoadFailed answer P = ⊤
