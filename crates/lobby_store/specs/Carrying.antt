-- What carrying out save orders makes of a keeper's table, and by which calls. This server's own.
use Rattle.std.specs.Prelude.{◌≡◌, ◌⊎◌, ℕ, List, [], ◌∷◌, ◌++◌, Some, None, map as each}
use Rattle.std.specs.declared.option.Option.{Option}
use Rattle.std.specs.FinMap as map
use Rattle.edge_traits.specs.Calls.{Calls, note, noted}
use Rattle.edge_traits.specs.Keeper.{Stays}
use Rattle.edge_traits.specs.Pairs.{Records}
use Rattle.edge_traits.specs.WhereTold.{WhereTold}
use Rattle.edge_traits.specs.declared.call_log.Request.{Request}
use Rattle.edge_traits.specs.declared.call_log.Request.TheVariants.{Put, Remove}
use Rattle.edge_traits.specs.declared.keeper.Kept.{Kept}
use Rattle.edge_traits.specs.declared.keeper.Kept.TheVariants.{Done, Failed, Memory}
use Rattle.lobby_shelf.specs.Wanted.{table_with}
use Rattle.lobby_shelf.specs.declared.order.Order.{Order}

-- what a keeper's table holds under a key, if anything
abbrev pub held : Records → List ℕ → Option (List ℕ)
held table key = map.get table key

-- a table that is told holds afterwards what these orders make of it, carried out one after another
abbrev pub Carries : Option Records → Option Records → List Order → Type 0
Carries old new orders =
    WhereTold old new (λ before after. (key : List ℕ) → held after key ≡ table_with (held before) orders key)

-- an order is carried out, or the table stays as it was; where the keeper failed, it may be either
abbrev pub CarriesOne : Option Records → Option Records → Order → Kept → Type 0
CarriesOne old new order Done = Carries old new (order ∷ [])
CarriesOne old new order Failed = Stays old new ⊎ Carries old new (order ∷ [])
CarriesOne old new order Memory = Stays old new

-- the one order that is in doubt, of those left behind the ones that were carried out: the first, where the keeper
-- failed at it
abbrev pub in_doubt : Kept → List Order → Option Order
in_doubt Failed (order ∷ orders) = Some order
in_doubt Failed [] = None
in_doubt Done left = None
in_doubt Memory left = None

-- a table that is told holds afterwards what these orders make of it; or, where one order is in doubt, perhaps what
-- they and that one make of it
abbrev pub CarriesPerhaps : Option Records → Option Records → List Order → Option Order → Type 0
CarriesPerhaps old new carried None = Carries old new carried
CarriesPerhaps old new carried (Some doubt) = Carries old new carried ⊎ Carries old new (carried ++ doubt ∷ [])

-- what a keeper is asked to do with what an order has: to put the record, or to remove the key where there is none
abbrev pub asked_with : Option (List ℕ) → Request
asked_with (Some bytes) = Put
asked_with None = Remove

-- the calls in which these orders were carried out: one for each, in their order
abbrev pub calls_for : List Order → Calls
calls_for orders = each (λ order. note (asked_with order.bytes) Done) orders

-- from the one time to the other a keeper had the calls for these orders, and one more where it failed or ran out of
-- memory at it
abbrev pub CallsFor : Kept → List Order → Calls → Calls → Type 0
CallsFor Done orders old new = new ≡ old ++ calls_for orders
CallsFor Failed orders old new = (request : Request) × (new ≡ noted (old ++ calls_for orders) request Failed)
CallsFor Memory orders old new = (request : Request) × (new ≡ noted (old ++ calls_for orders) request Memory)
