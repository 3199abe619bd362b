-- What an answer says of a table, where that is told.
use Rattle.std.proofs.Common.{◌≡◌, ℕ, List, IfOk, IfSome, Ok, Err, Result, refl, sym, subst}
use Rattle.std.specs.declared.option.Option.{Option}
use Rattle.std.specs.declared.option.Option.TheVariants.{None, Some}
use Rattle.std.specs.FinMap as map
use Rattle.edge_traits.specs.Keeper.{AreAllOf}
use Rattle.edge_traits.specs.Pairs.{IsAscending, Pairs, Records}
use Rattle.lobby_state.specs.Lobby.{LobbyState}
use Rattle.edge_traits.specs.declared.keeper.Kept.TheVariants.{Done}
use Rattle.lobby_load.specs.BadRows.{IsGoodStore}
use Rattle.lobby_load.specs.Calling.{LoadsAt}
use Rattle.lobby_load.specs.Filling.{HasRows, NamesKey}
use Rattle.lobby_load.specs.Loaded.{HasLoaded, HasSizes}
use Rattle.lobby_load.specs.Refused.{OnBadRecord, OnKeeperFault}
use Rattle.lobby_load.specs.declared.refusals.LoadRefusal.{LoadRefusal}
use Rattle.lobby_load.specs.declared.refusals.LoadRefusal.TheVariants.{BadRecord, KeeperFault, Memory}
use Rattle.lobby_load.proofs.Least.{made_good, made_loaded, made_sized}
use Rattle.std.proofs.lemmas.Result.{IfOk-weaker}

-- the pairs are all of the table, where it is told
of_told : (told : Option Records) (rows : Pairs) (P : Records → Type 0) → AreAllOf told rows
    → ((table : Records) → rows ≡ map.entries table → P table) → IfSome told P
of_told None rows P all f = tt
of_told (Some table) rows P all f = f table all

pub loaded_told : (told : Option Records) (rows : Pairs) (r : Result LobbyState LoadRefusal) → AreAllOf told rows
    → IfOk r (HasRows rows)
    → IfOk r (λ lobby. IfSome told (λ table. HasLoaded table lobby))
loaded_told told rows r all made =
    IfOk-weaker r (HasRows rows) (λ lobby. IfSome told (λ table. HasLoaded table lobby))
    (λ lobby h. of_told told rows (λ table. HasLoaded table lobby) all (λ table e. made_loaded table lobby rows e h))
    made

pub sized_told : (told : Option Records) (rows : Pairs) (r : Result LobbyState LoadRefusal) → AreAllOf told rows
    → IfOk r (HasRows rows)
    → IfOk r (λ lobby. IfSome told (λ table. HasSizes table lobby))
sized_told told rows r all made =
    IfOk-weaker r (HasRows rows) (λ lobby. IfSome told (λ table. HasSizes table lobby))
    (λ lobby h. of_told told rows (λ table. HasSizes table lobby) all (λ table e. made_sized table lobby rows e h)) made

pub good_told : (told : Option Records) (rows : Pairs) (r : Result LobbyState LoadRefusal) → IsAscending rows
    → AreAllOf told rows → IfOk r (HasRows rows)
    → IfOk r (λ lobby. IfSome told IsGoodStore)
good_told told rows r rise all made =
    IfOk-weaker r (HasRows rows) (λ lobby. IfSome told IsGoodStore)
    (λ lobby h. of_told told rows IsGoodStore all (λ table e. made_good table lobby rows rise e h)) made

-- a refusal that names a key says of it what holds of it
pub on_named : (A : Type 0) (key : List ℕ) (refusal : LoadRefusal) (P : List ℕ → Type 0) → NamesKey key refusal → P key
    → OnBadRecord {A = A} (Err refusal) P
on_named A key (BadRecord named) P is h = subst P (sym is) h
on_named A key KeeperFault P is h = absurd is
on_named A key Memory P is h = tt

pub named_no_fault : (A : Type 0) (key : List ℕ) (refusal : LoadRefusal) → NamesKey key refusal
    → OnKeeperFault {A = A} (Err refusal) ⊥
named_no_fault A key (BadRecord named) is = tt
named_no_fault A key KeeperFault is = is
named_no_fault A key Memory is = tt

-- a load that went well, and what was made of it
pub made_at : (A : Type 0) (r : Result A LoadRefusal) → OnKeeperFault r ⊥ → LoadsAt r Done
made_at A (Ok lobby) calm = refl
made_at A (Err (BadRecord named)) calm = refl
made_at A (Err KeeperFault) calm = absurd calm
made_at A (Err Memory) calm = λ bad. cc
