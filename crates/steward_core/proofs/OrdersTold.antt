-- The save orders that an answer tells are the first ones that stand.
use Rattle.std.proofs.Common.{◌≡◌, ℕ, ◌-◌, ◌≤◌, zero, suc, List, [], ◌∷◌, ◌++◌, Option, None, Some, length, take, drop, set, slice_get, refl, sym, ap, subst, ◌∙◌, take-append-drop, arith}
use Rattle.std.specs.Option.{option_map}
use Rattle.std.proofs.lemmas.List.{length-take}
use Rattle.lobby_shelf.specs.declared.order.Order.{Order}
use Rattle.histories.specs.declared.entry.Entry.{Entry}
use Rattle.histories.specs.Core.{after, other_of, reply}
use Rattle.histories.specs.History.{Legal, entry, state}
use Rattle.histories.proofs.Histories.{steps_once}
use Rattle.histories.proofs.Parts.{get_set_same, slice_get_length}
use Rattle.histories.proofs.Steps.{reply_alone, after_alone}
use Rattle.lobby_state.specs.declared.acts.LobbyAct.TheVariants.{Orders as AskOrders}
use Rattle.lobby_state.specs.Acts.{lobby_answer}
use Rattle.lobby_state.specs.Lobby.{LobbyState}
use Rattle.one_server.specs.declared.act.Timed.{Timed}
use Rattle.one_server.specs.declared.part.Part.{Part}
use Rattle.one_server.specs.declared.part.Part.TheVariants.{Lobby as TheLobby, Desk as ADesk}
use Rattle.one_server.specs.declared.reply.Reply.{Reply}
use Rattle.one_server.specs.Acts.{lobby_reply}
use Rattle.one_server.specs.House.{house, no_parts}
use Rattle.one_server.specs.Running.{Log, Made, ServerRan, RunnerState}
use Rattle.steward_core.specs.Agreement.{state_seen}
use Rattle.steward_core.specs.Saving.{ToldAsSaved, TellsUpTo, asks_orders, last_number, orders_in, says_saved}
use Rattle.steward_core.specs.declared.saving.SavedTold.{SavedTold}
use Rattle.steward_core.specs.declared.saving.SavedTold.TheVariants as told
use Rattle.steward_core.proofs.StatesLead.{lobby_in}

-- the orders are at most 16, and the first that stand in the lobby of the state
pub record StandFirst (orders : List Order) (parts : List Part) : Type 0 where
  pub few : length orders ≤ 16
  pub first : (lobby : LobbyState) → slice_get parts 0 ≡ Some (TheLobby lobby)
      → (more : List Order) × (lobby.shelf.orders ≡ orders ++ more)

-- the last act of a legal history has the reply of the state before it
pub legal_last : (xs : List Part) (es : Log) (e : Entry Timed Reply) → Legal house xs (es ++ e ∷ [])
    → reply house (state house xs es) e.session e.act ≡ Some e.reply
legal_last xs [] e legal = legal.1
legal_last xs (f ∷ es) e legal = legal_last (after house xs f.session f.act) es e legal.2

few_told : (orders : List Order) → length (take 16 orders) ≤ 16
few_told orders = let long = length-take 16 orders in omega (arith, long)

module _ (xs : List Part) (k moment : ℕ) (answer : Reply) where
  abbrev asked : Timed
  asked = asks_orders moment

  told_in : (part : Option Part) → slice_get xs 0 ≡ part → reply house xs k asked ≡ Some answer
      → StandFirst (orders_in answer) (after house xs k asked)
  told_in None there told =
      let bad : Some answer ≡ None =
      sym told
      ∙ ap (λ (part : Option Part).
      option_map (λ (p : Part). house.answer p (other_of house xs k asked) k asked) part)
      there in
      cc
  told_in (Some (ADesk desk)) there told =
      let is : Some answer ≡ Some no_parts = sym told ∙ reply_alone house xs k asked (ADesk desk) there refl in
      let same : answer ≡ no_parts = cc in
      subst (λ (orders : List Order). StandFirst orders (after house xs k asked)) (sym (ap orders_in same))
      (record { few = omega arith; first = λ lobby _. (lobby.shelf.orders, refl) })
  told_in (Some (TheLobby lobby)) there told =
      let one : Reply = lobby_reply (lobby_answer lobby k AskOrders) in
      let is : Some answer ≡ Some one = sym told ∙ reply_alone house xs k asked (TheLobby lobby) there refl in
      let same : answer ≡ one = cc in
      let alone : after house xs k asked ≡ set xs 0 (TheLobby lobby) =
      after_alone house xs k asked (TheLobby lobby) there refl in
      let there_now : slice_get (after house xs k asked) 0 ≡ Some (TheLobby lobby) =
      ap (λ (l : List Part). slice_get l 0) alone
      ∙ get_set_same xs 0 (TheLobby lobby) (slice_get_length xs 0 (TheLobby lobby) there) in
      subst (λ (orders : List Order). StandFirst orders (after house xs k asked)) (sym (ap orders_in same))
      (record {
        few = few_told lobby.shelf.orders;
        first = λ other found.
            let same_lobby : other ≡ lobby = ap (lobby_in lobby) (sym found ∙ there_now) in (
              drop 16 lobby.shelf.orders,
              ap (λ (l : LobbyState). l.shelf.orders) same_lobby ∙ sym (take-append-drop 16 lobby.shelf.orders),
            );
      })

-- the session was told these orders
pub told_first : {moment : ℕ} {answer : Reply} {old new : RunnerState} {orders : List Order}
    → ServerRan old (asks_orders moment) answer new → orders ≡ orders_in answer → StandFirst orders (state_seen new)
told_first {moment} {answer} {old} {new} ran is =
    let e : Entry Timed Reply = entry old.number (asks_orders moment) answer in
    let before : Log = old.seen ++ ran.others in
    let legal = subst (λ (log : Log). Legal house new.opening log) ran.ends ran.grew.known.legal in
    let told = legal_last new.opening before e legal in
    let parts = state house new.opening before in
    subst (λ (l : List Order). StandFirst l (state_seen new)) (sym is)
    (subst (StandFirst (orders_in answer))
    (sym (ap (λ (log : Log). state house new.opening log) ran.ends ∙ steps_once house new.opening before e))
    (told_in parts old.number moment answer (slice_get parts 0) refl told))

-- the number of the last order
last_is : (orders : List Order) (n : ℕ) (last : Order) → n ≡ length orders - 1 → slice_get orders n ≡ Some last
    → last_number orders ≡ Some last.number
last_is [] n last long there = cc
last_is (order ∷ []) zero last long there = let same : order ≡ last = cc in ap (λ (o : Order). Some o.number) same
last_is (order ∷ []) (suc n) last long there = absurd (omega (arith, long))
last_is (order ∷ (more ∷ orders)) zero last long there = absurd (omega (arith, long))
last_is (order ∷ (more ∷ orders)) (suc n) last long there = last_is (more ∷ orders) n last (omega (arith, long)) there

pub says_last : (orders : List Order) (last : Order) → slice_get orders (length orders - 1) ≡ Some last
    → last_number orders ≡ Some last.number
says_last orders last there = last_is orders (length orders - 1) last refl there

pub tells_done : (moment : ℕ) (orders : List Order) (upto : ℕ) (end : SavedTold) (answer : Reply)
    (old new : RunnerState)
    → last_number orders ≡ Some upto → end ≡ told.Done
    → ServerRan old (says_saved moment upto) answer new → ToldAsSaved moment orders end old new
tells_done moment orders upto end answer old new last is ran =
    subst (λ (e : SavedTold). ToldAsSaved moment orders e old new) (sym is)
    (subst (λ (n : Option ℕ). TellsUpTo moment n told.Done old new) (sym last) (answer, ran))

pub tells_short : (moment : ℕ) (orders : List Order) (upto : ℕ) (end : SavedTold) (old new : RunnerState)
    → last_number orders ≡ Some upto → end ≡ told.Memory
    → Made old [] new → ToldAsSaved moment orders end old new
tells_short moment orders upto end old new last is made =
    subst (λ (e : SavedTold). ToldAsSaved moment orders e old new) (sym is)
    (subst (λ (n : Option ℕ). TellsUpTo moment n told.Memory old new) (sym last) made)
