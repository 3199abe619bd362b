-- A turn of the steward that was done, beside which nobody else acts, leaves no save orders.
use Rattle.std.proofs.Common.{◌≡◌, ℕ, ◌*◌, ◌<◌, ◌⊎◌, inl, inr, List, [], ◌∷◌, ◌++◌, Some, filter, length, take, set, slice_get, refl, sym, ap, subst, ◌∙◌, append-nil, arith}
use Rattle.std.specs.Prelude.{nat_lt}
use Rattle.std.proofs.lemmas.List.{length-take, take_all}
use Rattle.lobby_shelf.specs.Facts.{OrdersRise}
use Rattle.lobby_shelf.specs.Shelf.{saved}
use Rattle.lobby_shelf.specs.declared.order.Order.{Order}
use Rattle.histories.specs.Core.{after, reply}
use Rattle.histories.specs.History.{Legal, state}
use Rattle.histories.proofs.Histories.{legal_front, stays_whole, state-append, legal_back}
use Rattle.histories.proofs.Steps.{after_alone, reply_alone}
use Rattle.lobby_state.specs.declared.acts.LobbyAct.TheVariants.{Orders as AskOrders}
use Rattle.lobby_state.specs.Acts.{lobby_answer}
use Rattle.lobby_state.specs.Lobby.{LobbyState}
use Rattle.one_server.specs.declared.act.Timed.{Timed}
use Rattle.one_server.specs.declared.part.Part.{Part}
use Rattle.one_server.specs.declared.part.Part.TheVariants.{Lobby as TheLobby}
use Rattle.one_server.specs.declared.reply.Reply.{Reply}
use Rattle.one_server.specs.Acts.{lobby_reply}
use Rattle.one_server.specs.House.{house}
use Rattle.one_server.specs.LawfulProof.{house_lawful}
use Rattle.one_server.specs.Running.{Log}
use Rattle.one_server.specs.Whole.{IsWhole}
use Rattle.steward_core.specs.declared.clearing.ClearingEnd.{ClearingEnd}
use Rattle.steward_core.specs.declared.clearing.ClearingEnd.TheVariants as clearing
use Rattle.steward_core.specs.declared.turn.StewardEnd.{StewardEnd}
use Rattle.steward_core.specs.declared.turn.StewardEnd.TheVariants.{Done, KeeperFault, Memory}
use Rattle.steward_core.specs.Clearing.{timed_acts_of}
use Rattle.steward_core.specs.Saving.{EndsSaving, IsSaveRound, IsSaving, asks_orders, last_number, most_answers, orders_in, says_saved, tells_upto}
use Rattle.steward_core.specs.Turn.{IsStewardTurn, end_of_turn}
use Rattle.steward_core.proofs.AgreedStill.{kept_behind}
use Rattle.steward_core.proofs.StatesLead.{one_lobby, put_lobby}
use Rattle.serve_core.specs.Stewarding.{LeavesNoOrders, NoOrders}

-- ---- the orders that are told

-- fewer than 16 are all
all_told : (orders : List Order) → length (take 16 orders) < 16 → take 16 orders ≡ orders
all_told orders few = let long = length-take 16 orders in take_all 16 orders (omega (arith, few, long))

module _ (xs : List Part) (w : IsWhole xs) (k moment : ℕ) (answer : Reply)
    (told : reply house xs k (asks_orders moment) ≡ Some answer) where
  answer_is : answer ≡ lobby_reply (lobby_answer w.lobby k AskOrders)
  answer_is =
      let is : Some answer ≡ Some (lobby_reply (lobby_answer w.lobby k AskOrders)) =
      sym told ∙ reply_alone house xs k (asks_orders moment) (TheLobby w.lobby) w.first refl in
      cc

  told_all : length (orders_in answer) < 16 → orders_in answer ≡ w.lobby.shelf.orders
  told_all few =
      let is : orders_in answer ≡ take 16 w.lobby.shelf.orders = ap orders_in answer_is in
      is ∙ all_told w.lobby.shelf.orders (subst (λ (l : List Order). length l < 16) is few)

  lobby_stays : slice_get (after house xs k (asks_orders moment)) 0 ≡ Some (TheLobby w.lobby)
  lobby_stays =
      let alone : after house xs k (asks_orders moment) ≡ set xs 0 (TheLobby w.lobby) =
      after_alone house xs k (asks_orders moment) (TheLobby w.lobby) w.first refl in
      ap (λ (l : List Part). slice_get l 0) alone ∙ put_lobby xs w.lobby w.lobby w.first

-- ---- the orders that are told as saved

last_of : (order : Order) (orders : List Order) → (upto : ℕ) × (last_number (order ∷ orders) ≡ Some upto)
last_of order [] = (order.number, refl)
last_of order (more ∷ orders) = last_of more orders

module _ (ys : List Part) (w : IsWhole ys) (moment : ℕ) where
  none_above : (upto : ℕ) → last_number w.lobby.shelf.orders ≡ Some upto
      → filter (λ (o : Order). nat_lt upto o.number) w.lobby.shelf.orders ≡ []
  none_above upto last =
      let shelf = w.lobby.shelf in
      let all : shelf.orders ++ [] ≡ shelf.orders = append-nil shelf.orders in
      ap (filter (λ (o : Order). nat_lt upto o.number)) (sym all)
      ∙ kept_behind 0 shelf.made upto shelf.orders []
      (subst (λ (l : List Order). OrdersRise 0 shelf.made l) (sym all) w.formed.shelf.sound.orders) last

  said_over : (k upto : ℕ) → last_number w.lobby.shelf.orders ≡ Some upto
      → NoOrders (after house ys k (says_saved moment upto))
  said_over k upto last lobby there =
      let later : LobbyState = record w.lobby { shelf = saved w.lobby.shelf upto } in
      let alone : after house ys k (says_saved moment upto) ≡ set ys 0 (TheLobby later) =
      after_alone house ys k (says_saved moment upto) (TheLobby w.lobby) w.first refl in
      let same =
      one_lobby (after house ys k (says_saved moment upto)) lobby later there
      (ap (λ (l : List Part). slice_get l 0) alone ∙ put_lobby ys w.lobby later w.first) in
      ap (λ (l : LobbyState). l.shelf.orders) same ∙ none_above upto last

  over_upto : (upto : ℕ) (rest : Log) → last_number w.lobby.shelf.orders ≡ Some upto
      → timed_acts_of rest ≡ says_saved moment upto ∷ [] → NoOrders (state house ys rest)
  over_upto upto [] last said = absurd cc
  over_upto upto (e ∷ []) last said =
      let act : says_saved moment upto ≡ e.act = cc in
      subst (λ (t : Timed). NoOrders (after house ys e.session t)) act (said_over e.session upto last)
  over_upto upto (e ∷ (f ∷ rest)) last said = absurd cc

  over_by : (orders : List Order) (rest : Log) → w.lobby.shelf.orders ≡ orders
      → timed_acts_of rest ≡ tells_upto moment (last_number orders) → NoOrders (state house ys rest)
  over_by [] [] is said = λ lobby there.
      ap (λ (l : LobbyState). l.shelf.orders) (one_lobby ys lobby w.lobby there w.first) ∙ is
  over_by [] (e ∷ rest) is said = absurd cc
  over_by (order ∷ orders) rest is said =
      let last = last_of order orders in
      over_upto last.0 rest (ap last_number is ∙ last.1) (said ∙ ap (tells_upto moment) last.1)

-- ---- rounds

round_over : (xs : List Part) (moment : ℕ) (entries : Log) (orders : List Order) → IsWhole xs → Legal house xs entries
    → IsSaveRound moment entries orders → length orders < 16 → NoOrders (state house xs entries)
round_over xs moment entries orders w legal r few =
    let now : Legal house xs (r.first ∷ r.rest) = subst (Legal house xs) r.all legal in
    let k = r.first.session in
    let told : reply house xs k (asks_orders moment) ≡ Some r.first.reply =
    ap (reply house xs k) (sym r.asks) ∙ now.1 in
    let ys = after house xs k (asks_orders moment) in
    let fits : house.fits (asks_orders moment) = subst house.fits r.asks now.0 in
    let whole : IsWhole ys = house_lawful.stays xs k (asks_orders moment) w fits in
    let all : orders ≡ w.lobby.shelf.orders =
    sym r.told
    ∙ told_all xs w k moment r.first.reply told (subst (λ (l : List Order). length l < 16) (sym r.told) few) in
    let same : whole.lobby ≡ w.lobby =
    one_lobby ys whole.lobby w.lobby whole.first (lobby_stays xs w k moment r.first.reply told) in
    let over = over_by ys whole moment orders r.rest (ap (λ (l : LobbyState). l.shelf.orders) same ∙ sym all) r.saved in
    let path : state house xs entries ≡ state house ys r.rest =
    ap (state house xs) r.all ∙ ap (λ (t : Timed). state house (after house xs k t) r.rest) r.asks in
    subst NoOrders (sym path) over

ends_over : (xs : List Part) (moment count rounds : ℕ) (entries : Log) (orders : List Order) → IsWhole xs
    → Legal house xs entries → EndsSaving moment (Done count) rounds entries orders
    → NoOrders (state house xs entries) ⊎ (count ≡ most_answers * 16)
ends_over xs moment count rounds entries orders w legal (inl p) =
    inl (round_over xs moment entries orders w legal p.0 p.1)
ends_over xs moment count rounds entries orders w legal (inr p) = inr (p.3 ∙ ap (λ n. n * 16) p.0)

-- so many entries come first
behind : (xs : List Part) (count : ℕ) (es fs all : Log) → all ≡ es ++ fs → IsWhole xs → Legal house xs all
    → (IsWhole (state house xs es) → Legal house (state house xs es) fs
    → NoOrders (state house (state house xs es) fs) ⊎ (count ≡ most_answers * 16))
    → NoOrders (state house xs all) ⊎ (count ≡ most_answers * 16)
behind xs count es fs all is w legal over =
    let both : Legal house xs (es ++ fs) = subst (Legal house xs) is legal in
    let path : state house xs all ≡ state house (state house xs es) fs =
    ap (state house xs) is ∙ state-append house xs es fs in
    subst (λ (parts : List Part). NoOrders parts ⊎ (count ≡ most_answers * 16)) (sym path)
    (over (stays_whole house house_lawful xs es w (legal_front house xs es fs both)) (legal_back house xs es fs both))

saving_over : (xs : List Part) (moment count : ℕ) (entries : Log) (carried : List Order) → IsWhole xs
    → Legal house xs entries → IsSaving moment (Done count) entries carried
    → NoOrders (state house xs entries) ⊎ (count ≡ most_answers * 16)
saving_over xs moment count entries carried w legal s =
    behind xs count s.full s.rest entries s.all w legal
    (λ whole now. ends_over (state house xs s.full) moment count s.rounds s.rest s.last whole now s.ends)

saved_so : (cleared : ClearingEnd) (saved : StewardEnd) (count : ℕ) → Done count ≡ end_of_turn cleared saved
    → saved ≡ Done count
saved_so clearing.Done (Done n) count e = sym e
saved_so clearing.Done KeeperFault count e = sym e
saved_so clearing.Done Memory count e = sym e
saved_so clearing.Memory (Done n) count e = absurd cc
saved_so clearing.Memory KeeperFault count e = absurd cc
saved_so clearing.Memory Memory count e = absurd cc

turn_over : (xs : List Part) (moment count : ℕ) (entries : Log) (carried : List Order) → IsWhole xs
    → Legal house xs entries → IsStewardTurn moment (Done count) entries carried
    → NoOrders (state house xs entries) ⊎ (count ≡ most_answers * 16)
turn_over xs moment count entries carried w legal t =
    behind xs count t.first t.rest entries t.all w legal
    (λ whole now.
    saving_over (state house xs t.first) moment count t.rest carried whole now
    (subst (λ (e : StewardEnd). IsSaving moment e t.rest carried) (saved_so t.cleared t.saved count t.ends) t.saving))

pub leaves_none : (end : StewardEnd) (xs : List Part) (moment : ℕ) (entries : Log) (carried : List Order) → IsWhole xs
    → Legal house xs entries → IsStewardTurn moment end entries carried → LeavesNoOrders end (state house xs entries)
leaves_none (Done count) xs moment entries carried w legal t = turn_over xs moment count entries carried w legal t
leaves_none KeeperFault xs moment entries carried w legal t = tt
leaves_none Memory xs moment entries carried w legal t = tt
