-- A server of one thread stays the state of its history, by one entry more.
use Rattle.std.proofs.Common.{◌≡◌, ℕ, ◌+◌, ◌-◌, zero, suc, List, [], ◌∷◌, ◌++◌, length, map, replicate, ◌<◌, refl, ap, sym, subst, ◌∙◌, arith}
use Rattle.std.specs.List.{slice_get}
use Rattle.std.specs.declared.option.Option.{Option}
use Rattle.std.specs.declared.option.Option.TheVariants.{None, Some}
use Rattle.std.specs.Option.{option_map}
use Rattle.std.proofs.lemmas.List.{length-map, map-append}
use Rattle.std.proofs.lemmas.Option.{slice_get-map}
use Rattle.histories.specs.Core.{reply, after}
use Rattle.histories.specs.declared.entry.Entry.{Entry}
use Rattle.histories.specs.History.{entry}
use Rattle.histories.proofs.Histories.{grows_legally, steps_once, stays_whole}
use Rattle.lobby_state.specs.declared.game.ListedGame.{ListedGame}
use Rattle.lobby_state.specs.Desks.{desks as desk_count}
use Rattle.lobby_state.specs.Lobby.{LobbyState}
use Rattle.lobby_state.specs.WellFormed.{IsWellFormed}
use Rattle.linked_desk.specs.Desk.{DeskState}
use Rattle.one_server.specs.declared.act.Timed.{Timed}
use Rattle.one_server.specs.declared.part.Part.{Part}
use Rattle.one_server.specs.declared.reply.Reply.{Reply}
use Rattle.one_server.specs.Acts.{IsEvent}
use Rattle.one_server.specs.House.{house}
use Rattle.one_server.specs.Server.{IsServed}
use Rattle.one_server.specs.Desks.{vacant}
use Rattle.one_server.specs.declared.part.Part.TheVariants.{Lobby as TheLobby, Desk as ADesk}
use Rattle.one_server.specs.Whole.{IsInPlace, IsOpening, IsWhole, parts_with, vacant_from, opened_server}
use Rattle.one_server.specs.LawfulProof.{house_lawful}

-- the parts of a server are whole
pub whole_now : (opening : List Part) (log : List (Entry Timed Reply)) (parts : List Part)
    → IsServed opening log parts → IsWhole parts
whole_now opening log parts s = subst IsWhole s.state (stays_whole house house_lawful opening log s.whole s.legal)

pub one_more : (opening : List Part) (log : List (Entry Timed Reply)) (parts new : List Part) (session : ℕ)
    (act : Timed) (r : Reply)
    → IsServed opening log parts → IsEvent act → reply house parts session act ≡ Some r
    → after house parts session act ≡ new → IsServed opening (log ++ entry session act r ∷ []) new
one_more opening log parts new session act r s fits answers leaves = record {
  whole = s.whole;
  legal =
      grows_legally house opening log (entry session act r) s.legal fits
      (ap (λ xs. reply house xs session act) s.state ∙ answers);
  state = steps_once house opening log (entry session act r) ∙ ap (λ xs. after house xs session act) s.state ∙ leaves;
}

length-vacant : (number more : ℕ) → length (vacant_from number more) ≡ more
length-vacant number zero = refl
length-vacant number (suc more) = ap suc (length-vacant (number + 1) more)

-- one desk more stands behind the others
pub vacant_more : (number more : ℕ)
    → vacant_from number (suc more) ≡ vacant_from number more ++ vacant (number + more) ∷ []
vacant_more number zero = let e : number ≡ number + 0 = omega arith in ap (λ n. vacant n ∷ []) e
vacant_more number (suc more) =
    let e : number + 1 + more ≡ number + suc more = omega arith in
    ap (λ ds. vacant number ∷ ds)
    (vacant_more (number + 1) more ∙ ap (λ n. vacant_from (number + 1) more ++ vacant n ∷ []) e)

-- what stands among the vacant desks is the vacant desk of that number
pub vacant_there : (number more i : ℕ) (desk : DeskState) → slice_get (vacant_from number more) i ≡ Some desk
    → (i < more) × (vacant (number + i) ≡ desk)
vacant_there number zero i desk e = absurd cc
vacant_there number (suc more) zero desk e =
    let n : number + 0 ≡ number = omega arith in
    let is : vacant number ≡ desk = cc in
    (omega arith, ap vacant n ∙ is)
vacant_there number (suc more) (suc i) desk e =
    let h = vacant_there (number + 1) more i desk e in
    let n : number + suc i ≡ number + 1 + i = omega arith in
    (omega (arith, h.0), ap vacant n ∙ h.1)

none_there : (n i : ℕ) → i < n → slice_get (replicate n (let x : Option ListedGame = None in x)) i ≡ Some None
none_there zero i h = absurd (omega arith)
none_there (suc n) zero h = refl
none_there (suc n) (suc i) h = none_there n i (omega arith)

pub front : (one another : Part) → Some one ≡ Some another → one ≡ another
front one another e = cc

-- what is the lobby is no desk
pub no_desk : (lobby : LobbyState) (desk : DeskState) → Some (ADesk desk) ≡ Some (TheLobby lobby) → ⊥
no_desk lobby desk e = cc

open_desk : (lobby : LobbyState) → lobby.games ≡ replicate desk_count None
    → (i : ℕ) (part : Part) (found : Option DeskState) → slice_get (vacant_from 1 desk_count) i ≡ found
    → option_map ADesk found ≡ Some part
    → IsInPlace lobby (suc i) part
open_desk lobby none i part None e h = absurd cc
open_desk lobby none i part (Some desk) e h =
    let there = vacant_there 1 desk_count i desk e in
    let number : 1 + i ≡ suc i = omega arith in
    let slot : suc i - 1 ≡ i = omega arith in
    let is : ADesk (vacant (suc i)) ≡ part =
    ap (λ n. ADesk (vacant n)) (sym number) ∙ ap ADesk there.1 ∙ front (ADesk desk) part h in
    subst (IsInPlace lobby (suc i)) is (
      omega arith,
      record {
        numbered = refl;
        sound = tt;
        listed =
            ap (slice_get lobby.games) slot ∙ ap (λ (gs : List (Option ListedGame)). slice_get gs i) none
            ∙ none_there desk_count i there.0;
      },
    )

open_place : (lobby : LobbyState) → lobby.games ≡ replicate desk_count None → (place : ℕ) (part : Part)
    → slice_get (parts_with lobby (vacant_from 1 desk_count)) place ≡ Some part → IsInPlace lobby place part
open_place lobby none zero part e = subst (IsInPlace lobby 0) (front (TheLobby lobby) part e) refl
open_place lobby none (suc i) part e =
    open_desk lobby none i part (slice_get (vacant_from 1 desk_count) i) refl
    (sym (slice_get-map ADesk (vacant_from 1 desk_count) i) ∙ e)

-- a server opens in a whole state
pub whole_opening : (lobby : LobbyState) → IsWellFormed lobby → IsOpening lobby
    → IsWhole (parts_with lobby (vacant_from 1 desk_count))
whole_opening lobby formed o = record {
  count =
      let all : length (map ADesk (vacant_from 1 desk_count)) ≡ length (vacant_from 1 desk_count) =
      length-map (vacant_from 1 desk_count) ADesk in
      let some : length (vacant_from 1 desk_count) ≡ desk_count = length-vacant 1 desk_count in
      omega (arith, all, some);
  lobby = lobby;
  first = refl;
  formed = formed;
  places = open_place lobby o.no_game;
}

pub fresh : (opening lobby : LobbyState) (desks : List Part) (log : List (Entry Timed Reply)) → IsWellFormed lobby
    → IsOpening lobby → opening ≡ lobby → desks ≡ map ADesk (vacant_from 1 desk_count) → log ≡ []
    → IsServed (opened_server opening) log (TheLobby lobby ∷ desks)
unfolding opened_server
fresh opening lobby desks log formed o same e empty =
    let whole = whole_opening lobby formed o in
    let made : IsServed (opened_server lobby) [] (parts_with lobby (vacant_from 1 desk_count)) =
    record { whole = whole; legal = tt; state = refl } in
    subst (λ (l : LobbyState). IsServed (opened_server l) log (TheLobby lobby ∷ desks)) (sym same)
    (subst (λ (ds : List Part). IsServed (opened_server lobby) log (TheLobby lobby ∷ ds)) (sym e)
    (subst (λ (es : List (Entry Timed Reply)).
    IsServed (opened_server lobby) es (parts_with lobby (vacant_from 1 desk_count))) (sym empty) made))

pub vacant_push : (slot : ℕ) (desks new : List Part) (desk : DeskState) → desks ≡ map ADesk (vacant_from 1 slot)
    → desk ≡ vacant (slot + 1) → new ≡ desks ++ ADesk desk ∷ [] → new ≡ map ADesk (vacant_from 1 (slot + 1))
vacant_push slot desks new desk e d n =
    let one : slot + 1 ≡ 1 + slot = omega arith in
    let more : suc slot ≡ slot + 1 = omega arith in
    n ∙ (λ i. e i ++ ADesk (d i) ∷ []) ∙ sym (map-append ADesk (vacant_from 1 slot) (vacant (slot + 1) ∷ []))
    ∙ ap (λ k. map ADesk (vacant_from 1 slot ++ vacant k ∷ [])) one
    ∙ ap (map ADesk) (sym (vacant_more 1 slot) ∙ ap (vacant_from 1) more)

-- the log as it was written
pub pushed : (opening : List Part) (log old items : List (Entry Timed Reply)) (session : ℕ) (act : Timed)
    (twin r : Reply) (new : List Part)
    → items ≡ old ++ entry session act twin ∷ [] → old ≡ log → twin ≡ r
    → IsServed opening (log ++ entry session act r ∷ []) new → IsServed opening items new
pushed opening log old items session act twin r new e f g s =
    let same : items ≡ log ++ entry session act r ∷ [] = e ∙ (λ i. f i ++ entry session act (g i) ∷ []) in
    subst (λ (es : List (Entry Timed Reply)). IsServed opening es new) (sym same) s
