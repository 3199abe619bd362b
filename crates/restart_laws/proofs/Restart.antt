-- What the next server opens with.
use Rattle.std.proofs.Common.{◌≡◌, ◌⊎◌, inl, inr, ◌*◌, ℕ, List, [], ◌++◌, refl, sym, ap, subst, ◌∙◌}
use Rattle.std.specs.Prelude.{IfSome, slice_get}
use Rattle.std.specs.declared.option.Option.{Option}
use Rattle.std.specs.declared.option.Option.TheVariants.{None, Some}
use Rattle.edge_traits.specs.Calls.{Store}
use Rattle.edge_traits.specs.Keeper.{Stays}
use Rattle.edge_traits.specs.Pairs.{Records}
use Rattle.hall_core.specs.Pass.{PassState}
use Rattle.histories.proofs.Histories.{legal_front, stays_whole}
use Rattle.histories.specs.History.{Legal, state}
use Rattle.lobby_load.specs.Loaded.{AreSpelled, HasLoaded}
use Rattle.lobby_shelf.proofs.Leading.{same_table}
use Rattle.lobby_shelf.specs.Wanted.{table_with}
use Rattle.lobby_shelf.specs.declared.order.Order.{Order}
use Rattle.lobby_state.specs.Lobby.{LobbyState}
use Rattle.lobby_state.specs.WellFormed.{IsWellFormed}
use Rattle.lobby_store.specs.Agreeing.{AgreesWith, wanted_by}
use Rattle.lobby_store.specs.Carrying.{held}
use Rattle.one_server.proofs.Resumed.{resumes_as_left}
use Rattle.one_server.specs.House.{house}
use Rattle.one_server.specs.LawfulProof.{house_lawful}
use Rattle.one_server.specs.ResumedGames.{ResumesAsLeft}
use Rattle.one_server.specs.Running.{Log}
use Rattle.one_server.specs.Whole.{IsWhole, opened_server}
use Rattle.one_server.specs.declared.part.Part.{Part}
use Rattle.one_server.specs.declared.part.Part.TheVariants.{Lobby as TheLobby}
use Rattle.restart_laws.proofs.GoodTable.{good_table}
use Rattle.restart_laws.proofs.OneRow.{same_accounts, same_stored_games}
use Rattle.restart_laws.proofs.OneShelf.{same_games}
use Rattle.restart_laws.specs.Good.{LeavesGood, TellsGood}
use Rattle.restart_laws.specs.Restart.{EndsWith, Evening, OpensBehind, RestartRestores, Restores}
use Rattle.serve_core.proofs.Ending.{clean_last, text_last}
use Rattle.serve_call.proofs.Opening.{table_agrees}
use Rattle.serve_core.specs.Serving.{TellsAgreed}
use Rattle.serve_core.specs.StewardLaws.{IsDone}
use Rattle.serve_core.specs.Stewarding.{LeavesNoOrders}
use Rattle.serve_turn.specs.Stopping.{IsClean}
use Rattle.serve_turn.specs.declared.end.ServeEnd.{ServeEnd}
use Rattle.steward_core.proofs.StatesLead.{one_lobby}
use Rattle.steward_core.specs.Saving.{most_answers}
use Rattle.steward_core.specs.declared.turn.StewardEnd.{StewardEnd}
use Rattle.steward_core.specs.declared.turn.StewardEnd.TheVariants as steward

-- ---- lobbies of whole states

formed_in : (parts : List Part) (lobby : LobbyState) → IsWhole parts → slice_get parts 0 ≡ Some (TheLobby lobby)
    → IsWellFormed lobby
formed_in parts lobby whole there =
    subst IsWellFormed (one_lobby parts whole.lobby lobby whole.first there) whole.formed

first_part : (lobby : LobbyState) → slice_get (opened_server lobby) 0 ≡ Some (TheLobby lobby)
unfolding opened_server
first_part lobby = refl

module _ (old new : Store) (first : LobbyState) (end : ServeEnd) (pass : PassState)
    (evening : Evening old new first end pass) where
  abbrev at_end : List Part
  at_end = state house pass.opening pass.seen

  opens_formed : IsWellFormed first
  opens_formed =
      formed_in (opened_server first) first (subst IsWhole evening.served.hall.opens evening.served.hall.opens_whole)
      (first_part first)

  ends_formed : (last : LobbyState) → EndsWith pass last → IsWellFormed last
  ends_formed last ends =
      formed_in at_end last
      (stays_whole house house_lawful pass.opening pass.seen evening.served.hall.opens_whole evening.served.hall.legal)
      ends

  -- what the table agrees with
  agrees_at_end : IfSome old.table (λ table. TellsAgreed new.table at_end)
  agrees_at_end =
      table_agrees evening.shows first end evening.door evening.before evening.after old evening.loaded new pass
      evening.opens evening.served

  -- no order stands where serving ended well
  none_stand : (last : LobbyState) → EndsWith pass last → IsClean end
      → (last.shelf.orders ≡ []) ⊎ (evening.served.last ≡ steward.Done (most_answers * 16))
  none_stand last ends clean =
      let served = evening.served in
      by served.last
      (clean_last end served.last
      (text_last end pass.short served.last evening.door pass.splits evening.before evening.after served.text) clean)
      served.steward.orders
    where
      by : (turn : StewardEnd) → IsDone turn → LeavesNoOrders turn at_end
          → (last.shelf.orders ≡ []) ⊎ (turn ≡ steward.Done (most_answers * 16))
      by (steward.Done count) done (inl none) = inl (none last ends)
      by (steward.Done count) done (inr most) = inr (ap steward.Done most)
      by steward.KeeperFault done left = absurd done
      by steward.Memory done left = absurd done

  resumes_in_each : (part rest : Log) → pass.seen ≡ part ++ rest → ResumesAsLeft (state house pass.opening part)
  resumes_in_each part rest is =
      let all : Legal house pass.opening (part ++ rest) =
      subst (Legal house pass.opening) is evening.served.hall.legal in
      resumes_as_left (state house pass.opening part)
      (stays_whole house house_lawful pass.opening part evening.served.hall.opens_whole
      (legal_front house pass.opening part rest all))

-- ---- the table between the two

-- a table that one left and the next one loaded
behind : (told again : Option Records) (parts : List Part) (last next : LobbyState)
    → slice_get parts 0 ≡ Some (TheLobby last)
    → TellsAgreed told parts → Stays told again → IfSome again (λ table. HasLoaded table next)
    → AgreesWith (wanted_by next) last
behind None again parts last next ends (table, is, agrees) stays loads = absurd cc
behind (Some left) None parts last next ends (table, is, agrees) stays loads = absurd stays
behind (Some left) (Some found) parts last next ends (table, is, agrees) stays loads = λ key.
    let same : found ≡ table = stays ∙ (let e : left ≡ table = cc in e) in
    same_table (wanted_by next) (held table) last.shelf.orders key (loads key ∙ ap (λ (t : Records). held t key) same)
    ∙ agrees last ends key

where_told : (told : Option Records) (P Q : Type 0) → (P → Q) → IfSome told (λ table. P) → IfSome told (λ table. Q)
where_told None P Q f p = tt
where_told (Some table) P Q f p = f p

pub opens_behind : OpensBehind
opens_behind old new again later first last next end end_later pass pass_later one ends stays two =
    where_told old.table (TellsAgreed new.table (state house pass.opening pass.seen)) (AgreesWith (wanted_by next) last)
    (λ told.
    behind new.table again.table (state house pass.opening pass.seen) last next ends told stays two.opens.holds)
    (agrees_at_end old new first end pass one)

-- no order stands: the same accounts and games
restores : (last next : LobbyState) (pass : PassState) → IsWellFormed last → IsWellFormed next → AreSpelled next
    → last.shelf.orders ≡ []
    → AgreesWith (wanted_by next) last
    → ((part rest : Log) → pass.seen ≡ part ++ rest → ResumesAsLeft (state house pass.opening part))
    → Restores last next pass
restores last next pass formed formed_too spelled none agrees resumes =
    let same : (key : List ℕ) → wanted_by next key ≡ wanted_by last key =
    λ key. sym (ap (λ (orders : List Order). table_with (wanted_by next) orders key) none) ∙ agrees key in
    let stored =
    same_stored_games last.accounts next.accounts last.shelf.games next.shelf.games same formed.shelf.sound.numbers
    formed_too.shelf.sound.numbers formed.shelf.sound.replay spelled.games in
    record {
      accounts = same_accounts last.accounts next.accounts last.shelf.games next.shelf.games same;
      games =
          sym (same_games 0 last.shelf.games next.shelf.games formed.shelf.sound.numbers formed_too.shelf.sound.numbers
          stored);
      resumes = resumes;
    }

pub restart_restores : RestartRestores
restart_restores old new again later first last next end end_later pass pass_later one ends stays two =
    where_told old.table (AgreesWith (wanted_by next) last)
    (IsClean end → Restores last next pass_later ⊎ (one.served.last ≡ steward.Done (most_answers * 16)))
    (λ agrees clean. by agrees (none_stand old new first end pass one last ends clean))
    (opens_behind old new again later first last next end end_later pass pass_later one ends stays two)
  where
    by : AgreesWith (wanted_by next) last
        → (last.shelf.orders ≡ []) ⊎ (one.served.last ≡ steward.Done (most_answers * 16))
        → Restores last next pass_later ⊎ (one.served.last ≡ steward.Done (most_answers * 16))
    by agrees (inl none) =
        inl (restores last next pass_later (ends_formed old new first end pass one last ends)
        (opens_formed again later next end_later pass_later two)
        two.opens.spelled none agrees (resumes_in_each again later next end_later pass_later two))
    by agrees (inr most) = inr most

-- ---- the store is a good one

pub leaves_good : LeavesGood
leaves_good old new first last end pass one ends clean types =
    where_told old.table (TellsAgreed new.table (state house pass.opening pass.seen))
    (TellsGood new.table ⊎ (one.served.last ≡ steward.Done (most_answers * 16)))
    (λ told. by told (none_stand old new first end pass one last ends clean))
    (agrees_at_end old new first end pass one)
  where
    by : TellsAgreed new.table (state house pass.opening pass.seen)
        → (last.shelf.orders ≡ []) ⊎ (one.served.last ≡ steward.Done (most_answers * 16))
        → TellsGood new.table ⊎ (one.served.last ≡ steward.Done (most_answers * 16))
    by (table, is, agrees) (inl none) =
        let holds : (key : List ℕ) → held table key ≡ wanted_by last key =
        λ key. sym (ap (λ (orders : List Order). table_with (held table) orders key) none) ∙ agrees last ends key in
        inl (table, is, good_table table last (ends_formed old new first end pass one last ends) types holds)
    by told (inr most) = inr most
