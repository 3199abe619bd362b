-- What each lobby act keeps, in one table; and what follows of its answer and of the lobby afterwards, for all acts
-- alike.
use Rattle.std.proofs.Common.{◌≡◌, ◌≢◌, ℕ, not, List, Some, None, refl}
use Rattle.std.specs.Prelude.{IfOk}
use Rattle.fics_words.specs.Effect.{NoneHolds}
use Rattle.lobby_shelf.proofs.Keeping.{IsShelf-saved}
use Rattle.lobby_state.specs.declared.acts.LobbyAct.{LobbyAct}
use Rattle.lobby_state.specs.declared.acts.LobbyAct.TheVariants.{Enter, Register, Match, Unpost, Where, Fetch, Going, Bye, InUse, Var, Tell, Shout, Decline, Withdraw, Post, Channel, TellChannel, Partner, Ptell, List as OnList, Find, FindGame, SimOpen, SimNext, SimPrev, GoBoard, Saved}
use Rattle.lobby_state.specs.declared.member.Member.{Member}
use Rattle.lobby_state.specs.declared.acts.name_list.WhichList.{WhichList}
use Rattle.lobby_state.specs.declared.acts.name_list.WhichList.TheVariants.{Censor, Noplay}
use Rattle.lobby_state.specs.Accept.{offer_of}
use Rattle.lobby_state.specs.Acts.{FitsLobby, lobby_after, lobby_answer, lobby_effect}
use Rattle.lobby_state.specs.Channel.{change_of}
use Rattle.lobby_state.specs.Holds.{holds}
use Rattle.lobby_state.specs.Decline.{declined}
use Rattle.lobby_state.specs.Enter.{entrant_of}
use Rattle.lobby_state.specs.Fetch.{member_emptied}
use Rattle.lobby_state.specs.GoBoard.{first_against}
use Rattle.lobby_state.specs.Going.{leaving_member}
use Rattle.lobby_state.specs.Keeps.{KeepsWhere, TellsDesks}
use Rattle.lobby_state.specs.Lobby.{LobbyState, is_named, is_session, member_of, named, partner_in, places_of}
use Rattle.lobby_state.specs.NameList.{listing, with_names_on}
use Rattle.lobby_state.specs.Partner.{is_asked_by}
use Rattle.lobby_state.specs.Places.{switching, turning_place}
use Rattle.lobby_state.specs.Ptell.{confided}
use Rattle.lobby_state.specs.Shout.{hears_shouts, shouted}
use Rattle.lobby_state.specs.Tell.{has_told}
use Rattle.lobby_state.specs.TellChannel.{channel_told, hears_channel}
use Rattle.lobby_state.specs.Var.{with_var}
use Rattle.lobby_state.specs.WellFormed.{IsWellFormed, sessions_in}
use Rattle.lobby_state.specs.Withdraw.{own_of, withdrawn}
use Rattle.lobby_state.proofs.Follows.{Alike, Follows, all_told, and_then, changed, fewer_challenges, for_store, if_there, one_told, other_channels, other_seeks, stays}
use Rattle.lobby_state.proofs.KeepsBye.{formed_going, formed_gone}
use Rattle.lobby_state.proofs.KeepsEnter.{entered_follows, tells_welcome}
use Rattle.lobby_state.proofs.KeepsFind.{tells_found}
use Rattle.lobby_state.proofs.KeepsFindGame.{tells_found_game}
use Rattle.lobby_state.proofs.KeepsInUse.{desks_are}
use Rattle.lobby_state.proofs.KeepsMatch.{challenged_follows}
use Rattle.lobby_state.proofs.KeepsPartner.{partnered_follows, single_follows, tells_asked}
use Rattle.lobby_state.proofs.KeepsPost.{posted_follows}
use Rattle.lobby_state.proofs.KeepsRegistration.{registered_follows}
use Rattle.lobby_state.proofs.LinesKept.{Kept, begins_same, kept_change, kept_fetched, kept_gone, same_lines}
use Rattle.lobby_state.proofs.OwnPlaces.{placed_follows, rows_gone}
use Rattle.lobby_state.proofs.Refusals.{holds_after, holds_of_answer}
use Rattle.lobby_state.proofs.SeekRows.{AreSeeksOf-filter}
use Rattle.lobby_state.proofs.WellFormed.{member_changed, places_at_desks}
use Rattle.seek_match.specs.Matches.{is_between}
use Rattle.seek_match.specs.Seeks.{is_by}
use Rattle.simul_control.specs.declared.direction.Direction.TheVariants.{Next, Previous}

-- the act leaves what a store is to hold, and the save orders, as they are
abbrev pub LeavesStore : LobbyAct → Type 0
LeavesStore (Register digest) = ⊥
LeavesStore (Saved upto) = ⊥
LeavesStore _ = Unit {0}

-- what an act of a session keeps: what holds of every act; the lines that wait for a member, but for its own Fetch and
-- Bye; and what a store is to hold
pub record ActKeeps (lobby : LobbyState) (by : ℕ) (act : LobbyAct) : Type 0 where
  pub kept : KeepsWhere (FitsLobby act) lobby (lobby_effect lobby by act)
  pub lines : (session : ℕ) → (act ≡ Fetch → by ≢ session) → (act ≡ Bye → by ≢ session)
      → Kept session lobby.members (lobby_effect lobby by act).after.members
  pub store : LeavesStore act → for_store (lobby_effect lobby by act).after ≡ for_store lobby

-- mostly what stands afterwards follows what stood before
keeps : {lobby : LobbyState} {by : ℕ} {act : LobbyAct}
    → Follows (FitsLobby act × NoneHolds (lobby_effect lobby by act).causes) (LeavesStore act) lobby
    (lobby_effect lobby by act).after
    → (IsWellFormed lobby → TellsDesks (lobby_effect lobby by act).reply) → ActKeeps lobby by act
keeps step tells = record {
  kept = record { formed = λ fits none h. step.formed (fits, none) h; games = step.games; tells = tells };
  lines = λ session _ _. step.lines session;
  store = step.store;
}

listed : (which : WhichList) (names : List (List ℕ)) (m : Member) → Alike m (with_names_on which names m)
listed Censor names m = record { same = refl; lines = begins_same m.waiting }
listed Noplay names m = record { same = refl; lines = begins_same m.waiting }

-- the table. An act that leaves the lobby as it is and tells of no desk has no row of its own
pub keeps_act : (lobby : LobbyState) (by : ℕ) (act : LobbyAct) → ActKeeps lobby by act
keeps_act lobby by (Enter name digest) =
    let entrant = entrant_of lobby name digest in
    keeps (entered_follows lobby by name digest) (λ _. tells_welcome entrant.check entrant.name)
keeps_act lobby by (Register digest) = keeps (registered_follows lobby by digest) (λ _. tt)
keeps_act lobby by (Match to terms) = keeps (challenged_follows lobby by to terms) (λ _. tt)
keeps_act lobby by (Post terms) = keeps (posted_follows lobby by terms) (λ _. tt)
keeps_act lobby by (Unpost number) =
    keeps (other_seeks lobby _ (λ _ h.
    AreSeeksOf-filter (sessions_in lobby.members) (λ seek. not (is_by by number seek)) lobby.seeks h.seeks)) (λ _. tt)
keeps_act lobby by (Var which on) =
    keeps
    (changed lobby (is_session by) (with_var which on) (λ m. record { same = refl; lines = begins_same m.waiting }))
    (λ _. tt)
keeps_act lobby by (OnList which name on) =
    keeps (changed lobby (is_session by) (λ m. (listing which name on m).after) (λ m. listed which _ m)) (λ _. tt)
keeps_act lobby by (Tell to text) =
    keeps
    (if_there (λ caller. has_told lobby caller to text) (member_of lobby by) stays
    (λ caller _. one_told (is_named to) _))
    (λ _. tt)
keeps_act lobby by (Shout text) =
    keeps (if_there (λ caller. shouted lobby by caller text) (member_of lobby by) stays
    (λ caller _. all_told (hears_shouts by) _))
    (λ _. tt)
keeps_act lobby by (Channel channel on) =
    keeps (other_channels lobby (change_of lobby.channels by channel on).after) (λ _. tt)
keeps_act lobby by (TellChannel channel text) =
    keeps (if_there (λ caller. channel_told lobby by channel caller text) (member_of lobby by) stays (λ caller _.
    all_told (hears_channel lobby.channels by channel) _)) (λ _. tt)
keeps_act lobby by (Decline name) =
    keeps (if_there (λ caller. declined lobby caller (offer_of lobby by name)) (member_of lobby by) stays (λ caller _.
    if_there (λ offer. declined lobby (Some caller) offer) (offer_of lobby by name) stays (λ offer _.
    and_then (fewer_challenges lobby (λ other. not (is_between offer.from offer.to other)))
    (all_told (is_session offer.from) _))))
    (λ _. tt)
keeps_act lobby by (Withdraw name) =
    keeps (if_there (λ own. withdrawn lobby own) (own_of lobby by name) stays (λ own _.
    fewer_challenges lobby (λ other. not (is_between own.from own.to other)))) (λ _. tt)
keeps_act lobby by (Partner None) = keeps (single_follows lobby by) (λ _. tt)
keeps_act lobby by (Partner (Some to)) =
    keeps (partnered_follows lobby by to) (λ _. tells_asked (holds (is_asked_by lobby by) (named lobby to)))
keeps_act lobby by (Ptell text) =
    keeps (if_there (λ caller. confided lobby caller (partner_in lobby by) text) (member_of lobby by) stays (λ caller _.
    if_there (λ partner. confided lobby (Some caller) partner text) (partner_in lobby by) stays
    (λ partner _. all_told (is_session partner) _)))
    (λ _. tt)
keeps_act lobby by SimOpen = keeps (placed_follows lobby by (switching (places_of lobby by)).after refl) (λ _. tt)
keeps_act lobby by SimNext =
    keeps (placed_follows lobby by (turning_place Next (places_of lobby by)).after refl) (λ _. tt)
keeps_act lobby by SimPrev =
    keeps (placed_follows lobby by (turning_place Previous (places_of lobby by)).after refl) (λ _. tt)
keeps_act lobby by (GoBoard name) =
    let places = places_of lobby by in
    keeps (placed_follows lobby by _ (rows_gone (first_against lobby (named lobby name) places.rows) places)) (λ _. tt)
keeps_act lobby by (Find name) = keeps stays (tells_found lobby name)
keeps_act lobby by (FindGame number) = keeps stays (λ _. tells_found_game lobby number)
keeps_act lobby by Where = keeps stays (places_at_desks lobby by)
keeps_act lobby by Fetch = record {
  kept = record {
    formed = λ _ _ h. member_changed lobby (is_session by) member_emptied (λ _. refl) (λ _. refl) (λ _ seats. seats) h;
    games = refl;
    tells = places_at_desks lobby by;
  };
  lines = λ session other _. kept_fetched by session lobby.members (other refl);
  store = λ _. refl;
}
keeps_act lobby by Going =
    keeps (record {
      formed = λ _ h. formed_going lobby by h;
      games = refl;
      lines = λ session.
          kept_change (is_session by) leaving_member (λ m. same_lines m (leaving_member m) refl refl) session
          lobby.members;
      store = λ _. refl;
    }) (places_at_desks lobby by)
keeps_act lobby by Bye = record {
  kept = record { formed = λ _ _ h. formed_gone lobby by h; games = refl; tells = λ _. tt };
  lines = λ session _ other. kept_gone by session lobby.members (other refl);
  store = λ _. refl;
}
keeps_act lobby by InUse = keeps stays (λ _. desks_are lobby)
keeps_act lobby by (Saved upto) =
    keeps (record {
      formed = λ _ h. assumption (IsShelf-saved lobby.shelf upto h.shelf.sound, h);
      games = refl;
      lines = λ _. begins_same _;
      store = λ said. absurd said;
    }) (λ _. tt)
keeps_act lobby by _ = keeps stays (λ _. tt)

-- the lobby after an act is well-formed
pub IsWellFormed-lobby_after : (lobby : LobbyState) (session : ℕ) (act : LobbyAct) → FitsLobby act → IsWellFormed lobby
    → IsWellFormed (lobby_after lobby session act)
IsWellFormed-lobby_after lobby session act fits h =
    holds_after IsWellFormed lobby (lobby_effect lobby session act) h
    (λ none. (keeps_act lobby session act).kept.formed fits none h)

-- no lobby act starts or ends a game
pub games-lobby_after : (lobby : LobbyState) (session : ℕ) (act : LobbyAct)
    → (lobby_after lobby session act).games ≡ lobby.games
games-lobby_after lobby session act =
    holds_after (λ (after : LobbyState). after.games ≡ lobby.games) lobby (lobby_effect lobby session act) refl
    (λ _. (keeps_act lobby session act).kept.games)

-- the answer to an act tells of desks alone
pub tells-lobby_answer : (lobby : LobbyState) (session : ℕ) (act : LobbyAct) → IsWellFormed lobby
    → IfOk (lobby_answer lobby session act) TellsDesks
tells-lobby_answer lobby session act h =
    holds_of_answer TellsDesks (lobby_effect lobby session act) (λ _. (keeps_act lobby session act).kept.tells h)
