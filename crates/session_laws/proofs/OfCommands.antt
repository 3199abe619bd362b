-- No command makes a session tell save orders as saved, nor does the round or leaving.
use Rattle.std.proofs.Common.{ℕ, Bool, true, false, List, [], ◌∷◌}
use Rattle.std.specs.declared.option.Option.{Option}
use Rattle.std.specs.declared.option.Option.TheVariants.{None, Some}
use Rattle.chess_model.specs.declared.moves.MoveWord.{MoveWord}
use Rattle.command_words.specs.declared.command.Command.{Command}
use Rattle.command_words.specs.declared.command.Command.TheVariants as command
use Rattle.command_words.specs.declared.rows.Bare.TheVariants.{Quit}
use Rattle.command_words.specs.declared.rows.ByName.TheVariants.{AddCensor}
use Rattle.command_words.specs.declared.rows.ByNumber.TheVariants.{Play}
use Rattle.command_words.specs.declared.rows.MaybeByName.TheVariants.{Accept, Decline}
use Rattle.command_words.specs.declared.rows.OnChannel.TheVariants.{Ask}
use Rattle.command_words.specs.declared.rows.WithText.TheVariants.{Kibitz}
use Rattle.fics_words.specs.declared.refusal.Refusal.TheVariants as refusal
use Rattle.linked_desk.specs.declared.acts.DeskAct.{DeskAct}
use Rattle.lobby_state.specs.FindGame.{desk_of_game}
use Rattle.lobby_state.specs.declared.acts.LobbyAct.{LobbyAct}
use Rattle.lobby_state.specs.declared.acts.LobbyAct.TheVariants as lobby_act
use Rattle.lobby_state.specs.declared.acts.LobbyReply.TheVariants as lobby_reply
use Rattle.lobby_store.specs.Agreeing.{TellsSaved}
use Rattle.one_server.specs.declared.act.Act.{Act}
use Rattle.one_server.specs.declared.act.Act.TheVariants as one_act
use Rattle.one_server.specs.declared.reply.Reply.{Reply}
use Rattle.one_server.specs.declared.reply.Reply.TheVariants as reply
use Rattle.session_core.specs.Course.{Course, Asks, Writes}
use Rattle.session_core.specs.Memory.{MemoryState, looks_on_at_most, observed_at, present_in, remark_place, memory_told}
use Rattle.session_core.specs.Memory.{without_observed}
use Rattle.session_core.specs.OwnCommands.{own_answer}
use Rattle.session_core.specs.Reactions.{in_lobby, says_no_offer}
use Rattle.session_core.specs.Session.{course_behind, at_present, behind_visit, command_course, finding, given_up}
use Rattle.session_core.specs.Session.{leave_games, leaving_course, moving_at, reacting_at, remark_of, round, says_over}
use Rattle.session_core.specs.Session.{to_desk, half_move_course, to_observe, to_react, to_remark, to_server, turns, unobserved}
use Rattle.session_core.specs.Session.{visits, watched, way_course}
use Rattle.session_core.specs.Texts.{refusal_line}
use Rattle.session_core.specs.Visits.{visits_in}
use Rattle.session_core.specs.Ways.{way_of}
use Rattle.session_core.specs.declared.reaction.Reaction.{Reaction}
use Rattle.session_core.specs.declared.reaction.Reaction.TheVariants.{Accepting, Declining}
use Rattle.session_core.specs.declared.way.Way.{Way}
use Rattle.session_core.specs.declared.way.Way.TheVariants as way
use Rattle.session_laws.proofs.NeverSaving.{NeverSaves, never_either}
use Rattle.simul_control.specs.declared.place.Place.{Place}
use Rattle.steward_core.specs.Agreement.{SaysSaved}

-- 1. The round.
never_given_up : (visit : _) (over : Bool) (rest : Course) → NeverSaves rest → NeverSaves (given_up visit over rest)
never_given_up visit true rest never = (λ is. is, λ r. never)
never_given_up visit false rest never = never

never_visits : (games : List _) (memory : MemoryState) → NeverSaves (visits games memory)
never_visits [] memory = tt
never_visits (visit ∷ rest) memory = (
  λ is. is,
  λ r.
      let later = behind_visit visit (says_over r) memory in
      never_given_up visit (says_over r) (visits rest later) (never_visits rest later),
)

pub never_round : (memory : MemoryState) → NeverSaves (round memory)
never_round memory = (λ is. is, λ r. never_visits (visits_in (memory_told memory r)) (memory_told memory r))

-- 2. Leaving.
never_leave_games : (games : List _) (memory : MemoryState) → NeverSaves (leave_games games memory)
never_leave_games [] memory = (λ is. is, λ r. tt)
never_leave_games (visit ∷ rest) memory = (λ is. is, λ r. (λ is. is, λ q. never_leave_games rest memory))

pub never_leaving : (memory : MemoryState) → NeverSaves (leaving_course memory)
never_leaving memory = (λ is. is, λ r. never_leave_games (visits_in (memory_told memory r)) (memory_told memory r))

-- 3. What commands are made of.
never_server : (act : Act) (memory : MemoryState) → (SaysSaved act → ⊥) → NeverSaves (to_server act memory)
never_server act memory other = (other, λ r. never_round memory)

never_present : (act : DeskAct) (place : Option Place) (memory : MemoryState) → NeverSaves (at_present act place memory)
never_present act None memory = never_round memory
never_present act (Some place) memory = (λ is. is, λ r. never_round memory)

never_desk : (act : DeskAct) (memory : MemoryState) → NeverSaves (to_desk act memory)
never_desk act memory = (λ is. is, λ r. never_present act (present_in (memory_told memory r)) (memory_told memory r))

never_remark : (act : DeskAct) (memory : MemoryState) → NeverSaves (to_remark act memory)
never_remark act memory =
    (λ is. is, λ r. never_present act (remark_place (memory_told memory r)) (memory_told memory r))

never_moving : (word : MoveWord) (stamp : Option ℕ) (place : Option Place) (memory : MemoryState)
    → NeverSaves (moving_at word stamp place memory)
never_moving word stamp None memory = never_round memory
never_moving word stamp (Some place) memory = (
  λ is. is,
  λ r.
      never_either (turns r memory) (Asks (one_act.Lobby lobby_act.SimNext) (λ turned. round memory)) (round memory)
      (λ is. is, λ turned. never_round memory) (never_round memory),
)

never_move : (word : MoveWord) (stamp : Option ℕ) (memory : MemoryState)
    → NeverSaves (half_move_course word stamp memory)
never_move word stamp memory =
    (λ is. is, λ r. never_moving word stamp (present_in (memory_told memory r)) (memory_told memory r))

reacts_not : (reaction : Reaction) → SaysSaved (in_lobby reaction) → ⊥
reacts_not Accepting is = is
reacts_not Declining is = is

never_reacting : (reaction : Reaction) (place : Option Place) (memory : MemoryState)
    → NeverSaves (reacting_at reaction place memory)
never_reacting reaction None memory = never_server (in_lobby reaction) memory (reacts_not reaction)
never_reacting reaction (Some place) memory = (
  λ is. is,
  λ r.
      never_either (says_no_offer r) (to_server (in_lobby reaction) memory) (course_behind r memory)
      (never_server (in_lobby reaction) memory (reacts_not reaction)) (never_round memory),
)

never_react : (reaction : Reaction) (memory : MemoryState) → NeverSaves (to_react reaction memory)
never_react reaction memory =
    (λ is. is, λ r. never_reacting reaction (present_in (memory_told memory r)) (memory_told memory r))

never_finding : (r : Reply) (memory : MemoryState) → NeverSaves (finding r memory)
never_finding (reply.Lobby (lobby_reply.Found place)) memory = (λ is. is, λ r. never_round (watched place r memory))
never_finding r memory = never_round memory

never_observe : (act : LobbyAct) (memory : MemoryState) → (TellsSaved act → ⊥) → NeverSaves (to_observe act memory)
never_observe act memory other =
    never_either (looks_on_at_most memory) (Writes (refusal_line refusal.ListFull) (round memory))
    (Asks (one_act.Lobby act) (λ r. finding r memory))
    (never_round memory) (other, λ r. never_finding r memory)

never_unobserved : (place : Option Place) (memory : MemoryState) → NeverSaves (unobserved place memory)
never_unobserved None memory = never_round memory
never_unobserved (Some place) memory = (λ is. is, λ r. never_round (without_observed place.desk memory))

-- 4. Each way, where its act doesn't tell orders as saved, and so each command.
abbrev SavesBy : Way → Type 0
SavesBy (way.Server act) = SaysSaved act
SavesBy (way.Observe act) = TellsSaved act
SavesBy _ = ⊥

never_way : (way : Way) (stamp : Option ℕ) (memory : MemoryState) → (SavesBy way → ⊥)
    → NeverSaves (way_course way stamp memory)
never_way way.Round stamp memory other = never_round memory
never_way (way.Server act) stamp memory other = never_server act memory other
never_way (way.Desk act) stamp memory other = never_desk act memory
never_way (way.Move word) stamp memory other = never_move word stamp memory
never_way (way.React reaction) stamp memory other = never_react reaction memory
never_way (way.Remark text) stamp memory other = never_remark (remark_of text memory) memory
never_way (way.Observe act) stamp memory other = never_observe act memory other
never_way (way.Unobserve number) stamp memory other =
    never_unobserved (observed_at (desk_of_game number) memory) memory
never_way (way.Own own) stamp memory other = never_round (own_answer own memory).memory
never_way way.Leave stamp memory other = never_leaving memory

saves_by_none : (asked : Command) → SavesBy (way_of asked) → ⊥
saves_by_none (command.Bare Quit) is = is
saves_by_none (command.ByName AddCensor name) is = is
saves_by_none (command.MaybeByName Accept None) is = is
saves_by_none (command.MaybeByName Decline None) is = is
saves_by_none (command.WithText Kibitz text) is = is
saves_by_none (command.ByNumber Play number) is = is
saves_by_none (command.OnChannel Ask number) is = is
saves_by_none _ is = is

pub never_command : (asked : Command) (stamp : Option ℕ) (memory : MemoryState)
    → NeverSaves (command_course asked stamp memory)
never_command asked stamp memory = never_way (way_of asked) stamp memory (saves_by_none asked)
