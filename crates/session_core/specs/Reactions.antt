-- What a session does about an offer where its player names nobody: the desk of the present place is asked first. This
-- server's own.
use Rattle.std.specs.Prelude.{Bool, true, false, None}
use Rattle.fics_words.specs.declared.refusal.Refusal.{Refusal}
use Rattle.fics_words.specs.declared.refusal.Refusal.TheVariants.{NoSuchOffer}
use Rattle.linked_desk.specs.declared.acts.DeskAct.{DeskAct}
use Rattle.linked_desk.specs.declared.acts.DeskAct.TheVariants as desk_act
use Rattle.lobby_state.specs.declared.acts.LobbyAct.TheVariants as lobby_act
use Rattle.lobby_state.specs.declared.acts.PairAct.TheVariants as pair_act
use Rattle.one_server.specs.declared.act.Act.{Act}
use Rattle.one_server.specs.declared.act.Act.TheVariants.{Lobby, Pair}
use Rattle.one_server.specs.declared.reply.Reply.{Reply}
use Rattle.one_server.specs.declared.reply.Reply.TheVariants as reply
use Rattle.session_core.specs.declared.reaction.Reaction.{Reaction}
use Rattle.session_core.specs.declared.reaction.Reaction.TheVariants.{Accepting, Declining}

-- the act at the desk, which answers the earliest offer there
abbrev pub of_desk : Reaction → DeskAct
of_desk Accepting = desk_act.Accept
of_desk Declining = desk_act.Decline

-- the act in the lobby, which answers the oldest challenge
abbrev pub in_lobby : Reaction → Act
in_lobby Accepting = Pair (pair_act.Accept None)
in_lobby Declining = Lobby (lobby_act.Decline None)

-- there is no offer to answer
abbrev pub is_no_offer : Refusal → Bool
is_no_offer NoSuchOffer = true
is_no_offer _ = false

-- a desk has no offer to answer
abbrev pub says_no_offer : Reply → Bool
says_no_offer (reply.Refused cause) = is_no_offer cause
says_no_offer _ = false
