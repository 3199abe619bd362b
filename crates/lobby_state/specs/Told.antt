-- The lists that replies tell, of which a copy is made before the act. This server's own.
use Rattle.std.specs.Prelude.{[]}
use Rattle.lobby_state.specs.declared.acts.LobbyReply.{LobbyReply}
use Rattle.lobby_state.specs.declared.acts.LobbyReply.TheVariants.{Lines, Waiting, Desks, Orders, Done}
use Rattle.lobby_state.specs.declared.told.ReplyLists.{ReplyLists}

-- no lists
abbrev pub no_lists : ReplyLists
no_lists = record { lines = []; waiting = []; desks = []; orders = [] }

-- the lists that a reply tells
abbrev pub lists_told : LobbyReply → ReplyLists
lists_told (Lines lines) = record no_lists { lines = lines }
lists_told (Waiting lines places) = record no_lists { waiting = lines }
lists_told (Desks desks) = record no_lists { desks = desks }
lists_told (Orders orders) = record no_lists { orders = orders }
lists_told _ = no_lists

-- a reply that tells no list, and Done in the place of one that does
abbrev pub plain_part : LobbyReply → LobbyReply
plain_part (Lines lines) = Done
plain_part (Waiting lines places) = Done
plain_part (Desks desks) = Done
plain_part (Orders orders) = Done
plain_part reply = reply
