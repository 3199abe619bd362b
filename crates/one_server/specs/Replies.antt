-- What a reply tells. This server's own.
use Rattle.linked_desk.specs.Sound.{TellsWinners}
use Rattle.lobby_state.specs.Keeps.{TellsDesks}
use Rattle.one_server.specs.declared.reply.Reply.{Reply}
use Rattle.one_server.specs.declared.reply.Reply.TheVariants as reply

-- each place that a reply tells is at a desk from 1 to 128, and each end that it tells names a winner exactly where
-- somebody won
abbrev pub IsReply : Reply → Type 0
IsReply (reply.Lobby answer) = TellsDesks answer
IsReply (reply.Desk answer) = TellsWinners answer
IsReply _ = Unit {0}
