-- The news of a game: how they are asked for, and whether more will come. This server's own.
use Rattle.std.specs.Prelude.{ℕ, Bool, false}
use Rattle.linked_desk.specs.declared.acts.DeskAct.TheVariants.{Fetch}
use Rattle.linked_desk.specs.declared.acts.DeskReply.TheVariants.{Items}
use Rattle.one_server.specs.declared.act.Act.{Act}
use Rattle.one_server.specs.declared.act.Act.TheVariants.{Desk}
use Rattle.one_server.specs.declared.reply.Reply.{Reply}
use Rattle.one_server.specs.declared.reply.Reply.TheVariants as reply

-- the act that fetches the news of the game of this serial at that desk
abbrev pub fetch_at : ℕ → ℕ → Act
fetch_at desk serial = Desk desk serial Fetch

-- nothing more will come from the game
abbrev pub says_over : Reply → Bool
says_over (reply.Desk (Items items is_over)) = is_over
says_over _ = false
