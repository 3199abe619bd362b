-- The summary of a demo: counts of its history, a line each. This server's own.
use Rattle.std.specs.Prelude.{ℕ, Bool, true, false, List, ◌++◌, length, codes, count_by, decimal}
use Rattle.histories.specs.declared.entry.Entry.{Entry}
use Rattle.linked_desk.specs.declared.acts.DeskAct.TheVariants as desk_act
use Rattle.linked_desk.specs.declared.acts.DeskReply.TheVariants.{Done}
use Rattle.one_server.specs.declared.act.Act.{Act}
use Rattle.one_server.specs.declared.act.Act.TheVariants.{Desk}
use Rattle.one_server.specs.declared.act.Timed.{Timed}
use Rattle.one_server.specs.declared.reply.PairReply.TheVariants.{Started}
use Rattle.one_server.specs.declared.reply.Reply.{Reply}
use Rattle.one_server.specs.declared.reply.Reply.TheVariants as reply
use Rattle.one_server.specs.Running.{Log}

-- a game has started
abbrev pub starts : Reply → Bool
starts (reply.Pair Started) = true
starts _ = false

abbrev pub is_start : Entry Timed Reply → Bool
is_start e = starts e.reply

-- the entry is a half-move that was made
abbrev pub is_half_move : Act → Reply → Bool
is_half_move (Desk desk serial (desk_act.Move word stamp)) (reply.Desk Done) = true
is_half_move act reply = false

abbrev pub is_made : Entry Timed Reply → Bool
is_made e = is_half_move e.act.act e.reply

-- an act was refused
abbrev pub refuses : Reply → Bool
refuses (reply.Refused cause) = true
refuses _ = false

abbrev pub is_refused : Entry Timed Reply → Bool
is_refused e = refuses e.reply

-- a line of the summary: what is counted, and how many there are
abbrev pub count_line : List ℕ → ℕ → List ℕ
count_line what count = what ++ decimal count ++ codes "\n"

-- the sessions, the entries of the history, the games that started, the half-moves that were made, the acts that were
-- refused, and the games that were stored, of which there are none: guests store nothing
unfoldable pub summary_of : Log → List ℕ
summary_of log =
    count_line (codes "sessions ") 40
    ++ count_line (codes "entries ") (length log)
    ++ count_line (codes "games ") (count_by is_start log)
    ++ count_line (codes "moves ") (count_by is_made log)
    ++ count_line (codes "refused ") (count_by is_refused log)
    ++ count_line (codes "stored ") 0
