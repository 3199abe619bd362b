-- A line that goes to all members whom a test names. This server's own.
use Rattle.std.specs.Prelude.{ℕ, Bool, not, ◌&&◌, cond, List, map, count_by}
use Rattle.lobby_state.specs.declared.member.Member.{Member}
use Rattle.lobby_state.specs.Match.{is_queue_full, member_with_line}

-- the member gets the line: the test names it, and fewer than 512 lines wait for it
abbrev pub hears : (Member → Bool) → Member → Bool
hears test member = test member && not (is_queue_full member)

-- the member once the line has gone out: it waits for whom it reaches, and nothing else changes
abbrev pub hearing : (Member → Bool) → List ℕ → Member → Member
hearing test line member = cond (hears test member) (member_with_line line member) member

-- and all the members
abbrev pub broadcast : (Member → Bool) → List ℕ → List Member → List Member
broadcast test line members = map (hearing test line) members

-- how many of them get it
abbrev pub heard : (Member → Bool) → List Member → ℕ
heard test members = count_by (hears test) members
