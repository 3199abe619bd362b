use Rattle.std.proofs.Common.{sym}
use Rattle.lobby_state.proofs.Sayings.{shouts}
use Rattle.lobby_state.proofs.Words.{IsWording-shouts}
use Rattle.lobby_state.proofs.roster.Roster.shout.Goals as goal

pub say-requires-clause-wording : goal.say-requires-clause-wording
say-requires-clause-wording c = IsWording-shouts

pub returns : goal.returns
returns c =
    shouts c.args.self.now c.say.new.self c.args.session c.in_ok-told.told c.args.text.now c.bytes.result.now
    c.in-Some.caller.now
    (sym c.in-Some.ensures) c.in_ok-told.ensures.told c.bytes.ensures.bytes c.in_ok-told.ensures.ok
