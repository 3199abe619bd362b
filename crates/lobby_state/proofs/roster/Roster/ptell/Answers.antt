use Rattle.std.proofs.Common.{sym, ◌∙◌}
use Rattle.lobby_state.proofs.Sayings.{confides}
use Rattle.lobby_state.proofs.Words.{IsWording-confides}
use Rattle.lobby_state.proofs.roster.Roster.ptell.Goals as goal

pub say_to-requires-clause-wording : goal.say_to-requires-clause-wording
say_to-requires-clause-wording c = IsWording-confides

pub returns : goal.returns
returns c =
    confides c.args.self.now c.say_to.new.self c.args.session c.in-Some-partner_of.partner c.args.text.now
    c.bytes.result.now c.in-Some.caller.now
    (sym c.in-Some.ensures) (sym c.in-Some-partner_of.ensures)
    (sym c.is_partner_full.ensures ∙ c.if-is_partner_full.false)
    c.bytes.ensures.bytes c.in_ok-say_to.ensures.ok
