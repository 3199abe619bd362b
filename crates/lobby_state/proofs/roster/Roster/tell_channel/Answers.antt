use Rattle.std.proofs.Common.{sym, subst, ◌∙◌, arith}
use Rattle.lobby_state.specs.Said.{IsWording}
use Rattle.lobby_state.proofs.Words.{IsPrinted-channel_words}
use Rattle.lobby_state.proofs.roster.Roster.tell_channel.Goals as goal

pub said_line-requires-clause-wording : goal.said_line-requires-clause-wording
said_line-requires-clause-wording c =
    let printed = IsPrinted-channel_words c.args.channel (omega (arith, c.ranges.channel.fits)) in
    subst IsWording (sym (c.deref.ensures.value ∙ c.in_ok-wording.ensures))
    (omega (arith, printed.short), printed.shows)
