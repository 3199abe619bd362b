use Rattle.std.proofs.Common.{sym, subst, ◌∙◌, arith}
use Rattle.fics_words.specs.Line.{IsLine}
use Rattle.lobby_state.proofs.Words.{IsLine-from_printed, IsPrinted, IsPrinted-pending_words}
use Rattle.lobby_state.proofs.roster.Roster.put_challenge.Goals as goal

pub push-requires : goal.push-requires
push-requires c =
    let name : IsPrinted 17 c.letters_of-letters.result.now =
    record { short = c.letters_of-letters.ensures.short; shows = c.letters_of-letters.ensures.shows } in
    subst IsLine (sym (c.as_slice.ensures.value ∙ c.in_ok-write_challenge.ensures))
    (IsLine-from_printed 52 _ (omega arith)
    (IsPrinted-pending_words c.args.side c.letters_of-letters.result.now c.args.challenge.terms name (omega arith)
    (omega arith)))
