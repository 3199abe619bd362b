use Rattle.std.proofs.Common.{sym, subst, ◌∙◌, arith}
use Rattle.fics_words.specs.Line.{IsLine}
use Rattle.lobby_state.proofs.Words.{IsLine-from_printed, IsPrinted, IsPrinted-sought_words}
use Rattle.lobby_state.proofs.roster.Roster.put_seek.Goals as goal

pub push-requires : goal.push-requires
push-requires c =
    let name : IsPrinted 17 c.letters_of.result.now =
    record { short = c.letters_of.ensures.short; shows = c.letters_of.ensures.shows } in
    subst IsLine (sym (c.as_slice.ensures.value ∙ c.in_ok-write_seek.ensures))
    (IsLine-from_printed 53 _ (omega arith)
    (IsPrinted-sought_words c.letters_of.result.now c.args.seek name (omega arith) (omega arith) (omega arith)))
