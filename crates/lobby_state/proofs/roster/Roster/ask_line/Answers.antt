use Rattle.std.proofs.Common.{sym, subst, arith}
use Rattle.fics_words.specs.Line.{IsLine}
use Rattle.lobby_state.proofs.Words.{IsLine-from_printed, IsPrinted, IsPrinted-resume_words}
use Rattle.lobby_state.proofs.roster.Roster.ask_line.Goals as goal

pub from_bytes-requires : goal.from_bytes-requires
from_bytes-requires c =
    let name : IsPrinted 17 c.letters_of.result.now =
    record { short = c.letters_of.ensures.short; shows = c.letters_of.ensures.shows } in
    subst IsLine (sym c.in_ok-text.ensures)
    (IsLine-from_printed 33 _ (omega arith) (IsPrinted-resume_words c.letters_of.result.now name))
