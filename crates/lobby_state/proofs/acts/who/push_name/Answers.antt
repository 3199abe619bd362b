use Rattle.std.proofs.Common.{sym, subst, arith}
use Rattle.fics_words.specs.Line.{IsLine}
use Rattle.lobby_state.proofs.Words.{IsLine-from_printed, IsPrinted-handle}
use Rattle.lobby_state.proofs.acts.who.push_name.Goals as goal

pub push-requires : goal.push-requires
push-requires c =
    subst IsLine (sym c.letters.ensures.letters)
    (IsLine-from_printed 17 _ (omega arith) (IsPrinted-handle _ c.letters.ensures.handle))
