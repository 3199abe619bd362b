use Rattle.std.proofs.Common.{true, sym, ap, subst, ◌∙◌, arith}
use Rattle.fics_words.specs.Line.{IsLine}
use Rattle.lobby_state.specs.Partner.{partner_words}
use Rattle.lobby_state.proofs.Words.{IsLine-from_printed, IsPrinted-handle, IsPrinted-link_words}
use Rattle.lobby_state.proofs.acts.partner.link_line.Goals as goal

pub from_bytes-requires : goal.from_bytes-requires
from_bytes-requires c =
    let words = c.in_ok-text.ensures ∙ ap (partner_words true) c.letters.ensures.letters in
    subst IsLine (sym words)
    (IsLine-from_printed 45 _ (omega arith)
    (IsPrinted-link_words c.args.name (IsPrinted-handle c.args.name c.letters.ensures.handle)))
