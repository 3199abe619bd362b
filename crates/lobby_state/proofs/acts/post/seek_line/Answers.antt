use Rattle.std.proofs.Common.{sym, ap, subst, ◌∙◌, arith}
use Rattle.fics_words.specs.Line.{IsLine}
use Rattle.lobby_state.specs.Post.{seek_words}
use Rattle.lobby_state.proofs.Words.{IsLine-from_printed, IsPrinted-handle, IsPrinted-seek_words}
use Rattle.lobby_state.proofs.acts.post.seek_line.Goals as goal

pub from_bytes-requires : goal.from_bytes-requires
from_bytes-requires c =
    let words =
    c.in_ok-text.ensures ∙ ap (λ letters. seek_words letters c.args.number c.args.terms) c.letters.ensures.letters in
    subst IsLine (sym words)
    (IsLine-from_printed 81 _ (omega arith)
    (IsPrinted-seek_words c.args.name c.args.number c.args.terms (IsPrinted-handle c.args.name c.letters.ensures.handle)
    (omega arith) (omega arith) (omega arith)))
