use Rattle.std.proofs.Common.{◌++◌, sym, ap, subst, ◌∙◌}
use Rattle.fics_words.specs.Line.{IsLine}
use Rattle.lobby_state.proofs.Words.{IsLine-said}
use Rattle.lobby_state.proofs.said.said_line.Goals as goal

pub from_bytes-requires : goal.from_bytes-requires
from_bytes-requires c =
    let words =
    c.in_ok-bytes.ensures
    ∙ ap (λ letters. letters ++ c.args.wording.now ++ c.args.text.now) c.letters.ensures.letters in
    subst IsLine (sym words)
    (IsLine-said c.args.name c.args.wording.now c.args.text.now c.letters.ensures.handle c.requires.wording
    c.requires.text)
