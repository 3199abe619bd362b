use Rattle.std.proofs.Common.{sym, ap, subst, ◌∙◌, arith}
use Rattle.fics_words.specs.Line.{IsLine}
use Rattle.lobby_state.specs.Match.{challenge_words}
use Rattle.lobby_state.proofs.Words.{IsLine-challenge_words}
use Rattle.lobby_state.proofs.acts.matching.challenge_line.Goals as goal

pub from_bytes-requires : goal.from_bytes-requires
from_bytes-requires c =
    let words = c.in_ok-text.ensures ∙ ap (λ letters. challenge_words letters c.args.terms) c.letters.ensures.letters in
    subst IsLine (sym words)
    (IsLine-challenge_words c.args.name c.args.terms c.letters.ensures.handle (omega arith) (omega arith))
