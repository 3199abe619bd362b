use Rattle.std.proofs.Common.{sym, ap, subst, ◌∙◌, arith}
use Rattle.fics_words.specs.Line.{IsLine}
use Rattle.lobby_state.specs.Games.{board_words}
use Rattle.lobby_state.proofs.Words.{IsLine-from_printed, IsPrinted-handle, IsPrinted-board_words}
use Rattle.lobby_state.proofs.acts.games.put_board.Goals as goal

pub push-requires : goal.push-requires
push-requires c =
    let words = c.as_slice.ensures.value ∙ c.in_ok-write_board.ensures
    ∙ ap (λ white. board_words c.args.number white c.letters-black.result.now c.args.terms)
    c.letters-white.ensures.letters
    ∙ ap (λ black. board_words c.args.number c.args.opponents.white.name black c.args.terms)
    c.letters-black.ensures.letters in
    subst IsLine (sym words)
    (IsLine-from_printed 71 _ (omega arith)
    (IsPrinted-board_words c.args.number c.args.opponents.white.name c.args.opponents.black.name c.args.terms
    (IsPrinted-handle _ c.letters-white.ensures.handle) (IsPrinted-handle _ c.letters-black.ensures.handle)
    (omega arith) (omega arith) (omega arith)))
