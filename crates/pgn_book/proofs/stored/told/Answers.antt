use Rattle.std.proofs.Common.{List, map, ap, ◌∙◌}
use Rattle.game_records.specs.declared.stored_game.Half.{Half}
use Rattle.pgn_book.proofs.StoredPlayed.{exportable}
use Rattle.pgn_book.proofs.stored.told.Goals as goal

pub returns-clause-exportable : goal.returns-clause-exportable
returns-clause-exportable c =
    exportable c.args.g.now c.in_ok-moves.moves c.in_ok-tags.tags _ _ c.requires
    (c.in_ok-moves.ensures ∙ ap (λ (l : List Half). map (λ h. h.what) l) c.as_slice-2.ensures)
    c.in_ok-tags.ensures.texts c.names_row.ensures.white c.names_row.ensures.black
