use Rattle.std.proofs.Common.{ap, ◌∙◌}
use Rattle.fics_words.specs.Boards.{board_number}
use Rattle.game_board.specs.Board.{to_move, made}
use Rattle.game_board.proofs.Movers.{to_move-stands}
use Rattle.game_board.proofs.game_board.GameBoard.to_move.Goals as goal

pub returns : goal.returns
returns c =
    let i = c.self.inside in
    c.to_move.ensures
    ∙ to_move-stands i.position (record {
      number = board_number i.number;
      terms = i.terms;
      list = i.list;
      begin = i.begin;
      kept = i.kept;
      played = i.played;
      resumed = i.resumed;
      all = made i.all;
    }) c.self.invariant.stands c.self.invariant.variant c.self.invariant.own
    ∙ ap to_move c.self.view_is
