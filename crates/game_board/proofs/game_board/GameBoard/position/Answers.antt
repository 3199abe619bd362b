use Rattle.std.proofs.Common.{ap, ◌∙◌}
use Rattle.fics_words.specs.Boards.{board_number}
use Rattle.game_board.specs.Board.{position_of, made}
use Rattle.game_board.proofs.Movers.{position_of-stands}
use Rattle.game_board.proofs.game_board.GameBoard.position.Goals as goal

pub returns : goal.returns
returns c =
    let i = c.self.inside in
    position_of-stands i.position (record {
      number = board_number i.number;
      terms = i.terms;
      list = i.list;
      begin = i.begin;
      kept = i.kept;
      played = i.played;
      resumed = i.resumed;
      all = made i.all;
    }) c.self.invariant.stands c.self.invariant.variant
    ∙ ap position_of c.self.view_is
