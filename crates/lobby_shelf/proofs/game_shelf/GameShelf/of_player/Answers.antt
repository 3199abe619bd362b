use Rattle.std.proofs.Common.{ap, ◌∙◌}
use Rattle.lobby_shelf.specs.Players.{of_player}
use Rattle.lobby_shelf.specs.Shelf.{ShelfState}
use Rattle.lobby_shelf.proofs.Marked.{All-few, of_both-one}
use Rattle.lobby_shelf.proofs.game_shelf.GameShelf.of_player.Goals as goal

pub all-requires : goal.all-requires
all-requires c = All-few c.self.inside.games c.self.invariant.replay

pub returns : goal.returns
returns c =
    c.all.ensures ∙ of_both-one c.args.key c.self.inside.games
    ∙ ap (λ (s : ShelfState). of_player c.args.key s.games) c.self.view_is
