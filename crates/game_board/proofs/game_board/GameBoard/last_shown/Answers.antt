use Rattle.std.proofs.Common.{◌-◌, List, length, ap, ◌∙◌}
use Rattle.std.specs.Prelude.{slice_get}
use Rattle.std.specs.Option.{option_map}
use Rattle.game_board.specs.declared.played.Step.{Step}
use Rattle.game_board.specs.Board.{Board}
use Rattle.game_board.specs.BoardFace.{last_shown}
use Rattle.game_board.proofs.game_board.GameBoard.last_shown.Goals as goal

pub returns : goal.returns
returns c =
    let i = c.self.inside in
    ap (option_map (λ (s : Step). s.shown)) c.in_ok-last.ensures.value
    ∙ ap (λ (l : List Step). option_map (λ s. s.shown) (slice_get l (length l - 1))) c.as_slice.ensures.items
    ∙ c.self.invariant.shown
    ∙ ap (λ (b : Board). last_shown b.terms.variant b.number b.all b.list) c.self.view_is
