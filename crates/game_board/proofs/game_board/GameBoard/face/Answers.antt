use Rattle.std.proofs.Common.{◌≡◌, ℕ, Option, length, option_copied, ap, ◌∙◌}
use Rattle.chess_model.specs.declared.states.Shown.{Shown}
use Rattle.chess_model.specs.Position.{Position}
use Rattle.game_board.specs.Face.{face_of}
use Rattle.game_board.specs.Board.{Board, position_of}
use Rattle.game_board.specs.BoardFace.{board_face, last_shown}
use Rattle.game_board.proofs.game_board.GameBoard.face.Goals as goal

pub returns : goal.returns
unfolding board_face
returns c =
    let b = c.args.self.now in
    let many : c.len.result ≡ length b.list = c.len.ensures.value ∙ ap (λ (v : Board). length v.list) c.self.view_is in
    let last : option_copied c.as_ref.result ≡ last_shown b.terms.variant b.number b.all b.list =
    c.as_ref.ensures.value ∙ c.last_shown-last.ensures in
    c.face.ensures.face
    ∙ ap (λ (p : Position). face_of p c.len.result (option_copied c.as_ref.result)) c.position.ensures
    ∙ ap (λ (n : ℕ). face_of (position_of b) n (option_copied c.as_ref.result)) many
    ∙ ap (λ (o : Option Shown). face_of (position_of b) (length b.list) o) last
