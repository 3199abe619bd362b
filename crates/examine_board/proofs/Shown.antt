-- What is shown of the men in hand where an exam is.
use Rattle.std.proofs.Common.{◌≡◌, ℕ, Bool, true, if◌then◌else◌, List, [], ◌∷◌, ◌++◌, map, sym, ap, ◌∙◌, append_assoc}
use Rattle.chess_model.specs.Tests.{has_drops}
use Rattle.game_board.specs.Board.{Board}
use Rattle.examine_board.specs.Exam.{ExamState, boards_of_halves, present}
use Rattle.examine_board.specs.Lines.{hands_line, hands_lines}

hands_are : (e : ExamState) (boards : List Board) → boards ≡ boards_of_halves e.terms (present e)
    → has_drops e.terms.variant ≡ true → map hands_line boards ≡ hands_lines e
hands_are e boards are has =
    ap (λ (bs : List Board). map hands_line bs) are
    ∙ ap (λ (b : Bool). if b then map hands_line (boards_of_halves e.terms (present e)) else []) (sym has)

-- the lines of one board, and of two
pub hands_of_one : (e : ExamState) (before after : List (List ℕ)) (line : List ℕ) (first : Board)
    → first ∷ [] ≡ boards_of_halves e.terms (present e) → has_drops e.terms.variant ≡ true
    → line ≡ hands_line first → after ≡ before ++ line ∷ [] → after ≡ before ++ hands_lines e
hands_of_one e before after line first are has is put =
    put ∙ ap (λ (l : List ℕ). before ++ l ∷ []) is
    ∙ ap (λ (ls : List (List ℕ)). before ++ ls) (hands_are e (first ∷ []) are has)

pub hands_of_two : (e : ExamState) (before one two : List (List ℕ)) (line other : List ℕ) (first second : Board)
    → first ∷ second ∷ [] ≡ boards_of_halves e.terms (present e)
    → has_drops e.terms.variant ≡ true → line ≡ hands_line first → other ≡ hands_line second → one ≡ before ++ line ∷ []
    → two ≡ one ++ other ∷ [] → two ≡ before ++ hands_lines e
hands_of_two e before one two line other first second are has is told put more =
    more ∙ ap (λ (ls : List (List ℕ)). ls ++ other ∷ []) put ∙ append_assoc before (line ∷ []) (other ∷ [])
    ∙ (λ i. before ++ is i ∷ told i ∷ [])
    ∙ ap (λ (ls : List (List ℕ)). before ++ ls) (hands_are e (first ∷ second ∷ []) are has)
