-- The men of a game are whole: no half-move makes or loses one (FIDE 2.2 has what a set is; in crazyhouse both colours'
-- sets are counted together, since a captured man changes its colour; in bughouse the sets of both boards are, since a
-- captured man goes to the other one). A promoted man counts as a pawn.
use Rattle.std.specs.Prelude.{◌≡◌, ◌+◌, ◌*◌, ◌≤◌, All, IfSome, List, [], ◌∷◌}
use Rattle.chess_model.specs.declared.man.Colour.{Colour}
use Rattle.chess_model.specs.declared.man.Colour.TheVariants.{White, Black}
use Rattle.chess_model.specs.declared.man.Kind.{Kind}
use Rattle.chess_model.specs.declared.variant.Variant.{Variant}
use Rattle.chess_model.specs.declared.variant.Variant.TheVariants.{Chess, Crazyhouse, Bughouse, Fischer}
use Rattle.chess_model.specs.Census.{men_of, one_set, captured}
use Rattle.chess_model.specs.Holdings.{count_in}
use Rattle.chess_model.specs.Position.{Position, hand_of_side}
use Rattle.game_board.specs.Board.{Board, position_of}
use Rattle.style12_writer.specs.HoldingsLine.{most_of_a_kind}
use Rattle.linked_desk.specs.Desk.{GameState, DeskState, boards_at}

-- in chess and in Fischer random the men of a colour and kind on the board, and those captured, are those of one set
abbrev pub HasOneSet : Board → Type 0
HasOneSet b =
    (c : Colour) (k : Kind) → men_of c k (position_of b).men + captured b.terms.variant b.all b.number c k ≡ one_set k

-- in crazyhouse the men of a kind, of both colours, on the board and in both hands are those of two
abbrev pub HasTwoSets : Board → Type 0
HasTwoSets b =
    (k : Kind) → men_of White k (position_of b).men + men_of Black k (position_of b).men
    + (count_in (position_of b).white k + count_in (position_of b).black k) ≡ 2 * one_set k

-- of a pair the men of a colour and kind on both boards, and in the two hands of that colour, are those of two
abbrev pub HaveTwoSets : Position → Position → Type 0
HaveTwoSets p q =
    (c : Colour) (k : Kind) → men_of c k p.men + men_of c k q.men
    + (count_in (hand_of_side p c) k + count_in (hand_of_side q c) k) ≡ 2 * one_set k

-- the boards are two, and a pair
abbrev pub ArePair : List Board → Type 0
ArePair (b ∷ c ∷ []) = HaveTwoSets (position_of b) (position_of c)
ArePair _ = ⊥

-- the men on the boards of a game of that variant are whole
abbrev pub AreWhole : Variant → List Board → Type 0
AreWhole Chess boards = All HasOneSet boards
AreWhole Crazyhouse boards = All HasTwoSets boards
AreWhole (Fischer number) boards = All HasOneSet boards
AreWhole Bughouse boards = ArePair boards

-- and so those of the game at a desk, if there is one
abbrev pub HasWholeSets : DeskState → Type 0
HasWholeSets d = IfSome d.game (λ (g : GameState). AreWhole g.terms.variant g.boards)

-- a holdings line of the board has a letter for each man in hand
abbrev pub HasPrintedHands : Board → Type 0
HasPrintedHands b = (c : Colour) (k : Kind) → count_in (hand_of_side (position_of b) c) k ≤ most_of_a_kind

-- each board at a desk has what is said of it
abbrev pub AllAt : (Board → Type 0) → DeskState → Type 0
AllAt P d = All P (boards_at d)
