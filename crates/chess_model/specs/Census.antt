-- How many men there are, on a board and in the hands.
use Rattle.std.specs.Prelude.{◌≡◌, ℕ, ◌+◌, ◌*◌, Bool, ◌&&◌, is_some, List, count_by, Option}
use Rattle.chess_model.specs.declared.man.Colour.{Colour}
use Rattle.chess_model.specs.declared.man.Colour.TheVariants.{White, Black}
use Rattle.chess_model.specs.declared.man.Kind.{Kind}
use Rattle.chess_model.specs.declared.man.Kind.TheVariants.{Pawn, Knight, Bishop, Rook, Queen, King}
use Rattle.chess_model.specs.declared.man.Man.{Man}
use Rattle.chess_model.specs.declared.variant.Variant.{Variant}
use Rattle.chess_model.specs.declared.variant.Variant.TheVariants.{Crazyhouse, Bughouse}
use Rattle.chess_model.specs.declared.hand.Hand.{Hand}
use Rattle.chess_model.specs.Placement.{Placement}
use Rattle.chess_model.specs.Men.{is_held_by}
use Rattle.chess_model.specs.MoveList.{HalfMove, history}
use Rattle.chess_model.specs.Holdings.{hands_over, loses, count_in, hand_after}
use Rattle.chess_model.specs.Position.{Position, position_after}
use Rattle.chess_model.specs.Allowed.{HasDrops, IsLegal}

-- the men on a board
abbrev pub men_on : Placement → ℕ
men_on P = count_by is_some P

-- the men in a hand
abbrev pub men_in : Hand → ℕ
men_in h = h.pawns + h.knights + h.bishops + h.rooks + h.queens

-- the men on a board and in its two hands
abbrev pub all_men : Position → ℕ
all_men p = men_on p.men + (men_in p.white + men_in p.black)

-- whether a man of that colour stands there that counts as that kind: a promoted man counts as a pawn
abbrev pub counts_as : Colour → Kind → Option Man → Bool
counts_as c k man = is_held_by c man && hands_over k man

-- how many men of a colour and kind stand on a board
abbrev pub men_of : Colour → Kind → Placement → ℕ
men_of c k P = count_by (counts_as c k) P

-- how many men of a kind each colour has in one set (FIDE Laws 2.2)
abbrev pub one_set : Kind → ℕ
one_set Pawn = 8
one_set Knight = 2
one_set Bishop = 2
one_set Rook = 2
one_set Queen = 1
one_set King = 1

-- how many men of a colour and kind have been captured on a board
abbrev pub captured : Variant → List HalfMove → ℕ → Colour → Kind → ℕ
captured v T b c k = count_by (loses c k) (history v T b)

-- in chess and in Fischer random: the men of a colour and kind on the board, and those captured
abbrev pub chess_census : Variant → List HalfMove → ℕ → Colour → Kind → ℕ
chess_census v T b c k = men_of c k (position_after v T b).men + captured v T b c k

-- in crazyhouse: the men of a kind, of both colours, on the board and in both hands
abbrev pub crazyhouse_census : List HalfMove → ℕ → Kind → ℕ
crazyhouse_census T b k =
    men_of White k (position_after Crazyhouse T b).men + men_of Black k (position_after Crazyhouse T b).men +
    (count_in (hand_after Crazyhouse T b White) k + count_in (hand_after Crazyhouse T b Black) k)

-- of a pair: the men of a colour and kind on both boards, and in the two hands of that colour
abbrev pub pair_census : List HalfMove → Colour → Kind → ℕ
pair_census T c k =
    men_of c k (position_after Bughouse T 1).men + men_of c k (position_after Bughouse T 2).men +
    (count_in (hand_after Bughouse T 1 c) k + count_in (hand_after Bughouse T 2 c) k)

-- no legal list of half-moves makes or loses a man
pub record CensusStays : Type 0 where
  -- in chess and in Fischer random, where nothing is dropped
  pub chess : (v : Variant) (T : List HalfMove) (b : ℕ) (c : Colour) (k : Kind) → ¬ HasDrops v → IsLegal v T →
      chess_census v T b c k ≡ one_set k
  pub crazyhouse : (T : List HalfMove) (b : ℕ) (k : Kind) → IsLegal Crazyhouse T → crazyhouse_census T b k
      ≡ 2 * one_set k
  pub pair : (T : List HalfMove) (c : Colour) (k : Kind) → IsLegal Bughouse T → pair_census T c k ≡ 2 * one_set k
