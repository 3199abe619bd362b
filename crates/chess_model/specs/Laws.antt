-- What the definitions mean square by square and half-move by half-move, in the words of the game.
use Rattle.std.specs.Prelude.{◌≡◌, ◌≢◌, ℕ, ◌+◌, ◌≤◌, ◌<◌, ◌⊎◌, ◌↔◌, ◌++◌, ◌∷◌, [], List, Bool, true, IsTrue, IsSome, length, map, Option, Some, None, ⊤}
use Rattle.std.specs.List.{Contains, AllPairs, range_with_len}
use Rattle.chess_model.specs.declared.man.Colour.{Colour}
use Rattle.chess_model.specs.declared.man.Kind.{Kind}
use Rattle.chess_model.specs.declared.moves.Move.{Move}
use Rattle.chess_model.specs.declared.moves.Move.TheVariants.{Plain, Castle, Drop}
use Rattle.chess_model.specs.declared.moves.MoveWord.{MoveWord}
use Rattle.chess_model.specs.declared.variant.Variant.{Variant}
use Rattle.chess_model.specs.Placement.{Placement, man_at, opposite, unpromoted, king_home, rook_home, king_end, rook_end}
use Rattle.chess_model.specs.Reach.{Strikes}
use Rattle.chess_model.specs.Attacked.{IsAttacked, IsKingSafe}
use Rattle.chess_model.specs.MoveList.{HalfMove, Ply, is_pawn, place_after, taken, taking_square, landed, history}
use Rattle.chess_model.specs.RightsAndCounts.{right_stands, quiet_count}
use Rattle.chess_model.specs.Census.{all_men}
use Rattle.chess_model.specs.Position.{Position, position_after, Stands}
use Rattle.chess_model.specs.Allowed.{IsMove, IsSafeAfter, Allowed, IsLegal}
use Rattle.chess_model.specs.Tests.{is_attacked, is_king_safe, is_move, is_safe_after, is_allowed}
use Rattle.chess_model.specs.AllMoves.{board_moves, drop_moves, allowed_moves, move_place}
use Rattle.chess_model.specs.Result.{result, IsState}
use Rattle.chess_model.specs.WordAnswer.{word_answer, IsWordAnswer}

-- after a plain move the target holds the man that moved or what it became, the origin and the square of a man
-- taken en passant are empty, and every other square is as before
pub record MovesOneMan (P : Placement) (a b : ℕ) (promo : Option Kind) (Q : Placement) : Type 0 where
  pub target : man_at Q b ≡ landed (man_at P a) promo
  pub origin : man_at Q a ≡ None
  pub taken : taking_square P a b ≢ b → man_at Q (taking_square P a b) ≡ None
  pub others : (s : ℕ) → s ≢ a → s ≢ b → s ≢ taking_square P a b → man_at Q s ≡ man_at P s

-- after castling the king and the rook stand on their end squares, their homes are empty, and every other square is as
-- before
pub record MovesKingAndRook (v : Variant) (P : Placement) (c : Colour) (long : Bool) (Q : Placement) : Type 0 where
  pub king : man_at Q (king_end c long) ≡ man_at P (king_home v c)
  pub rook : man_at Q (rook_end c long) ≡ man_at P (rook_home v c long)
  pub king_left : king_home v c ≢ king_end c long → king_home v c ≢ rook_end c long → man_at Q (king_home v c) ≡ None
  pub rook_left : rook_home v c long ≢ king_end c long → rook_home v c long ≢ rook_end c long
      → man_at Q (rook_home v c long) ≡ None
  pub others : (s : ℕ) → s ≢ king_home v c → s ≢ rook_home v c long → s ≢ king_end c long → s ≢ rook_end c long →
      man_at Q s ≡ man_at P s

-- after a drop the square holds the man, which isn't promoted, and every other square is as before
pub record PutsOneMan (P : Placement) (c : Colour) (k : Kind) (to : ℕ) (Q : Placement) : Type 0 where
  pub target : man_at Q to ≡ unpromoted c k
  pub others : (s : ℕ) → s ≢ to → man_at Q s ≡ man_at P s

-- what an allowed half-move does to each square
abbrev pub ChangesSquares : Position → Move → Type 0
ChangesSquares p (Plain a b promo) =
    MovesOneMan p.men a b promo (place_after p.variant p.men p.to_move (Plain a b promo))
ChangesSquares p (Castle long) =
    MovesKingAndRook p.variant p.men p.to_move long (place_after p.variant p.men p.to_move (Castle long))
ChangesSquares p (Drop k to) = PutsOneMan p.men p.to_move k to (place_after p.variant p.men p.to_move (Drop k to))

-- a man of the other colour on s would strike along its lines a man of the colour c and of its own kind
pub record MeetsOwnKind (P : Placement) (c : Colour) (s : ℕ) : Type 0 where
  pub kind : Kind
  pub mark : Bool
  pub from : ℕ
  pub on_board : from < 64
  pub man : man_at P from ≡ Some (record { colour = c; kind = kind; promoted = mark })
  pub line : Strikes P (opposite c) kind s from

-- a square is attacked exactly where some kind of man, put on it with the other colour, would strike an attacking
-- man of that kind
abbrev pub AttackGoesBothWays : Type 0
AttackGoesBothWays = (P : Placement) (c : Colour) (s : ℕ) → IsAttacked P c s ↔ MeetsOwnKind P c s

-- what an allowed half-move does to each square
abbrev pub EachSquareIsKnown : Type 0
EachSquareIsKnown = (p : Position) (m : Move) → length p.men ≡ 64 → Allowed p m → ChangesSquares p m

-- a right that stands after a list of half-moves stood after each prefix of it
abbrev pub RightsNeverComeBack : Type 0
RightsNeverComeBack = (v : Variant) (T more : List HalfMove) (b : ℕ) (c : Colour) (long : Bool) →
    right_stands v (history v (T ++ more) b) c long ≡ true → right_stands v (history v T b) c long ≡ true

-- a pawn's move, a capture or a drop
abbrev pub IsIrreversible : Placement → Move → Type 0
IsIrreversible P (Plain a b promo) = IsTrue (is_pawn (man_at P a)) ⊎ IsSome (taken P (Plain a b promo))
IsIrreversible P (Castle long) = ⊥
IsIrreversible P (Drop k to) = ⊤

-- the quiet count is 0 after a pawn's move, a capture or a drop, and grows by 1 after any other half-move
pub record CountsQuietMoves : Type 0 where
  pub to_zero : (H : List Ply) (x : Ply) → IsIrreversible x.before x.what → quiet_count (H ++ x ∷ []) ≡ 0
  pub one_more : (H : List Ply) (x : Ply) → ¬ IsIrreversible x.before x.what →
      quiet_count (H ++ x ∷ []) ≡ quiet_count H + 1

-- an allowed half-move leaves no more men on the board and in its two hands than there were
abbrev pub NoMenAreMade : Type 0
NoMenAreMade = (p : Position) (T : List HalfMove) (b : ℕ) (m : Move) → Stands p T b → Allowed p m →
    all_men (position_after p.variant (T ++ record { board = b; what = m } ∷ []) b) ≤ all_men p

-- the empty list of half-moves is legal; a legal list stays so with an allowed half-move at its end and without its
-- last one, and that one was allowed
pub record LegalListsGrow : Type 0 where
  pub none : (v : Variant) → IsLegal v []
  pub grows : (v : Variant) (T : List HalfMove) (h : HalfMove) → IsLegal v T
      → Allowed (position_after v T h.board) h.what →
      IsLegal v (T ++ h ∷ [])
  pub shrinks : (v : Variant) (T : List HalfMove) (h : HalfMove) → IsLegal v (T ++ h ∷ []) → IsLegal v T
  pub last : (v : Variant) (T : List HalfMove) (h : HalfMove) → IsLegal v (T ++ h ∷ [])
      → Allowed (position_after v T h.board) h.what

-- each test of `Tests` says what its relation says
pub record TestsSayTheRules : Type 0 where
  pub attacked : (P : Placement) (c : Colour) (s : ℕ) → IsTrue (is_attacked P c s) ↔ IsAttacked P c s
  pub king_safe : (P : Placement) (c : Colour) → IsTrue (is_king_safe P c) ↔ IsKingSafe P c
  pub move : (p : Position) (m : Move) → IsTrue (is_move p m) ↔ IsMove p m
  pub safe_after : (p : Position) (m : Move) → IsTrue (is_safe_after p m) ↔ IsSafeAfter p m
  pub allowed : (p : Position) (m : Move) → IsTrue (is_allowed p m) ↔ Allowed p m

-- the answer to a word that computes is the one allowed match, or else the first refusal that applies
abbrev pub WordsAreAnswered : Type 0
WordsAreAnswered = (p : Position) (w : MoveWord) → IsWordAnswer p w (word_answer p w)

-- the list of allowed half-moves has exactly these, in the order of their places; the places are those of the list of
-- all half-moves that there could be
pub record MovesAreListed : Type 0 where
  pub exact : (p : Position) (m : Move) → Contains (allowed_moves p) m ↔ Allowed p m
  pub ordered : (p : Position) → AllPairs (λ x y. move_place x < move_place y) (allowed_moves p)
  pub places : map move_place (board_moves ++ drop_moves) ≡ range_with_len 0 20802

-- the state that computes is the one that the words of the rules give
abbrev pub StatesAreTold : Type 0
StatesAreTold = (p : Position) → IsState p (result p)
