-- The men in hand in crazyhouse and bughouse (FICS help pages `crazyhouse` and `bughouse`).
use Rattle.std.specs.Prelude.{ℕ, ◌-◌, Bool, false, ◌&&◌, List, count_by, if◌then◌else◌, Option, Some, None}
use Rattle.chess_model.specs.declared.man.Colour.{Colour}
use Rattle.chess_model.specs.declared.man.Kind.{Kind}
use Rattle.chess_model.specs.declared.man.Kind.TheVariants.{Pawn, Knight, Bishop, Rook, Queen, King}
use Rattle.chess_model.specs.declared.man.Man.{Man}
use Rattle.chess_model.specs.declared.moves.Move.{Move}
use Rattle.chess_model.specs.declared.moves.Move.TheVariants.{Plain, Castle, Drop}
use Rattle.chess_model.specs.declared.variant.Variant.{Variant}
use Rattle.chess_model.specs.declared.variant.Variant.TheVariants.{Chess, Crazyhouse, Bughouse, Fischer}
use Rattle.chess_model.specs.declared.hand.Hand.{Hand}
pub use Rattle.chess_model.specs.Men.{same_colour, same_kind, is_held_by}
use Rattle.chess_model.specs.MoveList.{HalfMove, Ply, taken, history}

-- the kind as which a captured man is handed over: a promoted one is a pawn again
abbrev pub handed_kind : Man → Kind
handed_kind m = if m.promoted then Pawn else m.kind

-- whether there is a captured man that is handed over as that kind
abbrev pub hands_over : Kind → Option Man → Bool
hands_over k None = false
hands_over k (Some m) = same_kind (handed_kind m) k

-- whether a half-move of the colour c captures a man that is handed over as k
abbrev pub captures : Colour → Kind → Ply → Bool
captures c k h = same_colour h.by c && hands_over k (taken h.before h.what)

-- whether a half-move captures a man of the colour c that is handed over as k
abbrev pub loses : Colour → Kind → Ply → Bool
loses c k h = is_held_by c (taken h.before h.what) && hands_over k (taken h.before h.what)

-- whether a move drops a man of the kind k
abbrev pub is_drop_of : Kind → Move → Bool
is_drop_of k (Plain a b promo) = false
is_drop_of k (Castle long) = false
is_drop_of k (Drop kind to) = same_kind kind k

-- whether a half-move of the colour c drops a man of the kind k
abbrev pub drops : Colour → Kind → Ply → Bool
drops c k h = same_colour h.by c && is_drop_of k h.what

-- the other board of a pair
abbrev pub other_board : ℕ → ℕ
other_board b = 3 - b

-- how many men of a kind have come into the hand of a colour on board b: in crazyhouse those that it captured,
-- in bughouse the men of its own colour that were captured on the other board
abbrev pub gained : Variant → List HalfMove → ℕ → Colour → Kind → ℕ
gained Chess T b c k = 0
gained (Fischer number) T b c k = 0
gained Crazyhouse T b c k = count_by (captures c k) (history Crazyhouse T b)
gained Bughouse T b c k = count_by (loses c k) (history Bughouse T (other_board b))

-- how many men of a kind a colour has dropped on board b
abbrev pub spent : Variant → List HalfMove → ℕ → Colour → Kind → ℕ
spent v T b c k = count_by (drops c k) (history v T b)

-- how many men of a kind a hand has
abbrev pub count_in : Hand → Kind → ℕ
count_in h Pawn = h.pawns
count_in h Knight = h.knights
count_in h Bishop = h.bishops
count_in h Rook = h.rooks
count_in h Queen = h.queens
count_in h King = 0

-- the hand with these counts
abbrev pub hand_of : (Kind → ℕ) → Hand
hand_of f = record { pawns = f Pawn; knights = f Knight; bishops = f Bishop; rooks = f Rook; queens = f Queen }

-- the hand of a colour on board b: what has come into it less what was dropped
abbrev pub hand_after : Variant → List HalfMove → ℕ → Colour → Hand
hand_after v T b c = hand_of (λ k. gained v T b c k - spent v T b c k)
