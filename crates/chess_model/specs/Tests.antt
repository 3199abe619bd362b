-- The rules as tests that compute: the relations of `Reach`, `Attacked` and `Allowed` once more, by lists of squares.
-- `TestsSayTheRules` of `Laws` says that each test and its relation say the same.
use Rattle.std.specs.Prelude.{ℕ, ◌+◌, ◌-◌, Bool, true, false, ◌&&◌, ◌||◌, not, nat_eq, nat_lt, is_none, List, map, Option, Some, None}
use Rattle.std.specs.List.{list_all, list_any, filter, range_with_len}
use Rattle.chess_model.specs.declared.man.Colour.{Colour}
use Rattle.chess_model.specs.declared.man.Colour.TheVariants.{White, Black}
use Rattle.chess_model.specs.declared.man.Kind.{Kind}
use Rattle.chess_model.specs.declared.man.Kind.TheVariants.{Pawn, Knight, Bishop, Rook, Queen, King}
use Rattle.chess_model.specs.declared.man.Man.{Man}
use Rattle.chess_model.specs.declared.moves.Move.{Move}
use Rattle.chess_model.specs.declared.moves.Move.TheVariants.{Plain, Castle, Drop}
use Rattle.chess_model.specs.declared.variant.Variant.{Variant}
use Rattle.chess_model.specs.declared.variant.Variant.TheVariants.{Chess, Crazyhouse, Bughouse, Fischer}
use Rattle.chess_model.specs.Squares.{rank_of, files_apart, ranks_apart, distance, along}
use Rattle.chess_model.specs.Men.{same_colour, is_held_by, is_held_as}
use Rattle.chess_model.specs.Placement.{Placement, man_at, opposite, second_rank, last_rank, king_home, rook_home, king_end, rook_end}
use Rattle.chess_model.specs.MoveList.{place_after}
use Rattle.chess_model.specs.Holdings.{count_in}
use Rattle.chess_model.specs.Position.{Position, hand_of_side}
use Rattle.chess_model.specs.Allowed.{right_of}

-- the squares of the board, from a1 to h8
abbrev pub squares : List ℕ
squares = range_with_len 0 64

-- the squares between a and b
abbrev pub between : ℕ → ℕ → List ℕ
between a b = map (along a b) (range_with_len 1 (distance a b - 1))

-- the squares from a to b, both included
abbrev pub way : ℕ → ℕ → List ℕ
way a b = map (along a b) (range_with_len 0 (distance a b + 1))

abbrev pub is_forward : Colour → ℕ → ℕ → ℕ → Bool
is_forward White n a b = nat_eq (rank_of b) (rank_of a + n)
is_forward Black n a b = nat_eq (rank_of a) (rank_of b + n)

abbrev pub is_straight : ℕ → ℕ → Bool
is_straight a b = not (nat_eq a b) && (nat_eq (files_apart a b) 0 || nat_eq (ranks_apart a b) 0)

abbrev pub is_diagonal : ℕ → ℕ → Bool
is_diagonal a b = not (nat_eq a b) && nat_eq (files_apart a b) (ranks_apart a b)

abbrev pub is_knight_step : ℕ → ℕ → Bool
is_knight_step a b =
    nat_eq (files_apart a b) 1 && nat_eq (ranks_apart a b) 2 || nat_eq (files_apart a b) 2 && nat_eq (ranks_apart a b) 1

-- whether b lies where a man of that colour and kind on a strikes on an empty board
abbrev pub is_step : Colour → Kind → ℕ → ℕ → Bool
is_step c Pawn a b = nat_eq (files_apart a b) 1 && is_forward c 1 a b
is_step c Knight a b = is_knight_step a b
is_step c Bishop a b = is_diagonal a b
is_step c Rook a b = is_straight a b
is_step c Queen a b = is_straight a b || is_diagonal a b
is_step c King a b = nat_eq (distance a b) 1

-- whether the squares between a and b are empty
abbrev pub is_clear : Placement → ℕ → ℕ → Bool
is_clear P a b = list_all (λ s. is_none (man_at P s)) (between a b)

-- whether no man stands in the way; nothing is in a knight's way
abbrev pub is_open : Kind → Placement → ℕ → ℕ → Bool
is_open Knight P a b = true
is_open Pawn P a b = is_clear P a b
is_open Bishop P a b = is_clear P a b
is_open Rook P a b = is_clear P a b
is_open Queen P a b = is_clear P a b
is_open King P a b = is_clear P a b

-- whether a man of that colour and kind on a strikes b
abbrev pub strikes : Placement → Colour → Kind → ℕ → ℕ → Bool
strikes P c k a b = is_step c k a b && is_open k P a b

-- whether the man on a is of that colour and strikes s
abbrev pub strikes_as : Placement → Colour → ℕ → ℕ → Option Man → Bool
strikes_as P c a s None = false
strikes_as P c a s (Some m) = same_colour m.colour c && strikes P c m.kind a s

-- whether some man of that colour strikes s
unfoldable pub is_attacked : Placement → Colour → ℕ → Bool
is_attacked P c s = list_any (λ a. strikes_as P c a s (man_at P a)) squares

-- the squares on which a king of that colour stands
abbrev pub kings : Placement → Colour → List ℕ
kings P c = filter (λ s. is_held_as c King (man_at P s)) squares

-- whether no king of that colour stands on an attacked square
unfoldable pub is_king_safe : Placement → Colour → Bool
is_king_safe P c = list_all (λ s. not (is_attacked P (opposite c) s)) (kings P c)

-- whether a square is the one that is given, if one is given
abbrev pub is_that : Option ℕ → ℕ → Bool
is_that None s = false
is_that (Some t) s = nat_eq t s

abbrev pub is_ahead : Colour → ℕ → ℕ → Bool
is_ahead c a b = is_forward c 1 a b || is_forward c 2 a b && nat_eq (rank_of a) (second_rank c)

-- whether a pawn goes forward from a to b
abbrev pub advances : Placement → Colour → ℕ → ℕ → Bool
advances P c a b = nat_eq (files_apart a b) 0 && is_ahead c a b && is_clear P a b && is_none (man_at P b)

-- whether a pawn on a takes on b
abbrev pub pawn_takes : Placement → Option ℕ → Colour → ℕ → ℕ → Bool
pawn_takes P en_passant c a b = is_step c Pawn a b && (is_held_by (opposite c) (man_at P b) || is_that en_passant b)

-- whether any other man goes from a to b
abbrev pub goes : Placement → Colour → Kind → ℕ → ℕ → Bool
goes P c k a b = strikes P c k a b && not (is_held_by c (man_at P b))

-- whether a man of that colour and kind on a reaches b
abbrev pub reaches : Placement → Option ℕ → Colour → Kind → ℕ → ℕ → Bool
reaches P en_passant c Pawn a b = advances P c a b || pawn_takes P en_passant c a b
reaches P en_passant c Knight a b = goes P c Knight a b
reaches P en_passant c Bishop a b = goes P c Bishop a b
reaches P en_passant c Rook a b = goes P c Rook a b
reaches P en_passant c Queen a b = goes P c Queen a b
reaches P en_passant c King a b = goes P c King a b

-- whether a pawn may become that
abbrev pub may_become : Option Kind → Bool
may_become None = false
may_become (Some Pawn) = false
may_become (Some Knight) = true
may_become (Some Bishop) = true
may_become (Some Rook) = true
may_become (Some Queen) = true
may_become (Some King) = false

-- whether a man of that kind that reaches b carries the promotion that the move names
abbrev pub has_promotion : Colour → Kind → ℕ → Option Kind → Bool
has_promotion c Pawn b promo =
    nat_eq (rank_of b) (last_rank c) && may_become promo || not (nat_eq (rank_of b) (last_rank c)) && is_none promo
has_promotion c Knight b promo = is_none promo
has_promotion c Bishop b promo = is_none promo
has_promotion c Rook b promo = is_none promo
has_promotion c Queen b promo = is_none promo
has_promotion c King b promo = is_none promo

-- whether the man on a is an own one that reaches b with that promotion
abbrev pub goes_as : Position → ℕ → ℕ → Option Kind → Option Man → Bool
goes_as p a b promo None = false
goes_as p a b promo (Some m) =
    same_colour m.colour p.to_move && has_promotion p.to_move m.kind b promo &&
    reaches p.men p.en_passant p.to_move m.kind a b

-- whether a plain move is allowed, the safety of the king aside
abbrev pub is_plain_move : Position → ℕ → ℕ → Option Kind → Bool
is_plain_move p a b promo = nat_lt a 64 && nat_lt b 64 && goes_as p a b promo (man_at p.men a)

-- whether each square from a to b is empty, or the home of the king or of the rook that castle
abbrev pub is_free_way : Placement → ℕ → ℕ → ℕ → ℕ → Bool
is_free_way P king rook a b = list_all (λ s. nat_eq s king || (nat_eq s rook || is_none (man_at P s))) (way a b)

-- whether no square from a to b is attacked by that colour
abbrev pub is_unattacked_way : Placement → Colour → ℕ → ℕ → Bool
is_unattacked_way P by a b = list_all (λ s. not (is_attacked P by s)) (way a b)

-- castling between these homes and ends, the safety of the king after it aside
abbrev pub can_castle_between : Placement → Colour → ℕ → ℕ → ℕ → ℕ → Bool
can_castle_between P by king rook king_goal rook_goal =
    is_free_way P king rook king king_goal && is_free_way P king rook rook rook_goal
    && is_unattacked_way P by king king_goal

-- whether castling is allowed, the safety of the king after it aside
abbrev pub can_castle : Position → Bool → Bool
can_castle p long =
    right_of p.rights p.to_move long &&
    can_castle_between p.men (opposite p.to_move) (king_home p.variant p.to_move) (rook_home p.variant p.to_move long)
    (king_end p.to_move long) (rook_end p.to_move long)

-- whether men in hand may be dropped
abbrev pub has_drops : Variant → Bool
has_drops Chess = false
has_drops Crazyhouse = true
has_drops Bughouse = true
has_drops (Fischer number) = false

-- whether a man of that kind may be dropped on the rank of that square
abbrev pub may_drop_on : Kind → ℕ → Bool
may_drop_on Pawn to = nat_lt 0 (rank_of to) && nat_lt (rank_of to) 7
may_drop_on Knight to = true
may_drop_on Bishop to = true
may_drop_on Rook to = true
may_drop_on Queen to = true
may_drop_on King to = true

-- whether a drop is allowed, the safety of the king aside
abbrev pub can_drop : Position → Kind → ℕ → Bool
can_drop p k to =
    has_drops p.variant && nat_lt 0 (count_in (hand_of_side p p.to_move) k) && nat_lt to 64 &&
    is_none (man_at p.men to) && may_drop_on k to

-- whether a half-move meets all but the safety of the own king after it
unfoldable pub is_move : Position → Move → Bool
is_move p (Plain a b promo) = is_plain_move p a b promo
is_move p (Castle long) = can_castle p long
is_move p (Drop k to) = can_drop p k to

-- whether the own king isn't attacked after the half-move
unfoldable pub is_safe_after : Position → Move → Bool
is_safe_after p m = is_king_safe (place_after p.variant p.men p.to_move m) p.to_move

-- whether the half-move is allowed
unfoldable pub is_allowed : Position → Move → Bool
is_allowed p m = is_move p m && is_safe_after p m
