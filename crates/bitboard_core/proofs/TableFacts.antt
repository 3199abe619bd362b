-- The printed tables are the tables of their tests.
use Rattle.std.proofs.Common.{◌≡◌, refl}
use Rattle.bitboard_core.specs.declared.tables.TheConstants.{NORTH, EAST, SOUTH, WEST, NORTH_EAST, NORTH_WEST, SOUTH_EAST, SOUTH_WEST, KNIGHT, KING, WHITE_STRIKES, BLACK_STRIKES, WHITE_AHEAD, BLACK_AHEAD}
use Rattle.bitboard_core.specs.Sets.{set_below, set_of, table_of}
use Rattle.bitboard_core.specs.Rays.{Rises, Stays, Falls, is_on, is_knight_step, is_king_step, is_pawn_strike, is_pawn_push}

pub north_is : NORTH ≡ table_of (is_on Stays Rises)
unfolding table_of set_of set_below is_on
north_is = refl

pub east_is : EAST ≡ table_of (is_on Rises Stays)
unfolding table_of set_of set_below is_on
east_is = refl

pub south_is : SOUTH ≡ table_of (is_on Stays Falls)
unfolding table_of set_of set_below is_on
south_is = refl

pub west_is : WEST ≡ table_of (is_on Falls Stays)
unfolding table_of set_of set_below is_on
west_is = refl

pub north_east_is : NORTH_EAST ≡ table_of (is_on Rises Rises)
unfolding table_of set_of set_below is_on
north_east_is = refl

pub north_west_is : NORTH_WEST ≡ table_of (is_on Falls Rises)
unfolding table_of set_of set_below is_on
north_west_is = refl

pub south_east_is : SOUTH_EAST ≡ table_of (is_on Rises Falls)
unfolding table_of set_of set_below is_on
south_east_is = refl

pub south_west_is : SOUTH_WEST ≡ table_of (is_on Falls Falls)
unfolding table_of set_of set_below is_on
south_west_is = refl

pub knight_is : KNIGHT ≡ table_of is_knight_step
unfolding table_of set_of set_below is_knight_step
knight_is = refl

pub king_is : KING ≡ table_of is_king_step
unfolding table_of set_of set_below is_king_step
king_is = refl

pub white_strikes_is : WHITE_STRIKES ≡ table_of (is_pawn_strike Rises)
unfolding table_of set_of set_below is_pawn_strike
white_strikes_is = refl

pub black_strikes_is : BLACK_STRIKES ≡ table_of (is_pawn_strike Falls)
unfolding table_of set_of set_below is_pawn_strike
black_strikes_is = refl

pub white_ahead_is : WHITE_AHEAD ≡ table_of (is_pawn_push Rises 1)
unfolding table_of set_of set_below is_pawn_push
white_ahead_is = refl

pub black_ahead_is : BLACK_AHEAD ≡ table_of (is_pawn_push Falls 6)
unfolding table_of set_of set_below is_pawn_push
black_ahead_is = refl
