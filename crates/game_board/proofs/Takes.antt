-- What a board's test of a half-move says where it passes.
use Rattle.std.proofs.Common.{◌≡◌, ◌<◌, ◌&&◌, not, Bool, true, false, refl}
use Rattle.std.specs.Prelude.{IsTrue, is_some, nat_lt}
use Rattle.std.specs.Bool.{beq}
use Rattle.std.proofs.lemmas.Bool.Decides.{Decides-ltb}
use Rattle.chess_model.specs.Allowed.{Allowed}
use Rattle.chess_model.specs.Result.{is_end}
use Rattle.chess_model.specs.Tests.{is_allowed}
use Rattle.chess_model.proofs.TestsDecide.{Decides-allowed}
use Rattle.variant_rules.specs.States.{state_in}
use Rattle.game_board.specs.declared.played.Played.{Played}
use Rattle.game_board.specs.Board.{Board, position_of}
use Rattle.game_board.specs.Put.{next_is_charged, takes_played}

-- a test of four parts passes where each part does
pub four_parts : (a b c d : Bool) → (a && b && c && d) ≡ true → (a ≡ true) × (b ≡ true) × (c ≡ true) × (d ≡ true)
four_parts true true true true e = (refl, refl, refl, refl)
four_parts true true true false e = cc
four_parts true true false d e = cc
four_parts true false c d e = cc
four_parts false b c d e = cc

-- the parts of the test
pub record IsTaken (b : Board) (p : Played) : Type 0 where
  pub going : not (is_end (state_in (position_of b))) ≡ true
  pub room : b.played < 1200
  pub allowed : Allowed (position_of b) p.what
  pub charge : beq (is_some p.charge) (next_is_charged b) ≡ true

pub takes_played-parts : (b : Board) (p : Played) → IsTrue (takes_played b p) → IsTaken b p
unfolding takes_played
takes_played-parts b p takes =
    let t =
    four_parts (not (is_end (state_in (position_of b)))) (nat_lt b.played 1200) (is_allowed (position_of b) p.what)
    (beq (is_some p.charge) (next_is_charged b)) takes in
    record {
      going = t.0;
      room = (Decides-ltb b.played 1200).0 t.1;
      allowed = (Decides-allowed (position_of b) p.what).0 t.2;
      charge = t.3;
    }
