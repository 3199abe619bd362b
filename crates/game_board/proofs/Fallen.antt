-- A clock that has fallen stays fallen.
use Rattle.std.proofs.Common.{◌≡◌, ◌≢◌, ℕ, ◌-◌, ◌≤◌, ℤ, Bool, true, false, not, ◌&&◌, if◌then◌else◌, pos, Option, None, Some, Ok, Err, refl, arith}
use Rattle.std.specs.Prelude.{int_lt}
use Rattle.std.proofs.lemmas.Int.{ints}
use Rattle.chess_model.specs.declared.man.Colour.{Colour}
use Rattle.chess_model.specs.Holdings.{same_colour}
use Rattle.chess_model.specs.Placement.{opposite}
use Rattle.fics_words.specs.declared.refusal.Refusal.TheVariants.{NotFallen}
use Rattle.game_board.specs.Acked.{acknowledged}
use Rattle.game_board.specs.Board.{Board, has_moved, to_move}
use Rattle.game_board.specs.Charges.{is_timed, remaining_of}
use Rattle.game_board.specs.Flag.{StaysFallen, cannot_win, flag_answer, has_fallen, running}

-- the running time grows, and does so only while it runs
longer_by : (runs : Bool) (moment later begin : ℕ) → moment ≤ later
    → (if runs then moment - begin else 0) ≤ (if runs then later - begin else 0)
longer_by true moment later begin h = omega (arith, h)
longer_by false moment later begin h = omega arith

longer : (b : Board) (c : Colour) (moment later : ℕ) → moment ≤ later → running b c moment ≤ running b c later
longer b c moment later h = longer_by (same_colour c (to_move b) && has_moved c b.list) moment later b.begin h

-- what is used up stays so
used_up : (less more : ℕ) (rest : ℤ) → less ≤ more → not (int_lt (pos less) rest) ≡ true
    → not (int_lt (pos more) rest) ≡ true
used_up less more rest h e = grind (arith, ints)

fallen_by : (timed : Bool) (less more : ℕ) (rest : ℤ) → less ≤ more → (timed && not (int_lt (pos less) rest)) ≡ true
    → (timed && not (int_lt (pos more) rest)) ≡ true
fallen_by true less more rest h e = used_up less more rest h e
fallen_by false less more rest h e = e

fallen_later : (b : Board) (c : Colour) (moment later : ℕ) → moment ≤ later → has_fallen b c moment ≡ true
    → has_fallen b c later ≡ true
fallen_later b c moment later h e =
    fallen_by (is_timed b.terms) (running b c moment) (running b c later) (remaining_of b c) (longer b c moment later h)
    e

-- a flag is called in vain exactly where the clock hasn't fallen
refused_by_clock : {X : Type 0} (fallen : Bool) (won : X) → ((if fallen then Ok won else Err NotFallen) ≢ Err NotFallen)
    → fallen ≡ true
refused_by_clock true won h = refl
refused_by_clock false won h = absurd (h refl)

called_by_clock : {X : Type 0} (fallen : Bool) (won : X) → fallen ≡ true
    → (if fallen then Ok won else Err NotFallen) ≢ Err NotFallen
called_by_clock true won e bad = cc
called_by_clock false won e bad = cc

called_later : (b : Board) (c : Colour) (moment later : ℕ) → moment ≤ later
    → flag_answer b (opposite c) moment ≢ Err NotFallen
    → flag_answer b (opposite c) later ≢ Err NotFallen
unfolding flag_answer
called_later b c moment later h called =
    let caller : Colour = opposite c in
    called_by_clock (has_fallen b (opposite caller) later) (if cannot_win b caller later then None else Some caller)
    (fallen_later b (opposite caller) moment later h
    (refused_by_clock (has_fallen b (opposite caller) moment) (if cannot_win b caller moment then None else Some caller)
    called))

pub stays_fallen : (b : Board) (c : Colour) → StaysFallen b c
stays_fallen b c = record { fallen = fallen_later b c; called = called_later b c }

-- an acknowledgement is no time
acked_by : (own : Bool) (b : Board) (stamp : Option ℕ) (c : Colour) (moment : ℕ)
    → has_fallen (if own then record b { kept = stamp } else b) c moment ≡ has_fallen b c moment
acked_by true b stamp c moment = refl
acked_by false b stamp c moment = refl

pub same_acked : (b : Board) (c by : Colour) (stamp moment : ℕ)
    → has_fallen (acknowledged b by stamp) c moment ≡ has_fallen b c moment
same_acked b c by stamp moment = acked_by (same_colour by (to_move b)) b (Some stamp) c moment
