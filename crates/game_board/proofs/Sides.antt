-- The test of colours, and what each answer of a board means by it.
use Rattle.std.proofs.Common.{◌≡◌, ◌≢◌, ◌==◌, ◌<◌, true, false, not, [], ◌∷◌, Option, Some, None, Result, Ok, Err, refl, ap, ◌∙◌, arith}
use Rattle.std.specs.Option.{option_to_list}
use Rattle.std.proofs.lemmas.Bool.Decides.{nat_tests}
use Rattle.chess_model.specs.declared.man.Colour.{Colour}
use Rattle.chess_model.specs.declared.man.Colour.TheVariants.{White, Black}
use Rattle.chess_model.specs.declared.moves.Move.{Move}
use Rattle.chess_model.specs.declared.moves.Rejection.{Rejection}
use Rattle.chess_model.specs.Placement.{opposite}
use Rattle.chess_model.specs.Holdings.{same_colour}
use Rattle.clock_ledger.specs.declared.charges.Charge.{Charge}
use Rattle.fics_words.specs.declared.refusal.Refusal.TheVariants.{NotYourTurn, TooManyMoves}
use Rattle.game_board.specs.Board.{Board, to_move}
use Rattle.fics_words.specs.Effect.{first_cause}
use Rattle.game_board.specs.Causes.{in_words}
use Rattle.game_board.specs.Charges.{charge_to}
use Rattle.game_board.specs.Play.{move_refused}

pub same_colour-same : (a b : Colour) → b ≡ a → same_colour a b ≡ true
same_colour-same White White e = refl
same_colour-same White Black e = cc
same_colour-same Black White e = cc
same_colour-same Black Black e = refl

pub same_colour-other : (a b : Colour) → b ≢ a → same_colour a b ≡ false
same_colour-other White White ne = absurd (ne refl)
same_colour-other White Black ne = refl
same_colour-other Black White ne = refl
same_colour-other Black Black ne = absurd (ne refl)

pub charge_to-own : (c : Colour) (o : Option Charge) → charge_to c c o ≡ option_to_list o
charge_to-own White o = refl
charge_to-own Black o = refl

pub charge_to-other : (c : Colour) (o : Option Charge) → charge_to c (opposite c) o ≡ []
charge_to-other White o = refl
charge_to-other Black o = refl

pub move_refused-none : (b : Board) (c : Colour) → to_move b ≡ c → b.played < 1200 → move_refused b c ≡ None
move_refused-none b c is_mover room =
    let few : (b.played == 1200) ≡ false = grind (arith, nat_tests) in
    ap (λ t. first_cause ((not t, NotYourTurn) ∷ (b.played == 1200, TooManyMoves) ∷ []))
    (same_colour-same c (to_move b) is_mover)
    ∙ ap (λ t. first_cause ((false, NotYourTurn) ∷ (t, TooManyMoves) ∷ [])) few

pub move_refused-mover : (b : Board) (c : Colour) → to_move b ≢ c → move_refused b c ≡ Some NotYourTurn
move_refused-mover b c other =
    ap (λ t. first_cause ((not t, NotYourTurn) ∷ (b.played == 1200, TooManyMoves) ∷ []))
    (same_colour-other c (to_move b) other)

pub move_refused-full : (b : Board) (c : Colour) → to_move b ≡ c → b.played ≡ 1200
    → move_refused b c ≡ Some TooManyMoves
move_refused-full b c is_mover full =
    ap (λ t. first_cause ((not t, NotYourTurn) ∷ (b.played == 1200, TooManyMoves) ∷ []))
    (same_colour-same c (to_move b) is_mover)
    ∙ ap (λ n. first_cause ((false, NotYourTurn) ∷ (n == 1200, TooManyMoves) ∷ [])) full

pub in_words-ok : (r : Result Move Rejection) (m : Move) → in_words r ≡ Ok m → r ≡ Ok m
in_words-ok (Ok n) m e = cc
in_words-ok (Err r) m e = cc
