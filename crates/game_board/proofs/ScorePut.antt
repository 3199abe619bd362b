-- The score of a board stays true where a half-move is put on it with the charge that it has.
use Rattle.std.proofs.Common.{◌≡◌, ℕ, ◌+◌, ◌≤◌, ◌&&◌, Bool, true, false, List, [], ◌∷◌, ◌++◌, length, refl, arith}
use Rattle.std.specs.Prelude.{◌↔◌, IsTrue, IfSome, is_some}
use Rattle.std.specs.Bool.{beq}
use Rattle.clock_ledger.specs.Charges.{IsChargeable}
use Rattle.game_board.specs.declared.played.Played.{Played}
use Rattle.game_board.specs.Board.{Board, to_move, has_moved}
use Rattle.game_board.specs.Charges.{is_timed}
use Rattle.game_board.specs.Put.{takes_played, with_put}
use Rattle.game_board.specs.Scoresheet.{IsCharged, IsTrueScore}
use Rattle.game_board.proofs.Scoresheet.{IsTrueScore-one_more, has_moved-mover}
use Rattle.game_board.proofs.Takes.{takes_played-parts}
use Rattle.std.proofs.lemmas.Option.{IfSome_then}

-- where a charge is there exactly where one belongs, it stands as charges do
stands_so : (some timed moved : Bool) (k : ℕ) → beq some (timed && moved) ≡ true → (IsTrue moved ↔ (2 ≤ k))
    → IsTrue some ↔ (IsTrue timed × (2 ≤ k))
stands_so true true true k e h = (λ s. (refl, h.0 refl), λ s. refl)
stands_so true true false k e h = absurd cc
stands_so true false moved k e h = absurd cc
stands_so false true true k e h = absurd cc
stands_so false true false k e h = (λ s. absurd cc, λ s. h.1 s.1)
stands_so false false moved k e h = (λ s. absurd cc, λ s. s.0)

-- what came with its charge is charged as it may be; nothing is said of where its moments lie
IsCharged-put : (b : Board) (p : Played) (since moments : List ℕ) → IsTrue (takes_played b p)
    → IfSome p.charge IsChargeable →
    IsCharged b.terms (length b.list + 1) since moments (length b.list) p
IsCharged-put b p since moments takes sound = record {
  stands =
      stands_so (is_some p.charge) (is_timed b.terms) (has_moved (to_move b) b.list) (length b.list)
      (takes_played-parts b p takes).charge (has_moved-mover b.list);
  ordered = IfSome_then p.charge sound (λ x h. h.ordered);
  begins = λ own. absurd (omega (arith, own));
  ends = λ own. absurd (omega (arith, own));
  stamped = IfSome_then p.charge sound (λ x h. h.stamped);
}

pub IsTrueScore-with_put : (b : Board) (p : Played) → IsTrueScore b → IsTrue (takes_played b p)
    → IfSome p.charge IsChargeable → IsTrueScore (with_put b p)
IsTrueScore-with_put b p s takes sound =
    IsTrueScore-one_more b p b.begin (length b.list + 1) s (omega arith) (takes_played-parts b p takes).allowed
    (omega (arith, s.resumed)) (omega arith)
    (IsCharged-put b p (s.since ++ b.begin ∷ []) (s.moments ++ b.begin ∷ []) takes sound)
