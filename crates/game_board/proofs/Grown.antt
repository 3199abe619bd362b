-- What a board keeps is kept by one allowed half-move more.
use Rattle.std.proofs.Common.{◌≡◌, ℕ, List, [], ◌∷◌, ◌++◌, sym, ap, ◌∙◌}
use Rattle.std.proofs.lemmas.List.{map-append}
use Rattle.chess_model.specs.declared.man.Colour.{Colour}
use Rattle.chess_model.specs.declared.man.Colour.TheVariants.{White}
use Rattle.chess_model.specs.declared.variant.Terms.{Terms}
use Rattle.clock_ledger.specs.declared.charges.Charge.{Charge}
use Rattle.clock_ledger.specs.Clock.{Ledger}
use Rattle.game_board.specs.declared.played.Played.{Played}
use Rattle.game_board.specs.Board.{half_move, half_moves, mover_after}
use Rattle.game_board.specs.Charges.{charge_to, charges_of, clock_of}
use Rattle.game_board.proofs.Charged.{charges_from-append}

pub half_moves-append : (number : ℕ) (list : List Played) (p : Played)
    → half_moves number (list ++ p ∷ []) ≡ half_moves number list ++ half_move number p ∷ []
half_moves-append number list p = map-append (half_move number) list (p ∷ [])

-- a clock with one charge more is the clock of the longer list
pub clock_of-append : (t : Terms) (c mover : Colour) (list : List Played) (p : Played) (k : Ledger)
    → k ≡ clock_of t c list → mover_after list ≡ mover →
    record k { charges = k.charges ++ charge_to c mover p.charge } ≡ clock_of t c (list ++ p ∷ [])
clock_of-append t c mover list p k same is_mover =
    ap (λ (l : Ledger). record l { charges = l.charges ++ charge_to c mover p.charge }) same
    ∙ ap (λ (cs : List Charge). record { minutes = t.minutes; increment = t.increment; charges = cs })
    (ap (λ (d : Colour). charges_of c list ++ charge_to c d p.charge) (sym is_mover)
    ∙ sym (charges_from-append c White list p))
