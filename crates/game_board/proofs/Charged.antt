-- How the charges of the two colours grow with the list, and how many there can be.
use Rattle.std.proofs.Common.{◌≡◌, ◌+◌, ◌*◌, ◌<◌, ◌≤◌, List, [], ◌∷◌, ◌++◌, map, length, Option, Some, None, refl, sym, ap, ◌∙◌, append_assoc, subst, arith}
use Rattle.std.proofs.lemmas.List.{append-nil}
use Rattle.std.proofs.Common.{length-append}
use Rattle.std.specs.Option.{option_to_list}
use Rattle.chess_model.specs.declared.man.Colour.{Colour}
use Rattle.chess_model.specs.declared.man.Colour.TheVariants.{White, Black}
use Rattle.chess_model.specs.Placement.{opposite}
use Rattle.chess_model.specs.MoveList.{side_from}
use Rattle.clock_ledger.specs.declared.charges.Charge.{Charge}
use Rattle.game_board.specs.declared.played.Played.{Played}
use Rattle.game_board.specs.Board.{mover_after}
use Rattle.game_board.specs.Charges.{charge_to, charges_from, charges_of}
use Rattle.chess_model.proofs.ChessLaws.{opposite-opposite}

pub charges_from-append : (c by : Colour) (ps : List Played) (p : Played) →
    charges_from c by (ps ++ p ∷ [])
    ≡ charges_from c by ps ++ charge_to c (side_from by (map (λ q. q.what) ps)) p.charge
charges_from-append c by [] p = append-nil (charge_to c by p.charge)
charges_from-append c by (q ∷ qs) p =
    ap (λ cs. charge_to c by q.charge ++ cs) (charges_from-append c (opposite by) qs p)
    ∙ sym (append_assoc (charge_to c by q.charge) _ _)

length-charge : (o : Option Charge) → length (option_to_list o) ≤ 1
length-charge None = omega arith
length-charge (Some x) = omega arith

length-own_charge : (c : Colour) (o : Option Charge) → length (charge_to c c o) ≤ 1
length-own_charge White o = length-charge o
length-own_charge Black o = length-charge o

length-other_charge : (c : Colour) (o : Option Charge) → length (charge_to c (opposite c) o) ≡ 0
length-other_charge White o = refl
length-other_charge Black o = refl

not_opposite : (c : Colour) → opposite c ≡ c → ⊥
not_opposite White e = cc
not_opposite Black e = cc

-- each second half-move at most is charged to a colour: to the one that began, or to the other
record AtMostHalf (c : Colour) (ps : List Played) : Type 0 where
  own : 2 * length (charges_from c c ps) ≤ length ps + 1
  other : 2 * length (charges_from c (opposite c) ps) ≤ length ps

at_most_half : (c : Colour) (ps : List Played) → AtMostHalf c ps
at_most_half c [] = record { own = omega arith; other = omega arith }
at_most_half c (p ∷ ps) =
    let rest = at_most_half c ps in
    let back : charges_from c (opposite (opposite c)) ps ≡ charges_from c c ps =
    ap (λ d. charges_from c d ps) (opposite-opposite c) in
    record {
      own =
          omega (
            arith,
            rest.other,
            length-append (charge_to c c p.charge) (charges_from c (opposite c) ps),
            length-own_charge c p.charge,
          );
      other =
          omega (
            arith,
            rest.own,
            ap length back,
            length-append (charge_to c (opposite c) p.charge) (charges_from c (opposite (opposite c)) ps),
            length-other_charge c p.charge,
          );
    }

-- where the one that began is to move, it is exactly half
at_most_half-even : (c : Colour) (ps : List Played) → side_from c (map (λ p. p.what) ps) ≡ c
    → 2 * length (charges_from c c ps) ≤ length ps
at_most_half-even c [] e = omega arith
at_most_half-even c (p ∷ []) e = absurd (not_opposite c e)
at_most_half-even c (p ∷ q ∷ qs) e =
    let back : opposite (opposite c) ≡ c = opposite-opposite c in
    let is_mover : side_from c (map (λ r. r.what) qs) ≡ c =
    subst (λ (d : Colour). side_from d (map (λ r. r.what) qs) ≡ c) back e in
    let rest = at_most_half-even c qs is_mover in
    let same : charges_from c (opposite (opposite c)) qs ≡ charges_from c c qs = ap (λ d. charges_from c d qs) back in
    omega (
      arith,
      rest,
      ap length same,
      length-append (charge_to c c p.charge) (charges_from c (opposite c) (q ∷ qs)),
      length-own_charge c p.charge,
      length-append (charge_to c (opposite c) q.charge) (charges_from c (opposite (opposite c)) qs),
      length-other_charge c q.charge,
    )

-- while a half-move may still be played, the clock of the colour to move has room for its charge
pub has_room : (c : Colour) (ps : List Played) → mover_after ps ≡ c → length ps < 1200 → length (charges_of c ps) < 600
has_room White ps e h = omega (arith, at_most_half-even White ps e)
has_room Black ps e h = omega (arith, at_most_half Black ps)
