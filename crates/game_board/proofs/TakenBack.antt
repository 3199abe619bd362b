-- What a board keeps is kept without the last half-move.
use Rattle.std.proofs.Common.{◌≡◌, ℕ, ◌+◌, ◌-◌, ◌<◌, ◌≤◌, List, [], ◌∷◌, ◌++◌, length, length-append, take, map, refl, sym, ap, subst, ◌∙◌, append_assoc, arith}
use Rattle.std.proofs.Math.Seq.{take-append_seam}
use Rattle.std.proofs.lemmas.List.{append-nil, map-append, length-map, take-map}
use Rattle.std.proofs.lemmas.Option.{slice_get_within}
use Rattle.chess_model.specs.declared.man.Colour.{Colour}
use Rattle.chess_model.specs.declared.man.Colour.TheVariants.{White}
use Rattle.chess_model.specs.declared.variant.Terms.{Terms}
use Rattle.chess_model.specs.declared.variant.Variant.{Variant}
use Rattle.chess_model.specs.Placement.{opposite}
use Rattle.chess_model.specs.MoveList.{HalfMove, side_from}
use Rattle.chess_model.specs.Position.{Position, position_after, Stands}
use Rattle.chess_model.specs.Next.{next}
use Rattle.chess_model.specs.Allowed.{Allowed, IsLegal}
use Rattle.chess_model.proofs.LegalLists.{legal_lists}
use Rattle.chess_model.proofs.StandsAfter.{Stands-next}
use Rattle.clock_ledger.specs.declared.charges.Charge.{Charge}
use Rattle.clock_ledger.specs.Clock.{Ledger}
use Rattle.variant_rules.specs.Undos.{IsUndoOf}
use Rattle.game_board.specs.declared.played.Made.{Made}
use Rattle.game_board.specs.declared.played.Played.{Played}
use Rattle.game_board.specs.declared.played.Step.{Step}
use Rattle.fics_words.specs.Boards.{board_number}
use Rattle.game_board.specs.Board.{half_move, half_moves, made, mover_after}
use Rattle.game_board.specs.Charges.{charge_to, charges_of, clock_of}
use Rattle.game_board.specs.Steps.{position_at, IsKeptStep, AreSteps}
use Rattle.game_board.specs.TakeBack.{without_end}
use Rattle.game_board.proofs.Charged.{charges_from-append}
use Rattle.game_board.proofs.Grown.{half_moves-append}
use Rattle.game_board.proofs.Steps.{before_end, at_end, position_at-append, shown_at-append, slice_get-append_left}
use Rattle.chess_model.proofs.ChessLaws.{opposite-opposite}
use Rattle.chess_model.proofs.MoreMoves.{side_from-append}
use Rattle.collections.proofs.Places.{slice_get-append_end}

-- each legal list has a position that stands for it
stands_on : (v : Variant) (number : ℕ) (done todo : List Played)
    → Stands (position_after v (half_moves number done) number) (half_moves number done) number →
    IsLegal v (half_moves number (done ++ todo))
    → Stands (position_after v (half_moves number (done ++ todo)) number) (half_moves number (done ++ todo)) number
stands_on v number done [] stands legal =
    subst (λ (l : List Played). Stands (position_after v (half_moves number l) number) (half_moves number l) number)
    (sym (append-nil done)) stands
stands_on v number done (p ∷ ps) stands legal =
    let allowed : Allowed (position_after v (half_moves number done) number) p.what =
    legal.each (half_moves number done) (half_moves number ps) (half_move number p)
    (map-append (half_move number) done (p ∷ ps)) in
    let q : Position = next (position_after v (half_moves number done) number) p.what in
    let after : Stands q (half_moves number (done ++ p ∷ [])) number =
    subst (λ (T : List HalfMove). Stands q T number) (sym (half_moves-append number done p))
    (Stands-next (position_after v (half_moves number done) number) (half_moves number done) number p.what allowed
    stands) in
    let more : Stands (position_after v (half_moves number (done ++ p ∷ [])) number)
    (half_moves number (done ++ p ∷ [])) number =
    subst (λ (x : Position). Stands x (half_moves number (done ++ p ∷ [])) number) after.same after in
    subst (λ (l : List Played). Stands (position_after v (half_moves number l) number) (half_moves number l) number)
    (append_assoc done (p ∷ []) ps)
    (stands_on v number (done ++ p ∷ []) ps more
    (subst (λ (l : List Played). IsLegal v (half_moves number l)) (sym (append_assoc done (p ∷ []) ps)) legal))

stands_first : (v : Variant) (number : ℕ) → Stands (position_after v [] number) [] number
stands_first v number = record { same = refl; paid = λ c k. omega arith }

pub Stands-legal : (v : Variant) (number : ℕ) (list : List Played) → IsLegal v (half_moves number list)
    → Stands (position_after v (half_moves number list) number) (half_moves number list) number
Stands-legal v number list legal = stands_on v number [] list (stands_first v number) legal

pub IsLegal-shorter : (v : Variant) (number : ℕ) (list : List Played) (p : Played)
    → IsLegal v (half_moves number (list ++ p ∷ [])) → IsLegal v (half_moves number list)
IsLegal-shorter v number list p legal =
    legal_lists.shrinks v (half_moves number list) (half_move number p)
    (subst (λ (T : List HalfMove). IsLegal v T) (half_moves-append number list p) legal)

IsStep-shorter : (v : Variant) (number : ℕ) (list : List Played) (p : Played) (k : ℕ) (step : Step) → k < length list
    → IsKeptStep v number (list ++ p ∷ []) k step →
    IsKeptStep v number list k step
IsStep-shorter v number list p k step within is = record {
  undo =
      subst (λ (q : Position). IsUndoOf step.undo q (position_at v number list (k + 1)))
      (position_at-append v number list p k (omega (arith, within)))
      (subst (λ (q : Position). IsUndoOf step.undo (position_at v number (list ++ p ∷ []) k) q)
      (position_at-append v number list p (k + 1) (omega (arith, within))) is.undo);
  shown = sym (shown_at-append v number list p k within) ∙ is.shown;
}

pub AreSteps-shorter : (v : Variant) (number : ℕ) (list : List Played) (p : Played) (steps : List Step) (step : Step)
    → AreSteps v number (list ++ p ∷ []) (steps ++ step ∷ []) →
    AreSteps v number list steps
AreSteps-shorter v number list p steps step all =
    let each : length steps ≡ length list =
    omega (arith, length-append steps (step ∷ []), length-append list (p ∷ []), all.each) in
    record {
      each = each;
      kept = λ k s e.
          let within : k < length steps = slice_get_within steps k s e in
          IsStep-shorter v number list p k s (omega (arith, within, each))
          (all.kept k s (slice_get-append_left steps (step ∷ []) k within ∙ e));
    }

-- the last undo takes the position after all half-moves back to that before the last
pub last_undo : (v : Variant) (number : ℕ) (list : List Played) (p : Played) (steps : List Step) (step : Step)
    → AreSteps v number (list ++ p ∷ []) (steps ++ step ∷ []) →
    IsUndoOf step.undo (position_after v (half_moves number list) number)
    (position_after v (half_moves number (list ++ p ∷ [])) number)
last_undo v number list p steps step all =
    let each : length steps ≡ length list =
    omega (arith, length-append steps (step ∷ []), length-append list (p ∷ []), all.each) in
    let is : IsKeptStep v number (list ++ p ∷ []) (length list) step =
    subst (λ (n : ℕ). IsKeptStep v number (list ++ p ∷ []) n step) each
    (all.kept (length steps) step (slice_get-append_end steps step)) in
    subst (λ (q : Position). IsUndoOf step.undo q (position_after v (half_moves number (list ++ p ∷ [])) number))
    (before_end v number list p)
    (subst (λ (q : Position). IsUndoOf step.undo (position_at v number (list ++ p ∷ []) (length list)) q)
    (at_end v number list p) is.undo)

-- the last half-move was made by the colour that isn't to move
pub last_mover : (list : List Played) (p : Played) (to_move mover : Colour) → to_move ≡ mover_after (list ++ p ∷ [])
    → mover ≡ opposite to_move → mover_after list ≡ mover
last_mover list p to_move mover e o =
    let more : mover_after (list ++ p ∷ []) ≡ opposite (mover_after list) =
    ap (side_from White) (map-append (λ (q : Played). q.what) list (p ∷ []))
    ∙ side_from-append White (map (λ (q : Played). q.what) list) p.what in
    sym (o ∙ ap opposite (e ∙ more) ∙ opposite-opposite (mover_after list))

without_end-append : {X : Type 0} (xs end : List X) → without_end end (xs ++ end) ≡ xs
without_end-append xs end =
    let many : length (xs ++ end) - length end ≡ length xs = omega (arith, length-append xs end) in
    ap (λ n. take n (xs ++ end)) many ∙ take-append_seam xs end

-- the charges of a colour are those of the list without its last half-move, and perhaps that one's
charges_of-last : (c mover : Colour) (list : List Played) (p : Played) → mover_after list ≡ mover
    → charges_of c (list ++ p ∷ []) ≡ charges_of c list ++ charge_to c mover p.charge
charges_of-last c mover list p is_mover =
    charges_from-append c White list p ∙ ap (λ (d : Colour). charges_of c list ++ charge_to c d p.charge) is_mover

pub has_charge : (t : Terms) (c mover : Colour) (list : List Played) (p : Played) (k : Ledger)
    → k ≡ clock_of t c (list ++ p ∷ []) → mover_after list ≡ mover →
    length (charge_to c mover p.charge) ≤ length k.charges
has_charge t c mover list p k same is_mover =
    omega (
      arith,
      ap (λ (l : Ledger). length l.charges) same,
      ap length (charges_of-last c mover list p is_mover),
      length-append (charges_of c list) (charge_to c mover p.charge),
    )

pub clock_of-shorter : (t : Terms) (c mover : Colour) (list : List Played) (p : Played) (k : Ledger)
    → k ≡ clock_of t c (list ++ p ∷ []) → mover_after list ≡ mover →
    record k { charges = without_end (charge_to c mover p.charge) k.charges } ≡ clock_of t c list
clock_of-shorter t c mover list p k same is_mover =
    let x : List Charge = charge_to c mover p.charge in
    ap (λ (l : Ledger). record l { charges = without_end x l.charges }) same
    ∙ ap (λ (cs : List Charge). record { minutes = t.minutes; increment = t.increment; charges = without_end x cs })
    (charges_of-last c mover list p is_mover)
    ∙ ap (λ (cs : List Charge). record { minutes = t.minutes; increment = t.increment; charges = cs })
    (without_end-append (charges_of c list) x)

-- a half-move as it is kept, and what it is to the rules
abbrev as_rules : Made → HalfMove
as_rules h = record { board = board_number h.board; what = h.what }

pub length-made : (all : List Made) → length (made all) ≡ length all
length-made all = length-map all as_rules

-- the half-moves without the last
pub made_shorter : (all : List Made) → made (take (length all - 1) all) ≡ take (length (made all) - 1) (made all)
made_shorter all =
    sym (take-map as_rules (length all - 1) all) ∙ ap (λ n. take (n - 1) (made all)) (sym (length-made all))

pub half_moves_shorter : (number n : ℕ) (list : List Played)
    → take (length (half_moves number list) - n) (half_moves number list)
    ≡ half_moves number (take (length list - n) list)
half_moves_shorter number n list =
    ap (λ k. take (k - n) (half_moves number list)) (length-map list (half_move number))
    ∙ take-map (half_move number) (length list - n) list

-- where the board is the only one, what is left are its own
pub made_left : (number : ℕ) (all : List Made) (rest : List Played) (p : Played)
    → made all ≡ half_moves number (rest ++ p ∷ []) →
    made (take (length all - 1) all) ≡ half_moves number rest
made_left number all rest p alone =
    let size : length (rest ++ p ∷ []) - 1 ≡ length rest = omega (arith, length-append rest (p ∷ [])) in
    made_shorter all
    ∙ ap (λ (T : List HalfMove). take (length T - 1) T) alone
    ∙ half_moves_shorter number 1 (rest ++ p ∷ [])
    ∙ ap (half_moves number) (ap (λ n. take n (rest ++ p ∷ [])) size ∙ take-append_seam rest (p ∷ []))
