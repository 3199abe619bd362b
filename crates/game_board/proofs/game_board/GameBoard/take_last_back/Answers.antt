use Rattle.std.proofs.Common.{◌≡◌, ℕ, ◌≢◌, ◌+◌, IfSome, All, List, [], ◌∷◌, ◌++◌, map, length, length-append, ap, ◌∙◌, sym, subst, arith}
use Rattle.std.proofs.lemmas.List.{get_or_append_left, length-map}
use Rattle.chess_model.specs.declared.man.Colour.TheVariants.{White, Black}
use Rattle.chess_model.specs.declared.variant.Variant.TheVariants.{Bughouse}
use Rattle.chess_model.specs.MoveList.{HalfMove, moves_of}
use Rattle.chess_model.specs.Position.{Position, position_after, Stands}
use Rattle.chess_model.specs.Allowed.{IsLegal}
use Rattle.clock_ledger.specs.Charges.{IsChargeable}
use Rattle.variant_rules.specs.Undos.{IsUndoOf}
use Rattle.fics_words.specs.Boards.{board_number}
use Rattle.game_board.specs.declared.played.Played.{Played}
use Rattle.game_board.specs.declared.played.Step.{Step}
use Rattle.game_board.specs.Board.{Board, half_move, half_moves, made, mover_after}
use Rattle.game_board.specs.BoardFace.{last_shown}
use Rattle.game_board.specs.Charges.{clock_of}
use Rattle.game_board.specs.Steps.{AreSteps}
use Rattle.game_board.proofs.Movers.{moves_of-half_moves}
use Rattle.game_board.proofs.Steps.{position_after-stands, last_shown-steps}
use Rattle.game_board.proofs.TakenBack.{length-made, made_left, Stands-legal, IsLegal-shorter, AreSteps-shorter, last_undo, last_mover, has_charge, clock_of-shorter}
use Rattle.game_board.proofs.game_board.GameBoard.take_last_back.Goals as goal

pub unmake-requires : goal.unmake-requires
unmake-requires c =
    let i = c.self.inside in
    let n : ℕ = board_number i.number in
    let rest : List Played = c.pop.new.self in
    let before : List Step = c.pop-2.new.self in
    let half : Played = c.in-Some.half in
    let step : Step = c.in-Some-pop.step in
    let single : i.terms.variant ≢ Bughouse = λ e.
    c.requires.variant (sym (ap (λ (b : Board). b.terms.variant) c.self.view_is) ∙ e) in
    let alone : made i.all ≡ half_moves n i.list = c.self.invariant.alone single in
    let steps : AreSteps i.terms.variant n (rest ++ half ∷ []) (before ++ step ∷ []) =
    subst (λ (l : List Played). AreSteps i.terms.variant n l (before ++ step ∷ [])) c.in-Some.ensures.last
    (subst (AreSteps i.terms.variant n i.list) c.in-Some-pop.ensures.last (c.self.invariant.steps single)) in
    let now : i.position ≡ position_after i.terms.variant (half_moves n (rest ++ half ∷ [])) n =
    position_after-stands i.position i.terms.variant n i.list
    (subst (λ (T : List HalfMove). Stands i.position T n) alone c.self.invariant.stands) c.self.invariant.variant
    ∙ ap (λ (l : List Played). position_after i.terms.variant (half_moves n l) n)
    c.in-Some.ensures.last in (
      position_after i.terms.variant (half_moves n rest) n,
      subst
          (λ (q : Position). IsUndoOf step.undo (position_after i.terms.variant (half_moves n rest) n) q)
          (sym now)
          (last_undo i.terms.variant n rest half before step steps),
    )

pub take_charge_off-requires-clause-white_has : goal.take_charge_off-requires-clause-white_has
take_charge_off-requires-clause-white_has c =
    let i = c.self.inside in
    let rest : List Played = c.pop.new.self in
    let half : Played = c.in-Some.half in
    let to_move : c.to_move.result ≡ mover_after (rest ++ half ∷ []) =
    c.to_move.ensures ∙ sym (ap (λ (b : Board). mover_after b.list) c.self.view_is)
    ∙ ap mover_after c.in-Some.ensures.last in
    has_charge i.terms White c.opposite-mover.result rest half i.white
    (c.self.invariant.white ∙ ap (clock_of i.terms White) c.in-Some.ensures.last)
    (last_mover rest half c.to_move.result c.opposite-mover.result to_move c.opposite-mover.ensures)

pub take_charge_off-requires-clause-black_has : goal.take_charge_off-requires-clause-black_has
take_charge_off-requires-clause-black_has c =
    let i = c.self.inside in
    let rest : List Played = c.pop.new.self in
    let half : Played = c.in-Some.half in
    let to_move : c.to_move.result ≡ mover_after (rest ++ half ∷ []) =
    c.to_move.ensures ∙ sym (ap (λ (b : Board). mover_after b.list) c.self.view_is)
    ∙ ap mover_after c.in-Some.ensures.last in
    has_charge i.terms Black c.opposite-mover.result rest half i.black
    (c.self.invariant.black ∙ ap (clock_of i.terms Black) c.in-Some.ensures.last)
    (last_mover rest half c.to_move.result c.opposite-mover.result to_move c.opposite-mover.ensures)

pub invariant_of-self-2 : goal.invariant_of-self-2
invariant_of-self-2 c =
    let i = c.self.inside in
    let n : ℕ = board_number i.number in
    let rest : List Played = c.pop.new.self in
    let before : List Step = c.pop-2.new.self in
    let half : Played = c.in-Some.half in
    let step : Step = c.in-Some-pop.step in
    let single : i.terms.variant ≢ Bughouse = λ e.
    c.requires.variant (sym (ap (λ (b : Board). b.terms.variant) c.self.view_is) ∙ e) in
    let alone : made i.all ≡ half_moves n i.list = c.self.invariant.alone single in
    let steps : AreSteps i.terms.variant n (rest ++ half ∷ []) (before ++ step ∷ []) =
    subst (λ (l : List Played). AreSteps i.terms.variant n l (before ++ step ∷ [])) c.in-Some.ensures.last
    (subst (AreSteps i.terms.variant n i.list) c.in-Some-pop.ensures.last (c.self.invariant.steps single)) in
    let now : i.position ≡ position_after i.terms.variant (half_moves n (rest ++ half ∷ [])) n =
    position_after-stands i.position i.terms.variant n i.list
    (subst (λ (T : List HalfMove). Stands i.position T n) alone c.self.invariant.stands) c.self.invariant.variant
    ∙ ap (λ (l : List Played). position_after i.terms.variant (half_moves n l) n)
    c.in-Some.ensures.last in
    let back : c.unmake.new.self ≡ position_after i.terms.variant (half_moves n rest) n =
    c.unmake.ensures (position_after i.terms.variant (half_moves n rest) n)
    (subst (λ (q : Position). IsUndoOf step.undo (position_after i.terms.variant (half_moves n rest) n) q)
    (sym now)
    (last_undo i.terms.variant n rest half before step steps)) in
    let legal : IsLegal i.terms.variant (half_moves n rest) =
    IsLegal-shorter i.terms.variant n rest half
    (subst (λ (l : List Played). IsLegal i.terms.variant (half_moves n l)) c.in-Some.ensures.last
    (subst (IsLegal i.terms.variant) alone c.self.invariant.legal)) in
    let left : made c.pop-made.new.self ≡ half_moves n rest =
    ap made c.pop-made.ensures.rest
    ∙ made_left n i.all rest half (alone ∙ ap (half_moves n) c.in-Some.ensures.last) in
    let own : moves_of n (made c.pop-made.new.self) ≡ map (λ (p : Played). p.what) rest =
    ap (moves_of n) left ∙ moves_of-half_moves n rest in
    let shorter : AreSteps i.terms.variant n rest before =
    AreSteps-shorter i.terms.variant n rest half before step steps in
    let to_move : c.to_move.result ≡ mover_after (rest ++ half ∷ []) =
    c.to_move.ensures ∙ sym (ap (λ (b : Board). mover_after b.list) c.self.view_is)
    ∙ ap mover_after c.in-Some.ensures.last in
    let is_mover = last_mover rest half c.to_move.result c.opposite-mover.result to_move c.opposite-mover.ensures in
    let many : length i.list ≡ length rest + 1 = ap length c.in-Some.ensures.last ∙ length-append rest (half ∷ []) in
    record {
      stands = subst (λ (T : List HalfMove). Stands c.unmake.new.self T n) (sym left)
          (subst (λ (q : Position). Stands q (half_moves n rest) n) (sym back)
          (Stands-legal i.terms.variant n rest legal));
      variant = ap (λ (q : Position). q.variant) back;
      legal = subst (IsLegal i.terms.variant) (sym left) legal;
      own = own;
      alone = λ h. left;
      others = let same : length (made c.pop-made.new.self) ≡ length (half_moves n rest) = ap length left in
          omega (arith, same, length-made c.pop-made.new.self, length-map rest (half_move n));
      each = shorter.each;
      shown = last_shown-steps i.terms.variant n rest before shorter
          ∙ ap (λ (T : List HalfMove). last_shown i.terms.variant n T rest) (sym left);
      white =
          c.take_charge_off.ensures.white
          ∙ clock_of-shorter i.terms White c.opposite-mover.result rest half i.white
          (c.self.invariant.white ∙ ap (clock_of i.terms White) c.in-Some.ensures.last) is_mover;
      black =
          c.take_charge_off.ensures.black
          ∙ clock_of-shorter i.terms Black c.opposite-mover.result rest half i.black
          (c.self.invariant.black ∙ ap (clock_of i.terms Black) c.in-Some.ensures.last) is_mover;
      sound = λ k d h. subst (λ (p : Played). IfSome p.charge IsChargeable) (get_or_append_left rest (half ∷ []) d k h)
          (subst (All (λ (p : Played). IfSome p.charge IsChargeable)) c.in-Some.ensures.last c.self.invariant.sound k d
          (omega (arith, h, length-append rest (half ∷ []))));
      kept = c.self.invariant.kept;
      steps = λ h. shorter;
      counted = omega (arith, many, c.self.invariant.counted);
      most = c.self.invariant.most;
      resumed = omega arith;
    }
