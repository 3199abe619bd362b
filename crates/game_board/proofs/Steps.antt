-- What is kept of each half-move is kept by one half-move more, and tells what is shown of the last.
use Rattle.std.proofs.Common.{◌≡◌, ℕ, ◌+◌, ◌-◌, ◌<◌, ◌≤◌, zero, suc, inl, inr, List, [], ◌∷◌, ◌++◌, length, take, Option, Some, refl, sym, ap, subst, ◌∙◌, length-append, arith}
use Rattle.std.specs.Prelude.{slice_get}
use Rattle.std.specs.Option.{option_map}
use Rattle.std.proofs.Math.Seq.{take-append_seam}
use Rattle.std.proofs.lemmas.List.{take-append-le, take_all}
use Rattle.std.proofs.lemmas.Option.{slice_get_cases, slice_get_past, slice_get_within}
use Rattle.chess_model.specs.declared.variant.Variant.{Variant}
use Rattle.chess_model.specs.MoveList.{HalfMove}
use Rattle.chess_model.specs.Position.{Position, position_after, Stands}
use Rattle.variant_rules.specs.Undos.{IsUndoOf}
use Rattle.variant_rules.specs.Showing.{shown_of}
use Rattle.game_board.specs.declared.played.Played.{Played}
use Rattle.game_board.specs.declared.played.Step.{Step}
use Rattle.game_board.specs.Board.{half_move, half_moves}
use Rattle.game_board.specs.BoardFace.{before_own, last_shown}
use Rattle.game_board.specs.Steps.{position_at, shown_at, IsKeptStep, AreSteps}
use Rattle.game_board.proofs.OwnMoves.{before_own-own, before_own-all}
use Rattle.game_board.proofs.LastPlayed.{at_or_last}
use Rattle.collections.proofs.Places.{slice_get-append_end}

-- a position that stands for a list of a variant is the position after it
pub position_after-stands : (q : Position) (v : Variant) (number : ℕ) (list : List Played)
    → Stands q (half_moves number list) number → q.variant ≡ v →
    q ≡ position_after v (half_moves number list) number
position_after-stands q v number list s e = s.same ∙ ap (λ w. position_after w (half_moves number list) number) e

-- the position after no more half-moves than the list has is the same after one more
pub position_at-append : (v : Variant) (number : ℕ) (list : List Played) (p : Played) (k : ℕ) → k ≤ length list →
    position_at v number (list ++ p ∷ []) k ≡ position_at v number list k
position_at-append v number list p k within =
    ap (λ (l : List Played). position_after v (half_moves number l) number) (take-append-le k list (p ∷ []) within)

pub slice_get-append_left : {X : Type 0} (xs ys : List X) (k : ℕ) → k < length xs
    → slice_get (xs ++ ys) k ≡ slice_get xs k
slice_get-append_left [] ys k within = absurd (omega arith)
slice_get-append_left (x ∷ xs) ys zero within = refl
slice_get-append_left (x ∷ xs) ys (suc k) within = slice_get-append_left xs ys k (omega arith)

pub shown_at-append : (v : Variant) (number : ℕ) (list : List Played) (p : Played) (k : ℕ) → k < length list →
    shown_at v number (list ++ p ∷ []) k ≡ shown_at v number list k
shown_at-append v number list p k within =
    ap (λ (q : Position). option_map (λ h. shown_of q h.what) (slice_get (list ++ p ∷ []) k))
    (position_at-append v number list p k (omega (arith, within)))
    ∙ ap (option_map (λ h. shown_of (position_at v number list k) h.what))
    (slice_get-append_left list (p ∷ []) k within)

IsStep-append : (v : Variant) (number : ℕ) (list : List Played) (p : Played) (k : ℕ) (step : Step) → k < length list
    → IsKeptStep v number list k step →
    IsKeptStep v number (list ++ p ∷ []) k step
IsStep-append v number list p k step within is = record {
  undo =
      subst (λ (q : Position). IsUndoOf step.undo q (position_at v number (list ++ p ∷ []) (k + 1)))
      (sym (position_at-append v number list p k (omega (arith, within))))
      (subst (λ (q : Position). IsUndoOf step.undo (position_at v number list k) q)
      (sym (position_at-append v number list p (k + 1) (omega (arith, within)))) is.undo);
  shown = shown_at-append v number list p k within ∙ is.shown;
}

-- the positions round the last half-move
pub before_end : (v : Variant) (number : ℕ) (list : List Played) (p : Played)
    → position_at v number (list ++ p ∷ []) (length list) ≡ position_after v (half_moves number list) number
before_end v number list p =
    ap (λ (l : List Played). position_after v (half_moves number l) number) (take-append_seam list (p ∷ []))

take_whole : {X : Type 0} (xs : List X) (x : X) → take (length xs + 1) (xs ++ x ∷ []) ≡ xs ++ x ∷ []
take_whole xs x = take_all (length xs + 1) (xs ++ x ∷ []) (omega (arith, length-append xs (x ∷ [])))

pub at_end : (v : Variant) (number : ℕ) (list : List Played) (p : Played)
    → position_at v number (list ++ p ∷ []) (length list + 1)
    ≡ position_after v (half_moves number (list ++ p ∷ [])) number
at_end v number list p = ap (λ (l : List Played). position_after v (half_moves number l) number) (take_whole list p)

IsStep-end : (v : Variant) (number : ℕ) (list : List Played) (p : Played) (step : Step) →
    IsUndoOf step.undo (position_after v (half_moves number list) number)
    (position_after v (half_moves number (list ++ p ∷ [])) number) →
    step.shown ≡ shown_of (position_after v (half_moves number list) number) p.what
    → IsKeptStep v number (list ++ p ∷ []) (length list) step
IsStep-end v number list p step undo shown = record {
  undo =
      subst (λ (q : Position). IsUndoOf step.undo q (position_at v number (list ++ p ∷ []) (length list + 1)))
      (sym (before_end v number list p))
      (subst (λ (q : Position). IsUndoOf step.undo (position_after v (half_moves number list) number) q)
      (sym (at_end v number list p)) undo);
  shown =
      ap
      (λ (o : Option Played). option_map (λ h. shown_of (position_at v number (list ++ p ∷ []) (length list)) h.what) o)
      (slice_get-append_end list p)
      ∙ ap (λ (q : Position). Some (shown_of q p.what)) (before_end v number list p)
      ∙ ap Some (sym shown);
}

pub AreSteps-append : (v : Variant) (number : ℕ) (list : List Played) (steps : List Step) (p : Played) (step : Step)
    → AreSteps v number list steps →
    IsUndoOf step.undo (position_after v (half_moves number list) number)
    (position_after v (half_moves number (list ++ p ∷ [])) number) →
    step.shown ≡ shown_of (position_after v (half_moves number list) number) p.what
    → AreSteps v number (list ++ p ∷ []) (steps ++ step ∷ [])
AreSteps-append v number list steps p step all undo shown = record {
  each = omega (arith, length-append steps (step ∷ []), length-append list (p ∷ []), all.each);
  kept = λ k s e. elim (at_or_last steps step s k e) [
    | inl old ↦
        IsStep-append v number list p k s (omega (arith, slice_get_within steps k s old, all.each)) (all.kept k s old)
    | inr new ↦
        let place : length list ≡ k = omega (arith, new.0, all.each) in
        subst (λ (n : ℕ). IsKeptStep v number (list ++ p ∷ []) n s) place
        (subst (λ (t : Step). IsKeptStep v number (list ++ p ∷ []) (length list) t) new.1
        (IsStep-end v number list p step undo shown))
  ];
}

pub AreSteps-empty : (v : Variant) (number : ℕ) → AreSteps v number [] []
AreSteps-empty v number = record {
  each = refl;
  kept = λ k s e. absurd (let within : k < 0 = slice_get_within [] k s e in omega (arith, within));
}

-- what is shown of the last half-move where the board is the only one
pub last_shown-alone : (v : Variant) (number : ℕ) (list : List Played)
    → last_shown v number (half_moves number list) list ≡ shown_at v number list (length list - 1)
last_shown-alone v number list =
    ap (λ (T : List HalfMove).
    option_map (λ p. shown_of (position_after v T number) p.what) (slice_get list (length list - 1)))
    (before_own-all number list)

-- what is kept of the last half-move has what is shown of it
pub last_shown-steps : (v : Variant) (number : ℕ) (list : List Played) (steps : List Step)
    → AreSteps v number list steps →
    option_map (λ s. s.shown) (slice_get steps (length steps - 1)) ≡ last_shown v number (half_moves number list) list
last_shown-steps v number list steps all = elim (slice_get_cases steps (length steps - 1)).1 [
  | inl h ↦
      let s = h.0 in
      ap (option_map (λ (t : Step). t.shown)) h.2
      ∙ sym (all.kept (length steps - 1) s h.2).shown
      ∙ ap (λ n. shown_at v number list (n - 1)) all.each
      ∙ sym (last_shown-alone v number list)
  | inr h ↦
      ap (option_map (λ (t : Step). t.shown)) h.1
      ∙ sym
      (ap (option_map (λ (q : Played). shown_of (position_at v number list (length list - 1)) q.what))
      (slice_get_past list (length list - 1) (omega (arith, h.0, all.each))))
      ∙ sym (last_shown-alone v number list)
]

pub last_at : {X : Type 0} (xs : List X) (x : X) → slice_get (xs ++ x ∷ []) (length (xs ++ x ∷ []) - 1) ≡ Some x
last_at xs x =
    let place : length (xs ++ x ∷ []) - 1 ≡ length xs = omega (arith, length-append xs (x ∷ [])) in
    ap (slice_get (xs ++ x ∷ [])) place ∙ slice_get-append_end xs x

-- what is kept and what is shown of a half-move that has just been made
pub shown-append : (v : Variant) (number : ℕ) (T : List HalfMove) (list : List Played) (steps : List Step) (p : Played)
    (step : Step) →
    step.shown ≡ shown_of (position_after v T number) p.what →
    option_map (λ s. s.shown) (slice_get (steps ++ step ∷ []) (length (steps ++ step ∷ []) - 1))
    ≡ last_shown v number (T ++ half_move number p ∷ []) (list ++ p ∷ [])
shown-append v number T list steps p step shown =
    ap (option_map (λ (t : Step). t.shown)) (last_at steps step)
    ∙ ap Some shown
    ∙ sym
    (ap (option_map
    (λ (q : Played). shown_of (position_after v (before_own number (T ++ half_move number p ∷ [])) number) q.what))
    (last_at list p)
    ∙ ap (λ (U : List HalfMove). Some (shown_of (position_after v U number) p.what)) (before_own-own number T p.what))

-- what is kept of the half-move before the position after the first k takes that position back
pub undo_at : (v : Variant) (number : ℕ) (list : List Played) (steps : List Step) (k : ℕ) (step : Step)
    (past : Position)
    → AreSteps v number list steps →
    0 < k → slice_get steps (k - 1) ≡ Some step → past ≡ position_at v number list k
    → IsUndoOf step.undo (position_at v number list (k - 1)) past
undo_at v number list steps k step past all some e is =
    let back : k - 1 + 1 ≡ k = omega arith in
    subst (λ (q : Position). IsUndoOf step.undo (position_at v number list (k - 1)) q) (sym is)
    (subst (λ (n : ℕ). IsUndoOf step.undo (position_at v number list (k - 1)) (position_at v number list n)) back
    (all.kept (k - 1) step e).undo)

pub position_at-all : (v : Variant) (number : ℕ) (list : List Played)
    → position_at v number list (length list) ≡ position_after v (half_moves number list) number
position_at-all v number list =
    ap (λ (l : List Played). position_after v (half_moves number l) number) (take_all (length list) list (omega arith))
