-- The squares of a rank as a part of the board's squares.
use Rattle.std.proofs.Common.{◌≡◌, ℕ, ◌+◌, ◌-◌, ◌*◌, ◌<◌, ◌≤◌, List, [], ◌∷◌, length, map, take, drop, get_or, refl, ap, ◌∙◌, arith}
use Rattle.std.specs.Prelude.{Option, None, slice_range}
use Rattle.std.proofs.lemmas.List.{length-drop, get_or-drop}
use Rattle.chess_model.specs.declared.man.Man.{Man}
use Rattle.style12_writer.specs.Board.{square_letter, rank_text}

first_eight : (ys : List (Option Man)) → 8 ≤ length ys
    → take 8 ys
    ≡ get_or ys 0 None ∷ get_or ys 1 None ∷ get_or ys 2 None ∷ get_or ys 3 None ∷ get_or ys 4 None ∷ get_or ys 5 None
    ∷ get_or ys 6 None ∷ get_or ys 7 None ∷ []
first_eight (a ∷ b ∷ c ∷ d ∷ e ∷ f ∷ g ∷ h ∷ rest) enough = refl
first_eight ys short = absurd (omega arith)

pub letters-slice_range : (men : List (Option Man)) (rank : ℕ) → rank < 8 → length men ≡ 64
    → map square_letter (slice_range men (8 * rank) (8 * rank + 8)) ≡ rank_text men rank
unfolding rank_text
letters-slice_range men rank within whole =
    let eight : 8 * rank + 8 - 8 * rank ≡ 8 = omega arith in
    let left = drop (8 * rank) men in
    let enough : 8 ≤ length left = omega (arith, length-drop (8 * rank) men) in
    ap (λ n. map square_letter (take n left)) eight
    ∙ ap (map square_letter) (first_eight left enough)
    ∙ simp get_or-drop
