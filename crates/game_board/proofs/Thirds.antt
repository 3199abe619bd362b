-- The position on a board stands for the third time where two earlier ones of its list are the same.
use Rattle.std.proofs.Common.{◌≡◌, ℕ, ◌<◌, zero, suc, inl, inr, true, false, List, [], ◌∷◌, map, take, length, Option, Some, None, refl, sym, ap, subst, ◌∙◌, arith}
use Rattle.std.specs.Prelude.{IsTrue, IfSome, IfNone, is_some}
use Rattle.std.proofs.lemmas.Bool.{cases_order, false_from_ne_true}
use Rattle.std.proofs.lemmas.List.{length-map}
use Rattle.chess_model.specs.declared.moves.Move.{Move}
use Rattle.chess_model.specs.declared.variant.Variant.{Variant}
use Rattle.chess_model.specs.MoveList.{HalfMove, moves_of}
use Rattle.chess_model.specs.Position.{Position, position_after}
use Rattle.chess_model.specs.Claims.{same_position, alone_on, after_first, is_threefold, HasStoodTwice}
use Rattle.chess_model.proofs.Threefold.{third_times}
use Rattle.game_board.specs.declared.played.Played.{Played}
use Rattle.game_board.specs.Board.{half_moves}
use Rattle.game_board.specs.Steps.{position_at}
use Rattle.game_board.proofs.Movers.{moves_of-half_moves}
use Rattle.chess_model.specs.declared.variant.Variant.TheVariants.{Chess, Crazyhouse, Bughouse, Fischer}
use Rattle.game_board.specs.Claim.{has_claims}

alone_on-first : (b n : ℕ) (list : List Played)
    → alone_on b (take n (map (λ p. p.what) list)) ≡ half_moves b (take n list)
alone_on-first b zero [] = refl
alone_on-first b (suc n) [] = refl
alone_on-first b zero (p ∷ ps) = refl
alone_on-first b (suc n) (p ∷ ps) =
    ap (λ (T : List HalfMove). record { board = b; what = p.what } ∷ T) (alone_on-first b n ps)

after_first-is : (v : Variant) (number : ℕ) (list : List Played) (n : ℕ)
    → after_first v (half_moves number list) number n ≡ position_at v number list n
after_first-is v number list n =
    ap (λ (ms : List Move). position_after v (alone_on number (take n ms)) number) (moves_of-half_moves number list)
    ∙ ap (λ (T : List HalfMove). position_after v T number) (alone_on-first number n list)

many-is : (number : ℕ) (list : List Played) → length (moves_of number (half_moves number list)) ≡ length list
many-is number list = ap length (moves_of-half_moves number list) ∙ length-map list (λ (p : Played). p.what)

-- whether the position after the first n half-moves is the same as that after all
abbrev Same : Variant → ℕ → List Played → ℕ → Type 0
Same v number list n =
    IsTrue (same_position (position_after v (half_moves number list) number) (position_at v number list n))

pub is_third : (v : Variant) (number : ℕ) (list : List Played) (first second : ℕ) → first < second
    → second < length list →
    Same v number list first → Same v number list second → is_threefold v (half_moves number list) number ≡ true
is_third v number list first second order before one two =
    let now : Position = position_after v (half_moves number list) number in
    (third_times v (half_moves number list) number).1 (record {
      first = first;
      second = second;
      order = order;
      before = subst (λ (n : ℕ). second < n) (sym (many-is number list)) before;
      first_same =
          subst (λ (q : Position). IsTrue (same_position now q)) (sym (after_first-is v number list first)) one;
      second_same =
          subst (λ (q : Position). IsTrue (same_position now q)) (sym (after_first-is v number list second)) two;
    })

pub is_not_third : (v : Variant) (number : ℕ) (list : List Played) →
    ((first second : ℕ) → first < second → second < length list → Same v number list first → Same v number list second
    → ⊥) →
    is_threefold v (half_moves number list) number ≡ false
is_not_third v number list never =
    let now : Position = position_after v (half_moves number list) number in
    false_from_ne_true (is_threefold v (half_moves number list) number) (λ third.
    let h : HasStoodTwice v (half_moves number list) number = (third_times v (half_moves number list) number).0 third in
    never h.first h.second h.order (subst (λ (n : ℕ). h.second < n) (many-is number list) h.before)
    (subst (λ (q : Position). IsTrue (same_position now q)) (after_first-is v number list h.first) h.first_same)
    (subst (λ (q : Position). IsTrue (same_position now q)) (after_first-is v number list h.second) h.second_same))

-- the last earlier position that is the same is that after `second` half-moves, and `o` tells of the last one before it
pub third_by : (v : Variant) (number : ℕ) (list : List Played) (second : ℕ) → second < length list
    → Same v number list second →
    ((j : ℕ) → second < j → j < length list → ¬ Same v number list j) → (o : Option ℕ) (past : Position) →
    IfSome o
    (λ k.
    (k < second) × IsTrue (same_position (position_after v (half_moves number list) number) past)
    × (past ≡ position_at v number list k)) →
    IfNone o ((j : ℕ) → j < second → ¬ Same v number list j)
    → is_some o ≡ is_threefold v (half_moves number list) number
third_by v number list second before same last (Some first) past found none =
    let now : Position = position_after v (half_moves number list) number in
    sym (is_third v number list first second found.0 before
    (subst (λ (q : Position). IsTrue (same_position now q)) found.2 found.1) same)
third_by v number list second before same last None past found none =
    sym (is_not_third v number list (λ a b order within one two. elim (cases_order b second) [
      | inl here ↦ none a (omega (arith, order, here)) one
      | inr other ↦ elim other [
        | inl less ↦ none b less two
        | inr more ↦ last b more within two
      ]
    ]))

-- claims are of games of one board
pub not_pair : (v : Variant) → has_claims v ≡ true → v ≡ Bughouse → ⊥
not_pair Chess h e = cc
not_pair Crazyhouse h e = cc
not_pair Bughouse h e = cc
not_pair (Fischer number) h e = cc
