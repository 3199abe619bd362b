-- The loop over the moves of the position for which a move is wanted.
use Rattle.std.proofs.Common.{arith, ◌≡◌, ◌≢◌, ℕ, ℤ, suc, pos, neg_ℤ, ◌+◌, ◌<◌, ◌≤◌, ◌<ℤ◌, ◌≤ℤ◌, cond, List, map, length, take, get_or, Option, None, sym, ap, ◌∙◌}
use Rattle.std.specs.Int.{int_max}
use Rattle.std.specs.List.{find}
use Rattle.std.specs.Ordering.{int_eq}
use Rattle.std.proofs.lemmas.Int.{ints, clamps}
use Rattle.std.proofs.lemmas.List.Sums.{fold_more}
use Rattle.chess_model.specs.declared.moves.Move.{Move}
use Rattle.chess_model.specs.Position.{Position}
use Rattle.chess_model.specs.Allowed.{Allowed}
use Rattle.chess_model.specs.AllMoves.{allowed_moves}
use Rattle.house_bot.specs.declared.chosen.Choice.{Choice}
use Rattle.house_bot.specs.Value.{greatest, value, move_value, best_move}
use Rattle.house_bot.specs.Searching.{cut, SearchGoesOn, better, best_of}
use Rattle.house_bot.proofs.Cuts.{int_lt-yes}
use Rattle.house_bot.proofs.Raises.{top, top-greatest}
use Rattle.house_bot.proofs.Choices.{no_choice, better-worth, better-cut, best_of-worth, best_of-first, reached}
use Rattle.house_bot.proofs.Bounds.{IsWithin, IsTwoSets, value_within, move_within}
use Rattle.house_bot.proofs.Values.{best_move-suc}

-- a choice whose worth is a bound
pub record IsOpen (choice : Choice) : Type 0 where
  pub least : neg_ℤ (pos 200000) ≤ℤ choice.worth
  pub below : choice.worth <ℤ pos 200000

-- one move more
pub turn_chooses : (d : ℕ) (p : Position) (ms : List Move) (i : ℕ) (choice : Choice) (m : Move) (r : ℤ) → d ≤ 255 →
    IsTwoSets p → Allowed p m → choice ≡ best_of (move_value d p) no_choice (take i ms) → m ≡ get_or ms i m →
    i < length ms → IsOpen choice → r ≡ cut choice.worth (pos 200000) (move_value d p m) →
    better choice m r ≡ best_of (move_value d p) no_choice (take (i + 1) ms)
turn_chooses d p ms i choice m r small two allowed so_far here less bounds e =
    let f : Move → ℤ = move_value d p in
    let within : IsWithin (f m) = move_within d p m small two allowed in
    let more : f m <ℤ pos 200000 = omega (arith, ints, within.most) in
    better-cut choice m (pos 200000) (f m) r bounds.below more e
    ∙ ap (λ (x : Choice). better x m (f m)) so_far
    ∙ ap (λ y. better (best_of f no_choice (take i ms)) y (f y)) here
    ∙ sym (fold_more (λ (x : Choice) (y : Move). better x y (f y)) no_choice ms i m less)

pub turn_stays_open : (d : ℕ) (p : Position) (choice : Choice) (m : Move) (r : ℤ) → d ≤ 255 → IsTwoSets p
    → Allowed p m →
    IsOpen choice → r ≡ cut choice.worth (pos 200000) (move_value d p m) → IsOpen (better choice m r)
turn_stays_open d p choice m r small two allowed bounds e =
    let within : IsWithin (move_value d p m) = move_within d p m small two allowed in
    let worth = better-worth choice m r in
    let most : r <ℤ pos 200000 = omega (arith, ints, clamps, e, within.most, bounds.below) in
    record {
      least = omega (arith, ints, clamps, worth, bounds.least);
      below = omega (arith, ints, clamps, worth, bounds.below, most);
    }

-- what the loop ends with
pub record IsFound (d : ℕ) (p : Position) (choice : Choice) : Type 0 where
  pub worth : choice.worth ≡ value d p
  pub first : choice.what ≡ best_move d p
  pub some : choice.what ≢ None

pub found : (d e : ℕ) (p : Position) (choice : Choice) → suc e ≡ d → d ≤ 255 → IsTwoSets p → SearchGoesOn d p →
    0 < length (allowed_moves p) → choice ≡ best_of (move_value e p) no_choice (allowed_moves p) → IsFound d p choice
found d e p choice same small two ahead some chosen =
    let f : Move → ℤ = move_value e p in
    let ms : List Move = allowed_moves p in
    let low : ℤ = neg_ℤ (pos 200000) in
    let g : ℤ = value d p in
    let g_is : g ≡ greatest (map f ms) = ahead.best e same in
    let within : IsWithin g = value_within d p small two in
    let more : low <ℤ g = omega (arith, ints, within.least) in
    let top_is : top f low ms ≡ int_max low (greatest (map f ms)) = top-greatest f low ms some in
    let g_top : g ≡ top f low ms = reaches low g (top f low ms) (greatest (map f ms)) g_is top_is more in
    let rest : Option Move = find (λ m. int_eq (f m) g) ms in
    let what : choice.what ≡ rest =
    ap (λ (x : Choice). x.what) chosen
    ∙ best_of-first f no_choice ms g g_top
    ∙ ap (λ b. cond b rest None) (int_lt-yes low g more) in
    record {
      worth = ap (λ (x : Choice). x.worth) chosen ∙ best_of-worth f no_choice ms ∙ sym g_top;
      first = what ∙ sym (best_move-suc d e p same);
      some = λ none. reached f low g ms g_top more (sym what ∙ none);
    }
  where
    reaches : (a x t y : ℤ) → x ≡ y → t ≡ int_max a y → a <ℤ x → x ≡ t
    reaches a x t y same_as is less = omega (arith, ints, clamps, same_as, is, less)
