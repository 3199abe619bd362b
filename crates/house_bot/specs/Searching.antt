-- What the search keeps while it goes through a list of moves.
use Rattle.std.specs.Prelude.{◌≡◌, ◌⊎◌, IsTrue, ℕ, suc, ◌<◌, ℤ, pos, neg_ℤ, ◌<ℤ◌, ◌≤ℤ◌, int_lt, Bool, true, false, not, is_some, cond, List, fold, map, Some}
use Rattle.std.specs.Int.{int_max, int_min}
use Rattle.chess_model.specs.declared.moves.Move.{Move}
use Rattle.chess_model.specs.Placement.{Placement}
use Rattle.chess_model.specs.MoveList.{taken}
use Rattle.chess_model.specs.Position.{Position}
use Rattle.chess_model.specs.AllMoves.{allowed_moves}
use Rattle.chess_model.specs.Result.{result, is_end}
use Rattle.house_bot.specs.declared.chosen.Choice.{Choice}
use Rattle.house_bot.specs.Value.{value, move_value, greatest}

-- the number nearest to x from low to high
abbrev pub cut : ℤ → ℤ → ℤ → ℤ
cut low high x = int_max low (int_min x high)

-- bounds between which values are looked for
pub record IsWindow (low high : ℤ) : Type 0 where
  pub from : neg_ℤ (pos 200000) ≤ℤ low
  pub order : low <ℤ high
  pub to : high ≤ℤ pos 200000

-- there is no half-move left to look at, or the game has ended
abbrev pub IsOver : ℕ → Position → Type 0
IsOver d p = (d ≡ 0) ⊎ IsTrue (is_end (result p))

-- half-moves are left to look at, the game hasn't ended, and the value is the greatest of the moves
pub record SearchGoesOn (d : ℕ) (p : Position) : Type 0 where
  pub left : 0 < d
  pub goes : is_end (result p) ≡ false
  pub best : (e : ℕ) → suc e ≡ d → value d p ≡ greatest (map (move_value e p) (allowed_moves p))

-- whether a pass over the moves tries a move: the one those that take a man, the other those that don't
abbrev pub is_tried : Bool → Placement → Move → Bool
is_tried true P m = is_some (taken P m)
is_tried false P m = not (is_some (taken P m))

-- the greater of a bound and of what a move is worth, if it is tried
abbrev pub raised : (Move → ℤ) → (Move → Bool) → ℤ → Move → ℤ
raised worth tried bound m = cond (tried m) (int_max bound (worth m)) bound

-- the greatest of a bound and of what those of the moves are worth that are tried
abbrev pub raised_by : (Move → ℤ) → (Move → Bool) → ℤ → List Move → ℤ
raised_by worth tried bound ms = fold (raised worth tried) bound ms

-- a choice, or the move where it is worth more
abbrev pub better : Choice → Move → ℤ → Choice
better old m worth = cond (int_lt old.worth worth) (record { worth = worth; what = Some m }) old

-- the first best of a choice and of some moves
abbrev pub best_of : (Move → ℤ) → Choice → List Move → Choice
best_of worth old ms = fold (λ choice m. better choice m (worth m)) old ms
