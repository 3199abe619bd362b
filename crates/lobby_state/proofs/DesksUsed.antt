-- How many desks are in use, once one of them is taken or freed.
use Rattle.std.proofs.Common.{◌≡◌, ℕ, ◌+◌, ◌≤◌, zero, suc, cond, List, [], ◌∷◌, Option, None, Some, is_some, slice_get, ap, ◌∙◌, arith}
use Rattle.std.proofs.Math.ListN.{set}
use Rattle.std.proofs.lemmas.List.Sums.{sum_by-cons}
use Rattle.lobby_state.specs.declared.game.ListedGame.{ListedGame}
use Rattle.lobby_state.specs.ShelfRoom.{desks_used}

counted : (slot : Option ListedGame) (games : List (Option ListedGame))
    → desks_used (slot ∷ games) ≡ cond (is_some slot) 1 0 + desks_used games
counted slot games = sum_by-cons (λ (s : Option ListedGame). cond (is_some s) 1 0) slot games

-- one more where a free desk is taken
pub desks_used-taken : (games : List (Option ListedGame)) (i : ℕ) (game : ListedGame) → slice_get games i ≡ Some None
    → desks_used (set games i (Some game)) ≡ desks_used games + 1
desks_used-taken [] i game free = cc
desks_used-taken (slot ∷ games) zero game free =
    let was : slot ≡ None = cc in
    let before = counted slot games ∙ ap (λ (s : Option ListedGame). cond (is_some s) 1 0 + desks_used games) was in
    let after = counted (Some game) games in
    omega (arith, before, after)
desks_used-taken (slot ∷ games) (suc i) game free =
    let rest = desks_used-taken games i game free in
    let before = counted slot games in
    let after = counted slot (set games i (Some game)) in
    omega (arith, before, after, rest)

-- no more where a desk is freed
pub desks_used-free : (games : List (Option ListedGame)) (i : ℕ) → desks_used (set games i None) ≤ desks_used games
desks_used-free [] i = omega arith
desks_used-free (slot ∷ games) zero =
    let before = counted slot games in
    let after = counted None games in
    omega (arith, before, after)
desks_used-free (slot ∷ games) (suc i) =
    let rest = desks_used-free games i in
    let before = counted slot games in
    let after = counted slot (set games i None) in
    omega (arith, before, after, rest)

-- one less where a desk in use is freed
pub desks_used-freed : (games : List (Option ListedGame)) (i : ℕ) (game : ListedGame)
    → slice_get games i ≡ Some (Some game)
    → desks_used (set games i None) + 1 ≡ desks_used games
desks_used-freed [] i game there = cc
desks_used-freed (slot ∷ games) zero game there =
    let was : slot ≡ Some game = cc in
    let before = counted slot games ∙ ap (λ (s : Option ListedGame). cond (is_some s) 1 0 + desks_used games) was in
    let after = counted None games in
    omega (arith, before, after)
desks_used-freed (slot ∷ games) (suc i) game there =
    let rest = desks_used-freed games i game there in
    let before = counted slot games in
    let after = counted slot (set games i None) in
    omega (arith, before, after, rest)
