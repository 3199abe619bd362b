-- The first place that passes, and how many don't pass before it.
use Rattle.std.proofs.Common.{◌≡◌, ◌≤◌, Bool, true, false, cond, ltb, List, length, Some, None, refl, arith}
use Rattle.std.specs.List.{position, position_or_len}
use Rattle.std.proofs.lemmas.Bool.{ltb-false}
use Rattle.std.proofs.lemmas.List.Sums.{prefix_len-le-length}
use Rattle.std.specs.Prelude.{ℕ, not}

pub place-within : {X : Type 0} (p : X → Bool) (xs : List X) → position_or_len p xs ≤ length xs
place-within p xs = prefix_len-le-length (λ x. not (p x)) xs

pub place-found : {X : Type 0} (p : X → Bool) (xs : List X) (i : ℕ) → position p xs ≡ Some i → i ≡ position_or_len p xs
place-found p xs i =
    elim (ltb (position_or_len p xs) (length xs))
    as (λ t. cond t (Some (position_or_len p xs)) None ≡ Some i → i ≡ position_or_len p xs) [
      | true ↦ λ e. cc
      | false ↦ λ e. absurd (let no : None ≡ Some i = e in cc)
    ]

pub place-missing : {X : Type 0} (p : X → Bool) (xs : List X) → position p xs ≡ None → length xs ≡ position_or_len p xs
place-missing p xs =
    let within : position_or_len p xs ≤ length xs = place-within p xs in
    elim (ltb (position_or_len p xs) (length xs))
    as (λ t.
    ltb (position_or_len p xs) (length xs) ≡ t → cond t (Some (position_or_len p xs)) None ≡ None
    → length xs ≡ position_or_len p xs) [
      | true ↦ λ is e. absurd (let no : Some (position_or_len p xs) ≡ None = e in cc)
      | false ↦ λ is e.
          let high : length xs ≤ position_or_len p xs = ltb-false (position_or_len p xs) (length xs) is in
          omega (arith, within, high)
    ] refl
