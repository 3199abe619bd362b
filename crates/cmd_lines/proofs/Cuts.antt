-- A line cut at its first blank.
use Rattle.std.proofs.Common.{◌≡◌, ◌+◌, ◌-◌, ℕ, Bool, List, [], length, take, drop, sym, ap, ◌∙◌, arith, ◌≤◌}
use Rattle.std.specs.List.{after_first, before_first, position_or_len}
use Rattle.std.proofs.lemmas.List.{drop_all, length-drop, take_all}
pub use Rattle.fics_words.proofs.Positions.{place-found, place-missing}

pub after_is : (p : ℕ → Bool) (bytes : List ℕ) (place : ℕ) → place ≡ position_or_len p bytes
    → take (length bytes - (place + 1)) (drop (place + 1) bytes) ≡ after_first p bytes
after_is p bytes place e =
    take_all (length bytes - (place + 1)) (drop (place + 1) bytes)
    (let q : length (drop (place + 1) bytes) ≤ length bytes - (place + 1) =
    omega (arith, length-drop (place + 1) bytes) in q)
    ∙ ap (λ k. drop (k + 1) bytes) e

pub before_none : (p : ℕ → Bool) (bytes : List ℕ) → length bytes ≡ position_or_len p bytes
    → bytes ≡ before_first p bytes
before_none p bytes e =
    sym
    (take_all (position_or_len p bytes) bytes (let q : length bytes ≤ position_or_len p bytes = omega (arith, e) in q))

pub after_none : (p : ℕ → Bool) (bytes : List ℕ) → length bytes ≡ position_or_len p bytes → [] ≡ after_first p bytes
after_none p bytes e =
    sym (drop_all (position_or_len p bytes + 1) bytes
    (let q : length bytes ≤ position_or_len p bytes + 1 = omega (arith, e) in q))
