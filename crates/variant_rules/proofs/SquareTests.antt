-- A test that all squares pass, or that one does.
use Rattle.std.proofs.Common.{◌≡◌, ℕ, ◌<◌, Bool, true, false, sym, ◌∙◌, arith}
use Rattle.std.specs.List.{list_all, list_any}
use Rattle.chess_model.specs.Tests.{squares}
use Rattle.chess_model.proofs.Among.{list_all-each, list_all-from, list_any-some, list_any-from, Among-range, Among-ranged}
use Rattle.std.proofs.lemmas.Bool.{false_from_ne_true}

pub unlike : true ≡ false → ⊥
unlike e = cc

pub all_pass : (f : ℕ → Bool) → ((k : ℕ) → k < 64 → f k ≡ true) → list_all f squares ≡ true
all_pass f each =
    list_all-from f squares (λ k among. let within = Among-ranged 0 64 k among in each k (omega (arith, within.1)))

pub not_all_pass : (f : ℕ → Bool) (k : ℕ) → k < 64 → f k ≡ false → list_all f squares ≡ false
not_all_pass f k within e =
    false_from_ne_true (list_all f squares)
    (λ all. unlike (sym (list_all-each f squares all k (Among-range 0 64 k (omega arith) (omega (arith, within)))) ∙ e))

pub one_passes : (f : ℕ → Bool) (k : ℕ) → k < 64 → f k ≡ true → list_any f squares ≡ true
one_passes f k within e = list_any-from f squares k (Among-range 0 64 k (omega arith) (omega (arith, within))) e

pub none_passes : (f : ℕ → Bool) → ((k : ℕ) → k < 64 → f k ≡ false) → list_any f squares ≡ false
none_passes f each =
    false_from_ne_true (list_any f squares)
    (λ some.
    let t = list_any-some f squares some in let within = Among-ranged 0 64 t.0 t.1 in
    unlike (sym t.2 ∙ each t.0 (omega (arith, within.1))))
