use Rattle.std.proofs.Common.{◌≡◌, ℕ, ◌<◌, false}
use Rattle.chess_model.specs.Claims.{may_pass}
use Rattle.variant_rules.proofs.sameness.some_may_pass.Given as goal

abbrev pub invariant-loop-n : goal.invariant-loop-n
invariant-loop-n l = (k : ℕ) → k < l.n → may_pass l.p l.to k ≡ false
