use Rattle.std.proofs.Common.{◌≡◌, ℕ, ◌<◌, true}
use Rattle.chess_model.specs.Placement.{man_at}
use Rattle.chess_model.specs.Claims.{same_man}
use Rattle.variant_rules.proofs.sameness.is_same_placement.Given as goal

abbrev pub invariant-loop-n : goal.invariant-loop-n
invariant-loop-n l = (k : ℕ) → k < l.n → same_man (man_at l.p.men k) (man_at l.q.men k) ≡ true
