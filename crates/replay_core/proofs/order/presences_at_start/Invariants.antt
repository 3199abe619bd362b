use Rattle.std.proofs.Common.{◌≡◌, ℕ, ◌<◌, List, length, get_or, cond, ltb}
use Rattle.replay_core.specs.declared.order.Presence.{Presence}
use Rattle.replay_core.specs.declared.order.Presence.TheVariants.{Away, Here}
use Rattle.replay_core.proofs.order.presences_at_start.Given as goal

-- those before the place are here, the others away
pub record AreSeated (presences : List Presence) (count : ℕ) : Type 0 where
  pub len : length presences ≡ 64
  pub each : (place : ℕ) (d : Presence) → place < 64 → get_or presences place d ≡ cond (ltb place count) Here Away

abbrev pub invariant-loop-place : goal.invariant-loop-place
invariant-loop-place l = AreSeated l.presences l.place
