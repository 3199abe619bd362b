use Rattle.std.proofs.Common.{◌*◌, ◌/◌, ◌%◌, ℕ, ap, ◌∙◌}
use Rattle.std.proofs.Math.Nat.{mod-add-mod}
use Rattle.replay_core.specs.Draws.{drawn, drawn_on}
use Rattle.replay_core.proofs.draws.Draws.draw.Goals as goal

pub returns-clause-on : goal.returns-clause-on
unfolding drawn_on
returns-clause-on c =
    mod-add-mod (c.self.inside.number * 6364136223846793005) 18446744073709551616 1442695040888963407
    ∙ ap drawn_on c.self.view_is

pub returns-clause-value : goal.returns-clause-value
unfolding drawn drawn_on
returns-clause-value c =
    ap (λ (n : ℕ). n / 8589934592 % c.args.below)
    (mod-add-mod (c.self.inside.number * 6364136223846793005) 18446744073709551616 1442695040888963407)
    ∙ ap (λ (n : ℕ). drawn n c.args.below) c.self.view_is
