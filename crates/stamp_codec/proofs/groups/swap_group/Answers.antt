use Rattle.std.proofs.Common.{ℕ, List, ap, ◌∙◌}
use Rattle.std.specs.Prelude.{swap}
use Rattle.stamp_codec.proofs.Swaps.{swapped_group}
use Rattle.stamp_codec.proofs.groups.swap_group.Goals as goal

pub returns : goal.returns
returns c =
    c.swap-3.ensures.after
    ∙ ap (λ (bytes : List ℕ). swap bytes 4 7)
    (c.swap-2.ensures.after ∙ ap (λ (bytes : List ℕ). swap bytes 2 9) c.swap.ensures.after)
    ∙ swapped_group c.args.group.now c.requires
