use Rattle.std.proofs.Common.{ap, ◌∙◌}
use Rattle.turn_table.specs.Views.{new_view}
use Rattle.turn_workers.proofs.SeenOnce.{seen_is}
use Rattle.turn_workers.proofs.looking.one_act_seen.Goals as goal

pub returns : goal.returns
returns g c =
    seen_is c.in_ok-table.base.view c.split-other.new.pass.view c.join.new.pass.view c.look.new.pass.view
    c.split-other.result.view c.bump_first.new.pass.view
    (c.in_ok-table.ensures.opens ∙ ap new_view c.in_ok-from_array.ensures.items) c.split-other.ensures.counted
    c.split-other.ensures.new c.bump_first.ensures.made c.join.ensures.joined c.look.ensures.looked c.look.ensures.seen
