use Rattle.std.proofs.Common.{◌≡◌, ◌+◌, [], ◌∷◌, ◌++◌, arith, ap, ◌∙◌}
use Rattle.lobby_state.specs.Desks.{desks as desk_count}
use Rattle.one_server.specs.Desks.{vacant}
use Rattle.one_server.specs.Whole.{parts_with, vacant_from}
use Rattle.hall_core.proofs.Opening.{parts_push, is_opened}
use Rattle.hall_core.proofs.ends.opening_parts.Goals as goal

pub loop-slot-preserved : goal.loop-slot-preserved
loop-slot-preserved c =
    let i = c.loop-slot.invariant in
    let pushed = c.in_ok-push-2.ensures in
    record {
      items =
          parts_push c.args.lobby c.loop-slot.slot c.loop-slot.parts.items c.push-in-loop-slot.new.self.items
          c.vacant.result i.items (c.vacant.ensures ∙ ap vacant c.new-in-loop-slot.ensures)
          (pushed.items ∙ ap (λ desk. c.loop-slot.parts.items ++ desk ∷ []) c.in_ok-desk.ensures);
      count = pushed.len ∙ ap (λ n. n + 1) i.count;
    }

pub returns-clause-items : goal.returns-clause-items
returns-clause-items c =
    let all : c.loop-slot.slot ≡ desk_count = omega (arith, c.loop-slot-test.false, c.loop-slot.auto.slot-end) in
    c.loop-slot.invariant.items ∙ ap (λ n. parts_with c.args.lobby (vacant_from 1 n)) all ∙ is_opened c.args.lobby
