use Rattle.std.proofs.Common.{◌≡◌, ℕ, ◌+◌, List, Some, slice_get, sym, subst, arith}
use Rattle.session_core.specs.Memory.{MemoryState}
use Rattle.cmd_replay.specs.Evening.{AfterLeaving}
use Rattle.cmd_replay.proofs.Leaving.{AreLeft, left_none, left_one, one_leaves, one_stays}
use Rattle.cmd_replay.proofs.evening.close_sessions.Goals as goal
use Rattle.cmd_replay.proofs.evening.close_sessions.Goals.{then-is_here+in_ok-leave_server, else-is_here}

pub loop-place-preserved : goal.loop-place-preserved
loop-place-preserved c =
    let progress = c.args.order.now in
    let all = c.args.sessions.now in
    let now = c.loop-place.sessions in
    let place = c.loop-place.place in
    elim c.if-is_here.branch [
      | then-is_here+in_ok-leave_server w ↦
          let memory = w.item_mut.result.now in
          let took : slice_get now place ≡ Some memory = w.item_mut.ensures.value in
          record {
            left =
                subst (AfterLeaving progress all c.args.moment (place + 1) c.args.server.now) (sym w.server-is)
                (one_leaves progress all now memory w.leave_server.new.session c.args.moment place c.args.server.now
                c.loop-place.server w.leave_server.new.server c.is_here.result c.is_here.ensures w.if-is_here.true
                c.loop-place-test.true c.loop-place.invariant.left c.loop-place.invariant.sessions took
                w.in_ok-leave_server.ensures);
            sessions =
                subst (λ (m : List MemoryState). AreLeft all m (place + 1)) (sym w.sessions-is)
                (left_one all now place w.leave_server.new.session c.loop-place.invariant.sessions);
          }
      | else-is_here w ↦
          record {
            left =
                subst (AfterLeaving progress all c.args.moment (place + 1) c.args.server.now) (sym w.server-is)
                (one_stays progress all c.args.moment place c.args.server.now c.loop-place.server c.is_here.result
                c.is_here.ensures w.if-is_here.false c.loop-place.invariant.left);
            sessions =
                subst (λ (m : List MemoryState). AreLeft all m (place + 1)) (sym w.sessions-is)
                (left_none all now place c.loop-place.invariant.sessions);
          }
    ]

pub returns-clause-left : goal.returns-clause-left
returns-clause-left c =
    let end = c.loop-place.auto.place-end in
    let out = c.loop-place-test.false in
    let whole : c.loop-place.place ≡ 64 = omega (arith, end, out) in
    subst (λ (count : ℕ).
    AfterLeaving c.args.order.now c.args.sessions.now c.args.moment count c.args.server.now c.loop-place.server)
    whole c.loop-place.invariant.left
