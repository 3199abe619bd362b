use Rattle.std.proofs.Common.{◌+◌, ◌++◌, List, drop, length, take, refl, sym, ap, ◌∙◌, arith}
use Rattle.lobby_state.specs.declared.member.Member.{Member}
use Rattle.lobby_state.specs.Broadcast.{broadcast, heard, hearing}
use Rattle.lobby_state.proofs.Broadcasting.{heard_behind, heard_here, not_told, told_at, undone, went_out}
use Rattle.lobby_state.proofs.broadcast.+tell_from.Goals as goal

pub returns-then-is_told-clause-told : goal.returns-then-is_told-clause-told
returns-then-is_told-clause-told g t c =
    let p = g.P.Predicate.passes c.args.test.now in
    let x =
    told_at p c.args.line.now c.args.members.now c.tell.new.members c.args.place
    (omega (arith, c.requires, c.len.ensures.value, c.if-place-len.false)) c.in_ok-is_told.ensures.ok in
    heard_here p c.args.members.now c.args.place x.0 (hearing p c.args.line.now x.0) c.in_ok-is_told.is_told
    c.in-Ok.others
    x.1 (c.in_ok-is_told.ensures.told x.0 x.1) c.if-is_told.true
    (c.in-Ok.ensures.told ∙ ap (λ (ms : List Member). heard p (drop (c.args.place + 1) ms)) x.2)

pub returns-else-is_told-clause-told : goal.returns-else-is_told-clause-told
returns-else-is_told-clause-told g t c =
    let p = g.P.Predicate.passes c.args.test.now in
    let x =
    told_at p c.args.line.now c.args.members.now c.tell.new.members c.args.place
    (omega (arith, c.requires, c.len.ensures.value, c.if-place-len.false)) c.in_ok-is_told.ensures.ok in
    heard_behind p c.args.members.now c.args.place x.0 (hearing p c.args.line.now x.0) c.in_ok-is_told.is_told
    c.in-Ok.others
    x.1 (c.in_ok-is_told.ensures.told x.0 x.1) c.if-is_told.false
    (c.in-Ok.ensures.told ∙ ap (λ (ms : List Member). heard p (drop (c.args.place + 1) ms)) x.2)

pub returns-then-is_told-clause-ok : goal.returns-then-is_told-clause-ok
returns-then-is_told-clause-ok g t c =
    let p = g.P.Predicate.passes c.args.test.now in
    let line = c.args.line.now in
    let x =
    told_at p line c.args.members.now c.tell.new.members c.args.place
    (omega (arith, c.requires, c.len.ensures.value, c.if-place-len.false)) c.in_ok-is_told.ensures.ok in
    went_out p line c.args.members.now c.tell_from.new.members c.args.place x.0 (hearing p line x.0) x.1 refl
    (c.in-Ok.ensures.ok
    ∙ ap (λ (ms : List Member). take (c.args.place + 1) ms ++ broadcast p line (drop (c.args.place + 1) ms)) x.2)

pub returns-else-is_told-clause-ok : goal.returns-else-is_told-clause-ok
returns-else-is_told-clause-ok g t c =
    let p = g.P.Predicate.passes c.args.test.now in
    let line = c.args.line.now in
    let x =
    told_at p line c.args.members.now c.tell.new.members c.args.place
    (omega (arith, c.requires, c.len.ensures.value, c.if-place-len.false)) c.in_ok-is_told.ensures.ok in
    went_out p line c.args.members.now c.tell_from.new.members c.args.place x.0 (hearing p line x.0) x.1 refl
    (c.in-Ok.ensures.ok
    ∙ ap (λ (ms : List Member). take (c.args.place + 1) ms ++ broadcast p line (drop (c.args.place + 1) ms)) x.2)

pub returns-then-is_told-2-clause-err : goal.returns-then-is_told-2-clause-err
returns-then-is_told-2-clause-err g t c =
    let p = g.P.Predicate.passes c.args.test.now in
    let line = c.args.line.now in
    let x =
    told_at p line c.args.members.now c.tell.new.members c.args.place
    (omega (arith, c.requires, c.len.ensures.value, c.if-place-len.false)) c.in_ok-is_told.ensures.ok in
    undone p line c.args.members.now c.tell_from.new.members c.args.place x.0 c.in_ok-is_told.is_told
    c.waiting_mut.result.now c.take_back.new.self
    x.1 (c.in-Err.ensures.err ∙ x.2) (c.in_ok-is_told.ensures.told x.0 x.1) c.if-is_told-2.true
    c.waiting_mut.ensures.value c.take_back.ensures

pub returns-else-is_told-2-clause-err : goal.returns-else-is_told-2-clause-err
returns-else-is_told-2-clause-err g t c =
    let p = g.P.Predicate.passes c.args.test.now in
    let line = c.args.line.now in
    let x =
    told_at p line c.args.members.now c.tell.new.members c.args.place
    (omega (arith, c.requires, c.len.ensures.value, c.if-place-len.false)) c.in_ok-is_told.ensures.ok in
    c.in-Err.ensures.err ∙ c.in_ok-is_told.ensures.ok
    ∙ sym
    (not_told p line c.args.members.now c.args.place x.0 c.in_ok-is_told.is_told x.1
    (c.in_ok-is_told.ensures.told x.0 x.1) c.if-is_told-2.false)

pub waiting_mut-requires : goal.waiting_mut-requires
waiting_mut-requires g t c =
    omega (
      arith,
      ap length c.in-Err.ensures.err,
      c.in_ok-is_told.ensures.many,
      c.requires,
      c.len.ensures.value,
      c.if-place-len.false,
    )
