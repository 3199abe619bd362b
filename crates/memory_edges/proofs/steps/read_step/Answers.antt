use Rattle.std.proofs.Common.{◌≡◌, ◌+◌, List, [], ◌∷◌, ◌++◌, map, take, refl, sym, ap, ◌∙◌, arith, append-nil}
use Rattle.edge_traits.specs.Link.{Sign, Byte, Pause}
use Rattle.memory_edges.specs.Wire.{taken_at, left_at}
use Rattle.memory_edges.specs.declared.steps.Spot.{Spot}
use Rattle.memory_edges.proofs.StepSigns.{at_end, at_pause, at_pass, at_bytes}
use Rattle.memory_edges.proofs.steps.read_step.Goals as goal

pub loop-n-init : goal.loop-n-init
loop-n-init c = (refl, refl, c.requires.within)

pub split_at-requires : goal.split_at-requires
split_at-requires c = c.loop-n.invariant.2

pub returns-in-Ends-clause-left : goal.returns-in-Ends-clause-left
returns-in-Ends-clause-left c = sym c.loop-n.invariant.0

pub returns-in-Ends-clause-taken : goal.returns-in-Ends-clause-taken
returns-in-Ends-clause-taken c = c.loop-n.invariant.1 ∙ sym (append-nil (taken_at c.args.steps.now c.args.spot))

pub returns-in-Ends-clause-end : goal.returns-in-Ends-clause-end
returns-in-Ends-clause-end c =
    sym c.loop-n.invariant.0
    ∙ at_end c.split_at.result.1.now c.args.steps.now c.loop-n.at.step c.loop-n.at.offset c.look_at.new.buf
    c.split_at.ensures.back c.in-Ends.ensures

pub returns-in-Pauses-clause-left : goal.returns-in-Pauses-clause-left
returns-in-Pauses-clause-left c =
    let seen =
    at_pause c.split_at.result.1.now c.args.steps.now c.loop-n.at.step c.loop-n.at.offset c.look_at.new.buf
    c.split_at.ensures.back c.in-Pauses.ensures in
    sym c.loop-n.invariant.0 ∙ seen.left
    ∙ ap (λ (s : Spot). Pause ∷ left_at c.args.steps.now s) (sym c.next_step.ensures)

pub returns-in-Pauses-clause-taken : goal.returns-in-Pauses-clause-taken
returns-in-Pauses-clause-taken c =
    let seen =
    at_pause c.split_at.result.1.now c.args.steps.now c.loop-n.at.step c.loop-n.at.offset c.look_at.new.buf
    c.split_at.ensures.back c.in-Pauses.ensures in
    ap (taken_at c.args.steps.now) c.next_step.ensures ∙ seen.taken
    ∙ ap (λ (x : List Sign). x ++ Pause ∷ []) c.loop-n.invariant.1

pub returns-in-Gives-clause-left : goal.returns-in-Gives-clause-left
returns-in-Gives-clause-left c =
    let n = c.in-Gives.n in
    let seen =
    at_bytes c.split_at.result.1.now c.args.steps.now c.loop-n.at.step c.loop-n.at.offset n c.look_at.new.buf
    c.split_at.ensures.back c.in-Gives.ensures in
    sym c.loop-n.invariant.0 ∙ seen.left
    ∙ ap (λ (s : Spot). map Byte (take n c.look_at.new.buf) ++ left_at c.args.steps.now s) (sym c.further.ensures)

pub returns-in-Gives-clause-taken : goal.returns-in-Gives-clause-taken
returns-in-Gives-clause-taken c =
    let n = c.in-Gives.n in
    let seen =
    at_bytes c.split_at.result.1.now c.args.steps.now c.loop-n.at.step c.loop-n.at.offset n c.look_at.new.buf
    c.split_at.ensures.back c.in-Gives.ensures in
    ap (taken_at c.args.steps.now) c.further.ensures ∙ seen.taken
    ∙ ap (λ (x : List Sign). x ++ map Byte (take n c.look_at.new.buf)) c.loop-n.invariant.1

pub loop-n-smaller : goal.loop-n-smaller
loop-n-smaller c =
    let seen =
    at_pass c.split_at.result.1.now c.args.steps.now c.loop-n.at.step c.loop-n.at.offset c.look_at.new.buf
    c.split_at.ensures.back c.in-Passes.ensures in
    let next : c.next_step-at.result.step ≡ c.loop-n.at.step + 1 = ap (λ (s : Spot). s.step) c.next_step-at.ensures in
    omega (arith, seen.within, next)

pub loop-n-preserved : goal.loop-n-preserved
loop-n-preserved c =
    let seen =
    at_pass c.split_at.result.1.now c.args.steps.now c.loop-n.at.step c.loop-n.at.offset c.look_at.new.buf
    c.split_at.ensures.back c.in-Passes.ensures in
    let next : c.next_step-at.result.step ≡ c.loop-n.at.step + 1 = ap (λ (s : Spot). s.step) c.next_step-at.ensures in (
      ap (left_at c.args.steps.now) c.next_step-at.ensures ∙ seen.left ∙ c.loop-n.invariant.0,
      ap (taken_at c.args.steps.now) c.next_step-at.ensures ∙ seen.taken ∙ c.loop-n.invariant.1,
      omega (arith, seen.within, next),
    )
