use Rattle.std.proofs.Common.{◌≡◌, ◌+◌, ◌-◌, ◌/◌, ◌^◌, ◌<◌, List, get_or, length, ap, arith, rules}
use Rattle.lobby_shelf.specs.declared.shelved.Shelved.{Shelved}
use Rattle.collections.proofs.Rising.{first_gap-above, first_gap-within, gap_before, gap_behind}
use Rattle.lobby_shelf.specs.Numbers.{next_number, number_of}
use Rattle.lobby_shelf.proofs.rack.Rack.next_number.Goals as goal

pub loop-low-init : goal.loop-low-init
loop-low-init c =
    let all : c.len-high.result ≡ length c.args.self.now = search rules in
    let above = first_gap-above number_of c.args.self.now 1 in
    let short = first_gap-within number_of c.args.self.now 1 in
    record { within = omega (arith, all); least = omega (arith, above); most = omega (arith, all, short) }

pub loop-low-preserved-then-row-middle : goal.loop-low-preserved-then-row-middle
loop-low-preserved-then-row-middle c =
    let games = c.self.inside.games.items in
    let seen = c.index-row.result.now in
    let middle = c.loop-low.low + (c.loop-low.high - c.loop-low.low) / 2 in
    let test : c.loop-low.low < c.loop-low.high = c.loop-low-test.true in
    let within = c.loop-low.invariant.within in
    let all = ap (λ (l : List Shelved). length l) c.self.view_is in
    let here : seen.number ≡ middle + 1 = c.if-row-middle.true in
    let at : seen.number ≡ (get_or games middle seen).number = ap (λ (row : Shelved). row.number) c.index-row.ensures in
    let behind =
    gap_behind number_of (2 ^ 64) 0 games middle seen c.self.invariant.order (omega (arith, test, within, all))
    (omega (arith, here, at)) in
    let same = ap next_number c.self.view_is in
    record { within = within; least = omega (arith, behind, same); most = c.loop-low.invariant.most }

pub loop-low-preserved : goal.loop-low-preserved
loop-low-preserved c =
    let games = c.self.inside.games.items in
    let seen = c.index-row.result.now in
    let middle = c.loop-low.low + (c.loop-low.high - c.loop-low.low) / 2 in
    let test : c.loop-low.low < c.loop-low.high = c.loop-low-test.true in
    let within = c.loop-low.invariant.within in
    let all = ap (λ (l : List Shelved). length l) c.self.view_is in
    let at : seen.number ≡ (get_or games middle seen).number = ap (λ (row : Shelved). row.number) c.index-row.ensures in
    let before = gap_before number_of 0 games middle seen (omega (arith, test, within, all))
    (λ e.
    c.if-row-middle.false
    (let same : (get_or games middle seen).number ≡ 0 + 1 + middle = e in omega (arith, at, same))) in
    let same = ap next_number c.self.view_is in
    record {
      within = omega (arith, test, within);
      least = c.loop-low.invariant.least;
      most = omega (arith, before, same);
    }

pub returns-clause-number : goal.returns-clause-number
returns-clause-number c =
    let least = c.loop-low.invariant.least in
    let most = c.loop-low.invariant.most in
    let done = c.loop-low-test.false in
    omega (arith, least, most, done)
