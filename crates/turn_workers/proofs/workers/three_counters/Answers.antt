use Rattle.std.proofs.Common.{◌≡◌, ◌*◌, ◌∷◌, [], length, arith, ap, ◌∙◌}
use Rattle.std.specs.Prelude.{slice_index_or}
use Rattle.turn_table.specs.Views.{new_view}
use Rattle.turn_workers.proofs.Closing.{three_end}
use Rattle.turn_workers.proofs.workers.three_counters.Goals as goal

pub index-requires : goal.index-requires
index-requires g c =
    let k = c.close-parts.ensures in
    let m = c.in_three-one in
    let n = c.args.count in
    let e : c.close-parts.result.items ≡ 3 * n ∷ 2 * n ∷ [] =
    three_end n c.in_ok-table.base.view c.split-one.new.pass.view c.split-two.new.pass.view c.split-three.new.pass.view
    c.join.new.pass.view c.join-2.new.pass.view c.join-3.new.pass.view c.split-one.result.view c.split-two.result.view
    c.split-three.result.view
    m.result.0.view m.result.1.0.view m.result.1.1.view c.close-parts.result.items c.ranges.count.fits
    (c.in_ok-table.ensures.opens ∙ ap new_view c.in_ok-from_array.ensures.items) c.split-one.ensures.counted
    c.split-one.ensures.new c.split-two.ensures.counted c.split-two.ensures.new c.split-three.ensures.counted
    c.split-three.ensures.new
    m.ensures.one.1 m.ensures.two.1 m.ensures.three.1 c.join.ensures.joined c.join-2.ensures.joined
    c.join-3.ensures.joined (record {
      own = k.own;
      joined = k.joined;
      no_others = k.no_others;
    }) k.parts in
    omega (arith, c.close-parts.result.ok.0, ap length e)

pub index-requires-2 : goal.index-requires-2
index-requires-2 g c =
    let k = c.close-parts.ensures in
    let m = c.in_three-one in
    let n = c.args.count in
    let e : c.close-parts.result.items ≡ 3 * n ∷ 2 * n ∷ [] =
    three_end n c.in_ok-table.base.view c.split-one.new.pass.view c.split-two.new.pass.view c.split-three.new.pass.view
    c.join.new.pass.view c.join-2.new.pass.view c.join-3.new.pass.view c.split-one.result.view c.split-two.result.view
    c.split-three.result.view
    m.result.0.view m.result.1.0.view m.result.1.1.view c.close-parts.result.items c.ranges.count.fits
    (c.in_ok-table.ensures.opens ∙ ap new_view c.in_ok-from_array.ensures.items) c.split-one.ensures.counted
    c.split-one.ensures.new c.split-two.ensures.counted c.split-two.ensures.new c.split-three.ensures.counted
    c.split-three.ensures.new
    m.ensures.one.1 m.ensures.two.1 m.ensures.three.1 c.join.ensures.joined c.join-2.ensures.joined
    c.join-3.ensures.joined (record {
      own = k.own;
      joined = k.joined;
      no_others = k.no_others;
    }) k.parts in
    omega (arith, c.close-parts.result.ok.0, ap length e)

pub returns : goal.returns
returns g c =
    let k = c.close-parts.ensures in
    let m = c.in_three-one in
    let n = c.args.count in
    let e : c.close-parts.result.items ≡ 3 * n ∷ 2 * n ∷ [] =
    three_end n c.in_ok-table.base.view c.split-one.new.pass.view c.split-two.new.pass.view c.split-three.new.pass.view
    c.join.new.pass.view c.join-2.new.pass.view c.join-3.new.pass.view c.split-one.result.view c.split-two.result.view
    c.split-three.result.view
    m.result.0.view m.result.1.0.view m.result.1.1.view c.close-parts.result.items c.ranges.count.fits
    (c.in_ok-table.ensures.opens ∙ ap new_view c.in_ok-from_array.ensures.items) c.split-one.ensures.counted
    c.split-one.ensures.new c.split-two.ensures.counted c.split-two.ensures.new c.split-three.ensures.counted
    c.split-three.ensures.new
    m.ensures.one.1 m.ensures.two.1 m.ensures.three.1 c.join.ensures.joined c.join-2.ensures.joined
    c.join-3.ensures.joined (record {
      own = k.own;
      joined = k.joined;
      no_others = k.no_others;
    }) k.parts in (
      c.index.ensures ∙ ap (λ xs. slice_index_or xs 0 c.index.result.now) e,
      c.index-2.ensures ∙ ap (λ xs. slice_index_or xs 1 c.index-2.result.now) e,
    )
