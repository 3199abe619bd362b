use Rattle.std.proofs.Common.{◌<◌, ◌≤◌, ap, subst, sym, ◌∙◌}
use Rattle.lobby_state.specs.GoBoard.{is_against}
use Rattle.simul_control.specs.declared.place.Place.{Place}
use Rattle.lobby_state.proofs.Meeting.{position-is, position-nowhere}
use Rattle.lobby_state.proofs.roster.Roster.first_against.Goals as goal

pub returns-then-is_against-clause-first : goal.returns-then-is_against-clause-first
returns-then-is_against-clause-first c =
    let nowhere : Place = record { desk = 0; serial = 0; seat = 0 } in
    let here =
    ap (is_against c.args.self.now c.args.player) (sym (c.place.ensures nowhere)) ∙ sym c.is_against.ensures
    ∙ c.if-is_against.true in
    sym (position-is (is_against c.args.self.now c.args.player) c.args.places.now.rows c.loop-at.at (record {
      desk = 0;
      serial = 0;
      seat = 0;
    })
    (subst (λ n. c.loop-at.at < n) c.len-at-end.ensures.count c.loop-at-test.true)
    (λ k h. c.loop-at.invariant k (record { desk = 0; serial = 0; seat = 0 }) h) here)

pub returns-clause-first : goal.returns-clause-first
returns-clause-first c =
    sym (position-nowhere (is_against c.args.self.now c.args.player) c.args.places.now.rows c.loop-at.at (record {
      desk = 0;
      serial = 0;
      seat = 0;
    })
    (subst (λ n. n ≤ c.loop-at.at) c.len-at-end.ensures.count c.loop-at-test.false)
    (λ k h. c.loop-at.invariant k (record { desk = 0; serial = 0; seat = 0 }) h))
