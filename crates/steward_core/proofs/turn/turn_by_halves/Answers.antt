use Rattle.std.proofs.Common.{◌++◌, refl}
use Rattle.steward_core.proofs.AgreedStill.{agreed_then, agreed_unsaved, clearing_unsaved}
use Rattle.one_server.proofs.Made.{made_then}
use Rattle.steward_core.proofs.turn.turn_by_halves.Goals as goal

pub returns-clause-turn : goal.returns-clause-turn
returns-clause-turn g c =
    let one = c.clearing_turn-cleared.ensures.cleared in
    let two = c.save_orders-saved.ensures.saving in (
      record {
        entries = one.entries ++ two.entries;
        carried = two.carried;
        grew =
            made_then (g.R.Runner.state c.args.runner.now) (g.R.Runner.state c.clearing_turn-cleared.new.runner)
            (g.R.Runner.state c.save_orders-saved.new.runner) one.entries two.entries one.grew two.grew;
        turn = record {
          cleared = c.clearing_turn-cleared.result;
          saved = c.save_orders-saved.result;
          first = one.entries;
          rest = two.entries;
          all = refl;
          clearing = one.cleared;
          saving = two.saving;
          ends = refl;
        };
        kept = two.kept;
        called = two.called;
      },
      refl,
    )

pub returns-clause-agrees : goal.returns-clause-agrees
returns-clause-agrees g c =
    let old = g.R.Runner.state c.args.runner.now in
    let mid = g.R.Runner.state c.clearing_turn-cleared.new.runner in
    let new = g.R.Runner.state c.save_orders-saved.new.runner in
    let table = g.P.Keeper.table c.args.keeper.now in
    let one = c.clearing_turn-cleared.ensures.cleared in
    let two = c.save_orders-saved.ensures.saving in
    agreed_then table table (g.P.Keeper.table c.save_orders-saved.new.keeper) old mid new one.entries two.entries
    one.grew two.grew
    (agreed_unsaved table old mid one.entries c.session-session.ensures.known one.grew
    (clearing_unsaved c.args.moment c.clearing_turn-cleared.result one.entries one.cleared))
    c.save_orders-saved.ensures.agrees
