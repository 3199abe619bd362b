use Rattle.std.proofs.Common.{◌∷◌, Some, arith, sym, ap, ◌∙◌}
use mathlib.Core.Option.{none}
use Rattle.atomic_table.specs.Table.{rest, step}
use Rattle.turn_table.proofs.Taking.{takes_turn, took}
use Rattle.turn_table.proofs.steps.try_take.Goals as goal

pub compare_exchange-requires : goal.compare_exchange-requires
compare_exchange-requires g c =
    let t = c.requires.table in (
      t.same,
      omega (arith, c.requires.there, t.words),
      takes_turn g.S.Served.core g.S.Served.lawful c.args.table.now.key.value.items c.args.seat.now.id
          c.args.seat.now.me
          c.requires.alive c.args.part c.requires.may c.requires.not_held c.args.table.now.table_id.slots (sym t.slots),
    )

pub exchange-found-requires : goal.exchange-found-requires
exchange-found-requires g c =
    let e = c.compare_exchange.ensures in
    let t =
    took g.S.Served.core (step c.args.table.now.table_id.slots c.args.part 0 1 none) c.args.seat.now.me
    c.compare_exchange.result c.compare_exchange.new.seat.me c.if-compare_exchange-ne0.false e.2 in (
      e.0 ∙ c.requires.table.same,
      (Some t.0, t.1.slot ∙ ap (λ xs. (c.args.part, Some t.0) ∷ xs) (sym (ap rest t.1.slot))),
    )
