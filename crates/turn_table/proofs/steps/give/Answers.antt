use Rattle.std.proofs.Common.{arith, sym, subst, ◌∙◌}
use mathlib.Core.Option.{none}
use Rattle.atomic_table.specs.Table.{Allows, step, rest}
use Rattle.turn_table.specs.Rule.{Ruled}
use Rattle.turn_table.specs.Plays.{GivesTurn}
use Rattle.turn_table.proofs.Giving.{gives_turn}
use Rattle.turn_table.proofs.steps.give.Goals as goal

pub store-requires : goal.store-requires
store-requires g c =
    let t = c.requires.table in
    let e = c.exchange-none.ensures in
    let k = c.args.table.now.table_id.slots in
    let xs = c.args.table.now.key.value.items in (
      e.0 ∙ t.same,
      omega (arith, c.requires.there, t.words),
      subst (λ me.
          Allows (Ruled g.S.Served.core xs) k c.exchange-none.new.seat.id me c.args.part (λ _. 0)
          (λ _. GivesTurn g.S.Served.core (step k c.args.part 0 0 none) me 0))
          (sym e.3)
          (gives_turn g.S.Served.core g.S.Served.lawful xs c.exchange-none.new.seat.id c.args.seat.now.me.0
          (rest c.args.seat.now.me.1) c.requires.alive c.args.part c.args.value c.requires.named k (sym t.slots)),
    )
