use Rattle.std.proofs.Common.{◌+◌, ◌%◌, ◌^◌, ℕ, arith, sym, subst, ◌∙◌}
use mathlib.Core.Option.{none}
use Rattle.atomic_table.specs.Table.{Allows, step}
use Rattle.turn_table.specs.Rule.{Ruled}
use Rattle.turn_table.specs.Plays.{Commits}
use Rattle.turn_table.proofs.Committing.{commits}
use Rattle.turn_table.proofs.steps.commit.Goals as goal

pub fetch_add-requires : goal.fetch_add-requires
fetch_add-requires g c =
    let t = c.requires.table in
    let o = c.requires.out in
    let me = c.args.seat.now.me in
    let k = c.args.table.now.table_id.slots in
    let xs = c.args.table.now.key.value.items in (
      t.same,
      omega (arith, c.requires.count, t.words),
      subst (λ (i : ℕ).
          Allows (Ruled g.S.Served.core xs) k c.args.seat.now.id me i (λ n. (n + 1) % 2 ^ 64)
          (Commits g.S.Served.core (step k i 1 0 none) me))
          (t.slots ∙ sym c.requires.count)
          (commits g.S.Served.core g.S.Served.lawful xs c.args.seat.now.id me c.requires.alive o.0 o.1 o.2 o.3 k
          (sym t.slots)),
    )
