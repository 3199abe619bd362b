use Rattle.std.proofs.Common.{[], not, length, sym, ap, subst, ◌∙◌, arith}
use Rattle.std.specs.Prelude.{◌==◌}
use Rattle.std.specs.List.{filter}
use Rattle.lobby_state.specs.declared.member.Member.{Member}
use Rattle.lobby_state.specs.declared.name_row.NameRow.{NameRow}
use Rattle.lobby_state.specs.Names.{AreNamedApart, with_rows}
use Rattle.lobby_state.proofs.Lent.{fewer}
use Rattle.lobby_state.proofs.NamedApart.{apart-filter}
use Rattle.lobby_state.proofs.NamesInOrder.{filter-with_rows, none_in_order}
use Rattle.lobby_state.proofs.members.Members.remove.Goals as goal

pub invariant_of-self : goal.invariant_of-self
invariant_of-self c =
    let left = fewer (λ (member : Member). not (c.args.session == member.session)) c.self.inside.rows in
    record {
      within = omega (arith, ap length c.remove.ensures.rest, left, c.self.invariant.within);
      names =
          c.retain.ensures ∙ ap (filter (λ (row : NameRow). not (c.args.session == row.session))) c.self.invariant.names
          ∙ filter-with_rows (λ row. not (c.args.session == row.session)) [] c.self.inside.rows none_in_order
          ∙ ap (with_rows []) (sym c.remove.ensures.rest);
      apart =
          subst AreNamedApart (sym c.remove.ensures.rest) (apart-filter _ c.self.inside.rows c.self.invariant.apart);
    }
