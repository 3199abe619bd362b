use Rattle.std.proofs.Common.{◌≤◌, refl, sym, subst, ◌∙◌}
use Rattle.lobby_state.specs.declared.member.Member.{Member}
use Rattle.lobby_state.proofs.Lent.{length-change_at}
use Rattle.lobby_state.proofs.NamesKept.{apart_kept, rows_at, rows_kept}
use Rattle.lobby_state.proofs.members.Members.noplay_mut.Goals as goal

pub invariant_of-self-lent : goal.invariant_of-self-lent
invariant_of-self-lent c lent =
    let members = c.self.inside.rows in
    let same = rows_at (λ (m : Member). record m { noplay = lent }) (λ m. refl) members c.args.place in
    record {
      within = subst (λ n. n ≤ 256) (sym (length-change_at _ members c.args.place)) c.self.invariant.within;
      names = c.self.invariant.names ∙ sym (rows_kept members _ same);
      apart = apart_kept members _ same c.self.invariant.apart;
    }
