use Rattle.std.proofs.Common.{◌≡◌, ◌≤◌, [], not, length, refl, sym, ap, subst, ◌∙◌, arith}
use Rattle.std.specs.Prelude.{◌==◌, bytes_eq}
use Rattle.std.specs.List.{filter, find}
use Rattle.fics_words.specs.Handle.{key_of}
use Rattle.lobby_state.specs.declared.member.Member.{Member}
use Rattle.lobby_state.specs.Lobby.{has_handle, is_session}
use Rattle.lobby_state.specs.Names.{AreNamedApart, AreRowsInOrder, row_of, with_row, with_rows}
use Rattle.lobby_state.proofs.Lent.{length-push}
use Rattle.lobby_state.proofs.NamedApart.{apart-push}
use Rattle.lobby_state.proofs.NamesInOrder.{rows_in_order, with_rows-push}
use Rattle.lobby_state.proofs.NewNames.{by_handle, none-with_rows, taken_back}
use Rattle.lobby_state.proofs.members.Members.push.Goals.{Joined-remove}
use Rattle.lobby_state.proofs.members.Members.push.Goals as goal

pub put_name-requires-clause-order : goal.put_name-requires-clause-order
put_name-requires-clause-order c = subst AreRowsInOrder (sym c.self.invariant.names) (rows_in_order c.self.inside.rows)

pub put_name-requires-clause-new : goal.put_name-requires-clause-new
put_name-requires-clause-new c =
    let key = key_of c.args.member.name in
    ap (find (λ row. bytes_eq key (key_of row.name))) c.self.invariant.names
    ∙ none-with_rows (λ row. bytes_eq key (key_of row.name)) [] c.self.inside.rows refl
    (by_handle key c.self.inside.rows ∙ ap (find (has_handle key)) c.self.view_is ∙ c.requires.handle)

-- where there is no memory for the name, the member is taken back
back : (c : Joined-remove) → c.remove.new.self ≡ c.self.inside.rows
back c =
    c.remove.ensures.rest
    ∙ ap (filter (λ (other : Member). not (c.args.member.session == other.session))) c.in_ok-push.ensures.ok
    ∙ taken_back c.self.inside.rows c.args.member
    (ap (find (is_session c.args.member.session)) c.self.view_is ∙ c.requires.session)

pub invariant_of-self-in-Err : goal.invariant_of-self-in-Err
invariant_of-self-in-Err c = record {
  within = subst (λ n. n ≤ 256) (sym (ap length (back c))) c.self.invariant.within;
  names = c.in-Err.ensures.err ∙ c.self.invariant.names ∙ ap (with_rows []) (sym (back c));
  apart = subst AreNamedApart (sym (back c)) c.self.invariant.apart;
}

pub returns-in-Err-clause-err : goal.returns-in-Err-clause-err
returns-in-Err-clause-err c = back c ∙ c.self.view_is

pub invariant_of-self-in_default : goal.invariant_of-self-in_default
invariant_of-self-in_default c = record {
  within =
      omega (
        arith,
        ap length c.in_ok-push.ensures.ok,
        length-push c.self.inside.rows c.args.member,
        ap length c.self.view_is,
        c.requires.room,
      );
  names = c.in_default.ensures.ok ∙ ap (with_row (row_of c.args.member)) c.self.invariant.names
      ∙ sym (with_rows-push [] c.self.inside.rows c.args.member) ∙ ap (with_rows []) (sym c.in_ok-push.ensures.ok);
  apart = subst AreNamedApart (sym c.in_ok-push.ensures.ok)
      (apart-push c.self.inside.rows c.args.member c.self.invariant.apart
      (ap (find (has_handle (key_of c.args.member.name))) c.self.view_is ∙ c.requires.handle));
}
