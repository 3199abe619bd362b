use Rattle.std.proofs.Common.{◌≡◌, List, None, sym, ap, subst, ◌∙◌, arith}
use Rattle.fics_words.specs.declared.account.Account.{Account}
use Rattle.fics_words.specs.Handle.{key_of}
use Rattle.login_handles.specs.Accounts.{account_of, AreAccounts}
use Rattle.login_handles.proofs.AccountLists.{HasOneEach-append, found_turned, length-one_more, no_account}
use Rattle.login_handles.proofs.accounts.Accounts.add.Goals as goal

pub push-requires : goal.push-requires
push-requires c =
    let rows = c.self.inside.rows in
    found_turned rows (key_of c.args.name)
    ∙ ap (λ (l : List Account). account_of l (key_of c.args.name)) c.self.view_is
    ∙ ap (account_of c.args.self.now) (sym c.key.ensures)
    ∙ no_account _ _ c.get.ensures (sym c.is_some.ensures ∙ c.if-is_some.false)

pub invariant_of-self-2 : goal.invariant_of-self-2
invariant_of-self-2 c =
    let rows = c.self.inside.rows in
    let found : account_of rows (key_of c.args.name) ≡ None =
    ap (λ (l : List Account). account_of l (key_of c.args.name)) c.self.view_is
    ∙ ap (account_of c.args.self.now) (sym c.key.ensures)
    ∙ no_account _ _ c.get.ensures (sym c.is_some.ensures ∙ c.if-is_some.false) in
    subst AreAccounts (sym (c.in_ok-push.ensures.ok)) (
      HasOneEach-append rows _ c.self.invariant.0 found,
      length-one_more rows _ (omega (arith, c.if-len-ge-MOST.false, c.len.ensures)),
    )
