use Rattle.std.proofs.Common.{◌≡◌, ◌||◌, ℕ, Bool, Bor, true, false, cond, List, [], ◌∷◌, ◌++◌, Option, None, Some, is_some, map, option_copied, refl, sym, ap, ◌∙◌}
use Rattle.std.specs.Prelude.{bytes_eq}
use Rattle.std.specs.List.{find}
use Rattle.fics_words.specs.Handle.{key_of}
use Rattle.fics_words.specs.declared.account.Account.{Account}
use Rattle.login_handles.specs.Accounts.{account_of}
use Rattle.login_handles.specs.Guests.{is_taken}
use Rattle.lobby_state.specs.declared.member.Member.{Member}
use Rattle.lobby_state.specs.Lobby.{has_handle}
use Rattle.lobby_state.proofs.acts.enter.NamesTakenNamesInUse.has.Goals as goal

of_accounts : (accounts : List Account) (key : List ℕ)
    → is_some (account_of accounts key) ≡ is_taken (map (λ (account : Account). key_of account.name) accounts) key
of_accounts [] key = refl
of_accounts (account ∷ accounts) key =
    elim (bytes_eq (key_of account.name) key)
    as (λ t.
    is_some (cond t (Some account) (account_of accounts key))
    ≡ (t || is_taken (map (λ (account : Account). key_of account.name) accounts) key)) [
      | true ↦ refl
      | false ↦ of_accounts accounts key
    ]

-- a member or an account has the handle exactly where its key is among those of both
of_both : (members : List Member) (accounts : List Account) (key : List ℕ)
    → (is_some (find (has_handle key) members) || is_some (account_of accounts key))
    ≡ is_taken
    (map (λ (member : Member). key_of member.name) members ++ map (λ (account : Account). key_of account.name) accounts)
    key
of_both [] accounts key = of_accounts accounts key
of_both (member ∷ members) accounts key =
    elim (bytes_eq (key_of member.name) key)
    as (λ t. (is_some (cond t (Some member) (find (has_handle key) members)) || is_some (account_of accounts key))
    ≡ (t
    || is_taken
    (map (λ (member : Member). key_of member.name) members ++ map (λ (account : Account). key_of account.name) accounts)
    key)) [
      | true ↦ refl
      | false ↦ of_both members accounts key
    ]

-- where no member has the handle, its account is asked for
in_accounts : (members : List Member) (accounts : List Account) (key : List ℕ) (t : Bool)
    → is_some (find (has_handle key) members) ≡ t
    → (t || is_some (account_of accounts key))
    ≡ is_taken
    (map (λ (member : Member). key_of member.name) members ++ map (λ (account : Account). key_of account.name) accounts)
    key
in_accounts members accounts key t is =
    ap (λ t. t || is_some (account_of accounts key)) (sym is) ∙ of_both members accounts key

of_copied : (found : Option (Bor Member)) → is_some (option_copied found) ≡ is_some found
of_copied None = refl
of_copied (Some member) = refl

pub returns-then-is_some : goal.returns-then-is_some
returns-then-is_some c =
    c.if-is_some.true
    ∙ in_accounts c.args.self.now.members.now c.args.self.now.accounts.now c.args.key true
    (ap is_some (sym c.with_handle.ensures.member) ∙ of_copied c.with_handle.result ∙ sym c.is_some.ensures
    ∙ c.if-is_some.true)

pub returns-else-is_some : goal.returns-else-is_some
returns-else-is_some c =
    c.is_some-else-is_some.ensures
    ∙ ap is_some c.get.ensures
    ∙ in_accounts c.args.self.now.members.now c.args.self.now.accounts.now c.args.key false
    (ap is_some (sym c.with_handle.ensures.member) ∙ of_copied c.with_handle.result ∙ sym c.is_some.ensures
    ∙ c.if-is_some.false)
