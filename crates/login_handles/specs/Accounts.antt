-- Accounts: a list, in which a handle is found by its key. This server's own.
use Rattle.std.specs.Prelude.{◌≡◌, ℕ, ◌≤◌, nat_le, if◌then◌else◌, bytes_eq, is_some, true, List, [], ◌∷◌, ◌++◌, length, Option, Some, None}
use Rattle.std.specs.List.{find}
use Rattle.fics_words.specs.Handle.{key_of}
use Rattle.fics_words.specs.Effect.{Effect}
use Rattle.fics_words.specs.declared.account.Account.{Account}
use Rattle.fics_words.specs.declared.refusal.Refusal.TheVariants.{AlreadyRegistered, AccountsFull}
use Rattle.login_handles.specs.declared.check.Check.{Check}
use Rattle.login_handles.specs.declared.check.Check.TheVariants.{Free, NeedPassword, Right, Wrong}

-- the account of the handle that has this key
abbrev pub account_of : List Account → List ℕ → Option Account
account_of accounts key = find (λ account. bytes_eq (key_of account.name) key) accounts

-- each handle has at most one account
abbrev pub HasOneEach : List Account → Type 0
HasOneEach [] = Unit {0}
HasOneEach (account ∷ accounts) = (account_of accounts (key_of account.name) ≡ None) × HasOneEach accounts

-- at most one account a handle, and at most 4,096 in all
abbrev pub AreAccounts : List Account → Type 0
AreAccounts accounts = HasOneEach accounts × (length accounts ≤ 4096)

-- what a login finds, by the handle's account and the digest that was given
abbrev pub check_of : Option Account → Option (List ℕ) → Check
check_of None digest = Free
check_of (Some account) None = NeedPassword
check_of (Some account) (Some digest) = if bytes_eq digest account.digest then Right else Wrong

-- registering a handle: why it is refused, and what stands afterwards
abbrev pub registering : List Account → List ℕ → List ℕ → Effect (List Account) (Unit {0})
registering accounts name digest = record {
  causes =
      (is_some (account_of accounts (key_of name)), AlreadyRegistered) ∷ (nat_le 4096 (length accounts), AccountsFull)
      ∷ [];
  memory = true;
  reply = tt;
  after = accounts ++ record { name = name; digest = digest } ∷ [];
}
