-- An account more: each handle still has at most one.
use Rattle.std.proofs.Common.{◌≡◌, ℕ, ◌<◌, ◌≤◌, length, length-append, arith, Bool, true, false, cond, List, [], ◌∷◌, ◌++◌, refl, sym, ap, ◌∙◌, Some, None}
use Rattle.std.specs.Prelude.{Option, bytes_eq, is_some}
use Rattle.std.specs.List.{find}
use Rattle.std.specs.Cmp.Lexicographic.{nat_list_eq_equiv}
use Rattle.fics_words.specs.Handle.{key_of}
use Rattle.fics_words.specs.declared.account.Account.{Account}
use Rattle.login_handles.specs.Accounts.{account_of, HasOneEach}
use Rattle.fics_words.proofs.Causes.{first_none}

account_of-append : (accounts : List Account) (last : Account) (key : List ℕ) → account_of accounts key ≡ None
    → bytes_eq (key_of last.name) key ≡ false
    → account_of (accounts ++ last ∷ []) key ≡ None
account_of-append [] last key none other = ap (λ (t : Bool). cond t (Some last) None) other
account_of-append (first ∷ accounts) last key none other =
    let both = first_none (bytes_eq (key_of first.name) key) first (account_of accounts key) none in
    ap (λ (t : Bool). cond t (Some first) (account_of (accounts ++ last ∷ []) key)) both.0
    ∙ account_of-append accounts last key both.1 other

pub HasOneEach-append : (accounts : List Account) (last : Account) → HasOneEach accounts
    → account_of accounts (key_of last.name) ≡ None
    → HasOneEach (accounts ++ last ∷ [])
HasOneEach-append [] last each none = (refl, tt)
HasOneEach-append (first ∷ accounts) last each none =
    let both =
    first_none (bytes_eq (key_of first.name) (key_of last.name)) first (account_of accounts (key_of last.name))
    none in (
      account_of-append accounts last (key_of first.name) each.0
          (nat_list_eq_equiv.symm (key_of last.name) (key_of first.name) ∙ both.0),
      HasOneEach-append accounts last each.1 both.1,
    )

-- a table finds the same account, whichever of the two keys stands first
pub found_turned : (accounts : List Account) (key : List ℕ)
    → find (λ account. bytes_eq key (key_of account.name)) accounts ≡ account_of accounts key
found_turned accounts key = λ j. find (λ account. nat_list_eq_equiv.symm key (key_of account.name) j) accounts

-- a search that found nothing
pub no_account : (found account : Option Account) → found ≡ account → is_some found ≡ false → account ≡ None
no_account None account e none = sym e
no_account (Some there) account e none = absurd (let bad : true ≡ false = none in cc)

pub length-one_more : (accounts : List Account) (last : Account) → length accounts < 4096
    → length (accounts ++ last ∷ []) ≤ 4096
length-one_more accounts last h = let long = length-append accounts (last ∷ []) in omega (arith, long)
