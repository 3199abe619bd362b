-- A page while tokens are laid on it.
use Rattle.std.specs.Prelude.{◌≡◌, ℕ, ◌+◌, nat_le, nat_eq, if◌then◌else◌, List, ◌∷◌, ◌++◌, length}
use Rattle.pgn_book.specs.Export.{laid}

-- the text so far, and the column in which it ends
pub record Page : Type 0 where
  pub text : List ℕ
  pub column : ℕ

-- the page with a token more
abbrev pub placed : Page → List ℕ → Page
placed page token =
    if nat_eq page.column 0 then record { text = page.text ++ token; column = length token }
    else if nat_le (page.column + 1 + length token) 79 then
    record { text = page.text ++ 32 ∷ token; column = page.column + 1 + length token }
    else record { text = page.text ++ 10 ∷ token; column = length token }

-- the tokens were laid, whatever follows them
pub record Lays (old new : Page) (tokens : List (List ℕ)) : Type 0 where
  pub laid_so : (more : List (List ℕ)) → new.text ++ laid new.column more
      ≡ old.text ++ laid old.column (tokens ++ more)
