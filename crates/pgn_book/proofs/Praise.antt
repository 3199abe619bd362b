-- Words without praise.
use Rattle.std.proofs.Common.{◌≡◌, ℕ, ◌≤◌, List, length, take}
use Rattle.pgn_book.specs.Games.{without_praise}

-- what stands behind is praise
pub record Cut (word : List ℕ) (end : ℕ) : Type 0 where
  pub same : without_praise (take end word) ≡ without_praise word
  pub within : end ≤ length word
