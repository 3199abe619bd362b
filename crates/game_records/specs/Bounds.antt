-- Which values a record can have.
use Rattle.std.specs.Prelude.{◌≡◌, ℕ, ◌*◌, ◌<◌, ◌≤◌, nat_eq, List, length, Option, Some, None, ⊤}
use Rattle.std.specs.List.{AllByRecursion, count_by}
use Rattle.chess_model.specs.Limits.{most_time, most_halves}
use Rattle.chess_model.specs.declared.moves.Move.{Move}
use Rattle.chess_model.specs.declared.moves.Move.TheVariants.{Plain, Castle, Drop}
use Rattle.chess_model.specs.declared.variant.Terms.{Terms}
use Rattle.chess_model.specs.declared.variant.Variant.{Variant}
use Rattle.chess_model.specs.declared.variant.Variant.TheVariants.{Chess, Crazyhouse, Bughouse, Fischer}
use Rattle.chess_model.specs.VariantWord.{IsNumbered}
use Rattle.clock_ledger.specs.declared.charges.Charge.{Charge}
use Rattle.clock_ledger.specs.Charges.{IsChargeable}
use Rattle.fics_words.specs.Handle.{IsHandle}
use Rattle.game_records.specs.declared.stored_game.Half.{Half}
use Rattle.game_records.specs.declared.stored_game.StoredGame.{StoredGame}
use Rattle.game_records.specs.declared.records.Record.{Record}
use Rattle.game_records.specs.declared.records.Record.TheVariants.{Account, Game}
use Rattle.game_records.specs.Codes.{HasCode}

-- how many boards a game is played on
abbrev pub boards : Variant → ℕ
boards Chess = 1
boards Crazyhouse = 1
boards Bughouse = 2
boards (Fischer number) = 1

-- how many players a game has
abbrev pub seats : Variant → ℕ
seats v = 2 * boards v

-- at most 600 minutes and 600 seconds, an array that there is, and no colour
pub record AreStoredTerms (t : Terms) : Type 0 where
  pub minutes : t.minutes ≤ most_time
  pub increment : t.increment ≤ most_time
  pub array : IsNumbered t.variant
  pub colour : t.colour ≡ None

-- a charge that a clock may have
abbrev pub IsCharge : Option Charge → Type 0
IsCharge None = ⊤
IsCharge (Some charge) = IsChargeable charge

-- a half-move of a board of the game, which has a code
pub record IsHalf (v : Variant) (h : Half) : Type 0 where
  pub first : 1 ≤ h.board
  pub last : h.board ≤ boards v
  pub code : HasCode h.what
  pub charge : IsCharge h.charge

-- the half-moves of a board
abbrev pub count_on_board : ℕ → List Half → ℕ
count_on_board board halves = count_by (λ h. nat_eq h.board board) halves

-- at most 1,200 half-moves on each board
pub record AreHalves (v : Variant) (halves : List Half) : Type 0 where
  pub each : AllByRecursion (IsHalf v) halves
  pub few : length halves ≤ most_halves * boards v
  pub first : count_on_board 1 halves ≤ most_halves
  pub second : count_on_board 2 halves ≤ most_halves

pub record IsGame (g : StoredGame) : Type 0 where
  pub terms : AreStoredTerms g.terms
  pub players : length g.names ≡ seats g.terms.variant
  pub halves : AreHalves g.terms.variant g.halves

-- a value that has a spelling
abbrev pub IsSpellable : Record → Type 0
IsSpellable (Account account) = ⊤
IsSpellable (Game game) = IsGame game

-- squares are from 0 to 63
abbrev pub AreSquares : Move → Type 0
AreSquares (Plain from to promo) = (from < 64) × (to < 64)
AreSquares (Castle long) = ⊤
AreSquares (Drop k to) = to < 64

-- what holds of every value of the types: names are handles, squares are on the board, and a digest has 32 bytes
abbrev pub IsTyped : Record → Type 0
IsTyped (Account account) = IsHandle account.name × (length account.digest ≡ 32)
IsTyped (Game game) = AllByRecursion IsHandle game.names × AllByRecursion (λ h. AreSquares h.what) game.halves
