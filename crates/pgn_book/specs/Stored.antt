-- Stored games of chess, as PGN text tells them.
use Rattle.std.specs.Prelude.{◌≡◌, ℕ, List, [], map, get_or, codes}
use Rattle.chess_model.specs.declared.variant.Variant.TheVariants.{Chess}
use Rattle.game_records.specs.declared.stored_game.StoredGame.{StoredGame}
use Rattle.game_records.specs.Replays.{Replays}
use Rattle.pgn_book.specs.declared.game.PgnResult.TheVariants.{Open}
use Rattle.pgn_book.specs.declared.game.TagRow.{TagRow}
use Rattle.pgn_book.specs.declared.game.PgnGame.{PgnGame}

-- a stored game of chess that replays
pub record IsStoredChess (g : StoredGame) : Type 0 where
  pub variant : g.terms.variant ≡ Chess
  pub replays : Replays g

-- the texts of a game of which only the players are known
abbrev pub names_row : List ℕ → List ℕ → TagRow
names_row white black = record {
  event = codes "?";
  site = codes "?";
  date = codes "????.??.??";
  round = codes "?";
  white = white;
  black = black;
}

-- its two names and its half-moves; no other text is known, and it hasn't ended
abbrev pub stored_text : StoredGame → PgnGame
stored_text g = record {
  tags = names_row (get_or g.names 0 []) (get_or g.names 1 []);
  moves = map (λ h. h.what) g.halves;
  result = Open;
}
