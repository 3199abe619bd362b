-- Worked examples: PGN text, the games that are read in it from left to right, and exports.
use Rattle.std.specs.Prelude.{◌≡◌, ℕ, true, false, List, [], ◌∷◌, ◌++◌, replicate, codes, Some, None}
use Rattle.chess_model.specs.declared.moves.Move.{Move}
use Rattle.chess_model.specs.declared.moves.Move.TheVariants.{Plain}
use Rattle.pgn_book.specs.declared.game.PgnResult.{PgnResult}
use Rattle.pgn_book.specs.declared.game.PgnResult.TheVariants.{White, Black, Draw, Open}
use Rattle.pgn_book.specs.declared.game.TagRow.{TagRow}
use Rattle.pgn_book.specs.declared.game.PgnGame.{PgnGame}
use Rattle.pgn_book.specs.Lexing.{escaped}
use Rattle.pgn_book.specs.Export.{laid, export_text}
use Rattle.pgn_book.specs.Reading.{first_state}
use Rattle.pgn_book.specs.Reader.{line_from}
use Rattle.pgn_book.specs.Runs.{outcome_of}

-- the tags of which only the event is told
abbrev pub only_event : List ℕ → TagRow
only_event event = record {
  event = event;
  site = codes "?";
  date = codes "????.??.??";
  round = codes "?";
  white = codes "?";
  black = codes "?";
}

abbrev pub game : List ℕ → List Move → PgnResult → PgnGame
game event moves result = record { tags = only_event event; moves = moves; result = result }

-- 1 e4 e5 2 Nf3 Nc6
abbrev pub two_knights_out : List Move
two_knights_out = Plain 12 28 None ∷ Plain 52 36 None ∷ Plain 6 21 None ∷ Plain 57 42 None ∷ []

pub record TextExamples : Type 0 where
  -- numbers, comments, glyphs, variations and praise are passed over
  pub comments : outcome_of (codes "1.e4 e5 {open} 2. Nf3 $1 (2. f4) Nc6!? *")
      ≡ record {
        games = game (codes "?") two_knights_out Open ∷ [];
        whole = true;
      }
  -- a move that isn't allowed is outside the grammar, and so is a position to begin with
  pub illegal : (outcome_of (codes "1. e4 e5 2. Ke3 *")).whole ≡ false
  pub set_up : (outcome_of (codes "[FEN \"8/8/8/8/8/8/8/8 w - - 0 1\"] *")).whole ≡ false
  -- of tags of one name the first counts, and strokes stand before quotes and strokes
  pub tags : outcome_of (codes "[Event \"a \\\"b\\\" \\\\\"] ; c [\n[Event \"d\"]{e}[Mode \"\"] 1/2-1/2 1-0")
      ≡ record { games = game (codes "a \"b\" \\") [] Draw ∷ game (codes "?") [] White ∷ []; whole = true }
  -- a line that begins with a percent sign is skipped, and another percent sign is outside the grammar
  pub percent : outcome_of (codes "%x [\n0-1") ≡ record { games = game (codes "?") [] Black ∷ []; whole = true }
  pub late_percent : (outcome_of (codes "0-1 %x")).whole ≡ false
  -- what has begun has to be ended
  pub no_result : (outcome_of (codes "1. e4")).whole ≡ false
  pub open_braces : (outcome_of (codes "* {a")).whole ≡ false
  pub open_variation : (outcome_of (codes "(a *")).whole ≡ false
  pub praised_result : (outcome_of (codes "1-0!")).whole ≡ false
  -- the games before the line on which a text leaves the grammar are told
  pub before : outcome_of (codes "*\nd4\ne4 *") ≡ record { games = game (codes "?") [] Open ∷ []; whole = false }
  pub line : line_from 1 (Some first_state) (codes "*\nd4\ne4 *") ≡ 3
  pub nothing : outcome_of (codes " \n") ≡ record { games = []; whole = true }

-- Ann and Ben haven't moved
abbrev pub ann_and_ben : PgnGame
ann_and_ben = record {
  tags = record {
    event = codes "?";
    site = codes "?";
    date = codes "????.??.??";
    round = codes "?";
    white = codes "Ann";
    black = codes "Ben";
  };
  moves = [];
  result = Open;
}

pub record ExportExamples : Type 0 where
  pub no_move : export_text ann_and_ben
      ≡ codes "[Event \"?\"]\n[Site \"?\"]\n[Date \"????.??.??\"]\n[Round \"?\"]\n"
      ++ codes "[White \"Ann\"]\n[Black \"Ben\"]\n[Result \"*\"]\n\n*\n\n"
  -- a line has 79 bytes at most
  pub stays : laid 0 (replicate 39 97 ∷ replicate 39 98 ∷ []) ≡ replicate 39 97 ++ 32 ∷ replicate 39 98
  pub breaks : laid 0 (replicate 39 97 ∷ replicate 40 98 ∷ []) ≡ replicate 39 97 ++ 10 ∷ replicate 40 98
  pub strokes : escaped (codes "a\"b\\c") ≡ codes "a\\\"b\\\\c"
