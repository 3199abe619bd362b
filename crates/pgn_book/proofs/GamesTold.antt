-- The games that pieces tell are the games that are read.
use Rattle.std.proofs.Common.{arith, ◌≡◌, ℕ, ◌+◌, ◌<◌, ◌≤◌, inl, inr, Bool, true, false, ◌&&◌, not, cond, List, [], ◌∷◌, ◌++◌, length, Option, Some, None, refl, sym, ap, ◌∙◌, append_assoc, append-nil, length-append}
use Rattle.std.specs.Prelude.{bytes_eq, codes, unwrap_or}
use Rattle.std.specs.List.{list_all, AllByRecursion}
use Rattle.std.specs.Result.{result_ok}
use Rattle.move_reader.proofs.ByteMeanings.{is_below}
use Rattle.chess_model.specs.declared.moves.Move.{Move}
use Rattle.chess_model.specs.Position.{Position}
use Rattle.rules_reading.specs.ReadsBack.{IsReadAs}
use Rattle.pgn_book.specs.declared.game.PgnResult.{PgnResult}
use Rattle.pgn_book.specs.declared.game.PgnResult.TheVariants.{White, Black, Draw, Open}
use Rattle.pgn_book.specs.declared.game.PgnGame.{PgnGame}
use Rattle.pgn_book.specs.Bytes.{is_digit, is_name_byte}
use Rattle.pgn_book.specs.Lexing.{Piece, Blank, Escape, Braces, Comment, Word, Glyph, Quoted, Sign, Opening, Closing, Within, at_start, unmarked}
use Rattle.pgn_book.specs.Games.{result_text, is_result, position_of_moves, Tag, IsTag, all_tag_pieces, first_text, row_of, without_praise, IsPassed, IsMoveWord, TellsMove, TellMoves, IsOneGame, AreGames, ReadsGames, OneReading}
use Rattle.pgn_book.specs.Reading as reader
use Rattle.pgn_book.specs.declared.stage.GameStage.{GameStage}
use Rattle.pgn_book.specs.declared.stage.GameStage.TheVariants.{Before, Tags, Opened, Named, Told, Moves}
use Rattle.pgn_book.specs.declared.tag_texts.TagTexts.{TagTexts}
use Rattle.pgn_book.specs.Reading.{Book, empty_row, no_book, noted_as, tag_noted, result_of, game_of_book, Taken, goes, fails, piece_passed, from_word, move_read, with_move, piece_told, took, Outcome, with_game_first, all_told, read_from, first_state, tags_of}
use Rattle.pgn_book.proofs.PiecesRead.{telling, lexed_read, start_read}
use Rattle.std.proofs.lemmas.Bool.{and_from}

abbrev pub book_at : GameStage → TagTexts → List Move → Book
book_at stage row moves = record { stage = stage; row = row; moves = moves }

-- where a tag may begin
abbrev IsFront : GameStage → Type 0
IsFront Before = Unit {0}
IsFront Tags = Unit {0}
IsFront Opened = ⊥
IsFront (Named name) = ⊥
IsFront Told = ⊥
IsFront Moves = ⊥

-- where a move may stand
abbrev IsReady : GameStage → Type 0
IsReady Before = Unit {0}
IsReady Tags = Unit {0}
IsReady Opened = ⊥
IsReady (Named name) = ⊥
IsReady Told = ⊥
IsReady Moves = Unit {0}

front_ready : (stage : GameStage) → IsFront stage → IsReady stage
front_ready Before h = tt
front_ready Tags h = tt
front_ready Opened h = absurd h
front_ready (Named name) h = absurd h
front_ready Told h = absurd h
front_ready Moves h = absurd h

-- ---- tags

one_tag : (stage : GameStage) (row : TagTexts) (tag : Tag) (rest : List Piece) → IsFront stage → IsTag tag →
    all_told (Some (book_at stage row [])) (Sign 91 ∷ Word tag.name ∷ Quoted tag.text ∷ Sign 93 ∷ rest)
    ≡ all_told (Some (book_at Tags (tag_noted tag.name tag.text row) [])) rest
unfolding took
one_tag Before row tag rest front is =
    let test : (list_all is_name_byte tag.name && not (bytes_eq tag.name (codes "FEN"))) ≡ true =
    and_from (list_all is_name_byte tag.name) (not (bytes_eq tag.name (codes "FEN"))) is.bytes (ap not is.not_FEN) in
    ap (λ (t : Bool).
    let taken : Taken = cond t (goes (book_at (Named tag.name) row [])) fails in
    with_game_first taken.given (all_told taken.on (Quoted tag.text ∷ Sign 93 ∷ rest))) test
one_tag Tags row tag rest front is =
    let test : (list_all is_name_byte tag.name && not (bytes_eq tag.name (codes "FEN"))) ≡ true =
    and_from (list_all is_name_byte tag.name) (not (bytes_eq tag.name (codes "FEN"))) is.bytes (ap not is.not_FEN) in
    ap (λ (t : Bool).
    let taken : Taken = cond t (goes (book_at (Named tag.name) row [])) fails in
    with_game_first taken.given (all_told taken.on (Quoted tag.text ∷ Sign 93 ∷ rest))) test
one_tag Opened row tag rest front is = absurd front
one_tag (Named name) row tag rest front is = absurd front
one_tag Told row tag rest front is = absurd front
one_tag Moves row tag rest front is = absurd front

-- the texts that are kept behind some tags
unfoldable pub row_from : TagTexts → List Tag → TagTexts
row_from row [] = row
row_from row (tag ∷ tags) = row_from (tag_noted tag.name tag.text row) tags

-- what is read when all tags were
record TagsTold (stage : GameStage) (row : TagTexts) (tags : List Tag) (more : List Piece) : Type 0 where
  at : GameStage
  front : IsFront at
  told_so : all_told (Some (book_at stage row [])) (all_tag_pieces tags ++ more)
      ≡ all_told (Some (book_at at (row_from row tags) [])) more

tags_told : (tags : List Tag) (stage : GameStage) (row : TagTexts) (more : List Piece) → IsFront stage
    → AllByRecursion IsTag tags → TagsTold stage row tags more
unfolding row_from
tags_told [] stage row more front each = record { at = stage; front = front; told_so = refl }
tags_told (tag ∷ tags) stage row more front each =
    let rest = tags_told tags Tags (tag_noted tag.name tag.text row) more tt each.1 in
    record {
      at = rest.at;
      front = rest.front;
      told_so = one_tag stage row tag (all_tag_pieces tags ++ more) front each.0 ∙ rest.told_so;
    }

-- a text that was kept before, or else that of the first tag
abbrev kept : Option (List ℕ) → Option (List ℕ) → Option (List ℕ)
kept None first = first
kept (Some text) first = Some text

kept-none : (o : Option (List ℕ)) → o ≡ kept o None
kept-none None = refl
kept-none (Some text) = refl

noted-kept : (key name text : List ℕ) (o first : Option (List ℕ))
    → kept (noted_as key name text o) first ≡ kept o (cond (bytes_eq name key) (Some text) first)
noted-kept key name text (Some x) first = refl
noted-kept key name text None first = by (bytes_eq name key)
  where
    by : (t : Bool) → kept (cond t (Some text) None) first ≡ cond t (Some text) first
    by true = refl
    by false = refl

-- a place of the row is that of a name
record IsOfName (f : TagTexts → Option (List ℕ)) (key : List ℕ) : Type 0 where
  keeps : (name text : List ℕ) (row : TagTexts) → f (tag_noted name text row) ≡ noted_as key name text (f row)

first_kept : (f : TagTexts → Option (List ℕ)) (key : List ℕ) (h : IsOfName f key) (tags : List Tag) (row : TagTexts) →
    f (row_from row tags) ≡ kept (f row) (first_text key tags)
unfolding row_from
first_kept f key h [] row = kept-none (f row)
first_kept f key h (tag ∷ tags) row =
    first_kept f key h tags (tag_noted tag.name tag.text row)
    ∙ ap (λ (o : Option (List ℕ)). kept o (first_text key tags)) (h.keeps tag.name tag.text row)
    ∙ noted-kept key tag.name tag.text (f row) (first_text key tags)

pub row_told : (tags : List Tag) → tags_of (row_from empty_row tags) ≡ row_of tags
row_told tags =
    let event = first_kept (λ r. r.event) (codes "Event") (record { keeps = λ n t r. refl }) tags empty_row in
    let site = first_kept (λ r. r.site) (codes "Site") (record { keeps = λ n t r. refl }) tags empty_row in
    let date = first_kept (λ r. r.date) (codes "Date") (record { keeps = λ n t r. refl }) tags empty_row in
    let round = first_kept (λ r. r.round) (codes "Round") (record { keeps = λ n t r. refl }) tags empty_row in
    let white = first_kept (λ r. r.white) (codes "White") (record { keeps = λ n t r. refl }) tags empty_row in
    let black = first_kept (λ r. r.black) (codes "Black") (record { keeps = λ n t r. refl }) tags empty_row in
    λ i. record {
      event = unwrap_or (event i) (codes "?");
      site = unwrap_or (site i) (codes "?");
      date = unwrap_or (date i) (codes "????.??.??");
      round = unwrap_or (round i) (codes "?");
      white = unwrap_or (white i) (codes "?");
      black = unwrap_or (black i) (codes "?");
    }

-- ---- moves

abbrev IsNumber : List ℕ → Type 0
IsNumber word = list_all is_digit word ≡ true

pass_by : (stage : GameStage) (row : TagTexts) (moves : List Move) → IsReady stage
    → piece_passed stage (book_at stage row moves) ≡ goes (book_at Moves row moves)
pass_by Before row moves h = refl
pass_by Tags row moves h = refl
pass_by Opened row moves h = absurd h
pass_by (Named name) row moves h = absurd h
pass_by Told row moves h = absurd h
pass_by Moves row moves h = refl

word_told : (stage : GameStage) (row : TagTexts) (moves : List Move) (word : List ℕ) → IsReady stage →
    took (book_at stage row moves) (Word word) ≡ piece_told (book_at stage row moves) word
unfolding took
word_told Before row moves word h = refl
word_told Tags row moves word h = refl
word_told Opened row moves word h = absurd h
word_told (Named name) row moves word h = absurd h
word_told Told row moves word h = absurd h
word_told Moves row moves word h = refl

glyph_passed : (stage : GameStage) (row : TagTexts) (moves : List Move) (word : List ℕ) → IsReady stage
    → (word ≡ [] → ⊥) → IsNumber word →
    took (book_at stage row moves) (Glyph word) ≡ goes (book_at Moves row moves)
unfolding took
glyph_passed stage row moves [] h some number = absurd (some refl)
glyph_passed stage row moves (b ∷ word) h some number =
    ap (λ (t : Bool). cond t (piece_passed stage (book_at stage row moves)) fails) number ∙ pass_by stage row moves h

passed_took : (stage : GameStage) (row : TagTexts) (moves : List Move) (piece : Piece) → IsReady stage
    → IsPassed piece →
    took (book_at stage row moves) piece ≡ goes (book_at Moves row moves)
unfolding took
passed_took stage row moves (Blank b) h is = absurd is
passed_took stage row moves (Escape body) h is = absurd is
passed_took stage row moves (Braces body) h is = absurd is
passed_took stage row moves (Comment body) h is = absurd is
passed_took stage row moves (Word word) h is =
    word_told stage row moves word h
    ∙ ap
    (λ (t : Bool).
    cond t (piece_passed stage (book_at stage row moves))
    (cond (is_result word) (reader.gives (game_of_book (book_at stage row moves) word))
    (reader.move_taken (book_at stage row moves) word)))
    is
    ∙ pass_by stage row moves h
passed_took stage row moves (Glyph word) h is = glyph_passed stage row moves word h is.0 is.1
passed_took stage row moves (Quoted text) h is = absurd is
passed_took stage row moves (Sign b) h is =
    ap (λ (x : ℕ). took (book_at stage row moves) (Sign x)) is ∙ pass_by stage row moves h
passed_took stage row moves Opening h is = pass_by stage row moves h
passed_took stage row moves Closing h is = pass_by stage row moves h
passed_took stage row moves (Within b) h is = pass_by stage row moves h

read_as : (p : Position) (text : List ℕ) (m : Move) → IsReadAs p text m → move_read p text ≡ Some m
unfolding move_read
read_as p text m h = ap (from_word p) h.read ∙ ap result_ok h.answered

move_took : (stage : GameStage) (row : TagTexts) (moves : List Move) (word : List ℕ) (m : Move) → IsReady stage
    → IsMoveWord moves word m → length moves < 1200 →
    took (book_at stage row moves) (Word word) ≡ goes (book_at Moves row (moves ++ m ∷ []))
move_took stage row moves word m h is room =
    let book : Book = book_at stage row moves in
    word_told stage row moves word h
    ∙ ap
    (λ (t : Bool).
    cond t (piece_passed stage book)
    (cond (is_result word) (reader.gives (game_of_book book word)) (reader.move_taken book word)))
    is.no_number
    ∙ ap (λ (t : Bool). cond t (reader.gives (game_of_book book word)) (reader.move_taken book word)) is.no_result
    ∙ ap (λ (t : Bool). cond t (with_move book (move_read (position_of_moves moves) (without_praise word))) fails)
    (is_below (length moves) 1200 room)
    ∙ ap (with_move book) (read_as (position_of_moves moves) (without_praise word) m is.read)

-- a piece that tells these moves
tells_took : (stage : GameStage) (row : TagTexts) (moves : List Move) (piece : Piece) (first : List Move)
    → IsReady stage → TellsMove moves piece first →
    length moves + length first ≤ 1200
    → took (book_at stage row moves) piece ≡ goes (book_at Moves row (moves ++ first))
tells_took stage row moves piece first h (inl (is, none)) most =
    passed_took stage row moves piece h is
    ∙ ap (λ (l : List Move). goes (book_at Moves row l))
    (sym (ap (λ (l : List Move). moves ++ l) none ∙ append-nil moves))
tells_took stage row moves piece first h (inr next) most =
    let one : length first ≡ 1 = ap length next.only in
    ap (took (book_at stage row moves)) next.is
    ∙ move_took stage row moves next.word next.move h next.read (omega arith)
    ∙ ap (λ (l : List Move). goes (book_at Moves row (moves ++ l))) (sym next.only)

record BodyTold (stage : GameStage) (row : TagTexts) (before moves : List Move) (body more : List Piece) : Type 0 where
  at : GameStage
  ready : IsReady at
  told_so : all_told (Some (book_at stage row before)) (body ++ more)
      ≡ all_told (Some (book_at at row (before ++ moves))) more

fewer : (before first rest moves : List Move) → moves ≡ first ++ rest → length before + length moves ≤ 1200 →
    (length before + length first ≤ 1200) × (length (before ++ first) + length rest ≤ 1200)
fewer before first rest moves e most =
    let parts : length moves ≡ length first + length rest = ap length e ∙ length-append first rest in
    let front : length (before ++ first) ≡ length before + length first = length-append before first in
    (omega arith, omega arith)

body_told : (body : List Piece) (stage : GameStage) (row : TagTexts) (before moves : List Move) (more : List Piece)
    → IsReady stage →
    TellMoves before body moves → length before + length moves ≤ 1200 → BodyTold stage row before moves body more
body_told [] stage row before moves more h tells most = record {
  at = stage;
  ready = h;
  told_so = ap (λ (l : List Move). all_told (Some (book_at stage row l)) more)
      (sym (ap (λ (l : List Move). before ++ l) tells ∙ append-nil before));
}
body_told (piece ∷ body) stage row before moves more h tells most =
    let first : List Move = tells.0 in
    let others : List Move = tells.1 in
    let few = fewer before first others moves tells.4 most in
    let rest = body_told body Moves row (before ++ first) others more tt tells.3 few.1 in
    record {
      at = rest.at;
      ready = rest.ready;
      told_so =
          ap (λ (t : Taken). with_game_first t.given (all_told t.on (body ++ more)))
          (tells_took stage row before piece first h tells.2 few.0)
          ∙ rest.told_so
          ∙ ap (λ (l : List Move). all_told (Some (book_at rest.at row l)) more)
          (append_assoc before first others ∙ ap (λ (l : List Move). before ++ l) (sym tells.4));
    }

-- ---- results

result_again : (r : PgnResult) → result_of (result_text r) ≡ r
result_again White = refl
result_again Black = refl
result_again Draw = refl
result_again Open = refl

result_told : (r : PgnResult) (book : Book)
    → piece_told book (result_text r) ≡ reader.gives (game_of_book book (result_text r))
result_told White book = refl
result_told Black book = refl
result_told Draw book = refl
result_told Open book = refl

-- ---- games

game_told : (first : List Piece) (g : PgnGame) (rest : List Piece) → IsOneGame first g →
    all_told (Some no_book) (first ++ rest) ≡ with_game_first (Some g) (all_told (Some no_book) rest)
game_told first g rest h =
    let end : List Piece = Word (result_text g.result) ∷ [] in
    let behind_body : List Piece = Word (result_text g.result) ∷ rest in
    let split : first ++ rest ≡ all_tag_pieces h.tags ++ (h.body ++ behind_body) =
    ap (λ (l : List Piece). l ++ rest) h.whole ∙ append_assoc (all_tag_pieces h.tags) (h.body ++ end) rest
    ∙ ap (λ (l : List Piece). all_tag_pieces h.tags ++ l) (append_assoc h.body end rest) in
    let tags = tags_told h.tags Before empty_row (h.body ++ behind_body) tt h.each_tag in
    let row : TagTexts = row_from empty_row h.tags in
    let body =
    body_told h.body tags.at row [] g.moves behind_body (front_ready tags.at tags.front) h.moves
    (omega (arith, h.most)) in
    let book : Book = book_at body.at row g.moves in
    let texts : tags_of row ≡ g.tags = row_told h.tags ∙ sym h.row in
    let result : result_of (result_text g.result) ≡ g.result = result_again g.result in
    let same : game_of_book book (result_text g.result) ≡ g =
    (λ i. record { tags = texts i; moves = g.moves; result = result i }) in
    ap (all_told (Some no_book)) split ∙ tags.told_so ∙ body.told_so
    ∙ ap (λ (t : Taken). with_game_first t.given (all_told t.on rest))
    (word_told body.at row g.moves (result_text g.result) body.ready ∙ result_told g.result book)
    ∙ ap (λ (x : PgnGame). with_game_first (Some x) (all_told (Some no_book) rest)) same

games_told : (games : List PgnGame) (pieces : List Piece) → AreGames pieces games
    → all_told (Some no_book) pieces ≡ record { games = games; whole = true }
games_told [] pieces h = ap (all_told (Some no_book)) h
games_told (g ∷ games) pieces h =
    ap (all_told (Some no_book)) h.2 ∙ game_told h.0 g h.1 h.3
    ∙ ap (with_game_first (Some g)) (games_told games h.1 h.4)

-- a text that the grammar reads is read so
pub reads_told : (text : List ℕ) (games : List PgnGame) → ReadsGames text games
    → read_from (Some first_state) text ≡ record { games = games; whole = true }
reads_told text games h =
    start_read text ∙ lexed_read h.pieces at_start (unmarked text) (Some no_book) h.lexed
    ∙ games_told games (telling h.pieces) h.told

pub one_reading : OneReading
one_reading text one other h g =
    let same : read_from (Some first_state) text ≡ record { games = other; whole = true } = reads_told text other g in
    ap (λ (o : Outcome). o.games) (sym (reads_told text one h) ∙ same)
