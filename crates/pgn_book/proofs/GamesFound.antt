-- A text that is read to its end is one of games.
use Rattle.std.proofs.Common.{arith, ◌≡◌, inl, inr, ℕ, ◌+◌, ◌<◌, ◌≤◌, Bool, true, false, ◌&&◌, not, cond, nat_lt, List, [], ◌∷◌, ◌++◌, length, Option, Some, None, Result, Ok, Err, refl, sym, ap, subst, ◌∙◌, append_assoc, append-nil, length-append}
use Rattle.std.specs.Prelude.{◌||◌, ◌==◌, bytes_eq, codes}
use Rattle.std.specs.List.{list_all, AllByRecursion}
use Rattle.std.specs.Result.{result_ok}
use Rattle.std.proofs.lemmas.Bool.{eqb-true, and_parts, not-true}
use Rattle.std.proofs.lemmas.Slice.Eq.{bytes_eq-Decides}
use Rattle.move_reader.proofs.ByteMeanings.{below}
use Rattle.move_reader.specs.Reading.{reading}
use Rattle.chess_model.specs.declared.moves.Move.{Move}
use Rattle.chess_model.specs.declared.moves.MoveWord.{MoveWord}
use Rattle.chess_model.specs.declared.moves.Rejection.{Rejection}
use Rattle.chess_model.specs.Position.{Position}
use Rattle.chess_model.specs.WordAnswer.{word_answer}
use Rattle.rules_reading.specs.ReadsBack.{IsReadAs}
use Rattle.pgn_book.specs.declared.game.PgnResult.TheVariants.{White, Black, Draw, Open}
use Rattle.pgn_book.specs.declared.game.PgnGame.{PgnGame}
use Rattle.pgn_book.specs.Bytes.{is_digit, is_name_byte}
use Rattle.pgn_book.specs.Lexing.{Piece, Blank, Escape, Braces, Comment, Word, Glyph, Quoted, Sign, Opening, Closing, Within, is_skipped, is_sign, At, MayStand, next_place, Lexes, at_start, unmarked}
use Rattle.pgn_book.specs.Games.{result_text, is_result, position_of_moves, Tag, IsTag, tag_pieces, all_tag_pieces, without_praise, IsPassed, IsMoveWord, TellsMove, TellMoves, IsOneGame, AreGames, ReadsGames}
use Rattle.pgn_book.specs.declared.stage.GameStage.{GameStage}
use Rattle.pgn_book.specs.declared.stage.GameStage.TheVariants.{Before, Tags, Opened, Named, Told, Moves}
use Rattle.pgn_book.specs.declared.tag_texts.TagTexts.{TagTexts}
use Rattle.pgn_book.specs.declared.place.PlaceInText.TheVariants.{Between}
use Rattle.pgn_book.specs.Reading.{Book, empty_row, no_book, tag_noted, result_of, game_of_book, Taken, goes, fails, gives, staged, stage_opened, closed, piece_passed, quoted, tag_named, from_word, move_read, with_move, move_taken, piece_told, worded, signed, glyphed, took, Outcome, with_game_first, is_before, all_told, state_at, read_from, first_state, tags_of}
use Rattle.pgn_book.specs.Laws.{ReaderReads}
use Rattle.pgn_book.proofs.PiecesRead.{telling, lexed_read, start_read}
use Rattle.pgn_book.proofs.GamesTold.{row_from, row_told, reads_told, book_at}
use Rattle.pgn_book.proofs.PiecesFound.{FoundAt, pieces_found}
use Rattle.fics_words.proofs.Each.{each-push}

-- ---- what was told of a game so far

-- some whole tags
record TagsSoFar (row : TagTexts) : Type 0 where
  tags : List Tag
  each : AllByRecursion IsTag tags
  row_is : row ≡ row_from empty_row tags

-- a book and the pieces that led to it
abbrev SoFar : List Piece → GameStage → TagTexts → List Move → Type 0
SoFar piece_told Before row moves = (piece_told ≡ []) × (row ≡ empty_row) × (moves ≡ [])
SoFar piece_told Tags row moves = (t : TagsSoFar row) × (piece_told ≡ all_tag_pieces t.tags) × (moves ≡ [])
SoFar piece_told Opened row moves =
    (t : TagsSoFar row) × (piece_told ≡ all_tag_pieces t.tags ++ Sign 91 ∷ []) × (moves ≡ [])
SoFar piece_told (Named name) row moves =
    (t : TagsSoFar row) × (piece_told ≡ all_tag_pieces t.tags ++ Sign 91 ∷ Word name ∷ []) × (moves ≡ [])
    × IsTag (record { name = name; text = [] })
SoFar piece_told Told row moves =
    (old : TagTexts) × (t : TagsSoFar old) × (tag : Tag)
    × (piece_told ≡ all_tag_pieces t.tags ++ Sign 91 ∷ Word tag.name ∷ Quoted tag.text ∷ []) × (moves ≡ []) × IsTag tag
    × (row ≡ tag_noted tag.name tag.text old)
SoFar piece_told Moves row moves =
    (t : TagsSoFar row) × (body : List Piece) × (piece_told ≡ all_tag_pieces t.tags ++ body) × TellMoves [] body moves
    × (length moves ≤ 1200)

-- what a piece more makes of it: it goes on, or a game is whole, or it fails
abbrev OnwardBy : List Piece → Option PgnGame → Option Book → Type 0
OnwardBy piece_told given None = Unit {0}
OnwardBy piece_told None (Some book) = SoFar piece_told book.stage book.row book.moves
OnwardBy piece_told (Some g) (Some book) = (book ≡ no_book) × IsOneGame piece_told g

abbrev Onward : List Piece → Taken → Type 0
Onward piece_told taken = OnwardBy piece_told taken.given taken.on

-- the tags before a tag, or before the moves
abbrev IsFront : GameStage → Type 0
IsFront Before = Unit {0}
IsFront Tags = Unit {0}
IsFront _ = ⊥

record FrontTags (piece_told : List Piece) (row : TagTexts) (moves : List Move) : Type 0 where
  so_far : TagsSoFar row
  are : piece_told ≡ all_tag_pieces so_far.tags
  no_moves : moves ≡ []

front_tags : (piece_told : List Piece) (stage : GameStage) (row : TagTexts) (moves : List Move) → IsFront stage
    → SoFar piece_told stage row moves → FrontTags piece_told row moves
unfolding row_from
front_tags piece_told Before row moves h s = record {
  so_far = record { tags = []; each = tt; row_is = s.1 };
  are = s.0;
  no_moves = s.2;
}
front_tags piece_told Tags row moves h s = record { so_far = s.0; are = s.1; no_moves = s.2 }
front_tags piece_told Opened row moves h s = absurd h
front_tags piece_told (Named name) row moves h s = absurd h
front_tags piece_told Told row moves h s = absurd h
front_tags piece_told Moves row moves h s = absurd h

-- the moves of a game that goes on, or that begin here
record Ready (piece_told : List Piece) (row : TagTexts) (moves : List Move) : Type 0 where
  so_far : TagsSoFar row
  body : List Piece
  are : piece_told ≡ all_tag_pieces so_far.tags ++ body
  tell : TellMoves [] body moves
  most : length moves ≤ 1200

from_front : (piece_told : List Piece) (row : TagTexts) (moves : List Move) → FrontTags piece_told row moves
    → Ready piece_told row moves
from_front piece_told row moves f = record {
  so_far = f.so_far;
  body = [];
  are = f.are ∙ sym (append-nil (all_tag_pieces f.so_far.tags));
  tell = f.no_moves;
  most = subst (λ (l : List Move). length l ≤ 1200) (sym f.no_moves) (omega arith);
}

abbrev IsReady : GameStage → Type 0
IsReady Before = Unit {0}
IsReady Tags = Unit {0}
IsReady Moves = Unit {0}
IsReady _ = ⊥

ready : (piece_told : List Piece) (stage : GameStage) (row : TagTexts) (moves : List Move) → IsReady stage
    → SoFar piece_told stage row moves → Ready piece_told row moves
ready piece_told Before row moves h s = from_front piece_told row moves (front_tags piece_told Before row moves tt s)
ready piece_told Tags row moves h s = from_front piece_told row moves (front_tags piece_told Tags row moves tt s)
ready piece_told Opened row moves h s = absurd h
ready piece_told (Named name) row moves h s = absurd h
ready piece_told Told row moves h s = absurd h
ready piece_told Moves row moves h s = record { so_far = s.0; body = s.1; are = s.2; tell = s.3; most = s.4 }

-- moves told by pieces, with a piece behind them
tell-end : (before : List Move) (body : List Piece) (moves : List Move) (piece : Piece) (first : List Move)
    → TellMoves before body moves →
    TellsMove (before ++ moves) piece first → TellMoves before (body ++ piece ∷ []) (moves ++ first)
tell-end before [] moves piece first h t =
    let none : before ++ moves ≡ before = ap (λ (l : List Move). before ++ l) h ∙ append-nil before in (
      first,
      [],
      subst (λ (l : List Move). TellsMove l piece first) none t,
      refl,
      ap (λ (l : List Move). l ++ first) h ∙ sym (append-nil first),
    )
tell-end before (x ∷ body) moves piece first h t =
    let one : List Move = h.0 in
    let rest : List Move = h.1 in
    let along : before ++ moves ≡ (before ++ one) ++ rest =
    ap (λ (l : List Move). before ++ l) h.4 ∙ sym (append_assoc before one rest) in (
      one,
      rest ++ first,
      h.2,
      tell-end (before ++ one) body rest piece first h.3 (subst (λ (l : List Move). TellsMove l piece first) along t),
      ap (λ (l : List Move). l ++ first) h.4 ∙ append_assoc one rest first,
    )

-- a piece of the movetext more
goes_to_moves : (piece_told : List Piece) (row : TagTexts) (moves first : List Move) (piece : Piece)
    → Ready piece_told row moves
    → TellsMove moves piece first →
    length (moves ++ first) ≤ 1200 → SoFar (piece_told ++ piece ∷ []) Moves row (moves ++ first)
goes_to_moves piece_told row moves first piece r t most = (
  r.so_far,
  r.body ++ piece ∷ [],
  ap (λ (l : List Piece). l ++ piece ∷ []) r.are ∙ append_assoc (all_tag_pieces r.so_far.tags) r.body (piece ∷ []),
  tell-end [] r.body moves piece first r.tell t,
  most,
)

passes : (piece_told : List Piece) (row : TagTexts) (moves : List Move) (piece : Piece) → Ready piece_told row moves
    → IsPassed piece →
    SoFar (piece_told ++ piece ∷ []) Moves row moves
passes piece_told row moves piece r is =
    let none : moves ++ [] ≡ moves = append-nil moves in
    subst (λ (l : List Move). SoFar (piece_told ++ piece ∷ []) Moves row l) none
    (goes_to_moves piece_told row moves [] piece r (inl (is, refl))
    (subst (λ (l : List Move). length l ≤ 1200) (sym none) r.most))

pass_onward : (piece_told : List Piece) (stage : GameStage) (row : TagTexts) (moves : List Move) (piece : Piece)
    → SoFar piece_told stage row moves → IsPassed piece →
    Onward (piece_told ++ piece ∷ []) (piece_passed stage (book_at stage row moves))
pass_onward piece_told Before row moves piece s is =
    passes piece_told row moves piece (ready piece_told Before row moves tt s) is
pass_onward piece_told Tags row moves piece s is =
    passes piece_told row moves piece (ready piece_told Tags row moves tt s) is
pass_onward piece_told Opened row moves piece s is = tt
pass_onward piece_told (Named name) row moves piece s is = tt
pass_onward piece_told Told row moves piece s is = tt
pass_onward piece_told Moves row moves piece s is =
    passes piece_told row moves piece (ready piece_told Moves row moves tt s) is

-- ---- words

-- one of two ways
onward_by : (x : Bool) (piece_told : List Piece) (a c : Taken) → (x ≡ true → Onward piece_told a)
    → (x ≡ false → Onward piece_told c)
    → Onward piece_told (cond x a c)
onward_by true piece_told a c h g = h refl
onward_by false piece_told a c h g = g refl

-- what is read as a move
read_found : (p : Position) (text : List ℕ) (m : Move) (word : Option MoveWord) → reading text ≡ word
    → from_word p word ≡ Some m → IsReadAs p text m
read_found p text m None e h = absurd (let f : None ≡ Some m = h in cc)
read_found p text m (Some word) e h = record { word = word; read = e; answered = by (word_answer p word) h }
  where
    by : (r : Result Move Rejection) → result_ok r ≡ Some m → r ≡ Ok m
    by (Ok x) f = let same : x ≡ m = cc in ap Ok same
    by (Err x) f = absurd (let g : None ≡ Some m = f in cc)

pub move_found : (p : Position) (text : List ℕ) (m : Move) → move_read p text ≡ Some m → IsReadAs p text m
unfolding move_read
move_found p text m h = read_found p text m (reading text) refl h

onward_move : (piece_told : List Piece) (row : TagTexts) (moves : List Move) (word : List ℕ)
    → Ready piece_told row moves
    → list_all is_digit word ≡ false → is_result word ≡ false →
    length moves < 1200 → (stage : GameStage) (m : Option Move)
    → move_read (position_of_moves moves) (without_praise word) ≡ m →
    Onward (piece_told ++ Word word ∷ []) (with_move (book_at stage row moves) m)
onward_move piece_told row moves word r number result room stage None e = tt
onward_move piece_told row moves word r number result room stage (Some m) e =
    let is : IsMoveWord moves word m =
    record {
      no_number = number;
      no_result = result;
      read = move_found (position_of_moves moves) (without_praise word) m e;
    } in
    let long : length (moves ++ m ∷ []) ≡ length moves + 1 = length-append moves (m ∷ []) in
    goes_to_moves piece_told row moves (m ∷ []) (Word word) r (inr (record {
      word = word;
      move = m;
      is = refl;
      read = is;
      only = refl;
    })) (omega arith)

-- the word of a result
result_word : (word : List ℕ) → is_result word ≡ true → word ≡ result_text (result_of word)
result_word word h =
    by (bytes_eq word
    (codes "1-0"))
    (bytes_eq word (codes "0-1")) (bytes_eq word (codes "1/2-1/2")) (bytes_eq word (codes "*")) refl refl refl refl h
  where
    by : (a b c d : Bool)
        → bytes_eq word
        (codes "1-0") ≡ a
        → bytes_eq word (codes "0-1") ≡ b → bytes_eq word (codes "1/2-1/2") ≡ c → bytes_eq word (codes "*") ≡ d →
        (a || (b || (c || d))) ≡ true → word ≡ result_text (cond a White (cond b Black (cond c Draw Open)))
    by true b c d p q r s h = (bytes_eq-Decides word (codes "1-0")).0 p
    by false true c d p q r s h = (bytes_eq-Decides word (codes "0-1")).0 q
    by false false true d p q r s h = (bytes_eq-Decides word (codes "1/2-1/2")).0 r
    by false false false true p q r s h = (bytes_eq-Decides word (codes "*")).0 s
    by false false false false p q r s h = cc

whole_game : (piece_told : List Piece) (stage : GameStage) (row : TagTexts) (moves : List Move) (word : List ℕ)
    → Ready piece_told row moves → is_result word ≡ true →
    IsOneGame (piece_told ++ Word word ∷ []) (game_of_book (book_at stage row moves) word)
whole_game piece_told stage row moves word r h = record {
  tags = r.so_far.tags;
  body = r.body;
  each_tag = r.so_far.each;
  row = ap tags_of r.so_far.row_is ∙ row_told r.so_far.tags;
  moves = r.tell;
  most = r.most;
  whole =
      ap (λ (l : List Piece). l ++ Word word ∷ []) r.are
      ∙ append_assoc (all_tag_pieces r.so_far.tags) r.body (Word word ∷ [])
      ∙ ap (λ (w : List ℕ). all_tag_pieces r.so_far.tags ++ (r.body ++ Word w ∷ [])) (result_word word h);
}

onward_told : (told_so : List Piece) (stage : GameStage) (row : TagTexts) (moves : List Move) (word : List ℕ)
    → IsReady stage → SoFar told_so stage row moves →
    Onward (told_so ++ Word word ∷ []) (piece_told (book_at stage row moves) word)
onward_told told_so stage row moves word h s =
    let book : Book = book_at stage row moves in
    let r : Ready told_so row moves = ready told_so stage row moves h s in
    let pieces : List Piece = told_so ++ Word word ∷ [] in
    onward_by (list_all is_digit word) pieces (piece_passed stage book)
    (cond (is_result word) (gives (game_of_book book word)) (move_taken book word))
    (λ e. pass_onward told_so stage row moves (Word word) s e)
    (λ number. onward_by (is_result word) pieces (gives (game_of_book book word)) (move_taken book word)
    (λ e. (refl, whole_game told_so stage row moves word r e))
    (λ result.
    onward_by (nat_lt (length moves) 1200) pieces
    (with_move book (move_read (position_of_moves moves) (without_praise word)))
    fails
    (λ e.
    onward_move told_so row moves word r number result (below (length moves) 1200 e) stage
    (move_read (position_of_moves moves) (without_praise word)) refl)
    (λ e. tt)))

onward_named : (told_so : List Piece) (row : TagTexts) (moves : List Move) (word : List ℕ)
    → SoFar told_so Opened row moves →
    Onward (told_so ++ Word word ∷ []) (tag_named (book_at Opened row moves) word)
onward_named told_so row moves word s =
    let book : Book = book_at Opened row moves in
    onward_by (list_all is_name_byte word
    && not (bytes_eq word (codes "FEN"))) (told_so ++ Word word ∷ []) (goes (staged (Named word) book)) fails
    (λ e.
    let parts = and_parts (list_all is_name_byte word) (not (bytes_eq word (codes "FEN"))) e in (
      s.0,
      ap (λ (l : List Piece). l ++ Word word ∷ []) s.1
          ∙ append_assoc (all_tag_pieces s.0.tags) (Sign 91 ∷ []) (Word word ∷ []),
      s.2,
      record { bytes = parts.0; not_FEN = not-true (bytes_eq word (codes "FEN")) parts.1 },
    ))
    (λ e. tt)

onward_word : (told_so : List Piece) (stage : GameStage) (row : TagTexts) (moves : List Move) (word : List ℕ)
    → SoFar told_so stage row moves →
    Onward (told_so ++ Word word ∷ []) (worded stage (book_at stage row moves) word)
onward_word told_so Before row moves word s = onward_told told_so Before row moves word tt s
onward_word told_so Tags row moves word s = onward_told told_so Tags row moves word tt s
onward_word told_so Opened row moves word s = onward_named told_so row moves word s
onward_word told_so (Named name) row moves word s = tt
onward_word told_so Told row moves word s = tt
onward_word told_so Moves row moves word s = onward_told told_so Moves row moves word tt s

onward_glyph : (told_so : List Piece) (stage : GameStage) (row : TagTexts) (moves : List Move) (word : List ℕ)
    → SoFar told_so stage row moves →
    Onward (told_so ++ Glyph word ∷ []) (glyphed (book_at stage row moves) word)
onward_glyph told_so stage row moves [] s = tt
onward_glyph told_so stage row moves (b ∷ word) s =
    onward_by (list_all is_digit (b ∷ word)) (told_so ++ Glyph (b ∷ word) ∷ [])
    (piece_passed stage (book_at stage row moves)) fails
    (λ e. pass_onward told_so stage row moves (Glyph (b ∷ word)) s (λ f. cc, e))
    (λ e. tt)

-- ---- tags

onward_text : (told_so : List Piece) (stage : GameStage) (row : TagTexts) (moves : List Move) (text : List ℕ)
    → SoFar told_so stage row moves →
    Onward (told_so ++ Quoted text ∷ []) (quoted stage (book_at stage row moves) text)
onward_text told_so Before row moves text s = tt
onward_text told_so Tags row moves text s = tt
onward_text told_so Opened row moves text s = tt
onward_text told_so (Named name) row moves text s = (
  row,
  s.0,
  record { name = name; text = text },
  ap (λ (l : List Piece). l ++ Quoted text ∷ []) s.1
      ∙ append_assoc (all_tag_pieces s.0.tags) (Sign 91 ∷ Word name ∷ []) (Quoted text ∷ []),
  s.2,
  record { bytes = s.3.bytes; not_FEN = s.3.not_FEN },
  refl,
)
onward_text told_so Told row moves text s = tt
onward_text told_so Moves row moves text s = tt

onward_opened : (told_so : List Piece) (stage : GameStage) (row : TagTexts) (moves : List Move)
    → SoFar told_so stage row moves →
    Onward (told_so ++ Sign 91 ∷ []) (stage_opened stage (book_at stage row moves))
onward_opened told_so Before row moves s =
    let f = front_tags told_so Before row moves tt s in
    (f.so_far, ap (λ (l : List Piece). l ++ Sign 91 ∷ []) f.are, f.no_moves)
onward_opened told_so Tags row moves s =
    let f = front_tags told_so Tags row moves tt s in
    (f.so_far, ap (λ (l : List Piece). l ++ Sign 91 ∷ []) f.are, f.no_moves)
onward_opened told_so Opened row moves s = tt
onward_opened told_so (Named name) row moves s = tt
onward_opened told_so Told row moves s = tt
onward_opened told_so Moves row moves s = tt

-- a tag more behind some
tags-end : (tags : List Tag) (tag : Tag) → all_tag_pieces (tags ++ tag ∷ []) ≡ all_tag_pieces tags ++ tag_pieces tag
tags-end [] tag = refl
tags-end (t ∷ tags) tag = ap (λ (l : List Piece). tag_pieces t ++ l) (tags-end tags tag)

row-end : (tags : List Tag) (tag : Tag) (row : TagTexts)
    → row_from row (tags ++ tag ∷ []) ≡ tag_noted tag.name tag.text (row_from row tags)
unfolding row_from
row-end [] tag row = refl
row-end (t ∷ tags) tag row = row-end tags tag (tag_noted t.name t.text row)

onward_closed : (told_so : List Piece) (stage : GameStage) (row : TagTexts) (moves : List Move)
    → SoFar told_so stage row moves →
    Onward (told_so ++ Sign 93 ∷ []) (closed stage (book_at stage row moves))
onward_closed told_so Before row moves s = tt
onward_closed told_so Tags row moves s = tt
onward_closed told_so Opened row moves s = tt
onward_closed told_so (Named name) row moves s = tt
onward_closed told_so Told row moves (old, t, tag, are, none, is, row_is) = (
  record {
    tags = t.tags ++ tag ∷ [];
    each = each-push IsTag t.tags tag t.each is;
    row_is = row_is ∙ ap (tag_noted tag.name tag.text) t.row_is ∙ sym (row-end t.tags tag empty_row);
  },
  ap (λ (l : List Piece). l ++ Sign 93 ∷ []) are
      ∙ append_assoc (all_tag_pieces t.tags) (Sign 91 ∷ Word tag.name ∷ Quoted tag.text ∷ []) (Sign 93 ∷ [])
      ∙ sym (tags-end t.tags tag),
  none,
)
onward_closed told_so Moves row moves s = tt

-- ---- any piece

-- a sign is one of three
abbrev IsKnown : Piece → Type 0
IsKnown (Sign b) = is_sign b ≡ true
IsKnown piece = is_skipped piece ≡ false

onward_sign : (told_so : List Piece) (stage : GameStage) (row : TagTexts) (moves : List Move) (b : ℕ) → is_sign b ≡ true
    → SoFar told_so stage row moves →
    Onward (told_so ++ Sign b ∷ []) (signed (book_at stage row moves) b)
onward_sign told_so stage row moves b is s =
    let book : Book = book_at stage row moves in
    let pieces : List Piece = told_so ++ Sign b ∷ [] in
    onward_by (b == 91) pieces (stage_opened stage book) (cond (b == 93) (closed stage book) (piece_passed stage book))
    (λ e.
    subst (λ (x : ℕ). Onward (told_so ++ Sign x ∷ []) (stage_opened stage book)) (sym (eqb-true b 91 e))
    (onward_opened told_so stage row moves s))
    (λ no_opening. onward_by (b == 93) pieces (closed stage book) (piece_passed stage book)
    (λ e.
    subst (λ (x : ℕ). Onward (told_so ++ Sign x ∷ []) (closed stage book)) (sym (eqb-true b 93 e))
    (onward_closed told_so stage row moves s))
    (λ no_closing.
    pass_onward told_so stage row moves (Sign b) s (dot b (b == 91) (b == 93) (b == 46) refl is no_opening no_closing)))
  where
    dot : (b : ℕ) (x y z : Bool) → (b == 46) ≡ z → (x || (y || (z || false))) ≡ true → x ≡ false → y ≡ false → b ≡ 46
    dot b true y z e h p q = cc
    dot b false true z e h p q = cc
    dot b false false true e h p q = eqb-true b 46 e
    dot b false false false e h p q = cc

onward : (told_so : List Piece) (stage : GameStage) (row : TagTexts) (moves : List Move) (piece : Piece) → IsKnown piece
    → SoFar told_so stage row moves →
    Onward (told_so ++ piece ∷ []) (took (book_at stage row moves) piece)
unfolding took
onward told_so stage row moves (Blank b) known s = absurd (let f : true ≡ false = known in cc)
onward told_so stage row moves (Escape body) known s = absurd (let f : true ≡ false = known in cc)
onward told_so stage row moves (Braces body) known s = absurd (let f : true ≡ false = known in cc)
onward told_so stage row moves (Comment body) known s = absurd (let f : true ≡ false = known in cc)
onward told_so stage row moves (Word word) known s = onward_word told_so stage row moves word s
onward told_so stage row moves (Glyph word) known s = onward_glyph told_so stage row moves word s
onward told_so stage row moves (Quoted text) known s = onward_text told_so stage row moves text s
onward told_so stage row moves (Sign b) known s = onward_sign told_so stage row moves b known s
onward told_so stage row moves Opening known s = pass_onward told_so stage row moves Opening s tt
onward told_so stage row moves Closing known s = pass_onward told_so stage row moves Closing s tt
onward told_so stage row moves (Within b) known s = pass_onward told_so stage row moves (Within b) s tt

-- ---- whole lists of pieces

abbrev AllKnown : List Piece → Type 0
AllKnown [] = Unit {0}
AllKnown (piece ∷ pieces) = IsKnown piece × AllKnown pieces

-- the game that was begun is one of them, if one was
rests : (told_so : List Piece) (stage : GameStage) (row : TagTexts) (moves : List Move) → SoFar told_so stage row moves
    → is_before stage ≡ true → told_so ≡ []
rests told_so Before row moves s h = s.0
rests told_so Tags row moves s h = absurd (let f : false ≡ true = h in cc)
rests told_so Opened row moves s h = absurd (let f : false ≡ true = h in cc)
rests told_so (Named name) row moves s h = absurd (let f : false ≡ true = h in cc)
rests told_so Told row moves s h = absurd (let f : false ≡ true = h in cc)
rests told_so Moves row moves s h = absurd (let f : false ≡ true = h in cc)

start_so_far : SoFar [] Before empty_row []
start_so_far = (refl, refl, refl)

-- what holds of each book behind a piece
abbrev Further : List Piece → Type 0
Further pieces =
    (book : Book) (told_so : List Piece) → SoFar told_so book.stage book.row book.moves
    → (all_told (Some book) pieces).whole ≡ true →
    AreGames (told_so ++ pieces) (all_told (Some book) pieces).games

with_piece : (piece : Piece) (pieces told_so : List Piece) (given : Option PgnGame) (on : Option Book)
    → OnwardBy (told_so ++ piece ∷ []) given on →
    (with_game_first given (all_told on pieces)).whole ≡ true → Further pieces
    → AreGames (told_so ++ piece ∷ pieces) (with_game_first given (all_told on pieces)).games
with_piece piece pieces told_so None None o h again = absurd (let f : false ≡ true = h in cc)
with_piece piece pieces told_so (Some g) None o h again = absurd (let f : false ≡ true = h in cc)
with_piece piece pieces told_so None (Some b) o h again =
    subst (λ (l : List Piece). AreGames l (all_told (Some b) pieces).games) (append_assoc told_so (piece ∷ []) pieces)
    (again b (told_so ++ piece ∷ []) o h)
with_piece piece pieces told_so (Some g) (Some b) o h again = (
  told_so ++ piece ∷ [],
  pieces,
  sym (append_assoc told_so (piece ∷ []) pieces),
  o.1,
  again b [] (subst (λ (x : Book). SoFar [] x.stage x.row x.moves) (sym o.0) start_so_far) h,
)

games_in : (pieces : List Piece) → AllKnown pieces → Further pieces
games_in [] known book told_so s h = append-nil told_so ∙ rests told_so book.stage book.row book.moves s h
games_in (piece ∷ pieces) known book told_so s h =
    with_piece piece pieces told_so (took book piece).given (took book piece).on
    (onward told_so book.stage book.row book.moves piece known.0 s) h
    (games_in pieces known.1)

-- ---- whole texts

known_piece : (at : At) (piece : Piece) (rest : List ℕ) → MayStand at piece rest → is_skipped piece ≡ false
    → IsKnown piece
known_piece at (Blank b) rest h e = e
known_piece at (Escape body) rest h e = e
known_piece at (Braces body) rest h e = e
known_piece at (Comment body) rest h e = e
known_piece at (Word word) rest h e = e
known_piece at (Glyph word) rest h e = e
known_piece at (Quoted text) rest h e = e
known_piece at (Sign b) rest h e = h.1
known_piece at Opening rest h e = e
known_piece at Closing rest h e = e
known_piece at (Within b) rest h e = e

known_if : (skipped : Bool) (piece : Piece) (pieces : List Piece) → (skipped ≡ false → IsKnown piece) → AllKnown pieces
    → AllKnown (cond (not skipped) (piece ∷ pieces) pieces)
known_if true piece pieces h all = all
known_if false piece pieces h all = (h refl, all)

all_known : (pieces : List Piece) (at : At) (text : List ℕ) → Lexes at text pieces → AllKnown (telling pieces)
all_known [] at text h = tt
all_known (piece ∷ pieces) at text h =
    known_if (is_skipped piece) piece (telling pieces) (known_piece at piece h.0 h.2)
    (all_known pieces (next_place at piece) h.0 h.3)

found_reads : (text : List ℕ) (games : List PgnGame)
    → read_from (Some first_state) text ≡ record { games = games; whole = true } → ReadsGames text games
found_reads text games h =
    let from_start : read_from (Some (state_at (Between true) 0 no_book)) (unmarked text)
    ≡ record { games = games; whole = true } =
    sym (start_read text) ∙ h in
    let f : FoundAt at_start (unmarked text) =
    pieces_found (unmarked text) at_start no_book (ap (λ (o : Outcome). o.whole) from_start) in
    let told_so : all_told (Some no_book) (telling f.pieces) ≡ record { games = games; whole = true } =
    sym (lexed_read f.pieces at_start (unmarked text) (Some no_book) f.lexed) ∙ from_start in
    let are : AreGames (telling f.pieces) (all_told (Some no_book) (telling f.pieces)).games =
    games_in (telling f.pieces) (all_known f.pieces at_start (unmarked text) f.lexed) no_book [] start_so_far
    (ap (λ (o : Outcome). o.whole) told_so) in
    record {
      pieces = f.pieces;
      lexed = f.lexed;
      told = subst (λ (l : List PgnGame). AreGames (telling f.pieces) l) (ap (λ (o : Outcome). o.games) told_so) are;
    }

pub reader_reads : ReaderReads
reader_reads = record { sound = found_reads; complete = reads_told }
