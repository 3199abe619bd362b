-- What is exported is read as the game that was exported.
use Rattle.std.proofs.Common.{arith, ◌≡◌, ◌≢◌, ℕ, ◌+◌, ◌/◌, ◌%◌, ◌<◌, ◌≤◌, inl, inr, Bool, true, false, ◌&&◌, ◌||◌, cond, nat_eq, List, [], ◌∷◌, ◌++◌, length, map, refl, sym, ap, subst, ◌∙◌, append_assoc, append-nil, length-append}
use Rattle.std.specs.Prelude.{◌==◌, nat_le, codes, decimal}
use Rattle.std.specs.List.{list_all}
use Rattle.std.proofs.lemmas.Bool.{and_parts, ne_eqb}
use Rattle.std.proofs.lemmas.Bool.Decides.{nat_tests}
use Rattle.std.proofs.lemmas.Fmt.{decimal_is_IsNumeral, digits_decimal, length-decimal-le}
use Rattle.std.proofs.lemmas.Str.Parse.{IsDigitsTest, numerals_by_value}
use Rattle.chess_model.specs.declared.moves.Move.{Move}
use Rattle.chess_model.specs.declared.states.Shown.{Shown}
use Rattle.chess_model.specs.declared.variant.Variant.TheVariants.{Chess}
use Rattle.chess_model.specs.Position.{Position}
use Rattle.chess_model.specs.Allowed.{Allowed, IsLegal}
use Rattle.move_writer.specs.Pretty.{pretty_of}
use Rattle.variant_rules.specs.Showing.{shown_of}
use Rattle.rules_reading.specs.ReadsBack.{IsReadAs, pretty_in}
use Rattle.rules_reading.proofs.ReadBack.{reads_back}
use Rattle.pgn_book.specs.declared.game.PgnResult.{PgnResult}
use Rattle.pgn_book.specs.declared.game.PgnResult.TheVariants.{White, Black, Draw, Open}
use Rattle.pgn_book.specs.declared.game.PgnGame.{PgnGame}
use Rattle.pgn_book.specs.Bytes.{is_among, is_space, is_letter, is_digit, move_signs, is_word_byte, StopsBefore}
use Rattle.pgn_book.specs.Lexing.{Piece, Blank, Word, Quoted, Sign, escaped, IsWord, IsText, At, is_sign, Lexes}
use Rattle.pgn_book.specs.Games.{result_text, on_board, position_of_moves, Tag, all_tag_pieces, IsPassed, IsMoveWord, TellMoves, IsOneGame, ReadsGames}
use Rattle.pgn_book.specs.Export.{tag_line, move_tokens, laid, movetext, export_text, IsExportable}
use Rattle.pgn_book.specs.Laws.{ExportsReadBack}
use Rattle.pgn_book.proofs.PiecesRead.{telling}
use Rattle.pgn_book.proofs.GamesTold.{one_reading}
use Rattle.pgn_book.proofs.Laying.{allowed_at}
use Rattle.pgn_book.proofs.PrettyWords.{IsPlain, allowed_on_squares, pretty_plain, HasHead, move_head, no_number, no_result, unpraised, plain_word}
use Rattle.std.proofs.lemmas.List.{map-append}
use Rattle.chess_model.proofs.SoundPositions.{legal_front}

-- ---- numbers

in_range : (b : ℕ) → is_digit b ≡ true → (48 ≤ b) × (b ≤ 57)
in_range b h = (low b h, high b h)
  where
    low : (b : ℕ) → (nat_le 48 b && nat_le b 57) ≡ true → 48 ≤ b
    low b e = grind (arith, nat_tests)

    high : (b : ℕ) → (nat_le 48 b && nat_le b 57) ≡ true → b ≤ 57
    high b e = grind (arith, nat_tests)

from_range : (b : ℕ) → 48 ≤ b → b ≤ 57 → is_digit b ≡ true
from_range b p q = grind (arith, nat_tests)

digits_test : IsDigitsTest (λ ds. list_all is_digit ds ≡ true)
digits_test = record {
  empty = refl;
  parts = λ b ds h. let t = and_parts (is_digit b) (list_all is_digit ds) h in (in_range b t.0, t.1);
  more = λ b ds r h. ap (λ (t : Bool). t && list_all is_digit ds) (from_range b r.0 r.1) ∙ h;
}

pub decimal_digits : (n : ℕ) → n < 1000 → list_all is_digit (decimal n) ≡ true
decimal_digits n h = digits_decimal (numerals_by_value (λ ds. list_all is_digit ds ≡ true) digits_test) n (omega arith)

any_digit : (l d u s : Bool) → d ≡ true → ((l || (d || u)) || s) ≡ true
any_digit true d u s h = refl
any_digit false true u s h = refl
any_digit false false u s h = cc

pub digits_word : (text : List ℕ) → list_all is_digit text ≡ true → list_all is_word_byte text ≡ true
unfolding is_word_byte
digits_word [] h = refl
digits_word (b ∷ text) h =
    let parts = and_parts (is_digit b) (list_all is_digit text) h in
    ap (λ (t : Bool). t && list_all is_word_byte text)
    (any_digit (is_letter b) (is_digit b) (b == 95) (is_among move_signs b) parts.0)
    ∙ digits_word text parts.1

some_digits : (n : ℕ) → n < 1000 → decimal n ≢ []
some_digits n h e =
    let some : 0 < length (decimal n) = (decimal_is_IsNumeral n (omega arith)).0.0 in
    let zero_long : length (decimal n) ≡ 0 = ap length e in
    omega arith

-- ---- texts that show pieces

-- outside of variations
abbrev out : Bool → At
out fresh = record { depth = 0; fresh = fresh }

-- the text has pieces of which these tell something
record Shows (fresh : Bool) (text : List ℕ) (told : List Piece) : Type 0 where
  pieces : List Piece
  lexed : Lexes (out fresh) text pieces
  telling_is : telling pieces ≡ told

end_shown : (fresh : Bool) → Shows fresh [] []
end_shown fresh = record { pieces = []; lexed = (refl, refl); telling_is = refl }

blank_shown : (b : ℕ) (fresh : Bool) (rest : List ℕ) (told : List Piece) → is_space b ≡ true → Shows (b == 10) rest told
    → Shows fresh (b ∷ rest) told
blank_shown b fresh rest told h s =
    record { pieces = Blank b ∷ s.pieces; lexed = (rest, refl, h, s.lexed); telling_is = s.telling_is }

sign_shown : (b : ℕ) (fresh : Bool) (rest : List ℕ) (told : List Piece) → is_sign b ≡ true → Shows false rest told
    → Shows fresh (b ∷ rest) (Sign b ∷ told)
sign_shown b fresh rest told h s = record {
  pieces = Sign b ∷ s.pieces;
  lexed = (rest, refl, (refl, h), s.lexed);
  telling_is = ap (λ (l : List Piece). Sign b ∷ l) s.telling_is;
}

word_shown : (word : List ℕ) (fresh : Bool) (rest : List ℕ) (told : List Piece) → word ≢ [] → IsWord word rest
    → Shows false rest told →
    Shows fresh (word ++ rest) (Word word ∷ told)
word_shown word fresh rest told some is s = record {
  pieces = Word word ∷ s.pieces;
  lexed = (rest, refl, (refl, some, is), s.lexed);
  telling_is = ap (λ (l : List Piece). Word word ∷ l) s.telling_is;
}

text_shown : (text : List ℕ) (fresh : Bool) (rest : List ℕ) (told : List Piece) → IsText text → Shows false rest told →
    Shows fresh ((34 ∷ (escaped text ++ 34 ∷ [])) ++ rest) (Quoted text ∷ told)
text_shown text fresh rest told is s = record {
  pieces = Quoted text ∷ s.pieces;
  lexed = (rest, refl, (refl, is), s.lexed);
  telling_is = ap (λ (l : List Piece). Quoted text ∷ l) s.telling_is;
}

-- ---- tags

record IsKnownName (name : List ℕ) : Type 0 where
  some : name ≢ []
  bytes : list_all is_word_byte name ≡ true
  most : length name ≤ 255

tag_split : (name text rest : List ℕ) →
    tag_line name text ++ rest ≡ 91 ∷ (name ++ (32 ∷ ((34 ∷ (escaped text ++ 34 ∷ [])) ++ (93 ∷ 10 ∷ rest))))
tag_split name text rest =
    append_assoc (((91 ∷ name) ++ (32 ∷ 34 ∷ [])) ++ escaped text) (34 ∷ 93 ∷ 10 ∷ []) rest
    ∙ append_assoc ((91 ∷ name) ++ (32 ∷ 34 ∷ [])) (escaped text) (34 ∷ 93 ∷ 10 ∷ rest)
    ∙ append_assoc (91 ∷ name) (32 ∷ 34 ∷ []) (escaped text ++ (34 ∷ 93 ∷ 10 ∷ rest))
    ∙ ap (λ (l : List ℕ). 91 ∷ (name ++ (32 ∷ 34 ∷ l))) (sym (append_assoc (escaped text) (34 ∷ []) (93 ∷ 10 ∷ rest)))

space_stops : is_word_byte 32 ≡ false
unfolding is_word_byte
space_stops = refl

feed_stops : is_word_byte 10 ≡ false
unfolding is_word_byte
feed_stops = refl

dot_stops : is_word_byte 46 ≡ false
unfolding is_word_byte
dot_stops = refl

tag_shown : (name text rest : List ℕ) (told : List Piece) → IsKnownName name → IsText text → Shows true rest told →
    Shows true (tag_line name text ++ rest) (Sign 91 ∷ Word name ∷ Quoted text ∷ Sign 93 ∷ told)
tag_shown name text rest told known is s =
    let line_end : Shows false (93 ∷ 10 ∷ rest) (Sign 93 ∷ told) =
    sign_shown 93 false (10 ∷ rest) told refl (blank_shown 10 false rest told refl s) in
    let quoted_part : List ℕ = (34 ∷ (escaped text ++ 34 ∷ [])) ++ (93 ∷ 10 ∷ rest) in
    let quoted : Shows false quoted_part (Quoted text ∷ Sign 93 ∷ told) =
    text_shown text false (93 ∷ 10 ∷ rest) (Sign 93 ∷ told) is line_end in
    let spaced : Shows false (32 ∷ quoted_part) (Quoted text ∷ Sign 93 ∷ told) =
    blank_shown 32 false quoted_part (Quoted text ∷ Sign 93 ∷ told) refl quoted in
    let word : IsWord name (32 ∷ quoted_part) =
    record { bytes = known.bytes; most = known.most; whole = space_stops } in
    let named : Shows false (name ++ (32 ∷ quoted_part)) (Word name ∷ Quoted text ∷ Sign 93 ∷ told) =
    word_shown name false (32 ∷ quoted_part) (Quoted text ∷ Sign 93 ∷ told) known.some word spaced in
    subst (λ (t : List ℕ). Shows true t (Sign 91 ∷ Word name ∷ Quoted text ∷ Sign 93 ∷ told))
    (sym (tag_split name text rest))
    (sign_shown 91 true (name ++ (32 ∷ quoted_part)) (Word name ∷ Quoted text ∷ Sign 93 ∷ told) refl named)

-- ---- tokens

-- a token that tells these pieces, whatever stands behind it
record IsToken (token : List ℕ) (told : List Piece) : Type 0 where
  some : 0 < length token
  shows : (fresh : Bool) (rest : List ℕ) (more : List Piece) → StopsBefore is_word_byte rest → Shows false rest more
      → Shows fresh (token ++ rest) (told ++ more)

record Token : Type 0 where
  text : List ℕ
  told : List Piece
  is : IsToken text told

texts : List Token → List (List ℕ)
texts [] = []
texts (t ∷ ts) = t.text ∷ texts ts

tolds : List Token → List Piece
tolds [] = []
tolds (t ∷ ts) = t.told ++ tolds ts

laid_stops : (tokens : List (List ℕ)) (column : ℕ) (rest : List ℕ) → 0 < column → StopsBefore is_word_byte rest
    → StopsBefore is_word_byte (laid column tokens ++ rest)
laid_stops [] column rest h stops = stops
laid_stops (t ∷ ts) column rest h stops =
    let some : nat_eq column 0 ≡ false = ne_eqb column 0 (λ e. omega arith) in
    let near : List ℕ = 32 ∷ (t ++ laid (column + 1 + length t) ts) in
    let far : List ℕ = 10 ∷ (t ++ laid (length t) ts) in
    subst (λ (x : Bool).
    StopsBefore is_word_byte
    (cond x (t ++ laid (length t) ts) (cond (nat_le (column + 1 + length t) 79) near far) ++ rest))
    (sym some)
    (by (nat_le (column + 1 + length t) 79))
  where
    by : (y : Bool)
        → StopsBefore is_word_byte
        (cond y (32 ∷ (t ++ laid (column + 1 + length t) ts)) (10 ∷ (t ++ laid (length t) ts)) ++ rest)
    by true = space_stops
    by false = feed_stops

-- one token more, before those that are laid behind it
one_laid : (t : Token) (ts : List Token) (fresh : Bool) (next : ℕ) (rest : List ℕ) (more : List Piece)
    → StopsBefore is_word_byte rest → 0 < next →
    Shows false (laid next (texts ts) ++ rest) (tolds ts ++ more)
    → Shows fresh ((t.text ++ laid next (texts ts)) ++ rest) ((t.told ++ tolds ts) ++ more)
one_laid t ts fresh next rest more stops h again =
    subst (λ (l : List ℕ). Shows fresh l ((t.told ++ tolds ts) ++ more))
    (sym (append_assoc t.text (laid next (texts ts)) rest))
    (subst (λ (l : List Piece). Shows fresh (t.text ++ (laid next (texts ts) ++ rest)) l)
    (sym (append_assoc t.told (tolds ts) more))
    (t.is.shows fresh (laid next (texts ts) ++ rest) (tolds ts ++ more) (laid_stops (texts ts) next rest h stops)
    again))

laid_step : (t : Token) (ts : List Token) (column : ℕ) (fresh first near : Bool) (rest : List ℕ) (more : List Piece)
    → StopsBefore is_word_byte rest →
    ((next : ℕ) → Shows false (laid next (texts ts) ++ rest) (tolds ts ++ more)) →
    Shows fresh (cond first (t.text ++ laid (length t.text) (texts ts))
    (cond near (32 ∷ (t.text ++ laid (column + 1 + length t.text) (texts ts)))
    (10 ∷ (t.text ++ laid (length t.text) (texts ts))))
    ++ rest)
    ((t.told ++ tolds ts) ++ more)
laid_step t ts column fresh true near rest more stops again =
    one_laid t ts fresh (length t.text) rest more stops t.is.some (again (length t.text))
laid_step t ts column fresh false true rest more stops again =
    let next : ℕ = column + 1 + length t.text in
    blank_shown 32 fresh ((t.text ++ laid next (texts ts)) ++ rest) ((t.told ++ tolds ts) ++ more) refl
    (one_laid t ts false next rest more stops (omega arith) (again next))
laid_step t ts column fresh false false rest more stops again =
    let next : ℕ = length t.text in
    blank_shown 10 fresh ((t.text ++ laid next (texts ts)) ++ rest) ((t.told ++ tolds ts) ++ more) refl
    (one_laid t ts true next rest more stops t.is.some (again next))

-- tokens that are laid from a column on show what they tell
laid_shown : (tokens : List Token) (column : ℕ) (fresh : Bool) (rest : List ℕ) (more : List Piece)
    → StopsBefore is_word_byte rest →
    ((at : Bool) → Shows at rest more) → Shows fresh (laid column (texts tokens) ++ rest) (tolds tokens ++ more)
unfolding texts tolds
laid_shown [] column fresh rest more stops shown = shown fresh
laid_shown (t ∷ ts) column fresh rest more stops shown =
    laid_step t ts column fresh (nat_eq column 0) (nat_le (column + 1 + length t.text) 79) rest more stops
    (λ next. laid_shown ts next false rest more stops shown)

-- ---- the tokens of a game

-- a single word
word_token : (word : List ℕ) → 0 < length word → list_all is_word_byte word ≡ true → length word ≤ 255
    → IsToken word (Word word ∷ [])
word_token word some bytes most = record {
  some = some;
  shows = λ fresh rest more stops s.
      word_shown word fresh rest more (λ e. let zero_long : length word ≡ 0 = ap length e in omega arith)
      (record { bytes = bytes; most = most; whole = stops }) s;
}

-- a number and its dot
number_token : (n : ℕ) → n < 1000 → IsToken (decimal n ++ 46 ∷ []) (Word (decimal n) ∷ Sign 46 ∷ [])
number_token n h =
    let long : length (decimal n ++ 46 ∷ []) ≡ length (decimal n) + 1 = length-append (decimal n) (46 ∷ []) in
    let most : length (decimal n) ≤ 3 = length-decimal-le 3 n (omega arith) (omega arith) (omega arith) in
    record {
      some = omega arith;
      shows = λ fresh rest more stops s.
          subst (λ (t : List ℕ). Shows fresh t (Word (decimal n) ∷ Sign 46 ∷ more))
          (sym (append_assoc (decimal n) (46 ∷ []) rest))
          (word_shown (decimal n) fresh (46 ∷ rest) (Sign 46 ∷ more) (some_digits n h)
          (record { bytes = digits_word (decimal n) (decimal_digits n h); most = omega arith; whole = dot_stops })
          (sign_shown 46 false rest more refl s));
    }

-- the pretty text of an allowed move
record IsPrettyWord (before : List Move) (m : Move) : Type 0 where
  allowed : Allowed (position_of_moves before) m
  token : IsToken (pretty_in (position_of_moves before) m) (Word (pretty_in (position_of_moves before) m) ∷ [])
  move_word : IsMoveWord before (pretty_in (position_of_moves before) m) m

pretty_word : (before after : List Move) (m : Move) → IsLegal Chess (map on_board (before ++ m ∷ after))
    → IsPrettyWord before m
pretty_word before after m legal =
    let p : Position = position_of_moves before in
    let shown : Shown = shown_of p m in
    let allowed : Allowed p m = allowed_at before after m legal in
    let front : IsLegal Chess (map on_board before) =
    legal_front Chess (map on_board before) (map on_board (m ∷ after))
    (subst (IsLegal Chess) (map-append on_board before (m ∷ after)) legal) in
    let plain : IsPlain (pretty_of shown) 9 = pretty_plain shown (allowed_on_squares p m allowed) in
    let head : HasHead (pretty_of shown) = move_head shown m in
    let read : IsReadAs p (pretty_of shown) m = reads_back Chess (map on_board before) 1 m front allowed in
    let long : length (pretty_of shown) ≡ length head.rest + 1 =
    ap length head.is ∙ (let grown : length (head.byte ∷ head.rest) ≡ length head.rest + 1 = omega arith in grown) in
    let most = plain.most in
    record {
      allowed = allowed;
      token = word_token (pretty_of shown) (omega arith) (plain_word (pretty_of shown) plain.bytes) (omega arith);
      move_word = record {
        no_number = no_number (pretty_of shown) head;
        no_result = no_result (pretty_of shown) head;
        read = subst (λ (t : List ℕ). IsReadAs p t m) (sym (unpraised (pretty_of shown) plain.bytes)) read;
      };
    }

-- the tokens of moves, and what they tell
record MovesShown (before moves : List Move) : Type 0 where
  tokens : List Token
  texts_are : texts tokens ≡ move_tokens before moves
  told : TellMoves before (tolds tokens) moves

pass_on : (before : List Move) (piece : Piece) (pieces : List Piece) (moves : List Move) → IsPassed piece
    → TellMoves before pieces moves →
    TellMoves before (piece ∷ pieces) moves
pass_on before piece pieces moves is h =
    ([], moves, inl (is, refl), subst (λ (l : List Move). TellMoves l pieces moves) (sym (append-nil before)) h, refl)

next_on : (before : List Move) (word : List ℕ) (m : Move) (pieces : List Piece) (moves : List Move)
    → IsMoveWord before word m →
    TellMoves (before ++ m ∷ []) pieces moves → TellMoves before (Word word ∷ pieces) (m ∷ moves)
next_on before word m pieces moves is h =
    (m ∷ [], moves, inr (record { word = word; move = m; is = refl; read = is; only = refl }), h, refl)

numbered : (before : List Move) (m : Move) (moves : List Move) (wanted : Bool) → nat_eq (length before % 2) 0 ≡ wanted
    → length before ≤ 1200 →
    IsPrettyWord before m → MovesShown (before ++ m ∷ []) moves → MovesShown before (m ∷ moves)
unfolding texts tolds
numbered before m moves wanted e few is rest =
    let word : List ℕ = pretty_in (position_of_moves before) m in
    let n : ℕ = length before / 2 + 1 in
    let move_token : Token = record { text = word; told = Word word ∷ []; is = is.token } in
    let number : Token =
    record { text = decimal n ++ 46 ∷ []; told = Word (decimal n) ∷ Sign 46 ∷ []; is = number_token n (omega arith) } in
    let told : TellMoves before (Word word ∷ tolds rest.tokens) (m ∷ moves) =
    next_on before word m (tolds rest.tokens) moves is.move_word rest.told in
    elim wanted as (λ w. nat_eq (length before % 2) 0 ≡ w → MovesShown before (m ∷ moves)) [
      | true ↦ λ e. record {
        tokens = number ∷ move_token ∷ rest.tokens;
        texts_are = ap (λ (l : List (List ℕ)). (decimal n ++ 46 ∷ []) ∷ word ∷ l) rest.texts_are
            ∙ ap
            (λ (t : Bool).
            cond t ((decimal n ++ codes ".") ∷ []) [] ++ word ∷ move_tokens (before ++ m ∷ []) moves) (sym e);
        told =
            pass_on before (Word (decimal n)) (Sign 46 ∷ Word word ∷ tolds rest.tokens) (m ∷ moves)
            (decimal_digits n (omega arith))
            (pass_on before (Sign 46) (Word word ∷ tolds rest.tokens) (m ∷ moves) refl told);
      }
      | false ↦ λ e. record {
        tokens = move_token ∷ rest.tokens;
        texts_are = ap (λ (l : List (List ℕ)). word ∷ l) rest.texts_are
            ∙ ap
            (λ (t : Bool).
            cond t ((decimal n ++ codes ".") ∷ []) [] ++ word ∷ move_tokens (before ++ m ∷ []) moves) (sym e);
        told = told;
      }
    ] e

moves_shown : (moves before : List Move) → IsLegal Chess (map on_board (before ++ moves))
    → length before + length moves ≤ 1200 → MovesShown before moves
unfolding texts tolds
moves_shown [] before legal few = record { tokens = []; texts_are = refl; told = refl }
moves_shown (m ∷ moves) before legal few =
    let grown : length (before ++ m ∷ []) ≡ length before + 1 = length-append before (m ∷ []) in
    let split : (before ++ m ∷ []) ++ moves ≡ before ++ m ∷ moves = append_assoc before (m ∷ []) moves in
    numbered before m moves (nat_eq (length before % 2) 0) refl (omega arith) (pretty_word before moves m legal)
    (moves_shown moves (before ++ m ∷ []) (subst (λ (l : List Move). IsLegal Chess (map on_board l)) (sym split) legal)
    (omega arith))

result_token : (r : PgnResult) → IsToken (result_text r) (Word (result_text r) ∷ [])
unfolding is_word_byte
result_token White = word_token (codes "1-0") (omega arith) refl (omega arith)
result_token Black = word_token (codes "0-1") (omega arith) refl (omega arith)
result_token Draw = word_token (codes "1/2-1/2") (omega arith) refl (omega arith)
result_token Open = word_token (codes "*") (omega arith) refl (omega arith)

texts-append : (a b : List Token) → texts (a ++ b) ≡ texts a ++ texts b
unfolding texts
texts-append [] b = refl
texts-append (t ∷ a) b = ap (λ (l : List (List ℕ)). t.text ∷ l) (texts-append a b)

tolds-append : (a b : List Token) → tolds (a ++ b) ≡ tolds a ++ tolds b
unfolding tolds
tolds-append [] b = refl
tolds-append (t ∷ a) b =
    ap (λ (l : List Piece). t.told ++ l) (tolds-append a b) ∙ sym (append_assoc t.told (tolds a) (tolds b))

-- the movetext of a game, with the empty line behind it
movetext_shown : (g : PgnGame) (body : MovesShown [] g.moves) →
    Shows true (movetext g ++ 10 ∷ 10 ∷ []) (tolds body.tokens ++ Word (result_text g.result) ∷ [])
unfolding texts tolds
movetext_shown g body =
    let last : Token =
    record { text = result_text g.result; told = Word (result_text g.result) ∷ []; is = result_token g.result } in
    let tokens : List Token = body.tokens ++ last ∷ [] in
    let feeds : (at : Bool) → Shows at (10 ∷ 10 ∷ []) [] =
    (λ at. blank_shown 10 at (10 ∷ []) [] refl (blank_shown 10 true [] [] refl (end_shown true))) in
    let told_is : tolds tokens ++ [] ≡ tolds body.tokens ++ Word (result_text g.result) ∷ [] =
    append-nil (tolds tokens) ∙ tolds-append body.tokens (last ∷ []) in
    let texts_are : texts tokens ≡ move_tokens [] g.moves ++ result_text g.result ∷ [] =
    texts-append body.tokens (last ∷ []) ∙ ap (λ (l : List (List ℕ)). l ++ result_text g.result ∷ []) body.texts_are in
    subst (λ (l : List Piece). Shows true (movetext g ++ 10 ∷ 10 ∷ []) l) told_is
    (subst (λ (l : List (List ℕ)). Shows true (laid 0 l ++ 10 ∷ 10 ∷ []) (tolds tokens ++ [])) texts_are
    (laid_shown tokens 0 true (10 ∷ 10 ∷ []) [] feed_stops feeds))

-- ---- the whole export

result_is_text : (r : PgnResult) → IsText (result_text r)
result_is_text White = record { bytes = refl; most = omega arith }
result_is_text Black = record { bytes = refl; most = omega arith }
result_is_text Draw = record { bytes = refl; most = omega arith }
result_is_text Open = record { bytes = refl; most = omega arith }

event_name : IsKnownName (codes "Event")
unfolding is_word_byte
event_name = record { some = λ e. cc; bytes = refl; most = omega arith }

site_name : IsKnownName (codes "Site")
unfolding is_word_byte
site_name = record { some = λ e. cc; bytes = refl; most = omega arith }

date_name : IsKnownName (codes "Date")
unfolding is_word_byte
date_name = record { some = λ e. cc; bytes = refl; most = omega arith }

round_name : IsKnownName (codes "Round")
unfolding is_word_byte
round_name = record { some = λ e. cc; bytes = refl; most = omega arith }

white_name : IsKnownName (codes "White")
unfolding is_word_byte
white_name = record { some = λ e. cc; bytes = refl; most = omega arith }

black_name : IsKnownName (codes "Black")
unfolding is_word_byte
black_name = record { some = λ e. cc; bytes = refl; most = omega arith }

result_name : IsKnownName (codes "Result")
unfolding is_word_byte
result_name = record { some = λ e. cc; bytes = refl; most = omega arith }

-- the seven tags
abbrev seven_tags : PgnGame → List Tag
seven_tags g =
    record { name = codes "Event"; text = g.tags.event } ∷ record { name = codes "Site"; text = g.tags.site }
    ∷ record { name = codes "Date"; text = g.tags.date } ∷ record { name = codes "Round"; text = g.tags.round }
    ∷ record { name = codes "White"; text = g.tags.white } ∷ record { name = codes "Black"; text = g.tags.black }
    ∷ record { name = codes "Result"; text = result_text g.result } ∷ []

regrouped : (a b c d e f h n m end : List ℕ) → ((((((((a ++ b) ++ c) ++ d) ++ e) ++ f) ++ h) ++ n) ++ m) ++ end
    ≡ a ++ (b ++ (c ++ (d ++ (e ++ (f ++ (h ++ (n ++ (m ++ end))))))))
regrouped a b c d e f h n m end = simp append_assoc

export_shown : (g : PgnGame) (h : IsExportable g) (body : MovesShown [] g.moves) →
    Shows true (export_text g)
    (all_tag_pieces (seven_tags g) ++ (tolds body.tokens ++ Word (result_text g.result) ∷ []))
export_shown g h body =
    let told : List Piece = tolds body.tokens ++ Word (result_text g.result) ∷ [] in
    let m : List ℕ = movetext g ++ 10 ∷ 10 ∷ [] in
    let start : List ℕ = 10 ∷ m in
    let s0 = blank_shown 10 true m told refl (movetext_shown g body) in
    let s1 = tag_shown (codes "Result") (result_text g.result) start told result_name (result_is_text g.result) s0 in
    let s2 = tag_shown (codes "Black") g.tags.black _ _ black_name h.black s1 in
    let s3 = tag_shown (codes "White") g.tags.white _ _ white_name h.white s2 in
    let s4 = tag_shown (codes "Round") g.tags.round _ _ round_name h.round s3 in
    let s5 = tag_shown (codes "Date") g.tags.date _ _ date_name h.date s4 in
    let s6 = tag_shown (codes "Site") g.tags.site _ _ site_name h.site s5 in
    let s7 = tag_shown (codes "Event") g.tags.event _ _ event_name h.event s6 in
    let split =
    regrouped
    (tag_line (codes "Event") g.tags.event) (tag_line (codes "Site") g.tags.site) (tag_line (codes "Date") g.tags.date)
    (tag_line (codes "Round") g.tags.round)
    (tag_line (codes "White") g.tags.white) (tag_line (codes "Black") g.tags.black)
    (tag_line (codes "Result") (result_text g.result)) (10 ∷ []) (movetext g) (10 ∷ 10 ∷ []) in
    subst (λ (t : List ℕ). Shows true t (all_tag_pieces (seven_tags g) ++ told)) (sym split) s7

export_game : (g : PgnGame) (h : IsExportable g) (body : MovesShown [] g.moves) →
    IsOneGame (all_tag_pieces (seven_tags g) ++ (tolds body.tokens ++ Word (result_text g.result) ∷ [])) g
export_game g h body = record {
  tags = seven_tags g;
  body = tolds body.tokens;
  each_tag = (
    record { bytes = refl; not_FEN = refl },
    (
      record { bytes = refl; not_FEN = refl },
      (
        record { bytes = refl; not_FEN = refl },
        (
          record { bytes = refl; not_FEN = refl },
          (
            record { bytes = refl; not_FEN = refl },
            (
              record { bytes = refl; not_FEN = refl },
              (record { bytes = refl; not_FEN = refl }, tt),
            ),
          ),
        ),
      ),
    ),
  );
  row = refl;
  moves = body.told;
  most = h.most;
  whole = refl;
}

export_read : (g : PgnGame) → IsExportable g → ReadsGames (export_text g) (g ∷ [])
export_read g h =
    let body : MovesShown [] g.moves = moves_shown g.moves [] h.legal (omega (arith, h.most)) in
    let shown = export_shown g h body in
    let told : List Piece = all_tag_pieces (seven_tags g) ++ (tolds body.tokens ++ Word (result_text g.result) ∷ []) in
    record {
      pieces = shown.pieces;
      lexed = shown.lexed;
      told = (told, [], shown.telling_is ∙ sym (append-nil told), export_game g h body, refl);
    }

pub exports_read_back : ExportsReadBack
exports_read_back = record {
  read = export_read;
  only = λ g games h r. one_reading (export_text g) games (g ∷ []) r (export_read g h);
}
