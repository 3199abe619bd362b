-- No line of an exported movetext is longer than 79 bytes.
use Rattle.std.proofs.Common.{arith, ◌≡◌, ℕ, ◌+◌, ◌/◌, ◌%◌, ◌<◌, ◌≤◌, Bool, true, false, ◌&&◌, not, cond, nat_eq, List, [], ◌∷◌, ◌++◌, length, map, refl, sym, ap, subst, ◌∙◌, append_assoc, length-append}
use Rattle.std.specs.Prelude.{◌==◌, nat_le, codes, decimal}
use Rattle.std.specs.List.{AllByRecursion, list_all, onto_first}
use Rattle.std.proofs.lemmas.Bool.{and_parts, eqb-true, not-true}
use Rattle.std.proofs.lemmas.Fmt.{length-decimal-le}
use Rattle.chess_model.specs.declared.moves.Move.{Move}
use Rattle.chess_model.specs.declared.variant.Variant.TheVariants.{Chess}
use Rattle.chess_model.specs.Position.{Position}
use Rattle.chess_model.specs.Allowed.{Allowed, IsLegal}
use Rattle.variant_rules.specs.Showing.{shown_of}
use Rattle.rules_reading.specs.ReadsBack.{pretty_in}
use Rattle.pgn_book.specs.declared.game.PgnResult.{PgnResult}
use Rattle.pgn_book.specs.declared.game.PgnResult.TheVariants.{White, Black, Draw, Open}
use Rattle.pgn_book.specs.Bytes.{is_word_byte}
use Rattle.pgn_book.specs.Games.{result_text, on_board, position_of_moves}
use Rattle.pgn_book.specs.Export.{number_at, move_tokens, laid, movetext}
use Rattle.pgn_book.specs.Laws.{LinesFit}
use Rattle.pgn_book.proofs.Laying.{allowed_at}
use Rattle.pgn_book.proofs.PrettyWords.{IsPlain, allowed_on_squares, pretty_plain, plain_word}
use Rattle.pgn_book.proofs.ExportRead.{decimal_digits, digits_word}
use Rattle.fics_words.specs.Pieces.{pieces}
use Rattle.fics_words.proofs.HandleTests.{at_least}
use Rattle.pgn_book.specs.Lexing.{is_of_line}

-- a token that fits a line
record IsShort (token : List ℕ) : Type 0 where
  most : length token ≤ 79
  bytes : list_all is_of_line token ≡ true

abbrev AllShort : List (List ℕ) → Type 0
AllShort tokens = AllByRecursion IsShort tokens

-- the lines of a text whose first one has begun in that column
record FitsFrom (column : ℕ) (text : List ℕ) : Type 0 where
  first : List ℕ
  others : List (List ℕ)
  lines : pieces text ≡ first ∷ others
  fits : column + length first ≤ 79
  short : AllByRecursion (λ line. length line ≤ 79) others

end_fits : (column : ℕ) → column ≤ 79 → FitsFrom column []
end_fits column h = record { first = []; others = []; lines = refl; fits = omega arith; short = tt }

byte_fits : (column b : ℕ) (text : List ℕ) → is_of_line b ≡ true → FitsFrom (column + 1) text
    → FitsFrom column (b ∷ text)
byte_fits column b text h f =
    let most = f.fits in
    record {
      first = b ∷ f.first;
      others = f.others;
      lines =
          ap (λ (t : Bool). cond t ([] ∷ pieces text) (onto_first b (pieces text))) (not-true (b == 10) h)
          ∙ ap (onto_first b) f.lines;
      fits = omega arith;
      short = f.short;
    }

token_fits : (column : ℕ) (token text : List ℕ) → list_all is_of_line token ≡ true
    → FitsFrom (column + length token) text → FitsFrom column (token ++ text)
token_fits column [] text h f = subst (λ (c : ℕ). FitsFrom c text) (let e : column + 0 ≡ column = omega arith in e) f
token_fits column (b ∷ token) text h f =
    let parts = and_parts (is_of_line b) (list_all is_of_line token) h in
    let along : column + length (b ∷ token) ≡ (column + 1) + length token = omega arith in
    byte_fits column b (token ++ text) parts.0
    (token_fits (column + 1) token text parts.1 (subst (λ (c : ℕ). FitsFrom c text) along f))

feed_fits : (column : ℕ) (text : List ℕ) → column ≤ 79 → FitsFrom 0 text → FitsFrom column (10 ∷ text)
feed_fits column text h f =
    let most = f.fits in
    let short : length f.first ≤ 79 = omega arith in
    record {
      first = [];
      others = f.first ∷ f.others;
      lines = ap (λ (l : List (List ℕ)). [] ∷ l) f.lines;
      fits = omega arith;
      short = (short, f.short);
    }

-- a token at the beginning of a line
first_fits : (token : List ℕ) (text : List ℕ) → IsShort token → FitsFrom (length token) text
    → FitsFrom 0 (token ++ text)
first_fits token text s f =
    token_fits 0 token text s.bytes
    (subst (λ (c : ℕ). FitsFrom c text) (let e : length token ≡ 0 + length token = omega arith in e) f)

laid_by : (token : List ℕ) (tokens : List (List ℕ)) (column : ℕ) (first near : Bool) → nat_eq column 0 ≡ first
    → nat_le (column + 1 + length token) 79 ≡ near →
    column ≤ 79 → IsShort token → ((next : ℕ) → next ≤ 79 → FitsFrom next (laid next tokens)) →
    FitsFrom column (cond first (token ++ laid (length token) tokens)
    (cond near (32 ∷ (token ++ laid (column + 1 + length token) tokens)) (10 ∷ (token ++ laid (length token) tokens))))
laid_by token tokens column true near e f h s again =
    subst (λ (c : ℕ). FitsFrom c (token ++ laid (length token) tokens)) (sym (eqb-true column 0 e))
    (first_fits token (laid (length token) tokens) s (again (length token) s.most))
laid_by token tokens column false true e f h s again =
    let next : ℕ = column + 1 + length token in
    byte_fits column 32 (token ++ laid next tokens) refl
    (token_fits (column + 1) token (laid next tokens) s.bytes (again next (at_least next 79 f)))
laid_by token tokens column false false e f h s again =
    feed_fits column (token ++ laid (length token) tokens) h
    (first_fits token (laid (length token) tokens) s (again (length token) s.most))

laid_fits : (tokens : List (List ℕ)) (column : ℕ) → column ≤ 79 → AllShort tokens → FitsFrom column (laid column tokens)
laid_fits [] column h all = end_fits column h
laid_fits (token ∷ tokens) column h all =
    laid_by token tokens column (nat_eq column 0) (nat_le (column + 1 + length token) 79) refl refl h all.0
    (λ next fits. laid_fits tokens next fits all.1)

-- ---- tokens

no_feed : is_word_byte 10 ≡ true → ⊥
unfolding is_word_byte
no_feed h = let f : false ≡ true = h in cc

word_line : (text : List ℕ) → list_all is_word_byte text ≡ true → list_all is_of_line text ≡ true
word_line [] h = refl
word_line (b ∷ text) h =
    let parts = and_parts (is_word_byte b) (list_all is_word_byte text) h in
    ap (λ (t : Bool). not t && list_all is_of_line text) (by (b == 10) refl parts.0) ∙ word_line text parts.1
  where
    by : (t : Bool) → (b == 10) ≡ t → is_word_byte b ≡ true → (b == 10) ≡ false
    by true e g = absurd (no_feed (sym (ap is_word_byte (eqb-true b 10 e)) ∙ g))
    by false e g = e

number_short : (n : ℕ) → n < 1000 → IsShort (decimal n ++ codes ".")
number_short n h =
    let long : length (decimal n ++ codes ".") ≡ length (decimal n) + 1 = length-append (decimal n) (codes ".") in
    let most : length (decimal n) ≤ 3 = length-decimal-le 3 n (omega arith) (omega arith) (omega arith) in
    record {
      most = omega arith;
      bytes = with_dot (decimal n) (word_line (decimal n) (digits_word (decimal n) (decimal_digits n h)));
    }
  where
    with_dot : (text : List ℕ) → list_all is_of_line text ≡ true → list_all is_of_line (text ++ codes ".") ≡ true
    with_dot [] g = refl
    with_dot (b ∷ text) g =
        let parts = and_parts (is_of_line b) (list_all is_of_line text) g in
        ap (λ (t : Bool). t && list_all is_of_line (text ++ codes ".")) parts.0 ∙ with_dot text parts.1

pretty_short : (p : Position) (m : Move) → Allowed p m → IsShort (pretty_in p m)
pretty_short p m allowed =
    let plain : IsPlain (pretty_in p m) 9 = pretty_plain (shown_of p m) (allowed_on_squares p m allowed) in
    let most = plain.most in
    record { most = omega arith; bytes = word_line (pretty_in p m) (plain_word (pretty_in p m) plain.bytes) }

result_short : (r : PgnResult) → IsShort (result_text r)
result_short White = record { most = omega arith; bytes = refl }
result_short Black = record { most = omega arith; bytes = refl }
result_short Draw = record { most = omega arith; bytes = refl }
result_short Open = record { most = omega arith; bytes = refl }

numbered_short : (wanted : Bool) (n : ℕ) (tokens : List (List ℕ)) → n < 1000 → AllShort tokens →
    AllShort (cond wanted ((decimal n ++ codes ".") ∷ []) [] ++ tokens)
numbered_short true n tokens h all = (number_short n h, all)
numbered_short false n tokens h all = all

-- the tokens of moves, with others behind them
moves_short : (moves before : List Move) (rest : List (List ℕ)) → IsLegal Chess (map on_board (before ++ moves))
    → length before + length moves ≤ 1200 →
    AllShort rest → AllShort (move_tokens before moves ++ rest)
moves_short [] before rest legal few all = all
moves_short (m ∷ moves) before rest legal few all =
    let grown : length (before ++ m ∷ []) ≡ length before + 1 = length-append before (m ∷ []) in
    let split : (before ++ m ∷ []) ++ moves ≡ before ++ m ∷ moves = append_assoc before (m ∷ []) moves in
    let later : AllShort (move_tokens (before ++ m ∷ []) moves ++ rest) =
    moves_short moves (before ++ m ∷ []) rest
    (subst (λ (l : List Move). IsLegal Chess (map on_board l)) (sym split) legal) (omega arith) all in
    let here : IsShort (pretty_in (position_of_moves before) m) =
    pretty_short (position_of_moves before) m (allowed_at before moves m legal) in
    subst AllShort
    (sym (append_assoc (number_at (length before))
    (pretty_in (position_of_moves before) m ∷ move_tokens (before ++ m ∷ []) moves) rest))
    (numbered_short (nat_eq (length before % 2) 0) (length before / 2 + 1)
    (pretty_in (position_of_moves before) m ∷ (move_tokens (before ++ m ∷ []) moves ++ rest)) (omega arith)
    (here, later))

pub lines_fit : LinesFit
lines_fit g h =
    let last : AllShort (result_text g.result ∷ []) = (result_short g.result, tt) in
    let few = h.most in
    let f : FitsFrom 0 (movetext g) =
    laid_fits (move_tokens [] g.moves ++ result_text g.result ∷ []) 0 (omega arith)
    (moves_short g.moves [] (result_text g.result ∷ []) h.legal (omega arith) last) in
    let fits = f.fits in
    let first_short : length f.first ≤ 79 = omega arith in
    subst (λ (l : List (List ℕ)). AllByRecursion (λ line. length line ≤ 79) l) (sym f.lines) (first_short, f.short)
