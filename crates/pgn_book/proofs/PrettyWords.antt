-- Pretty texts are words, and no numbers and no results.
use Rattle.std.proofs.Common.{arith, ◌≡◌, ℕ, ◌+◌, ◌/◌, ◌%◌, ◌<◌, ◌≤◌, Bool, true, false, ◌&&◌, ◌||◌, not, cond, nat_eq, List, [], ◌∷◌, ◌++◌, length, reverse, Option, Some, None, refl, sym, ap, subst, ◌∙◌, length-append}
use Rattle.std.specs.Prelude.{◌==◌, bytes_eq, codes}
use Rattle.std.specs.List.{list_all}
use Rattle.std.proofs.lemmas.Bool.{and_parts, not-true}
use Rattle.std.proofs.lemmas.List.{reverse-append, reverse-reverse}
use Rattle.chess_model.specs.declared.man.Kind.{Kind}
use Rattle.chess_model.specs.declared.man.Kind.TheVariants.{Pawn, Knight, Bishop, Rook, Queen, King}
use Rattle.chess_model.specs.declared.moves.Move.{Move}
use Rattle.chess_model.specs.declared.moves.Move.TheVariants as move
use Rattle.chess_model.specs.declared.states.State.{State}
use Rattle.chess_model.specs.declared.states.State.TheVariants.{Safe, Check, Mate, Stalemate}
use Rattle.chess_model.specs.declared.states.Shown.{Shown}
use Rattle.chess_model.specs.Position.{Position}
use Rattle.chess_model.specs.Allowed.{Allowed}
use Rattle.move_writer.specs.Letters.{letter_of, file_letter, rank_digit, square_text, promotion_text}
use Rattle.move_writer.specs.Pretty.{only_if, origin_text, pretty_move, mark_text, pretty_of}
use Rattle.pgn_book.specs.Bytes.{is_among, is_digit, is_word_byte}
use Rattle.pgn_book.specs.Games.{is_result, is_praise, without_leading, without_praise}
use Rattle.chess_model.proofs.Arrays.{each_file}

-- ---- the bytes of pretty texts

-- a byte of a word that neither praises nor blames
pub is_plain : ℕ → Bool
is_plain b = is_word_byte b && not (is_praise b)

-- a byte with which no number and no result begins
pub is_head : ℕ → Bool
is_head b = not (is_digit b) && not (is_among (49 ∷ 48 ∷ 42 ∷ []) b)

-- at most so many plain bytes
pub record IsPlain (text : List ℕ) (n : ℕ) : Type 0 where
  pub bytes : list_all is_plain text ≡ true
  pub most : length text ≤ n

all-append : (f : ℕ → Bool) (xs ys : List ℕ) → list_all f xs ≡ true → list_all f ys ≡ true
    → list_all f (xs ++ ys) ≡ true
all-append f [] ys h g = g
all-append f (x ∷ xs) ys h g =
    let parts = and_parts (f x) (list_all f xs) h in
    ap (λ (t : Bool). t && list_all f (xs ++ ys)) parts.0 ∙ all-append f xs ys parts.1 g

join : (xs ys : List ℕ) (m n : ℕ) → IsPlain xs m → IsPlain ys n → IsPlain (xs ++ ys) (m + n)
join xs ys m n h g = record {
  bytes = all-append is_plain xs ys h.bytes g.bytes;
  most =
      let both : length (xs ++ ys) ≡ length xs + length ys = length-append xs ys in let a = h.most in let b = g.most in
      omega arith;
}

one : (b : ℕ) → is_plain b ≡ true → IsPlain (b ∷ []) 1
one b h = record { bytes = ap (λ (t : Bool). t && true) h; most = omega arith }

letter_plain : (f : ℕ) → f < 8 → is_plain (97 + f) ≡ true
unfolding is_plain is_word_byte
letter_plain = each_file (λ f. is_plain (97 + f) ≡ true) refl refl refl refl refl refl refl refl

digit_plain : (r : ℕ) → r < 8 → is_plain (49 + r) ≡ true
unfolding is_plain is_word_byte
digit_plain = each_file (λ r. is_plain (49 + r) ≡ true) refl refl refl refl refl refl refl refl

letter_head : (f : ℕ) → f < 8 → is_head (97 + f) ≡ true
unfolding is_head
letter_head = each_file (λ f. is_head (97 + f) ≡ true) refl refl refl refl refl refl refl refl

man_plain : (k : Kind) → is_plain (letter_of k) ≡ true
unfolding is_plain is_word_byte
man_plain Pawn = refl
man_plain Knight = refl
man_plain Bishop = refl
man_plain Rook = refl
man_plain Queen = refl
man_plain King = refl

man_head : (k : Kind) → is_head (letter_of k) ≡ true
unfolding is_head
man_head Pawn = refl
man_head Knight = refl
man_head Bishop = refl
man_head Rook = refl
man_head Queen = refl
man_head King = refl

mark_plain : (s : State) → IsPlain (mark_text s) 1
unfolding is_plain is_word_byte
mark_plain Safe = record { bytes = refl; most = omega arith }
mark_plain Check = record { bytes = refl; most = omega arith }
mark_plain Mate = record { bytes = refl; most = omega arith }
mark_plain Stalemate = record { bytes = refl; most = omega arith }

file_plain : (s : ℕ) → IsPlain (file_letter s ∷ []) 1
file_plain s = one (97 + s % 8) (letter_plain (s % 8) (omega arith))

rank_plain : (s : ℕ) → s < 64 → IsPlain (rank_digit s ∷ []) 1
rank_plain s h = one (49 + s / 8) (digit_plain (s / 8) (omega arith))

square_plain : (s : ℕ) → s < 64 → IsPlain (square_text s) 2
square_plain s h = join (file_letter s ∷ []) (rank_digit s ∷ []) 1 1 (file_plain s) (rank_plain s h)

if_plain : (wanted : Bool) (b : ℕ) → IsPlain (b ∷ []) 1 → IsPlain (only_if wanted b) 1
if_plain true b h = h
if_plain false b h = record { bytes = refl; most = omega arith }

x_plain : IsPlain (120 ∷ []) 1
unfolding is_plain is_word_byte
x_plain = record { bytes = refl; most = omega arith }

equals_plain : IsPlain (codes "=") 1
unfolding is_plain is_word_byte
equals_plain = record { bytes = refl; most = omega arith }

at_plain : IsPlain (64 ∷ []) 1
unfolding is_plain is_word_byte
at_plain = record { bytes = refl; most = omega arith }

promotion_plain : (promo : Option Kind) → IsPlain (promotion_text promo) 2
promotion_plain None = record { bytes = refl; most = omega arith }
promotion_plain (Some k) = join (codes "=") (letter_of k ∷ []) 1 1 equals_plain (one (letter_of k) (man_plain k))

piece_origin : (shown : Shown) (from : ℕ) (k : Kind) → from < 64 →
    IsPlain ((letter_of k ∷ only_if shown.by_file (file_letter from)) ++ only_if shown.by_rank (rank_digit from)) 3
piece_origin shown from k h =
    join (letter_of k ∷ only_if shown.by_file (file_letter from)) (only_if shown.by_rank (rank_digit from)) 2 1
    (join (letter_of k ∷ []) (only_if shown.by_file (file_letter from)) 1 1 (one (letter_of k) (man_plain k))
    (if_plain shown.by_file (file_letter from) (file_plain from)))
    (if_plain shown.by_rank (rank_digit from) (rank_plain from h))

longer : (text : List ℕ) (m n : ℕ) → m ≤ n → IsPlain text m → IsPlain text n
longer text m n h p = record { bytes = p.bytes; most = let most = p.most in omega arith }

origin_plain : (shown : Shown) (from : ℕ) (k : Kind) → from < 64 → IsPlain (origin_text shown from k) 3
origin_plain shown from Pawn h =
    longer (only_if shown.takes (file_letter from)) 1 3 (omega arith)
    (if_plain shown.takes (file_letter from) (file_plain from))
origin_plain shown from Knight h = piece_origin shown from Knight h
origin_plain shown from Bishop h = piece_origin shown from Bishop h
origin_plain shown from Rook h = piece_origin shown from Rook h
origin_plain shown from Queen h = piece_origin shown from Queen h
origin_plain shown from King h = piece_origin shown from King h

-- a move between squares of the board
abbrev pub IsOnSquares : Move → Type 0
IsOnSquares (move.Plain a b promo) = (a < 64) × (b < 64)
IsOnSquares (move.Castle long) = Unit {0}
IsOnSquares (move.Drop k to) = to < 64

pub allowed_on_squares : (p : Position) (m : Move) → Allowed p m → IsOnSquares m
allowed_on_squares p (move.Plain a b promo) h = (h.move.from, h.move.to)
allowed_on_squares p (move.Castle long) h = tt
allowed_on_squares p (move.Drop k to) h = h.move.square

castle_plain : (long : Bool)
    → IsPlain
    (pretty_move (record {
      what = move.Castle long;
      kind = King;
      takes = false;
      by_file = false;
      by_rank = false;
      after = Safe;
    }) (move.Castle long))
    8
unfolding is_plain is_word_byte
castle_plain false = record { bytes = refl; most = omega arith }
castle_plain true = record { bytes = refl; most = omega arith }

move_plain : (shown : Shown) (m : Move) → IsOnSquares m → IsPlain (pretty_move shown m) 8
move_plain shown (move.Plain a b promo) h =
    join ((origin_text shown a shown.kind ++ only_if shown.takes 120) ++ square_text b) (promotion_text promo) 6 2
    (join (origin_text shown a shown.kind ++ only_if shown.takes 120) (square_text b) 4 2
    (join (origin_text shown a shown.kind) (only_if shown.takes 120) 3 1 (origin_plain shown a shown.kind h.0)
    (if_plain shown.takes 120 x_plain))
    (square_plain b h.1)) (promotion_plain promo)
move_plain shown (move.Castle false) h = castle_plain false
move_plain shown (move.Castle true) h = castle_plain true
move_plain shown (move.Drop k to) h =
    longer (letter_of k ∷ 64 ∷ square_text to) 4 8 (omega arith)
    (join (letter_of k ∷ []) (64 ∷ square_text to) 1 3 (one (letter_of k) (man_plain k))
    (join (64 ∷ []) (square_text to) 1 2 at_plain (square_plain to h)))

pub pretty_plain : (shown : Shown) → IsOnSquares shown.what → IsPlain (pretty_of shown) 9
pretty_plain shown h =
    join (pretty_move shown shown.what) (mark_text shown.after) 8 1 (move_plain shown shown.what h)
    (mark_plain shown.after)

-- the first byte
pub record HasHead (text : List ℕ) : Type 0 where
  pub byte : ℕ
  pub rest : List ℕ
  pub is : text ≡ byte ∷ rest
  pub head : is_head byte ≡ true

plain_head : (shown : Shown) (a b : ℕ) (promo : Option Kind) (takes : Bool) (k : Kind) → shown.takes ≡ takes
    → HasHead
    (origin_text shown a k ++ only_if takes 120 ++ square_text b ++ promotion_text promo ++ mark_text shown.after)
plain_head shown a b promo true Pawn e =
    subst (λ (t : Bool).
    HasHead (only_if t (file_letter a) ++ codes "x" ++ square_text b ++ promotion_text promo ++ mark_text shown.after))
    (sym e)
    (record { byte = file_letter a; rest = _; is = refl; head = letter_head (a % 8) (omega arith) })
plain_head shown a b promo false Pawn e =
    subst (λ (t : Bool).
    HasHead (only_if t (file_letter a) ++ [] ++ square_text b ++ promotion_text promo ++ mark_text shown.after))
    (sym e)
    (record { byte = file_letter b; rest = _; is = refl; head = letter_head (b % 8) (omega arith) })
plain_head shown a b promo takes Knight e =
    record { byte = letter_of Knight; rest = _; is = refl; head = man_head Knight }
plain_head shown a b promo takes Bishop e =
    record { byte = letter_of Bishop; rest = _; is = refl; head = man_head Bishop }
plain_head shown a b promo takes Rook e = record { byte = letter_of Rook; rest = _; is = refl; head = man_head Rook }
plain_head shown a b promo takes Queen e = record { byte = letter_of Queen; rest = _; is = refl; head = man_head Queen }
plain_head shown a b promo takes King e = record { byte = letter_of King; rest = _; is = refl; head = man_head King }

castle_head : is_head 79 ≡ true
unfolding is_head
castle_head = refl

pub move_head : (shown : Shown) (m : Move) → HasHead (pretty_move shown m ++ mark_text shown.after)
move_head shown (move.Plain a b promo) = plain_head shown a b promo shown.takes shown.kind refl
move_head shown (move.Castle false) = record { byte = 79; rest = _; is = refl; head = castle_head }
move_head shown (move.Castle true) = record { byte = 79; rest = _; is = refl; head = castle_head }
move_head shown (move.Drop k to) = record { byte = letter_of k; rest = _; is = refl; head = man_head k }

-- ---- such words are moves

pub no_number : (text : List ℕ) → HasHead text → list_all is_digit text ≡ false
unfolding is_head
no_number text h =
    let parts = and_parts (not (is_digit h.byte)) (not (is_among (49 ∷ 48 ∷ 42 ∷ []) h.byte)) h.head in
    ap (list_all is_digit) h.is ∙ ap (λ (t : Bool). t && list_all is_digit h.rest) (not-true (is_digit h.byte) parts.0)

-- none of three
apart : (x y z : Bool) → (x || (y || (z || false))) ≡ false → (x ≡ false) × (y ≡ false) × (z ≡ false)
apart true y z e = cc
apart false true z e = cc
apart false false true e = cc
apart false false false e = (refl, refl, refl)

pub no_result : (text : List ℕ) → HasHead text → is_result text ≡ false
unfolding is_head
no_result text h =
    let parts = and_parts (not (is_digit h.byte)) (not (is_among (49 ∷ 48 ∷ 42 ∷ []) h.byte)) h.head in
    let t =
    apart (h.byte == 49) (h.byte == 48) (h.byte == 42) (not-true (is_among (49 ∷ 48 ∷ 42 ∷ []) h.byte) parts.1) in
    let white : Bool = bytes_eq h.rest (45 ∷ 48 ∷ []) in
    let black : Bool = bytes_eq h.rest (45 ∷ 49 ∷ []) in
    let draw : Bool = bytes_eq h.rest (47 ∷ 50 ∷ 45 ∷ 49 ∷ 47 ∷ 50 ∷ []) in
    let star : Bool = bytes_eq h.rest [] in
    ap is_result h.is
    ∙ ap (λ (x : Bool). (x && white) || ((nat_eq h.byte 48 && black) || ((x && draw) || (nat_eq h.byte 42 && star))))
    t.0
    ∙ ap (λ (x : Bool). (x && black) || (nat_eq h.byte 42 && star)) t.1
    ∙ ap (λ (x : Bool). x && star) t.2

-- nothing is taken from a word that neither praises nor blames
no_praise : (b : ℕ) → is_plain b ≡ true → is_praise b ≡ false
unfolding is_plain
no_praise b h = not-true (is_praise b) (and_parts (is_word_byte b) (not (is_praise b)) h).1

no_leading : (text : List ℕ) → list_all is_plain text ≡ true → without_leading is_praise text ≡ text
no_leading [] h = refl
no_leading (b ∷ text) h =
    ap (λ (t : Bool). cond t (without_leading is_praise text) (b ∷ text))
    (no_praise b (and_parts (is_plain b) (list_all is_plain text) h).0)

all-reverse : (text : List ℕ) → list_all is_plain text ≡ true → list_all is_plain (reverse text) ≡ true
all-reverse [] h = refl
all-reverse (b ∷ text) h =
    let parts = and_parts (is_plain b) (list_all is_plain text) h in
    let end : list_all is_plain (b ∷ []) ≡ true = ap (λ (t : Bool). t && true) parts.0 in
    let whole : list_all is_plain (reverse text ++ b ∷ []) ≡ true =
    all-append is_plain (reverse text) (b ∷ []) (all-reverse text parts.1) end in
    ap (list_all is_plain) (reverse-append (b ∷ []) text) ∙ whole

pub unpraised : (text : List ℕ) → list_all is_plain text ≡ true → without_praise text ≡ text
unpraised text h = ap reverse (no_leading (reverse text) (all-reverse text h)) ∙ reverse-reverse text

pub plain_word : (text : List ℕ) → list_all is_plain text ≡ true → list_all is_word_byte text ≡ true
unfolding is_plain
plain_word [] h = refl
plain_word (b ∷ text) h =
    let parts = and_parts (is_plain b) (list_all is_plain text) h in
    ap (λ (t : Bool). t && list_all is_word_byte text) (and_parts (is_word_byte b) (not (is_praise b)) parts.0).0
    ∙ plain_word text parts.1
