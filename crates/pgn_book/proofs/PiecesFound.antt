-- A text that is read to its end has pieces.
use Rattle.std.proofs.Common.{arith, ◌≡◌, ◌≢◌, ◌⊎◌, inl, inr, ℕ, ◌+◌, ◌-◌, ◌<◌, ◌≤◌, Bool, true, false, ◌&&◌, not, cond, nat_eq, nat_lt, List, [], ◌∷◌, ◌++◌, length, Option, Some, None, refl, sym, ap, subst, ◌∙◌, append_assoc, length-append}
use Rattle.std.specs.Prelude.{◌==◌, ◌||◌}
use Rattle.std.specs.List.{list_all}
use Rattle.std.proofs.lemmas.Bool.{eqb-true, eqb-false, and_parts}
use Rattle.move_reader.proofs.ByteMeanings.{below}
use Rattle.pgn_book.specs.declared.game.PgnGame.{PgnGame}
use Rattle.pgn_book.specs.Bytes.{is_among, is_space, is_word_byte, Every, StopsBefore}
use Rattle.pgn_book.specs.Lexing.{Piece, Blank, Escape, Braces, Comment, Word, Glyph, Quoted, Sign, Opening, Closing, Within, escaped, escaped_byte, piece_spelling, is_of_line, is_of_braces, is_of_text, is_sign, is_reserved, IsRestOfLine, IsWord, IsText, At, MayStand, next_place, Lexes}
use Rattle.pgn_book.specs.declared.place.PlaceInText.{PlaceInText}
use Rattle.pgn_book.specs.declared.place.PlaceInText.TheVariants.{Start, AfterOne, AfterTwo, Between, InLine, InBraces, InWord, InQuotes, InStroke}
use Rattle.pgn_book.specs.Reading.{Book, Taken, took, Outcome, with_game_first, State, state_at, to_place, Step, silent, outside, opens, closes, nested, skipping, spaced, piece_begun, begun_behind, piece_of, longer, word_ended, step, is_before, is_at_rest, resting, read_from}
use Rattle.pgn_book.proofs.PiecesRead.{each_among}

-- what follows ends behind a whole game
abbrev Whole : Option State → List ℕ → Type 0
Whole s text = (read_from s text).whole ≡ true

never : {A : Type 0} → false ≡ true → A
never e = absurd (let f : false ≡ true = e in cc)

pub adding_whole : (given : Option PgnGame) (o : Outcome) → (with_game_first given o).whole ≡ o.whole
adding_whole None o = refl
adding_whole (Some g) o = refl

-- what is read behind a byte ends whole too
stepped : (s : State) (b : ℕ) (text : List ℕ) (t : Step) → step s b ≡ t → Whole (Some s) (b ∷ text) → Whole t.on text
stepped s b text t e h =
    let whole : (with_game_first t.given (read_from t.on text)).whole ≡ true =
    ap (λ (x : Step). (with_game_first x.given (read_from x.on text)).whole) (sym e) ∙ h in
    sym (adding_whole t.given (read_from t.on text)) ∙ whole

-- one of two ways
which : (x : Bool) (p q : Option State) (text : List ℕ) → Whole (cond x p q) text
    → ((x ≡ true) × Whole p text) ⊎ ((x ≡ false) × Whole q text)
which true p q text h = inl (refl, h)
which false p q text h = inr (refl, h)

-- the book with which it goes on
with_book : (place : PlaceInText) (depth : ℕ) (on : Option Book) (text : List ℕ)
    → Whole (to_place place depth on) text →
    (book : Book) × Whole (Some (state_at place depth book)) text
with_book place depth None text h = never h
with_book place depth (Some book) text h = (book, h)

-- ---- what is found

pub record FoundAt (at : At) (text : List ℕ) : Type 0 where
  pub pieces : List Piece
  pub lexed : Lexes at text pieces

record FoundLine (depth : ℕ) (text : List ℕ) : Type 0 where
  body : List ℕ
  rest : List ℕ
  split : text ≡ body ++ rest
  is : IsRestOfLine body rest
  on : FoundAt (record { depth = depth; fresh = false }) rest

record FoundBraces (depth : ℕ) (text : List ℕ) : Type 0 where
  body : List ℕ
  rest : List ℕ
  split : text ≡ body ++ 125 ∷ rest
  is : Every is_of_braces body
  on : FoundAt (record { depth = depth; fresh = false }) rest

record FoundWord (depth : ℕ) (word text : List ℕ) : Type 0 where
  more : List ℕ
  rest : List ℕ
  split : text ≡ more ++ rest
  bytes : Every is_word_byte more
  most : length word + length more ≤ 255
  stops : StopsBefore is_word_byte rest
  on : FoundAt (record { depth = depth; fresh = false }) rest

record FoundText (depth : ℕ) (done text : List ℕ) : Type 0 where
  more : List ℕ
  rest : List ℕ
  split : text ≡ escaped more ++ 34 ∷ rest
  bytes : Every is_of_text more
  most : length done + length more ≤ 255
  on : FoundAt (record { depth = depth; fresh = false }) rest

record FoundStroke (depth : ℕ) (done text : List ℕ) : Type 0 where
  byte : ℕ
  more : List ℕ
  rest : List ℕ
  split : text ≡ byte ∷ (escaped more ++ 34 ∷ rest)
  stroked : is_among (34 ∷ 92 ∷ []) byte ≡ true
  bytes : Every is_of_text more
  most : length done + (1 + length more) ≤ 255
  on : FoundAt (record { depth = depth; fresh = false }) rest

abbrev Found : PlaceInText → ℕ → List ℕ → Type 0
Found Start depth text = Unit {0}
Found AfterOne depth text = Unit {0}
Found AfterTwo depth text = Unit {0}
Found (Between fresh) depth text = FoundAt (record { depth = depth; fresh = fresh }) text
Found InLine depth text = FoundLine depth text
Found InBraces depth text = FoundBraces depth text
Found (InWord glyph word) depth text = length word ≤ 255 → FoundWord depth word text
Found (InQuotes done) depth text = length done ≤ 255 → FoundText depth done text
Found (InStroke done) depth text = length done ≤ 255 → FoundStroke depth done text

-- what is found in a text from each place on
abbrev FoundAll : List ℕ → Type 0
FoundAll text =
    (place : PlaceInText) (depth : ℕ) (book : Book) → Whole (Some (state_at place depth book)) text
    → Found place depth text

piece_found : (at : At) (piece : Piece) (rest : List ℕ) → MayStand at piece rest → FoundAt (next_place at piece) rest
    → FoundAt at (piece_spelling piece ++ rest)
piece_found at piece rest h f = record { pieces = piece ∷ f.pieces; lexed = (rest, refl, h, f.lexed) }

moved_text : (at : At) (one other : List ℕ) → one ≡ other → FoundAt at other → FoundAt at one
moved_text at one other e f = subst (λ (t : List ℕ). FoundAt at t) (sym e) f

-- ---- pieces by their first bytes

abbrev here : ℕ → Bool → At
here depth fresh = record { depth = depth; fresh = fresh }

zero_deep : (depth : ℕ) → nat_eq depth 0 ≡ true → depth ≡ 0
zero_deep depth e = eqb-true depth 0 e

not_zero_deep : (depth : ℕ) → nat_eq depth 0 ≡ false → 0 < depth
not_zero_deep depth e = let f : depth ≢ 0 = eqb-false depth 0 e in omega arith

found_word : (b : ℕ) (text : List ℕ) (all : FoundAll text) (fresh : Bool) (depth : ℕ) (book : Book)
    → is_word_byte b ≡ true → depth ≡ 0 →
    Whole (Some (state_at (InWord false (b ∷ [])) depth book)) text → FoundAt (here depth fresh) (b ∷ text)
found_word b text all fresh depth book is deep h =
    let w : FoundWord depth (b ∷ []) text = all (InWord false (b ∷ [])) depth book h (omega arith) in
    let bytes : Every is_word_byte (b ∷ w.more) = ap (λ (t : Bool). t && list_all is_word_byte w.more) is ∙ w.bytes in
    let word : IsWord (b ∷ w.more) w.rest =
    record { bytes = bytes; most = let most = w.most in omega arith; whole = w.stops } in
    moved_text (here depth fresh) (b ∷ text) ((b ∷ w.more) ++ w.rest) (ap (λ (l : List ℕ). b ∷ l) w.split)
    (piece_found (here depth fresh) (Word (b ∷ w.more)) w.rest (deep, λ e. cc, word) w.on)

found_comment : (b : ℕ) (text : List ℕ) (all : FoundAll text) (fresh : Bool) (depth : ℕ) (book : Book) → b ≡ 59 →
    Whole (Some (state_at InLine depth book)) text → FoundAt (here depth fresh) (b ∷ text)
found_comment b text all fresh depth book is h =
    let l : FoundLine depth text = all InLine depth book h in
    moved_text (here depth fresh) (b ∷ text) (59 ∷ (l.body ++ l.rest))
    (ap (λ (x : ℕ). x ∷ text) is ∙ ap (λ (t : List ℕ). 59 ∷ t) l.split)
    (piece_found (here depth fresh) (Comment l.body) l.rest l.is l.on)

found_escape : (b : ℕ) (text : List ℕ) (all : FoundAll text) (fresh : Bool) (depth : ℕ) (book : Book) → b ≡ 37
    → fresh ≡ true →
    Whole (Some (state_at InLine depth book)) text → FoundAt (here depth fresh) (b ∷ text)
found_escape b text all fresh depth book is first h =
    let l : FoundLine depth text = all InLine depth book h in
    moved_text (here depth fresh) (b ∷ text) (37 ∷ (l.body ++ l.rest))
    (ap (λ (x : ℕ). x ∷ text) is ∙ ap (λ (t : List ℕ). 37 ∷ t) l.split)
    (piece_found (here depth fresh) (Escape l.body) l.rest (first, l.is) l.on)

found_braces : (b : ℕ) (text : List ℕ) (all : FoundAll text) (fresh : Bool) (depth : ℕ) (book : Book) → b ≡ 123 →
    Whole (Some (state_at InBraces depth book)) text → FoundAt (here depth fresh) (b ∷ text)
found_braces b text all fresh depth book is h =
    let c : FoundBraces depth text = all InBraces depth book h in
    moved_text (here depth fresh) (b ∷ text) ((123 ∷ (c.body ++ 125 ∷ [])) ++ c.rest)
    (ap (λ (x : ℕ). x ∷ text) is ∙ ap (λ (t : List ℕ). 123 ∷ t) (c.split ∙ sym (append_assoc c.body (125 ∷ []) c.rest)))
    (piece_found (here depth fresh) (Braces c.body) c.rest c.is c.on)

found_glyph : (b : ℕ) (text : List ℕ) (all : FoundAll text) (fresh : Bool) (book : Book) → b ≡ 36 →
    Whole (Some (state_at (InWord true []) 0 book)) text → FoundAt (here 0 fresh) (b ∷ text)
found_glyph b text all fresh book is h =
    let w : FoundWord 0 [] text = all (InWord true []) 0 book h (omega arith) in
    let word : IsWord w.more w.rest =
    record { bytes = w.bytes; most = let most = w.most in omega arith; whole = w.stops } in
    moved_text (here 0 fresh) (b ∷ text) ((36 ∷ w.more) ++ w.rest)
    (ap (λ (x : ℕ). x ∷ text) is ∙ ap (λ (t : List ℕ). 36 ∷ t) w.split)
    (piece_found (here 0 fresh) (Glyph w.more) w.rest (refl, word) w.on)

found_quoted : (b : ℕ) (text : List ℕ) (all : FoundAll text) (fresh : Bool) (book : Book) → b ≡ 34 →
    Whole (Some (state_at (InQuotes []) 0 book)) text → FoundAt (here 0 fresh) (b ∷ text)
found_quoted b text all fresh book is h =
    let q : FoundText 0 [] text = all (InQuotes []) 0 book h (omega arith) in
    let word : IsText q.more = record { bytes = q.bytes; most = let most = q.most in omega arith } in
    moved_text (here 0 fresh) (b ∷ text) ((34 ∷ (escaped q.more ++ 34 ∷ [])) ++ q.rest)
    (ap (λ (x : ℕ). x ∷ text) is
    ∙ ap (λ (t : List ℕ). 34 ∷ t) (q.split ∙ sym (append_assoc (escaped q.more) (34 ∷ []) q.rest)))
    (piece_found (here 0 fresh) (Quoted q.more) q.rest (refl, word) q.on)

found_sign : (b : ℕ) (text : List ℕ) (all : FoundAll text) (fresh : Bool) (book : Book) → is_sign b ≡ true →
    Whole (to_place (Between false) 0 (took book (Sign b)).on) text → FoundAt (here 0 fresh) (b ∷ text)
found_sign b text all fresh book is h =
    let next = with_book (Between false) 0 (took book (Sign b)).on text h in
    piece_found (here 0 fresh) (Sign b) text (refl, is) (all (Between false) 0 next.0 next.1)

-- the ways behind the tests
abbrev quotes : Book → Option State
quotes book = Some (state_at (InQuotes []) 0 book)

abbrev signs : Book → ℕ → Option State
signs book b = to_place (Between false) 0 (took book (Sign b)).on

abbrev no_glyph : Book → ℕ → Option State
no_glyph book b = cond (b == 34) (quotes book) (cond (is_sign b) (signs book b) None)

-- one of two facts, each with its way
abbrev OneOf : Bool → Option State → Option State → List ℕ → Type 0
OneOf x p q text = ((x ≡ true) × Whole p text) ⊎ ((x ≡ false) × Whole q text)

-- outside of variations
found_outside : (b : ℕ) (text : List ℕ) (all : FoundAll text) (fresh : Bool) (book : Book) → Whole (outside book b) text
    → FoundAt (here 0 fresh) (b ∷ text)
found_outside b text all fresh book h =
    by_dollar (which (b == 36) (Some (state_at (InWord true []) 0 book)) (no_glyph book b) text h)
  where
    by_sign : OneOf (is_sign b) (signs book b) None text → FoundAt (here 0 fresh) (b ∷ text)
    by_sign (inl (e, g)) = found_sign b text all fresh book e g
    by_sign (inr (e, g)) = never g

    by_quote : OneOf (b == 34) (quotes book) (cond (is_sign b) (signs book b) None) text
        → FoundAt (here 0 fresh) (b ∷ text)
    by_quote (inl (e, g)) = found_quoted b text all fresh book (eqb-true b 34 e) g
    by_quote (inr (e, g)) = by_sign (which (is_sign b) (signs book b) None text g)

    by_dollar : OneOf (b == 36) (Some (state_at (InWord true []) 0 book)) (no_glyph book b) text
        → FoundAt (here 0 fresh) (b ∷ text)
    by_dollar (inl (e, g)) = found_glyph b text all fresh book (eqb-true b 36 e) g
    by_dollar (inr (e, g)) = by_quote (which (b == 34) (quotes book) (cond (is_sign b) (signs book b) None) text g)

found_opening : (b : ℕ) (text : List ℕ) (all : FoundAll text) (fresh : Bool) (depth : ℕ) (book : Book) → b ≡ 40
    → Whole (opens depth book) text →
    FoundAt (here depth fresh) (b ∷ text)
found_opening b text all fresh depth book is h =
    by (which (nat_lt depth 100) (to_place (Between false) (depth + 1) (took book Opening).on) None text h)
  where
    by : OneOf (nat_lt depth 100) (to_place (Between false) (depth + 1) (took book Opening).on) None text
        → FoundAt (here depth fresh) (b ∷ text)
    by (inl (e, g)) =
        let next = with_book (Between false) (depth + 1) (took book Opening).on text g in
        moved_text (here depth fresh) (b ∷ text) (40 ∷ text) (ap (λ (x : ℕ). x ∷ text) is)
        (piece_found (here depth fresh) Opening text (below depth 100 e)
        (all (Between false) (depth + 1) next.0 next.1))
    by (inr (e, g)) = never g

found_closing : (b : ℕ) (text : List ℕ) (all : FoundAll text) (fresh : Bool) (depth : ℕ) (book : Book) → b ≡ 41
    → Whole (closes depth book) text →
    FoundAt (here depth fresh) (b ∷ text)
found_closing b text all fresh depth book is h =
    by (which (nat_eq depth 0) None (to_place (Between false) (depth - 1) (took book Closing).on) text h)
  where
    by : OneOf (nat_eq depth 0) None (to_place (Between false) (depth - 1) (took book Closing).on) text
        → FoundAt (here depth fresh) (b ∷ text)
    by (inl (e, g)) = never g
    by (inr (e, g)) =
        let next = with_book (Between false) (depth - 1) (took book Closing).on text g in
        moved_text (here depth fresh) (b ∷ text) (41 ∷ text) (ap (λ (x : ℕ). x ∷ text) is)
        (piece_found (here depth fresh) Closing text (not_zero_deep depth e)
        (all (Between false) (depth - 1) next.0 next.1))

-- a byte that is no white space, no parenthesis and begins no comment
record IsFree (fresh : Bool) (b : ℕ) : Type 0 where
  space : is_space b ≡ false
  percent : (b == 37 && fresh) ≡ false
  semicolon : (b == 59) ≡ false
  brace : (b == 123) ≡ false

five : (a b c d e : Bool) → a ≡ false → b ≡ false → c ≡ false → d ≡ false → e ≡ false
    → (a || (b || (c || (d || (e || false))))) ≡ false
five false false false false false p q r s t = refl
five true b c d e p q r s t = cc
five false true c d e p q r s t = cc
five false false true d e p q r s t = cc
five false false false true e p q r s t = cc
five false false false false true p q r s t = cc

found_within : (b : ℕ) (text : List ℕ) (all : FoundAll text) (fresh : Bool) (depth : ℕ) (book : Book) → IsFree fresh b
    → (b == 40) ≡ false → (b == 41) ≡ false →
    0 < depth → Whole (to_place (Between false) depth (took book (Within b)).on) text
    → FoundAt (here depth fresh) (b ∷ text)
found_within b text all fresh depth book free open_one close_one deep h =
    let next = with_book (Between false) depth (took book (Within b)).on text h in
    let reserved : is_reserved b ≡ false =
    five (is_space b) (b == 59) (b == 123) (b == 40) (b == 41) free.space free.semicolon free.brace open_one
    close_one in
    piece_found (here depth fresh) (Within b) text (deep, reserved, free.percent)
    (all (Between false) depth next.0 next.1)

abbrev inside : ℕ → Book → ℕ → Option State
inside depth book b = to_place (Between false) depth (took book (Within b)).on

abbrev no_parenthesis : ℕ → Book → ℕ → Option State
no_parenthesis depth book b = cond (nat_eq depth 0) (outside book b) (inside depth book b)

found_nested : (b : ℕ) (text : List ℕ) (all : FoundAll text) (fresh : Bool) (depth : ℕ) (book : Book) → IsFree fresh b
    → Whole (nested depth book b) text →
    FoundAt (here depth fresh) (b ∷ text)
found_nested b text all fresh depth book free h =
    by_opening
    (which (b == 40) (opens depth book) (cond (b == 41) (closes depth book) (no_parenthesis depth book b)) text h)
  where
    by_depth : (b == 40) ≡ false → (b == 41) ≡ false
        → OneOf (nat_eq depth 0) (outside book b) (inside depth book b) text → FoundAt (here depth fresh) (b ∷ text)
    by_depth one two (inl (e, g)) =
        subst (λ (d : ℕ). FoundAt (here d fresh) (b ∷ text)) (sym (zero_deep depth e))
        (found_outside b text all fresh book g)
    by_depth one two (inr (e, g)) = found_within b text all fresh depth book free one two (not_zero_deep depth e) g

    by_closing : (b == 40) ≡ false → OneOf (b == 41) (closes depth book) (no_parenthesis depth book b) text
        → FoundAt (here depth fresh) (b ∷ text)
    by_closing one (inl (e, g)) = found_closing b text all fresh depth book (eqb-true b 41 e) g
    by_closing one (inr (e, g)) = by_depth one e (which (nat_eq depth 0) (outside book b) (inside depth book b) text g)

    by_opening : OneOf (b == 40) (opens depth book) (cond (b == 41) (closes depth book) (no_parenthesis depth book b))
        text
        → FoundAt (here depth fresh) (b ∷ text)
    by_opening (inl (e, g)) = found_opening b text all fresh depth book (eqb-true b 40 e) g
    by_opening (inr (e, g)) = by_closing e (which (b == 41) (closes depth book) (no_parenthesis depth book b) text g)

abbrev in_line : ℕ → Book → Option State
in_line depth book = Some (state_at InLine depth book)

abbrev in_braces : ℕ → Book → Option State
in_braces depth book = Some (state_at InBraces depth book)

found_skipping : (b : ℕ) (text : List ℕ) (all : FoundAll text) (fresh : Bool) (depth : ℕ) (book : Book)
    → is_space b ≡ false → Whole (skipping fresh depth book b) text →
    FoundAt (here depth fresh) (b ∷ text)
found_skipping b text all fresh depth book space h =
    by_percent (which (b == 37 && fresh) (in_line depth book)
    (cond (b == 59) (in_line depth book) (cond (b == 123) (in_braces depth book) (nested depth book b))) text h)
  where
    by_brace : (b == 37 && fresh) ≡ false → (b == 59) ≡ false
        → OneOf (b == 123) (in_braces depth book) (nested depth book b) text → FoundAt (here depth fresh) (b ∷ text)
    by_brace percent semicolon (inl (e, g)) = found_braces b text all fresh depth book (eqb-true b 123 e) g
    by_brace percent semicolon (inr (e, g)) =
        found_nested b text all fresh depth book (record {
          space = space;
          percent = percent;
          semicolon = semicolon;
          brace = e;
        }) g

    by_semicolon : (b == 37 && fresh) ≡ false
        → OneOf (b == 59) (in_line depth book) (cond (b == 123) (in_braces depth book) (nested depth book b)) text
        → FoundAt (here depth fresh) (b ∷ text)
    by_semicolon percent (inl (e, g)) = found_comment b text all fresh depth book (eqb-true b 59 e) g
    by_semicolon percent (inr (e, g)) =
        by_brace percent e (which (b == 123) (in_braces depth book) (nested depth book b) text g)

    by_percent : OneOf (b == 37 && fresh) (in_line depth book)
        (cond (b == 59) (in_line depth book) (cond (b == 123) (in_braces depth book) (nested depth book b))) text →
        FoundAt (here depth fresh) (b ∷ text)
    by_percent (inl (e, g)) =
        let parts = and_parts (b == 37) fresh e in
        found_escape b text all fresh depth book (eqb-true b 37 parts.0) parts.1 g
    by_percent (inr (e, g)) =
        by_semicolon e
        (which (b == 59) (in_line depth book) (cond (b == 123) (in_braces depth book) (nested depth book b)) text g)

-- what is found from between two pieces on
found_begun : (b : ℕ) (text : List ℕ) (all : FoundAll text) (fresh : Bool) (depth : ℕ) (book : Book)
    → Whole (piece_begun fresh depth book b) text →
    FoundAt (here depth fresh) (b ∷ text)
found_begun b text all fresh depth book h =
    by_word (which (is_word_byte b && nat_eq depth 0) (Some (state_at (InWord false (b ∷ [])) depth book))
    (spaced fresh depth book b) text h)
  where
    by_space : OneOf (is_space b) (Some (state_at (Between (b == 10)) depth book)) (skipping fresh depth book b) text
        → FoundAt (here depth fresh) (b ∷ text)
    by_space (inl (e, g)) = piece_found (here depth fresh) (Blank b) text e (all (Between (b == 10)) depth book g)
    by_space (inr (e, g)) = found_skipping b text all fresh depth book e g

    by_word : OneOf (is_word_byte b && nat_eq depth 0) (Some (state_at (InWord false (b ∷ [])) depth book))
        (spaced fresh depth book b) text
        → FoundAt (here depth fresh) (b ∷ text)
    by_word (inl (e, g)) =
        let parts = and_parts (is_word_byte b) (nat_eq depth 0) e in
        found_word b text all fresh depth book parts.0 (zero_deep depth parts.1) g
    by_word (inr (e, g)) =
        by_space
        (which (is_space b) (Some (state_at (Between (b == 10)) depth book)) (skipping fresh depth book b) text g)

-- ---- each place at the end of the text

rest_depth : (depth : ℕ) (on : Option Book) → is_at_rest depth on ≡ true → depth ≡ 0
rest_depth depth None h = never h
rest_depth depth (Some book) h = zero_deep depth (and_parts (nat_eq depth 0) (is_before book.stage) h).0

nothing_at : (depth : ℕ) (fresh : Bool) → depth ≡ 0 → FoundAt (here depth fresh) []
nothing_at depth fresh e = record { pieces = []; lexed = (refl, e) }

found_end : FoundAll []
found_end Start depth book h = tt
found_end AfterOne depth book h = tt
found_end AfterTwo depth book h = tt
found_end (Between fresh) depth book h = nothing_at depth fresh (rest_depth depth (Some book) h)
found_end InLine depth book h = record {
  body = [];
  rest = [];
  split = refl;
  is = record { no_feed = refl; to_end = tt };
  on = nothing_at depth false (rest_depth depth (Some book) h);
}
found_end InBraces depth book h = never h
found_end (InWord glyph word) depth book h = λ short.
    let taken : Taken = took book (piece_of glyph word) in
    record {
      more = [];
      rest = [];
      split = refl;
      bytes = refl;
      most = omega arith;
      stops = tt;
      on =
          nothing_at depth false
          (rest_depth depth taken.on (sym (adding_whole taken.given (resting depth taken.on)) ∙ h));
    }
found_end (InQuotes done) depth book h = never h
found_end (InStroke done) depth book h = never h

-- ---- each place before a byte

line_before : (b : ℕ) (text : List ℕ) (all : FoundAll text) (depth : ℕ) (book : Book) →
    Whole (cond (is_of_line b) (Some (state_at InLine depth book)) (Some (state_at (Between true) depth book))) text
    → FoundLine depth (b ∷ text)
line_before b text all depth book h =
    by (which (is_of_line b) (Some (state_at InLine depth book)) (Some (state_at (Between true) depth book)) text h)
  where
    is_true : (x : Bool) → not x ≡ false → x ≡ true
    is_true true e = refl
    is_true false e = absurd (let f : true ≡ false = e in cc)

    by : OneOf (is_of_line b) (Some (state_at InLine depth book)) (Some (state_at (Between true) depth book)) text
        → FoundLine depth (b ∷ text)
    by (inl (e, g)) =
        let l : FoundLine depth text = all InLine depth book g in
        record {
          body = b ∷ l.body;
          rest = l.rest;
          split = ap (λ (t : List ℕ). b ∷ t) l.split;
          is =
              record {
                no_feed = ap (λ (t : Bool). t && list_all is_of_line l.body) e ∙ l.is.no_feed;
                to_end = l.is.to_end;
              };
          on = l.on;
        }
    by (inr (e, g)) =
        let feed : b ≡ 10 = eqb-true b 10 (is_true (b == 10) e) in
        let f : FoundAt (here depth true) text = all (Between true) depth book g in
        let behind_feed : FoundAt (here depth false) (10 ∷ text) =
        piece_found (here depth false) (Blank 10) text refl f in
        record {
          body = [];
          rest = b ∷ text;
          split = refl;
          is = record { no_feed = refl; to_end = e };
          on = moved_text (here depth false) (b ∷ text) (10 ∷ text) (ap (λ (x : ℕ). x ∷ text) feed) behind_feed;
        }

braces_before : (b : ℕ) (text : List ℕ) (all : FoundAll text) (depth : ℕ) (book : Book) →
    Whole (cond (is_of_braces b) (Some (state_at InBraces depth book)) (Some (state_at (Between false) depth book)))
    text
    → FoundBraces depth (b ∷ text)
braces_before b text all depth book h =
    by
    (which (is_of_braces b) (Some (state_at InBraces depth book)) (Some (state_at (Between false) depth book)) text h)
  where
    is_true : (x : Bool) → not x ≡ false → x ≡ true
    is_true true e = refl
    is_true false e = absurd (let f : true ≡ false = e in cc)

    by : OneOf (is_of_braces b) (Some (state_at InBraces depth book)) (Some (state_at (Between false) depth book)) text
        → FoundBraces depth (b ∷ text)
    by (inl (e, g)) =
        let c : FoundBraces depth text = all InBraces depth book g in
        record {
          body = b ∷ c.body;
          rest = c.rest;
          split = ap (λ (t : List ℕ). b ∷ t) c.split;
          is = ap (λ (t : Bool). t && list_all is_of_braces c.body) e ∙ c.is;
          on = c.on;
        }
    by (inr (e, g)) = record {
      body = [];
      rest = text;
      split = ap (λ (x : ℕ). x ∷ text) (eqb-true b 125 (is_true (b == 125) e));
      is = refl;
      on = all (Between false) depth book g;
    }

word_before : (b : ℕ) (text : List ℕ) (all : FoundAll text) (glyph : Bool) (word : List ℕ) (depth : ℕ) (book : Book)
    → length word ≤ 255 →
    (t : Bool) → is_word_byte b ≡ t →
    Whole (cond t (silent (longer (InWord glyph (word ++ b ∷ [])) word depth book))
    (word_ended (took book (piece_of glyph word)) depth b)).on
    text →
    FoundWord depth word (b ∷ text)
word_before b text all glyph word depth book short true e h =
    by (which (nat_lt (length word) 255) (Some (state_at (InWord glyph (word ++ b ∷ [])) depth book)) None text h)
  where
    by : OneOf (nat_lt (length word) 255) (Some (state_at (InWord glyph (word ++ b ∷ [])) depth book)) None text
        → FoundWord depth word (b ∷ text)
    by (inl (room, g)) =
        let long : length (word ++ b ∷ []) ≡ length word + 1 = length-append word (b ∷ []) in
        let less : length word < 255 = below (length word) 255 room in
        let w : FoundWord depth (word ++ b ∷ []) text =
        all (InWord glyph (word ++ b ∷ [])) depth book g (omega arith) in
        let most = w.most in
        record {
          more = b ∷ w.more;
          rest = w.rest;
          split = ap (λ (l : List ℕ). b ∷ l) w.split;
          bytes = ap (λ (x : Bool). x && list_all is_word_byte w.more) e ∙ w.bytes;
          most = omega arith;
          stops = w.stops;
          on = w.on;
        }
    by (inr (room, g)) = never g
word_before b text all glyph word depth book short false e h = by ((took book (piece_of glyph word)).on) h
  where
    by : (on : Option Book) → Whole (begun_behind depth on b) text → FoundWord depth word (b ∷ text)
    by None g = never g
    by (Some next) g = record {
      more = [];
      rest = b ∷ text;
      split = refl;
      bytes = refl;
      most = omega arith;
      stops = e;
      on = found_begun b text all false depth next g;
    }

of_text : (b : ℕ) → is_among (34 ∷ 92 ∷ []) b ≡ true → is_of_text b ≡ true
of_text b h = each_among (λ (x : ℕ). is_of_text x ≡ true) (34 ∷ 92 ∷ []) b (refl, (refl, tt)) h

stroked_byte : (b : ℕ) → is_among (34 ∷ 92 ∷ []) b ≡ true → escaped_byte b ≡ 92 ∷ b ∷ []
stroked_byte b h = ap (λ (t : Bool). cond t (92 ∷ b ∷ []) (b ∷ [])) h

bare_byte : (b : ℕ) → is_among (34 ∷ 92 ∷ []) b ≡ false → escaped_byte b ≡ b ∷ []
bare_byte b h = ap (λ (t : Bool). cond t (92 ∷ b ∷ []) (b ∷ [])) h

-- a byte more of a text in quotes
more_text : (done text : List ℕ) (depth : ℕ) (b : ℕ) (whole : List ℕ) → is_of_text b ≡ true → length done < 255
    → whole ≡ escaped_byte b ++ text →
    FoundText depth (done ++ b ∷ []) text → FoundText depth done whole
more_text done text depth b whole is room e q =
    let long : length (done ++ b ∷ []) ≡ length done + 1 = length-append done (b ∷ []) in
    let most = q.most in
    record {
      more = b ∷ q.more;
      rest = q.rest;
      split =
          e ∙ ap (λ (l : List ℕ). escaped_byte b ++ l) q.split
          ∙ sym (append_assoc (escaped_byte b) (escaped q.more) (34 ∷ q.rest));
      bytes = ap (λ (x : Bool). x && list_all is_of_text q.more) is ∙ q.bytes;
      most = omega arith;
      on = q.on;
    }

neither : (x y : Bool) → x ≡ false → y ≡ false → (x || (y || false)) ≡ false
neither false false e f = refl
neither false true e f = cc
neither true y e f = cc

abbrev more_quoted : List ℕ → ℕ → ℕ → Book → Option State
more_quoted done b depth book = longer (InQuotes (done ++ b ∷ [])) done depth book

quotes_before : (b : ℕ) (text : List ℕ) (all : FoundAll text) (done : List ℕ) (depth : ℕ) (book : Book)
    → length done ≤ 255 →
    Whole (cond (b == 34) (to_place (Between false) depth (took book (Quoted done)).on)
    (cond (b == 92) (Some (state_at (InStroke done) depth book))
    (cond (is_of_text b) (more_quoted done b depth book) None))) text → FoundText depth done (b ∷ text)
quotes_before b text all done depth book short h =
    by_quote (which (b == 34) (to_place (Between false) depth (took book (Quoted done)).on)
    (cond (b == 92) (Some (state_at (InStroke done) depth book))
    (cond (is_of_text b) (more_quoted done b depth book) None)) text h)
  where
    by_room : (b == 34) ≡ false → (b == 92) ≡ false → is_of_text b ≡ true
        → OneOf (nat_lt (length done) 255) (Some (state_at (InQuotes (done ++ b ∷ [])) depth book)) None text →
        FoundText depth done (b ∷ text)
    by_room quote stroke is (inl (room, g)) =
        let long : length (done ++ b ∷ []) ≡ length done + 1 = length-append done (b ∷ []) in
        let less : length done < 255 = below (length done) 255 room in
        more_text done text depth b (b ∷ text) is less
        (ap (λ (l : List ℕ). l ++ text) (sym (bare_byte b (neither (b == 34) (b == 92) quote stroke))))
        (all (InQuotes (done ++ b ∷ [])) depth book g (omega arith))
    by_room quote stroke is (inr (room, g)) = never g

    by_text : (b == 34) ≡ false → (b == 92) ≡ false → OneOf (is_of_text b) (more_quoted done b depth book) None text
        → FoundText depth done (b ∷ text)
    by_text quote stroke (inl (e, g)) =
        by_room quote stroke e
        (which (nat_lt (length done) 255) (Some (state_at (InQuotes (done ++ b ∷ [])) depth book)) None text g)
    by_text quote stroke (inr (e, g)) = never g

    by_stroke : (b == 34) ≡ false
        → OneOf (b == 92) (Some (state_at (InStroke done) depth book))
        (cond (is_of_text b) (more_quoted done b depth book) None) text →
        FoundText depth done (b ∷ text)
    by_stroke quote (inl (e, g)) =
        let s : FoundStroke depth done text = all (InStroke done) depth book g short in
        let most = s.most in
        record {
          more = s.byte ∷ s.more;
          rest = s.rest;
          split = ap (λ (x : ℕ). x ∷ text) (eqb-true b 92 e) ∙ ap (λ (l : List ℕ). 92 ∷ l) s.split
              ∙ ap (λ (l : List ℕ). l ++ (escaped s.more ++ 34 ∷ s.rest)) (sym (stroked_byte s.byte s.stroked))
              ∙ sym (append_assoc (escaped_byte s.byte) (escaped s.more) (34 ∷ s.rest));
          bytes = ap (λ (x : Bool). x && list_all is_of_text s.more) (of_text s.byte s.stroked) ∙ s.bytes;
          most = omega arith;
          on = s.on;
        }
    by_stroke quote (inr (e, g)) = by_text quote e (which (is_of_text b) (more_quoted done b depth book) None text g)

    by_quote : OneOf (b == 34) (to_place (Between false) depth (took book (Quoted done)).on)
        (cond (b == 92) (Some (state_at (InStroke done) depth book))
        (cond (is_of_text b) (more_quoted done b depth book) None)) text → FoundText depth done (b ∷ text)
    by_quote (inl (e, g)) =
        let next = with_book (Between false) depth (took book (Quoted done)).on text g in
        record {
          more = [];
          rest = text;
          split = ap (λ (x : ℕ). x ∷ text) (eqb-true b 34 e);
          bytes = refl;
          most = omega arith;
          on = all (Between false) depth next.0 next.1;
        }
    by_quote (inr (e, g)) =
        by_stroke e
        (which (b == 92) (Some (state_at (InStroke done) depth book))
        (cond (is_of_text b) (more_quoted done b depth book) None) text g)

stroke_before : (b : ℕ) (text : List ℕ) (all : FoundAll text) (done : List ℕ) (depth : ℕ) (book : Book)
    → length done ≤ 255 →
    Whole (cond (is_among (34 ∷ 92 ∷ []) b) (more_quoted done b depth book) None) text
    → FoundStroke depth done (b ∷ text)
stroke_before b text all done depth book short h =
    by (which (is_among (34 ∷ 92 ∷ []) b) (more_quoted done b depth book) None text h)
  where
    by_room : is_among (34 ∷ 92 ∷ []) b ≡ true
        → OneOf (nat_lt (length done) 255) (Some (state_at (InQuotes (done ++ b ∷ [])) depth book)) None text
        → FoundStroke depth done (b ∷ text)
    by_room is (inl (room, g)) =
        let long : length (done ++ b ∷ []) ≡ length done + 1 = length-append done (b ∷ []) in
        let less : length done < 255 = below (length done) 255 room in
        let q : FoundText depth (done ++ b ∷ []) text = all (InQuotes (done ++ b ∷ [])) depth book g (omega arith) in
        let most = q.most in
        record {
          byte = b;
          more = q.more;
          rest = q.rest;
          split = ap (λ (l : List ℕ). b ∷ l) q.split;
          stroked = is;
          bytes = q.bytes;
          most = omega arith;
          on = q.on;
        }
    by_room is (inr (room, g)) = never g

    by : OneOf (is_among (34 ∷ 92 ∷ []) b) (more_quoted done b depth book) None text → FoundStroke depth done (b ∷ text)
    by (inl (e, g)) =
        by_room e
        (which (nat_lt (length done) 255) (Some (state_at (InQuotes (done ++ b ∷ [])) depth book)) None text g)
    by (inr (e, g)) = never g

found_before : (b : ℕ) (text : List ℕ) → FoundAll text → FoundAll (b ∷ text)
unfolding step
found_before b text all Start depth book h = tt
found_before b text all AfterOne depth book h = tt
found_before b text all AfterTwo depth book h = tt
found_before b text all (Between fresh) depth book h = found_begun b text all fresh depth book h
found_before b text all InLine depth book h = line_before b text all depth book h
found_before b text all InBraces depth book h = braces_before b text all depth book h
found_before b text all (InWord glyph word) depth book h = λ short.
    word_before b text all glyph word depth book short (is_word_byte b) refl
    (stepped (state_at (InWord glyph word) depth book) b text (step (state_at (InWord glyph word) depth book) b) refl h)
found_before b text all (InQuotes done) depth book h = λ short. quotes_before b text all done depth book short h
found_before b text all (InStroke done) depth book h = λ short. stroke_before b text all done depth book short h

found_all : (text : List ℕ) → FoundAll text
found_all [] = found_end
found_all (b ∷ text) = found_before b text (found_all text)

-- a text that is read to its end, from between two pieces on, has pieces
pub pieces_found : (text : List ℕ) (at : At) (book : Book)
    → (read_from (Some (state_at (Between at.fresh) at.depth book)) text).whole ≡ true → FoundAt at text
pieces_found text at book h = found_all text (Between at.fresh) at.depth book h
