-- The pieces of a text are read one behind the other.
use Rattle.std.proofs.Common.{arith, ◌≡◌, ℕ, ◌+◌, ◌-◌, ◌<◌, ◌≤◌, Bool, true, false, ◌&&◌, not, cond, nat_eq, List, [], ◌∷◌, ◌++◌, length, take, drop, filter, Option, Some, None, refl, sym, ap, subst, ◌∙◌, append_assoc, append-nil, length-append}
use Rattle.std.specs.Prelude.{◌==◌, ◌||◌, bytes_eq}
use Rattle.std.specs.List.{list_all}
use Rattle.std.proofs.lemmas.Bool.{eqb-true, ne_eqb, and_parts, or_parts, not-false, cond-false}
use Rattle.std.proofs.lemmas.Slice.Eq.{bytes_eq-Decides}
use Rattle.move_reader.proofs.ByteMeanings.{is_below}
use Rattle.pgn_book.specs.declared.game.PgnGame.{PgnGame}
use Rattle.pgn_book.specs.Bytes.{is_among, spaces, is_space, is_word_byte, Every, StopsBefore}
use Rattle.pgn_book.specs.Lexing.{Piece, Blank, Escape, Braces, Comment, Word, Glyph, Quoted, Sign, Opening, Closing, Within, escaped, piece_spelling, is_of_line, is_of_braces, is_of_text, is_sign, is_reserved, At, MayStand, next_place, Lexes, is_skipped, unmarked}
use Rattle.pgn_book.specs.declared.stage.GameStage.{GameStage}
use Rattle.pgn_book.specs.declared.stage.GameStage.TheVariants.{Before, Tags, Opened, Named, Told, Moves}
use Rattle.pgn_book.specs.declared.place.PlaceInText.TheVariants.{AfterOne, AfterTwo, Between, InLine, InBraces, InWord, InQuotes, InStroke}
use Rattle.pgn_book.specs.Reading.{Book, no_book, Taken, stage_opened, closed, piece_passed, quoted, took, Outcome, with_game_first, nothing_read, all_told, State, state_at, to_place, Step, silent, outside, opens, closes, nested, skipping, spaced, piece_begun, begun_behind, piece_of, longer, word_ended, step, resting, read_from, first_state}
use Rattle.rules_reading.proofs.Answered.{cond-both, cond-second}

-- a property of each of some bytes
abbrev pub EachOf : (ℕ → Type 0) → List ℕ → Type 0
EachOf P [] = Unit {0}
EachOf P (x ∷ xs) = P x × EachOf P xs

pub each_among : (P : ℕ → Type 0) (xs : List ℕ) (b : ℕ) → EachOf P xs → is_among xs b ≡ true → P b
each_among P [] b all h = absurd (let f : false ≡ true = h in cc)
each_among P (x ∷ xs) b all h =
    elim (b == x) as (λ t. (b == x) ≡ t → (t || is_among xs b) ≡ true → P b) [
      | true ↦ λ e g. subst P (sym (eqb-true b x e)) all.0
      | false ↦ λ e g. each_among P xs b all.1 g
    ] refl h

-- a step that gives no game
goes_on : (s : State) (on : Option State) (b : ℕ) (text : List ℕ) → step s b ≡ silent on
    → read_from (Some s) (b ∷ text) ≡ read_from on text
goes_on s on b text e = ap (λ (t : Step). with_game_first t.given (read_from t.on text)) e

-- ---- the rest of a line, and braces

step_line : (b depth : ℕ) (book : Book) → is_of_line b ≡ true
    → step (state_at InLine depth book) b ≡ silent (Some (state_at InLine depth book))
unfolding step
step_line b depth book e =
    ap (λ (t : Bool). silent (cond t (Some (state_at InLine depth book)) (Some (state_at (Between true) depth book)))) e

at_feed : (depth : ℕ) (book : Book) (rest : List ℕ) →
    read_from (Some (state_at InLine depth book)) (10 ∷ rest)
    ≡ read_from (Some (state_at (Between false) depth book)) (10 ∷ rest)
unfolding step is_word_byte
at_feed depth book rest = refl

line_read : (body rest : List ℕ) (depth : ℕ) (book : Book) → Every is_of_line body → StopsBefore is_of_line rest →
    read_from (Some (state_at InLine depth book)) (body ++ rest)
    ≡ read_from (Some (state_at (Between false) depth book)) rest
line_read [] [] depth book h stops = refl
line_read [] (b ∷ rest) depth book h stops =
    let feed : b ≡ 10 = eqb-true b 10 (not-false (b == 10) stops) in
    subst (λ (x : ℕ).
    read_from (Some (state_at InLine depth book)) (x ∷ rest)
    ≡ read_from (Some (state_at (Between false) depth book)) (x ∷ rest))
    (sym feed) (at_feed depth book rest)
line_read (b ∷ body) rest depth book h stops =
    let parts = and_parts (is_of_line b) (list_all is_of_line body) h in
    goes_on (state_at InLine depth book) (Some (state_at InLine depth book)) b (body ++ rest)
    (step_line b depth book parts.0)
    ∙ line_read body rest depth book parts.1 stops

step_braces : (b depth : ℕ) (book : Book) → is_of_braces b ≡ true
    → step (state_at InBraces depth book) b ≡ silent (Some (state_at InBraces depth book))
unfolding step
step_braces b depth book e =
    ap
    (λ (t : Bool). silent (cond t (Some (state_at InBraces depth book)) (Some (state_at (Between false) depth book)))) e

at_brace : (depth : ℕ) (book : Book)
    → step (state_at InBraces depth book) 125 ≡ silent (Some (state_at (Between false) depth book))
unfolding step
at_brace depth book = refl

braces_read : (body rest : List ℕ) (depth : ℕ) (book : Book) → Every is_of_braces body →
    read_from (Some (state_at InBraces depth book)) (body ++ 125 ∷ rest)
    ≡ read_from (Some (state_at (Between false) depth book)) rest
braces_read [] rest depth book h =
    goes_on (state_at InBraces depth book) (Some (state_at (Between false) depth book)) 125 rest (at_brace depth book)
braces_read (b ∷ body) rest depth book h =
    let parts = and_parts (is_of_braces b) (list_all is_of_braces body) h in
    goes_on (state_at InBraces depth book) (Some (state_at InBraces depth book)) b (body ++ 125 ∷ rest)
    (step_braces b depth book parts.0)
    ∙ braces_read body rest depth book parts.1

-- ---- words

step_word : (glyph : Bool) (word : List ℕ) (depth : ℕ) (book : Book) (b : ℕ) → is_word_byte b ≡ true
    → length word < 255 →
    step (state_at (InWord glyph word) depth book) b
    ≡ silent (Some (state_at (InWord glyph (word ++ b ∷ [])) depth book))
unfolding step
step_word glyph word depth book b e room =
    ap (λ (t : Bool).
    cond t (silent (longer (InWord glyph (word ++ b ∷ [])) word depth book))
    (word_ended (took book (piece_of glyph word)) depth b))
    e
    ∙ ap (λ (t : Bool). silent (cond t (Some (state_at (InWord glyph (word ++ b ∷ [])) depth book)) None))
    (is_below (length word) 255 room)

step_behind : (glyph : Bool) (word : List ℕ) (depth : ℕ) (book : Book) (b : ℕ) → is_word_byte b ≡ false →
    step (state_at (InWord glyph word) depth book) b ≡ word_ended (took book (piece_of glyph word)) depth b
unfolding step
step_behind glyph word depth book b e =
    ap (λ (t : Bool).
    cond t (silent (longer (InWord glyph (word ++ b ∷ [])) word depth book))
    (word_ended (took book (piece_of glyph word)) depth b))
    e

rests : (depth : ℕ) (on : Option Book) → resting depth on ≡ read_from (to_place (Between false) depth on) []
rests depth None = refl
rests depth (Some book) = refl

begins_behind : (depth : ℕ) (on : Option Book) (b : ℕ) (rest : List ℕ) →
    read_from (begun_behind depth on b) rest ≡ read_from (to_place (Between false) depth on) (b ∷ rest)
unfolding step
begins_behind depth None b rest = refl
begins_behind depth (Some book) b rest = refl

-- what is read behind a word that makes that of a book
abbrev read_behind : Taken → ℕ → List ℕ → Outcome
read_behind taken depth rest = with_game_first taken.given (read_from (to_place (Between false) depth taken.on) rest)

word_read : (glyph : Bool) (word rest done : List ℕ) (depth : ℕ) (book : Book) → Every is_word_byte word
    → length done + length word ≤ 255 →
    StopsBefore is_word_byte rest →
    read_from (Some (state_at (InWord glyph done) depth book)) (word ++ rest)
    ≡ read_behind (took book (piece_of glyph (done ++ word))) depth rest
word_read glyph [] [] done depth book h most stops =
    let taken : Taken = took book (piece_of glyph done) in
    ap (with_game_first taken.given) (rests depth taken.on)
    ∙ ap (λ (w : List ℕ). read_behind (took book (piece_of glyph w)) depth []) (sym (append-nil done))
word_read glyph [] (b ∷ rest) done depth book h most stops =
    let taken : Taken = took book (piece_of glyph done) in
    ap (λ (t : Step). with_game_first t.given (read_from t.on rest)) (step_behind glyph done depth book b stops)
    ∙ ap (with_game_first taken.given) (begins_behind depth taken.on b rest)
    ∙ ap (λ (w : List ℕ). read_behind (took book (piece_of glyph w)) depth (b ∷ rest)) (sym (append-nil done))
word_read glyph (b ∷ word) rest done depth book h most stops =
    let parts = and_parts (is_word_byte b) (list_all is_word_byte word) h in
    let more : length (done ++ b ∷ []) ≡ length done + 1 = length-append done (b ∷ []) in
    goes_on (state_at (InWord glyph done) depth book) (Some (state_at (InWord glyph (done ++ b ∷ [])) depth book)) b
    (word ++ rest)
    (step_word glyph done depth book b parts.0 (omega arith))
    ∙ word_read glyph word rest (done ++ b ∷ []) depth book parts.1 (omega arith) stops
    ∙ ap (λ (w : List ℕ). read_behind (took book (piece_of glyph w)) depth rest) (append_assoc done (b ∷ []) word)

-- ---- texts in quotes

step_quote : (text : List ℕ) (depth : ℕ) (book : Book) →
    step (state_at (InQuotes text) depth book) 34 ≡ silent (to_place (Between false) depth (took book (Quoted text)).on)
unfolding step
step_quote text depth book = refl

step_stroke : (text : List ℕ) (depth : ℕ) (book : Book)
    → step (state_at (InQuotes text) depth book) 92 ≡ silent (Some (state_at (InStroke text) depth book))
unfolding step
step_stroke text depth book = refl

is_longer : (text : List ℕ) (b depth : ℕ) (book : Book) → length text < 255 →
    longer (InQuotes (text ++ b ∷ [])) text depth book ≡ Some (state_at (InQuotes (text ++ b ∷ [])) depth book)
is_longer text b depth book room =
    ap (λ (t : Bool). cond t (Some (state_at (InQuotes (text ++ b ∷ [])) depth book)) None)
    (is_below (length text) 255 room)

step_stroked : (text : List ℕ) (depth : ℕ) (book : Book) (b : ℕ) → is_among (34 ∷ 92 ∷ []) b ≡ true
    → length text < 255 →
    step (state_at (InStroke text) depth book) b ≡ silent (Some (state_at (InQuotes (text ++ b ∷ [])) depth book))
unfolding step
step_stroked text depth book b e room =
    ap (λ (t : Bool). silent (cond t (longer (InQuotes (text ++ b ∷ [])) text depth book) None)) e
    ∙ ap silent (is_longer text b depth book room)

step_text : (text : List ℕ) (depth : ℕ) (book : Book) (b : ℕ) → (b == 34) ≡ false → (b == 92) ≡ false
    → is_of_text b ≡ true → length text < 255 →
    step (state_at (InQuotes text) depth book) b ≡ silent (Some (state_at (InQuotes (text ++ b ∷ [])) depth book))
unfolding step
step_text text depth book b quote stroke e room =
    let end : Option State = to_place (Between false) depth (took book (Quoted text)).on in
    let stroked : Option State = Some (state_at (InStroke text) depth book) in
    let more : Option State = longer (InQuotes (text ++ b ∷ [])) text depth book in
    ap (λ (t : Bool). silent (cond t end (cond (b == 92) stroked (cond (is_of_text b) more None)))) quote
    ∙ ap (λ (t : Bool). silent (cond t stroked (cond (is_of_text b) more None))) stroke
    ∙ ap (λ (t : Bool). silent (cond t more None)) e
    ∙ ap silent (is_longer text b depth book room)

text_read : (text rest done : List ℕ) (depth : ℕ) (book : Book) → Every is_of_text text
    → length done + length text ≤ 255 →
    read_from (Some (state_at (InQuotes done) depth book)) (escaped text ++ 34 ∷ rest)
    ≡ read_from (to_place (Between false) depth (took book (Quoted (done ++ text))).on) rest
text_read [] rest done depth book h most =
    goes_on (state_at (InQuotes done) depth book) (to_place (Between false) depth (took book (Quoted done)).on) 34 rest
    (step_quote done depth book)
    ∙ ap (λ (t : List ℕ). read_from (to_place (Between false) depth (took book (Quoted t)).on) rest)
    (sym (append-nil done))
text_read (b ∷ text) rest done depth book h most =
    let parts = and_parts (is_of_text b) (list_all is_of_text text) h in
    let grown : length (done ++ b ∷ []) ≡ length done + 1 = length-append done (b ∷ []) in
    let tail : List ℕ = escaped text ++ 34 ∷ rest in
    let next : Option State = Some (state_at (InQuotes (done ++ b ∷ [])) depth book) in
    let again : read_from next tail
    ≡ read_from (to_place (Between false) depth (took book (Quoted (done ++ b ∷ text))).on) rest =
    text_read text rest (done ++ b ∷ []) depth book parts.1 (omega arith)
    ∙ ap (λ (t : List ℕ). read_from (to_place (Between false) depth (took book (Quoted t)).on) rest)
    (append_assoc done (b ∷ []) text) in
    let room : length done < 255 = omega arith in
    let first : (c : Bool) → is_among (34 ∷ 92 ∷ []) b ≡ c →
    read_from (Some (state_at (InQuotes done) depth book))
    ((cond c (92 ∷ b ∷ []) (b ∷ []) ++ escaped text) ++ 34 ∷ rest)
    ≡ read_from next tail =
    (λ c. elim c as (λ c. is_among (34 ∷ 92 ∷ []) b ≡ c →
    read_from (Some (state_at (InQuotes done) depth book))
    ((cond c (92 ∷ b ∷ []) (b ∷ []) ++ escaped text) ++ 34 ∷ rest)
    ≡ read_from next tail) [
      | true ↦ λ e.
          goes_on (state_at (InQuotes done) depth book) (Some (state_at (InStroke done) depth book)) 92 (b ∷ tail)
          (step_stroke done depth book)
          ∙ goes_on (state_at (InStroke done) depth book) next b tail (step_stroked done depth book b e room)
      | false ↦ λ e.
          let apart = or_parts (b == 34) (is_among (92 ∷ []) b) e in
          let other = or_parts (b == 92) false apart.1 in
          goes_on (state_at (InQuotes done) depth book) next b tail
          (step_text done depth book b apart.0 other.0 parts.0 room)
    ]) in
    first (is_among (34 ∷ 92 ∷ []) b) refl ∙ again

-- ---- the first bytes of pieces

first_word : (fresh : Bool) (depth : ℕ) (book : Book) (b : ℕ) → is_word_byte b ≡ true → depth ≡ 0 →
    step (state_at (Between fresh) depth book) b ≡ silent (Some (state_at (InWord false (b ∷ [])) depth book))
unfolding step
first_word fresh depth book b e none =
    let zero_deep : nat_eq depth 0 ≡ true = ap (λ (d : ℕ). nat_eq d 0) none in
    ap silent
    (cond-both (is_word_byte b) (nat_eq depth 0) (Some (state_at (InWord false (b ∷ [])) depth book))
    (spaced fresh depth book b) e zero_deep)

first_space : (fresh : Bool) (depth : ℕ) (book : Book) (b : ℕ) → is_space b ≡ true →
    step (state_at (Between fresh) depth book) b ≡ silent (Some (state_at (Between (b == 10)) depth book))
unfolding step is_word_byte
first_space fresh depth book b h =
    each_among
    (λ (x : ℕ). step (state_at (Between fresh) depth book) x ≡ silent (Some (state_at (Between (x == 10)) depth book)))
    spaces b
    (refl, (refl, (refl, (refl, (refl, (refl, tt)))))) h

first_percent : (depth : ℕ) (book : Book)
    → step (state_at (Between true) depth book) 37 ≡ silent (Some (state_at InLine depth book))
unfolding step is_word_byte
first_percent depth book = refl

first_semicolon : (fresh : Bool) (depth : ℕ) (book : Book)
    → step (state_at (Between fresh) depth book) 59 ≡ silent (Some (state_at InLine depth book))
unfolding step is_word_byte
first_semicolon fresh depth book = refl

first_brace : (fresh : Bool) (depth : ℕ) (book : Book)
    → step (state_at (Between fresh) depth book) 123 ≡ silent (Some (state_at InBraces depth book))
unfolding step is_word_byte
first_brace fresh depth book = refl

first_opening : (fresh : Bool) (depth : ℕ) (book : Book) → depth < 100 →
    step (state_at (Between fresh) depth book) 40 ≡ silent (to_place (Between false) (depth + 1) (took book Opening).on)
unfolding step is_word_byte
first_opening fresh depth book h =
    ap (λ (t : Bool). silent (cond t (to_place (Between false) (depth + 1) (took book Opening).on) None))
    (is_below depth 100 h)

not_zero : (n : ℕ) → 0 < n → nat_eq n 0 ≡ false
not_zero n h = ne_eqb n 0 (λ e. omega arith)

first_closing : (fresh : Bool) (depth : ℕ) (book : Book) → 0 < depth →
    step (state_at (Between fresh) depth book) 41 ≡ silent (to_place (Between false) (depth - 1) (took book Closing).on)
unfolding step is_word_byte
first_closing fresh depth book h =
    ap (λ (t : Bool). silent (cond t None (to_place (Between false) (depth - 1) (took book Closing).on)))
    (not_zero depth h)

first_within : (fresh : Bool) (depth : ℕ) (book : Book) (b : ℕ) → 0 < depth → is_reserved b ≡ false
    → (b == 37 && fresh) ≡ false →
    step (state_at (Between fresh) depth book) b ≡ silent (to_place (Between false) depth (took book (Within b)).on)
unfolding step
first_within fresh depth book b h free percent =
    let s = or_parts (is_space b) (is_among (59 ∷ 123 ∷ 40 ∷ 41 ∷ []) b) free in
    let semicolon = or_parts (b == 59) (is_among (123 ∷ 40 ∷ 41 ∷ []) b) s.1 in
    let brace = or_parts (b == 123) (is_among (40 ∷ 41 ∷ []) b) semicolon.1 in
    let open_one = or_parts (b == 40) (is_among (41 ∷ []) b) brace.1 in
    let close_one = or_parts (b == 41) false open_one.1 in
    let deep : nat_eq depth 0 ≡ false = not_zero depth h in
    let inside : Option State = to_place (Between false) depth (took book (Within b)).on in
    let line : Option State = Some (state_at InLine depth book) in
    let braces : Option State = Some (state_at InBraces depth book) in
    let not_deep : Option State = cond (nat_eq depth 0) (outside book b) inside in
    let no_opening : Option State = cond (b == 41) (closes depth book) not_deep in
    let no_brace : Option State = nested depth book b in
    let no_semicolon : Option State = cond (b == 123) braces no_brace in
    let no_percent : Option State = cond (b == 59) line no_semicolon in
    ap silent (
    cond-second (is_word_byte b) (nat_eq depth 0) (Some (state_at (InWord false (b ∷ [])) depth book))
    (spaced fresh depth book b) deep
    ∙ cond-false (is_space b) (Some (state_at (Between (b == 10)) depth book)) (skipping fresh depth book b) s.0
    ∙ cond-false (b == 37 && fresh) line no_percent percent
    ∙ cond-false (b == 59) line no_semicolon semicolon.0
    ∙ cond-false (b == 123) braces no_brace brace.0
    ∙ cond-false (b == 40) (opens depth book) no_opening open_one.0
    ∙ cond-false (b == 41) (closes depth book) not_deep close_one.0
    ∙ cond-false (nat_eq depth 0) (outside book b) inside deep
    )

-- outside of variations
first_sign : (fresh : Bool) (book : Book) (b : ℕ) → is_sign b ≡ true →
    step (state_at (Between fresh) 0 book) b ≡ silent (to_place (Between false) 0 (took book (Sign b)).on)
unfolding step is_word_byte
first_sign fresh book b h =
    each_among
    (λ (x : ℕ). step (state_at (Between fresh) 0 book) x ≡ silent (to_place (Between false) 0 (took book (Sign x)).on))
    (91 ∷ 93 ∷ 46 ∷ []) b
    (refl, (refl, (refl, tt))) h

first_glyph : (fresh : Bool) (book : Book)
    → step (state_at (Between fresh) 0 book) 36 ≡ silent (Some (state_at (InWord true []) 0 book))
unfolding step is_word_byte
first_glyph fresh book = refl

first_quote : (fresh : Bool) (book : Book)
    → step (state_at (Between fresh) 0 book) 34 ≡ silent (Some (state_at (InQuotes []) 0 book))
unfolding step is_word_byte
first_quote fresh book = refl

-- ---- only words give games

passed_over-silent : (stage : GameStage) (book : Book) → (piece_passed stage book).given ≡ None
passed_over-silent Before book = refl
passed_over-silent Tags book = refl
passed_over-silent Opened book = refl
passed_over-silent (Named name) book = refl
passed_over-silent Told book = refl
passed_over-silent Moves book = refl

opened-silent : (stage : GameStage) (book : Book) → (stage_opened stage book).given ≡ None
opened-silent Before book = refl
opened-silent Tags book = refl
opened-silent Opened book = refl
opened-silent (Named name) book = refl
opened-silent Told book = refl
opened-silent Moves book = refl

closed-silent : (stage : GameStage) (book : Book) → (closed stage book).given ≡ None
closed-silent Before book = refl
closed-silent Tags book = refl
closed-silent Opened book = refl
closed-silent (Named name) book = refl
closed-silent Told book = refl
closed-silent Moves book = refl

quoted-silent : (stage : GameStage) (book : Book) (text : List ℕ) → (quoted stage book text).given ≡ None
quoted-silent Before book text = refl
quoted-silent Tags book text = refl
quoted-silent Opened book text = refl
quoted-silent (Named name) book text = refl
quoted-silent Told book text = refl
quoted-silent Moves book text = refl

cond-silent : (t : Bool) (x y : Taken) → x.given ≡ None → y.given ≡ None → (cond t x y).given ≡ None
cond-silent true x y h g = h
cond-silent false x y h g = g

sign-silent : (book : Book) (b : ℕ) → (took book (Sign b)).given ≡ None
unfolding took
sign-silent book b =
    cond-silent (b == 91) (stage_opened book.stage book)
    (cond (b == 93) (closed book.stage book) (piece_passed book.stage book)) (opened-silent book.stage book)
    (cond-silent (b == 93) (closed book.stage book) (piece_passed book.stage book) (closed-silent book.stage book)
    (passed_over-silent book.stage book))

text-silent : (book : Book) (text : List ℕ) → (took book (Quoted text)).given ≡ None
unfolding took
text-silent book text = quoted-silent book.stage book text

opening-silent : (book : Book) → (took book Opening).given ≡ None
unfolding took
opening-silent book = passed_over-silent book.stage book

closing-silent : (book : Book) → (took book Closing).given ≡ None
unfolding took
closing-silent book = passed_over-silent book.stage book

within-silent : (book : Book) (b : ℕ) → (took book (Within b)).given ≡ None
unfolding took
within-silent book b = passed_over-silent book.stage book

-- ---- whole pieces

-- between pieces, with a book or none
abbrev pub at_state : At → Option Book → Option State
at_state at book = to_place (Between at.fresh) at.depth book

-- what is read behind a piece
abbrev read_after : At → Piece → List ℕ → Book → Outcome
read_after at piece rest book =
    cond (is_skipped piece) (read_from (at_state (next_place at piece) (Some book)) rest)
    (with_game_first (took book piece).given (read_from (at_state (next_place at piece) (took book piece).on) rest))

-- a piece that gives no game
quietly : (taken : Taken) (outcome : Outcome) → taken.given ≡ None → outcome ≡ with_game_first taken.given outcome
quietly taken outcome e = ap (λ (g : Option PgnGame). with_game_first g outcome) (sym e)

one_more : (word : List ℕ) (b : ℕ) → length (b ∷ word) ≤ 255 → length (b ∷ []) + length word ≤ 255
one_more word b h = omega arith

piece_read : (at : At) (piece : Piece) (rest : List ℕ) (book : Book) → MayStand at piece rest →
    read_from (at_state at (Some book)) (piece_spelling piece ++ rest) ≡ read_after at piece rest book
piece_read at (Blank b) rest book h =
    goes_on (state_at (Between at.fresh) at.depth book) (Some (state_at (Between (b == 10)) at.depth book)) b rest
    (first_space at.fresh at.depth book b h)
piece_read at (Escape body) rest book h =
    goes_on (state_at (Between at.fresh) at.depth book) (Some (state_at InLine at.depth book)) 37 (body ++ rest)
    (ap (λ (f : Bool). step (state_at (Between f) at.depth book) 37) h.0 ∙ first_percent at.depth book)
    ∙ line_read body rest at.depth book h.1.no_feed h.1.to_end
piece_read at (Braces body) rest book h =
    goes_on (state_at (Between at.fresh) at.depth book) (Some (state_at InBraces at.depth book)) 123
    ((body ++ 125 ∷ []) ++ rest) (first_brace at.fresh at.depth book)
    ∙ ap (read_from (Some (state_at InBraces at.depth book))) (append_assoc body (125 ∷ []) rest)
    ∙ braces_read body rest at.depth book h
piece_read at (Comment body) rest book h =
    goes_on (state_at (Between at.fresh) at.depth book) (Some (state_at InLine at.depth book)) 59 (body ++ rest)
    (first_semicolon at.fresh at.depth book)
    ∙ line_read body rest at.depth book h.no_feed h.to_end
piece_read at (Word []) rest book h = absurd (h.1 refl)
piece_read at (Word (b ∷ word)) rest book h =
    let parts = and_parts (is_word_byte b) (list_all is_word_byte word) h.2.bytes in
    goes_on (state_at (Between at.fresh) at.depth book) (Some (state_at (InWord false (b ∷ [])) at.depth book)) b
    (word ++ rest)
    (first_word at.fresh at.depth book b parts.0 h.0)
    ∙ word_read false word rest (b ∷ []) at.depth book parts.1 (one_more word b h.2.most) h.2.whole
piece_read at (Glyph word) rest book h =
    goes_on (state_at (Between at.fresh) at.depth book) (Some (state_at (InWord true []) at.depth book)) 36
    (word ++ rest)
    (subst (λ (d : ℕ). step (state_at (Between at.fresh) d book) 36 ≡ silent (Some (state_at (InWord true []) d book)))
    (sym h.0) (first_glyph at.fresh book))
    ∙ word_read true word rest [] at.depth book h.1.bytes (omega (arith, h.1.most)) h.1.whole
piece_read at (Quoted text) rest book h =
    goes_on (state_at (Between at.fresh) at.depth book) (Some (state_at (InQuotes []) at.depth book)) 34
    ((escaped text ++ 34 ∷ []) ++ rest)
    (subst (λ (d : ℕ). step (state_at (Between at.fresh) d book) 34 ≡ silent (Some (state_at (InQuotes []) d book)))
    (sym h.0) (first_quote at.fresh book))
    ∙ ap (read_from (Some (state_at (InQuotes []) at.depth book))) (append_assoc (escaped text) (34 ∷ []) rest)
    ∙ text_read text rest [] at.depth book h.1.bytes (omega (arith, h.1.most))
    ∙ quietly (took book (Quoted text))
    (read_from (to_place (Between false) at.depth (took book (Quoted text)).on) rest) (text-silent book text)
piece_read at (Sign b) rest book h =
    goes_on (state_at (Between at.fresh) at.depth book) (to_place (Between false) at.depth (took book (Sign b)).on) b
    rest
    (subst (λ (d : ℕ).
    step (state_at (Between at.fresh) d book) b ≡ silent (to_place (Between false) d (took book (Sign b)).on))
    (sym h.0) (first_sign at.fresh book b h.1))
    ∙ quietly (took book (Sign b)) (read_from (to_place (Between false) at.depth (took book (Sign b)).on) rest)
    (sign-silent book b)
piece_read at Opening rest book h =
    goes_on (state_at (Between at.fresh) at.depth book) (to_place (Between false) (at.depth + 1) (took book Opening).on)
    40 rest (first_opening at.fresh at.depth book h)
    ∙ quietly (took book Opening) (read_from (to_place (Between false) (at.depth + 1) (took book Opening).on) rest)
    (opening-silent book)
piece_read at Closing rest book h =
    goes_on (state_at (Between at.fresh) at.depth book) (to_place (Between false) (at.depth - 1) (took book Closing).on)
    41 rest (first_closing at.fresh at.depth book h)
    ∙ quietly (took book Closing) (read_from (to_place (Between false) (at.depth - 1) (took book Closing).on) rest)
    (closing-silent book)
piece_read at (Within b) rest book h =
    goes_on (state_at (Between at.fresh) at.depth book) (to_place (Between false) at.depth (took book (Within b)).on) b
    rest (first_within at.fresh at.depth book b h.0 h.1 h.2)
    ∙ quietly (took book (Within b)) (read_from (to_place (Between false) at.depth (took book (Within b)).on) rest)
    (within-silent book b)

-- ---- whole texts

-- the pieces that tell something
abbrev pub telling : List Piece → List Piece
telling pieces = filter (λ piece. not (is_skipped piece)) pieces

both : (skipped : Bool) (given : Option PgnGame) (x x' y y' : Outcome) → x ≡ x' → y ≡ y'
    → cond skipped x (with_game_first given y) ≡ cond skipped x' (with_game_first given y')
both true given x x' y y' h g = h
both false given x x' y y' h g = ap (with_game_first given) g

told_so : (skipped : Bool) (book : Book) (piece : Piece) (pieces : List Piece) →
    cond skipped (all_told (Some book) pieces)
    (with_game_first (took book piece).given (all_told (took book piece).on pieces))
    ≡ all_told (Some book) (cond (not skipped) (piece ∷ pieces) pieces)
told_so true book piece pieces = refl
told_so false book piece pieces = refl

pub lexed_read : (pieces : List Piece) (at : At) (text : List ℕ) (book : Option Book) → Lexes at text pieces →
    read_from (at_state at book) text ≡ all_told book (telling pieces)
lexed_read [] at text None h = refl
lexed_read [] at text (Some book) h =
    ap (read_from (at_state at (Some book))) h.0
    ∙ ap (λ (d : ℕ). read_from (Some (state_at (Between at.fresh) d book)) []) h.1
lexed_read (piece ∷ pieces) at text None h = refl
lexed_read (piece ∷ pieces) at text (Some book) h =
    let rest : List ℕ = h.0 in
    let next : At = next_place at piece in
    let taken : Taken = took book piece in
    ap (read_from (at_state at (Some book))) h.1
    ∙ piece_read at piece rest book h.2
    ∙ both (is_skipped piece) taken.given (read_from (at_state next (Some book)) rest)
    (all_told (Some book) (telling pieces))
    (read_from (at_state next taken.on) rest) (all_told taken.on (telling pieces))
    (lexed_read pieces next rest (Some book) h.3) (lexed_read pieces next rest taken.on h.3)
    ∙ told_so (is_skipped piece) book piece (telling pieces)

-- ---- the mark of UTF-8

marked_start : (rest : List ℕ)
    → read_from (Some first_state) (239 ∷ 187 ∷ 191 ∷ rest) ≡ read_from (Some (state_at (Between true) 0 no_book)) rest
unfolding step
marked_start rest = refl

start_step : (b : ℕ) (rest : List ℕ) → (b == 239) ≡ false
    → read_from (Some first_state) (b ∷ rest) ≡ read_from (Some (state_at (Between true) 0 no_book)) (b ∷ rest)
unfolding step
start_step b rest e =
    ap (λ (t : Bool). read_from (cond t (Some (state_at AfterOne 0 no_book)) (piece_begun true 0 no_book b)) rest) e

-- a part of the mark begins no piece
lone_mark : (rest : List ℕ) → read_from (Some (state_at (Between true) 0 no_book)) (239 ∷ rest) ≡ nothing_read
unfolding step is_word_byte
lone_mark rest = refl

after_two : (rest : List ℕ) → bytes_eq (239 ∷ 187 ∷ take 1 rest) (239 ∷ 187 ∷ 191 ∷ []) ≡ false
    → read_from (Some (state_at AfterTwo 0 no_book)) rest ≡ nothing_read
unfolding step
after_two [] h = refl
after_two (b ∷ rest) h =
    elim (b == 191)
    as (λ t. (b == 191) ≡ t → read_from (cond t (Some (state_at (Between true) 0 no_book)) None) rest ≡ nothing_read) [
      | true ↦ λ e.
          absurd (let f : true ≡ false =
          ap (λ (x : ℕ). bytes_eq (239 ∷ 187 ∷ x ∷ []) (239 ∷ 187 ∷ 191 ∷ [])) (sym (eqb-true b 191 e)) ∙ h in cc)
      | false ↦ λ e. refl
    ] refl

after_one : (rest : List ℕ) → bytes_eq (239 ∷ take 2 rest) (239 ∷ 187 ∷ 191 ∷ []) ≡ false
    → read_from (Some (state_at AfterOne 0 no_book)) rest ≡ nothing_read
unfolding step
after_one [] h = refl
after_one (b ∷ rest) h =
    elim (b == 187)
    as (λ t. (b == 187) ≡ t → read_from (cond t (Some (state_at AfterTwo 0 no_book)) None) rest ≡ nothing_read) [
      | true ↦ λ e.
          after_two rest
          (ap (λ (x : ℕ). bytes_eq (239 ∷ x ∷ take 1 rest) (239 ∷ 187 ∷ 191 ∷ [])) (sym (eqb-true b 187 e)) ∙ h)
      | false ↦ λ e. refl
    ] refl

start_lone : (rest : List ℕ)
    → read_from (Some first_state) (239 ∷ rest) ≡ read_from (Some (state_at AfterOne 0 no_book)) rest
unfolding step
start_lone rest = refl

-- a text that isn't marked
plain_start : (text : List ℕ) → bytes_eq (take 3 text) (239 ∷ 187 ∷ 191 ∷ []) ≡ false →
    read_from (Some first_state) text ≡ read_from (Some (state_at (Between true) 0 no_book)) text
plain_start [] h = refl
plain_start (b ∷ rest) h =
    elim (b == 239)
    as (λ t.
    (b == 239) ≡ t
    → read_from (Some first_state) (b ∷ rest) ≡ read_from (Some (state_at (Between true) 0 no_book)) (b ∷ rest)) [
      | true ↦ λ e.
          let is : b ≡ 239 = eqb-true b 239 e in
          let other : bytes_eq (239 ∷ take 2 rest) (239 ∷ 187 ∷ 191 ∷ []) ≡ false =
          ap (λ (x : ℕ). bytes_eq (x ∷ take 2 rest) (239 ∷ 187 ∷ 191 ∷ [])) (sym is) ∙ h in
          subst (λ (x : ℕ).
          read_from (Some first_state) (x ∷ rest) ≡ read_from (Some (state_at (Between true) 0 no_book)) (x ∷ rest))
          (sym is)
          (start_lone rest ∙ after_one rest other ∙ sym (lone_mark rest))
      | false ↦ λ e. start_step b rest e
    ] refl

take_three : (text x : List ℕ) (a b c : ℕ) → take 3 text ≡ a ∷ b ∷ c ∷ [] → text ≡ a ∷ b ∷ c ∷ drop 3 text
take_three [] x a b c e = cc
take_three (p ∷ []) x a b c e = cc
take_three (p ∷ q ∷ []) x a b c e = cc
take_three (p ∷ q ∷ r ∷ rest) x a b c e = cc

pub start_read : (text : List ℕ)
    → read_from (Some first_state) text ≡ read_from (Some (state_at (Between true) 0 no_book)) (unmarked text)
start_read text =
    elim (bytes_eq (take 3 text) (239 ∷ 187 ∷ 191 ∷ [])) as (λ t. bytes_eq (take 3 text) (239 ∷ 187 ∷ 191 ∷ []) ≡ t →
    read_from (Some first_state) text
    ≡ read_from (Some (state_at (Between true) 0 no_book)) (cond t (drop 3 text) text)) [
      | true ↦ λ e.
          let front : take 3 text ≡ 239 ∷ 187 ∷ 191 ∷ [] =
          (bytes_eq-Decides (take 3 text) (239 ∷ 187 ∷ 191 ∷ [])).0 e in
          ap (read_from (Some first_state)) (take_three text [] 239 187 191 front) ∙ marked_start (drop 3 text)
      | false ↦ λ e. plain_start text e
    ] refl
