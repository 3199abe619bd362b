-- What every state of the reader keeps, and that the games it gives may be exported.
use Rattle.std.proofs.Common.{arith, ◌≡◌, ◌⊎◌, inl, inr, ℕ, ◌+◌, ◌-◌, ◌<◌, Bool, true, false, ◌&&◌, not, cond, nat_eq, nat_lt, List, [], ◌∷◌, ◌++◌, length, map, Option, Some, None, refl, sym, ap, subst, ◌∙◌, length-append}
use Rattle.std.specs.Prelude.{◌==◌, bytes_eq, codes, unwrap_or, MatchResult, IfSome}
use Rattle.std.specs.List.{list_all, AllByRecursion}
use Rattle.std.proofs.lemmas.Bool.{eqb-true, and_parts}
use Rattle.std.proofs.lemmas.List.Folds.{list_all-append}
use Rattle.move_reader.proofs.ByteMeanings.{below}
use Rattle.chess_model.specs.declared.moves.Move.{Move}
use Rattle.chess_model.specs.declared.variant.Variant.TheVariants.{Chess}
use Rattle.chess_model.specs.MoveList.{HalfMove}
use Rattle.chess_model.specs.Position.{Position}
use Rattle.chess_model.specs.Allowed.{Allowed, IsLegal}
use Rattle.chess_model.specs.Answer.{IsAnswer, IsRefusal}
use Rattle.chess_model.proofs.LegalLists.{legal_lists}
use Rattle.chess_model.proofs.WordsDecide.{word_answer-holds}
use Rattle.rules_reading.specs.ReadsBack.{IsReadAs}
use Rattle.pgn_book.specs.declared.game.PgnGame.{PgnGame}
use Rattle.pgn_book.specs.declared.book.Read.{Read}
use Rattle.pgn_book.specs.declared.place.PlaceInText.{PlaceInText}
use Rattle.pgn_book.specs.declared.place.PlaceInText.TheVariants.{Start, AfterOne, AfterTwo, Between, InLine, InBraces, InWord, InQuotes, InStroke}
use Rattle.pgn_book.specs.declared.stage.GameStage.{GameStage}
use Rattle.pgn_book.specs.declared.stage.GameStage.TheVariants.{Before, Tags, Opened, Named, Told, Moves}
use Rattle.pgn_book.specs.Bytes.{is_among, is_space, is_digit, is_name_byte, is_word_byte}
use Rattle.pgn_book.specs.Lexing.{IsText, is_sign, is_of_line, is_of_braces, is_of_text}
use Rattle.pgn_book.specs.Games.{is_result, on_board, position_of_moves, without_praise}
use Rattle.pgn_book.specs.Export.{IsExportable}
use Rattle.pgn_book.specs.Reading.{Book, no_book, tag_noted, noted_as, game_of_book, Taken, goes, fails, gives, staged, stage_opened, closed, piece_passed, quoted, tag_named, move_read, with_move, move_taken, piece_told, worded, signed, glyphed, took, Outcome, with_game_first, State, Step, state_at, to_place, outside, opens, closes, nested, skipping, spaced, piece_begun, begun_behind, piece_of, longer, silent, word_ended, text_started, ended_in, in_line, in_braces, in_quotes, in_stroke, step, step_in, resting, finished_in, read_from, first_state, Gone, with_given, gone}
use Rattle.pgn_book.specs.Taking.{on_if, IsStepOfByte, between}
use Rattle.pgn_book.specs.Sound.{IsTextIfTold, IsSoundBook, IsSoundPlace, IsSoundState, IsSoundIf}
use Rattle.pgn_book.specs.Laws.{ReadsExportable}
use Rattle.pgn_book.proofs.GamesFound.{move_found}
use Rattle.pgn_book.proofs.GamesTold.{reads_told}
use Rattle.pgn_book.proofs.PiecesRead.{each_among}
use Rattle.std.proofs.lemmas.List.{map-append}

-- ---- books

abbrev IsSoundBookIf : Option Book → Type 0
IsSoundBookIf None = Unit {0}
IsSoundBookIf (Some book) = IsSoundBook book

abbrev pub IsExportableIf : Option PgnGame → Type 0
IsExportableIf None = Unit {0}
IsExportableIf (Some g) = IsExportable g

record IsSoundTaken (taken : Taken) : Type 0 where
  given : IsExportableIf taken.given
  on : IsSoundBookIf taken.on

sound_if : (x : Bool) (a c : Taken) → (x ≡ true → IsSoundTaken a) → (x ≡ false → IsSoundTaken c)
    → IsSoundTaken (cond x a c)
sound_if true a c h g = h refl
sound_if false a c h g = g refl

failing : IsSoundTaken fails
failing = record { given = tt; on = tt }

going : (book : Book) → IsSoundBook book → IsSoundTaken (goes book)
going book h = record { given = tt; on = h }

empty_book : IsSoundBook no_book
empty_book = record {
  legal = legal_lists.none Chess;
  most = omega arith;
  event = tt;
  site = tt;
  date = tt;
  round = tt;
  white = tt;
  black = tt;
}

at_stage : (stage : GameStage) (book : Book) → IsSoundBook book → IsSoundBook (staged stage book)
at_stage stage book h = record {
  legal = h.legal;
  most = h.most;
  event = h.event;
  site = h.site;
  date = h.date;
  round = h.round;
  white = h.white;
  black = h.black;
}

passing : (stage : GameStage) (book : Book) → IsSoundBook book → IsSoundTaken (piece_passed stage book)
passing Before book h = going (staged Moves book) (at_stage Moves book h)
passing Tags book h = going (staged Moves book) (at_stage Moves book h)
passing Opened book h = failing
passing (Named name) book h = failing
passing Told book h = failing
passing Moves book h = going book h

opening : (stage : GameStage) (book : Book) → IsSoundBook book → IsSoundTaken (stage_opened stage book)
opening Before book h = going (staged Opened book) (at_stage Opened book h)
opening Tags book h = going (staged Opened book) (at_stage Opened book h)
opening Opened book h = failing
opening (Named name) book h = failing
opening Told book h = failing
opening Moves book h = failing

closing : (stage : GameStage) (book : Book) → IsSoundBook book → IsSoundTaken (closed stage book)
closing Before book h = failing
closing Tags book h = failing
closing Opened book h = failing
closing (Named name) book h = failing
closing Told book h = going (staged Tags book) (at_stage Tags book h)
closing Moves book h = failing

told_if : (x : Bool) (text : List ℕ) → IsText text → IsTextIfTold (cond x (Some text) None)
told_if true text h = h
told_if false text h = tt

noting : (key name text : List ℕ) (old : Option (List ℕ)) → IsText text → IsTextIfTold old
    → IsTextIfTold (noted_as key name text old)
noting key name text None h g = told_if (bytes_eq name key) text h
noting key name text (Some first) h g = g

quoting : (stage : GameStage) (book : Book) (text : List ℕ) → IsText text → IsSoundBook book
    → IsSoundTaken (quoted stage book text)
quoting Before book text is h = failing
quoting Tags book text is h = failing
quoting Opened book text is h = failing
quoting (Named name) book text is h =
    going (record { stage = Told; row = tag_noted name text book.row; moves = book.moves })
    (record {
      legal = h.legal;
      most = h.most;
      event = noting (codes "Event") name text book.row.event is h.event;
      site = noting (codes "Site") name text book.row.site is h.site;
      date = noting (codes "Date") name text book.row.date is h.date;
      round = noting (codes "Round") name text book.row.round is h.round;
      white = noting (codes "White") name text book.row.white is h.white;
      black = noting (codes "Black") name text book.row.black is h.black;
    })
quoting Told book text is h = failing
quoting Moves book text is h = failing

naming : (book : Book) (word : List ℕ) → IsSoundBook book → IsSoundTaken (tag_named book word)
naming book word h =
    sound_if (list_all is_name_byte word && not (bytes_eq word (codes "FEN"))) (goes (staged (Named word) book)) fails
    (λ e. going (staged (Named word) book) (at_stage (Named word) book h)) (λ e. failing)

-- ---- moves and results

-- the answer to a word is an allowed move
allowed_answer : (p : Position) (text : List ℕ) (m : Move) → IsReadAs p text m → Allowed p m
allowed_answer p text m h =
    let answer : IsAnswer p h.word m =
    subst (λ r. MatchResult r (IsAnswer p h.word) (IsRefusal p h.word)) h.answered (word_answer-holds p h.word) in
    answer.choice.allowed

moving_on : (book : Book) (text : List ℕ) (m : Option Move) → length book.moves < 1200 → IsSoundBook book
    → move_read (position_of_moves book.moves) text ≡ m →
    IsSoundTaken (with_move book m)
moving_on book text None room h e = failing
moving_on book text (Some m) room h e =
    let allowed : Allowed (position_of_moves book.moves) m =
    allowed_answer (position_of_moves book.moves) text m (move_found (position_of_moves book.moves) text m e) in
    let long : length (book.moves ++ m ∷ []) ≡ length book.moves + 1 = length-append book.moves (m ∷ []) in
    going (record { stage = Moves; row = book.row; moves = book.moves ++ m ∷ [] })
    (record {
      legal =
          subst (λ (T : List HalfMove). IsLegal Chess T) (sym (map-append on_board book.moves (m ∷ [])))
          (legal_lists.grows Chess (map on_board book.moves) (on_board m) h.legal allowed);
      most = omega arith;
      event = h.event;
      site = h.site;
      date = h.date;
      round = h.round;
      white = h.white;
      black = h.black;
    })

moving : (book : Book) (word : List ℕ) → IsSoundBook book → IsSoundTaken (move_taken book word)
moving book word h =
    let text : List ℕ = without_praise word in
    sound_if (nat_lt (length book.moves) 1200) (with_move book (move_read (position_of_moves book.moves) text)) fails
    (λ e. moving_on book text (move_read (position_of_moves book.moves) text) (below (length book.moves) 1200 e) h refl)
    (λ e. failing)

-- a text of a game is one that was told, or another that may stand in a tag
shown : (absent : List ℕ) (piece_told : Option (List ℕ)) → IsText absent → IsTextIfTold piece_told
    → IsText (unwrap_or piece_told absent)
shown absent None h g = h
shown absent (Some text) h g = g

no_text : IsText (codes "?")
no_text = record { bytes = refl; most = omega arith }

no_date : IsText (codes "????.??.??")
no_date = record { bytes = refl; most = omega arith }

ending : (book : Book) (word : List ℕ) → IsSoundBook book → IsSoundTaken (gives (game_of_book book word))
ending book word h = record {
  given = record {
    legal = h.legal;
    most = h.most;
    event = shown (codes "?") book.row.event no_text h.event;
    site = shown (codes "?") book.row.site no_text h.site;
    date = shown (codes "????.??.??") book.row.date no_date h.date;
    round = shown (codes "?") book.row.round no_text h.round;
    white = shown (codes "?") book.row.white no_text h.white;
    black = shown (codes "?") book.row.black no_text h.black;
  };
  on = empty_book;
}

telling : (book : Book) (word : List ℕ) → IsSoundBook book → IsSoundTaken (piece_told book word)
telling book word h =
    sound_if (list_all is_digit word) (piece_passed book.stage book)
    (cond (is_result word) (gives (game_of_book book word)) (move_taken book word))
    (λ e. passing book.stage book h)
    (λ e.
    sound_if (is_result word) (gives (game_of_book book word)) (move_taken book word) (λ f. ending book word h)
    (λ f. moving book word h))

wording : (stage : GameStage) (book : Book) (word : List ℕ) → IsSoundBook book → IsSoundTaken (worded stage book word)
wording Before book word h = telling book word h
wording Tags book word h = telling book word h
wording Opened book word h = naming book word h
wording (Named name) book word h = failing
wording Told book word h = failing
wording Moves book word h = telling book word h

glyphing : (book : Book) (word : List ℕ) → IsSoundBook book → IsSoundTaken (glyphed book word)
glyphing book [] h = failing
glyphing book (b ∷ word) h =
    sound_if (list_all is_digit (b ∷ word)) (piece_passed book.stage book) fails (λ e. passing book.stage book h)
    (λ e. failing)

signing : (book : Book) (b : ℕ) → IsSoundBook book → IsSoundTaken (signed book b)
signing book b h =
    sound_if (b == 91) (stage_opened book.stage book)
    (cond (b == 93) (closed book.stage book) (piece_passed book.stage book))
    (λ e. opening book.stage book h)
    (λ e.
    sound_if (b == 93) (closed book.stage book) (piece_passed book.stage book) (λ f. closing book.stage book h)
    (λ f. passing book.stage book h))

-- ---- states

abbrev here : PlaceInText → ℕ → Book → Option State
here place depth book = Some (state_at place depth book)

pub record IsSoundStep (t : Step) : Type 0 where
  pub given : IsExportableIf t.given
  pub on : IsSoundIf t.on

on_either : (x : Bool) (p q : Option State) → (x ≡ true → IsSoundIf p) → (x ≡ false → IsSoundIf q)
    → IsSoundIf (cond x p q)
on_either true p q h g = h refl
on_either false p q h g = g refl

-- outside of variations any piece may follow
behind_piece : (place : PlaceInText) (depth : ℕ) (on : Option Book)
    → ((stage : GameStage) → IsSoundPlace place depth stage) → IsSoundBookIf on → IsSoundIf (to_place place depth on)
behind_piece place depth None is h = tt
behind_piece place depth (Some book) is h = record { place = is book.stage; book = h }

-- what is passed over is in the moves
behind_passed : (depth : ℕ) (stage : GameStage) (book : Book) → book.stage ≡ stage → IsSoundBook book
    → IsSoundIf (to_place (Between false) depth (piece_passed stage book).on)
behind_passed depth Before book e h = record { place = inr refl; book = at_stage Moves book h }
behind_passed depth Tags book e h = record { place = inr refl; book = at_stage Moves book h }
behind_passed depth Opened book e h = tt
behind_passed depth (Named name) book e h = tt
behind_passed depth Told book e h = tt
behind_passed depth Moves book e h = record { place = inr e; book = h }

sound_outside : (book : Book) (b : ℕ) → IsSoundBook book → IsSoundIf (outside book b)
unfolding took
sound_outside book b h =
    let signs : Option State = cond (is_sign b) (to_place (Between false) 0 (signed book b).on) None in
    on_either (b == 36) (here (InWord true []) 0 book) (cond (b == 34) (here (InQuotes []) 0 book) signs)
    (λ e. record { place = refl; book = h })
    (λ e. on_either (b == 34) (here (InQuotes []) 0 book) signs
    (λ f. record { place = (refl, record { bytes = refl; most = omega arith }); book = h })
    (λ f. on_either (is_sign b) (to_place (Between false) 0 (signed book b).on) None
    (λ g. behind_piece (Between false) 0 (signed book b).on (λ stage. inl refl) (signing book b h).on) (λ g. tt)))

sound_opens : (depth : ℕ) (book : Book) → IsSoundBook book → IsSoundIf (opens depth book)
unfolding took
sound_opens depth book h =
    on_either (nat_lt depth 100) (to_place (Between false) (depth + 1) (piece_passed book.stage book).on) None
    (λ e. behind_passed (depth + 1) book.stage book refl h) (λ e. tt)

sound_closes : (depth : ℕ) (book : Book) → IsSoundBook book → IsSoundIf (closes depth book)
unfolding took
sound_closes depth book h =
    on_either (nat_eq depth 0) None (to_place (Between false) (depth - 1) (piece_passed book.stage book).on)
    (λ e. tt) (λ e. behind_passed (depth - 1) book.stage book refl h)

sound_nested : (depth : ℕ) (book : Book) (b : ℕ) → IsSoundBook book → IsSoundIf (nested depth book b)
unfolding took
sound_nested depth book b h =
    let within : Option State = to_place (Between false) depth (piece_passed book.stage book).on in
    let behind : Option State = cond (nat_eq depth 0) (outside book b) within in
    on_either (b == 40) (opens depth book) (cond (b == 41) (closes depth book) behind)
    (λ e. sound_opens depth book h)
    (λ e. on_either (b == 41) (closes depth book) behind (λ f. sound_closes depth book h)
    (λ f.
    on_either (nat_eq depth 0) (outside book b) within (λ g. sound_outside book b h)
    (λ g. behind_passed depth book.stage book refl h)))

abbrev InMoves : ℕ → GameStage → Type 0
InMoves depth stage = (depth ≡ 0) ⊎ (stage ≡ Moves)

sound_skipping : (fresh : Bool) (depth : ℕ) (book : Book) (b : ℕ) → InMoves depth book.stage → IsSoundBook book
    → IsSoundIf (skipping fresh depth book b)
sound_skipping fresh depth book b at h =
    let braces : Option State = cond (b == 123) (here InBraces depth book) (nested depth book b) in
    let line : Option State = here InLine depth book in
    on_either (b == 37 && fresh) line (cond (b == 59) line braces) (λ e. record { place = at; book = h })
    (λ e. on_either (b == 59) line braces (λ f. record { place = at; book = h })
    (λ f.
    on_either (b == 123) (here InBraces depth book) (nested depth book b) (λ g. record { place = at; book = h })
    (λ g. sound_nested depth book b h)))

sound_begun : (fresh : Bool) (depth : ℕ) (book : Book) (b : ℕ) → InMoves depth book.stage → IsSoundBook book
    → IsSoundIf (piece_begun fresh depth book b)
sound_begun fresh depth book b at h =
    on_either (is_word_byte b && nat_eq depth 0) (here (InWord false (b ∷ [])) depth book) (spaced fresh depth book b)
    (λ e. record { place = eqb-true depth 0 (and_parts (is_word_byte b) (nat_eq depth 0) e).1; book = h })
    (λ e. on_either (is_space b) (here (Between (b == 10)) depth book) (skipping fresh depth book b)
    (λ f. record { place = at; book = h }) (λ f. sound_skipping fresh depth book b at h))

sound_behind : (depth : ℕ) (on : Option Book) (b : ℕ) → depth ≡ 0 → IsSoundBookIf on
    → IsSoundIf (begun_behind depth on b)
sound_behind depth None b at h = tt
sound_behind depth (Some book) b at h = sound_begun false depth book b (inl at) h

-- a byte more of a text
text_more : (text : List ℕ) (b : ℕ) → IsText text → is_of_text b ≡ true → length text < 255 → IsText (text ++ b ∷ [])
text_more text b h e room =
    let long : length (text ++ b ∷ []) ≡ length text + 1 = length-append text (b ∷ []) in
    record {
      bytes =
          list_all-append is_of_text text (b ∷ []) ∙ ap (λ (t : Bool). t && list_all is_of_text (b ∷ [])) h.bytes
          ∙ ap (λ (t : Bool). t && true) e;
      most = omega arith;
    }

sound_longer : (text : List ℕ) (b depth : ℕ) (book : Book) → depth ≡ 0 → IsText text → is_of_text b ≡ true
    → IsSoundBook book →
    IsSoundIf (longer (InQuotes (text ++ b ∷ [])) text depth book)
sound_longer text b depth book at is e h =
    on_either (nat_lt (length text) 255) (here (InQuotes (text ++ b ∷ [])) depth book) None
    (λ room. record { place = (at, text_more text b is e (below (length text) 255 room)); book = h }) (λ room. tt)

sound_in_quotes : (text : List ℕ) (depth : ℕ) (book : Book) (b : ℕ) → depth ≡ 0 → IsText text → IsSoundBook book
    → IsSoundIf (in_quotes text depth book b)
unfolding took
sound_in_quotes text depth book b at is h =
    let on : Option Book = (quoted book.stage book text).on in
    let more : Option State = longer (InQuotes (text ++ b ∷ [])) text depth book in
    let rest : Option State = cond (is_of_text b) more None in
    on_either (b == 34) (to_place (Between false) depth on) (cond (b == 92) (here (InStroke text) depth book) rest)
    (λ e. behind_piece (Between false) depth on (λ stage. inl at) (quoting book.stage book text is h).on)
    (λ e. on_either (b == 92) (here (InStroke text) depth book) rest (λ f. record { place = (at, is); book = h })
    (λ f. on_either (is_of_text b) more None (λ g. sound_longer text b depth book at is g h) (λ g. tt)))

sound_in_stroke : (text : List ℕ) (depth : ℕ) (book : Book) (b : ℕ) → depth ≡ 0 → IsText text → IsSoundBook book
    → IsSoundIf (in_stroke text depth book b)
sound_in_stroke text depth book b at is h =
    on_either (is_among (34 ∷ 92 ∷ []) b) (longer (InQuotes (text ++ b ∷ [])) text depth book) None
    (λ e.
    sound_longer text b depth book at is
    (each_among (λ (x : ℕ). is_of_text x ≡ true) (34 ∷ 92 ∷ []) b (refl, (refl, tt)) e) h)
    (λ e. tt)

-- ---- steps

quietly : (on : Option State) → IsSoundIf on → IsSoundStep (silent on)
quietly on h = record { given = tt; on = h }

step_if : (x : Bool) (a c : Step) → IsSoundStep a → IsSoundStep c → IsSoundStep (cond x a c)
step_if true a c h g = h
step_if false a c h g = g

ended : (taken : Taken) (depth b : ℕ) → depth ≡ 0 → IsSoundTaken taken → IsSoundStep (word_ended taken depth b)
ended taken depth b at h = record { given = h.given; on = sound_behind depth taken.on b at h.on }

took_word : (glyph : Bool) (book : Book) (word : List ℕ) → IsSoundBook book
    → IsSoundTaken (took book (piece_of glyph word))
unfolding took
took_word true book word h = glyphing book word h
took_word false book word h = wording book.stage book word h

sound_step_in : (place : PlaceInText) (depth : ℕ) (book : Book) (b : ℕ) → IsSoundPlace place depth book.stage
    → IsSoundBook book → IsSoundStep (step_in place depth book b)
sound_step_in Start depth book b at h =
    quietly (text_started depth book b)
    (on_either (b == 239) (here AfterOne depth book) (piece_begun true depth book b)
    (λ e. record { place = at; book = h })
    (λ e. sound_begun true depth book b at h))
sound_step_in AfterOne depth book b at h =
    quietly (cond (b == 187) (here AfterTwo depth book) None)
    (on_either (b == 187) (here AfterTwo depth book) None (λ e. record { place = at; book = h }) (λ e. tt))
sound_step_in AfterTwo depth book b at h =
    quietly (cond (b == 191) (here (Between true) depth book) None)
    (on_either (b == 191) (here (Between true) depth book) None (λ e. record { place = at; book = h }) (λ e. tt))
sound_step_in (Between fresh) depth book b at h =
    quietly (piece_begun fresh depth book b) (sound_begun fresh depth book b at h)
sound_step_in InLine depth book b at h =
    quietly (in_line depth book b)
    (on_either (is_of_line b) (here InLine depth book) (here (Between true) depth book)
    (λ e. record { place = at; book = h }) (λ e. record { place = at; book = h }))
sound_step_in InBraces depth book b at h =
    quietly (in_braces depth book b)
    (on_either (is_of_braces b) (here InBraces depth book) (here (Between false) depth book)
    (λ e. record { place = at; book = h }) (λ e. record { place = at; book = h }))
sound_step_in (InWord glyph word) depth book b at h =
    let more : Option State = longer (InWord glyph (word ++ b ∷ [])) word depth book in
    step_if (is_word_byte b) (silent more) (word_ended (took book (piece_of glyph word)) depth b)
    (quietly more
    (on_either (nat_lt (length word) 255) (here (InWord glyph (word ++ b ∷ [])) depth book) None
    (λ e. record { place = at; book = h }) (λ e. tt)))
    (ended (took book (piece_of glyph word)) depth b at (took_word glyph book word h))
sound_step_in (InQuotes text) depth book b at h =
    quietly (in_quotes text depth book b) (sound_in_quotes text depth book b at.0 at.1 h)
sound_step_in (InStroke text) depth book b at h =
    quietly (in_stroke text depth book b) (sound_in_stroke text depth book b at.0 at.1 h)

pub step_sound : (s : State) (b : ℕ) → IsSoundState s → IsSoundStep (step s b)
unfolding step
step_sound s b h = sound_step_in s.place s.depth s.book b h.place h.book

pub first_sound : IsSoundState first_state
first_sound = record { place = inl refl; book = empty_book }

-- ---- the end of a text, and clauses of the calls

abbrev at_end : State → Step
at_end s = ended_in s.place s.depth s.book

pub end_sound : (s : State) → IsSoundState s → IsSoundStep (at_end s)
end_sound s h = by s.place s.depth s.book h.place h.book
  where
    by : (place : PlaceInText) (depth : ℕ) (book : Book) → IsSoundPlace place depth book.stage → IsSoundBook book
        → IsSoundStep (ended_in place depth book)
    by Start depth book at h = quietly (here (Between false) depth book) (record { place = at; book = h })
    by AfterOne depth book at h = quietly None tt
    by AfterTwo depth book at h = quietly None tt
    by (Between fresh) depth book at h = quietly (here (Between false) depth book) (record { place = at; book = h })
    by InLine depth book at h = quietly (here (Between false) depth book) (record { place = at; book = h })
    by InBraces depth book at h = quietly None tt
    by (InWord glyph word) depth book at h =
        let taken : IsSoundTaken (took book (piece_of glyph word)) = took_word glyph book word h in
        record {
          given = taken.given;
          on = behind_piece (Between false) depth (took book (piece_of glyph word)).on (λ stage. inl at) taken.on;
        }
    by (InQuotes text) depth book at h = quietly None tt
    by (InStroke text) depth book at h = quietly None tt

as_some : (given : Option PgnGame) → IsExportableIf given → IfSome given IsExportable
as_some None h = tt
as_some (Some g) h = h

-- what a byte, or the end, made of a sound state
pub record IsSoundRead (read : Read) (s : State) : Type 0 where
  pub given : IfSome read.game IsExportable
  pub on : IsSoundIf (on_if read.goes_on s)

read_sound : (read : Read) (new : State) (t : Step) → IsStepOfByte read new t → IsSoundStep t → IsSoundRead read new
read_sound read new t is h = record {
  given = as_some read.game (subst (λ (x : Step). IsExportableIf x.given) is h.given);
  on = subst (λ (x : Step). IsSoundIf x.on) is h.on;
}

sound_on : (goes : Bool) (s : State) → goes ≡ true → IsSoundIf (on_if goes s) → IsSoundState s
sound_on true s e h = h
sound_on false s e h = cc

pub byte_sound : (old new : State) (goes : Bool) (byte : ℕ) (read : Read) → goes ≡ true → IsSoundIf (on_if goes old)
    → IsStepOfByte read new (step old byte) → IsSoundRead read new
byte_sound old new goes byte read e h is =
    read_sound read new (step old byte) is (step_sound old byte (sound_on goes old e h))

pub last_sound : (old new rested : State) (goes : Bool) (read : Read) → goes ≡ true → IsSoundIf (on_if goes old)
    → IsStepOfByte read (between new) (at_end old) →
    rested ≡ between new → IsSoundRead read rested
last_sound old new rested goes read e h is same =
    read_sound read rested (at_end old) (subst (λ (s : State). IsStepOfByte read s (at_end old)) (sym same) is)
    (end_sound old (sound_on goes old e h))

pub some_given : (given : Option PgnGame) (g : PgnGame) → given ≡ Some g → IfSome given IsExportable → IsExportable g
some_given given g e h = subst (λ (x : Option PgnGame). IfSome x IsExportable) e h

-- ---- whole texts

abbrev pub EachExportable : List PgnGame → Type 0
EachExportable games = AllByRecursion IsExportable games

more_given : (given : Option PgnGame) (o : Outcome) → IsExportableIf given → EachExportable o.games
    → EachExportable (with_game_first given o).games
more_given None o h all = all
more_given (Some g) o h all = (h, all)

finished_exportable : (place : PlaceInText) (depth : ℕ) (book : Book) → IsSoundBook book
    → EachExportable (finished_in place depth book).games
finished_exportable Start depth book h = tt
finished_exportable AfterOne depth book h = tt
finished_exportable AfterTwo depth book h = tt
finished_exportable (Between fresh) depth book h = tt
finished_exportable InLine depth book h = tt
finished_exportable InBraces depth book h = tt
finished_exportable (InWord glyph word) depth book h =
    let taken : Taken = took book (piece_of glyph word) in
    more_given taken.given (resting depth taken.on) (took_word glyph book word h).given tt
finished_exportable (InQuotes text) depth book h = tt
finished_exportable (InStroke text) depth book h = tt

pub read_exportable : (text : List ℕ) (on : Option State) → IsSoundIf on → EachExportable (read_from on text).games
read_exportable text None h = tt
read_exportable [] (Some s) h = finished_exportable s.place s.depth s.book h.book
read_exportable (b ∷ text) (Some s) h =
    let t : IsSoundStep (step s b) = step_sound s b h in
    more_given (step s b).given (read_from (step s b).on text) t.given (read_exportable text (step s b).on t.on)

-- a state behind some bytes is sound
pub gone_sound : (text : List ℕ) (on : Option State) → IsSoundIf on → IsSoundIf (gone on text).on
gone_sound text None h = tt
gone_sound [] (Some s) h = h
gone_sound (b ∷ text) (Some s) h =
    behind_given (step s b).given (gone (step s b).on text) (gone_sound text (step s b).on (step_sound s b h).on)
  where
    behind_given : (given : Option PgnGame) (g : Gone) → IsSoundIf g.on → IsSoundIf (with_given given g).on
    behind_given None g h = h
    behind_given (Some game) g h = h

pub reads_exportable : ReadsExportable
reads_exportable text games h =
    subst EachExportable (ap (λ (o : Outcome). o.games) (reads_told text games h))
    (read_exportable text (Some first_state) first_sound)
