-- The games that are told of a text are those that are whole in it.
use Rattle.std.proofs.Common.{◌≡◌, ◌⊎◌, inl, inr, ℕ, Bool, true, false, ◌&&◌, not, cond, nat_lt, List, [], ◌∷◌, ◌++◌, length, Option, Some, None, refl, sym, ap, subst, ◌∙◌, append_assoc, append-nil}
use Rattle.std.specs.Prelude.{bytes_eq, codes}
use Rattle.std.specs.List.{list_all}
use Rattle.chess_model.specs.declared.moves.Move.{Move}
use Rattle.pgn_book.specs.declared.game.PgnGame.{PgnGame}
use Rattle.pgn_book.specs.declared.place.PlaceInText.{PlaceInText}
use Rattle.pgn_book.specs.declared.place.PlaceInText.TheVariants.{Start, AfterOne, AfterTwo, Between, InLine, InBraces, InWord, InQuotes, InStroke}
use Rattle.pgn_book.specs.declared.stage.GameStage.{GameStage}
use Rattle.pgn_book.specs.declared.stage.GameStage.TheVariants.{Before, Tags, Opened, Named, Told, Moves}
use Rattle.pgn_book.specs.Bytes.{is_space, spaces, is_digit, is_name_byte, is_word_byte}
use Rattle.pgn_book.specs.Games.{ReadsGames, is_result, position_of_moves, without_praise}
use Rattle.pgn_book.specs.Reading.{Book, no_book, game_of_book, Taken, goes, fails, gives, staged, piece_passed, move_read, with_move, move_taken, piece_told, worded, glyphed, took, Outcome, with_game_first, State, state_at, piece_of, longer, silent, word_ended, step, step_in, resting, finished_in, read_from, first_state, Gone, with_given, gone, gone_both, adding_all}
use Rattle.pgn_book.specs.Sound.{IsSoundState, IsSoundPlace, IsSoundIf}
use Rattle.pgn_book.specs.Runs.{outcome_of, begun_with, WholeGamesAreTold}
use Rattle.pgn_book.proofs.Cuts.{reads_in_pieces}
use Rattle.pgn_book.proofs.GamesFound.{reader_reads}
use Rattle.pgn_book.proofs.PiecesRead.{each_among}
use Rattle.pgn_book.proofs.SoundStates.{step_sound, first_sound, gone_sound}
use Rattle.pgn_book.proofs.PiecesFound.{adding_whole}

abbrev pub listed : Option PgnGame → List PgnGame
listed None = []
listed (Some g) = g ∷ []

adding_listed : (given : Option PgnGame) (o : Outcome) → (with_game_first given o).games ≡ listed given ++ o.games
adding_listed None o = refl
adding_listed (Some g) o = refl

given_listed : (given : Option PgnGame) (g : Gone) → (with_given given g).games ≡ listed given ++ g.games
given_listed None g = refl
given_listed (Some x) g = refl

-- ---- a word that gives a game leaves nothing of one

abbrev LeavesNone : Taken → Type 0
LeavesNone taken = (taken.given ≡ None) ⊎ (taken.on ≡ Some no_book)

leaves_if : (x : Bool) (a c : Taken) → LeavesNone a → LeavesNone c → LeavesNone (cond x a c)
leaves_if true a c h g = h
leaves_if false a c h g = g

passed_leaves : (stage : GameStage) (book : Book) → LeavesNone (piece_passed stage book)
passed_leaves Before book = inl refl
passed_leaves Tags book = inl refl
passed_leaves Opened book = inl refl
passed_leaves (Named name) book = inl refl
passed_leaves Told book = inl refl
passed_leaves Moves book = inl refl

move_leaves : (book : Book) (m : Option Move) → LeavesNone (with_move book m)
move_leaves book None = inl refl
move_leaves book (Some m) = inl refl

told_leaves : (book : Book) (word : List ℕ) → LeavesNone (piece_told book word)
told_leaves book word =
    leaves_if (list_all is_digit word) (piece_passed book.stage book)
    (cond (is_result word) (gives (game_of_book book word)) (move_taken book word)) (passed_leaves book.stage book)
    (leaves_if (is_result word) (gives (game_of_book book word)) (move_taken book word) (inr refl)
    (leaves_if (nat_lt (length book.moves) 1200)
    (with_move book (move_read (position_of_moves book.moves) (without_praise word))) fails
    (move_leaves book (move_read (position_of_moves book.moves) (without_praise word))) (inl refl)))

worded_leaves : (stage : GameStage) (book : Book) (word : List ℕ) → LeavesNone (worded stage book word)
worded_leaves Before book word = told_leaves book word
worded_leaves Tags book word = told_leaves book word
worded_leaves Opened book word =
    leaves_if (list_all is_name_byte word
    && not (bytes_eq word (codes "FEN"))) (goes (staged (Named word) book)) fails (inl refl) (inl refl)
worded_leaves (Named name) book word = inl refl
worded_leaves Told book word = inl refl
worded_leaves Moves book word = told_leaves book word

glyph_leaves : (book : Book) (word : List ℕ) → LeavesNone (glyphed book word)
glyph_leaves book [] = inl refl
glyph_leaves book (b ∷ word) =
    leaves_if (list_all is_digit (b ∷ word)) (piece_passed book.stage book) fails (passed_leaves book.stage book)
    (inl refl)

word_leaves : (glyph : Bool) (book : Book) (word : List ℕ) → LeavesNone (took book (piece_of glyph word))
unfolding took
word_leaves true book word = glyph_leaves book word
word_leaves false book word = worded_leaves book.stage book word

-- ---- a game that a byte gives was whole before the byte

-- a text that ends in that state is whole, and that is its last game
record EndsWhole (s : State) (g : PgnGame) : Type 0 where
  games : (finished_in s.place s.depth s.book).games ≡ g ∷ []
  whole : (finished_in s.place s.depth s.book).whole ≡ true

no_game : {A : Type 0} (g : PgnGame) → None ≡ Some g → A
no_game g e = absurd (let f : None ≡ Some g = e in cc)

word_whole : (glyph : Bool) (word : List ℕ) (depth : ℕ) (book : Book) (taken : Taken) (g : PgnGame)
    → taken ≡ took book (piece_of glyph word) → depth ≡ 0 → LeavesNone taken →
    taken.given ≡ Some g → EndsWhole (state_at (InWord glyph word) depth book) g
word_whole glyph word depth book taken g same deep (inl none) e = no_game g (sym none ∙ e)
word_whole glyph word depth book taken g same deep (inr empty) e =
    let ended : finished_in (InWord glyph word) depth book ≡ record { games = g ∷ []; whole = true } =
    ap (λ (t : Taken). with_game_first t.given (resting depth t.on)) (sym same)
    ∙ ap (λ (o : Option PgnGame). with_game_first o (resting depth taken.on)) e
    ∙ ap (λ (on : Option Book). with_game_first (Some g) (resting depth on)) empty
    ∙ ap (λ (d : ℕ). with_game_first (Some g) (resting d (Some no_book))) deep in
    record { games = ap (λ (o : Outcome). o.games) ended; whole = ap (λ (o : Outcome). o.whole) ended }

-- by whether the byte goes on with the word
word_given : (x : Bool) (on : Option State) (taken : Taken) (depth b : ℕ) (g : PgnGame)
    → (cond x (silent on) (word_ended taken depth b)).given ≡ Some g → taken.given ≡ Some g
word_given true on taken depth b g e = no_game g e
word_given false on taken depth b g e = e

given_whole : (s : State) (b : ℕ) (g : PgnGame) → IsSoundState s → (step s b).given ≡ Some g → EndsWhole s g
unfolding step
given_whole s b g h e = by s.place s.depth s.book h.place e
  where
    by : (place : PlaceInText) (depth : ℕ) (book : Book) → IsSoundPlace place depth book.stage
        → (step (state_at place depth book) b).given ≡ Some g → EndsWhole (state_at place depth book) g
    by Start depth book at f = no_game g f
    by AfterOne depth book at f = no_game g f
    by AfterTwo depth book at f = no_game g f
    by (Between fresh) depth book at f = no_game g f
    by InLine depth book at f = no_game g f
    by InBraces depth book at f = no_game g f
    by (InWord glyph word) depth book at f =
        let taken : Taken = took book (piece_of glyph word) in
        word_whole glyph word depth book taken g refl at (word_leaves glyph book word)
        (word_given (is_word_byte b) (longer (InWord glyph (word ++ b ∷ [])) word depth book) taken depth b g f)
    by (InQuotes text) depth book at f = no_game g f
    by (InStroke text) depth book at f = no_game g f

-- ---- the beginning that is read

record HasRead (text : List ℕ) (games : List PgnGame) : Type 0 where
  front : List ℕ
  rest : List ℕ
  split : text ≡ front ++ rest
  read : ReadsGames front games

longer_text : (text more : List ℕ) (games : List PgnGame) → HasRead text games → HasRead (text ++ more) games
longer_text text more games h = record {
  front = h.front;
  rest = h.rest ++ more;
  split = ap (λ (l : List ℕ). l ++ more) h.split ∙ append_assoc h.front h.rest more;
  read = h.read;
}

-- a text that ends whole in the state is read
read_here : (done : List ℕ) (s : State) (games ended : List PgnGame) → (begun_with done).on ≡ Some s
    → (begun_with done).games ≡ games →
    (finished_in s.place s.depth s.book).games ≡ ended → (finished_in s.place s.depth s.book).whole ≡ true
    → ReadsGames done (games ++ ended)
read_here done s games ended on are is whole =
    let parts : outcome_of done ≡ adding_all (begun_with done).games (finished_in s.place s.depth s.book) =
    ap outcome_of (sym (append-nil done)) ∙ reads_in_pieces.read (Some first_state) done []
    ∙ ap (λ (o : Option State). adding_all (begun_with done).games (read_from o [])) on in
    let all : outcome_of done ≡ record { games = games ++ ended; whole = true } =
    parts ∙ ap (λ (l : List PgnGame). adding_all l (finished_in s.place s.depth s.book)) are
    ∙ ap (λ (l : List PgnGame). record { games = games ++ l; whole = (finished_in s.place s.depth s.book).whole }) is
    ∙ ap (λ (x : Bool). record { games = games ++ ended; whole = x }) whole in
    reader_reads.sound done (games ++ ended) all

-- what holds behind each beginning
abbrev ReadsOn : List ℕ → Type 0
ReadsOn rest =
    (done : List ℕ) (games : List PgnGame) (s : State) → IsSoundState s → (begun_with done).on ≡ Some s
    → (begun_with done).games ≡ games → HasRead done games →
    HasRead (done ++ rest) (games ++ (gone (Some s) rest).games)

one_byte : (done : List ℕ) (b : ℕ) (s : State) (on : Option State) (games : List PgnGame) (given : Option PgnGame)
    → (begun_with done).on ≡ Some s → (begun_with done).games ≡ games →
    (step s b).on ≡ on → (step s b).given ≡ given
    → begun_with (done ++ b ∷ []) ≡ record { games = games ++ listed given; on = on }
one_byte done b s on games given was are e f =
    let last : Gone = gone (Some s) (b ∷ []) in
    let behind : last ≡ record { games = listed given; on = on } =
    ap (λ (o : Option State). with_given (step s b).given (gone o [])) e
    ∙ ap (λ (o : Option PgnGame). with_given o (gone on [])) f ∙ ended given on in
    reads_in_pieces.goes_on (Some first_state) done (b ∷ [])
    ∙ ap (λ (o : Option State). gone_both (begun_with done) (gone o (b ∷ []))) was
    ∙ ap (gone_both (begun_with done)) behind
    ∙ ap (λ (l : List PgnGame). record { games = l ++ listed given; on = on }) are
  where
    ended : (given : Option PgnGame) (on : Option State)
        → with_given given (gone on []) ≡ record { games = listed given; on = on }
    ended None None = refl
    ended None (Some s) = refl
    ended (Some g) None = refl
    ended (Some g) (Some s) = refl

-- a game more was whole before the byte
read_more : (done : List ℕ) (b : ℕ) (s : State) (games : List PgnGame) (given : Option PgnGame) → IsSoundState s
    → (begun_with done).on ≡ Some s → (begun_with done).games ≡ games →
    (step s b).given ≡ given → HasRead done games → HasRead (done ++ b ∷ []) (games ++ listed given)
read_more done b s games None sound on are e h =
    subst (HasRead (done ++ b ∷ [])) (sym (append-nil games)) (longer_text done (b ∷ []) games h)
read_more done b s games (Some g) sound on are e h =
    let whole : EndsWhole s g = given_whole s b g sound e in
    record {
      front = done;
      rest = b ∷ [];
      split = refl;
      read = read_here done s games (g ∷ []) on are whole.games whole.whole;
    }

reads_by : (b : ℕ) (rest : List ℕ) → ReadsOn rest
    → (done : List ℕ) (games : List PgnGame) (s : State) (on : Option State) → IsSoundState s
    → (begun_with done).on ≡ Some s →
    (begun_with done).games ≡ games → (step s b).on ≡ on → IsSoundIf on → HasRead done games →
    HasRead (done ++ b ∷ rest) (games ++ (listed (step s b).given ++ (gone on rest).games))
reads_by b rest again done games s None sound was are e is h =
    let given : Option PgnGame = (step s b).given in
    let here : HasRead (done ++ b ∷ []) (games ++ listed given) = read_more done b s games given sound was are refl h in
    subst (λ (l : List PgnGame). HasRead (done ++ b ∷ rest) l)
    (ap (λ (l : List PgnGame). games ++ l) (sym (append-nil (listed given))))
    (subst (λ (t : List ℕ). HasRead t (games ++ listed given)) (append_assoc done (b ∷ []) rest)
    (longer_text (done ++ b ∷ []) rest (games ++ listed given) here))
reads_by b rest again done games s (Some t) sound was are e is h =
    let given : Option PgnGame = (step s b).given in
    let here : HasRead (done ++ b ∷ []) (games ++ listed given) = read_more done b s games given sound was are refl h in
    let begun : begun_with (done ++ b ∷ []) ≡ record { games = games ++ listed given; on = Some t } =
    one_byte done b s (Some t) games given was are e refl in
    subst (λ (l : List PgnGame). HasRead (done ++ b ∷ rest) l)
    (append_assoc games (listed given) (gone (Some t) rest).games)
    (subst (λ (x : List ℕ). HasRead x ((games ++ listed given) ++ (gone (Some t) rest).games))
    (append_assoc done (b ∷ []) rest)
    (again (done ++ b ∷ []) (games ++ listed given) t is (ap (λ (x : Gone). x.on) begun)
    (ap (λ (x : Gone). x.games) begun) here))

reads_on : (rest : List ℕ) → ReadsOn rest
reads_on [] done games s sound on are h =
    subst (λ (t : List ℕ). HasRead t (games ++ [])) (sym (append-nil done))
    (subst (HasRead done) (sym (append-nil games)) h)
reads_on (b ∷ rest) done games s sound on are h =
    subst (λ (l : List PgnGame). HasRead (done ++ b ∷ rest) (games ++ l))
    (sym (given_listed (step s b).given (gone (step s b).on rest)))
    (reads_by b rest (reads_on rest) done games s (step s b).on sound on are refl (step_sound s b sound).on h)

nothing_whole : read_from (Some first_state) [] ≡ record { games = []; whole = true }
nothing_whole = refl

begun_read : (text : List ℕ) → HasRead text (begun_with text).games
begun_read text =
    reads_on text [] [] first_state first_sound refl refl (record {
      front = [];
      rest = [];
      split = refl;
      read = reader_reads.sound [] [] nothing_whole;
    })

-- at the end either no game is given, or the text is whole
abbrev Ends : Outcome → Type 0
Ends o = (o.games ≡ []) ⊎ (o.whole ≡ true)

word_ends : (depth : ℕ) (taken : Taken) → depth ≡ 0 → LeavesNone taken
    → Ends (with_game_first taken.given (resting depth taken.on))
word_ends depth taken deep (inl none) =
    inl (ap (λ (o : Option PgnGame). (with_game_first o (resting depth taken.on)).games) none)
word_ends depth taken deep (inr empty) =
    inr (adding_whole taken.given (resting depth taken.on) ∙ ap (λ (on : Option Book). (resting depth on).whole) empty
    ∙ ap (λ (d : ℕ). (resting d (Some no_book)).whole) deep)

place_ends : (place : PlaceInText) (depth : ℕ) (book : Book) → IsSoundPlace place depth book.stage
    → Ends (finished_in place depth book)
place_ends Start depth book at = inl refl
place_ends AfterOne depth book at = inl refl
place_ends AfterTwo depth book at = inl refl
place_ends (Between fresh) depth book at = inl refl
place_ends InLine depth book at = inl refl
place_ends InBraces depth book at = inl refl
place_ends (InWord glyph word) depth book at =
    word_ends depth (took book (piece_of glyph word)) at (word_leaves glyph book word)
place_ends (InQuotes text) depth book at = inl refl
place_ends (InStroke text) depth book at = inl refl

ended_so : (text : List ℕ) (s : State) → (begun_with text).on ≡ Some s → HasRead text (begun_with text).games
    → Ends (finished_in s.place s.depth s.book) →
    HasRead text ((begun_with text).games ++ (finished_in s.place s.depth s.book).games)
ended_so text s e h (inl none) =
    subst (λ (l : List PgnGame). HasRead text ((begun_with text).games ++ l)) (sym none)
    (subst (HasRead text) (sym (append-nil (begun_with text).games)) h)
ended_so text s e h (inr whole) = record {
  front = text;
  rest = [];
  split = sym (append-nil text);
  read = read_here text s (begun_with text).games (finished_in s.place s.depth s.book).games e refl refl whole;
}

ended_by : (text : List ℕ) (on : Option State) → (begun_with text).on ≡ on → IsSoundIf on
    → HasRead text (begun_with text).games →
    HasRead text ((begun_with text).games ++ (read_from on []).games)
ended_by text None e is h = subst (HasRead text) (sym (append-nil (begun_with text).games)) h
ended_by text (Some s) e is h = ended_so text s e h (place_ends s.place s.depth s.book is.place)

ended_read : (text : List ℕ) → HasRead text (outcome_of text).games
ended_read text =
    let parts : (outcome_of text).games ≡ (begun_with text).games ++ (read_from (begun_with text).on []).games =
    ap (λ (t : List ℕ). (outcome_of t).games) (sym (append-nil text))
    ∙ ap (λ (o : Outcome). o.games) (reads_in_pieces.read (Some first_state) text []) in
    subst (HasRead text) (sym parts)
    (ended_by text (begun_with text).on refl (gone_sound text (Some first_state) first_sound) (begun_read text))

-- ---- no other games

space_no_word : (b : ℕ) → is_space b ≡ true → is_word_byte b ≡ false
unfolding is_word_byte
space_no_word b e =
    each_among (λ (x : ℕ). is_word_byte x ≡ false) spaces b (refl, (refl, (refl, (refl, (refl, (refl, tt)))))) e

-- white space ends a game as the end does
space_ends : (s : State) (b : ℕ) → is_space b ≡ true
    → listed (step s b).given ≡ (finished_in s.place s.depth s.book).games
unfolding step
space_ends s b e = by s.place s.depth s.book
  where
    by : (place : PlaceInText) (depth : ℕ) (book : Book)
        → listed (step_in place depth book b).given ≡ (finished_in place depth book).games
    by Start depth book = refl
    by AfterOne depth book = refl
    by AfterTwo depth book = refl
    by (Between fresh) depth book = refl
    by InLine depth book = refl
    by InBraces depth book = refl
    by (InWord glyph word) depth book =
        let taken : Taken = took book (piece_of glyph word) in
        let more : Option State = longer (InWord glyph (word ++ b ∷ [])) word depth book in
        ap (λ (x : Bool). listed (cond x (silent more) (word_ended taken depth b)).given) (space_no_word b e)
        ∙ sym (append-nil (listed taken.given)) ∙ sym (adding_listed taken.given (resting depth taken.on))
    by (InQuotes text) depth book = refl
    by (InStroke text) depth book = refl

-- the games of a text that is read are given once white space has come behind it
given_behind : (other : List ℕ) (b : ℕ) (fewer : List PgnGame) (on : Option State) → is_space b ≡ true
    → outcome_of other ≡ record { games = fewer; whole = true } →
    (begun_with other).on ≡ on → (begun_with (other ++ b ∷ [])).games ≡ fewer
given_behind other b fewer None e read was =
    let lost : outcome_of other ≡ adding_all (begun_with other).games (read_from None []) =
    ap outcome_of (sym (append-nil other)) ∙ reads_in_pieces.read (Some first_state) other []
    ∙ ap (λ (o : Option State). adding_all (begun_with other).games (read_from o [])) was in
    let whole : false ≡ true = ap (λ (o : Outcome). o.whole) (sym lost ∙ read) in
    absurd (cc)
given_behind other b fewer (Some s) e read was =
    let last : Outcome = finished_in s.place s.depth s.book in
    let all : outcome_of other ≡ adding_all (begun_with other).games last =
    ap outcome_of (sym (append-nil other)) ∙ reads_in_pieces.read (Some first_state) other []
    ∙ ap (λ (o : Option State). adding_all (begun_with other).games (read_from o [])) was in
    let games : (begun_with other).games ++ last.games ≡ fewer = ap (λ (o : Outcome). o.games) (sym all ∙ read) in
    let more : begun_with (other ++ b ∷ [])
    ≡ record { games = (begun_with other).games ++ listed (step s b).given; on = (step s b).on } =
    one_byte other b s (step s b).on (begun_with other).games (step s b).given was refl refl refl in
    ap (λ (x : Gone). x.games) more ∙ ap (λ (l : List PgnGame). (begun_with other).games ++ l) (space_ends s b e)
    ∙ games

behind_text : (text other : List ℕ) (b : ℕ) (behind : List ℕ) → text ≡ other ++ b ∷ behind
    → text ≡ (other ++ b ∷ []) ++ behind
behind_text text other b behind e = e ∙ sym (append_assoc other (b ∷ []) behind)

begun_all : (text other : List ℕ) (b : ℕ) (behind : List ℕ) (fewer : List PgnGame) → text ≡ other ++ b ∷ behind
    → is_space b ≡ true → ReadsGames other fewer →
    (more : List PgnGame) × ((begun_with text).games ≡ fewer ++ more)
begun_all text other b behind fewer e space read =
    let front : List ℕ = other ++ b ∷ [] in
    let given : (begun_with front).games ≡ fewer =
    given_behind other b fewer (begun_with other).on space (reader_reads.complete other fewer read) refl in
    let more : List PgnGame = (gone (begun_with front).on behind).games in (
      more,
      ap (λ (t : List ℕ). (begun_with t).games) (behind_text text other b behind e)
          ∙ ap (λ (x : Gone). x.games) (reads_in_pieces.goes_on (Some first_state) front behind)
          ∙ ap (λ (l : List PgnGame). l ++ more) given,
    )

ended_all : (text other : List ℕ) (b : ℕ) (behind : List ℕ) (fewer : List PgnGame) → text ≡ other ++ b ∷ behind
    → is_space b ≡ true → ReadsGames other fewer →
    (more : List PgnGame) × ((outcome_of text).games ≡ fewer ++ more)
ended_all text other b behind fewer e space read =
    let front : List ℕ = other ++ b ∷ [] in
    let given : (begun_with front).games ≡ fewer =
    given_behind other b fewer (begun_with other).on space (reader_reads.complete other fewer read) refl in
    let more : List PgnGame = (read_from (begun_with front).on behind).games in (
      more,
      ap (λ (t : List ℕ). (outcome_of t).games) (behind_text text other b behind e)
          ∙ ap (λ (o : Outcome). o.games) (reads_in_pieces.read (Some first_state) front behind)
          ∙ ap (λ (l : List PgnGame). l ++ more) given,
    )

pub whole_told : WholeGamesAreTold
whole_told = record {
  ended = λ text.
      let h = ended_read text in
      record { front = h.front; rest = h.rest; split = h.split; read = h.read; all = ended_all text };
  begun = λ text.
      let h = begun_read text in
      record { front = h.front; rest = h.rest; split = h.split; read = h.read; all = begun_all text };
  read = λ text games h. ap (λ (o : Outcome). o.games) (reader_reads.complete text games h);
}
