-- The line on which the reader leaves a text is the last one that its beginnings reach.
use Rattle.std.proofs.Common.{arith, ◌≡◌, ◌⊎◌, inl, inr, ℕ, zero, suc, ◌+◌, ◌-◌, ◌<◌, ◌≤◌, min, Bool, true, false, ◌&&◌, cond, nat_eq, nat_lt, List, [], ◌∷◌, ◌++◌, length, filter, Option, Some, None, refl, sym, ap, subst, ◌∙◌, append_assoc, append-nil}
use Rattle.std.specs.Prelude.{◌==◌, is_some}
use Rattle.std.proofs.lemmas.Bool.{eqb-true, ltb-false, false_from_ne_true}
use Rattle.move_reader.proofs.ByteMeanings.{below}
use Rattle.chess_model.specs.declared.moves.Move.{Move}
use Rattle.pgn_book.specs.declared.game.PgnGame.{PgnGame}
use Rattle.pgn_book.specs.declared.place.PlaceInText.{PlaceInText}
use Rattle.pgn_book.specs.declared.place.PlaceInText.TheVariants.{Start, AfterOne, AfterTwo, Between, InLine, InBraces, InWord, InQuotes, InStroke}
use Rattle.pgn_book.specs.declared.tag_texts.TagTexts.{TagTexts}
use Rattle.pgn_book.specs.declared.stage.GameStage.{GameStage}
use Rattle.pgn_book.specs.declared.stage.GameStage.TheVariants.{Before, Tags, Opened, Named, Told, Moves}
use Rattle.pgn_book.specs.Bytes.{is_word_byte}
use Rattle.pgn_book.specs.Games.{ReadsGames}
use Rattle.pgn_book.specs.Reading.{Book, took, Outcome, State, state_at, begun_behind, piece_of, step, read_from, first_state, Gone, with_given, gone, adding_all}
use Rattle.pgn_book.specs.Reader.{line_behind, line_if, line_from}
use Rattle.pgn_book.specs.BadLines.{IsBeginning, is_feed, line_of_end, IsLeftOn, OneLine}
use Rattle.pgn_book.specs.Sound.{IsSoundState, IsSoundPlace, IsSoundIf}
use Rattle.pgn_book.proofs.Cuts.{reads_in_pieces}
use Rattle.pgn_book.proofs.GamesFound.{reader_reads}
use Rattle.pgn_book.proofs.SoundStates.{step_sound, first_sound}
use Rattle.pgn_book.proofs.GamesTold.{book_at}
use Rattle.pgn_book.proofs.PiecesFound.{adding_whole}

-- ---- lines

abbrev feeds : List ℕ → ℕ
feeds text = length (filter is_feed text)

abbrev most : ℕ
most = 18446744073709551615

-- the line behind some bytes
abbrev line_after : ℕ → List ℕ → ℕ
line_after line [] = line
line_after line (b ∷ text) = line_after (line_behind line b) text

-- what holds of each line behind some bytes
abbrev CountsOn : List ℕ → Type 0
CountsOn text = (line : ℕ) → line ≤ most → line_after line text ≡ min (line + feeds text) most

one_line_more : (text : List ℕ) (line : ℕ) (x : Bool) → CountsOn text → line ≤ most → nat_lt line most ≡ x →
    line_after (cond x (line + 1) line) text ≡ min (line + (feeds text + 1)) most
one_line_more text line true again h e =
    let room : line < most = below line most e in again (line + 1) (omega arith) ∙ omega arith
one_line_more text line false again h e =
    let full : line ≡ most = omega (arith, ltb-false line most e, h) in
    again line h ∙ omega (arith, full)

line_more : (b : ℕ) (text : List ℕ) (line : ℕ) (x : Bool) → CountsOn text → line ≤ most →
    line_after (cond (x && nat_lt line most) (line + 1) line) text
    ≡ min (line + length (cond x (b ∷ filter is_feed text) (filter is_feed text))) most
line_more b text line true again h =
    let long : length (b ∷ filter is_feed text) ≡ feeds text + 1 = omega arith in
    one_line_more text line (nat_lt line most) again h refl ∙ ap (λ (n : ℕ). min (line + n) most) (sym long)
line_more b text line false again h = again line h

after_is : (text : List ℕ) → CountsOn text
after_is [] line h = omega arith
after_is (b ∷ text) line h = line_more b text line (b == 10) (after_is text) h

after_first : (text : List ℕ) → line_after 1 text ≡ line_of_end text
after_first text = after_is text 1 (omega arith) ∙ omega arith

feeds-cons : (b : ℕ) (one other : List ℕ) (x : Bool) → feeds (one ++ other) ≡ feeds one + feeds other →
    length (cond x (b ∷ filter is_feed (one ++ other)) (filter is_feed (one ++ other)))
    ≡ length (cond x (b ∷ filter is_feed one) (filter is_feed one)) + feeds other
feeds-cons b one other true e =
    let all : length (b ∷ filter is_feed (one ++ other)) ≡ feeds (one ++ other) + 1 = omega arith in
    let front : length (b ∷ filter is_feed one) ≡ feeds one + 1 = omega arith in
    omega (arith, all, front, e)
feeds-cons b one other false e = e

feeds-both : (one other : List ℕ) → feeds (one ++ other) ≡ feeds one + feeds other
feeds-both [] other = omega arith
feeds-both (b ∷ one) other = feeds-cons b one other (b == 10) (feeds-both one other)

-- ---- a text as far as it goes on

-- no text goes on with the next byte, or there is none
abbrev Stops : State → List ℕ → Type 0
Stops s [] = Unit {0}
Stops s (b ∷ rest) = (step s b).on ≡ None

record GoesTo (s : State) (line : ℕ) (text : List ℕ) : Type 0 where
  part : List ℕ
  rest : List ℕ
  at : State
  split : text ≡ part ++ rest
  on : (gone (Some s) part).on ≡ Some at
  line_is : line_from line (Some s) text ≡ line_after line part
  stops : Stops at rest

on_given : (given : Option PgnGame) (g : Gone) → (with_given given g).on ≡ g.on
on_given None g = refl
on_given (Some game) g = refl

-- by what the next byte makes of the state
goes_by : (b : ℕ) (text : List ℕ) (s : State) (line : ℕ) (on : Option State)
    → ((t : State) → GoesTo t (line_behind line b) text) → (step s b).on ≡ on →
    GoesTo s line (b ∷ text)
goes_by b text s line None again e = record {
  part = [];
  rest = b ∷ text;
  at = s;
  split = refl;
  on = refl;
  line_is = ap (λ (on : Option State). line_from (line_if (is_some on) line b) on text) e;
  stops = e;
}
goes_by b text s line (Some t) again e =
    let more : GoesTo t (line_behind line b) text = again t in
    record {
      part = b ∷ more.part;
      rest = more.rest;
      at = more.at;
      split = ap (λ (l : List ℕ). b ∷ l) more.split;
      on =
          on_given (step s b).given (gone (step s b).on more.part)
          ∙ ap (λ (on : Option State). (gone on more.part).on) e ∙ more.on;
      line_is = ap (λ (on : Option State). line_from (line_if (is_some on) line b) on text) e ∙ more.line_is;
      stops = more.stops;
    }

goes_to : (text : List ℕ) (s : State) (line : ℕ) → GoesTo s line text
goes_to [] s line = record { part = []; rest = []; at = s; split = refl; on = refl; line_is = refl; stops = tt }
goes_to (b ∷ text) s line = goes_by b text s line (step s b).on (λ t. goes_to text t (line_behind line b)) refl

-- ---- texts that go on behind a line feed

-- some text goes on behind the state and is whole
record CanEnd (s : State) : Type 0 where
  more : List ℕ
  whole : (read_from (Some s) more).whole ≡ true

-- a byte before what goes on
led : (s t : State) (b : ℕ) → (step s b).on ≡ Some t → CanEnd t → CanEnd s
led s t b e h = record {
  more = b ∷ h.more;
  whole =
      adding_whole (step s b).given (read_from (step s b).on h.more)
      ∙ ap (λ (on : Option State). (read_from on h.more).whole) e ∙ h.whole;
}

-- outside of variations
end_outside : (stage : GameStage) (fresh : Bool) (row : TagTexts) (moves : List Move)
    → CanEnd (state_at (Between fresh) 0 (book_at stage row moves))
unfolding is_word_byte took step
end_outside Before fresh row moves = record { more = 42 ∷ []; whole = refl }
end_outside Tags fresh row moves = record { more = 42 ∷ []; whole = refl }
end_outside Opened fresh row moves = record { more = 97 ∷ 34 ∷ 34 ∷ 93 ∷ 42 ∷ []; whole = refl }
end_outside (Named name) fresh row moves = record { more = 34 ∷ 34 ∷ 93 ∷ 42 ∷ []; whole = refl }
end_outside Told fresh row moves = record { more = 93 ∷ 42 ∷ []; whole = refl }
end_outside Moves fresh row moves = record { more = 42 ∷ []; whole = refl }

-- inside of variations, which are closed one after the other
end_inside : (depth : ℕ) (fresh : Bool) (row : TagTexts) (moves : List Move)
    → CanEnd (state_at (Between fresh) depth (book_at Moves row moves))
unfolding is_word_byte took step
end_inside zero fresh row moves = end_outside Moves fresh row moves
end_inside (suc depth) fresh row moves =
    let inner : State = state_at (Between fresh) (suc depth) (book_at Moves row moves) in
    let outer : State = state_at (Between false) depth (book_at Moves row moves) in
    let deep : nat_eq (suc depth) 0 ≡ false =
    false_from_ne_true (nat_eq (suc depth) 0)
    (λ e. let f : suc depth ≡ 0 = eqb-true (suc depth) 0 e in omega (arith, f)) in
    let less : suc depth - 1 ≡ depth = omega arith in
    led inner outer 41
    (ap (λ (x : Bool). cond x None (Some (state_at (Between false) (suc depth - 1) (book_at Moves row moves)))) deep
    ∙ ap (λ (d : ℕ). Some (state_at (Between false) d (book_at Moves row moves))) less)
    (end_inside depth false row moves)

end_between : (depth : ℕ) (fresh : Bool) (stage : GameStage) (row : TagTexts) (moves : List Move)
    → (depth ≡ 0) ⊎ (stage ≡ Moves) → CanEnd (state_at (Between fresh) depth (book_at stage row moves))
end_between depth fresh stage row moves (inl e) =
    subst (λ (d : ℕ). CanEnd (state_at (Between fresh) d (book_at stage row moves))) (sym e)
    (end_outside stage fresh row moves)
end_between depth fresh stage row moves (inr e) =
    subst (λ (t : GameStage). CanEnd (state_at (Between fresh) depth (book_at t row moves))) (sym e)
    (end_inside depth fresh row moves)

-- where a line may begin
abbrev IsLineStart : PlaceInText → Type 0
IsLineStart (Between fresh) = Unit {0}
IsLineStart InBraces = Unit {0}
IsLineStart _ = ⊥

end_line : (s : State) → IsLineStart s.place → IsSoundState s → CanEnd s
unfolding step
end_line s start h = by s.place s.depth s.book start h.place
  where
    by : (place : PlaceInText) (depth : ℕ) (book : Book) → IsLineStart place → IsSoundPlace place depth book.stage
        → CanEnd (state_at place depth book)
    by (Between fresh) depth book l at = end_between depth fresh book.stage book.row book.moves at
    by InBraces depth book l at =
        led (state_at InBraces depth book) (state_at (Between false) depth book) 125 refl
        (end_between depth false book.stage book.row book.moves at)
    by Start depth book l at = absurd l
    by AfterOne depth book l at = absurd l
    by AfterTwo depth book l at = absurd l
    by InLine depth book l at = absurd l
    by (InWord glyph word) depth book l at = absurd l
    by (InQuotes text) depth book l at = absurd l
    by (InStroke text) depth book l at = absurd l

-- behind a line feed a line may begin
started_at : (s t : State) → Some s ≡ Some t → IsLineStart s.place → IsLineStart t.place
started_at s t e h = let same : s ≡ t = cc in subst (λ (x : State). IsLineStart x.place) same h

no_state : (t : State) → None ≡ Some t → IsLineStart t.place
no_state t e = absurd (let f : None ≡ Some t = e in cc)

line_start : (s t : State) → (step s 10).on ≡ Some t → IsLineStart t.place
unfolding is_word_byte step
line_start s t e = by s.place s.depth s.book e
  where
    behind : (depth : ℕ) (on : Option Book) → begun_behind depth on 10 ≡ Some t → IsLineStart t.place
    behind depth None h = no_state t h
    behind depth (Some book) h = started_at (state_at (Between true) depth book) t h tt

    by : (place : PlaceInText) (depth : ℕ) (book : Book) → (step (state_at place depth book) 10).on ≡ Some t
        → IsLineStart t.place
    by Start depth book h = started_at (state_at (Between true) depth book) t h tt
    by AfterOne depth book h = no_state t h
    by AfterTwo depth book h = no_state t h
    by (Between fresh) depth book h = started_at (state_at (Between true) depth book) t h tt
    by InLine depth book h = started_at (state_at (Between true) depth book) t h tt
    by InBraces depth book h = started_at (state_at InBraces depth book) t h tt
    by (InWord glyph word) depth book h = behind depth (took book (piece_of glyph word)).on h
    by (InQuotes text) depth book h = no_state t h
    by (InStroke text) depth book h = no_state t h

-- ---- beginnings of texts that are read

begins_read : (front : List ℕ) (s : State) → (gone (Some first_state) front).on ≡ Some s → CanEnd s → IsBeginning front
begins_read front s e h =
    let games : List PgnGame = (gone (Some first_state) front).games in
    let behind : Outcome = read_from (Some s) h.more in
    let read : read_from (Some first_state) (front ++ h.more) ≡ adding_all games behind =
    reads_in_pieces.read (Some first_state) front h.more
    ∙ ap (λ (on : Option State). adding_all games (read_from on h.more)) e in
    let whole : adding_all games behind ≡ record { games = games ++ behind.games; whole = true } =
    ap (λ (x : Bool). record { games = games ++ behind.games; whole = x }) h.whole in
    record {
      more = h.more;
      games = games ++ behind.games;
      read = reader_reads.sound (front ++ h.more) (games ++ behind.games) (read ∙ whole);
    }

-- the text up to its last line feed, with which a text that is read begins
record HasFront (text : List ℕ) : Type 0 where
  front : List ℕ
  tail : List ℕ
  split : text ≡ front ++ tail
  no_feed : feeds tail ≡ 0
  begins : IsBeginning front

-- a byte more
front_more : (done : List ℕ) (b : ℕ) (s t : State) → IsSoundState s
    → (gone (Some first_state) (done ++ b ∷ [])).on ≡ Some t
    → (step s b).on ≡ Some t →
    IsSoundState t → HasFront done → HasFront (done ++ b ∷ [])
front_more done b s t sound gone_so e is h = by (b == 10) refl
  where
    by : (x : Bool) → (b == 10) ≡ x → HasFront (done ++ b ∷ [])
    by true f =
        let start : IsLineStart t.place =
        line_start s t (subst (λ (n : ℕ). (step s n).on ≡ Some t) (eqb-true b 10 f) e) in
        record {
          front = done ++ b ∷ [];
          tail = [];
          split = sym (append-nil (done ++ b ∷ []));
          no_feed = refl;
          begins = begins_read (done ++ b ∷ []) t gone_so (end_line t start is);
        }
    by false f =
        let one : feeds (b ∷ []) ≡ 0 = ap (λ (x : Bool). length {A = ℕ} (cond x (b ∷ []) [])) f in
        record {
          front = h.front;
          tail = h.tail ++ b ∷ [];
          split = ap (λ (l : List ℕ). l ++ b ∷ []) h.split ∙ append_assoc h.front h.tail (b ∷ []);
          no_feed = feeds-both h.tail (b ∷ []) ∙ omega (arith, h.no_feed, one);
          begins = h.begins;
        }

-- what holds of each state behind some bytes
abbrev FrontsOn : List ℕ → Type 0
FrontsOn rest =
    (done : List ℕ) (s t : State) → IsSoundState s → (gone (Some first_state) done).on ≡ Some s → HasFront done
    → (gone (Some s) rest).on ≡ Some t →
    HasFront (done ++ rest)

front_by : (b : ℕ) (rest done : List ℕ) (s t : State) (on : Option State) → FrontsOn rest → IsSoundState s
    → (gone (Some first_state) done).on ≡ Some s → HasFront done →
    (step s b).on ≡ on → IsSoundIf on → (gone on rest).on ≡ Some t → HasFront (done ++ b ∷ rest)
front_by b rest done s t None again sound e h f is later = absurd (let no : None ≡ Some t = later in cc)
front_by b rest done s t (Some u) again sound e h f is later =
    let along : (gone (Some first_state) (done ++ b ∷ [])).on ≡ Some u =
    ap (λ (x : Gone). x.on) (reads_in_pieces.goes_on (Some first_state) done (b ∷ []))
    ∙ ap (λ (on : Option State). (gone on (b ∷ [])).on) e
    ∙ on_given (step s b).given (gone (step s b).on []) ∙ ap (λ (on : Option State). (gone on []).on) f in
    subst HasFront (append_assoc done (b ∷ []) rest)
    (again (done ++ b ∷ []) u t is along (front_more done b s u sound along f is h) later)

fronts : (rest : List ℕ) → FrontsOn rest
fronts [] done s t sound e h g = subst HasFront (sym (append-nil done)) h
fronts (b ∷ rest) done s t sound e h g =
    front_by b rest done s t (step s b).on (fronts rest) sound e h refl (step_sound s b sound).on
    (sym (on_given (step s b).given (gone (step s b).on rest)) ∙ g)

first_can_end : CanEnd first_state
unfolding is_word_byte step
first_can_end = record { more = []; whole = refl }

front_of : (part : List ℕ) (t : State) → (gone (Some first_state) part).on ≡ Some t → HasFront part
front_of part t e = fronts part [] first_state t first_sound refl
    (record {
      front = [];
      tail = [];
      split = refl;
      no_feed = refl;
      begins = begins_read [] first_state refl first_can_end;
    }) e

-- ---- the line

-- two ways to cut a text
data Cut (one rest other behind : List ℕ) : Type 0 where
  shorter : (more : List ℕ) → one ≡ other ++ more → Cut one rest other behind
  longer : (b : ℕ) (more : List ℕ) → other ≡ one ++ b ∷ more → rest ≡ b ∷ (more ++ behind) → Cut one rest other behind

cut_more : (a b : ℕ) (one rest other behind : List ℕ) → Cut one rest other behind → a ≡ b
    → Cut (a ∷ one) rest (b ∷ other) behind
cut_more a b one rest other behind (shorter more f) same = shorter more (λ i. same i ∷ f i)
cut_more a b one rest other behind (longer c more f g) same = longer c more (λ i. sym same i ∷ f i) g

cut : (one rest other behind : List ℕ) → one ++ rest ≡ other ++ behind → Cut one rest other behind
cut one rest [] behind e = shorter one refl
cut [] rest (b ∷ other) behind e = longer b other refl e
cut (a ∷ one) rest (b ∷ other) behind e =
    let same : a ≡ b = cc in
    let later : one ++ rest ≡ other ++ behind = cc in
    cut_more a b one rest other behind (cut one rest other behind later) same

line_most : (one other : List ℕ) → feeds other ≤ feeds one → line_of_end other ≤ line_of_end one
line_most one other h = omega (arith, h)

-- the text isn't read, and the reader leaves it on that line
pub left_on : (text : List ℕ) → ((games : List PgnGame) → ReadsGames text games → ⊥)
    → IsLeftOn text (line_from 1 (Some first_state) text)
left_on text unread =
    let to : GoesTo first_state 1 text = goes_to text first_state 1 in
    let f : HasFront to.part = front_of to.part to.at to.on in
    let same : feeds to.part ≡ feeds f.front =
    ap feeds f.split ∙ feeds-both f.front f.tail ∙ omega (arith, f.no_feed) in
    record {
      unread = unread;
      front = f.front;
      rest = f.tail ++ to.rest;
      split = to.split ∙ ap (λ (l : List ℕ). l ++ to.rest) f.split ∙ append_assoc f.front f.tail to.rest;
      begins = f.begins;
      on_it = to.line_is ∙ after_first to.part ∙ ap (λ (n : ℕ). min (n + 1) most) same;
      last = λ other behind e begins. subst (λ (n : ℕ). line_of_end other ≤ n) (sym (to.line_is ∙ after_first to.part))
          (by to other behind begins (cut to.part to.rest other behind (sym to.split ∙ e)));
    }
  where
    lost : (to : GoesTo first_state 1 text) (b : ℕ) (rest : List ℕ) → to.rest ≡ b ∷ rest
        → (gone (Some first_state) (to.part ++ b ∷ [])).on ≡ None
    lost to b rest e =
        let stops : (step to.at b).on ≡ None = subst (Stops to.at) e to.stops in
        ap (λ (x : Gone). x.on) (reads_in_pieces.goes_on (Some first_state) to.part (b ∷ []))
        ∙ ap (λ (on : Option State). (gone on (b ∷ [])).on) to.on
        ∙ on_given (step to.at b).given (gone (step to.at b).on []) ∙ ap (λ (on : Option State). (gone on []).on) stops

    by : (to : GoesTo first_state 1 text) (other behind : List ℕ) → IsBeginning other → Cut to.part to.rest other behind
        → line_of_end other ≤ line_of_end to.part
    by to other behind begins (shorter more e) =
        let parts : feeds to.part ≡ feeds other + feeds more = ap feeds e ∙ feeds-both other more in
        line_most to.part other (omega (arith, parts))
    by to other behind begins (longer b more e g) =
        let text_is : other ++ begins.more ≡ (to.part ++ b ∷ []) ++ (more ++ begins.more) =
        ap (λ (l : List ℕ). l ++ begins.more) e ∙ append_assoc to.part (b ∷ more) begins.more
        ∙ sym (append_assoc to.part (b ∷ []) (more ++ begins.more)) in
        absurd
        (reads_in_pieces.lost (to.part ++ b ∷ []) (more ++ begins.more) begins.games (lost to b (more ++ behind) g)
        (subst (λ (t : List ℕ). ReadsGames t begins.games) text_is begins.read))

pub one_line : OneLine
one_line text one other h g =
    let low : one ≤ other = subst (λ (n : ℕ). n ≤ other) (sym h.on_it) (g.last h.front h.rest h.split h.begins) in
    let high : other ≤ one = subst (λ (n : ℕ). n ≤ one) (sym g.on_it) (h.last g.front g.rest g.split g.begins) in
    omega (arith, low, high)
