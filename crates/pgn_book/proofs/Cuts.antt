-- A text is read alike however it is cut.
use Rattle.std.proofs.Common.{◌≡◌, ℕ, true, false, List, [], ◌∷◌, ◌++◌, Option, Some, None, refl, sym, ap, ◌∙◌}
use Rattle.pgn_book.specs.declared.game.PgnGame.{PgnGame}
use Rattle.pgn_book.specs.Games.{ReadsGames}
use Rattle.pgn_book.specs.Reading.{State, Outcome, with_game_first, step, read_from, first_state, Gone, with_given, gone, gone_both, adding_all}
use Rattle.pgn_book.specs.Laws.{ReadsInPieces}
use Rattle.pgn_book.proofs.GamesTold.{reads_told}

adding_more : (given : Option PgnGame) (h : Gone) (rest : List ℕ) →
    with_game_first given (adding_all h.games (read_from h.on rest))
    ≡ adding_all (with_given given h).games (read_from (with_given given h).on rest)
adding_more None h rest = refl
adding_more (Some g) h rest = refl

read_on : (front rest : List ℕ) (s : Option State)
    → read_from s (front ++ rest) ≡ adding_all (gone s front).games (read_from (gone s front).on rest)
read_on front rest None = refl
read_on [] rest (Some s) = refl
read_on (b ∷ front) rest (Some s) =
    ap (with_game_first (step s b).given) (read_on front rest (step s b).on)
    ∙ adding_more (step s b).given (gone (step s b).on front) rest

given_more : (given : Option PgnGame) (h : Gone) (rest : List ℕ) →
    with_given given (gone_both h (gone h.on rest)) ≡ gone_both (with_given given h) (gone (with_given given h).on rest)
given_more None h rest = refl
given_more (Some g) h rest = refl

gone_on : (front rest : List ℕ) (s : Option State)
    → gone s (front ++ rest) ≡ gone_both (gone s front) (gone (gone s front).on rest)
gone_on front rest None = refl
gone_on [] rest (Some s) = refl
gone_on (b ∷ front) rest (Some s) =
    ap (with_given (step s b).given) (gone_on front rest (step s b).on)
    ∙ given_more (step s b).given (gone (step s b).on front) rest

nothing_reads : (front rest : List ℕ) (games : List PgnGame) → (gone (Some first_state) front).on ≡ None
    → ReadsGames (front ++ rest) games → ⊥
nothing_reads front rest games e h =
    let read : read_from (Some first_state) (front ++ rest)
    ≡ adding_all (gone (Some first_state) front).games (read_from None rest) =
    read_on front rest (Some first_state)
    ∙ ap (λ (s : Option State). adding_all (gone (Some first_state) front).games (read_from s rest)) e in
    let whole : true ≡ false = ap (λ (o : Outcome). o.whole) (sym (reads_told (front ++ rest) games h) ∙ read) in
    cc

pub reads_in_pieces : ReadsInPieces
reads_in_pieces =
    record {
      read = λ s front rest. read_on front rest s;
      goes_on = λ s front rest. gone_on front rest s;
      lost = nothing_reads;
    }
