-- The boards after half-moves, and after one more.
use Rattle.std.proofs.Common.{◌≡◌, ℕ, ◌+◌, ◌≤◌, suc, true, false, nat_eq, if◌then◌else◌, List, [], ◌∷◌, ◌++◌, length, map, filter, Some, None, refl, sym, ap, ◌∙◌, arith}
use Rattle.std.specs.Prelude.{slice_get}
use Rattle.std.proofs.lemmas.Bool.Decides.{nat_tests}
use Rattle.std.proofs.lemmas.List.{length_push, map-append}
use Rattle.chess_model.specs.declared.variant.Terms.{Terms}
use Rattle.chess_model.specs.declared.variant.Variant.{Variant}
use Rattle.chess_model.specs.declared.variant.Variant.TheVariants.{Chess, Crazyhouse, Bughouse, Fischer}
use Rattle.chess_model.specs.Holdings.{other_board}
use Rattle.game_board.specs.Learn.{learnt}
use Rattle.game_board.specs.Put.{with_put}
use Rattle.game_board.specs.Rewind.{rewound}
use Rattle.game_records.specs.declared.stored_game.Half.{Half}
use Rattle.game_records.specs.Bounds as bounds
use Rattle.game_records.specs.Replays.{without_charges, made_on}
use Rattle.fics_words.specs.Boards.{board_number, board_place}
use Rattle.desk_boards.specs.Boards.{board_numbers}
use Rattle.fics_words.specs.declared.board_number.BoardNumber.{BoardNumber}
use Rattle.fics_words.specs.declared.board_number.BoardNumber.TheVariants.{First, Second}
use Rattle.desk_boards.specs.Halves.{list_on, played_of}
use Rattle.desk_boards.specs.Replaying.{boards_put}
use Rattle.desk_boards.proofs.Halved.{list_on-own, list_on-else}
use Rattle.examine_board.specs.Exam.{board_after, boards_of_halves}

-- ---- the half-moves of one board

-- one more of it
list_on-more : (n : ℕ) (halves : List Half) (h : Half) → nat_eq h.board n ≡ true
    → list_on n (halves ++ h ∷ []) ≡ list_on n halves ++ played_of h ∷ []
list_on-more n [] h own = list_on-own n h [] own
list_on-more n (g ∷ halves) h own =
    elim (nat_eq g.board n)
    as (λ b. nat_eq g.board n ≡ b → list_on n (g ∷ halves ++ h ∷ []) ≡ list_on n (g ∷ halves) ++ played_of h ∷ []) [
      | true ↦ λ e.
          list_on-own n g (halves ++ h ∷ []) e ∙ ap (λ l. played_of g ∷ l) (list_on-more n halves h own)
          ∙ ap (λ l. l ++ played_of h ∷ []) (sym (list_on-own n g halves e))
      | false ↦ λ e.
          list_on-else n g (halves ++ h ∷ []) e ∙ list_on-more n halves h own
          ∙ ap (λ l. l ++ played_of h ∷ []) (sym (list_on-else n g halves e))
    ] refl

-- one more of the other board
list_on-same : (n : ℕ) (halves : List Half) (h : Half) → nat_eq h.board n ≡ false
    → list_on n (halves ++ h ∷ []) ≡ list_on n halves
list_on-same n [] h other = list_on-else n h [] other
list_on-same n (g ∷ halves) h other =
    elim (nat_eq g.board n) as (λ b. nat_eq g.board n ≡ b → list_on n (g ∷ halves ++ h ∷ []) ≡ list_on n (g ∷ halves)) [
      | true ↦ λ e.
          list_on-own n g (halves ++ h ∷ []) e ∙ ap (λ l. played_of g ∷ l) (list_on-same n halves h other)
          ∙ sym (list_on-own n g halves e)
      | false ↦ λ e.
          list_on-else n g (halves ++ h ∷ []) e ∙ list_on-same n halves h other ∙ sym (list_on-else n g halves e)
    ] refl

-- they are as many as the board has seen
pub made_is : (n : ℕ) (halves : List Half) → made_on halves n ≡ length (list_on n halves)
made_is n [] = refl
made_is n (g ∷ halves) =
    elim (nat_eq g.board n)
    as (λ b.
    length (map (λ h. h.what)
    (if b then record { board = g.board; what = g.what } ∷ filter (λ h. nat_eq h.board n) (without_charges halves)
    else filter (λ h. nat_eq h.board n) (without_charges halves)))
    ≡ length
    (map played_of (if b then g ∷ filter (λ h. nat_eq h.board n) halves else filter (λ h. nat_eq h.board n) halves))) [
      | true ↦ ap suc (made_is n halves)
      | false ↦ made_is n halves
    ]

-- all are of the one board, where each is
pub all_on : (n : ℕ) (halves : List Half) → ((i : ℕ) (h : Half) → slice_get halves i ≡ Some h → h.board ≡ n)
    → length (list_on n halves) ≡ length halves
all_on n [] each = refl
all_on n (g ∷ halves) each =
    let own : nat_eq g.board n ≡ true = let same = each 0 g refl in grind (arith, nat_tests, same) in
    ap length (list_on-own n g halves own) ∙ ap suc (all_on n halves (λ i h e. each (suc i) h e))

-- ---- one board

-- a half-move more of it
pub board_more : (t : Terms) (halves : List Half) (h : Half) (n : ℕ) → h.board ≡ n
    → with_put (board_after t halves n) (played_of h) ≡ board_after t (halves ++ h ∷ []) n
board_more t halves h n own =
    let list = list_on-more n halves h (let same = own in grind (arith, nat_tests, same)) in
    let many : length (list_on n (halves ++ h ∷ [])) ≡ length (list_on n halves) + 1 =
    ap length list ∙ length_push (list_on n halves) (played_of h) in
    let all : without_charges (halves ++ h ∷ []) ≡ without_charges halves ++ record { board = n; what = h.what } ∷ [] =
    map-append (λ g. record { board = g.board; what = g.what }) halves (h ∷ [])
    ∙ (λ i. without_charges halves ++ record { board = own i; what = h.what } ∷ []) in
    λ i.
    record {
      number = n;
      terms = t;
      list = sym list i;
      begin = 0;
      kept = None;
      played = sym many i;
      resumed = sym many i;
      all = sym all i;
    }

-- a half-move more of the other one
pub board_told : (t : Terms) (halves : List Half) (h : Half) (n : ℕ) → nat_eq h.board n ≡ false
    → other_board n ≡ h.board → learnt (board_after t halves n) h.what ≡ board_after t (halves ++ h ∷ []) n
board_told t halves h n other number =
    let list = list_on-same n halves h other in
    let all : without_charges (halves ++ h ∷ [])
    ≡ without_charges halves ++ record { board = other_board n; what = h.what } ∷ [] =
    map-append (λ g. record { board = g.board; what = g.what }) halves (h ∷ [])
    ∙ (λ i. without_charges halves ++ record { board = sym number i; what = h.what } ∷ []) in
    λ i.
    record {
      number = n;
      terms = t;
      list = sym list i;
      begin = 0;
      kept = None;
      played = length (sym list i);
      resumed = length (sym list i);
      all = sym all i;
    }

-- ---- all boards

one_board : (t : Terms) (halves : List Half) (h : Half) (board : BoardNumber) → h.board ≡ board_number board
    → h.board ≤ 1 →
    boards_put (board_after t halves 1 ∷ []) board (played_of h) ≡ board_after t (halves ++ h ∷ []) 1 ∷ []
one_board t halves h First own last = ap (λ b. b ∷ []) (board_more t halves h 1 own)
one_board t halves h Second own last = absurd (omega (arith, own, last))

two_boards : (t : Terms) (halves : List Half) (h : Half) (board : BoardNumber) → h.board ≡ board_number board →
    boards_put (board_after t halves 1 ∷ board_after t halves 2 ∷ []) board (played_of h)
    ≡ board_after t (halves ++ h ∷ []) 1 ∷ board_after t (halves ++ h ∷ []) 2 ∷ []
two_boards t halves h First own =
    let other : nat_eq h.board 2 ≡ false = let same = own in grind (arith, nat_tests, same) in
    λ i. board_more t halves h 1 own i ∷ board_told t halves h 2 other (sym own) i ∷ []
two_boards t halves h Second own =
    let other : nat_eq h.board 1 ≡ false = let same = own in grind (arith, nat_tests, same) in
    λ i. board_told t halves h 1 other (sym own) i ∷ board_more t halves h 2 own i ∷ []

boards_more : (v : Variant) (t : Terms) (halves : List Half) (h : Half) (board : BoardNumber)
    → h.board ≡ board_number board → h.board ≤ bounds.boards v →
    boards_put (map (board_after t halves) (board_numbers v)) board (played_of h)
    ≡ map (board_after t (halves ++ h ∷ [])) (board_numbers v)
boards_more Chess t halves h board own last = one_board t halves h board own last
boards_more Crazyhouse t halves h board own last = one_board t halves h board own last
boards_more (Fischer number) t halves h board own last = one_board t halves h board own last
boards_more Bughouse t halves h board own last = two_boards t halves h board own

-- a half-move more is laid on the boards
pub boards_laid : (t : Terms) (halves : List Half) (h : Half) (board : BoardNumber) → h.board ≡ board_number board
    → h.board ≤ bounds.boards t.variant →
    boards_put (boards_of_halves t halves) board (played_of h) ≡ boards_of_halves t (halves ++ h ∷ [])
boards_laid t halves h board own last = boards_more t.variant t halves h board own last

-- a board in its place
board_in : (v : Variant) (t : Terms) (halves : List Half) (board : BoardNumber) → board_number board ≤ bounds.boards v →
    slice_get (map (board_after t halves) (board_numbers v)) (board_place board)
    ≡ Some (board_after t halves (board_number board))
board_in Chess t halves First last = refl
board_in Crazyhouse t halves First last = refl
board_in (Fischer number) t halves First last = refl
board_in Bughouse t halves First last = refl
board_in Bughouse t halves Second last = refl
board_in Chess t halves Second last = absurd (omega (arith, last))
board_in Crazyhouse t halves Second last = absurd (omega (arith, last))
board_in (Fischer number) t halves Second last = absurd (omega (arith, last))

pub board_there : (t : Terms) (halves : List Half) (board : BoardNumber)
    → board_number board ≤ bounds.boards t.variant →
    slice_get (boards_of_halves t halves) (board_place board) ≡ Some (board_after t halves (board_number board))
board_there t halves board last = board_in t.variant t halves board last

-- the boards at the start of the game
rewound_in : (v : Variant) (t : Terms) (halves : List Half)
    → map rewound (map (board_after t halves) (board_numbers v)) ≡ map (board_after t []) (board_numbers v)
rewound_in Chess t halves = refl
rewound_in Crazyhouse t halves = refl
rewound_in (Fischer number) t halves = refl
rewound_in Bughouse t halves = refl

pub boards_rewound : (t : Terms) (halves : List Half) → map rewound (boards_of_halves t halves) ≡ boards_of_halves t []
boards_rewound t halves = rewound_in t.variant t halves
