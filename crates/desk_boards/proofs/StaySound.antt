-- Boards are sound at the start, by words that are played, and whatever clients acknowledge.
use Rattle.std.proofs.Common.{◌≡◌, ℕ, ◌≤◌, ◌<◌, ◌^◌, ◌==◌, zero, suc, Bool, true, false, not, if◌then◌else◌, List, [], ◌∷◌, map, All, Option, Some, None, Result, Ok, Err, IfSome, refl, sym, ap, subst, ◌∙◌, arith}
use Rattle.std.specs.Prelude.{slice_get}
use Rattle.std.specs.List.{AllByRecursion}
use Rattle.std.specs.Option.{option_map_or}
use Rattle.std.proofs.lemmas.Bool.Decides.{nat_tests}
use Rattle.std.proofs.lemmas.List.Elements.{All-nil, All-cons}
use Rattle.chess_model.specs.declared.man.Colour.{Colour}
use Rattle.chess_model.specs.declared.moves.Move.{Move}
use Rattle.chess_model.specs.declared.moves.MoveWord.{MoveWord}
use Rattle.chess_model.specs.declared.variant.Terms.{Terms}
use Rattle.chess_model.specs.Allowed.{Allowed}
use Rattle.chess_model.specs.Holdings.{same_colour}
use Rattle.chess_model.specs.MoveList.{HalfMove}
use Rattle.chess_model.specs.WordAnswer.{word_answer}
use Rattle.clock_ledger.specs.declared.charges.Charge.{Charge}
use Rattle.clock_ledger.specs.Charges.{IsChargeable}
use Rattle.clock_ledger.specs.Span.{IsStamp}
use Rattle.fics_words.specs.declared.refusal.Refusal.{Refusal}
use Rattle.fics_words.specs.declared.refusal.Refusal.TheVariants.{NotYourTurn, TooManyMoves}
use Rattle.fics_words.specs.Effect.{first_cause}
use Rattle.game_board.specs.Acked.{acknowledged}
use Rattle.game_board.specs.Board.{Board, new_board, position_of, to_move}
use Rattle.game_board.specs.Causes.{in_words}
use Rattle.game_board.specs.Play.{move_answer, next_charge, with_half_move}
use Rattle.game_board.specs.Scoresheet.{IsTrueScore}
use Rattle.game_board.proofs.LastPlayed.{IsChargeable-next}
use Rattle.game_board.proofs.Scoresheet.{IsTrueScore-acknowledged, IsTrueScore-new_board, IsTrueScore-with_half_move, allowed_by_answer}
use Rattle.game_records.specs.Bounds.{IsCharge, IsHalf}
use Rattle.game_records.specs.Replays.{CanBePlayed, GoesOn}
use Rattle.game_records.proofs.Played.{by_steps}
use Rattle.fics_words.specs.Boards.{other_number, board_place}
use Rattle.desk_boards.specs.Boards.{board_numbers, boards_acked, boards_after, changed_at, latest, new_boards, word_at}
use Rattle.fics_words.specs.declared.board_number.BoardNumber.{BoardNumber}
use Rattle.desk_boards.specs.Halves.{halves_from, halves_of}
use Rattle.desk_boards.specs.Sound.{AreSame, AreSoundBoards, GoOn}
use Rattle.desk_boards.proofs.BoardLists.{All-at, All-changed_at, begin-latest, map-changed_at, nothing-changed_at}
use Rattle.desk_boards.proofs.OneMore.{IsOneMore}
use Rattle.desk_boards.proofs.Pairs.{never_three}
use Rattle.desk_boards.proofs.Stepped.{sound_step}

-- ---- the start

-- the boards of these numbers at the start
abbrev pub boards_from : List ℕ → Terms → ℕ → List Board
boards_from numbers t moment = map (λ number. new_board number t moment) numbers

pub numbers_from : (numbers : List ℕ) (t : Terms) (moment : ℕ)
    → map (λ (b : Board). b.number) (boards_from numbers t moment) ≡ numbers
numbers_from [] t moment = refl
numbers_from (n ∷ ns) t moment = ap (λ ms. n ∷ ms) (numbers_from ns t moment)

pub All-from : (P : Board → Type 0) (numbers : List ℕ) (t : Terms) (moment : ℕ) → ((n : ℕ) → P (new_board n t moment))
    → All P (boards_from numbers t moment)
All-from P [] t moment h = All-nil P
All-from P (n ∷ ns) t moment h =
    All-cons P (new_board n t moment) (boards_from ns t moment) (h n) (All-from P ns t moment h)

nothing_from : (numbers : List ℕ) (t : Terms) (moment : ℕ)
    → All (λ (T : List HalfMove). T ≡ []) (map (λ (b : Board). b.all) (boards_from numbers t moment))
nothing_from [] t moment = All-nil (λ (T : List HalfMove). T ≡ [])
nothing_from (n ∷ ns) t moment =
    All-cons (λ (T : List HalfMove). T ≡ []) [] (map (λ (b : Board). b.all) (boards_from ns t moment)) refl
    (nothing_from ns t moment)

together_from : (numbers : List ℕ) (t : Terms) (moment : ℕ)
    → AreSame (map (λ (b : Board). b.all) (boards_from numbers t moment))
together_from [] t moment = tt
together_from (n ∷ ns) t moment = nothing_from ns t moment

-- they have no half-moves
pub halves_of-from : (numbers : List ℕ) (t : Terms) (moment : ℕ) → halves_of (boards_from numbers t moment) ≡ []
halves_of-from [] t moment = refl
halves_of-from (n ∷ []) t moment = refl
halves_of-from (n ∷ m ∷ more) t moment = refl

pub sound_start : (t : Terms) (moment : ℕ) → AreSoundBoards t (new_boards t moment)
sound_start t moment =
    let numbers : List ℕ = board_numbers t.variant in
    record {
      numbers = numbers_from numbers t moment;
      terms = All-from (λ (b : Board). b.terms ≡ t) numbers t moment (λ n. refl);
      scores = All-from IsTrueScore numbers t moment (λ n. IsTrueScore-new_board n t moment);
      few = All-from (λ (b : Board). b.played ≤ 1200) numbers t moment (λ n. omega arith);
      together = together_from numbers t moment;
      halves = subst (AllByRecursion (IsHalf t.variant)) (sym (halves_of-from numbers t moment)) tt;
      played = subst (CanBePlayed t) (sym (halves_of-from numbers t moment)) (by_steps.none t);
    }

-- ---- a word

pub charge_is : (o : Option Charge) → IfSome o IsChargeable → IsCharge o
charge_is None h = tt
charge_is (Some c) h = h

-- a board that answers a word with a half-move has room for it
room_unless : (other full : Bool) (answer : Result Move Refusal) (m : Move) →
    option_map_or Err (first_cause ((other, NotYourTurn) ∷ (full, TooManyMoves) ∷ [])) answer ≡ Ok m → full ≡ false
room_unless true full answer m e = absurd cc
room_unless false true answer m e = absurd cc
room_unless false false answer m e = refl

room_by_answer : (b : Board) (c : Colour) (word : MoveWord) (m : Move) → b.played ≤ 1200 → move_answer b c word ≡ Ok m
    → b.played < 1200
unfolding move_answer
room_by_answer b c word m few e =
    let room : (b.played == 1200) ≡ false =
    room_unless (not (same_colour c (to_move b))) (b.played == 1200) (in_words (word_answer (position_of b) word)) m
    e in
    grind (arith, nat_tests, room, few)

one_more_played : (own : Board) (c : Colour) (word : MoveWord) (m : Move) (moment : ℕ) (stamp : Option ℕ)
    → IsTrueScore own → own.played ≤ 1200 → GoesOn (position_of own) →
    own.begin ≤ moment → moment ≤ 2 ^ 48 → IfSome stamp IsStamp → move_answer own c word ≡ Ok m →
    IsOneMore own (record { what = m; charge = next_charge own moment stamp }) (with_half_move own m moment stamp)
one_more_played own c word m moment stamp score few goes order timely stamped e =
    let allowed : Allowed (position_of own) m = allowed_by_answer own c word m e in
    record {
      number = refl;
      terms = refl;
      list = refl;
      all = refl;
      score = IsTrueScore-with_half_move own m moment stamp score order stamped allowed;
      few = let room = room_by_answer own c word m few e in omega (arith, room);
      going = goes;
      allowed = allowed;
      charge =
          charge_is (next_charge own moment stamp) (IsChargeable-next own moment stamp order timely score.kept stamped);
    }

-- a word that is played has its board
pub played_there : (o : Option Board) (c : Colour) (word : MoveWord) (m : Move) → word_at o c word ≡ Ok m
    → (own : Board) × (o ≡ Some own) × (move_answer own c word ≡ Ok m)
played_there None c word m e = absurd cc
played_there (Some own) c word m e = (own, refl, e)

sound_answered : (t : Terms) (boards : List Board) (board : BoardNumber) (moment : ℕ) (c : Colour) (word : MoveWord)
    (stamp : Option ℕ)
    → AreSoundBoards t boards → GoOn boards →
    latest boards ≤ moment → moment ≤ 2 ^ 48 → IfSome stamp IsStamp → (answer : Result Move Refusal)
    → word_at (slice_get boards (board_place board)) c word ≡ answer →
    AreSoundBoards t (boards_after boards board moment stamp answer)
sound_answered t boards board moment c word stamp s goes order timely stamped (Err cause) e =
    subst (AreSoundBoards t)
    (sym (nothing-changed_at (changed_at boards (board_place board) (λ b. b)) (board_place (other_number board))
    ∙ nothing-changed_at boards (board_place board)))
    s
sound_answered t boards board moment c word stamp s goes order timely stamped (Ok m) e =
    let k : ℕ = board_place board in
    let found = played_there (slice_get boards k) c word m e in
    let own : Board = found.0 in
    let here : slice_get boards k ≡ Some own = found.1 in
    let before : own.begin ≤ latest boards = begin-latest boards k own here in
    let more =
    one_more_played own c word m moment stamp (All-at IsTrueScore boards k own s.scores here)
    (All-at (λ (b : Board). b.played ≤ 1200) boards k own s.few here)
    (All-at (λ (b : Board). GoesOn (position_of b)) boards k own goes here) (omega (arith, before, order)) timely
    stamped found.2 in
    (sound_step t boards board own (record {
      what = m;
      charge = next_charge own moment stamp;
    }) (λ b. with_half_move b m moment stamp) s here more
    (λ other there.
    All-at (λ (b : Board). GoesOn (position_of b)) boards (board_place (other_number board)) other goes there)).sound

pub sound_play : (t : Terms) (boards : List Board) (board : BoardNumber) (moment : ℕ) (c : Colour) (word : MoveWord)
    (stamp : Option ℕ)
    → AreSoundBoards t boards → GoOn boards →
    latest boards ≤ moment → moment ≤ 2 ^ 48 → IfSome stamp IsStamp
    → AreSoundBoards t (boards_after boards board moment stamp (word_at (slice_get boards (board_place board)) c word))
sound_play t boards board moment c word stamp s goes order timely stamped =
    sound_answered t boards board moment c word stamp s goes order timely stamped
    (word_at (slice_get boards (board_place board)) c word) refl

-- ---- an acknowledgement

pub alike : {X : Type 0} (of : Board → X) (own : Bool) (b new : Board) → of new ≡ of b
    → of (if own then new else b) ≡ of b
alike of true b new e = e
alike of false b new e = refl

-- what a board and the board with a stamp kept have alike, the acknowledged board has
pub same_acknowledged : {X : Type 0} (of : Board → X) (b : Board) (c : Colour) (stamp : ℕ)
    → of (record b { kept = Some stamp }) ≡ of b →
    of (acknowledged b c stamp) ≡ of b
same_acknowledged of b c stamp e = alike of (same_colour c (to_move b)) b (record b { kept = Some stamp }) e

halves_of-changed_at : (t : Terms) (boards : List Board) (k : ℕ) (change : Board → Board) → AreSoundBoards t boards
    → ((b : Board) → (change b).list ≡ b.list) → ((b : Board) → (change b).all ≡ b.all) →
    halves_of (changed_at boards k change) ≡ halves_of boards
halves_of-changed_at t [] k change s lists all = refl
halves_of-changed_at t (b ∷ []) zero change s lists all = λ i. halves_from (lists b i) [] (all b i)
halves_of-changed_at t (b ∷ []) (suc k) change s lists all = refl
halves_of-changed_at t (b ∷ c ∷ []) zero change s lists all = λ i. halves_from (lists b i) c.list (all b i)
halves_of-changed_at t (b ∷ c ∷ []) (suc zero) change s lists all = λ i. halves_from b.list (lists c i) b.all
halves_of-changed_at t (b ∷ c ∷ []) (suc (suc k)) change s lists all = refl
halves_of-changed_at t (b ∷ c ∷ d ∷ more) k change s lists all = absurd (never_three t.variant b c d more s.numbers)

pub sound_acked : (t : Terms) (boards : List Board) (board : BoardNumber) (c : Colour) (stamp : ℕ)
    → AreSoundBoards t boards → IsStamp stamp → AreSoundBoards t (boards_acked boards board c stamp)
sound_acked t boards board c stamp s stamped =
    let k : ℕ = board_place board in
    let after : Board → Board = λ b. acknowledged b c stamp in
    let halves : halves_of (boards_acked boards board c stamp) ≡ halves_of boards =
    halves_of-changed_at t boards k after s (λ b. same_acknowledged (λ x. x.list) b c stamp refl)
    (λ b. same_acknowledged (λ x. x.all) b c stamp refl) in
    record {
      numbers =
          map-changed_at (λ (b : Board). b.number) boards k after
          (λ b. same_acknowledged (λ x. x.number) b c stamp refl)
          ∙ s.numbers;
      terms =
          All-changed_at (λ (b : Board). b.terms ≡ t) boards k after
          (λ b there same. same_acknowledged (λ x. x.terms) b c stamp refl ∙ same) s.terms;
      scores =
          All-changed_at IsTrueScore boards k after (λ b there score. IsTrueScore-acknowledged b c stamp score stamped)
          s.scores;
      few = All-changed_at (λ (b : Board). b.played ≤ 1200) boards k after
          (λ b there h.
          let same : (acknowledged b c stamp).played ≡ b.played = same_acknowledged (λ x. x.played) b c stamp refl in
          omega (arith, same, h))
          s.few;
      together =
          subst AreSame
          (sym
          (map-changed_at (λ (b : Board). b.all) boards k after (λ b. same_acknowledged (λ x. x.all) b c stamp refl)))
          s.together;
      halves = subst (AllByRecursion (IsHalf t.variant)) (sym halves) s.halves;
      played = subst (CanBePlayed t) (sym halves) s.played;
    }
