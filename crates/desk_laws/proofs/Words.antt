-- What a desk answers to a word, and why.
use Rattle.std.proofs.Common.{◌≡◌, ℕ, ◌==◌, ◌<◌, ◌≤◌, Bool, true, false, not, [], ◌∷◌, Option, Some, None, Result, Ok, Err, refl, ap, subst, ◌∙◌, arith, eq-eqb}
use Rattle.std.specs.Prelude.{if◌then◌else◌, is_none, is_some}
use Rattle.std.specs.Option.{option_map_or}
use Rattle.std.proofs.lemmas.Bool.Decides.{nat_tests}
use Rattle.chess_model.specs.declared.man.Colour.{Colour}
use Rattle.chess_model.specs.declared.man.Colour.TheVariants.{White, Black}
use Rattle.chess_model.specs.declared.moves.Move.{Move}
use Rattle.chess_model.specs.declared.moves.MoveWord.{MoveWord}
use Rattle.chess_model.specs.declared.moves.Rejection.{Rejection}
use Rattle.chess_model.specs.Answer.{IsAnswer}
use Rattle.chess_model.specs.Holdings.{same_colour}
use Rattle.chess_model.specs.Position.{Position}
use Rattle.chess_model.specs.WordAnswer.{IsWordAnswer, word_answer}
use Rattle.chess_model.proofs.WordsDecide.{word_answer-holds}
use Rattle.fics_words.specs.Effect.{answer_of, answered, first_cause, refused_by, state_of, unless}
use Rattle.fics_words.specs.declared.refusal.Refusal.{Refusal}
use Rattle.fics_words.specs.declared.refusal.Refusal.TheVariants.{GameOver, NotPlaying, NotYourTurn, TooManyMoves}
use Rattle.game_board.specs.Board.{Board, position_of, to_move}
use Rattle.game_board.specs.Causes.{in_words}
use Rattle.game_board.specs.Play.{move_answer, move_refused}
use Rattle.game_board.proofs.Sides.{in_words-ok, move_refused-none}
use Rattle.linked_desk.specs.declared.acts.DeskAct.TheVariants as act
use Rattle.linked_desk.specs.declared.acts.DeskReply.{DeskReply}
use Rattle.linked_desk.specs.declared.acts.DeskReply.TheVariants.{Done}
use Rattle.linked_desk.specs.declared.ended.Ended.{Ended}
use Rattle.linked_desk.specs.Acts.{at_desk, desk_after, desk_answer, effect_by, game_effect, missing_effect}
use Rattle.linked_desk.specs.Desk.{DeskState, GameState, seat_of}
use Rattle.linked_desk.specs.Playing.{moved_by, word_by}

-- ---- the desk

-- the first cause that refuses a word, by the seat, the end and what the word stands for
abbrev pub refusing : Option ℕ → Option Ended → Result Move Refusal → Option Refusal
refusing seat end answer = first_cause ((is_none seat, NotPlaying) ∷ (is_some end, GameOver) ∷ refused_by answer)

abbrev pub said : Option ℕ → Option Ended → Result Move Refusal → Result DeskReply Refusal
said seat end answer = answered (refusing seat end answer) Done

module _ (d : DeskState) (g : GameState) (session moment : ℕ) (word : MoveWord) (stamp : Option ℕ)
    (plays : d.game ≡ Some g) where
  pub desk_said : desk_answer d session moment g.serial (act.Move word stamp)
      ≡ said (seat_of g session) g.ended (word_by g (seat_of g session) word)
  desk_said =
      ap (λ (o : Option GameState). answer_of (effect_by d o session moment g.serial (act.Move word stamp))) plays
      ∙ ap
      (λ (b : Bool).
      answer_of (if b then at_desk d (game_effect d.number g session moment (act.Move word stamp))
      else missing_effect d (act.Move word stamp)))
      (eq-eqb g.serial g.serial refl)

  pub desk_then : desk_after d session moment g.serial (act.Move word stamp)
      ≡ unless (refusing (seat_of g session) g.ended (word_by g (seat_of g session) word)) d
      (record d { game = Some (moved_by d.number g moment (seat_of g session) word stamp) })
  desk_then =
      ap (λ (o : Option GameState). state_of d (effect_by d o session moment g.serial (act.Move word stamp))) plays
      ∙ ap
      (λ (b : Bool).
      state_of d
      (if b then at_desk d (game_effect d.number g session moment (act.Move word stamp))
      else missing_effect d (act.Move word stamp)))
      (eq-eqb g.serial g.serial refl)

-- what is accepted is said by a seat of a game that runs, and stands for a half-move
pub accepted_by : (seat : Option ℕ) (end : Option Ended) (answer : Result Move Refusal) → said seat end answer ≡ Ok Done
    → (s : ℕ) × (seat ≡ Some s) × (end ≡ None) × (m : Move) × (answer ≡ Ok m)
accepted_by None end answer e = absurd cc
accepted_by (Some s) (Some x) answer e = absurd cc
accepted_by (Some s) None (Ok m) e = (s, refl, refl, m, refl)
accepted_by (Some s) None (Err cause) e = absurd cc

pub nothing_refuses : (s : ℕ) (m : Move) (seat : Option ℕ) (end : Option Ended) (answer : Result Move Refusal)
    → seat ≡ Some s → end ≡ None → answer ≡ Ok m → refusing seat end answer ≡ None
nothing_refuses s m seat end answer sits runs is = λ i. refusing (sits i) (runs i) (is i)

-- ---- the board

unrefused : (o : Option Refusal) (r : Result Move Rejection) (m : Move) → option_map_or Err o (in_words r) ≡ Ok m
    → (o ≡ None) × (r ≡ Ok m)
unrefused None r m e = (refl, in_words-ok r m e)
unrefused (Some cause) r m e = absurd cc

none_refused : (t full : Bool) → first_cause ((not t, NotYourTurn) ∷ (full, TooManyMoves) ∷ []) ≡ None
    → (t ≡ true) × (full ≡ false)
none_refused true false e = (refl, refl)
none_refused true true e = absurd cc
none_refused false full e = absurd cc

same_colour-is : (a b : Colour) → same_colour a b ≡ true → b ≡ a
same_colour-is White White e = refl
same_colour-is White Black e = absurd cc
same_colour-is Black White e = absurd cc
same_colour-is Black Black e = refl

-- a word that a board answers by a half-move is one of who is to move, where there is room
pub word_taken : (b : Board) (c : Colour) (word : MoveWord) (m : Move) → b.played ≤ 1200 → move_answer b c word ≡ Ok m
    → (to_move b ≡ c) × (b.played < 1200) × (word_answer (position_of b) word ≡ Ok m)
unfolding move_answer
word_taken b c word m few e =
    let free = unrefused (move_refused b c) (word_answer (position_of b) word) m e in
    let both = none_refused (same_colour c (to_move b)) (b.played == 1200) free.0 in
    let full : (b.played == 1200) ≡ false = both.1 in
    let room : b.played < 1200 = grind (arith, nat_tests) in
    (same_colour-is c (to_move b) both.0, room, free.1)

pub takes_word : (b : Board) (c : Colour) (word : MoveWord) (m : Move) → to_move b ≡ c → b.played < 1200
    → word_answer (position_of b) word ≡ Ok m → move_answer b c word ≡ Ok m
unfolding move_answer
takes_word b c word m turn room is =
    ap (λ (o : Option Refusal). option_map_or Err o (in_words (word_answer (position_of b) word)))
    (move_refused-none b c turn room)
    ∙ ap in_words is

pub answer_is : (p : Position) (word : MoveWord) (m : Move) → word_answer p word ≡ Ok m → IsAnswer p word m
answer_is p word m e = subst (λ (r : Result Move Rejection). IsWordAnswer p word r) e (word_answer-holds p word)
