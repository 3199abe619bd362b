-- Each desk accepts exactly legal moves.
use Rattle.std.proofs.Common.{◌≡◌, ℕ, ◌≤◌, List, Option, Some, None, Result, Ok, Err, refl, ap, sym, subst, ◌∙◌}
use Rattle.std.specs.Prelude.{IfSome, slice_get}
use Rattle.std.specs.Option.{option_and_then, option_map}
use Rattle.std.proofs.lemmas.Option.{slice_get_within}
use Rattle.chess_model.specs.declared.moves.Move.{Move}
use Rattle.chess_model.specs.declared.moves.MoveWord.{MoveWord}
use Rattle.chess_model.specs.Allowed.{Allowed, IsLegal}
use Rattle.chess_model.specs.Answer.{IsAnswer}
use Rattle.fics_words.specs.Effect.{unless}
use Rattle.fics_words.specs.declared.refusal.Refusal.{Refusal}
use Rattle.game_board.specs.Board.{Board, position_of}
use Rattle.game_board.specs.Play.{next_charge, with_half_move}
use Rattle.game_board.specs.Scoresheet.{IsTrueScore}
use Rattle.histories.specs.Core.{after, new_first, new_second, other_of, part_at, put, reply, second_of}
use Rattle.histories.proofs.Histories.{stays_whole}
use Rattle.histories.proofs.Parts.{get_set_same}
use Rattle.desk_boards.proofs.BoardLists.{All-at}
use Rattle.linked_desk.specs.declared.acts.DeskAct.TheVariants as act
use Rattle.linked_desk.specs.declared.acts.DeskReply.{DeskReply}
use Rattle.linked_desk.specs.declared.acts.DeskReply.TheVariants.{Done}
use Rattle.linked_desk.specs.Acts.{desk_after}
use Rattle.linked_desk.specs.Desk.{DeskState, GameState, moment_at, seat_of}
use Rattle.linked_desk.specs.Playing.{game_moved, moved_by, seat_word, with_cleared, word_by}
use Rattle.linked_desk.specs.Seats.{board_of, colour_at}
use Rattle.linked_desk.specs.Sound.{IsSoundGame}
use Rattle.fics_words.specs.Boards.{board_place}
use Rattle.desk_boards.specs.Boards.{boards_after, word_at}
use Rattle.move_reader.specs.Reading.{reading}
use Rattle.one_server.specs.declared.act.Timed.{Timed}
use Rattle.one_server.specs.declared.part.Part.{Part}
use Rattle.one_server.specs.declared.part.Part.TheVariants.{Desk as ADesk}
use Rattle.one_server.specs.declared.reply.Reply.TheVariants as reply
use Rattle.one_server.specs.Acts.{desk_reply}
use Rattle.one_server.specs.House.{house}
use Rattle.one_server.specs.Laws.{HoldsInEachState}
use Rattle.one_server.specs.LawfulProof.{house_lawful}
use Rattle.one_server.specs.Whole.{IsWhole}
use Rattle.rules_reading.specs.ReadsBack.{IsReadAs, pretty_in}
use Rattle.rules_reading.proofs.ReadBack.{reads_back}
use Rattle.desk_laws.specs.LegalMoves.{AcceptsLegalMoves, IsLegalMove, IsPlayed, IsToMove, TakesLegalMoves, playing}
use Rattle.desk_laws.proofs.Boards.{board_after, boards_moved, charged_so}
use Rattle.desk_laws.proofs.Words.{accepted_by, answer_is, desk_said, desk_then, nothing_refuses, refusing, said, takes_word, word_taken}
use Rattle.desk_boards.proofs.StaySound.{played_there}
use Rattle.rules_reading.proofs.Answered.{answer_is as is_answer}

reply_done : (r : Result DeskReply Refusal) → Some (desk_reply r) ≡ Some (reply.Desk Done) → r ≡ Ok Done
reply_done (Ok answer) e = cc
reply_done (Err cause) e = absurd cc

-- a position to which legal half-moves led has for each allowed one a text
reads : (b : Board) (m : Move) → IsLegal b.terms.variant b.all → Allowed (position_of b) m
    → IsReadAs (position_of b) (pretty_in (position_of b) m) m
unfolding position_of
reads b m legal allowed = reads_back b.terms.variant b.all b.number m legal allowed

module _ (parts : List Part) (whole : IsWhole parts) (number : ℕ) (desk : DeskState) (game : GameState)
    (stands : slice_get parts number ≡ Some (ADesk desk)) (plays : desk.game ≡ Some game) where
  sound : IsSoundGame game
  sound = subst (λ (o : Option GameState). IfSome o IsSoundGame) plays (whole.places number (ADesk desk) stands).1.sound

  few : (k : ℕ) (b : Board) → slice_get game.boards k ≡ Some b → b.played ≤ 1200
  few k b e = All-at (λ (x : Board). x.played ≤ 1200) game.boards k b sound.boards.few e

  score : (k : ℕ) (b : Board) → slice_get game.boards k ≡ Some b → IsTrueScore b
  score k b e = All-at IsTrueScore game.boards k b sound.boards.scores e

  module _ (session moment : ℕ) (word : MoveWord) (stamp : Option ℕ) where
    abbrev timed : Timed
    timed = playing number game word stamp moment

    no_second : second_of house parts session timed ≡ None
    no_second = ap (option_and_then (λ (p : Part). house.second p session timed)) stands

    no_other : other_of house parts session timed ≡ None
    no_other = ap (part_at house parts) no_second

    reply_is : reply house parts session timed
        ≡ Some (desk_reply (said (seat_of game session) game.ended (word_by game (seat_of game session) word)))
    reply_is =
        (λ i. option_map (λ (p : Part). house.answer p (no_other i) session timed) (stands i))
        ∙ ap (λ (r : Result DeskReply Refusal). Some (desk_reply r))
        (desk_said desk game session moment word stamp plays)

    first_is : new_first house parts session timed
        ≡ Some (ADesk (desk_after desk session moment game.serial (act.Move word stamp)))
    first_is = λ i. option_map (λ (p : Part). house.one p (no_other i) session timed) (stands i)

    later_desk : slice_get (after house parts session timed) number
        ≡ Some (ADesk (desk_after desk session moment game.serial (act.Move word stamp)))
    unfolding after
    later_desk =
        (λ i.
        slice_get
        (put house (put house parts (Some number) (first_is i)) (no_second i) (new_second house parts session timed))
        number)
        ∙ get_set_same parts number (ADesk (desk_after desk session moment game.serial (act.Move word stamp)))
        (slice_get_within parts number (ADesk desk) stands)

    -- the word of a seat of the running game stands for a half-move of its board
    module _ (seat : ℕ) (sits : seat_of game session ≡ Some seat) (runs : game.ended ≡ None) (m : Move)
        (is : seat_word game seat word ≡ Ok m) where
      by_seat : word_by game (seat_of game session) word ≡ Ok m
      by_seat = ap (λ (o : Option ℕ). word_by game o word) sits ∙ is

      none : refusing (seat_of game session) game.ended (word_by game (seat_of game session) word) ≡ None
      none =
          nothing_refuses seat m (seat_of game session) game.ended (word_by game (seat_of game session) word) sits runs
          by_seat

      accepted_reply : reply house parts session timed ≡ Some (reply.Desk Done)
      accepted_reply = reply_is ∙ (λ i. Some (desk_reply (said (sits i) (runs i) (by_seat i))))

      abbrev game_then : GameState
      game_then =
          game_moved desk.number (with_cleared seat game) moment (board_of seat) stamp (seat_word game seat word)

      desk_is : desk_after desk session moment game.serial (act.Move word stamp) ≡ record desk { game = Some game_then }
      desk_is =
          desk_then desk game session moment word stamp plays
          ∙ (λ i.
          unless (none i) desk (record desk { game = Some (moved_by desk.number game moment (sits i) word stamp) }))

      played_at : (b : Board) → slice_get game.boards (board_place (board_of seat)) ≡ Some b
          → IsPlayed (after house parts session timed) number seat (moment_at game moment) b m
      played_at b there = record {
        desk = record desk { game = Some game_then };
        stands = later_desk ∙ ap (λ (d : DeskState). Some (ADesk d)) desk_is;
        game = game_then;
        plays = refl;
        board = with_half_move b m (moment_at game moment) stamp;
        there =
            ap (λ (boards : List Board). slice_get boards (board_place (board_of seat)))
            (boards_moved desk.number (with_cleared seat game) moment (board_of seat) stamp (seat_word game seat word))
            ∙ (λ i.
            slice_get (boards_after game.boards (board_of seat) (moment_at game moment) stamp (is i))
            (board_place (board_of seat)))
            ∙ board_after game.boards (board_of seat) (moment_at game moment) stamp b m there;
        last = record { what = m; charge = next_charge b (moment_at game moment) stamp };
        half_moves = refl;
        is_move = refl;
        charged = charged_so b (moment_at game moment) stamp;
      }

    accepted_at : (seat : ℕ) (sits : seat_of game session ≡ Some seat) (runs : game.ended ≡ None) (m : Move)
        → word_by game (seat_of game session) word ≡ Ok m
        → IsLegalMove parts (after house parts session timed) number session moment game word
    accepted_at seat sits runs m e =
        let is : seat_word game seat word ≡ Ok m = sym (ap (λ (o : Option ℕ). word_by game o word) sits) ∙ e in
        let at = played_there (slice_get game.boards (board_place (board_of seat))) (colour_at seat) word m is in
        let by = word_taken at.0 (colour_at seat) word m (few (board_place (board_of seat)) at.0 at.1) at.2 in
        record {
          board = at.0;
          mover = record { seat = seat; sits = sits; board = at.1; turn = by.0; runs = runs; room = by.1 };
          half_move = m;
          answer = answer_is (position_of at.0) word m by.2;
          played = played_at seat sits runs m is at.0 at.1;
        }

    accepted : reply house parts session timed ≡ Some (reply.Desk Done)
        → IsLegalMove parts (after house parts session timed) number session moment game word
    accepted e =
        let by =
        accepted_by (seat_of game session) game.ended (word_by game (seat_of game session) word)
        (reply_done (said (seat_of game session) game.ended (word_by game (seat_of game session) word))
        (sym reply_is ∙ e)) in
        accepted_at by.0 by.1 by.2 by.3 by.4

    taken : (b : Board) (m : Move) → IsToMove game session b → IsAnswer (position_of b) word m
        → reply house parts session timed ≡ Some (reply.Desk Done)
    taken b m to answer =
        let is : seat_word game to.seat word ≡ Ok m =
        ap (λ (o : Option Board). word_at o (colour_at to.seat) word) to.board
        ∙ takes_word b (colour_at to.seat) word m to.turn to.room (is_answer (position_of b) word m answer) in
        accepted_reply to.seat to.sits to.runs m is

  legal_there : (session : ℕ) (b : Board) → IsToMove game session b → IsLegal b.terms.variant b.all
  legal_there session b to = (score (board_place (board_of to.seat)) b to.board).legal

  each_text : (session : ℕ) (b : Board) (m : Move) → IsToMove game session b → Allowed (position_of b) m
      → (word : MoveWord) × (reading (pretty_in (position_of b) m) ≡ Some word) × IsAnswer (position_of b) word m
  each_text session b m to allowed =
      let read = reads b m (legal_there session b to) allowed in
      (read.word, read.read, answer_is (position_of b) read.word m read.answered)

  pub takes_legal_moves : TakesLegalMoves parts number game
  takes_legal_moves = record { accepted = accepted; taken = taken; each = each_text; legal = legal_there }

pub accepts_legal_moves : HoldsInEachState AcceptsLegalMoves
accepts_legal_moves opening log whole legal number desk game stands plays =
    takes_legal_moves _ (stays_whole house house_lawful opening log whole legal) number desk game stands plays
