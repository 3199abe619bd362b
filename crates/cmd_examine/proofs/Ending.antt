-- How `examine` ends, by what became of the store, of its game and of the lines.
use Rattle.std.proofs.Common.{◌≡◌, ℕ, ◌<◌, ◌^◌, List, [], Option, Some, None, Result, Ok, Err, refl, sym, subst, inl, inr}
use Rattle.std.specs.Prelude.{IfOk, IfSome, option_map}
use Rattle.std.specs.Io.KnownBytes.{Appends}
use Rattle.std.proofs.KnownBytes.{Appends-trans}
use Rattle.edge_traits.specs.Pairs.{Records}
use Rattle.game_records.specs.declared.stored_game.StoredGame.{StoredGame}
use Rattle.lobby_shelf.specs.Numbers.{stored_game}
use Rattle.cmd_lines.specs.LineCommandEnds.{LineCommandEnds}
use Rattle.cmd_lines.specs.Reading.{AfterSend}
use Rattle.cmd_lines.specs.declared.end.End.{End}
use Rattle.cmd_lines.specs.declared.end.End.TheVariants.{Done, ReadFault, WriteFault, Memory, BadLine, Spent}
use Rattle.cmd_lines.proofs.Sending.{AppendsFront-behind}
use Rattle.lobby_load.specs.BadRows.{IsGoodStore}
use Rattle.lobby_load.specs.Loaded.{AreSpelled, HasLoaded}
use Rattle.lobby_load.specs.Telling.{TellsBadRecord, WroteFront, bad_record_line}
use Rattle.lobby_load.specs.declared.refusals.StoreFault.{StoreFault}
use Rattle.lobby_load.specs.declared.refusals.StoreFault.TheVariants as fault
use Rattle.lobby_state.specs.Lobby.{LobbyState}
use Rattle.lobby_state.specs.WellFormed.{IsWellFormed}
use Rattle.cmd_store.specs.declared.outcome.Outcome.{Outcome}
use Rattle.cmd_store.specs.declared.outcome.Outcome.TheVariants as outcome
use Rattle.cmd_store.specs.Outcomes.{outcome_of_fault}
use Rattle.examine_board.specs.Exam.{ExamState, exam_opened}
use Rattle.cmd_examine.specs.ExamineEnds.{AnswersFrom, AreShown, ExamineEnds, ExaminesExam, ExaminesOpened, HasNone, IsShownInPart, IsCutOffFirst, IsGameOf, TellsNone, no_such_game}
use Rattle.cmd_examine.specs.Texts.{examine_lines, shown_text}
use Rattle.cmd_examine.proofs.Stored.{found_is, none_is}

-- ---- the lines of an exam

-- the lines that show it were written, and the rest was answered
pub shown_answered : (e : ExamState) (left left' written shown written' : Option (List ℕ)) (end : End)
    → Appends written shown (shown_text e)
    → LineCommandEnds (examine_lines e) left left' shown written' end → AnswersFrom e left left' written written' end
shown_answered e left left' written shown written' Done o h = record { shown = shown; opening = o; answers = h }
shown_answered e left left' written shown written' ReadFault o h = record { shown = shown; opening = o; answers = h }
shown_answered e left left' written shown written' WriteFault o h =
    inl (record { shown = shown; opening = o; answers = h })
shown_answered e left left' written shown written' Memory o h = inl (record { shown = shown; opening = o; answers = h })
shown_answered e left left' written shown written' BadLine o h = record { shown = shown; opening = o; answers = h }
shown_answered e left left' written shown written' Spent o h = record { shown = shown; opening = o; answers = h }

-- they weren't all written
pub not_shown : (A : Type 0) (e : ExamState) (left written written' : Option (List ℕ)) (end : End)
    → AfterSend {A = A} written written' (shown_text e) (Err end)
    → AnswersFrom e left left written written' end
not_shown A e left written written' Done h = absurd h
not_shown A e left written written' ReadFault h = absurd h
not_shown A e left written written' WriteFault h = inr (record { unread = refl; text = h })
not_shown A e left written written' Memory h = inr (record { unread = refl; text = h })
not_shown A e left written written' BadLine h = absurd h
not_shown A e left written written' Spent h = absurd h

-- ---- behind an opening of the store that wrote nothing

module _ (table : Option Records) (number : ℕ) (left left' written mid written' : Option (List ℕ))
    (none : Appends written mid []) where
  answered : (e : ExamState) (end : End) → AreShown e left left' mid written' end
      → AreShown e left left' written written' end
  answered e end h =
      record {
        shown = h.shown;
        opening = Appends-trans written mid h.shown [] (shown_text e) none h.opening;
        answers = h.answers;
      }

  cut : (due : List ℕ) → IsShownInPart due left left' mid written' → IsShownInPart due left left' written written'
  cut due h = record { unread = h.unread; text = AppendsFront-behind written mid written' [] due none h.text }

  game_ends : (game : StoredGame) (end : End) → IsGameOf table number game
      → AnswersFrom (exam_opened game) left left' mid written' end
      → ExamineEnds table number left left' written written' (outcome.Read end)
  game_ends game Done stored h = record { game = game; stored = stored; answers = answered (exam_opened game) Done h }
  game_ends game ReadFault stored h =
      record { game = game; stored = stored; answers = answered (exam_opened game) ReadFault h }
  game_ends game WriteFault stored (inl h) =
      inl (record { game = game; stored = stored; answers = answered (exam_opened game) WriteFault h })
  game_ends game WriteFault stored (inr h) =
      inr (record {
        due = shown_text (exam_opened game);
        is_due = inr (inr (inr (game, stored, refl)));
        cut = cut (shown_text (exam_opened game)) h;
      })
  game_ends game Memory stored (inl h) =
      inl (record { game = game; stored = stored; answers = answered (exam_opened game) Memory h })
  game_ends game Memory stored (inr h) =
      inr (record {
        due = shown_text (exam_opened game);
        is_due = inr (inr (inr (game, stored, refl)));
        cut = cut (shown_text (exam_opened game)) h;
      })
  game_ends game BadLine stored h =
      record { game = game; stored = stored; answers = answered (exam_opened game) BadLine h }
  game_ends game Spent stored h = record { game = game; stored = stored; answers = answered (exam_opened game) Spent h }

  examined : (game : StoredGame) (end : Outcome) → IsGameOf table number game
      → ExaminesExam (exam_opened game) left left' mid written' end
      → ExamineEnds table number left left' written written' end
  examined game (outcome.Read end) stored h = game_ends game end stored h
  examined game outcome.BadRecord stored h = absurd h
  examined game outcome.KeeperFault stored h = absurd h
  examined game outcome.NoGame stored h = absurd h

  none_told : (end : Outcome) → HasNone table number → left' ≡ left → TellsNone mid written' end
      → ExamineEnds table number left left' written written' end
  none_told outcome.NoGame is unread h =
      record { unread = unread; none = is; text = Appends-trans written mid written' [] no_such_game none h }
  none_told (outcome.Read WriteFault) is unread h =
      inr (record {
        due = no_such_game;
        is_due = inr (inr (inl (is, refl)));
        cut = cut no_such_game (record { unread = unread; text = h });
      })
  none_told (outcome.Read Memory) is unread h =
      inr (record {
        due = no_such_game;
        is_due = inr (inr (inl (is, refl)));
        cut = cut no_such_game (record { unread = unread; text = h });
      })
  none_told (outcome.Read Done) is unread h = absurd h
  none_told (outcome.Read ReadFault) is unread h = absurd h
  none_told (outcome.Read BadLine) is unread h = absurd h
  none_told (outcome.Read Spent) is unread h = absurd h
  none_told outcome.BadRecord is unread h = absurd h
  none_told outcome.KeeperFault is unread h = absurd h

  no_room : (end : Outcome) → left' ≡ left → written' ≡ mid → end ≡ outcome.Read Memory
      → ExamineEnds table number left left' written written' end
  no_room end unread same is =
      subst (λ (o : Outcome). ExamineEnds table number left left' written written' o) (sym is)
      (inr (record {
        due = [];
        is_due = inl refl;
        cut = record { unread = unread; text = (0, subst (λ w. Appends written w []) (sym same) none) };
      }))

  -- the store was opened, and the game of that number examined, if there is one
  pub store_examined : {E : Type 0} (lobby : LobbyState) (found : Result (Option ExamState) E) (end : Outcome)
      → number < 2 ^ 64 → IsWellFormed lobby → AreSpelled lobby
      → IfSome table (λ told. HasLoaded told lobby) → IfSome table IsGoodStore
      → IfOk found (λ f. f ≡ option_map exam_opened (stored_game lobby.shelf.games number))
      → ExaminesOpened found left left' mid written' end → ExamineEnds table number left left' written written' end
  store_examined {E} lobby found end small formed spelled loaded good is h =
      by found (stored_game lobby.shelf.games number) refl is h
    where
      by : (f : Result (Option ExamState) E) (at : Option StoredGame) → stored_game lobby.shelf.games number ≡ at
          → IfOk f (λ it. it ≡ option_map exam_opened at)
          → ExaminesOpened f left left' mid written' end → ExamineEnds table number left left' written written' end
      by (Ok (Some e)) (Some game) stands same g =
          let own : e ≡ exam_opened game = cc in
          examined game end (found_is table lobby number small formed spelled loaded good game stands)
          (subst (λ (x : ExamState). ExaminesExam x left left' mid written' end) own g)
      by (Ok (Some e)) None stands same g = absurd cc
      by (Ok None) (Some game) stands same g = absurd cc
      by (Ok None) None stands same g =
          none_told end (none_is table lobby number small formed spelled loaded good stands) g.0 g.1
      by (Err want) at stands same g = no_room end g.0 g.1 g.2

-- ---- the store wasn't opened

front_told : (table : Option Records) (number : ℕ) (left written written' : Option (List ℕ))
    → WroteFront table written written' → IsCutOffFirst table number left left written written'
front_told table number left written written' h =
    record {
      due = bad_record_line h.0;
      is_due = inr (inl (h.0, h.1, refl));
      cut = record { unread = refl; text = h.2 };
    }

pub not_opened : (A : Type 0) (table : Option Records) (number : ℕ) (left written written' : Option (List ℕ))
    (why : StoreFault)
    → TellsBadRecord {A = A} table written written' (Err why)
    → ExamineEnds table number left left written written' (outcome_of_fault why)
not_opened A table number left written written' fault.BadRecord told =
    record { unread = refl; key = told.0; bad = told.1; text = told.2 }
not_opened A table number left written written' fault.KeeperFault told = (refl, told)
not_opened A table number left written written' fault.WriteFault told =
    inr (front_told table number left written written' told)
not_opened A table number left written written' fault.Memory (inl none) =
    inr (record { due = []; is_due = inl refl; cut = record { unread = refl; text = (0, none) } })
not_opened A table number left written written' fault.Memory (inr told) =
    inr (front_told table number left written written' told)
