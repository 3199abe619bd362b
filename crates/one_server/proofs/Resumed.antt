-- A Resume that is answered Started restores the stored game that is meant.
use Rattle.std.proofs.Common.{◌≡◌, ℕ, ◌≤◌, ◌<◌, ◌^◌, Bool, true, false, List, [], ◌∷◌, All, length, set, refl, ap, sym, subst, ◌∙◌, arith, length-set}
use Rattle.std.specs.List.{slice_get}
use Rattle.std.specs.Option.{option_map}
use Rattle.std.specs.Prelude.{IfSome, cond, unwrap_or}
use Rattle.std.specs.declared.option.Option.{Option}
use Rattle.std.specs.declared.option.Option.TheVariants.{None, Some}
use Rattle.std.specs.declared.result.Result.{Result}
use Rattle.std.specs.declared.result.Result.TheVariants.{Ok, Err}
use Rattle.std.proofs.lemmas.List.Elements.{All-nil, All-cons, All-head, All-tail, All-weaker}
use Rattle.chess_model.specs.declared.variant.Terms.{Terms}
use Rattle.chess_model.specs.MoveList.{HalfMove}
use Rattle.chess_model.specs.Position.{position_after}
use Rattle.fics_words.specs.Effect.{answered, first_cause}
use Rattle.fics_words.specs.declared.refusal.Refusal.{Refusal}
use Rattle.game_board.specs.Board.{Board, position_of}
use Rattle.game_records.specs.declared.stored_game.Half.{Half}
use Rattle.game_records.specs.declared.stored_game.StoredGame.{StoredGame}
use Rattle.game_records.specs.Replays.{without_charges, position_on}
use Rattle.lobby_shelf.specs.declared.shelved.Shelved.{Shelved}
use Rattle.lobby_shelf.proofs.Meaning.{games-found}
use Rattle.histories.specs.Core.{reply, after}
use Rattle.histories.proofs.Parts.{get_set_same, get_set_else}
use Rattle.histories.proofs.Steps.{after_together, reply_alone, reply_together}
use Rattle.desk_boards.specs.Halves.{halves_of, list_on}
use Rattle.desk_boards.specs.Sound.{AreSoundBoards}
use Rattle.desk_boards.proofs.SoundHalves.{all_of, each_of}
use Rattle.linked_desk.specs.Desk.{GameState, DeskState, Occupant, occupant, occupant_of}
use Rattle.linked_desk.specs.ShelfLaws.{IsOnAgain}
use Rattle.linked_desk.specs.Sound.{HasSoundGame, IsSoundGame}
use Rattle.linked_desk.proofs.KeepsRestored.{players_restored, sound_restored}
use Rattle.linked_desk.proofs.Resuming.{resuming_restores}
use Rattle.lobby_state.specs.declared.acts.Plan.{Plan}
use Rattle.lobby_state.specs.declared.acts.Plan.TheVariants.{Start, Clear, Resume, Ask}
use Rattle.lobby_state.specs.declared.acts.PairAct.TheVariants.{Resume as ToResume}
use Rattle.lobby_state.specs.declared.member.Member.{Member}
use Rattle.lobby_state.specs.Lobby.{LobbyState, free_slot, member_of, named}
use Rattle.lobby_state.specs.Planned.{IsPlanned}
use Rattle.lobby_state.specs.Plans.{committed, desk_of, plan_of}
use Rattle.lobby_state.specs.Resume.{Resuming, asking_to_resume, resuming_at, meant, resume_at, resume_effect, resuming_of, resuming_plan, would_start}
use Rattle.lobby_state.specs.WellFormed.{IsWellFormed}
use Rattle.lobby_state.proofs.KeepsPlans.{plan_of-is}
use Rattle.one_server.specs.declared.act.Timed.{Timed}
use Rattle.one_server.specs.declared.part.Part.{Part}
use Rattle.one_server.specs.declared.part.Part.TheVariants.{Lobby as TheLobby, Desk as ADesk}
use Rattle.one_server.specs.declared.reply.PairReply.{PairReply}
use Rattle.one_server.specs.declared.reply.PairReply.TheVariants.{Started, Kept, Freed, Cleared}
use Rattle.one_server.specs.declared.reply.Reply.TheVariants.{Pair as PairReplied}
use Rattle.one_server.specs.Acts.{planned_desk}
use Rattle.one_server.specs.CarryingProof.{carried_by}
use Rattle.one_server.specs.Clearing.{clear_reply}
use Rattle.one_server.specs.Desks.{has_ended, nobody_looks_on}
use Rattle.one_server.specs.House.{house, pair_desk, pair_lobby, pair_reply}
use Rattle.one_server.specs.Plans.{alone_reply}
use Rattle.one_server.specs.ResumedGames.{IsRestored, IsResumed, ResumesAsLeft, resuming}
use Rattle.one_server.specs.Resuming.{CanResumeAt, resume_desk, desk_with_game}
use Rattle.one_server.specs.Whole.{IsWhole}
use Rattle.one_server.specs.WholeProof.{desk_at, formed_is, place_is}

-- ---- a game that is on again has the boards of the stored one

both : {X : Type 0} (P Q R : X → Type 0) (xs : List X) → ((x : X) → P x → Q x → R x) → All P xs → All Q xs → All R xs
both P Q R [] step ps qs = All-nil R
both P Q R (x ∷ xs) step ps qs =
    All-cons R x xs (step x (All-head P x xs ps) (All-head Q x xs qs))
    (both P Q R xs step (All-tail P x xs ps) (All-tail Q x xs qs))

at_position : (t : Terms) (halves : List Half) (b : Board) → b.terms ≡ t → without_charges halves ≡ b.all
    → position_of b ≡ position_on t.variant halves b.number
unfolding position_of
at_position t halves b own all =
    ap (λ (x : Terms). position_after x.variant b.all b.number) own
    ∙ ap (λ (moves : List HalfMove). position_after t.variant moves b.number) (sym all)

is_restored : (stored : StoredGame) (moment : ℕ) (game : GameState) → IsSoundGame game → IsOnAgain stored moment game
    → IsRestored stored moment game
is_restored stored moment game s again =
    let sound : AreSoundBoards stored.terms game.boards =
    subst (λ (t : Terms). AreSoundBoards t game.boards) again.terms s.boards in
    record {
      again = again;
      lists =
          subst (λ (h : List Half). All (λ (b : Board). b.list ≡ list_on b.number h) game.boards) again.halves
          (All-weaker (λ (b : Board). list_on b.number (halves_of game.boards) ≡ b.list)
          (λ (b : Board). b.list ≡ list_on b.number (halves_of game.boards))
          (λ b e. sym e) game.boards (each_of stored.terms game.boards sound));
      positions =
          subst (λ (h : List Half).
          All (λ (b : Board). position_of b ≡ position_on stored.terms.variant h b.number) game.boards)
          again.halves
          (both (λ (b : Board). b.terms ≡ stored.terms) (λ (b : Board). without_charges (halves_of game.boards) ≡ b.all)
          (λ (b : Board). position_of b ≡ position_on stored.terms.variant (halves_of game.boards) b.number) game.boards
          (λ b own all. at_position stored.terms (halves_of game.boards) b own all) sound.terms
          (all_of stored.terms game.boards sound));
    }

-- ---- what a Resume plans

-- a Resume plans no new game, and to resume no other game than the one that is meant
abbrev PlansOf : Option Shelved → Plan → Type 0
PlansOf row (Start desk serial terms seats) = ⊥
PlansOf row (Clear session desk serial) = Unit {0}
PlansOf row (Resume desk serial number terms seats) = option_map (λ (r : Shelved). r.number) row ≡ Some number
PlansOf row (Ask from to number) = Unit {0}

plans_at : (lobby : LobbyState) (row : Shelved) (slot : Option ℕ) → PlansOf (Some row) (resume_at lobby row slot)
plans_at lobby row None = tt
plans_at lobby row (Some slot) = refl

plans_if : (lobby : LobbyState) (r : Resuming) (starts : Bool)
    → PlansOf (Some r.row) (cond starts (resuming_at lobby r.row) (asking_to_resume lobby r.caller r.other r.row)).reply
plans_if lobby r true = plans_at lobby r.row (free_slot lobby)
plans_if lobby r false = tt

plans_by : (lobby : LobbyState) (caller other : Option Member) (row : Option Shelved)
    → PlansOf row (resuming_plan lobby (resuming_of caller other row))
plans_by lobby None other row = tt
plans_by lobby (Some caller) None row = tt
plans_by lobby (Some caller) (Some other) None = tt
plans_by lobby (Some caller) (Some other) (Some row) =
    plans_if lobby (record { caller = caller; other = other; row = row }) (would_start lobby caller row)

the_plan : (refused : Option Refusal) (plan given : Plan) → answered refused plan ≡ Ok given → plan ≡ given
the_plan None plan given e = cc
the_plan (Some cause) plan given e = absurd cc

plans_of : (lobby : LobbyState) (session : ℕ) (name : List ℕ) (plan : Plan)
    → plan_of lobby session (ToResume name) ≡ Ok plan → PlansOf (meant lobby (member_of lobby session) name) plan
plans_of lobby session name plan is =
    let effect = resume_effect lobby session name in
    subst (PlansOf (meant lobby (member_of lobby session) name))
    (the_plan (first_cause effect.causes) effect.reply plan is)
    (plans_by lobby (member_of lobby session) (named lobby name) (meant lobby (member_of lobby session) name))

not_cleared : (is_over is_alone : Bool) → cond is_over (cond is_alone Cleared Freed) Kept ≡ Started → ⊥
not_cleared true true e = absurd cc
not_cleared true false e = absurd cc
not_cleared false is_alone e = absurd cc

not_alone : (plan : Plan) → alone_reply plan ≡ Started → ⊥
not_alone (Start desk serial terms seats) e = absurd cc
not_alone (Clear session desk serial) e = absurd cc
not_alone (Resume desk serial number terms seats) e = absurd cc
not_alone (Ask from to number) e = absurd cc

said : (one another : PairReply) → Some (PairReplied one) ≡ Some (PairReplied another) → one ≡ another
said one another e = cc

one_occupant : (one another : Occupant) → Some one ≡ Some another → one ≡ another
one_occupant one another e = cc

-- ---- the step

module _ (parts : List Part) (session moment : ℕ) (name : List ℕ) (lobby : LobbyState) (w : IsWhole parts)
    (first : slice_get parts 0 ≡ Some (TheLobby lobby)) (timely : moment ≤ 2 ^ 48)
    (e : reply house parts session (resuming name moment) ≡ Some (PairReplied Started)) where
  abbrev timed : Timed
  timed = resuming name moment

  not_refused : (cause : Refusal) → plan_of lobby session (ToResume name) ≡ Err cause → ⊥
  not_refused cause is =
      let answer =
      reply_alone house parts session timed (TheLobby lobby) first (ap planned_desk is)
      ∙ ap (λ p. Some (pair_reply p None)) is in
      let bad = sym answer ∙ e in
      absurd cc

  not_nowhere : (plan : Plan) → plan_of lobby session (ToResume name) ≡ Ok plan → desk_of plan ≡ None → ⊥
  not_nowhere plan is none =
      let answer =
      reply_alone house parts session timed (TheLobby lobby) first (ap planned_desk is ∙ none)
      ∙ ap (λ p. Some (pair_reply p None)) is in
      not_alone plan (said (alone_reply plan) Started (sym answer ∙ e))

  by_plan : (plan : Plan) → plan_of lobby session (ToResume name) ≡ Ok plan → IsPlanned lobby plan
      → PlansOf (meant lobby (member_of lobby session) name) plan
      → IsResumed parts (after house parts session timed) session moment name
  by_plan (Start desk serial terms seats) is p of = absurd of
  by_plan (Ask from to number) is p of = absurd (not_nowhere (Ask from to number) is refl)
  by_plan (Clear by number serial) is p of =
      let found = desk_at parts number w p in
      let answer =
      reply_together house parts session timed (TheLobby lobby) (ADesk found.0) number first (ap planned_desk is)
      found.1
      ∙ ap (λ r. Some (pair_reply r (Some (ADesk found.0)))) is in
      absurd (not_cleared (has_ended found.0 serial) (nobody_looks_on found.0)
      (said (clear_reply found.0 serial) Started (sym answer ∙ e)))
  by_plan (Resume number serial stored terms seats) is p of =
      let plan : Plan = Resume number serial stored terms seats in
      let formed : IsWellFormed lobby = formed_is parts lobby w first in
      let found = desk_at parts number w p.is_desk in
      let c : CanResumeAt lobby found.0 stored seats =
      carried_by lobby plan number found.0 formed refl (place_is parts lobby w first number (ADesk found.0) found.1).1
      p in
      let put : LobbyState = committed lobby plan None true in
      let desk : DeskState = resume_desk lobby found.0 serial stored seats moment in
      let front : List Part = set parts 0 (TheLobby put) in
      let later : after house parts session timed ≡ set front number (ADesk desk) =
      after_together house parts session timed (TheLobby lobby) (ADesk found.0) number first (ap planned_desk is)
      found.1
      ∙ ap
      (λ r.
      set (set parts 0 (TheLobby (pair_lobby lobby r (Some (ADesk found.0))))) number
      (ADesk (pair_desk lobby r found.0 moment)))
      is in
      let again = resuming_restores.stored found.0 serial c.game seats moment c.replays c.players in
      let there : desk ≡ again.0 =
      ap (λ (o : Option StoredGame). desk_with_game found.0 serial o seats moment) c.lies
      ∙ ap (λ (o : Option DeskState). unwrap_or o found.0) again.1 in
      let game : GameState = again.2.0 in
      let plays : again.0.game ≡ Some game = again.2.1 in
      let sound : IsSoundGame game =
      subst (λ (o : Option GameState). IfSome o IsSoundGame) plays
      (subst (λ (o : Option DeskState). IfSome o HasSoundGame) again.1
      (sound_restored found.0 serial c.game seats moment c.replays c.pairs c.names timely)) in
      let listed : option_map occupant again.0.game
      ≡ Some (record { serial = serial; terms = c.game.terms; seats = seats }) =
      subst (λ (o : Option DeskState).
      IfSome o (λ d. occupant_of d ≡ Some (record { serial = serial; terms = c.game.terms; seats = seats })))
      again.1
      (players_restored found.0 serial c.game seats moment) in
      let own : occupant game ≡ record { serial = serial; terms = c.game.terms; seats = seats } =
      one_occupant (occupant game) (record {
        serial = serial;
        terms = c.game.terms;
        seats = seats;
      }) (sym (ap (option_map occupant) plays) ∙ listed) in
      record {
        lobby = lobby;
        was = first;
        lobby_later = put;
        is =
            ap (λ (xs : List Part). slice_get xs 0) later
            ∙ get_set_else front number 0 (ADesk desk) (λ z. omega (arith, p.is_desk))
            ∙ get_set_same parts 0 (TheLobby put) (omega (arith, w.count));
        number = stored;
        least = of;
        stored = c.game;
        lay = c.lies;
        gone = (games-found lobby.shelf formed.shelf.sound).gone stored;
        place = number;
        vacant = found.0;
        stood = found.1;
        empty = c.vacant;
        desk = desk;
        stands =
            let all : length front ≡ length parts = length-set parts 0 (TheLobby put) in
            let inside : number < length front = omega (arith, all, w.count, p.is_desk) in
            ap (λ (xs : List Part). slice_get xs number) later ∙ get_set_same front number (ADesk desk) inside;
        game = game;
        plays = ap (λ (d : DeskState). d.game) there ∙ plays;
        restored = is_restored c.game moment game sound again.2.2;
        serial = ap (λ (o : Occupant). o.serial) own ∙ p.is_next;
      }

  by_result : (r : Result Plan Refusal) → plan_of lobby session (ToResume name) ≡ r
      → IsResumed parts (after house parts session timed) session moment name
  by_result (Err cause) is = absurd (not_refused cause is)
  by_result (Ok plan) is =
      by_plan plan is (plan_of-is lobby session (ToResume name) plan (formed_is parts lobby w first) tt is)
      (plans_of lobby session name plan is)

pub resumes_as_left : (parts : List Part) → IsWhole parts → ResumesAsLeft parts
resumes_as_left parts w = λ session moment name timely e.
    by_result parts session moment name w.lobby w w.first timely e (plan_of w.lobby session (ToResume name)) refl
