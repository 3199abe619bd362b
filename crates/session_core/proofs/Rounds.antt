-- The acts of a session that has entered: those that an input asks for, and then the round.
use Rattle.std.proofs.Common.{◌≡◌, ◌⊎◌, ℕ, suc, ◌&&◌, Bool, true, false, not, cond, if◌then◌else◌, List, [], ◌∷◌, ◌++◌, get_or, refl, sym, ap, subst, ◌∙◌, inl, inr, arith, Ok, Err, Result}
use Rattle.std.specs.Prelude.{All, Contains, ◌==◌}
use Rattle.std.specs.List.{filter}
use Rattle.std.specs.declared.option.Option.{Option}
use Rattle.std.specs.declared.option.Option.TheVariants.{None, Some}
use Rattle.std.proofs.Math.ListN.{get_or-append}
use Rattle.std.proofs.lemmas.Bool.{eqb-true}
use Rattle.std.proofs.lemmas.List.{length-append}
use Rattle.std.proofs.lemmas.List.Elements.{All-append, All-contains_itself, All-cons, All-nil}
use Rattle.chess_model.specs.declared.moves.MoveWord.{MoveWord}
use Rattle.command_words.specs.declared.command.Command.{Command}
use Rattle.fics_words.specs.Effect.{unless}
use Rattle.fics_words.specs.declared.refusal.Refusal.{Refusal}
use Rattle.fics_words.specs.declared.refusal.Refusal.TheVariants as refusal
use Rattle.histories.specs.declared.entry.Entry.{Entry}
use Rattle.linked_desk.specs.declared.acts.DeskAct.{DeskAct}
use Rattle.linked_desk.specs.declared.acts.DeskAct.TheVariants as desk_act
use Rattle.linked_desk.specs.declared.acts.DeskReply.TheVariants as desk_reply
use Rattle.lobby_state.specs.FindGame.{desk_of_game}
use Rattle.lobby_state.specs.Places.{PlaceList, is_elsewhere, are_places_full as holds_most}
use Rattle.lobby_state.specs.declared.acts.LobbyAct.{LobbyAct}
use Rattle.lobby_state.specs.declared.acts.LobbyAct.TheVariants as lobby_act
use Rattle.lobby_state.specs.declared.acts.LobbyReply.TheVariants as lobby_reply
use Rattle.lobby_state.proofs.Lists.{All-filter_passing, Contains-filter}
use Rattle.one_server.specs.declared.act.Act.{Act}
use Rattle.one_server.specs.declared.act.Act.TheVariants as one_act
use Rattle.one_server.specs.declared.act.Timed.{Timed}
use Rattle.one_server.specs.declared.reply.Reply.{Reply}
use Rattle.one_server.specs.declared.reply.Reply.TheVariants as reply
use Rattle.one_server.specs.Running.{Log}
use Rattle.session_core.specs.declared.reaction.Reaction.{Reaction}
use Rattle.session_core.specs.declared.reaction.Reaction.TheVariants.{Accepting, Declining}
use Rattle.session_core.specs.Course.{Course, Done, Asks, Writes, next_act}
use Rattle.session_core.specs.Inputs.{asked_course, is_quit}
use Rattle.session_core.specs.Laws.{LooksAway, LooksThere, acts_made, is_played_move, places_by}
use Rattle.session_core.specs.Memory.{MemoryState, looks_on_at_most, observed_at, present_in, remark_place, memory_told, without_observed}
use Rattle.session_core.specs.OwnCommands.{own_answer}
use Rattle.session_core.specs.Reactions.{in_lobby, of_desk, says_no_offer}
use Rattle.session_core.specs.Session.{course_behind, at_place, at_present, finding, is_accepted, moving_at, reacting_at, remark_of, round, to_desk, half_move_course, to_observe, to_react, to_remark, to_server, turns, unobserved, watched, way_course}
use Rattle.session_core.specs.Texts.{refusal_line}
use Rattle.session_core.specs.Ways.{way_of}
use Rattle.session_core.specs.declared.own_commands.OwnCommand.{OwnCommand}
use Rattle.session_core.specs.declared.own_commands.OwnCommand.TheVariants as own_command
use Rattle.session_core.specs.declared.way.Way.{Way}
use Rattle.session_core.specs.declared.way.Way.TheVariants as way
use Rattle.session_core.proofs.Ways.{goes_as_usual, is_leaving, makes_move}
use Rattle.simul_control.specs.declared.place.Place.{Place}

-- the session stands where another does, and looks on where that does
pub record Same (before memory : MemoryState) : Type 0 where
  pub stands : memory.standing ≡ before.standing
  pub looks : memory.observed ≡ before.observed

pub told_keeps : (memory : MemoryState) (r : Reply) → Same memory (memory_told memory r)
told_keeps memory (reply.Lobby (lobby_reply.Places places)) = record { stands = refl; looks = refl }
told_keeps memory (reply.Lobby (lobby_reply.Waiting lines places)) = record { stands = refl; looks = refl }
told_keeps memory _ = record { stands = refl; looks = refl }

told_same : (before memory : MemoryState) (r : Reply) → Same before memory → Same before (memory_told memory r)
told_same before memory r s =
    let kept = told_keeps memory r in
    record { stands = kept.stands ∙ s.stands; looks = kept.looks ∙ s.looks }

pub told_places : (memory : MemoryState) (r : Reply) → (memory_told memory r).places ≡ places_by memory.places r
told_places memory (reply.Lobby (lobby_reply.Places places)) = refl
told_places memory (reply.Lobby (lobby_reply.Waiting lines places)) = refl
told_places memory _ = refl

own_same : (before : MemoryState) (own : OwnCommand) (memory : MemoryState) → Same before memory
    → Same before (own_answer own memory).memory
own_same before (own_command.Style style) memory s = record { stands = s.stands; looks = s.looks }
own_same before _ memory s = record { stands = s.stands; looks = s.looks }

-- what the session remembers as its round begins, behind these entries: it stands where it stood, and looks on where it
-- did or where they have changed it
pub record Seen (before memory : MemoryState) (front : Log) : Type 0 where
  pub stands : memory.standing ≡ before.standing
  pub still : All (λ place. LooksAway front place ⊎ Contains memory.observed.rows place) before.observed.rows
  pub only : All (λ place. Contains before.observed.rows place ⊎ LooksThere front place) memory.observed.rows

seen_same : (before memory : MemoryState) (front : Log) → Same before memory → Seen before memory front
seen_same before memory front s = record {
  stands = s.stands;
  still = λ k d inside.
      inr (subst (λ (l : PlaceList). Contains l.rows (get_or before.observed.rows k d)) (sym s.looks)
      (All-contains_itself before.observed.rows k d inside));
  only =
      subst (λ (l : PlaceList). All (λ place. Contains before.observed.rows place ⊎ LooksThere front place) l.rows)
      (sym s.looks)
      (λ k d inside. inl (All-contains_itself before.observed.rows k d inside));
}

-- behind an accepted half-move of a giver the next place comes
abbrev pub Behind : Act → PlaceList → Reply → Course → Type 0
Behind act places r next =
    is_played_move act ≡ true → is_accepted r ≡ true → places.giving ≡ true
    → next_act next [] ≡ Some (one_act.Lobby lobby_act.SimNext)

no_move : (act : Act) (places : PlaceList) (r : Reply) (next : Course) → is_played_move act ≡ false
    → Behind act places r next
no_move act places r next stays = λ move _ _. let bad : false ≡ true = sym stays ∙ move in cc

module _ (before : MemoryState) where
  -- whatever is replied, the course comes to the round, and turns behind half-moves, where the lobby has told these
  -- places last, and these entries were made
  unfoldable pub ToRound : PlaceList → Log → Course → Type 0
  ToRound places front (Done memory) = ⊥
  ToRound places front (Writes text rest) = ToRound places front rest
  ToRound places front (Asks act rest) =
      ((memory : MemoryState) × (Asks act rest ≡ round memory) × Seen before memory front)
      ⊎ ((e : Entry Timed Reply) → e.act.act ≡ act
      → Behind act places e.reply (rest e.reply) × ToRound (places_by places e.reply) (front ++ e ∷ []) (rest e.reply))

  at_seen : (memory : MemoryState) (places : PlaceList) (front : Log) → Seen before memory front
      → ToRound places front (round memory)
  unfolding ToRound
  at_seen memory places front seen = inl (memory, refl, seen)

  pub at_round : (memory : MemoryState) (places : PlaceList) (front : Log) → Same before memory
      → ToRound places front (round memory)
  at_round memory places front s = at_seen memory places front (seen_same before memory front s)

  pub written : (text : List ℕ) (memory : MemoryState) (places : PlaceList) (front : Log) → Same before memory
      → ToRound places front (Writes text (round memory))
  unfolding ToRound
  written text memory places front s = at_round memory places front s

  seen_written : (text : List ℕ) (memory : MemoryState) (places : PlaceList) (front : Log) → Seen before memory front
      → ToRound places front (Writes text (round memory))
  unfolding ToRound
  seen_written text memory places front seen = at_seen memory places front seen

  asking_so : (act : Act) (rest : Reply → Course) (places : PlaceList) (front : Log)
      → ((e : Entry Timed Reply) → e.act.act ≡ act
      → Behind act places e.reply (rest e.reply) × ToRound (places_by places e.reply) (front ++ e ∷ []) (rest e.reply))
      → ToRound places front (Asks act rest)
  unfolding ToRound
  asking_so act rest places front step = inr step

  after_text : (text : List ℕ) (rest : Course) (places : PlaceList) (front : Log) → ToRound places front rest
      → ToRound places front (Writes text rest)
  unfolding ToRound
  after_text text rest places front h = h

  -- an act that is no half-move
  asking : (act : Act) (rest : Reply → Course) (places : PlaceList) (front : Log) → is_played_move act ≡ false
      → ((e : Entry Timed Reply) → e.act.act ≡ act
      → ToRound (places_by places e.reply) (front ++ e ∷ []) (rest e.reply))
      → ToRound places front (Asks act rest)
  asking act rest places front stays step =
      asking_so act rest places front (λ e is. (no_move act places e.reply (rest e.reply) stays, step e is))

  either : (t : Bool) (one other : Course) (places : PlaceList) (front : Log) → ToRound places front one
      → ToRound places front other → ToRound places front (if t then one else other)
  either true one other places front p q = p
  either false one other places front p q = q

  by_server : (act : Act) (memory : MemoryState) (places : PlaceList) (front : Log) → is_played_move act ≡ false
      → Same before memory → ToRound places front (to_server act memory)
  by_server act memory places front stays s =
      asking act (λ r. course_behind r memory) places front stays (λ e is. written _ memory _ _ s)

  by_present : (act : DeskAct) (place : Option Place) (memory : MemoryState) (places : PlaceList) (front : Log)
      → ((at : Place) → is_played_move (at_place at act) ≡ false)
      → Same before memory → ToRound places front (at_present act place memory)
  by_present act None memory places front stays s = written _ memory places front s
  by_present act (Some place) memory places front stays s =
      asking _ _ places front (stays place) (λ e is. written _ memory _ _ s)

  by_desk : (act : DeskAct) (memory : MemoryState) (places : PlaceList) (front : Log)
      → ((at : Place) → is_played_move (at_place at act) ≡ false)
      → Same before memory → ToRound places front (to_desk act memory)
  by_desk act memory places front stays s =
      asking _ _ places front refl
      (λ e is.
      by_present act (present_in (memory_told memory e.reply)) (memory_told memory e.reply) _ _ stays
      (told_same before memory e.reply s))

  by_remark : (act : DeskAct) (memory : MemoryState) (places : PlaceList) (front : Log)
      → ((at : Place) → is_played_move (at_place at act) ≡ false)
      → Same before memory → ToRound places front (to_remark act memory)
  by_remark act memory places front stays s =
      asking _ _ places front refl
      (λ e is.
      by_present act (remark_place (memory_told memory e.reply)) (memory_told memory e.reply) _ _ stays
      (told_same before memory e.reply s))

  -- a half-move, behind which a giver goes on
  turned : (t : Bool) (memory : MemoryState) (places : PlaceList) (front : Log) → Same before memory
      → ToRound places front (if t then Asks (one_act.Lobby lobby_act.SimNext) (λ r. round memory) else round memory)
  turned true memory places front s = asking _ _ places front refl (λ e is. at_round memory _ _ s)
  turned false memory places front s = at_round memory places front s

  turns_on : (r : Reply) (memory : MemoryState) → is_accepted r ≡ true → memory.places.giving ≡ true
      → turns r memory ≡ true
  turns_on r memory accepted gives = ap (λ (b : Bool). b && memory.places.giving) accepted ∙ gives

  by_moving : (word : MoveWord) (stamp : Option ℕ) (place : Option Place) (memory : MemoryState) (places : PlaceList)
      (front : Log)
      → memory.places ≡ places
      → Same before memory → ToRound places front (moving_at word stamp place memory)
  by_moving word stamp None memory places front known s = written _ memory places front s
  by_moving word stamp (Some place) memory places front known s = asking_so _ _ places front (λ e is. (
    λ move accepted gives.
        ap (λ (b : Bool).
        next_act (if b then Asks (one_act.Lobby lobby_act.SimNext) (λ r. round memory) else round memory) [])
        (turns_on e.reply memory accepted (ap (λ (l : PlaceList). l.giving) known ∙ gives)),
    after_text _ _ _ _ (turned (turns e.reply memory) memory _ _ s),
  ))

  by_move : (word : MoveWord) (stamp : Option ℕ) (memory : MemoryState) (places : PlaceList) (front : Log)
      → memory.places ≡ places
      → Same before memory → ToRound places front (half_move_course word stamp memory)
  by_move word stamp memory places front known s =
      asking _ _ places front refl
      (λ e is. by_moving word stamp (present_in (memory_told memory e.reply)) (memory_told memory e.reply) _ _
      (told_places memory e.reply ∙ ap (λ (l : PlaceList). places_by l e.reply) known)
      (told_same before memory e.reply s))

  -- an offer is accepted or declined
  lobby_no_move : (reaction : Reaction) → is_played_move (in_lobby reaction) ≡ false
  lobby_no_move Accepting = refl
  lobby_no_move Declining = refl

  desk_no_move : (reaction : Reaction) (place : Place) → is_played_move (at_place place (of_desk reaction)) ≡ false
  desk_no_move Accepting place = refl
  desk_no_move Declining place = refl

  by_reacting : (reaction : Reaction) (place : Option Place) (memory : MemoryState) (places : PlaceList) (front : Log)
      → Same before memory
      → ToRound places front (reacting_at reaction place memory)
  by_reacting reaction None memory places front s =
      by_server (in_lobby reaction) memory places front (lobby_no_move reaction) s
  by_reacting reaction (Some place) memory places front s =
      asking _ _ places front (desk_no_move reaction place) (λ e is.
      either (says_no_offer e.reply) (to_server (in_lobby reaction) memory) (course_behind e.reply memory) _ _
      (by_server (in_lobby reaction) memory _ _ (lobby_no_move reaction) s) (written _ memory _ _ s))

  by_react : (reaction : Reaction) (memory : MemoryState) (places : PlaceList) (front : Log) → Same before memory
      → ToRound places front (to_react reaction memory)
  by_react reaction memory places front s =
      asking _ _ places front refl
      (λ e is.
      by_reacting reaction (present_in (memory_told memory e.reply)) (memory_told memory e.reply) _ _
      (told_same before memory e.reply s))

  -- what was made contains its last act
  made_last : (front : Log) (e : Entry Timed Reply) (act : Act) → e.act.act ≡ act
      → Contains (acts_made (front ++ e ∷ [])) act
  made_last [] e act is = (0, omega arith, is)
  made_last (first ∷ front) e act is =
      let later = made_last front e act is in
      (suc later.0, omega (arith, later.1), later.2)

  contains_front : {X : Type 0} (xs ys : List X) (x : X) → Contains xs x → Contains (xs ++ ys) x
  contains_front xs ys x h = (h.0, omega (arith, h.1, length-append xs ys), get_or-append xs ys x h.0 h.1 ∙ h.2)

  -- looking on at one game more, where there is room
  abbrev Still : List Place → Log → Type 0
  Still rows front = All (λ place. LooksAway front place ⊎ Contains rows place) before.observed.rows

  abbrev Only : List Place → Log → Type 0
  Only rows front = All (λ place. Contains before.observed.rows place ⊎ LooksThere front place) rows

  one_more : (t : Bool) (place : Place) (l : PlaceList) (front : Log) → l ≡ before.observed → LooksThere front place
      → let more = unless (cond t (Some refusal.SimulFull) None) l (record l { rows = l.rows ++ place ∷ [] }) in
      Still more.rows front × Only more.rows front
  one_more true place l front is there = (
    λ k d inside.
        inr (subst (λ (m : PlaceList). Contains m.rows (get_or before.observed.rows k d)) (sym is)
        (All-contains_itself before.observed.rows k d inside)),
    subst (λ (m : PlaceList). Only m.rows front) (sym is)
        (λ k d inside. inl (All-contains_itself before.observed.rows k d inside)),
  )
  one_more false place l front is there = (
    λ k d inside. inr (contains_front l.rows (place ∷ []) (get_or before.observed.rows k d)
        (subst (λ (m : PlaceList). Contains m.rows (get_or before.observed.rows k d)) (sym is)
        (All-contains_itself before.observed.rows k d inside))),
    All-append (λ row. Contains before.observed.rows row ⊎ LooksThere front row) l.rows (place ∷ [])
        (subst (λ (m : PlaceList). Only m.rows front) (sym is)
        (λ k d inside. inl (All-contains_itself before.observed.rows k d inside)))
        (All-cons (λ row. Contains before.observed.rows row ⊎ LooksThere front row) place [] (inr there)
        (All-nil (λ row. Contains before.observed.rows row ⊎ LooksThere front row))),
  )

  seen_watched : (place : Place) (r : Reply) (memory : MemoryState) (front : Log) → LooksThere front place
      → Same before memory → Seen before (watched place r memory) front
  seen_watched place (reply.Desk (desk_reply.Items items over)) memory front there s =
      let more = one_more (holds_most memory.observed) place memory.observed front s.looks there in
      record { stands = s.stands; still = more.0; only = more.1 }
  seen_watched place _ memory front there s = seen_same before memory front s

  by_finding : (r : Reply) (memory : MemoryState) (places : PlaceList) (front : Log) → Same before memory
      → ToRound places front (finding r memory)
  by_finding (reply.Lobby (lobby_reply.Found place)) memory places front s =
      asking _ _ places front refl (λ e is.
      seen_written _ (watched place e.reply memory) _ _
      (seen_watched place e.reply memory (front ++ e ∷ []) (made_last front e (at_place place desk_act.Watch) is) s))
  by_finding r memory places front s = written _ memory places front s

  by_observe : (act : LobbyAct) (memory : MemoryState) (places : PlaceList) (front : Log) → Same before memory
      → ToRound places front (to_observe act memory)
  by_observe act memory places front s =
      either (looks_on_at_most memory) (Writes (refusal_line refusal.ListFull) (round memory))
      (Asks (one_act.Lobby act) (λ r. finding r memory)) places front
      (written _ memory places front s) (asking _ _ places front refl (λ e is. by_finding e.reply memory _ _ s))

  -- looking on at no game of this desk
  away_or_there : (t : Bool) (place row : Place) (rows : List Place) (front : Log) → (row.desk == place.desk) ≡ t
      → Contains (acts_made front) (at_place place desk_act.Unwatch) → Contains rows row
      → LooksAway front row ⊎ Contains (filter (is_elsewhere place.desk) rows) row
  away_or_there true place row rows front is away there =
      inl (
        place.serial,
        subst (λ (desk : ℕ). Contains (acts_made front) (one_act.Desk desk place.serial desk_act.Unwatch))
            (sym (eqb-true row.desk place.desk is)) away,
      )
  away_or_there false place row rows front is away there =
      inr (Contains-filter (is_elsewhere place.desk) rows row (ap not is) there)

  seen_without : (place : Place) (memory : MemoryState) (front : Log)
      → Contains (acts_made front) (at_place place desk_act.Unwatch) → Same before memory
      → Seen before (without_observed place.desk memory) front
  seen_without place memory front away s = record {
    stands = s.stands;
    still = λ k d inside.
        let row = get_or before.observed.rows k d in
        away_or_there (row.desk == place.desk) place row memory.observed.rows front refl away
        (subst (λ (l : PlaceList). Contains l.rows row) (sym s.looks)
        (All-contains_itself before.observed.rows k d inside));
    only =
        All-filter_passing (λ row. Contains before.observed.rows row)
        (λ row. Contains before.observed.rows row ⊎ LooksThere front row) (is_elsewhere place.desk)
        (λ row _ there. inl there) memory.observed.rows
        (subst (λ (l : PlaceList). All (λ row. Contains before.observed.rows row) l.rows) (sym s.looks)
        (All-contains_itself before.observed.rows));
  }

  by_unobserved : (place : Option Place) (memory : MemoryState) (places : PlaceList) (front : Log) → Same before memory
      → ToRound places front (unobserved place memory)
  by_unobserved None memory places front s = written _ memory places front s
  by_unobserved (Some place) memory places front s =
      asking _ _ places front refl (λ e is.
      seen_written _ (without_observed place.desk memory) _ _
      (seen_without place memory (front ++ e ∷ []) (made_last front e (at_place place desk_act.Unwatch) is) s))

  -- each way but leaving
  by_way : (way : Way) (stamp : Option ℕ) (memory : MemoryState) (places : PlaceList) (front : Log)
      → makes_move way ≡ false → is_leaving way ≡ false → memory.places ≡ places
      → Same before memory → ToRound places front (way_course way stamp memory)
  by_way way.Round stamp memory places front still goes_on known s = at_round memory places front s
  by_way (way.Server act) stamp memory places front still goes_on known s = by_server act memory places front still s
  by_way (way.Desk act) stamp memory places front still goes_on known s = by_desk act memory places front (λ _. still) s
  by_way (way.Move word) stamp memory places front still goes_on known s =
      by_move word stamp memory places front known s
  by_way (way.React reaction) stamp memory places front still goes_on known s = by_react reaction memory places front s
  by_way (way.Remark text) stamp memory places front still goes_on known s =
      by_remark (remark_of text memory) memory places front (λ _. refl) s
  by_way (way.Observe act) stamp memory places front still goes_on known s = by_observe act memory places front s
  by_way (way.Unobserve number) stamp memory places front still goes_on known s =
      by_unobserved (observed_at (desk_of_game number) memory) memory places front s
  by_way (way.Own own) stamp memory places front still goes_on known s =
      written _ (own_answer own memory).memory places front (own_same before own memory s)
  by_way way.Leave stamp memory places front still goes_on known s = absurd (let bad : true ≡ false = goes_on in cc)

  pub by_asked : (asked : Result Command Refusal) (stamp : Option ℕ) (memory : MemoryState) (places : PlaceList)
      (front : Log)
      → memory.places ≡ places → Same before memory
      → is_quit asked ≡ false → ToRound places front (asked_course asked stamp memory)
  by_asked (Ok asked) stamp memory places front known s goes_on =
      let usual = goes_as_usual asked in
      by_way (way_of asked) stamp memory places front usual.still (usual.leaves ∙ goes_on) known s
  by_asked (Err cause) stamp memory places front known s goes_on = written _ memory places front s
