-- What a server replies: each place is at a desk of the hall, and each end names a winner exactly where somebody won.
use Rattle.std.proofs.Common.{◌≡◌, ℕ, List, [], ◌∷◌, ◌++◌, subst}
use Rattle.std.specs.Prelude.{All, IfOk, IfSome}
use Rattle.std.specs.List.{slice_get}
use Rattle.std.specs.Option.{option_map}
use Rattle.std.specs.declared.option.Option.{Option}
use Rattle.std.specs.declared.option.Option.TheVariants.{None, Some}
use Rattle.std.specs.declared.result.Result.{Result}
use Rattle.std.specs.declared.result.Result.TheVariants.{Ok, Err}
use Rattle.std.proofs.lemmas.List.Elements.{All-nil, All-cons, All-contains, Contains-push}
use Rattle.fics_words.specs.declared.refusal.Refusal.{Refusal}
use Rattle.histories.specs.Core.{reply, after, other_of}
use Rattle.histories.specs.History.{entry, Legal}
use Rattle.histories.proofs.Parts.{get_has}
use Rattle.linked_desk.specs.declared.acts.DeskReply.{DeskReply}
use Rattle.linked_desk.specs.Acts.{desk_answer}
use Rattle.linked_desk.specs.Sound.{AnswersSoundly, HasSoundGame}
use Rattle.linked_desk.proofs.KeepsActs.{sound-desk_answer}
use Rattle.lobby_state.specs.declared.acts.LobbyReply.{LobbyReply}
use Rattle.lobby_state.specs.declared.acts.Plan.{Plan}
use Rattle.lobby_state.specs.Acts.{lobby_answer}
use Rattle.lobby_state.specs.Keeps.{TellsDesks}
use Rattle.lobby_state.specs.Lobby.{LobbyState}
use Rattle.lobby_state.specs.Plans.{plan_of}
use Rattle.lobby_state.specs.WellFormed.{IsWellFormed}
use Rattle.lobby_state.proofs.KeepsActs.{tells-lobby_answer}
use Rattle.one_server.specs.declared.act.Act.{Act}
use Rattle.one_server.specs.declared.act.Act.TheVariants.{Lobby, Desk, Pair}
use Rattle.one_server.specs.declared.act.Timed.{Timed}
use Rattle.one_server.specs.declared.part.Part.{Part}
use Rattle.one_server.specs.declared.part.Part.TheVariants.{Lobby as TheLobby, Desk as ADesk}
use Rattle.one_server.specs.declared.reply.Reply.{Reply}
use Rattle.one_server.specs.Acts.{lobby_reply, desk_reply}
use Rattle.one_server.specs.House.{house, house_answer, pair_reply}
use Rattle.one_server.specs.WholeProof.{formed_is}
use Rattle.one_server.specs.LawfulProof.{house_lawful}
use Rattle.one_server.specs.Replies.{IsReply}
use Rattle.one_server.specs.Running.{Log}
use Rattle.one_server.specs.Whole.{IsInPlace, IsWhole}

-- what is known of a part that answers: a lobby is well-formed, and the game at a desk is sound
abbrev pub AnswersWell : Part → Type 0
AnswersWell (TheLobby lobby) = IsWellFormed lobby
AnswersWell (ADesk desk) = HasSoundGame desk

lobby_tells : (answer : Result LobbyReply Refusal) → IfOk answer TellsDesks → IsReply (lobby_reply answer)
lobby_tells (Ok answer) h = h
lobby_tells (Err cause) h = tt

desk_tells : (answer : Result DeskReply Refusal) → AnswersSoundly answer → IsReply (desk_reply answer)
desk_tells (Ok answer) h = h
desk_tells (Err cause) h = tt

pair_tells : (r : Result Plan Refusal) (other : Option Part) → IsReply (pair_reply r other)
pair_tells (Err cause) other = tt
pair_tells (Ok plan) None = tt
pair_tells (Ok plan) (Some (TheLobby lobby)) = tt
pair_tells (Ok plan) (Some (ADesk desk)) = tt

-- the answer of such a part
pub answers_well : (part : Part) (other : Option Part) (session moment : ℕ) (act : Act) → AnswersWell part
    → IsReply (house_answer part other session moment act)
answers_well (TheLobby lobby) other session moment (Lobby act) h =
    lobby_tells (lobby_answer lobby session act) (tells-lobby_answer lobby session act h)
answers_well (TheLobby lobby) other session moment (Pair act) h = pair_tells (plan_of lobby session act) other
answers_well (ADesk desk) other session moment (Desk number serial act) h =
    desk_tells (desk_answer desk session moment serial act) (sound-desk_answer desk session moment serial act h)
answers_well (TheLobby lobby) other session moment (Desk number serial act) h = tt
answers_well (ADesk desk) other session moment _ h = tt

part_answers : (part other : Option Part) (session : ℕ) (timed : Timed) (r : Reply) → IfSome part AnswersWell
    → option_map (λ p. house_answer p other session timed.moment timed.act) part ≡ Some r → IsReply r
part_answers None other session timed r h e = absurd cc
part_answers (Some part) other session timed r h e =
    let is : house_answer part other session timed.moment timed.act ≡ r = cc in
    subst IsReply is (answers_well part other session timed.moment timed.act h)

lobby_is : (parts : List Part) (whole : IsWhole parts) (number : ℕ) (lobby : LobbyState)
    → slice_get parts number ≡ Some (TheLobby lobby) → number ≡ 0 → IsWellFormed lobby
lobby_is parts whole number lobby e first =
    formed_is parts lobby whole (subst (λ (n : ℕ). slice_get parts n ≡ Some (TheLobby lobby)) first e)

-- each part of a whole state answers well
part_well : (parts : List Part) (whole : IsWhole parts) (number : ℕ) (part : Part) → slice_get parts number ≡ Some part
    → IsInPlace whole.lobby number part → AnswersWell part
part_well parts whole number (ADesk desk) e place = place.1.sound
part_well parts whole number (TheLobby lobby) e place = lobby_is parts whole number lobby e place

-- the reply to an act in a whole state
pub replies_well : (parts : List Part) (session : ℕ) (timed : Timed) (r : Reply) → IsWhole parts
    → reply house parts session timed ≡ Some r → IsReply r
replies_well parts session timed r whole e =
    part_answers (slice_get parts (house.first timed)) (other_of house parts session timed) session timed r
    (get_has AnswersWell parts (house.first timed)
    (λ number part there. part_well parts whole number part there (whole.places number part there)))
    e

-- and so each reply of a legal history that opens with one
pub each_reply : (opening : List Part) (log : Log) → IsWhole opening → Legal house opening log
    → All (λ e. IsReply e.reply) log
each_reply opening [] whole legal = All-nil (λ e. IsReply e.reply)
each_reply opening (e ∷ es) whole legal =
    All-cons (λ e. IsReply e.reply) e es (replies_well opening e.session e.act e.reply whole legal.1)
    (each_reply (after house opening e.session e.act) es (house_lawful.stays opening e.session e.act whole legal.0)
    legal.2)

-- the last reply of a legal history
pub last_reply : (opening : List Part) (log : Log) (session : ℕ) (timed : Timed) (r : Reply) → IsWhole opening
    → Legal house opening (log ++ entry session timed r ∷ []) → IsReply r
last_reply opening log session timed r whole legal =
    All-contains (λ e. IsReply e.reply) (log ++ entry session timed r ∷ []) (entry session timed r)
    (each_reply opening (log ++ entry session timed r ∷ []) whole legal)
    (Contains-push log (entry session timed r))
