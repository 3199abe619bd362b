-- Copies that were made ahead are of what the act is answered.
use Rattle.std.proofs.Common.{◌≡◌, ℕ, List, ap, sym, subst, ◌∙◌}
use Rattle.std.specs.List.{slice_get}
use Rattle.std.specs.Option.{option_map}
use Rattle.std.specs.declared.option.Option.{Option}
use Rattle.std.specs.declared.option.Option.TheVariants.{None, Some}
use Rattle.std.specs.declared.result.Result.{Result}
use Rattle.std.specs.declared.result.Result.TheVariants.{Ok, Err}
use Rattle.fics_words.specs.Effect.{answered, first_cause}
use Rattle.fics_words.specs.declared.refusal.Refusal.{Refusal}
use Rattle.histories.specs.Core.{reply, other_of}
use Rattle.linked_desk.specs.declared.acts.DeskReply.{DeskReply}
use Rattle.linked_desk.specs.Acts.{desk_effect, items_told}
use Rattle.lobby_state.specs.declared.acts.LobbyReply.{LobbyReply}
use Rattle.lobby_state.specs.declared.acts.Plan.{Plan}
use Rattle.lobby_state.specs.Acts.{lobby_effect}
use Rattle.lobby_state.specs.Plans.{plan_of}
use Rattle.lobby_state.specs.Told.{lists_told}
use Rattle.one_server.specs.declared.reply.Reply.{Reply}
use Rattle.one_server.specs.declared.part.Part.{Part}
use Rattle.one_server.specs.declared.part.Part.TheVariants.{Lobby as TheLobby, Desk as ADesk}
use Rattle.one_server.specs.Acts.{first_part, lobby_reply, desk_reply}
use Rattle.one_server.specs.Copies.{AreOf, ListsFor, ItemsFor}
use Rattle.one_server.specs.House.{house, house_answer, pair_reply}
use Rattle.one_server.specs.declared.act.Act.{Act}
use Rattle.one_server.specs.declared.act.Act.TheVariants.{Lobby, Desk, Pair}
use Rattle.one_server.specs.declared.act.Timed.{Timed}
use Rattle.one_server.specs.declared.copies.Copies.{Copies}

-- a refusal lists nothing, and a reply what the act would answer
of_lobby : (copies : Copies) (refused : Option Refusal) (answer : LobbyReply) → copies.lists ≡ lists_told answer
    → AreOf copies (lobby_reply (answered refused answer))
of_lobby copies None answer h = h
of_lobby copies (Some cause) answer h = tt

of_desk : (copies : Copies) (refused : Option Refusal) (answer : DeskReply) → copies.items ≡ items_told answer
    → AreOf copies (desk_reply (answered refused answer))
of_desk copies None answer h = h
of_desk copies (Some cause) answer h = tt

of_pair : (r : Result Plan Refusal) (other : Option Part) (copies : Copies) → AreOf copies (pair_reply r other)
of_pair (Err cause) other copies = tt
of_pair (Ok plan) None copies = tt
of_pair (Ok plan) (Some (TheLobby lobby)) copies = tt
of_pair (Ok plan) (Some (ADesk desk)) copies = tt

same_reply : (one another : Reply) → Some one ≡ Some another → one ≡ another
same_reply one another e = cc

module _ (copies : Copies) (session : ℕ) where
  -- copies that were made ahead of an act are of what its first part answers
  of_answer : (other : Option Part) (part : Part) (moment : ℕ) (act : Act)
      → ListsFor part session act copies.lists → ItemsFor part session act copies.items
      → AreOf copies (house_answer part other session moment act)
  of_answer other (TheLobby lobby) moment (Lobby act) lists items =
      let effect = lobby_effect lobby session act in of_lobby copies (first_cause effect.causes) effect.reply lists
  of_answer other (TheLobby lobby) moment (Pair act) lists items = of_pair (plan_of lobby session act) other copies
  of_answer other (TheLobby lobby) moment (Desk number serial act) lists items = tt
  of_answer other (ADesk desk) moment (Desk number serial act) lists items =
      let effect = desk_effect desk session moment serial act in
      of_desk copies (first_cause effect.causes) effect.reply (items moment)
  of_answer other (ADesk desk) moment _ lists items = tt

  -- and so of its reply
  pub are_of : (parts : List Part) (one : Part) (timed : Timed) (r : Reply)
      → slice_get parts (first_part timed.act) ≡ Some one → ListsFor one session timed.act copies.lists
      → ItemsFor one session timed.act copies.items → reply house parts session timed ≡ Some r → AreOf copies r
  are_of parts one timed r e lists items answers =
      let other : Option Part = other_of house parts session timed in
      let is : house_answer one other session timed.moment timed.act ≡ r =
      same_reply (house_answer one other session timed.moment timed.act) r
      (ap (option_map (λ p. house_answer p other session timed.moment timed.act)) (sym e) ∙ answers) in
      subst (λ (x : Reply). AreOf copies x) is (of_answer other one timed.moment timed.act lists items)
