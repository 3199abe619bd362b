-- What a Partner keeps.
use Rattle.std.proofs.Common.{ℕ, Bool, true, false, List, Option, Some, refl, sym, ap, ◌∙◌}
use Rattle.std.proofs.lemmas.Bool.{or_parts}
use Rattle.fics_words.specs.Effect.{NoneHolds}
use Rattle.partner_link.specs.Partners.{asking, parted}
use Rattle.partner_link.proofs.Links.{no_partner}
use Rattle.lobby_state.specs.declared.member.Member.{Member}
use Rattle.lobby_state.specs.Holds.{holds}
use Rattle.lobby_state.specs.Keeps.{TellsDesks}
use Rattle.lobby_state.specs.Lobby.{LobbyState, is_named, is_session, member_of, named, partner_in}
use Rattle.lobby_state.specs.Partner.{ask_effect, asked_reply, has_partner, partnered, single}
use Rattle.lobby_state.specs.WellFormed.{sessions_in}
use Rattle.lobby_state.proofs.Follows.{Follows, all_told, and_then, if_there, other_partners, stays}
use Rattle.lobby_state.proofs.KeepsPost.{is_there}
use Rattle.lobby_state.proofs.Lists.{find-contained}
use Rattle.lobby_state.proofs.PartnerRows.{ArePartnersOf-asking, ArePartnersOf-parted}

-- an ask
pub partnered_follows : (lobby : LobbyState) (session : ℕ) (to : List ℕ)
    → Follows (Unit {0} × NoneHolds (ask_effect lobby session to).causes) (Unit {0}) lobby
    (partnered lobby session (member_of lobby session) (named lobby to))
partnered_follows lobby session to =
    if_there (λ caller. partnered lobby session caller (named lobby to)) (member_of lobby session) stays
    (λ caller first.
    if_there (λ other. partnered lobby session (Some caller) other) (named lobby to) stays (λ other second.
    and_then
    (other_partners lobby (asking lobby.partners session other.session).after (λ fits h.
    let free = or_parts _ _ fits.1.1.1.1.0 in
    let alone = no_partner (partner_in lobby session) (partner_in lobby session) refl free.0 in
    let other_alone = no_partner (partner_in lobby other.session) (partner_in lobby other.session) refl
    (sym (ap (λ (o : Option Member). holds (has_partner lobby) o) second) ∙ free.1) in
    ArePartnersOf-asking (sessions_in lobby.members) lobby.partners session other.session
    (is_there lobby session caller first)
    (find-contained (λ (m : Member). m.session) (is_named to) lobby.members other second) alone other_alone h.partners))
    (all_told (is_session other.session) _)))

pub tells_asked : (linked : Bool) → TellsDesks (asked_reply linked)
tells_asked true = tt
tells_asked false = tt

-- a parting
pub single_follows : {conditions silent : Type 0} (lobby : LobbyState) (session : ℕ)
    → Follows conditions silent lobby (single lobby session (member_of lobby session) (partner_in lobby session))
single_follows lobby session =
    if_there (λ caller. single lobby session caller (partner_in lobby session)) (member_of lobby session) stays
    (λ caller _.
    if_there (λ partner. single lobby session (Some caller) partner) (partner_in lobby session) stays (λ partner _.
    and_then
    (other_partners lobby (parted lobby.partners session)
    (λ _ h. ArePartnersOf-parted (sessions_in lobby.members) session lobby.partners h.partners))
    (all_told (is_session partner) _)))
