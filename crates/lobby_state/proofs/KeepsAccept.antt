-- What an Accept keeps: its plan can be carried out.
use Rattle.std.proofs.Common.{◌≡◌, ℕ, Bool, false, List, Option, None, Some, is_none, refl, sym, ◌∙◌}
use Rattle.std.specs.Prelude.{nat_le}
use Rattle.std.proofs.lemmas.Bool.{eqb-true, or_parts, and_parts}
use Rattle.seek_match.specs.declared.challenge.Challenge.{Challenge}
use Rattle.lobby_state.specs.declared.member.Member.{Member}
use Rattle.lobby_state.specs.Accept.{accept_effect, offer_from, offer_of, offering_in, terms_in}
use Rattle.lobby_state.specs.Holds.{holds}
use Rattle.lobby_state.proofs.StartPlans.{CanPlan, planned_where}
use Rattle.lobby_state.specs.Lobby.{LobbyState, free_slot, most_games, member_of, named}
use Rattle.lobby_state.specs.Pairing.{are_partners, lack_partner, pairing_of}
use Rattle.lobby_state.specs.Planned.{IsPlanned}
use Rattle.lobby_state.specs.ShelfRoom.{is_shelf_full}
use Rattle.lobby_state.specs.StartPlan.{start_plan}
use Rattle.lobby_state.specs.WellFormed.{AreChallengesOf, IsWellFormed, IsBetweenMembers, sessions_in}
use Rattle.lobby_state.proofs.Lists.{find-passes}
use Rattle.lobby_state.proofs.WellFormed.{find-has}
use Rattle.seek_match.specs.Matches.{is_between, is_to}

offer_from-is : (lobby : LobbyState) (session : ℕ) (other : Option Member) (offer : Challenge)
    → offer_from lobby session other ≡ Some offer
    → AreChallengesOf (sessions_in lobby.members) lobby.challenges
    → (offer.to ≡ session) × IsBetweenMembers (sessions_in lobby.members) offer
offer_from-is lobby session None offer e h = cc
offer_from-is lobby session (Some other) offer e h =
    let p : Challenge → Bool = is_between other.session session in (
      eqb-true offer.to session (and_parts _ _ (find-passes p lobby.challenges offer e)).1,
      find-has (IsBetweenMembers (sessions_in lobby.members)) p lobby.challenges offer h.members e,
    )

offer_of-is : (lobby : LobbyState) (session : ℕ) (name : Option (List ℕ)) (offer : Challenge)
    → offer_of lobby session name ≡ Some offer
    → AreChallengesOf (sessions_in lobby.members) lobby.challenges
    → (offer.to ≡ session) × IsBetweenMembers (sessions_in lobby.members) offer
offer_of-is lobby session None offer e h =
    let p : Challenge → Bool = is_to None session in (
      eqb-true offer.to session (find-passes p lobby.challenges offer e),
      find-has (IsBetweenMembers (sessions_in lobby.members)) p lobby.challenges offer h.members e,
    )
offer_of-is lobby session (Some key) offer e h = offer_from-is lobby session (named lobby key) offer e h

planned_by : (lobby : LobbyState) (session : ℕ) (name : Option (List ℕ)) (accepting : Option Member)
    (offer : Option Challenge) (offering : Option Member)
    (slot : Option ℕ) → member_of lobby session ≡ accepting → offer_of lobby session name ≡ offer
    → offering_in lobby offer ≡ offering
    → free_slot lobby ≡ slot → is_none accepting ≡ false → is_none offering ≡ false
    → holds (are_partners lobby) (pairing_of offering accepting (terms_in offer)) ≡ false
    → holds (lack_partner lobby) (pairing_of offering accepting (terms_in offer)) ≡ false → is_none slot ≡ false
    → nat_le most_games lobby.started ≡ false → is_shelf_full lobby ≡ false → IsWellFormed lobby
    → IsPlanned lobby (start_plan lobby (pairing_of offering accepting (terms_in offer)) slot)
planned_by lobby session name None offer offering slot first second third found a b away full c few room h = cc
planned_by lobby session name (Some accepting) offer None slot first second third found a b away full c few room h = cc
planned_by lobby session name (Some accepting) None (Some offering) slot first second third found a b away full c few
    room h =
    cc
planned_by lobby session name (Some accepting) (Some offer) (Some offering) None first second third found a b away full
    c few room h =
    cc
planned_by lobby session name (Some accepting) (Some offer) (Some offering) (Some slot) first second third found a b
    away full c few room h =
    let is_offer = offer_of-is lobby session name offer second h.challenges in
    planned_where lobby session offer.from accepting offer.terms offering slot is_offer.1.terms first third
    (λ same. is_offer.1.differ (same ∙ sym is_offer.0)) away full found few room h

pub keeps_accept : (lobby : LobbyState) (session : ℕ) (name : Option (List ℕ))
    → CanPlan lobby (accept_effect lobby session name)
keeps_accept lobby session name allowed h =
    planned_by lobby session name (member_of lobby session) (offer_of lobby session name)
    (offering_in lobby (offer_of lobby session name)) (free_slot lobby)
    refl refl refl refl allowed.0 allowed.1.0 allowed.1.1.0 allowed.1.1.1.1.0 (or_parts _ _ allowed.1.1.1.1.1.1.1.0).0
    (or_parts _ _ allowed.1.1.1.1.1.1.1.0).1 allowed.1.1.1.1.1.1.1.1.0 h
