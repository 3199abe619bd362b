-- What a Play keeps: its plan can be carried out.
use Rattle.std.proofs.Common.{◌≡◌, ℕ, false, Option, None, Some, is_none, refl, ◌∙◌}
use Rattle.std.specs.Prelude.{nat_le}
use Rattle.std.proofs.lemmas.Bool.{eqb-true, eqb-false, or_parts}
use Rattle.lobby_state.specs.declared.member.Member.{Member}
use Rattle.lobby_state.specs.Holds.{holds}
use Rattle.lobby_state.specs.Lobby.{LobbyState, free_slot, most_games, is_session, member_of}
use Rattle.lobby_state.specs.Pairing.{pairing_of}
use Rattle.lobby_state.specs.Planned.{IsPlanned}
use Rattle.lobby_state.specs.Play.{play_effect, seeking_in, terms_sought}
use Rattle.lobby_state.specs.ShelfRoom.{is_shelf_full}
use Rattle.lobby_state.specs.StartPlan.{start_plan}
use Rattle.lobby_state.specs.WellFormed.{IsByMember, IsWellFormed, sessions_in}
use Rattle.lobby_state.proofs.Lists.{find-passes}
use Rattle.lobby_state.proofs.StartPlans.{CanPlan, alone_together, planned_where}
use Rattle.lobby_state.proofs.WellFormed.{find-has}
use Rattle.seek_match.specs.declared.seek.Seek.{Seek}
use Rattle.seek_match.specs.Seeks.{has_number, seek_of}

planned_by : (lobby : LobbyState) (session number : ℕ) (accepting : Option Member) (seek : Option Seek)
    (offering : Option Member)
    (slot : Option ℕ) → member_of lobby session ≡ accepting → seek_of lobby.seeks number ≡ seek
    → seeking_in lobby seek ≡ offering
    → free_slot lobby ≡ slot → is_none accepting ≡ false → is_none offering ≡ false
    → holds (is_session session) offering ≡ false → is_none slot ≡ false
    → nat_le most_games lobby.started ≡ false → is_shelf_full lobby ≡ false → IsWellFormed lobby
    → IsPlanned lobby (start_plan lobby (pairing_of offering accepting (terms_sought seek)) slot)
planned_by lobby session number None seek offering slot first second third found a b c d few room h = cc
planned_by lobby session number (Some accepting) seek None slot first second third found a b c d few room h = cc
planned_by lobby session number (Some accepting) None (Some offering) slot first second third found a b c d few room h =
    cc
planned_by lobby session number (Some accepting) (Some seek) (Some offering) None first second third found a b c d few
    room h =
    cc
planned_by lobby session number (Some accepting) (Some seek) (Some offering) (Some slot) first second third found a b c
    d few room h =
    let by =
    find-has (IsByMember (sessions_in lobby.members)) (has_number number) lobby.seeks seek h.seeks.members second in
    let together = alone_together lobby offering accepting seek.terms by.for_two in
    let theirs : offering.session ≡ seek.by =
    eqb-true _ _ (find-passes (is_session seek.by) lobby.members offering third) in
    planned_where lobby session seek.by accepting seek.terms offering slot by.terms first third
    (λ same. eqb-false offering.session session c (theirs ∙ same)) together.0 together.1 found few room h

pub keeps_play : (lobby : LobbyState) (session number : ℕ) → CanPlan lobby (play_effect lobby session number)
keeps_play lobby session number allowed h =
    planned_by lobby session number (member_of lobby session) (seek_of lobby.seeks number)
    (seeking_in lobby (seek_of lobby.seeks number)) (free_slot lobby)
    refl refl refl refl allowed.0 allowed.1.0 allowed.1.1.0 (or_parts _ _ allowed.1.1.1.1.1.1.1.0).0
    (or_parts _ _ allowed.1.1.1.1.1.1.1.0).1 allowed.1.1.1.1.1.1.1.1.0 h
