-- Who would play a game that two agree on: the two, and in bughouse their partners too. This server's own.
use Rattle.std.specs.Prelude.{Bool, true, false, ◌&&◌, ◌||◌, List, [], ◌∷◌, ℕ, Option, None, Some, is_none}
use Rattle.std.specs.List.{list_any}
use Rattle.chess_model.specs.declared.variant.Terms.{Terms}
use Rattle.chess_model.specs.declared.variant.Variant.{Variant}
use Rattle.chess_model.specs.declared.variant.Variant.TheVariants.{Bughouse}
use Rattle.lobby_state.specs.declared.member.Member.{Member}
use Rattle.lobby_state.specs.Holds.{holds}
use Rattle.lobby_state.specs.Lobby.{LobbyState, gives, is_busy, is_session, member_of, partner_in}
use Rattle.lobby_state.specs.Places.{are_places_full}

-- bughouse is played by two pairs of partners, at two boards
abbrev pub needs_partners : Variant → Bool
needs_partners Bughouse = true
needs_partners _ = false

-- a game that two agree on: who offers it, who accepts, and on which terms
pub record Pairing : Type 0 where
  pub offering : Member
  pub accepting : Member
  pub terms : Terms

-- the game of these two on these terms
abbrev pub paired : Member → Member → Terms → Pairing
paired offering accepting terms = record { offering = offering; accepting = accepting; terms = terms }

-- the game, where the two and the terms are there
abbrev pub pairing_of : Option Member → Option Member → Option Terms → Option Pairing
pairing_of (Some offering) (Some accepting) (Some terms) = Some (paired offering accepting terms)
pairing_of _ _ _ = None

-- the member of this session, where there is a session
abbrev pub member_at : LobbyState → Option ℕ → Option Member
member_at lobby None = None
member_at lobby (Some session) = member_of lobby session

-- who sits beside a member at the other board of a game of this variant: in bughouse its partner, if it has one, and
-- else nobody
abbrev pub beside : LobbyState → Variant → Member → Option Member
beside lobby Bughouse member = member_at lobby (partner_in lobby member.session)
beside lobby _ member = None

-- who sits beside the player that offers
abbrev pub beside_offering : LobbyState → Pairing → Option Member
beside_offering lobby pairing = beside lobby pairing.terms.variant pairing.offering

-- who sits beside the player that accepts
abbrev pub beside_accepting : LobbyState → Pairing → Option Member
beside_accepting lobby pairing = beside lobby pairing.terms.variant pairing.accepting

-- who would be seated: the two, and who sits beside them
abbrev pub would_sit : LobbyState → Pairing → List (Option Member)
would_sit lobby pairing =
    Some pairing.offering ∷ Some pairing.accepting ∷ beside_offering lobby pairing ∷ beside_accepting lobby pairing ∷ []

-- one of those who would be seated is busy: it has a place and gives no simul
abbrev pub are_playing : LobbyState → Pairing → Bool
are_playing lobby pairing = list_any (holds is_busy) (would_sit lobby pairing)

-- the member has 32 places, so that it can't be seated at one more board
abbrev pub is_crowded : Member → Bool
is_crowded member = are_places_full member.places

-- one of those who would be seated is crowded
abbrev pub are_crowded : LobbyState → Pairing → Bool
are_crowded lobby pairing = list_any (holds is_crowded) (would_sit lobby pairing)

-- the game is one of four, and one of the two gives a simul, whose games are of two
abbrev pub is_simul_of_four : Pairing → Bool
is_simul_of_four pairing =
    needs_partners pairing.terms.variant && (gives pairing.offering || gives pairing.accepting)

-- the two are partners, who don't play one another
abbrev pub are_partners : LobbyState → Pairing → Bool
are_partners lobby pairing = holds (is_session pairing.accepting.session) (beside_offering lobby pairing)

-- the game is played by partners, and one of the two has none
abbrev pub lack_partner : LobbyState → Pairing → Bool
lack_partner lobby pairing =
    needs_partners pairing.terms.variant
    && (is_none (beside_offering lobby pairing) || is_none (beside_accepting lobby pairing))
