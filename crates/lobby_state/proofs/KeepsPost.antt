-- What a Post keeps.
use Rattle.std.proofs.Common.{◌≡◌, ℕ, Some, subst}
use Rattle.std.proofs.lemmas.Bool.{eqb-true}
use Rattle.std.specs.Prelude.{Contains}
use Rattle.chess_model.specs.declared.variant.Terms.{Terms}
use Rattle.fics_words.specs.Effect.{NoneHolds}
use Rattle.lobby_state.specs.declared.member.Member.{Member}
use Rattle.lobby_state.specs.Lobby.{LobbyState, is_session, member_of}
use Rattle.lobby_state.specs.Post.{hears_seeks, post_effect, posted}
use Rattle.lobby_state.specs.Terms.{AreTerms}
use Rattle.lobby_state.specs.WellFormed.{sessions_in}
use Rattle.lobby_state.proofs.Follows.{Follows, all_told, and_then, if_there, other_seeks, stays}
use Rattle.lobby_state.proofs.Lists.{find-contained, find-passes}
use Rattle.lobby_state.proofs.SeekRows.{AreSeeksOf-posted}
use Rattle.lobby_state.proofs.WellFormed.{members_few}
use Rattle.seek_match.specs.Seeks.{posting}

-- whoever makes an act is a member
pub is_there : (lobby : LobbyState) (session : ℕ) (caller : Member) → member_of lobby session ≡ Some caller
    → Contains (sessions_in lobby.members) session
is_there lobby session caller found =
    subst (Contains (sessions_in lobby.members))
    (eqb-true caller.session session (find-passes (is_session session) lobby.members caller found))
    (find-contained (λ m. m.session) (is_session session) lobby.members caller found)

pub posted_follows : (lobby : LobbyState) (session : ℕ) (terms : Terms)
    → Follows (AreTerms terms × NoneHolds (post_effect lobby session terms).causes) (Unit {0}) lobby
    (posted lobby session (member_of lobby session) terms)
posted_follows lobby session terms =
    if_there (λ caller. posted lobby session caller terms) (member_of lobby session) stays (λ caller found.
    and_then
    (other_seeks lobby (posting lobby.seeks session terms).after (λ fits h.
    AreSeeksOf-posted (sessions_in lobby.members) session terms lobby.seeks (members_few lobby h)
    (is_there lobby session caller found)
    fits.1.1.0 fits.0 fits.1.1.1.1.0 h.seeks))
    (all_told (hears_seeks session) _))
