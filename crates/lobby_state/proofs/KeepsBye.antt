-- What a Going and a Bye keep.
use Rattle.std.proofs.Common.{◌≡◌, ◌≢◌, ℕ, Bool, not, eqb, List, None, filter, refl, sym, subst, arith}
use Rattle.std.proofs.lemmas.List.Elements.{All-filter}
use Rattle.std.proofs.lemmas.List.Kept.{AllPairs-filter}
use Rattle.std.proofs.lemmas.List.Sums.{count_by-le-length, length-filter}
use Rattle.fics_words.specs.Handle.{key_of}
use Rattle.tables.specs.Rows.{change_first}
use Rattle.lobby_state.specs.declared.member.Member.{Member}
use Rattle.lobby_state.specs.Bye.{bye_effect}
use Rattle.lobby_state.specs.Going.{going_effect, leaving_member}
use Rattle.lobby_state.specs.Lobby.{LobbyState, is_session, without_challenges, without_partner, without_seeks}
use Rattle.lobby_state.specs.WellFormed.{IsWellFormed, AreChallengesOf, AreSeeksOf, ArePartnersOf, HasSeats, IsShelfOf, sessions_in}
use Rattle.lobby_state.proofs.Lists.{map-filter}
use Rattle.lobby_state.proofs.ChallengeRows.{AreChallengesOf-without}
use Rattle.lobby_state.proofs.SeekRows.{AreSeeksOf-without}
use Rattle.lobby_state.proofs.PartnerRows.{ArePartnersOf-forgotten, ArePartnersOf-without}
use Rattle.lobby_shelf.specs.Shelf.{without_requests}
use Rattle.lobby_state.proofs.ShelfRows.{IsShelfOf-without}
use Rattle.lobby_state.proofs.WellFormed.{challenges_gone, member_changed, resumes_gone, seeks_gone, with_partners}
use Rattle.partner_link.specs.Partners.{without_naming}
use Rattle.seek_match.specs.Matches.{concerns, without_challenges_of}
use Rattle.seek_match.specs.Seeks.{is_by, without_seeks_of}

pub formed_going : (lobby : LobbyState) (session : ℕ) → IsWellFormed lobby
    → IsWellFormed (going_effect lobby session).after
formed_going lobby session h =
    let gone : LobbyState = record lobby { members = change_first (is_session session) leaving_member lobby.members } in
    let left : LobbyState = without_seeks session (without_challenges session gone) in
    let formed : IsWellFormed left =
    seeks_gone (without_challenges session gone) (λ seek. not (is_by session None seek))
    (challenges_gone gone (λ c. not (concerns session c))
    (member_changed lobby (is_session session) leaving_member (λ _. refl) (λ _. refl) (λ _ seats. seats) h)) in
    resumes_gone (without_partner session left) (λ request. not (eqb request.by session))
    (with_partners left (without_naming left.partners session)
    (ArePartnersOf-forgotten (sessions_in left.members) session left.partners formed.partners) formed)

pub formed_gone : (lobby : LobbyState) (session : ℕ) → IsWellFormed lobby
    → IsWellFormed (bye_effect lobby session).after
formed_gone lobby session h =
    let others : Member → Bool = λ m. not (is_session session m) in
    let stays : ℕ → Bool = λ s. not (eqb s session) in
    let left : List ℕ = filter stays (sessions_in lobby.members) in
    let sessions : sessions_in (filter others lobby.members) ≡ left =
    map-filter (λ (m : Member). m.session) stays lobby.members in
    record {
      accounts = h.accounts;
      hall = omega (arith, length-filter others lobby.members, count_by-le-length others lobby.members, h.hall);
      sessions = AllPairs-filter (λ a b. a.session ≢ b.session) others lobby.members h.sessions;
      handles = AllPairs-filter (λ a b. key_of a.name ≢ key_of b.name) others lobby.members h.handles;
      challenges =
          subst (λ (ss : List ℕ). AreChallengesOf ss (without_challenges_of session lobby.challenges)) (sym sessions)
          (AreChallengesOf-without (sessions_in lobby.members) session lobby.challenges h.challenges);
      seeks = subst (λ (ss : List ℕ). AreSeeksOf ss (without_seeks_of session lobby.seeks)) (sym sessions)
          (AreSeeksOf-without (sessions_in lobby.members) session lobby.seeks h.seeks);
      partners = subst (λ (ss : List ℕ). ArePartnersOf ss (without_naming lobby.partners session)) (sym sessions)
          (ArePartnersOf-without (sessions_in lobby.members) session lobby.partners h.partners);
      games = h.games;
      serials = h.serials;
      places = All-filter others (HasSeats lobby.games) lobby.members h.places;
      shelf = subst (λ (ss : List ℕ). IsShelfOf ss (without_requests session lobby.shelf)) (sym sessions)
          (IsShelfOf-without (sessions_in lobby.members) session lobby.shelf h.shelf);
      counted = record { few = h.counted.few; room = h.counted.room; orders = h.counted.orders };
    }
