-- What an Enter keeps.
use Rattle.std.proofs.Common.{◌≡◌, ◌≢◌, ℕ, ◌<◌, length, length-append, map, arith, true, false, List, [], ◌∷◌, ◌++◌, Option, None, Some, is_some, bytes_eq, refl, sym, ap, subst, ◌∙◌}
use Rattle.std.proofs.lemmas.Bool.{or_parts, eqb-false, leb-false}
use Rattle.std.proofs.lemmas.Cmp.{nat_list_eq_equiv}
use Rattle.std.proofs.lemmas.List.{length-map, map-append}
use Rattle.std.proofs.lemmas.List.Elements.{All-nil, All-push, Contains-append_left}
use Rattle.std.proofs.lemmas.List.Quantifiers.{all_pairs_push}
use Rattle.fics_words.specs.Effect.{NoneHolds}
use Rattle.fics_words.specs.Handle.{key_of}
use Rattle.lobby_state.specs.declared.member.Member.{Member}
use Rattle.fics_words.specs.declared.account.Account.{Account}
use Rattle.login_handles.specs.Guests.{IsLeastFree}
use Rattle.login_handles.proofs.GuestNames.{guests_are_least}
use Rattle.login_handles.specs.declared.check.Check.{Check}
use Rattle.login_handles.specs.declared.check.Check.TheVariants.{NeedPassword as MissesPassword}
use Rattle.lobby_state.specs.Enter.{enter_effect, entrant_of, guest_in, names_taken, new_member, welcome, welcomed, with_new_member}
use Rattle.lobby_state.specs.Keeps.{TellsDesks}
use Rattle.lobby_state.specs.Lobby.{LobbyState, has_handle, holder_of, is_session, member_of}
use Rattle.lobby_state.specs.WellFormed.{IsWellFormed, AreChallengesOf, AreSeeksOf, ArePartnersOf, IsSeatOf, IsShelfOf, HasSeats, sessions_in}
use Rattle.lobby_state.proofs.Follows.{Follows, stays}
use Rattle.lobby_state.proofs.LinesKept.{kept_behind}
use Rattle.lobby_state.proofs.Lists.{find-none}
use Rattle.lobby_state.proofs.ChallengeRows.{AreChallengesOf-more}
use Rattle.lobby_state.proofs.SeekRows.{AreSeeksOf-more}
use Rattle.lobby_state.proofs.PartnerRows.{ArePartnersOf-more}
use Rattle.lobby_state.proofs.ShelfRows.{IsShelfOf-more}

none_some : {X : Type 0} (o : Option X) → is_some o ≡ false → o ≡ None
none_some None e = refl
none_some (Some x) e = cc

pub same_key : (a b : List ℕ) → bytes_eq a b ≡ false → a ≢ b
same_key a b e same =
    let yes : bytes_eq a a ≡ true = nat_list_eq_equiv.refl a in
    let bad : true ≡ false = sym yes ∙ ap (bytes_eq a) same ∙ e in cc

with_one_more : (lobby : LobbyState) (session : ℕ) (name : List ℕ) → length lobby.members < 256
    → member_of lobby session ≡ None
    → holder_of lobby (key_of name) ≡ None → IsWellFormed lobby → IsWellFormed (with_new_member lobby session name)
with_one_more lobby session name few alone free h =
    let others : List ℕ = sessions_in lobby.members in
    let all : List ℕ = others ++ session ∷ [] in
    let more = map-append (λ (m : Member). m.session) lobby.members (new_member session name ∷ []) in
    let wider = Contains-append_left others (session ∷ []) in
    record {
      accounts = h.accounts;
      hall = omega (arith, few, length-append lobby.members (new_member session name ∷ []));
      sessions = all_pairs_push (λ a b. a.session ≢ b.session) lobby.members (new_member session name) h.sessions
          (λ k d inside. eqb-false _ session (find-none (is_session session) lobby.members alone k d inside));
      handles = all_pairs_push (λ a b. key_of a.name ≢ key_of b.name) lobby.members (new_member session name) h.handles
          (λ k d inside. same_key _ (key_of name) (find-none (has_handle (key_of name)) lobby.members free k d inside));
      challenges =
          subst (λ (ss : List ℕ). AreChallengesOf ss lobby.challenges) (sym more)
          (AreChallengesOf-more others all lobby.challenges wider h.challenges);
      seeks =
          subst (λ (ss : List ℕ). AreSeeksOf ss lobby.seeks) (sym more)
          (AreSeeksOf-more others all lobby.seeks wider h.seeks);
      partners =
          subst (λ (ss : List ℕ). ArePartnersOf ss lobby.partners) (sym more)
          (ArePartnersOf-more others all lobby.partners wider h.partners);
      games = h.games;
      serials = h.serials;
      places =
          All-push (HasSeats lobby.games) lobby.members (new_member session name) h.places
          (All-nil (IsSeatOf lobby.games session));
      shelf =
          subst (λ (ss : List ℕ). IsShelfOf ss lobby.shelf) (sym more)
          (IsShelfOf-more others all lobby.shelf wider h.shelf);
      counted = h.counted;
    }

-- who comes in stands behind the others, where no password is missing
entered_by : {conditions silent : Type 0} (check : Check) (lobby : LobbyState) (session : ℕ) (name : List ℕ)
    → (conditions → IsWellFormed lobby → IsWellFormed (with_new_member lobby session name))
    → Follows conditions silent lobby (welcomed check lobby session name)
entered_by MissesPassword lobby session name formed = stays
entered_by _ lobby session name formed =
    record {
      formed = formed;
      games = refl;
      lines = λ own. kept_behind own lobby.members (new_member session name);
      store = λ _. refl;
    }

-- nobody comes in whose session or handle is there
pub entered_follows : (lobby : LobbyState) (session : ℕ) (name digest : Option (List ℕ))
    → Follows (Unit {0} × NoneHolds (enter_effect lobby session name digest).causes) (Unit {0}) lobby
    (enter_effect lobby session name digest).after
entered_follows lobby session name digest =
    let entrant = entrant_of lobby name digest in
    entered_by entrant.check lobby session entrant.name (λ fits h.
    let parts =
    or_parts (is_some (member_of lobby session)) (is_some (holder_of lobby (key_of entrant.name))) fits.1.1.0 in
    with_one_more lobby session entrant.name (leb-false 256 (length lobby.members) fits.1.0)
    (none_some (member_of lobby session) parts.0)
    (none_some (holder_of lobby (key_of entrant.name)) parts.1) h)

pub tells_welcome : (check : Check) (name : List ℕ) → TellsDesks (welcome check name)
tells_welcome MissesPassword name = tt
tells_welcome _ name = tt

-- fewer names are taken than there are guests
pub guest_is_least : (lobby : LobbyState) → IsWellFormed lobby → length lobby.members < 256
    → IsLeastFree (names_taken lobby) (guest_in lobby)
guest_is_least lobby h few =
    let front = length-map lobby.members (λ (m : Member). key_of m.name) in
    let back = length-map lobby.accounts (λ (a : Account). key_of a.name) in
    let both =
    length-append (map (λ (m : Member). key_of m.name) lobby.members)
    (map (λ (a : Account). key_of a.name) lobby.accounts) in
    let most = h.accounts.1 in
    guests_are_least (names_taken lobby) (omega (arith, front, back, both, most))
