-- A game between an offering and an accepting member can start, and in bughouse one of them and their partners.
use Rattle.std.proofs.Common.{◌≡◌, ◌≢◌, ℕ, ◌+◌, ◌-◌, ◌<◌, zero, suc, Bool, true, false, ◌&&◌, ◌||◌, List, [], ◌∷◌, Option, None, Some, is_none, length, get_or, slice_get, refl, sym, ap, subst, ◌∙◌, inl, inr, arith}
use Rattle.std.specs.Prelude.{All, nat_le}
use Rattle.std.specs.List.{AllPairs, find, position, position_or_len}
use Rattle.std.proofs.lemmas.Bool.{cases_lt, eqb-true, eqb-false, leb-false}
use Rattle.std.proofs.lemmas.Bool.Decides.{eqb_tells}
use Rattle.std.proofs.lemmas.List.Elements.{All-nil, All-cons}
use Rattle.std.proofs.lemmas.List.Folds.{find_at}
use Rattle.std.proofs.lemmas.List.Kept.{AllPairs-cons}
use Rattle.std.proofs.lemmas.Option.{get_or_from_slice_get, slice_get_within, same_Some}
use Rattle.chess_model.specs.declared.variant.Terms.{Terms}
use Rattle.chess_model.specs.declared.variant.Variant.{Variant}
use Rattle.chess_model.specs.declared.variant.Variant.TheVariants.{Chess, Crazyhouse, Bughouse, Fischer}
use Rattle.fics_words.specs.Effect.{Effect, NoneHolds}
use Rattle.fics_words.specs.Handle.{key_of}
use Rattle.fics_words.specs.declared.account.Account.{Account}
use Rattle.fics_words.specs.declared.seats.Seats.{Seats}
use Rattle.fics_words.specs.Seats.{seat_list}
use Rattle.partner_link.specs.Partners.{partner_of}
use Rattle.partner_link.proofs.Links.{partner_of-other, partner_of-partner_of}
use Rattle.lobby_state.specs.declared.acts.Plan.{Plan}
use Rattle.lobby_state.specs.declared.game.ListedGame.{ListedGame}
use Rattle.lobby_state.specs.declared.member.Member.{Member}
use Rattle.lobby_state.specs.Holds.{holds}
use Rattle.lobby_state.specs.Lobby.{LobbyState, free_slot, most_games, gives, is_session, member_of, partner_in}
use Rattle.lobby_state.specs.Pairing.{are_partners, beside, lack_partner, member_at, needs_partners, paired}
use Rattle.lobby_state.specs.Planned.{ArePlayersApart, FitsVariant, IsMember, IsPlanned, SitCrosswise}
use Rattle.lobby_state.specs.StartPlan.{has_white, opponents_of, player_of, second_pair, start_plan}
use Rattle.lobby_state.specs.ShelfRoom.{is_shelf_full, places_taken}
use Rattle.lobby_state.specs.Terms.{AreTerms}
use Rattle.lobby_state.specs.WellFormed.{IsWellFormed}
use Rattle.lobby_state.proofs.Lists.{find-contained, find-passes}
use Rattle.tables.proofs.Placed.{position-within, find-found}
use Rattle.lobby_state.proofs.Lent.{at_place}

-- where the act isn't refused, its plan can be carried out
abbrev pub CanPlan : LobbyState → Effect LobbyState Plan → Type 0
CanPlan lobby effect = NoneHolds effect.causes → IsWellFormed lobby → IsPlanned lobby effect.reply

none_there : {X : Type 0} (o : Option X) → is_none o ≡ true → o ≡ None
none_there None e = refl
none_there (Some x) e = cc

-- the slot that was found is free
pub free-is : (games : List (Option ListedGame)) (slot : ℕ) → position is_none games ≡ Some slot
    → slice_get games slot ≡ Some None
free-is games slot e =
    let item = at_place games slot (position-within is_none games slot e) in
    let passes = find-passes is_none games item.0 (find-found is_none games slot e ∙ item.1) in
    item.1 ∙ ap (λ g. Some g) (none_there item.0 passes)

-- two members of different sessions have different handles
keys_apart : (members : List Member) (p q : Member → Bool) (a b : Member)
    → AllPairs (λ one another. key_of one.name ≢ key_of another.name) members
    → find p members ≡ Some a → find q members ≡ Some b → a.session ≢ b.session → key_of a.name ≢ key_of b.name
keys_apart members p q a b h first second apart = λ same.
    let i = position_or_len p members in
    let j = position_or_len q members in
    let at_i : slice_get members i ≡ Some a = sym (find_at p members) ∙ first in
    let at_j : slice_get members j ≡ Some b = sym (find_at q members) ∙ second in
    let get_i : get_or members i a ≡ a = get_or_from_slice_get members i a a at_i in
    let get_j : get_or members j a ≡ b = get_or_from_slice_get members j b a at_j in
    let in_i : i < length members = slice_get_within members i a at_i in
    let in_j : j < length members = slice_get_within members j b at_j in
    elim (eqb_tells i j) [
      | inl equal ↦
          let both : Some a ≡ Some b = sym at_i ∙ ap (slice_get members) equal.1 ∙ at_j in
          let one : a ≡ b = cc in
          apart (ap (λ (m : Member). m.session) one)
      | inr differ ↦ elim (cases_lt i j) [
        | inl before ↦
            h i j a before in_j
            (ap (λ (m : Member). key_of m.name) get_i ∙ same ∙ sym (ap (λ (m : Member). key_of m.name) get_j))
        | inr after ↦
            let below : j < i = let ne = differ.1 in omega arith in
            h j i a below in_i
            (ap (λ (m : Member). key_of m.name) get_j ∙ sym same ∙ sym (ap (λ (m : Member). key_of m.name) get_i))
      ]
    ]

-- ---- members who are found and differ

-- the member is the one of its session
abbrev pub IsThere : LobbyState → Member → Type 0
IsThere lobby member = member_of lobby member.session ≡ Some member

pub found_there : (lobby : LobbyState) (session : ℕ) (member : Member) → member_of lobby session ≡ Some member
    → (member.session ≡ session) × IsThere lobby member
found_there lobby session member found =
    let own : member.session ≡ session = eqb-true _ _ (find-passes (is_session session) lobby.members member found) in
    (own, subst (λ (s : ℕ). member_of lobby s ≡ Some member) (sym own) found)

member_there : (lobby : LobbyState) (member : Member) → IsThere lobby member
    → IsMember lobby (player_of lobby.accounts member)
member_there lobby member there =
    find-contained (λ (m : Member). m.session) (is_session member.session) lobby.members member there

-- two members are two players
pub record Apart (one another : Member) : Type 0 where
  pub sessions : one.session ≢ another.session
  pub handles : key_of one.name ≢ key_of another.name

turned : (one another : Member) → Apart one another → Apart another one
turned one another apart = record { sessions = λ e. apart.sessions (sym e); handles = λ e. apart.handles (sym e) }

pub members_apart : (lobby : LobbyState) (one another : Member) → IsThere lobby one → IsThere lobby another
    → one.session ≢ another.session
    → IsWellFormed lobby → Apart one another
members_apart lobby one another here there differ h = record {
  sessions = differ;
  handles =
      keys_apart lobby.members (is_session one.session) (is_session another.session) one another h.handles here there
      differ;
}

-- ---- lists of two and of four

pub pairs_of_two : {X : Type 0} (R : X → X → Type 0) (a b : X) → R a b → AllPairs R (a ∷ b ∷ [])
pairs_of_two R a b ab zero zero d before inside = absurd (omega arith)
pairs_of_two R a b ab zero (suc zero) d before inside = ab
pairs_of_two R a b ab zero (suc (suc j)) d before inside = absurd (omega arith)
pairs_of_two R a b ab (suc i) j d before inside = absurd (omega arith)

pub pairs_of_four : {X : Type 0} (R : X → X → Type 0) (a b c d : X) → R a b → R a c → R a d → R b c → R b d → R c d
    → AllPairs R (a ∷ b ∷ c ∷ d ∷ [])
pairs_of_four R a b c d ab ac ad bc bd cd =
    AllPairs-cons R a (b ∷ c ∷ d ∷ [])
    (All-cons (R a) b (c ∷ d ∷ []) ab (All-cons (R a) c (d ∷ []) ac (All-cons (R a) d [] ad (All-nil (R a)))))
    (AllPairs-cons R b (c ∷ d ∷ []) (All-cons (R b) c (d ∷ []) bc (All-cons (R b) d [] bd (All-nil (R b))))
    (pairs_of_two R c d cd))

pub all_of_two : {X : Type 0} (P : X → Type 0) (a b : X) → P a → P b → All P (a ∷ b ∷ [])
all_of_two P a b ha hb = All-cons P a (b ∷ []) ha (All-cons P b [] hb (All-nil P))

pub all_of_four : {X : Type 0} (P : X → Type 0) (a b c d : X) → P a → P b → P c → P d → All P (a ∷ b ∷ c ∷ d ∷ [])
all_of_four P a b c d ha hb hc hd =
    All-cons P a (b ∷ c ∷ d ∷ []) ha (All-cons P b (c ∷ d ∷ []) hb (all_of_two P c d hc hd))

-- ---- the seats of two and of four members

two_apart : (accounts : List Account) (a b : Member) → Apart a b
    → ArePlayersApart (record {
      first = record { white = player_of accounts a; black = player_of accounts b };
      second = None;
    })
two_apart accounts a b ab = record {
  sessions = pairs_of_two (λ one another. one.session ≢ another.session) _ _ ab.sessions;
  handles = pairs_of_two (λ one another. key_of one.name ≢ key_of another.name) _ _ ab.handles;
}

four_apart : (accounts : List Account) (a b c d : Member) → Apart a b → Apart a c → Apart a d → Apart b c → Apart b d
    → Apart c d
    → ArePlayersApart (record {
      first = record { white = player_of accounts a; black = player_of accounts b };
      second = Some (record { white = player_of accounts c; black = player_of accounts d });
    })
four_apart accounts a b c d ab ac ad bc bd cd = record {
  sessions =
      pairs_of_four (λ one another. one.session ≢ another.session) _ _ _ _ ab.sessions ac.sessions ad.sessions
      bc.sessions bd.sessions cd.sessions;
  handles =
      pairs_of_four (λ one another. key_of one.name ≢ key_of another.name) _ _ _ _ ab.handles ac.handles ad.handles
      bc.handles bd.handles cd.handles;
}

-- what a plan says of its seats
record AreFit (lobby : LobbyState) (variant : Variant) (seats : Seats) : Type 0 where
  members : All (IsMember lobby) (seat_list seats)
  apart : ArePlayersApart seats
  boards : FitsVariant variant seats
  partners : SitCrosswise lobby seats.first seats.second

-- two at one board
two_fit : (lobby : LobbyState) (variant : Variant) (white : Bool) (offering accepting : Member)
    → needs_partners variant ≡ false
    → IsThere lobby offering → IsThere lobby accepting → Apart offering accepting
    → AreFit lobby variant (record { first = opponents_of lobby.accounts white offering accepting; second = None })
two_fit lobby Bughouse white offering accepting two here there apart = cc
two_fit lobby Chess true offering accepting two here there apart = record {
  members = all_of_two (IsMember lobby) _ _ (member_there lobby offering here) (member_there lobby accepting there);
  apart = two_apart lobby.accounts offering accepting apart;
  boards = refl;
  partners = tt;
}
two_fit lobby Chess false offering accepting two here there apart = record {
  members = all_of_two (IsMember lobby) _ _ (member_there lobby accepting there) (member_there lobby offering here);
  apart = two_apart lobby.accounts accepting offering (turned offering accepting apart);
  boards = refl;
  partners = tt;
}
two_fit lobby Crazyhouse true offering accepting two here there apart = record {
  members = all_of_two (IsMember lobby) _ _ (member_there lobby offering here) (member_there lobby accepting there);
  apart = two_apart lobby.accounts offering accepting apart;
  boards = refl;
  partners = tt;
}
two_fit lobby Crazyhouse false offering accepting two here there apart = record {
  members = all_of_two (IsMember lobby) _ _ (member_there lobby accepting there) (member_there lobby offering here);
  apart = two_apart lobby.accounts accepting offering (turned offering accepting apart);
  boards = refl;
  partners = tt;
}
two_fit lobby (Fischer number) true offering accepting two here there apart = record {
  members = all_of_two (IsMember lobby) _ _ (member_there lobby offering here) (member_there lobby accepting there);
  apart = two_apart lobby.accounts offering accepting apart;
  boards = refl;
  partners = tt;
}
two_fit lobby (Fischer number) false offering accepting two here there apart = record {
  members = all_of_two (IsMember lobby) _ _ (member_there lobby accepting there) (member_there lobby offering here);
  apart = two_apart lobby.accounts accepting offering (turned offering accepting apart);
  boards = refl;
  partners = tt;
}

-- four members: two, and the partner of each
record AreFour (lobby : LobbyState) (offering accepting first second : Member) : Type 0 where
  own : IsThere lobby offering
  other : IsThere lobby accepting
  own_partner : IsThere lobby first
  other_partner : IsThere lobby second
  own_link : partner_in lobby offering.session ≡ Some first.session
  other_link : partner_in lobby accepting.session ≡ Some second.session
  opposed : Apart offering accepting
  own_side : Apart offering first
  other_side : Apart accepting second
  own_across : Apart offering second
  other_across : Apart accepting first
  partners : Apart first second

-- two are apart, and so are their partners, who aren't the two
are_four : (lobby : LobbyState) (offering accepting first second : Member) → IsThere lobby offering
    → IsThere lobby accepting → IsThere lobby first
    → IsThere lobby second → partner_in lobby offering.session ≡ Some first.session
    → partner_in lobby accepting.session ≡ Some second.session
    → offering.session ≢ accepting.session → first.session ≢ accepting.session → IsWellFormed lobby
    → AreFour lobby offering accepting first second
are_four lobby offering accepting first second own other own_partner other_partner own_link other_link opposed away h =
    let links = lobby.partners.links in
    let all = h.partners.apart in
    let own_back : partner_of links first.session ≡ Some offering.session =
    partner_of-partner_of links all offering.session first.session own_link in
    let other_back : partner_of links second.session ≡ Some accepting.session =
    partner_of-partner_of links all accepting.session second.session other_link in
    let beside_own : offering.session ≢ first.session =
    λ e. partner_of-other links all offering.session (own_link ∙ ap (λ (s : ℕ). Some s) (sym e)) in
    let beside_other : accepting.session ≢ second.session =
    λ e. partner_of-other links all accepting.session (other_link ∙ ap (λ (s : ℕ). Some s) (sym e)) in
    let across : offering.session ≢ second.session =
    λ e. away (same_Some first.session accepting.session (sym own_link ∙ ap (partner_of links) e ∙ other_back)) in
    let between : first.session ≢ second.session =
    λ e. opposed (same_Some offering.session accepting.session (sym own_back ∙ ap (partner_of links) e ∙ other_back)) in
    record {
      own = own;
      other = other;
      own_partner = own_partner;
      other_partner = other_partner;
      own_link = own_link;
      other_link = other_link;
      opposed = members_apart lobby offering accepting own other opposed h;
      own_side = members_apart lobby offering first own own_partner beside_own h;
      other_side = members_apart lobby accepting second other other_partner beside_other h;
      own_across = members_apart lobby offering second own other_partner across h;
      other_across = members_apart lobby accepting first other own_partner (λ e. away (sym e)) h;
      partners = members_apart lobby first second own_partner other_partner between h;
    }

-- the four at their two boards
four_fit : (lobby : LobbyState) (white : Bool) (offering accepting first second : Member)
    → AreFour lobby offering accepting first second
    → AreFit lobby Bughouse (record {
      first = opponents_of lobby.accounts white offering accepting;
      second = Some (opponents_of lobby.accounts white second first);
    })
four_fit lobby true offering accepting first second four = record {
  members =
      all_of_four (IsMember lobby) _ _ _ _ (member_there lobby offering four.own)
      (member_there lobby accepting four.other)
      (member_there lobby second four.other_partner) (member_there lobby first four.own_partner);
  apart =
      four_apart lobby.accounts offering accepting second first four.opposed four.own_across four.own_side
      four.other_side four.other_across
      (turned first second four.partners);
  boards = refl;
  partners = (four.own_link, four.other_link);
}
four_fit lobby false offering accepting first second four = record {
  members =
      all_of_four (IsMember lobby) _ _ _ _ (member_there lobby accepting four.other)
      (member_there lobby offering four.own)
      (member_there lobby first four.own_partner) (member_there lobby second four.other_partner);
  apart =
      four_apart lobby.accounts accepting offering first second (turned offering accepting four.opposed)
      four.other_across four.other_side four.own_side
      four.own_across four.partners;
  boards = refl;
  partners = (four.other_link, four.own_link);
}

-- ---- who sits beside the two

-- whoever sits beside a member is its partner, and a member
beside_linked : (lobby : LobbyState) (who : ℕ) (partner : Option ℕ) (member : Member) → partner_in lobby who ≡ partner
    → member_at lobby partner ≡ Some member
    → (partner_in lobby who ≡ Some member.session) × IsThere lobby member
beside_linked lobby who None member is found = cc
beside_linked lobby who (Some session) member is found =
    let at = found_there lobby session member found in
    (is ∙ ap (λ (s : ℕ). Some s) (sym at.0), at.1)

-- at one board nobody sits beside a member
alone : (lobby : LobbyState) (variant : Variant) (member : Member) → needs_partners variant ≡ false
    → beside lobby variant member ≡ None
alone lobby Chess member two = refl
alone lobby Crazyhouse member two = refl
alone lobby (Fischer number) member two = refl
alone lobby Bughouse member two = cc

-- a game at one board is of two who aren't partners in it, and need none
pub alone_together : (lobby : LobbyState) (offering accepting : Member) (terms : Terms)
    → needs_partners terms.variant ≡ false
    → (are_partners lobby (paired offering accepting terms) ≡ false)
    × (lack_partner lobby (paired offering accepting terms) ≡ false)
alone_together lobby offering accepting terms two = (
  ap (holds (is_session accepting.session)) (alone lobby terms.variant offering two),
  ap
      (λ (b : Bool).
      b && (is_none (beside lobby terms.variant offering) || is_none (beside lobby terms.variant accepting)))
      two,
)

-- the two, and who sits beside each of them, where nobody is missing
seats_fit : (lobby : LobbyState) (variant : Variant) (white : Bool) (offering accepting : Member)
    (first second : Option Member)
    → beside lobby variant offering ≡ first → beside lobby variant accepting ≡ second
    → holds (is_session accepting.session) first ≡ false
    → (needs_partners variant && (is_none first || is_none second)) ≡ false
    → IsThere lobby offering → IsThere lobby accepting → offering.session ≢ accepting.session → IsWellFormed lobby
    → AreFit lobby variant (record {
      first = opponents_of lobby.accounts white offering accepting;
      second = second_pair lobby.accounts white second first;
    })
seats_fit lobby Chess white offering accepting None None one two away full own other opposed h =
    two_fit lobby Chess white offering accepting refl own other
    (members_apart lobby offering accepting own other opposed h)
seats_fit lobby Chess white offering accepting None (Some second) one two away full own other opposed h = cc
seats_fit lobby Chess white offering accepting (Some first) second one two away full own other opposed h = cc
seats_fit lobby Crazyhouse white offering accepting None None one two away full own other opposed h =
    two_fit lobby Crazyhouse white offering accepting refl own other
    (members_apart lobby offering accepting own other opposed h)
seats_fit lobby Crazyhouse white offering accepting None (Some second) one two away full own other opposed h = cc
seats_fit lobby Crazyhouse white offering accepting (Some first) second one two away full own other opposed h = cc
seats_fit lobby (Fischer number) white offering accepting None None one two away full own other opposed h =
    two_fit lobby (Fischer number) white offering accepting refl own other
    (members_apart lobby offering accepting own other opposed h)
seats_fit lobby (Fischer number) white offering accepting None (Some second) one two away full own other opposed h = cc
seats_fit lobby (Fischer number) white offering accepting (Some first) second one two away full own other opposed h = cc
seats_fit lobby Bughouse white offering accepting None second one two away full own other opposed h = cc
seats_fit lobby Bughouse white offering accepting (Some first) None one two away full own other opposed h = cc
seats_fit lobby Bughouse white offering accepting (Some first) (Some second) one two away full own other opposed h =
    let own_link = beside_linked lobby offering.session (partner_in lobby offering.session) first refl one in
    let other_link = beside_linked lobby accepting.session (partner_in lobby accepting.session) second refl two in
    four_fit lobby white offering accepting first second
    (are_four lobby offering accepting first second own other own_link.1 other_link.1 own_link.0 other_link.0 opposed
    (eqb-false first.session accepting.session away) h)

-- the plan of a game where the two and a free desk are there, and partners where they are needed
pub planned_where : (lobby : LobbyState) (session from : ℕ) (accepting : Member) (terms : Terms) (offering : Member)
    (slot : ℕ)
    → AreTerms terms → member_of lobby session ≡ Some accepting → member_of lobby from ≡ Some offering → from ≢ session
    → are_partners lobby (paired offering accepting terms) ≡ false
    → lack_partner lobby (paired offering accepting terms) ≡ false
    → free_slot lobby ≡ Some slot → nat_le most_games lobby.started ≡ false → is_shelf_full lobby ≡ false
    → IsWellFormed lobby
    → IsPlanned lobby (start_plan lobby (Some (paired offering accepting terms)) (Some slot))
planned_where lobby session from accepting terms offering slot bounds first third differ away full found few room h =
    let own = found_there lobby session accepting first in
    let theirs = found_there lobby from offering third in
    let opposed : offering.session ≢ accepting.session = λ same. differ (sym theirs.0 ∙ same ∙ own.0) in
    let within : slot < length lobby.games = position-within is_none lobby.games slot found in
    let back : slot + 1 - 1 ≡ slot = omega arith in
    let white = has_white (gives offering) (gives accepting) terms.colour (lobby.started + 1) in
    let fit =
    seats_fit lobby terms.variant white offering accepting (beside lobby terms.variant offering)
    (beside lobby terms.variant accepting) refl refl away full
    theirs.1 own.1 opposed h in
    let long = h.games in
    record {
      is_desk = (omega arith, omega (arith, long));
      is_free = ap (slice_get lobby.games) back ∙ free-is lobby.games slot found;
      is_next = refl;
      few = leb-false most_games lobby.started few;
      room = leb-false 10000 (places_taken lobby) room;
      are_terms = bounds;
      members = fit.members;
      apart = fit.apart;
      boards = fit.boards;
      partners = fit.partners;
    }
