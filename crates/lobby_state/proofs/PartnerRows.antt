-- Requests and links of members: some go, one comes, and members come and go.
use Rattle.std.proofs.Common.{◌≡◌, ℕ, Bool, true, false, not, cond, eqb, List, [], ◌∷◌, ◌++◌, None, refl, ap}
use Rattle.std.specs.Prelude.{All, Contains, ◌||◌, ◌==◌}
use Rattle.std.specs.List.{filter}
use Rattle.std.proofs.lemmas.Bool.{and_parts, or_parts, not-true}
use Rattle.std.proofs.lemmas.List.Elements.{All-filter, All-push, All-weaker}
use Rattle.partner_link.specs.declared.pairs.PartnerRequest.{PartnerRequest}
use Rattle.partner_link.specs.Partners.{AreLinks, PartnerLists, requested, asking, has_asked, is_of, linked, names, parted, partner_of, request_stands, without_naming}
use Rattle.partner_link.proofs.Links.{AreLinks-append, AreLinks-filter, flipped}
use Rattle.lobby_state.specs.WellFormed.{ArePartnersOf, IsAskedByMember, IsLinkOfMembers}
use Rattle.lobby_state.proofs.Lists.{All-filter_passing, Contains-filter}

-- there are more members
pub ArePartnersOf-more : (sessions more : List ℕ) (lists : PartnerLists)
    → ((s : ℕ) → Contains sessions s → Contains more s) → ArePartnersOf sessions lists
    → ArePartnersOf more lists
ArePartnersOf-more sessions more lists step h = record {
  requests = All-weaker (IsAskedByMember sessions) (IsAskedByMember more)
      (λ request by. record { from = step request.from by.from; to = step request.to by.to }) lists.requests h.requests;
  links = All-weaker (IsLinkOfMembers sessions) (IsLinkOfMembers more)
      (λ link are. record { first = step link.first are.first; second = step link.second are.second }) lists.links
      h.links;
  apart = h.apart;
}

-- a member parts
pub ArePartnersOf-parted : (sessions : List ℕ) (who : ℕ) (lists : PartnerLists) → ArePartnersOf sessions lists
    → ArePartnersOf sessions (parted lists who)
ArePartnersOf-parted sessions who lists h = record {
  requests = h.requests;
  links = All-filter (λ link. not (is_of who link)) (IsLinkOfMembers sessions) lists.links h.links;
  apart = AreLinks-filter (λ link. not (is_of who link)) lists.links h.apart;
}

-- what names a member goes
pub ArePartnersOf-forgotten : (sessions : List ℕ) (who : ℕ) (lists : PartnerLists) → ArePartnersOf sessions lists
    → ArePartnersOf sessions (without_naming lists who)
ArePartnersOf-forgotten sessions who lists h = record {
  requests = All-filter (λ request. not (names who request)) (IsAskedByMember sessions) lists.requests h.requests;
  links = All-filter (λ link. not (is_of who link)) (IsLinkOfMembers sessions) lists.links h.links;
  apart = AreLinks-filter (λ link. not (is_of who link)) lists.links h.apart;
}

-- a member goes with what names it
pub ArePartnersOf-without : (sessions : List ℕ) (who : ℕ) (lists : PartnerLists) → ArePartnersOf sessions lists
    → ArePartnersOf (filter (λ s. not (eqb s who)) sessions) (without_naming lists who)
ArePartnersOf-without sessions who lists h =
    let stays : ℕ → Bool = λ s. not (eqb s who) in
    let left = filter stays sessions in
    record {
      requests =
          All-filter_passing (IsAskedByMember sessions) (IsAskedByMember left) (λ request. not (names who request))
          (λ request passes by.
          let parts = or_parts (eqb request.from who) (eqb request.to who) (not-true (names who request) passes) in
          record {
            from = Contains-filter stays sessions request.from (ap not parts.0) by.from;
            to = Contains-filter stays sessions request.to (ap not parts.1) by.to;
          }) lists.requests h.requests;
      links = All-filter_passing (IsLinkOfMembers sessions) (IsLinkOfMembers left) (λ link. not (is_of who link))
          (λ link passes are.
          let parts = or_parts (eqb link.first who) (eqb link.second who) (not-true (is_of who link) passes) in
          record {
            first = Contains-filter stays sessions link.first (ap not parts.0) are.first;
            second = Contains-filter stays sessions link.second (ap not parts.1) are.second;
          }) lists.links h.links;
      apart = AreLinks-filter (λ link. not (is_of who link)) lists.links h.apart;
    }

one_more_or_same : (sessions : List ℕ) (b : Bool) (requests : List PartnerRequest) (request : PartnerRequest)
    → All (IsAskedByMember sessions) requests
    → IsAskedByMember sessions request → All (IsAskedByMember sessions) (cond b requests (requests ++ request ∷ []))
one_more_or_same sessions true requests request h new = h
one_more_or_same sessions false requests request h new = All-push (IsAskedByMember sessions) requests request h new

linked_or_asked : (sessions : List ℕ) (b : Bool) (lists : PartnerLists) (one another : ℕ) → Contains sessions one
    → Contains sessions another
    → (b ≡ true → AreLinks (lists.links ++ record { first = another; second = one } ∷ []))
    → ArePartnersOf sessions lists
    → ArePartnersOf sessions (cond b (linked lists one another) (requested lists one another))
linked_or_asked sessions true lists one another here there apart h = record {
  requests =
      All-filter (λ request. not (names one request || names another request)) (IsAskedByMember sessions) lists.requests
      h.requests;
  links =
      All-push (IsLinkOfMembers sessions) lists.links (record {
        first = another;
        second = one;
      }) h.links (record { first = there; second = here });
  apart = apart refl;
}
linked_or_asked sessions false lists one another here there apart h = record {
  requests =
      one_more_or_same sessions (request_stands lists.requests one another) lists.requests (record {
        from = one;
        to = another;
      }) h.requests
      (record { from = here; to = there });
  links = h.links;
  apart = h.apart;
}

-- whoever asked isn't the one who is asked
asks_another : (lists : PartnerLists) (one another : ℕ) → has_asked lists.requests another one ≡ true
    → (another == one) ≡ false
asks_another lists one another asks =
    flipped one another
    (not-true (one == another) (and_parts (not (one == another)) (request_stands lists.requests another one) asks).0)

-- a member asks a member, and neither has a partner
pub ArePartnersOf-asking : (sessions : List ℕ) (lists : PartnerLists) (one another : ℕ) → Contains sessions one
    → Contains sessions another
    → partner_of lists.links one ≡ None → partner_of lists.links another ≡ None
    → ArePartnersOf sessions lists → ArePartnersOf sessions (asking lists one another).after
ArePartnersOf-asking sessions lists one another here there alone other h =
    linked_or_asked sessions (has_asked lists.requests another one) lists one another here there
    (λ asks.
    AreLinks-append lists.links (record {
      first = another;
      second = one;
    }) h.apart (asks_another lists one another asks) other alone)
    h
