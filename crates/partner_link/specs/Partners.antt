-- The partners of bughouse: requests and links, each of two players. This server's own.
use Rattle.std.specs.Prelude.{◌≡◌, ℕ, ◌==◌, Bool, true, false, not, ◌&&◌, ◌||◌, if◌then◌else◌, List, [], ◌∷◌, ◌++◌, Option, None, is_some, option_map}
use Rattle.std.specs.List.{filter, find, list_any}
use Rattle.fics_words.specs.Effect.{Effect}
use Rattle.fics_words.specs.declared.refusal.Refusal.TheVariants.{HasPartner}
use Rattle.partner_link.specs.declared.pairs.PartnerLink.{PartnerLink}
use Rattle.partner_link.specs.declared.pairs.PartnerRequest.{PartnerRequest}

-- who has asked whom, in the order of asking; and who are partners, in the order in which they became so
pub record PartnerLists : Type 0 where
  pub requests : List PartnerRequest
  pub links : List PartnerLink

-- the player is one of the two who are linked
abbrev pub is_of : ℕ → PartnerLink → Bool
is_of who link = (link.first == who) || (link.second == who)

-- the one of the two who isn't this player
abbrev pub other_of : ℕ → PartnerLink → ℕ
other_of who link = if link.first == who then link.second else link.first

-- the player's partner, if it has one
abbrev pub partner_of : List PartnerLink → ℕ → Option ℕ
partner_of links who = option_map (other_of who) (find (is_of who) links)

-- nobody is linked to itself, and nobody is in two links
abbrev pub AreLinks : List PartnerLink → Type 0
AreLinks [] = Unit {0}
AreLinks (link ∷ links) =
    ((link.first == link.second) ≡ false)
    × (partner_of links link.first ≡ None) × (partner_of links link.second ≡ None)
    × AreLinks links

-- the request is by this player to that one
abbrev pub is_request : ℕ → ℕ → PartnerRequest → Bool
is_request from to request = (request.from == from) && (request.to == to)

-- the request is by this player or to it
abbrev pub names : ℕ → PartnerRequest → Bool
names who request = (request.from == who) || (request.to == who)

-- a request by this player to that one stands
abbrev pub request_stands : List PartnerRequest → ℕ → ℕ → Bool
request_stands requests from to = list_any (is_request from to) requests

-- the other has a request to this player standing; nobody is other than itself
abbrev pub has_asked : List PartnerRequest → ℕ → ℕ → Bool
has_asked requests other who = not (who == other) && request_stands requests other who

-- a player asks another: the request stands behind the others, or where it stands already
abbrev pub requested : PartnerLists → ℕ → ℕ → PartnerLists
requested lists from to = record lists {
  requests =
      if request_stands lists.requests from to
      then lists.requests
      else lists.requests ++ record { from = from; to = to } ∷ [];
}

-- two players are linked, and every request that names one of them goes
abbrev pub linked : PartnerLists → ℕ → ℕ → PartnerLists
linked lists from to = record {
  requests = filter (λ request. not (names from request || names to request)) lists.requests;
  links = lists.links ++ record { first = to; second = from } ∷ [];
}

-- asking: refused where one of the two has a partner; it links the two where the other has asked this player
abbrev pub asking : PartnerLists → ℕ → ℕ → Effect PartnerLists Bool
asking lists from to = record {
  causes = (is_some (partner_of lists.links from) || is_some (partner_of lists.links to), HasPartner) ∷ [];
  memory = true;
  reply = has_asked lists.requests to from;
  after = if has_asked lists.requests to from then linked lists from to else requested lists from to;
}

-- the player's link is gone
abbrev pub parted : PartnerLists → ℕ → PartnerLists
parted lists who = record lists { links = filter (λ link. not (is_of who link)) lists.links }

-- every request and link that names the player is gone
abbrev pub without_naming : PartnerLists → ℕ → PartnerLists
without_naming lists who = record {
  requests = filter (λ request. not (names who request)) lists.requests;
  links = filter (λ link. not (is_of who link)) lists.links;
}
