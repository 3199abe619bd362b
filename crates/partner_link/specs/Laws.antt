-- Laws of partners, in the words of players. This server's own.
use Rattle.std.specs.Prelude.{◌≡◌, ◌≢◌, ◌↔◌, ℕ, false, List, None, Some}
use Rattle.std.specs.List.{list_any}
use Rattle.partner_link.specs.declared.pairs.PartnerLink.{PartnerLink}
use Rattle.partner_link.specs.Partners.{PartnerLists, names, partner_of}

-- whoever is my partner has me as its partner, and nobody is its own
pub record AreMutual (links : List PartnerLink) : Type 0 where
  pub both_ways : (a b : ℕ) → (partner_of links a ≡ Some b) ↔ (partner_of links b ≡ Some a)
  pub another : (a : ℕ) → partner_of links a ≢ Some a

-- no request is by this player or to it
abbrev pub HasNoRequest : PartnerLists → ℕ → Type 0
HasNoRequest lists who = list_any (names who) lists.requests ≡ false

-- the player has no partner, is nobody's, and no request names it
pub record IsNamedByNobody (lists : PartnerLists) (who : ℕ) : Type 0 where
  pub alone : partner_of lists.links who ≡ None
  pub nobody_s : (other : ℕ) → partner_of lists.links other ≢ Some who
  pub unasked : HasNoRequest lists who

-- each of the two has the other as its partner, and no request names either
pub record ArePartnersAlone (lists : PartnerLists) (a b : ℕ) : Type 0 where
  pub one_way : partner_of lists.links a ≡ Some b
  pub other_way : partner_of lists.links b ≡ Some a
  pub first_unasked : HasNoRequest lists a
  pub second_unasked : HasNoRequest lists b
