use Rattle.std.proofs.Common.{subst}
use Rattle.partner_link.specs.Laws.{AreMutual}
use Rattle.partner_link.specs.Partners.{PartnerLists}
use Rattle.partner_link.proofs.Links.{partner_of-other, partner_of-partner_of}
use Rattle.partner_link.proofs.laws.partners_are_mutual.Goals as goal

pub returns : goal.returns
returns c =
    let links = c.partners.inside.links in
    let all = c.partners.invariant in
    subst (λ (l : PartnerLists). AreMutual l.links) c.partners.view_is (record {
      both_ways = λ a b. (partner_of-partner_of links all a b, partner_of-partner_of links all b a);
      another = λ a. partner_of-other links all a;
    })
