use Rattle.std.proofs.Common.{not, sym, subst}
use Rattle.partner_link.specs.Partners.{AreLinks, is_of}
use Rattle.partner_link.proofs.Links.{AreLinks-filter}
use Rattle.partner_link.proofs.partners.Partners.forget.Goals as goal

pub invariant_of-self : goal.invariant_of-self
invariant_of-self c =
    subst AreLinks (sym c.keep_links.ensures)
    (AreLinks-filter (λ link. not (is_of c.args.who link)) c.self.inside.links c.self.invariant)
