use Rattle.std.proofs.Common.{◌≡◌, false, None, sym, ap, subst, ◌∙◌, rules}
use Rattle.std.specs.Prelude.{◌==◌, ◌&&◌}
use Rattle.std.specs.List.{list_any}
use Rattle.std.proofs.lemmas.Bool.{ne_eqb}
use Rattle.std.proofs.lemmas.Cmp.{nat_eq_equiv}
use Rattle.tables.proofs.Firsts.{find-absent}
use Rattle.partner_link.specs.Partners.{AreLinks, PartnerLists, partner_of, request_stands}
use Rattle.partner_link.proofs.Links.{AreLinks-append, no_partner}
use Rattle.partner_link.proofs.partners.Partners.ask.Goals as goal

pub invariant_of-self-then-stands : goal.invariant_of-self-then-stands
invariant_of-self-then-stands c =
    let links = c.self.inside.links in
    let from = c.args.from in
    let to = c.args.to in
    let from_alone : partner_of links from ≡ None =
    ap (λ (l : PartnerLists). partner_of l.links from) c.self.view_is
    ∙ no_partner _ _ c.of.ensures (sym c.is_some.ensures ∙ c.if-is_some.false) in
    let to_alone : partner_of links to ≡ None =
    ap (λ (l : PartnerLists). partner_of l.links to) c.self.view_is
    ∙ no_partner _ _ c.of-else-is_some.ensures (sym c.is_some-else-is_some.ensures ∙ c.if-is_some-2.false) in
    subst AreLinks (sym c.in_ok-push.ensures.ok)
    (AreLinks-append links _ c.self.invariant (ne_eqb to from (λ e. c.if-from-to.true (sym e))) to_alone from_alone)

pub push-requires-then-not-stands : goal.push-requires-then-not-stands
push-requires-then-not-stands c =
    let from = c.args.from in
    let to = c.args.to in
    let rows = c.self.inside.requests in
    let unasked : request_stands rows from to ≡ false = search rules in
    find-absent (λ row. (from == row.from) && (to == row.to)) rows
    ((λ j. list_any (λ row. nat_eq_equiv.symm from row.from j && nat_eq_equiv.symm to row.to j) rows) ∙ unasked)
