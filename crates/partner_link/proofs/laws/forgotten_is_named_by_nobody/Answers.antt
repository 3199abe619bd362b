use Rattle.std.proofs.Common.{◌≡◌, not, None, sym, subst, ◌∙◌, false}
use Rattle.std.specs.List.{filter}
use Rattle.std.proofs.lemmas.Bool.{not_from_true}
use Rattle.partner_link.specs.Laws.{IsNamedByNobody}
use Rattle.partner_link.specs.Partners.{PartnerLists, is_of, names, partner_of, without_naming}
use Rattle.partner_link.proofs.Links.{AreLinks-filter, partner_of-gone, partner_of-partner_of}
use Rattle.partner_link.proofs.laws.forgotten_is_named_by_nobody.Goals as goal
use Rattle.std.proofs.lemmas.Option.{none-some}
use Rattle.std.proofs.lemmas.Map.Views.{any-filter_same}

pub returns : goal.returns
returns c =
    let who = c.args.who in
    let links = c.partners.inside.links in
    let left = filter (λ link. not (is_of who link)) links in
    let alone : partner_of left who ≡ None = partner_of-gone links who in
    let all = AreLinks-filter (λ link. not (is_of who link)) links c.partners.invariant in
    subst (λ (l : PartnerLists). IsNamedByNobody (without_naming l who) who) c.partners.view_is (record {
      alone = alone;
      nobody_s = λ other found. none-some other (sym alone ∙ partner_of-partner_of left all other who found);
      unasked =
          any-filter_same (names who) (λ request. not (names who request)) false
          (λ request named. not_from_true (names who request) named) c.partners.inside.requests;
    })
