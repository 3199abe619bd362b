use Rattle.std.proofs.Common.{◌≡◌, Bool, true, false, not, cond, [], ◌∷◌, None, Some, refl, sym, subst, ◌∙◌}
use Rattle.std.specs.Prelude.{ℕ, ◌==◌, ◌||◌, is_some}
use Rattle.std.proofs.lemmas.Bool.{and_parts, not-true, or_parts, not_from_true, or_left, or_right}
use Rattle.fics_words.specs.declared.refusal.Refusal.{Refusal}
use Rattle.fics_words.specs.declared.refusal.Refusal.TheVariants.{HasPartner}
use Rattle.partner_link.specs.declared.pairs.PartnerLink.{PartnerLink}
use Rattle.partner_link.specs.Laws.{ArePartnersAlone}
use Rattle.partner_link.specs.Partners.{PartnerLists, requested, has_asked, linked, names, partner_of, request_stands}
use Rattle.partner_link.proofs.Links.{flipped, linked_first, linked_second, no_partner, partner_of-append}
use Rattle.partner_link.proofs.laws.asked_back_are_partners.Goals as goal
use Rattle.std.proofs.lemmas.Map.Views.{any-filter_same}

-- nothing refuses it
allowed : (t : Bool) (cause : Refusal) → cond t (Some cause) None ≡ None → t ≡ false
allowed true cause e = absurd (let bad : Some cause ≡ None = e in cc)
allowed false cause e = refl

partners : (lists : PartnerLists) (from to : ℕ)
    → is_some (partner_of lists.links from) || is_some (partner_of lists.links to) ≡ false
    → has_asked lists.requests to from ≡ true → ArePartnersAlone (linked lists from to) from to
partners lists from to alone asks =
    let free = or_parts (is_some (partner_of lists.links from)) (is_some (partner_of lists.links to)) alone in
    let differ = not-true (from == to) (and_parts (not (from == to)) (request_stands lists.requests to from) asks).0 in
    let link : PartnerLink = record { first = to; second = from } in
    record {
      one_way =
          partner_of-append lists.links (link ∷ []) from (no_partner _ _ refl free.0)
          ∙ linked_second to from (flipped from to differ);
      other_way =
          partner_of-append lists.links (link ∷ []) to (no_partner _ _ refl free.1)
          ∙ linked_first to from;
      first_unasked =
          any-filter_same (names from) (λ request. not (names from request || names to request)) false
          (λ request named.
          not_from_true (names from request || names to request)
          (or_left (names from request) (names to request) named))
          lists.requests;
      second_unasked =
          any-filter_same (names to) (λ request. not (names from request || names to request)) false
          (λ request named.
          not_from_true (names from request || names to request)
          (or_right (names from request) (names to request) named))
          lists.requests;
    }

pub returns : goal.returns
returns c = λ free asks.
    let lists = c.args.partners.now in
    let from = c.args.from in
    let to = c.args.to in
    subst (λ (t : Bool). ArePartnersAlone (cond t (linked lists from to) (requested lists from to)) from to) (sym asks)
    (partners lists from to
    (allowed (is_some (partner_of lists.links from) || is_some (partner_of lists.links to)) HasPartner free) asks)
