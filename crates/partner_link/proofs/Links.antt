-- Links: what stays when some go and when one comes, and that they hold both ways.
use Rattle.std.proofs.Common.{◌≡◌, ℕ, Bool, true, false, not, cond, List, [], ◌∷◌, ◌++◌, Option, None, Some, refl, sym, ap, subst, ◌∙◌}
use Rattle.std.specs.Prelude.{◌==◌, ◌||◌, option_map}
use Rattle.std.specs.List.{filter, find}
use Rattle.std.proofs.lemmas.Bool.{eqb-true, eqb-false, eq-eqb, ne_eqb, or_right, or_from, or_parts}
use Rattle.partner_link.specs.declared.pairs.PartnerLink.{PartnerLink}
use Rattle.partner_link.specs.Partners.{AreLinks, is_of, other_of, partner_of}
use Rattle.std.proofs.lemmas.Option.{same_Some, none-some}
pub use Rattle.collections.proofs.Numbers.{differ_turned as flipped}
pub use Rattle.collections.proofs.Tests.{none_found as no_partner}

same : (a : ℕ) → (a == a) ≡ true
same a = eq-eqb a a refl

-- a player without a partner isn't in the first link, and has no partner in the others
without_partner : (t : Bool) (who : ℕ) (link : PartnerLink) (rest : Option PartnerLink)
    → option_map (other_of who) (cond t (Some link) rest) ≡ None
    → (t ≡ false) × (option_map (other_of who) rest ≡ None)
without_partner true who link rest none = absurd (let bad : Some (other_of who link) ≡ None = none in cc)
without_partner false who link rest none = (refl, none)

-- a link that the player isn't in says nothing of its partner
passed : (who : ℕ) (link : PartnerLink) (links : List PartnerLink) → is_of who link ≡ false
    → partner_of (link ∷ links) who ≡ partner_of links who
passed who link links apart =
    ap (λ (t : Bool). option_map (other_of who) (cond t (Some link) (find (is_of who) links))) apart

-- and one that it is in says it
met : (who : ℕ) (link : PartnerLink) (links : List PartnerLink) → is_of who link ≡ true
    → partner_of (link ∷ links) who ≡ Some (other_of who link)
met who link links there =
    ap (λ (t : Bool). option_map (other_of who) (cond t (Some link) (find (is_of who) links))) there

pub partner_of-append : (links more : List PartnerLink) (who : ℕ) → partner_of links who ≡ None
    → partner_of (links ++ more) who ≡ partner_of more who
partner_of-append [] more who none = refl
partner_of-append (link ∷ links) more who none =
    let both = without_partner (is_of who link) who link (find (is_of who) links) none in
    passed who link (links ++ more) both.0 ∙ partner_of-append links more who both.1

kept_none : (t : Bool) (who : ℕ) (link : PartnerLink) (rest : List PartnerLink) → is_of who link ≡ false
    → partner_of rest who ≡ None
    → partner_of (cond t (link ∷ rest) rest) who ≡ None
kept_none true who link rest apart none = passed who link rest apart ∙ none
kept_none false who link rest apart none = none

partner_of-filter : (p : PartnerLink → Bool) (links : List PartnerLink) (who : ℕ) → partner_of links who ≡ None
    → partner_of (filter p links) who ≡ None
partner_of-filter p [] who none = refl
partner_of-filter p (link ∷ links) who none =
    let both = without_partner (is_of who link) who link (find (is_of who) links) none in
    kept_none (p link) who link (filter p links) both.0 (partner_of-filter p links who both.1)

kept_links : (t : Bool) (link : PartnerLink) (rest : List PartnerLink) → (link.first == link.second) ≡ false
    → partner_of rest link.first ≡ None → partner_of rest link.second ≡ None → AreLinks rest
    → AreLinks (cond t (link ∷ rest) rest)
kept_links true link rest differ first second more = (differ, first, second, more)
kept_links false link rest differ first second more = more

-- links of which some are gone are links
pub AreLinks-filter : (p : PartnerLink → Bool) (links : List PartnerLink) → AreLinks links → AreLinks (filter p links)
AreLinks-filter p [] all = tt
AreLinks-filter p (link ∷ links) all =
    kept_links (p link) link (filter p links) all.0
    (partner_of-filter p links link.first all.1)
    (partner_of-filter p links link.second all.2)
    (AreLinks-filter p links all.3)

-- two links that share nobody, seen from the other one
apart : (link last : PartnerLink) → is_of last.first link ≡ false → is_of last.second link ≡ false
    → (is_of link.first last ≡ false) × (is_of link.second last ≡ false)
apart link last one two =
    let a = or_parts (link.first == last.first) (link.second == last.first) one in
    let b = or_parts (link.first == last.second) (link.second == last.second) two in (
      or_from (last.first == link.first) (last.second == link.first) (flipped link.first last.first a.0)
          (flipped link.first last.second b.0),
      or_from (last.first == link.second) (last.second == link.second) (flipped link.second last.first a.1)
          (flipped link.second last.second b.1),
    )

-- two different players without partners can be linked
pub AreLinks-append : (links : List PartnerLink) (last : PartnerLink) → AreLinks links
    → (last.first == last.second) ≡ false
    → partner_of links last.first ≡ None → partner_of links last.second ≡ None → AreLinks (links ++ last ∷ [])
AreLinks-append [] last all differ first second = (differ, refl, refl, tt)
AreLinks-append (link ∷ links) last all differ first second =
    let one = without_partner (is_of last.first link) last.first link (find (is_of last.first) links) first in
    let two = without_partner (is_of last.second link) last.second link (find (is_of last.second) links) second in
    let away = apart link last one.0 two.0 in (
      all.0,
      partner_of-append links (last ∷ []) link.first all.1 ∙ passed link.first last [] away.0,
      partner_of-append links (last ∷ []) link.second all.2 ∙ passed link.second last [] away.1,
      AreLinks-append links last all.3 differ one.1 two.1,
    )

-- the other one of a player's link: it is in the link too, and the player is the other one for it
back : (link : PartnerLink) (a : ℕ) (t : Bool) → (link.first == a) ≡ t → t || (link.second == a) ≡ true
    → (link.first == link.second) ≡ false
    → (is_of (cond t link.second link.first) link ≡ true) × (other_of (cond t link.second link.first) link ≡ a)
back link a true first is differ = (
  or_right (link.first == link.second) (link.second == link.second) (same link.second),
  ap (λ (t : Bool). cond t link.second link.first) differ ∙ eqb-true link.first a first,
)
back link a false first is differ = (
  ap (λ (t : Bool). t || (link.second == link.first)) (same link.first),
  ap (λ (t : Bool). cond t link.second link.first) (same link.first) ∙ eqb-true link.second a is,
)

in_first : (link : PartnerLink) (links : List PartnerLink) (a b : ℕ) → is_of a link ≡ true
    → (link.first == link.second) ≡ false
    → Some (other_of a link) ≡ Some b → partner_of (link ∷ links) b ≡ Some a
in_first link links a b is differ found =
    let other : other_of a link ≡ b = same_Some (other_of a link) b found in
    let there = back link a (link.first == a) refl is differ in
    subst (λ (x : ℕ). partner_of (link ∷ links) x ≡ Some a) other
    (met (other_of a link) link links there.0 ∙ ap (λ (x : ℕ). Some x) there.1)

-- a player without a partner isn't the one who has this partner
differs : (links : List PartnerLink) (x b a : ℕ) → partner_of links x ≡ None → partner_of links b ≡ Some a
    → (x == b) ≡ false
differs links x b a none some = ne_eqb x b (λ e. none-some a (sym none ∙ ap (partner_of links) e ∙ some))

-- whoever is my partner has me as its partner
pub partner_of-partner_of : (links : List PartnerLink) → AreLinks links → (a b : ℕ) → partner_of links a ≡ Some b
    → partner_of links b ≡ Some a
partner_of-partner_of [] all a b found = absurd (none-some b found)
partner_of-partner_of (link ∷ links) all a b found =
    elim (is_of a link)
    as (λ t.
    is_of a link ≡ t → option_map (other_of a) (cond t (Some link) (find (is_of a) links)) ≡ Some b
    → partner_of (link ∷ links) b ≡ Some a) [
      | true ↦ λ is here. in_first link links a b is all.0 here
      | false ↦ λ _ later.
          let there = partner_of-partner_of links all.3 a b later in
          passed b link links
          (or_from (link.first == b) (link.second == b) (differs links link.first b a all.1 there)
          (differs links link.second b a all.2 there))
          ∙ there
    ] refl found

not_itself : (link : PartnerLink) (a : ℕ) (t : Bool) → (link.first == a) ≡ t → t || (link.second == a) ≡ true
    → (link.first == link.second) ≡ false
    → cond t link.second link.first ≡ a → ⊥
not_itself link a true first is differ own =
    eqb-false link.first link.second differ (eqb-true link.first a first ∙ sym own)
not_itself link a false first is differ own =
    eqb-false link.first link.second differ (own ∙ sym (eqb-true link.second a is))

-- nobody is its own partner
pub partner_of-other : (links : List PartnerLink) → AreLinks links → (a : ℕ) → partner_of links a ≡ Some a → ⊥
partner_of-other [] all a found = none-some a found
partner_of-other (link ∷ links) all a found =
    elim (is_of a link)
    as (λ t. is_of a link ≡ t → option_map (other_of a) (cond t (Some link) (find (is_of a) links)) ≡ Some a → ⊥) [
      | true ↦ λ is here. not_itself link a (link.first == a) refl is all.0 (same_Some (other_of a link) a here)
      | false ↦ λ _ later. partner_of-other links all.3 a later
    ] refl found

-- where a player's links are gone it has no partner
pub partner_of-gone : (links : List PartnerLink) (who : ℕ)
    → partner_of (filter (λ link. not (is_of who link)) links) who ≡ None
partner_of-gone [] who = refl
partner_of-gone (link ∷ links) who =
    let rest = filter (λ other. not (is_of who other)) links in
    elim (is_of who link) as (λ t. is_of who link ≡ t → partner_of (cond (not t) (link ∷ rest) rest) who ≡ None) [
      | true ↦ λ _. partner_of-gone links who
      | false ↦ λ away. passed who link rest away ∙ partner_of-gone links who
    ] refl

-- the two of a link are each other's partners
pub linked_first : (first second : ℕ) → partner_of (record { first = first; second = second } ∷ []) first ≡ Some second
linked_first first second =
    met first (record { first = first; second = second }) [] (ap (λ (t : Bool). t || (second == first)) (same first))
    ∙ ap (λ (t : Bool). Some (cond t second first)) (same first)

pub linked_second : (first second : ℕ) → (first == second) ≡ false
    → partner_of (record { first = first; second = second } ∷ []) second ≡ Some first
linked_second first second differ =
    met second (record {
      first = first;
      second = second;
    }) [] (or_right (first == second) (second == second) (same second))
    ∙ ap (λ (t : Bool). Some (cond t second first)) differ
