-- A step on the parts that an act is lent is the server's step on the list of its parts.
use Rattle.std.proofs.Common.{◌≡◌, ◌≢◌, ℕ, ◌-◌, ◌<◌, ◌≤◌, zero, suc, List, ◌∷◌, length, get_or, set, refl, ap, sym, subst, ◌∙◌, arith}
use Rattle.std.specs.List.{slice_get}
use Rattle.std.specs.declared.option.Option.TheVariants.{None, Some}
use Rattle.std.specs.declared.result.Result.{Result}
use Rattle.std.specs.declared.result.Result.TheVariants.{Ok, Err}
use Rattle.std.specs.Prelude.{OnOk}
use Rattle.std.proofs.lemmas.Option.{get_or_from_slice_get}
use Rattle.histories.specs.Core.{reply, after}
use Rattle.histories.proofs.Parts.{get_within}
use Rattle.histories.proofs.Steps.{after_alone, after_together, reply_alone, reply_together}
use Rattle.lobby_state.specs.Desks.{IsDesk, desks as desk_count}
use Rattle.one_server.specs.declared.act.Act.{Act}
use Rattle.one_server.specs.declared.act.Act.TheVariants.{Lobby, Desk, Pair}
use Rattle.one_server.specs.declared.act.Timed.{Timed}
use Rattle.one_server.specs.declared.part.Part.{Part}
use Rattle.one_server.specs.declared.part.Part.TheVariants.{Lobby as TheLobby, Desk as ADesk}
use Rattle.one_server.specs.Acts.{IsEvent, first_part, second_part}
use Rattle.one_server.specs.House.{house, house_answer, house_one, house_two}
use Rattle.one_server.specs.LawfulProof.{house_lawful}
use Rattle.one_server.specs.Lent.{AreBothOf, IsFirstOf}
use Rattle.one_server.specs.Whole.{IsWhole}
use Rattle.one_server.proofs.Lending.{lends_first, lends_second}

-- a desk stands at its number in the list of parts
pub part_there : (lobby : Part) (desks : List Part) (number : ℕ) (desk : Part) → 1 ≤ number
    → slice_get desks (number - 1) ≡ Some desk → slice_get (lobby ∷ desks) number ≡ Some desk
part_there lobby desks zero desk h e = absurd (omega arith)
part_there lobby desks (suc n) desk h e =
    let same : suc n - 1 ≡ n = omega arith in subst (λ (k : ℕ). slice_get desks k ≡ Some desk) same e

-- a desk that is written anew in the list of parts
written : (lobby : Part) (desks : List Part) (number : ℕ) (desk : Part) → 1 ≤ number
    → set (lobby ∷ desks) number desk ≡ lobby ∷ set desks (number - 1) desk
written lobby desks zero desk h = absurd (omega arith)
written lobby desks (suc n) desk h =
    let same : suc n - 1 ≡ n = omega arith in ap (λ k. lobby ∷ set desks k desk) (sym same)

-- there are 128 desks in a whole state
pub count_of_desks : (lobby : Part) (desks : List Part) → IsWhole (lobby ∷ desks) → length desks ≡ desk_count
count_of_desks lobby desks w = omega (arith, w.count)

-- what is read at the place of a desk stands at its number in the list of parts
pub read_there : (lobby : Part) (desks read : List Part) (number : ℕ) (part : Part) → IsWhole (lobby ∷ desks)
    → IsDesk number → read ≡ desks → part ≡ get_or read (number - 1) part
    → slice_get (lobby ∷ desks) number ≡ Some part
read_there lobby desks read number part w d e is =
    let count = count_of_desks lobby desks w in
    let found = get_within desks (number - 1) (omega (arith, count, d)) in
    let same : part ≡ found.0 =
    is ∙ ap (λ ps. get_or ps (number - 1) part) e
    ∙ get_or_from_slice_get desks (number - 1) found.0 part found.1 in
    part_there lobby desks number part d.0 (found.1 ∙ ap Some (sym same))

-- an act that needs a desk first needs no other part
desk_alone : (one : Part) (session : ℕ) (act : Act) → 1 ≤ first_part act → second_part one session act ≡ None
desk_alone (ADesk desk) session (Desk number serial act) low = refl
desk_alone (TheLobby lobby) session (Desk number serial act) low = refl
desk_alone one session (Lobby act) low = absurd (omega (arith, low))
desk_alone one session (Pair act) low = absurd (omega (arith, low))

module _ (lobby : Part) (desks : List Part) (session : ℕ) (timed : Timed) where
  -- an act that needs the lobby alone
  pub lobby_steps : first_part timed.act ≡ 0 → second_part lobby session timed.act ≡ None
      → after house (lobby ∷ desks) session timed ≡ house_one lobby None session timed.moment timed.act ∷ desks
  lobby_steps first none =
      after_alone house (lobby ∷ desks) session timed lobby (ap (slice_get (lobby ∷ desks)) first) none
      ∙ ap (λ n. set (lobby ∷ desks) n (house_one lobby None session timed.moment timed.act)) first

  module _ (whole : IsWhole (lobby ∷ desks)) (event : IsEvent timed) where
    -- an act that needs a desk alone: it is lent it, and is answered and leaves the parts like this
    pub desk_steps : (place : ℕ) (desk : Part) → 1 ≤ first_part timed.act → place ≡ first_part timed.act - 1
        → slice_get desks place ≡ Some desk
        → IsFirstOf desk timed.act
        × (reply house (lobby ∷ desks) session timed ≡ Some (house_answer desk None session timed.moment timed.act))
        × (after house (lobby ∷ desks) session timed
        ≡ lobby ∷ set desks place (house_one desk None session timed.moment timed.act))
    desk_steps place desk low is e =
        let number : ℕ = first_part timed.act in
        let one : Part = house_one desk None session timed.moment timed.act in
        let there =
        part_there lobby desks number desk low (subst (λ (n : ℕ). slice_get desks n ≡ Some desk) is e) in
        let none = desk_alone desk session timed.act low in (
          lends_first (lobby ∷ desks) timed.act desk whole event.act there,
          reply_alone house (lobby ∷ desks) session timed desk there none,
          after_alone house (lobby ∷ desks) session timed desk there none ∙ written lobby desks number one low
              ∙ ap (λ n. lobby ∷ set desks n one) (sym is),
        )

    module _ (number : ℕ) (first : first_part timed.act ≡ 0)
        (second : second_part lobby session timed.act ≡ Some number) where
      -- an act that needs the lobby and another part: that is a desk
      pub second_is_desk : IsDesk number
      second_is_desk =
          let found =
          house_lawful.second_in (lobby ∷ desks) session timed lobby number whole event
          (ap (slice_get (lobby ∷ desks)) first) second in
          let inside : number < length (lobby ∷ desks) = found.0 in
          let other : number ≢ first_part timed.act = found.1 in
          (omega (arith, other, first), omega (arith, inside, whole.count))

      -- it is lent both, and is answered and leaves the parts like this
      pub both_step : (place : ℕ) (desk : Part) → place ≡ number - 1 → slice_get desks place ≡ Some desk
          → AreBothOf lobby desk session timed.act
          × (reply house (lobby ∷ desks) session timed
          ≡ Some (house_answer lobby (Some desk) session timed.moment timed.act))
          × (after house (lobby ∷ desks) session timed
          ≡ house_one lobby (Some desk) session timed.moment timed.act
          ∷ set desks place (house_two lobby desk session timed.moment timed.act))
      both_step place desk is e =
          let there : slice_get (lobby ∷ desks) (first_part timed.act) ≡ Some lobby =
          ap (slice_get (lobby ∷ desks)) first in
          let low = second_is_desk.0 in
          let other =
          part_there lobby desks number desk low (subst (λ (n : ℕ). slice_get desks n ≡ Some desk) is e) in
          let one : Part = house_one lobby (Some desk) session timed.moment timed.act in
          let two : Part = house_two lobby desk session timed.moment timed.act in (
            lends_second (lobby ∷ desks) session timed.act lobby desk number whole event.act there second other,
            reply_together house (lobby ∷ desks) session timed lobby desk number there second other,
            after_together house (lobby ∷ desks) session timed lobby desk number there second other
                ∙ ap (λ n. set (set (lobby ∷ desks) n one) number two) first ∙ written one desks number two low
                ∙ ap (λ n. one ∷ set desks n two) (sym is),
          )

pub on_ok : {T E : Type 0} (P Q : Type 0) (r : Result T E) → (P → Q) → OnOk r P → OnOk r Q
on_ok P Q (Ok x) step h = step h
on_ok P Q (Err e) step h = tt

pub on_both : {T E : Type 0} (P Q R : Type 0) (r : Result T E) → (P → Q → R) → OnOk r P → OnOk r Q → OnOk r R
on_both P Q R (Ok x) step h k = step h k
on_both P Q R (Err e) step h k = tt
