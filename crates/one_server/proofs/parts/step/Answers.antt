use Rattle.std.proofs.Common.{◌≡◌, ◌∷◌, ◌-◌, ◌≤◌, List, None, Some, set, ap, sym, ◌∙◌, arith}
use Rattle.histories.specs.Core.{reply, after}
use Rattle.one_server.specs.declared.part.Part.{Part}
use Rattle.one_server.specs.Acts.{first_part}
use Rattle.one_server.specs.House.{house, house_answer, house_one, house_two}
use Rattle.one_server.proofs.Stepping.{both_step, desk_steps, lobby_steps, on_both, on_ok, second_is_desk}
use Rattle.one_server.proofs.parts.step.Goals as goal

pub alone-requires-clause-first : goal.alone-requires-clause-first
alone-requires-clause-first c =
    let lobby : Part = c.args.lobby.now in
    let desks : List Part = c.args.desks.now in
    let timed = c.args.timed.now in
    let desk : Part = c.item_mut-desk.result.now in
    let low : 1 ≤ first_part timed.act = omega (arith, c.first_part-first.ensures, c.if-first-ne0.true) in
    let place : c.place.result ≡ first_part timed.act - 1 =
    c.place.ensures ∙ ap (λ n. n - 1) (c.new.ensures ∙ c.first_part-first.ensures) in
    let steps =
    desk_steps lobby desks c.args.session timed c.requires.whole c.requires.event c.place.result desk low place
    c.item_mut-desk.ensures.value in
    steps.0

pub returns-then-first-ne0-clause-reply : goal.returns-then-first-ne0-clause-reply
returns-then-first-ne0-clause-reply c =
    let lobby : Part = c.args.lobby.now in
    let desks : List Part = c.args.desks.now in
    let timed = c.args.timed.now in
    let desk : Part = c.item_mut-desk.result.now in
    let low : 1 ≤ first_part timed.act = omega (arith, c.first_part-first.ensures, c.if-first-ne0.true) in
    let place : c.place.result ≡ first_part timed.act - 1 =
    c.place.ensures ∙ ap (λ n. n - 1) (c.new.ensures ∙ c.first_part-first.ensures) in
    let steps =
    desk_steps lobby desks c.args.session timed c.requires.whole c.requires.event c.place.result desk low place
    c.item_mut-desk.ensures.value in
    on_ok (c.alone.new.reply ≡ house_answer desk None c.args.session timed.moment timed.act)
    (reply house (lobby ∷ desks) c.args.session timed ≡ Some c.alone.new.reply) c.alone.result
    (λ e. steps.1 ∙ ap Some (sym e)) c.alone.ensures.reply

pub returns-then-first-ne0-clause-after : goal.returns-then-first-ne0-clause-after
returns-then-first-ne0-clause-after c =
    let lobby : Part = c.args.lobby.now in
    let desks : List Part = c.args.desks.now in
    let timed = c.args.timed.now in
    let desk : Part = c.item_mut-desk.result.now in
    let low : 1 ≤ first_part timed.act = omega (arith, c.first_part-first.ensures, c.if-first-ne0.true) in
    let place : c.place.result ≡ first_part timed.act - 1 =
    c.place.ensures ∙ ap (λ n. n - 1) (c.new.ensures ∙ c.first_part-first.ensures) in
    let steps =
    desk_steps lobby desks c.args.session timed c.requires.whole c.requires.event c.place.result desk low place
    c.item_mut-desk.ensures.value in
    on_ok (c.alone.new.one ≡ house_one desk None c.args.session timed.moment timed.act)
    (after house (lobby ∷ desks) c.args.session timed ≡ lobby ∷ set desks c.place.result c.alone.new.one)
    c.alone.result
    (λ e. steps.2 ∙ ap (λ p. lobby ∷ set desks c.place.result p) (sym e)) c.alone.ensures.after

pub returns-in-None-clause-after : goal.returns-in-None-clause-after
returns-in-None-clause-after c =
    let lobby : Part = c.args.lobby.now in
    let desks : List Part = c.args.desks.now in
    let timed = c.args.timed.now in
    let first : first_part timed.act ≡ 0 = omega (arith, c.first_part-first.ensures, c.if-first-ne0.false) in
    on_ok (c.alone-in-None.new.one ≡ house_one lobby None c.args.session timed.moment timed.act)
    (after house (lobby ∷ desks) c.args.session timed ≡ c.alone-in-None.new.one ∷ desks) c.alone-in-None.result
    (λ e.
    lobby_steps lobby desks c.args.session timed first (sym c.in-None.ensures) ∙ ap (λ p. p ∷ desks) (sym e))
    c.alone-in-None.ensures.after

pub new-requires-in-Some : goal.new-requires-in-Some
new-requires-in-Some c =
    let timed = c.args.timed.now in
    let first : first_part timed.act ≡ 0 = omega (arith, c.first_part-first.ensures, c.if-first-ne0.false) in
    second_is_desk c.args.lobby.now c.args.desks.now c.args.session timed c.requires.whole c.requires.event
    c.in-Some.number first (sym c.in-Some.ensures)

pub together-requires-clause-both : goal.together-requires-clause-both
together-requires-clause-both c =
    let lobby : Part = c.args.lobby.now in
    let desks : List Part = c.args.desks.now in
    let timed = c.args.timed.now in
    let desk : Part = c.item_mut-desk-in-Some.result.now in
    let first : first_part timed.act ≡ 0 = omega (arith, c.first_part-first.ensures, c.if-first-ne0.false) in
    let place : c.place-in-Some.result ≡ c.in-Some.number - 1 =
    c.place-in-Some.ensures ∙ ap (λ n. n - 1) c.new-in-Some.ensures in
    let steps =
    both_step lobby desks c.args.session timed c.requires.whole c.requires.event c.in-Some.number first
    (sym c.in-Some.ensures) c.place-in-Some.result desk place c.item_mut-desk-in-Some.ensures.value in
    steps.0

pub returns-in-Some-clause-reply : goal.returns-in-Some-clause-reply
returns-in-Some-clause-reply c =
    let lobby : Part = c.args.lobby.now in
    let desks : List Part = c.args.desks.now in
    let timed = c.args.timed.now in
    let desk : Part = c.item_mut-desk-in-Some.result.now in
    let first : first_part timed.act ≡ 0 = omega (arith, c.first_part-first.ensures, c.if-first-ne0.false) in
    let place : c.place-in-Some.result ≡ c.in-Some.number - 1 =
    c.place-in-Some.ensures ∙ ap (λ n. n - 1) c.new-in-Some.ensures in
    let steps =
    both_step lobby desks c.args.session timed c.requires.whole c.requires.event c.in-Some.number first
    (sym c.in-Some.ensures) c.place-in-Some.result desk place c.item_mut-desk-in-Some.ensures.value in
    on_ok (c.together.new.reply ≡ house_answer lobby (Some desk) c.args.session timed.moment timed.act)
    (reply house (lobby ∷ desks) c.args.session timed ≡ Some c.together.new.reply) c.together.result
    (λ e. steps.1 ∙ ap Some (sym e)) c.together.ensures.reply

pub returns-in-Some-clause-after : goal.returns-in-Some-clause-after
returns-in-Some-clause-after c =
    let lobby : Part = c.args.lobby.now in
    let desks : List Part = c.args.desks.now in
    let timed = c.args.timed.now in
    let desk : Part = c.item_mut-desk-in-Some.result.now in
    let first : first_part timed.act ≡ 0 = omega (arith, c.first_part-first.ensures, c.if-first-ne0.false) in
    let place : c.place-in-Some.result ≡ c.in-Some.number - 1 =
    c.place-in-Some.ensures ∙ ap (λ n. n - 1) c.new-in-Some.ensures in
    let steps =
    both_step lobby desks c.args.session timed c.requires.whole c.requires.event c.in-Some.number first
    (sym c.in-Some.ensures) c.place-in-Some.result desk place c.item_mut-desk-in-Some.ensures.value in
    on_both (c.together.new.one ≡ house_one lobby (Some desk) c.args.session timed.moment timed.act)
    (c.together.new.two ≡ house_two lobby desk c.args.session timed.moment timed.act)
    (after house (lobby ∷ desks) c.args.session timed
    ≡ c.together.new.one ∷ set desks c.place-in-Some.result c.together.new.two) c.together.result
    (λ e f. steps.2 ∙ (λ i. sym e i ∷ set desks c.place-in-Some.result (sym f i))) c.together.ensures.one
    c.together.ensures.two
