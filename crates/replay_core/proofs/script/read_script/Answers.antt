use Rattle.std.proofs.Common.{◌^◌, ◌<◌, ◌≡◌, ◌∷◌, ◌++◌, arith, sym, ◌∙◌}
use Rattle.std.specs.Prelude.{decimal}
use Rattle.fics_words.specs.Blank.{blank}
use Rattle.replay_core.specs.Script.{event_text}
use Rattle.replay_core.proofs.Cuts.{one_number}
use Rattle.replay_core.proofs.script.read_script.Goals as goal

-- what follows the moment would begin with the session's number
pub returns-in_default-cut_number-clause-none : goal.returns-in_default-cut_number-clause-none
returns-in_default-cut_number-clause-none c value h e =
    let small : value.moment < 2 ^ 64 = omega arith in
    let read : c.in-Some.moment < 2 ^ 64 = omega (arith, c.in-Some.ensures.bound) in
    let rest =
    one_number c.in-Some.moment value.moment c.in-Some.rest.now
    (decimal value.session ++ blank ∷ event_text value.event) read small
    (sym c.in-Some.ensures.parts ∙ (c.bytes.ensures.bytes ∙ e)) in
    c.in_default-cut_number.ensures.none value.session (event_text value.event) h.last rest.1

-- the session would be the one that was read, which is 0
pub returns-then-session-eq0-clause-none : goal.returns-then-session-eq0-clause-none
returns-then-session-eq0-clause-none c value h e =
    let small : value.moment < 2 ^ 64 = omega arith in
    let read : c.in-Some.moment < 2 ^ 64 = omega (arith, c.in-Some.ensures.bound) in
    let rest =
    one_number c.in-Some.moment value.moment c.in-Some.rest.now
    (decimal value.session ++ blank ∷ event_text value.event) read small
    (sym c.in-Some.ensures.parts ∙ (c.bytes.ensures.bytes ∙ e)) in
    let session =
    one_number c.in-Some-cut_number.session value.session c.in-Some-cut_number.rest.now (event_text value.event)
    (omega (arith, c.in-Some-cut_number.ensures.bound)) (omega (arith, h.last))
    (sym c.in-Some-cut_number.ensures.parts ∙ rest.1) in
    let zero : c.in-Some-cut_number.session ≡ 0 = cc in
    omega (arith, session.0, h.first)

-- the event would be what is left
pub returns-in_default-2-clause-none : goal.returns-in_default-2-clause-none
returns-in_default-2-clause-none c value h e =
    let small : value.moment < 2 ^ 64 = omega arith in
    let read : c.in-Some.moment < 2 ^ 64 = omega (arith, c.in-Some.ensures.bound) in
    let rest =
    one_number c.in-Some.moment value.moment c.in-Some.rest.now
    (decimal value.session ++ blank ∷ event_text value.event) read small
    (sym c.in-Some.ensures.parts ∙ (c.bytes.ensures.bytes ∙ e)) in
    let event =
    one_number c.in-Some-cut_number.session value.session c.in-Some-cut_number.rest.now (event_text value.event)
    (omega (arith, c.in-Some-cut_number.ensures.bound)) (omega (arith, h.last))
    (sym c.in-Some-cut_number.ensures.parts ∙ rest.1) in
    let none = rw c.in_default-2.is at c.in_ok-event.ensures.none in
    none value.event h.event event.1
