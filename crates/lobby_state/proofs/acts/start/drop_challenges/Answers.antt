use Rattle.std.proofs.Common.{List, sym, ap, ◌∙◌}
use Rattle.std.specs.List.{filter}
use Rattle.fics_words.specs.declared.player.Player.{Player}
use Rattle.seek_match.specs.Matches.{stays, whose}
use Rattle.lobby_state.proofs.Seated.{of_four, of_two}
use Rattle.lobby_state.proofs.Settled.{after_each, settled_gone, stays_then}
use Rattle.lobby_state.proofs.acts.start.drop_challenges.Goals as goal

pub returns-in_default : goal.returns-in_default
returns-in_default c =
    let seats = c.args.seats.now in
    let members = c.args.members.now in
    let test = stays_then members seats in
    c.keep_of-2.ensures
    ∙ ap (filter (λ challenge. stays test seats.first.black.session (whose challenge))) c.keep_of.ensures
    ∙ ap (λ (players : List Player). after_each test players c.args.challenges.now) (sym (of_two seats c.in_default.is))
    ∙ settled_gone members seats c.args.challenges.now

pub returns : goal.returns
returns c =
    let seats = c.args.seats.now in
    let second = c.in-Some.second in
    let members = c.args.members.now in
    let test = stays_then members seats in
    c.keep_of-4.ensures
    ∙ ap (filter (λ challenge. stays test second.black.session (whose challenge))) (c.keep_of-3.ensures
    ∙ ap (filter (λ challenge. stays test second.white.session (whose challenge))) (c.keep_of-2.ensures
    ∙ ap (filter (λ challenge. stays test seats.first.black.session (whose challenge))) c.keep_of.ensures))
    ∙ ap (λ (players : List Player). after_each test players c.args.challenges.now)
    (sym (of_four seats second c.in-Some.is))
    ∙ settled_gone members seats c.args.challenges.now
