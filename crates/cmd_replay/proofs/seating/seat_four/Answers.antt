use Rattle.std.proofs.Common.{◌≡◌, ◌∷◌, [], List, ℕ, OnOk, sym, subst, ◌∙◌}
use Rattle.cmd_replay.specs.Evening.{HasMade, seating_acts}
use Rattle.cmd_replay.proofs.ActsMade.{four_names, made_last, made_then}
use Rattle.cmd_replay.proofs.seating.seat_four.Goals as goal

pub returns : goal.returns
returns c =
    let one = c.index-names-0.result in
    let two = c.index-names-1.result in
    let three = c.index-names-2.result in
    let four = c.index-names-3.result in
    let all = c.args.names.now in
    let linked = made_then _ _ _ _ _ c.in_ok-enter_four.ensures.made c.in_ok-link_four.ensures.made in
    let started = made_then _ _ _ _ _ linked c.in_ok-start.ensures.made in
    let made = made_last c.fetch_four.result _ _ _ _ _ started c.fetch_four.ensures.made in
    let names : all ≡ one ∷ two ∷ three ∷ four ∷ [] =
    four_names all one two three four c.requires.four c.index-names-0.is c.index-names-1.is c.index-names-2.is
    c.index-names-3.is in
    record {
      opening =
          c.fetch_four.ensures.opening ∙ c.start.ensures.opening ∙ c.link_four.ensures.opening
          ∙ c.enter_four.ensures.opening;
      made =
          subst (λ (l : List (List ℕ)).
          OnOk c.fetch_four.result
          (HasMade (seating_acts l c.args.terms) c.args.server.now.log c.fetch_four.new.server.log))
          (sym names) made;
    }
