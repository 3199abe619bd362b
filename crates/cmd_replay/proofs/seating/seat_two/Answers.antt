use Rattle.std.proofs.Common.{◌≡◌, ◌∷◌, [], List, ℕ, OnOk, sym, subst, ◌∙◌}
use Rattle.cmd_replay.specs.Evening.{HasMade, seating_acts}
use Rattle.cmd_replay.proofs.ActsMade.{made_last, made_then, two_names}
use Rattle.cmd_replay.proofs.seating.seat_two.Goals as goal

pub returns : goal.returns
returns c =
    let white = c.index-names-0.result in
    let black = c.index-names-1.result in
    let all = c.args.names.now in
    let entered = made_then _ _ _ _ _ c.in_ok-enter.ensures.made c.in_ok-enter-2.ensures.made in
    let started = made_then _ _ _ _ _ entered c.in_ok-start.ensures.made in
    let first = made_then _ _ _ _ _ started c.in_ok-fetch.ensures.made in
    let made = made_last c.fetch-2.result _ _ _ _ _ first c.fetch-2.ensures.made in
    let names : all ≡ white ∷ black ∷ [] =
    two_names all white black c.requires.two c.index-names-0.is c.index-names-1.is in
    record {
      opening =
          c.fetch-2.ensures.opening ∙ c.fetch.ensures.opening ∙ c.start.ensures.opening ∙ c.enter-2.ensures.opening
          ∙ c.enter.ensures.opening;
      made =
          subst (λ (l : List (List ℕ)).
          OnOk c.fetch-2.result (HasMade (seating_acts l c.args.terms) c.args.server.now.log c.fetch-2.new.server.log))
          (sym names) made;
    }
