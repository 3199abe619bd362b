use Rattle.std.proofs.Common.{length, sym, ap, ◌∙◌}
use Rattle.tourney_desk.specs.Tourney.{TourneyState, is_of_key}
use Rattle.fics_words.proofs.Positions.{place-found, place-missing}
use Rattle.tourney_desk.proofs.tourney.Tourney.number_of.Goals as goal

pub returns-in-Some : goal.returns-in-Some
returns-in-Some c =
    place-found (is_of_key c.args.key) c.args.self.now.players c.in-Some.number
    (sym c.place_of.ensures.place ∙ c.in-Some.is)

pub returns-in-None : goal.returns-in-None
returns-in-None c =
    c.len.ensures ∙ ap (λ (v : TourneyState). length v.players) c.self.view_is
    ∙ place-missing (is_of_key c.args.key) c.args.self.now.players (sym c.place_of.ensures.place ∙ c.in-None.is)
