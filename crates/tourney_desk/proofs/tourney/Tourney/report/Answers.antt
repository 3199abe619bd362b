use Rattle.std.proofs.Common.{◌≡◌, true, false, length, sym, ap, subst, ◌∙◌}
use Rattle.std.specs.List.{list_any}
use Rattle.collections.specs.ItemsWithRoom.{ItemsWithRoom}
use Rattle.tourney_desk.specs.declared.score.Report.{Report}
use Rattle.tourney_desk.specs.Pairing.{is_paired}
use Rattle.tourney_desk.specs.Tourney.{IsTourney, TourneyState, is_of_game}
use Rattle.tourney_desk.proofs.Keeping.{has_room, kept_report}
use Rattle.tourney_desk.proofs.tourney.Tourney.report.Goals as goal

pub push-requires : goal.push-requires
push-requires c =
    let w = c.number_of-white.result in
    let b = c.number_of-black.result in
    let paired : is_paired (length c.self.inside.players) w b ≡ true =
    ap (λ n. is_paired n w b) (sym c.len.ensures) ∙ sym c.is_paired.ensures ∙ c.if-not-is_paired.false in
    let none : list_any (is_of_game w b) c.self.inside.results.items ≡ false =
    ap (λ (v : TourneyState). list_any (is_of_game w b) v.results) c.self.view_is ∙ sym c.has_result.ensures
    ∙ c.if-has_result.false in
    has_room _ _ c.self.invariant c.if-not-self.false w b c.args.score paired none

pub invariant_of-self : goal.invariant_of-self
invariant_of-self c =
    let w = c.number_of-white.result in
    let b = c.number_of-black.result in
    let paired : is_paired (length c.self.inside.players) w b ≡ true =
    ap (λ n. is_paired n w b) (sym c.len.ensures) ∙ sym c.is_paired.ensures ∙ c.if-not-is_paired.false in
    let none : list_any (is_of_game w b) c.self.inside.results.items ≡ false =
    ap (λ (v : TourneyState). list_any (is_of_game w b) v.results) c.self.view_is ∙ sym c.has_result.ensures
    ∙ c.if-has_result.false in
    subst (λ (r : ItemsWithRoom Report).
    IsTourney (record { players = c.self.inside.players; started = c.self.inside.started; results = r.items }) r.room)
    (sym c.push.ensures) (kept_report _ _ c.self.invariant c.if-not-self.false w b c.args.score paired none)
