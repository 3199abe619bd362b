use Rattle.std.proofs.Common.{◌≡◌, List, [], ℕ, Some, refl, ap, subst, ◌∙◌}
use Rattle.one_server.specs.Running.{Log}
use Rattle.replay_core.specs.Attendance.{IsAfter}
use Rattle.cmd_replay.specs.Evening.{EveningState, HasMade, seated_from, seating_acts}
use Rattle.cmd_replay.proofs.EveningAnswers.{seats_taken}
use Rattle.cmd_replay.proofs.evening.Evening.take_seats.Goals as goal

pub returns : goal.returns
returns c =
    let old = c.args.self.now in
    let seat = c.args.seats.now in
    let new : EveningState = record {
      server = c.seat.new.server;
      order = Some c.new.result;
      moment = c.self.inside.moment;
      memories = c.seat_sessions.new.sessions;
    } in
    let opening = c.seat.ensures.opening ∙ ap (λ (v : EveningState). v.server.opening) c.self.view_is in
    let made : HasMade (seating_acts seat.names seat.terms) old.server.log new.server.log =
    subst (λ (log : Log). HasMade (seating_acts seat.names seat.terms) log new.server.log)
    (ap (λ (v : EveningState). v.server.log) c.self.view_is) c.in_ok-seat.ensures.made in
    let moment = ap (λ (v : EveningState). v.moment) c.self.view_is in
    let memories : new.memories ≡ seated_from 0 seat.names old.memories =
    c.seat_sessions.ensures
    ∙ ap (λ (l : List (List ℕ)). seated_from 0 l c.self.inside.sessions) c.as_slice-names.ensures
    ∙ ap (λ (v : EveningState). seated_from 0 seat.names v.memories) c.self.view_is in
    let after = subst (λ (n : ℕ). IsAfter c.new.result n []) c.players.ensures.count c.new.ensures in
    seats_taken old new seat c.new.result c.requires.first c.requires.some c.requires.short c.requires.spelled opening
    made
    c.history-history.ensures.legal refl after moment memories
