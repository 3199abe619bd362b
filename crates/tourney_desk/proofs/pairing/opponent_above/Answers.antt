use Rattle.std.proofs.Common.{◌≤◌, arith}
use Rattle.tourney_desk.specs.Pairing.{rounds_of}
use Rattle.tourney_desk.proofs.Opponents.{across_alone, across_before, last_alone, last_free, none_above_circle}
use Rattle.tourney_desk.proofs.pairing.opponent_above.Goals as goal

pub returns-then-player-rounds-clause-none : goal.returns-then-player-rounds-clause-none
returns-then-player-rounds-clause-none c =
    let high : rounds_of c.args.players ≤ c.args.player =
    omega (arith, c.rounds_of-rounds.ensures.value, c.if-player-rounds.true) in
    none_above_circle c.args.players c.args.round c.args.player (omega arith) high

pub returns-then-rounds-players-clause-met : goal.returns-then-rounds-players-clause-met
returns-then-rounds-players-clause-met c =
    let within : c.args.round ≤ c.rounds_of-rounds.result = omega (arith, c.rounds_of-rounds.ensures.value) in
    (last_alone c.args.players c.args.round c.args.player c.rounds_of-rounds.result c.rounds_of-rounds.ensures.value
    (omega arith) c.requires.some within c.if-player-rounds.false c.if-across-player.true).0

pub returns-then-rounds-players-clause-alone : goal.returns-then-rounds-players-clause-alone
returns-then-rounds-players-clause-alone c =
    let within : c.args.round ≤ c.rounds_of-rounds.result = omega (arith, c.rounds_of-rounds.ensures.value) in
    (last_alone c.args.players c.args.round c.args.player c.rounds_of-rounds.result c.rounds_of-rounds.ensures.value
    (omega arith) c.requires.some within c.if-player-rounds.false c.if-across-player.true).1

pub returns-else-rounds-players-clause-none : goal.returns-else-rounds-players-clause-none
returns-else-rounds-players-clause-none c =
    let within : c.args.round ≤ c.rounds_of-rounds.result = omega (arith, c.rounds_of-rounds.ensures.value) in
    last_free c.args.players c.args.round c.args.player c.rounds_of-rounds.result c.rounds_of-rounds.ensures.value
    (omega arith) c.requires.some within c.if-player-rounds.false c.if-across-player.true c.if-rounds-players.false

pub returns-then-player-across-clause-below : goal.returns-then-player-across-clause-below
returns-then-player-across-clause-below c =
    let within : c.args.round ≤ c.rounds_of-rounds.result = omega (arith, c.rounds_of-rounds.ensures.value) in
    (across_alone c.args.players c.args.round c.args.player c.rounds_of-rounds.result c.rounds_of-rounds.ensures.value
    (omega arith) c.requires.some within c.if-player-rounds.false c.if-player-across.true).0

pub returns-then-player-across-clause-met : goal.returns-then-player-across-clause-met
returns-then-player-across-clause-met c =
    let within : c.args.round ≤ c.rounds_of-rounds.result = omega (arith, c.rounds_of-rounds.ensures.value) in
    (across_alone c.args.players c.args.round c.args.player c.rounds_of-rounds.result c.rounds_of-rounds.ensures.value
    (omega arith) c.requires.some within c.if-player-rounds.false c.if-player-across.true).1

pub returns-then-player-across-clause-alone : goal.returns-then-player-across-clause-alone
returns-then-player-across-clause-alone c =
    let within : c.args.round ≤ c.rounds_of-rounds.result = omega (arith, c.rounds_of-rounds.ensures.value) in
    (across_alone c.args.players c.args.round c.args.player c.rounds_of-rounds.result c.rounds_of-rounds.ensures.value
    (omega arith) c.requires.some within c.if-player-rounds.false c.if-player-across.true).2

pub returns-else-player-across-clause-none : goal.returns-else-player-across-clause-none
returns-else-player-across-clause-none c =
    let within : c.args.round ≤ c.rounds_of-rounds.result = omega (arith, c.rounds_of-rounds.ensures.value) in
    across_before c.args.players c.args.round c.args.player c.rounds_of-rounds.result c.rounds_of-rounds.ensures.value
    (omega arith) c.requires.some within c.if-player-rounds.false c.if-across-player.false c.if-player-across.false
