use Rattle.lobby_state.specs.Acts.{lobby_effect}
use Rattle.lobby_state.specs.WellFormed.{IsWellFormed}
use Rattle.lobby_state.proofs.KeepsActs.{keeps_act}
use Rattle.lobby_state.proofs.Refusals.{holds_taken}
use Rattle.lobby_state.proofs.WellFormed.{has_number_left, one_more_order}
use Rattle.lobby_state.proofs.lobby.Lobby.act.Goals as goal

pub invariant_of-self : goal.invariant_of-self
invariant_of-self c =
    let lobby = c.self.inside.roster in
    holds_taken IsWellFormed lobby (lobby_effect lobby c.args.session c.args.act.now) c.act.new.self c.act.result
    c.self.invariant
    (λ none. (keeps_act lobby c.args.session c.args.act.now).kept.formed c.requires none c.self.invariant) c.act.ensures

pub act-requires-clause-numbers : goal.act-requires-clause-numbers
act-requires-clause-numbers c = has_number_left c.self.inside.roster c.self.invariant

pub act-requires-clause-count : goal.act-requires-clause-count
act-requires-clause-count c = one_more_order c.self.inside.roster c.self.invariant
