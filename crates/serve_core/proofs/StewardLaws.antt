-- What follows of the acts of session 0.
use Rattle.std.proofs.Common.{◌≡◌, suc, ◌+◌, true, false, List, sym, ◌∙◌, arith}
use Rattle.std.specs.declared.option.Option.{Option}
use Rattle.edge_traits.specs.Calls.{Store}
use Rattle.edge_traits.specs.Door.{DoorTale}
use Rattle.histories.specs.History.{calls_of}
use Rattle.one_server.specs.declared.part.Part.{Part}
use Rattle.one_server.specs.Running.{Log}
use Rattle.steward_core.specs.declared.turn.StewardEnd.{StewardEnd}
use Rattle.serve_core.specs.StewardLaws.{AreStewards, HasTurns, IsDone, MakesEachTurn, MakesStewardsActs, MakesTurns, times_asked}
use Rattle.serve_core.specs.Stewarding.{AreTurns, HasTended, MayEnd}
use Rattle.serve_core.proofs.Telling.{told_as}
use Rattle.serve_core.proofs.Turning.{turns_asked, turns_done, turns_stewards}

module _ (lack : Type 0) (last : StewardEnd) (door : Option DoorTale) (before now : Store) (opening : List Part)
    (seen : Log) (p : HasTended lack last door before now opening seen) where
  -- the last turn is one more
  all_turns : AreTurns (MayEnd lack) (suc p.count) before now (calls_of 0 seen)
  all_turns = (p.first, p.mid, p.turn, p.turns, p.counted, p.ends, p.made_is)

  has_turns : HasTurns (MayEnd lack) door before now (calls_of 0 seen)
  has_turns = (
    suc p.count,
    all_turns,
    told_as door (λ tale. p.count ≡ tale.quiets) (λ tale. suc p.count ≡ tale.quiets + 1) (λ tale n. omega (arith, n))
        p.quiets,
  )

  are_stewards : AreStewards (calls_of 0 seen)
  are_stewards = turns_stewards (MayEnd lack) (suc p.count) before now (calls_of 0 seen) all_turns

pub makes_stewards_acts : MakesStewardsActs
makes_stewards_acts short last door before now opening seen p =
    are_stewards (short ≡ true) last door before now opening seen p

pub makes_turns : MakesTurns
makes_turns short last door before now opening seen p = has_turns (short ≡ true) last door before now opening seen p

pub makes_each_turn : MakesEachTurn
makes_each_turn short last door before now opening seen p ample calm =
    let made = calls_of 0 seen in
    let turns = has_turns (short ≡ true) last door before now opening seen p in
    let done =
    turns_done (short ≡ true) (λ e. let both : true ≡ false = sym e ∙ ample in cc) turns.0 before now now.faults made
    (omega arith) calm turns.1 in
    let count =
    turns_asked (λ mid later turn. IsDone turn.end) (λ mid later turn d. d) turns.0 before now made done in (
      (turns.0, done, turns.2),
      told_as door (λ tale. turns.0 ≡ tale.quiets + 1) (λ tale. times_asked made ≡ tale.quiets + 1)
          (λ tale n. count ∙ n) turns.2,
    )
