-- A turn whose halves are known.
use Rattle.std.proofs.Common.{◌≡◌, ℕ, refl, sym, subst, ◌∙◌}
use Rattle.edge_traits.specs.Calls.{Store}
use Rattle.hall_core.specs.Passes.{PassState, fixed_of, runs_of}
use Rattle.steward_core.specs.declared.clearing.ClearingEnd.{ClearingEnd}
use Rattle.steward_core.specs.declared.clearing.ClearingEnd.TheVariants as clearing
use Rattle.steward_core.specs.declared.turn.StewardEnd.{StewardEnd}
use Rattle.steward_core.specs.declared.turn.StewardEnd.TheVariants.{Memory}
use Rattle.steward_core.specs.Agreement.{StaysAgreed}
use Rattle.steward_core.specs.Turn.{TakesTurn}
use Rattle.serve_turn.specs.declared.supply.Supply.TheVariants.{Short}
use Rattle.serve_turn.specs.Turns.{MadeTurn, supply_in}

short_end : (cleared : ClearingEnd) (end : StewardEnd) → end ≡ Memory → supply_in cleared end ≡ Short
short_end clearing.Memory end e = refl
short_end clearing.Done end e = subst (λ (x : StewardEnd). supply_in clearing.Done x ≡ Short) (sym e) refl

short_clearing : (cleared : ClearingEnd) (end : StewardEnd) → cleared ≡ clearing.Memory → supply_in cleared end ≡ Short
short_clearing cleared end e = subst (λ (x : ClearingEnd). supply_in x end ≡ Short) (sym e) refl

pub made_halves : (moment : ℕ) (cleared : ClearingEnd) (end : StewardEnd) (before after : Store) (old new : PassState)
    → fixed_of new ≡ fixed_of old → (t : TakesTurn moment end before after (runs_of old) (runs_of new))
    → t.turn.cleared ≡ cleared → StaysAgreed before.table after.table (runs_of old) (runs_of new)
    → MadeTurn end (supply_in cleared end) before after old new
made_halves moment cleared end before after old new shared t is agrees = record {
  moment = moment;
  shared = shared;
  turn = t;
  agrees = agrees;
  short = short_end cleared end;
  short_first = λ e. short_clearing cleared end (sym is ∙ e);
}
