use Rattle.std.proofs.Common.{ℕ, List, Option, Some, refl, sym, ap, subst, ◌∙◌}
use Rattle.std.specs.Prelude.{map, string_bytes}
use Rattle.cmd_job.specs.Jobs.{IsGameGiven}
use Rattle.cmd_job.proofs.JobsNamed.{no_game, no_store_examined}
use Rattle.cmd_job.proofs.reading.read_examine.Goals as goal

pub returns-in_default-clause-usage : goal.returns-in_default-clause-usage
returns-in_default-clause-usage c = λ store game h. c.in_default.ensures.none h.values h.says

pub returns-in_default-value-clause-usage : goal.returns-in_default-value-clause-usage
returns-in_default-value-clause-usage c =
    no_store_examined (map string_bytes c.args.words.now) c.in-Some.values c.in-Some.ensures.some
    (sym c.in_default-value.ensures)

pub returns-in_default-read_game-clause-usage : goal.returns-in_default-read_game-clause-usage
returns-in_default-read_game-clause-usage c =
    no_game (map string_bytes c.args.words.now) c.in-Some.values c.in-Some.ensures.some
    (subst (λ (v : Option (List ℕ)). (game : ℕ) → IsGameGiven v game → ⊥) c.value-2.ensures
    c.in_default-read_game.ensures.none)

pub returns-clause-job : goal.returns-clause-job
returns-clause-job c = (
  c.in_ok-store.store,
  c.in-Some-read_game.game,
  record {
    values = c.in-Some.values;
    says = c.in-Some.ensures.some;
    store_is = sym c.in-Some-value.ensures ∙ ap Some (sym c.in_ok-store.ensures.ok);
    game_is =
        subst (λ (v : Option (List ℕ)). IsGameGiven v c.in-Some-read_game.game) c.value-2.ensures
        c.in-Some-read_game.ensures.some;
  },
  refl,
)
