-- Where texts name no job.
use Rattle.std.proofs.Common.{◌≡◌, ℕ, List, Option, Some, None, get_or, refl, sym, ap, subst, ◌∙◌}
use Rattle.std.specs.Prelude.{◌==◌, if◌then◌else◌, Result, Ok, Err, IfErr, codes, option_copied, unwrap_or}
use Rattle.std.specs.Borrow.{Bor}
use Rattle.cmd_job.specs.Jobs.{IsBind, IsCount, IsExamine, IsGameGiven, IsOverStore, IsPort, IsServe, OnUsage, called_text}
use Rattle.cmd_job.specs.Options.{Chosen, Says}
use Rattle.cmd_job.specs.declared.command_name.CommandName.{CommandName}
use Rattle.cmd_job.specs.declared.command_name.CommandName.TheVariants as name
use Rattle.cmd_job.specs.declared.job.Job.{Job}
use Rattle.cmd_job.specs.declared.job.Job.TheVariants.{Board, Replay, Tourney, Tidy, Bot, Demo, Check, Pgn, Examine, Serve}
use Rattle.cmd_job.specs.declared.job.JobFail.{JobFail}
use Rattle.cmd_job.specs.declared.job.JobFail.TheVariants as fail
use Rattle.cmd_job.proofs.OptionsRead.{one_saying}

-- ---- the first word

-- the command that is called so, by the second and the third byte of its name
command_by : ℕ → ℕ → CommandName
command_by second third =
    if second == 120 then name.Examine else if third == 97 then name.Board else if third == 112 then name.Replay
    else if third == 117 then name.Tourney
    else if third == 100 then name.Tidy else if third == 116 then name.Bot else if third == 109 then name.Demo
    else if third == 110 then name.Pgn
    else if third == 114 then name.Serve else name.Check

command_by-text : (command : CommandName)
    → command_by (get_or (called_text command) 1 0) (get_or (called_text command) 2 0) ≡ command
unfolding command_by
command_by-text name.Board = refl
command_by-text name.Replay = refl
command_by-text name.Tourney = refl
command_by-text name.Tidy = refl
command_by-text name.Bot = refl
command_by-text name.Demo = refl
command_by-text name.Check = refl
command_by-text name.Pgn = refl
command_by-text name.Examine = refl
command_by-text name.Serve = refl

-- a text names one command
pub one_command : (command other : CommandName) → called_text command ≡ called_text other → command ≡ other
one_command command other e =
    sym (command_by-text command) ∙ ap (λ (n : List ℕ). command_by (get_or n 1 0) (get_or n 2 0)) e
    ∙ command_by-text other

-- ---- the values of the options

-- the address that is given, or this machine's own
pub bound_to : (given : Option (Bor (List ℕ))) (home : Bor (List ℕ)) (chosen : Option (List ℕ)) (bind : List ℕ)
    → option_copied given ≡ chosen → home.now ≡ codes "127.0.0.1"
    → bind ≡ (unwrap_or given home).now → IsBind chosen bind
bound_to None home chosen bind is own bound = subst (λ (v : Option (List ℕ)). IsBind v bind) is (bound ∙ own)
bound_to (Some text) home chosen bind is own bound = subst (λ (v : Option (List ℕ)). IsBind v bind) is bound

module _ (words : List (List ℕ)) (values : Chosen) where
  pub no_port : Says name.Serve words values → ((port : ℕ) → IsPort values.port port → ⊥)
      → (port : ℕ) (bind : List ℕ) (store : Option (List ℕ)) (count : Option ℕ) → IsServe words port bind store count
      → ⊥
  no_port says none port bind store count h =
      none port
      (subst (λ (v : Chosen). IsPort v.port port) (one_saying name.Serve words h.values values h.says says) h.port_is)

  pub no_count : Says name.Serve words values → ((count : Option ℕ) → IsCount values.count count → ⊥)
      → (port : ℕ) (bind : List ℕ) (store : Option (List ℕ)) (count : Option ℕ) → IsServe words port bind store count
      → ⊥
  no_count says none port bind store count h =
      none count
      (subst (λ (v : Chosen). IsCount v.count count) (one_saying name.Serve words h.values values h.says says)
      h.count_is)

  pub no_game : Says name.Examine words values → ((game : ℕ) → IsGameGiven values.game game → ⊥)
      → (store : List ℕ) (game : ℕ) → IsExamine words store game → ⊥
  no_game says none store game h =
      none game
      (subst (λ (v : Chosen). IsGameGiven v.game game) (one_saying name.Examine words h.values values h.says says)
      h.game_is)

  pub no_store : (command : CommandName) → Says command words values → values.store ≡ None → (store : List ℕ)
      → IsOverStore command words store → ⊥
  no_store command says none store h =
      let absent : None ≡ Some store =
      sym none ∙ ap (λ (v : Chosen). v.store) (sym (one_saying command words h.0 values h.1 says)) ∙ h.2 in
      absurd cc

  pub no_store_examined : Says name.Examine words values → values.store ≡ None → (store : List ℕ) (game : ℕ)
      → IsExamine words store game → ⊥
  no_store_examined says none store game h = no_store name.Examine says none store (h.values, h.says, h.store_is)

-- a weaker fact of words that name nothing
pub on_usage : (result : Result Job JobFail) (P Q : Type 0) → (P → Q) → IfErr result (λ f. OnUsage f P)
    → IfErr result (λ f. OnUsage f Q)
on_usage (Ok job) P Q weaker h = tt
on_usage (Err fail.Usage) P Q weaker h = weaker h
on_usage (Err fail.Memory) P Q weaker h = tt
