use Rattle.std.proofs.Common.{◌≡◌, sym, subst}
use Rattle.std.specs.Prelude.{IfErr, map, option_map, string_bytes}
use Rattle.cmd_job.specs.Jobs.{IsBehind, OnUsage}
use Rattle.cmd_job.specs.declared.command_name.CommandName.{CommandName}
use Rattle.cmd_job.specs.declared.command_name.CommandName.TheVariants as name
use Rattle.cmd_job.specs.declared.job.Job.{Job}
use Rattle.cmd_job.proofs.JobsNamed.{on_usage}
use Rattle.cmd_job.proofs.reading.read_behind.Goals as goal

pub returns-in-Bot-clause-usage : goal.returns-in-Bot-clause-usage
returns-in-Bot-clause-usage c =
    let is : c.args.command ≡ name.Bot = cc in
    subst (λ (n : CommandName).
    IfErr c.read_bot.result
    (λ fail. OnUsage fail ((job : Job) → IsBehind n (map string_bytes c.args.words.now) job → ⊥)))
    (sym is)
    (on_usage c.read_bot.result _ _ (λ none job h. none h.0 h.1) c.read_bot.ensures.usage)

pub returns-in-Demo-clause-usage : goal.returns-in-Demo-clause-usage
returns-in-Demo-clause-usage c =
    let is : c.args.command ≡ name.Demo = cc in
    subst (λ (n : CommandName).
    IfErr c.read_demo.result
    (λ fail. OnUsage fail ((job : Job) → IsBehind n (map string_bytes c.args.words.now) job → ⊥)))
    (sym is)
    (on_usage c.read_demo.result _ _ (λ none job h. none h.0 h.1) c.read_demo.ensures.usage)

pub returns-in-Check-clause-usage : goal.returns-in-Check-clause-usage
returns-in-Check-clause-usage c =
    let is : c.args.command ≡ name.Check = cc in
    subst (λ (n : CommandName).
    IfErr c.read_check.result
    (λ fail. OnUsage fail ((job : Job) → IsBehind n (map string_bytes c.args.words.now) job → ⊥)))
    (sym is)
    (on_usage c.read_check.result _ _ (λ none job h. none (string_bytes h.0) h.1) c.read_check.ensures.usage)

pub returns-in-Pgn-clause-usage : goal.returns-in-Pgn-clause-usage
returns-in-Pgn-clause-usage c =
    let is : c.args.command ≡ name.Pgn = cc in
    subst (λ (n : CommandName).
    IfErr c.read_pgn.result
    (λ fail. OnUsage fail ((job : Job) → IsBehind n (map string_bytes c.args.words.now) job → ⊥)))
    (sym is)
    (on_usage c.read_pgn.result _ _ (λ none job h. none (string_bytes h.0) h.1) c.read_pgn.ensures.usage)

pub returns-in-Examine-clause-usage : goal.returns-in-Examine-clause-usage
returns-in-Examine-clause-usage c =
    let is : c.args.command ≡ name.Examine = cc in
    subst (λ (n : CommandName).
    IfErr c.read_examine.result
    (λ fail. OnUsage fail ((job : Job) → IsBehind n (map string_bytes c.args.words.now) job → ⊥)))
    (sym is)
    (on_usage c.read_examine.result _ _ (λ none job h. none (string_bytes h.0) h.1 h.2) c.read_examine.ensures.usage)

pub returns-in-Serve-clause-usage : goal.returns-in-Serve-clause-usage
returns-in-Serve-clause-usage c =
    let is : c.args.command ≡ name.Serve = cc in
    subst (λ (n : CommandName).
    IfErr c.read_serve.result
    (λ fail. OnUsage fail ((job : Job) → IsBehind n (map string_bytes c.args.words.now) job → ⊥)))
    (sym is)
    (on_usage c.read_serve.result _ _ (λ none job h. none h.0 (string_bytes h.1) (option_map string_bytes h.2) h.3 h.4)
    c.read_serve.ensures.usage)
