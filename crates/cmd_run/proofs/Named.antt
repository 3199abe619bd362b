-- Words name one command.
use Rattle.std.proofs.Common.{◌≡◌, ℕ, ◌<◌, ◌≤◌, ◌^◌, List, [], ◌∷◌, Option, None, Some, arith, sym, ap, subst, ◌∙◌}
use Rattle.std.specs.Prelude.{String, decimal}
use Rattle.std.specs.declared.alloc.Global.{Global}
use Rattle.std.proofs.lemmas.Fmt.{decimal_injective}
use Rattle.cmd_job.proofs.JobsNamed as named
use Rattle.cmd_job.proofs.OptionsRead.{one_saying}
use Rattle.cmd_job.specs.Jobs.{IsBehind, IsGameGiven, OnUsage, called_text}
use Rattle.cmd_job.specs.Options.{Chosen}
use Rattle.cmd_job.specs.Jobs as jobs
use Rattle.cmd_job.specs.declared.command_name.CommandName.{CommandName}
use Rattle.cmd_job.specs.declared.command_name.CommandName.TheVariants as name
use Rattle.cmd_job.specs.declared.job.Job.{Job}
use Rattle.cmd_job.specs.declared.job.JobFail.{JobFail}
use Rattle.cmd_job.specs.declared.job.JobFail.TheVariants as fails
use Rattle.cmd_run.specs.Words.{IsCommand, NamesCommand, command_of_job}
use Rattle.cmd_run.specs.declared.command.RunCommand.{RunCommand}
use Rattle.cmd_run.specs.declared.command.RunCommand.TheVariants.{Bot, Demo, Examine}

-- one word spells one number
one_number : (most : ℕ) (words : List (List ℕ)) (text other : List ℕ) (n k : ℕ) → most < 2 ^ 32 → words ≡ text ∷ []
    → words ≡ other ∷ [] → (text ≡ decimal n) × (n ≤ most) → (other ≡ decimal k) × (k ≤ most) → n ≡ k
one_number most words text other n k fits is is' h h' =
    let both : text ∷ [] ≡ other ∷ [] = sym is ∙ is' in
    let same : text ≡ other = cc in
    decimal_injective n k (omega (arith, h.1, fits)) (omega (arith, h'.1, fits)) (sym h.0 ∙ same ∙ h'.0)

-- and one number of a game
same_game : (chosen : Option (List ℕ)) (n k : ℕ) → IsGameGiven chosen n → IsGameGiven chosen k → n ≡ k
same_game None n k h h' = absurd h
same_game (Some text) n k h h' =
    decimal_injective n k (omega (arith, h.0.1)) (omega (arith, h'.0.1)) (sym h.0.0 ∙ h'.0.0)

-- behind the name of a command the words name one
one_behind : (called : CommandName) (words : List (List ℕ)) (one other : Job) → IsBehind called words one
    → IsBehind called words other → command_of_job one ≡ command_of_job other
one_behind name.Board words one other h k = ap command_of_job (h.1 ∙ sym k.1)
one_behind name.Replay words one other h k = ap command_of_job (h.1 ∙ sym k.1)
one_behind name.Tourney words one other h k = ap command_of_job (h.1 ∙ sym k.1)
one_behind name.Tidy words one other h k = ap command_of_job (h.1 ∙ sym k.1)
one_behind name.Bot words one other h k =
    ap command_of_job h.2
    ∙ ap (λ (n : ℕ). Some (Bot n)) (one_number 4 words h.1.0 k.1.0 h.0 k.0 (omega arith) h.1.1 k.1.1 h.1.2 k.1.2)
    ∙ sym (ap command_of_job k.2)
one_behind name.Demo words one other h k =
    ap command_of_job h.2
    ∙ ap (λ (n : ℕ). Some (Demo n)) (one_number 999999 words h.1.0 k.1.0 h.0 k.0 (omega arith) h.1.1 k.1.1 h.1.2 k.1.2)
    ∙ sym (ap command_of_job k.2)
one_behind name.Check words one other h k = ap command_of_job h.2 ∙ sym (ap command_of_job k.2)
one_behind name.Pgn words one other h k = ap command_of_job h.2 ∙ sym (ap command_of_job k.2)
one_behind name.Examine words one other h k =
    let values : k.2.values ≡ h.2.values = one_saying name.Examine words k.2.values h.2.values k.2.says h.2.says in
    ap command_of_job h.3
    ∙ ap (λ (n : ℕ). Some (Examine n))
    (same_game h.2.values.game h.1 k.1 h.2.game_is (subst (λ (v : Chosen). IsGameGiven v.game k.1) values k.2.game_is))
    ∙ sym (ap command_of_job k.3)
one_behind name.Serve words one other h k = ap command_of_job h.5 ∙ sym (ap command_of_job k.5)

-- jobs that the words name are done by one command
one_job : (words : List (String Global)) (one other : Job) → jobs.NamesJob words one → jobs.NamesJob words other
    → command_of_job one ≡ command_of_job other
one_job words one other h k =
    let both : called_text h.0 ∷ h.1 ≡ called_text k.0 ∷ k.1 = sym h.2 ∙ k.2 in
    let called : k.0 ≡ h.0 = named.one_command k.0 h.0 (sym cc) in
    let behind : k.1 ≡ h.1 = sym cc in
    one_behind h.0 h.1 one other h.3
    (subst (λ (w : List (List ℕ)). IsBehind h.0 w other) behind
    (subst (λ (c : CommandName). IsBehind c k.1 other) called k.3))

-- words name one command
pub one_command : (words : List (String Global)) (command other : RunCommand) → NamesCommand words command
    → NamesCommand words other
    → other ≡ command
one_command words command other n m =
    let same : Some other ≡ Some command = sym m.2 ∙ one_job words m.0 n.0 m.1 n.1 ∙ n.2 in
    cc

pub is_command : (words : List (String Global)) (command : RunCommand) → NamesCommand words command → IsCommand words
is_command words command n = (command, n)

-- words that name no job name no command
pub on_fail : (fail : JobFail) (words : List (String Global)) → OnUsage fail ((job : Job) → jobs.NamesJob words job → ⊥)
    → OnUsage fail (IsCommand words → ⊥)
on_fail fails.Usage words none = λ h. none h.1.0 h.1.1
on_fail fails.Memory words none = tt

pub refused : (fail : JobFail) (words : List (String Global)) → fail ≡ fails.Usage → OnUsage fail (IsCommand words → ⊥)
    → IsCommand words → ⊥
refused fail words is none = subst (λ (f : JobFail). OnUsage f (IsCommand words → ⊥)) is none
