use Rattle.std.proofs.Common.{◌++◌, ap, sym, ◌∙◌}
use Rattle.command_words.specs.Aliases.{setting}
use Rattle.fics_words.specs.Effect.{answer_of}
use Rattle.session_core.specs.OwnCommands.{own_line}
use Rattle.session_core.proofs.OwnAnswers.{refused-answer, refused-state}
use Rattle.session_core.proofs.own_commands.set_alias.Goals as goal

pub returns-in_ok-put_refusal-in-Err-Refused-clause-memory : goal.returns-in_ok-put_refusal-in-Err-Refused-clause-memory
returns-in_ok-put_refusal-in-Err-Refused-clause-memory c =
    cc (
      refused-state (setting c.args.memory.now.aliases c.bytes.result.now c.bytes-2.result.now)
          c.args.memory.now.aliases c.set_alias.new.self.aliases c.in-Err-Refused.field-0-is
          c.in-Err-Refused.ensures.aliases,
      c.bytes.ensures.bytes,
      c.bytes-2.ensures.bytes,
      c.in-Err-Refused.ensures.rest,
    )

pub returns-in_ok-put_refusal-in-Err-Refused-clause-line : goal.returns-in_ok-put_refusal-in-Err-Refused-clause-line
returns-in_ok-put_refusal-in-Err-Refused-clause-line c =
    c.in_ok-put_refusal-in-Err-Refused.ensures
    ∙ ap (λ line. c.args.out.now.items ++ line)
    (sym
    (ap own_line
    (refused-answer (setting c.args.memory.now.aliases c.bytes.result.now c.bytes-2.result.now)
    c.args.memory.now.aliases c.set_alias.new.self.aliases c.in-Err-Refused.field-0-is
    c.in-Err-Refused.ensures.aliases))
    ∙ (λ i.
    own_line (answer_of (setting c.args.memory.now.aliases (c.bytes.ensures.bytes i) (c.bytes-2.ensures.bytes i)))))
