use Rattle.std.proofs.Common.{◌≡◌, ap, arith, sym, ◌∙◌}
use Rattle.cmd_lines.specs.declared.end.End.TheVariants.{Done, ReadFault, WriteFault, Memory, BadLine, Spent}
use Rattle.cmd_store.specs.declared.outcome.Outcome.TheVariants.{Read, BadRecord, KeeperFault, NoGame}
use Rattle.cmd_run.specs.Words.{IsOverStore, ReadsInput}
use Rattle.cmd_run.proofs.Named.{is_command, refused}
use Rattle.cmd_run.proofs.RunEnds.{Stays-same, complete_at, does_at, failed_at, keeper_fault_at, listed_as, loads_at, memory_at_once, not_usage, read_fault_at, stays_unless, unread_at, usage_listed, usage_part, write_fault_at, writes_at}
use Rattle.cmd_run.proofs.running.run.Goals as goal

-- ---- a command was run

pub returns-in-Ok-clause-answered : goal.returns-in-Ok-clause-answered
returns-in-Ok-clause-answered g c =
    does_at _ c.in-Ok.command c.in-Ok.ensures.command _ _ _ _ _ c.run_command.result c.run_command.ensures.ends
    (Read Done) _ c.status_of_outcome.ensures

pub returns-in-Ok-clause-read_part : goal.returns-in-Ok-clause-read_part
returns-in-Ok-clause-read_part g c =
    does_at _ c.in-Ok.command c.in-Ok.ensures.command _ _ _ _ _ c.run_command.result c.run_command.ensures.ends
    (Read ReadFault) _ c.status_of_outcome.ensures

pub returns-in-Ok-clause-write_part : goal.returns-in-Ok-clause-write_part
returns-in-Ok-clause-write_part g c =
    writes_at _ c.in-Ok.command c.in-Ok.ensures.command _ _ _ _ _ c.run_command.result c.run_command.ensures.ends
    (Read WriteFault) _ c.status_of_outcome.ensures

pub returns-in-Ok-clause-keeper_part : goal.returns-in-Ok-clause-keeper_part
returns-in-Ok-clause-keeper_part g c =
    does_at _ c.in-Ok.command c.in-Ok.ensures.command _ _ _ _ _ c.run_command.result c.run_command.ensures.ends
    KeeperFault _ c.status_of_outcome.ensures

pub returns-in-Ok-clause-bad_record : goal.returns-in-Ok-clause-bad_record
returns-in-Ok-clause-bad_record g c =
    does_at _ c.in-Ok.command c.in-Ok.ensures.command _ _ _ _ _ c.run_command.result c.run_command.ensures.ends
    BadRecord _ c.status_of_outcome.ensures

pub returns-in-Ok-clause-memory_part : goal.returns-in-Ok-clause-memory_part
returns-in-Ok-clause-memory_part g c =
    writes_at _ c.in-Ok.command c.in-Ok.ensures.command _ _ _ _ _ c.run_command.result c.run_command.ensures.ends
    (Read Memory) _ c.status_of_outcome.ensures

pub returns-in-Ok-clause-bad_line : goal.returns-in-Ok-clause-bad_line
returns-in-Ok-clause-bad_line g c =
    does_at _ c.in-Ok.command c.in-Ok.ensures.command _ _ _ _ _ c.run_command.result c.run_command.ensures.ends
    (Read BadLine) _ c.status_of_outcome.ensures

pub returns-in-Ok-clause-spent : goal.returns-in-Ok-clause-spent
returns-in-Ok-clause-spent g c =
    does_at _ c.in-Ok.command c.in-Ok.ensures.command _ _ _ _ _ c.run_command.result c.run_command.ensures.ends
    (Read Spent) _ c.status_of_outcome.ensures

pub returns-in-Ok-clause-no_game : goal.returns-in-Ok-clause-no_game
returns-in-Ok-clause-no_game g c =
    does_at _ c.in-Ok.command c.in-Ok.ensures.command _ _ _ _ _ c.run_command.result c.run_command.ensures.ends NoGame _
    c.status_of_outcome.ensures

pub returns-in-Ok-clause-read_fault : goal.returns-in-Ok-clause-read_fault
returns-in-Ok-clause-read_fault g c =
    read_fault_at c.run_command.result _ _ c.status_of_outcome.ensures c.run_command.ensures.read_cause

pub returns-in-Ok-clause-write_fault : goal.returns-in-Ok-clause-write_fault
returns-in-Ok-clause-write_fault g c =
    write_fault_at c.run_command.result _ _ c.status_of_outcome.ensures c.run_command.ensures.write_cause

pub returns-in-Ok-clause-keeper_fault : goal.returns-in-Ok-clause-keeper_fault
returns-in-Ok-clause-keeper_fault g c =
    keeper_fault_at c.run_command.result _ _ c.status_of_outcome.ensures c.run_command.ensures.keeper_cause

pub returns-in-Ok-clause-usage : goal.returns-in-Ok-clause-usage
returns-in-Ok-clause-usage g c = λ told. absurd (not_usage c.run_command.result _ c.status_of_outcome.ensures told)

pub returns-in-Ok-clause-no_command : goal.returns-in-Ok-clause-no_command
returns-in-Ok-clause-no_command g c = λ none. absurd (none (is_command _ c.in-Ok.command c.in-Ok.ensures.command))

pub returns-in-Ok-clause-complete : goal.returns-in-Ok-clause-complete
returns-in-Ok-clause-complete g c = λ command names no_read no_write no_keeper.
    complete_at _ _ _ _ _ _ _ _ no_read no_write _ c.in-Ok.command command c.run_command.result _
    c.in-Ok.ensures.command names c.status_of_outcome.ensures c.run_command.ensures.ends
    c.run_command.ensures.read_cause c.run_command.ensures.write_cause c.run_command.ensures.keeper_cause no_keeper

pub returns-in-Ok-clause-statuses : goal.returns-in-Ok-clause-statuses
returns-in-Ok-clause-statuses g c =
    listed_as _ c.in-Ok.command _ _ _ _ _ c.run_command.result c.run_command.ensures.ends c.status_of_outcome.ensures

pub returns-in-Ok-clause-source_stays : goal.returns-in-Ok-clause-source_stays
returns-in-Ok-clause-source_stays g c =
    stays_unless _ c.in-Ok.command ReadsInput _ c.in-Ok.ensures.command c.run_command.ensures.source_stays

pub returns-in-Ok-clause-unread : goal.returns-in-Ok-clause-unread
returns-in-Ok-clause-unread g c =
    unread_at c.run_command.result _ _ c.status_of_outcome.ensures c.run_command.ensures.unread

pub returns-in-Ok-clause-keeper_stays : goal.returns-in-Ok-clause-keeper_stays
returns-in-Ok-clause-keeper_stays g c =
    stays_unless _ c.in-Ok.command IsOverStore _ c.in-Ok.ensures.command c.run_command.ensures.keeper_stays

pub returns-in-Ok-clause-loads : goal.returns-in-Ok-clause-loads
returns-in-Ok-clause-loads g c =
    loads_at (g.P.Keeper.calls c.args.keeper.now) (g.P.Keeper.calls c.run_command.new.keeper) c.in-Ok.command
    c.run_command.result _ c.status_of_outcome.ensures c.run_command.ensures.called
    (λ other. ap g.P.Keeper.calls (c.run_command.ensures.keeper_stays other))

pub returns-in-Ok-clause-failed_load : goal.returns-in-Ok-clause-failed_load
returns-in-Ok-clause-failed_load g c =
    failed_at (g.P.Keeper.calls c.args.keeper.now) (g.P.Keeper.calls c.run_command.new.keeper) c.in-Ok.command _ _ _ _ _
    c.run_command.result c.run_command.ensures.ends _ c.status_of_outcome.ensures c.run_command.ensures.called

-- ---- the words name no command

pub returns-in-Err-Usage-clause-statuses : goal.returns-in-Err-Usage-clause-statuses
returns-in-Err-Usage-clause-statuses g c =
    usage_listed (g.K.Sink.written c.args.sink.now) (g.K.Sink.written c.tell_usage.new.sink) c.tell_usage.result
    c.tell_usage.ensures.ends

pub returns-in-Err-Usage-clause-write_part : goal.returns-in-Err-Usage-clause-write_part
returns-in-Err-Usage-clause-write_part g c = λ told.
    usage_part c.args.words.now (g.P.Keeper.table c.args.keeper.now) (g.S.Source.left c.args.source.now)
    (g.K.Sink.written c.args.sink.now) (g.K.Sink.written c.tell_usage.new.sink) (Read WriteFault) c.tell_usage.result
    (refused c.in-Err-Usage.field-0 c.args.words.now c.in-Err-Usage.field-0-is c.in-Err-Usage.ensures.usage)
    c.tell_usage.ensures.ends (λ one. let bad : 3 ≡ 1 = sym told ∙ one in absurd (omega (arith, bad)))

pub returns-in-Err-Usage-clause-memory_part : goal.returns-in-Err-Usage-clause-memory_part
returns-in-Err-Usage-clause-memory_part g c = λ told.
    usage_part c.args.words.now (g.P.Keeper.table c.args.keeper.now) (g.S.Source.left c.args.source.now)
    (g.K.Sink.written c.args.sink.now) (g.K.Sink.written c.tell_usage.new.sink) (Read Memory) c.tell_usage.result
    (refused c.in-Err-Usage.field-0 c.args.words.now c.in-Err-Usage.field-0-is c.in-Err-Usage.ensures.usage)
    c.tell_usage.ensures.ends (λ one. let bad : 6 ≡ 1 = sym told ∙ one in absurd (omega (arith, bad)))

pub returns-in-Err-Usage-clause-complete : goal.returns-in-Err-Usage-clause-complete
returns-in-Err-Usage-clause-complete g c = λ command names no_read no_write no_keeper.
    absurd (refused c.in-Err-Usage.field-0 c.args.words.now c.in-Err-Usage.field-0-is c.in-Err-Usage.ensures.usage
    (command, names))

pub returns-in-Err-Usage-clause-table_stays : goal.returns-in-Err-Usage-clause-table_stays
returns-in-Err-Usage-clause-table_stays g c = Stays-same (g.P.Keeper.table c.args.keeper.now)

-- ---- want of memory

pub returns-in-Err-Memory-clause-memory_part : goal.returns-in-Err-Memory-clause-memory_part
returns-in-Err-Memory-clause-memory_part g c = λ told. memory_at_once _ _ _ _

pub returns-in-Err-Memory-clause-table_stays : goal.returns-in-Err-Memory-clause-table_stays
returns-in-Err-Memory-clause-table_stays g c = Stays-same (g.P.Keeper.table c.args.keeper.now)
