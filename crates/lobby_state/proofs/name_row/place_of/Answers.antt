use Rattle.std.proofs.Common.{not, rules}
use Rattle.std.proofs.lemmas.List.Sorted.{IsPartitionPoint-from_clause}
use Rattle.lobby_state.specs.Names.{comes_before}
use Rattle.lobby_state.proofs.NamesInOrder.{parted, put_there}
use Rattle.lobby_state.proofs.name_row.place_of.Goals as goal

pub returns-clause-place : goal.returns-clause-place
returns-clause-place c =
    put_there (record {
      name = c.args.name;
      session = c.args.session;
    }) c.args.names.now _ c.partition_point.ensures.bound
    (IsPartitionPoint-from_clause
    (λ other. not (comes_before (record { name = c.args.name; session = c.args.session }) other)) c.args.names.now _
    c.partition_point.ensures.partitioned
    (parted (record { name = c.args.name; session = c.args.session }) c.args.names.now c.requires)
    (λ a r q k. search rules))
