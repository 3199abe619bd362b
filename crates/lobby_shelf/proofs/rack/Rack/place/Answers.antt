use Rattle.std.proofs.Common.{List, length, sym, ap, subst, ◌∙◌, rules}
use Rattle.std.specs.List.{filter}
use Rattle.std.specs.List.Sorted.{IsNonDecreasingBy}
use Rattle.std.proofs.lemmas.List.Sorted.{IsPartitionPoint-from_clause, IsPartitionedBy-ltb}
use Rattle.lobby_shelf.specs.declared.shelved.Shelved.{Shelved}
use Rattle.lobby_shelf.specs.Numbers.{is_below}
use Rattle.lobby_shelf.proofs.Rising.{never_fall, partition_place}
use Rattle.lobby_shelf.proofs.rack.Rack.place.Goals as goal

pub returns-clause-place : goal.returns-clause-place
returns-clause-place c =
    let seen = c.deref.result.now in
    let n = c.args.number in
    let same = c.deref.ensures.value in
    let rise =
    subst (IsNonDecreasingBy (λ row. row.number)) (sym same)
    (never_fall 0 c.self.inside.games.items c.self.invariant.order) in
    let parted = IsPartitionedBy-ltb (λ row. row.number) seen n rise in
    let point =
    IsPartitionPoint-from_clause (is_below n) seen _ c.partition_point.ensures.partitioned parted
    (λ a r q k. search rules) in
    partition_place (is_below n) seen c.partition_point.result c.partition_point.ensures.bound point.0 point.1
    ∙ ap (λ (l : List Shelved). length (filter (is_below n) l)) (same ∙ c.self.view_is)
