use Rattle.std.proofs.Common.{◌≡◌, ◌++◌, take}
use Rattle.std.specs.List.{flat_map}
use Rattle.cmd_tourney.specs.Texts.{pair_text}
use Rattle.cmd_tourney.proofs.texts.put_pairs.Given as goal

abbrev pub invariant-loop-pair : goal.invariant-loop-pair
invariant-loop-pair l =
    l.out.items ≡ l.fn.out.items ++ flat_map (pair_text l.tourney.players) (take l.pair-index l.pairs)
