use Rattle.std.proofs.Common.{◌≡◌}
use Rattle.chess_model.specs.FischerArrays.{on_free}
use Rattle.chess_model.proofs.OnFree.{on_free_from}
use Rattle.chess_model.proofs.home_rank.on_free.Given as goal

-- nothing is set yet, and the search goes on from here
abbrev pub invariant-loop-file : goal.invariant-loop-file
invariant-loop-file l = record {
  same : l.set ≡ l.fn.files;
  rest : on_free_from l.file l.kind l.left l.fn.files ≡ on_free l.kind l.index l.fn.files;
}
