use Rattle.std.proofs.Common.{◌≡◌, ℕ, List, length}
use Rattle.std.specs.Prelude.{All}
use Rattle.fics_words.specs.Handle.{IsHandle}
use Rattle.replay_core.specs.Words.{words_before}
use Rattle.replay_core.proofs.seat_line.cut_handles.Given as goal

-- the bytes are the handles so far and what is left
pub record IsCut (bytes : List ℕ) (names : List (List ℕ)) (rest : List ℕ) : Type 0 where
  pub parts : bytes ≡ words_before names rest
  pub handles : All IsHandle names

abbrev pub invariant-loop-name : goal.invariant-loop-name
invariant-loop-name l = IsCut l.fn.bytes l.names l.rest

abbrev pub decreases-loop-name : goal.decreases-loop-name
decreases-loop-name l = length l.rest
