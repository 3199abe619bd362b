use Rattle.std.proofs.Common.{◌≡◌, take}
use Rattle.std.specs.Prelude.{filter}
use Rattle.fics_words.specs.Pieces.{is_kept}
use Rattle.cmd_replay.proofs.tagged.kept_of.Given as goal

abbrev pub invariant-loop-byte : goal.invariant-loop-byte
invariant-loop-byte l = l.kept.items ≡ filter is_kept (take l.byte-index l.bytes)
