use Rattle.style12_writer.proofs.text_board.put_clocks.Goals as goal
use Rattle.std.proofs.Common.{rules, pos, append_assoc}
use Rattle.std.specs.Prelude.{slice_index_or}
use Rattle.std.proofs.lemmas.Int.{to_z-of_z}
use mir.Syntax.{w64}
use mir.Val.{SFits}

pub returns-clause-text : goal.returns-clause-text
returns-clause-text c =
    let white : SFits w64 (slice_index_or c.args.v.now.remaining 0 (pos 0)) = search rules in
    let black : SFits w64 (slice_index_or c.args.v.now.remaining 1 (pos 0)) = search rules in
    let first = simp to_z-of_z at c.put_whole_seconds.ensures.text in
    let second = simp to_z-of_z at c.put_whole_seconds-2.ensures.text in
    search (rules, append_assoc)
