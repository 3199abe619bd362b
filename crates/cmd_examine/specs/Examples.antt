-- Lines that are written out.
use Rattle.std.specs.Prelude.{◌≡◌, codes, Some, refl}
use Rattle.std.specs.Fmt.{digits}
use Rattle.fics_words.specs.declared.refusal.Refusal.TheVariants.{NoEarlierMoves}
use Rattle.cmd_examine.specs.Lines.{exam_line_of}
use Rattle.cmd_lines.specs.Words.{refusal_text}
use Rattle.cmd_examine.specs.declared.line.ExamLine.TheVariants.{Forward, Revert}

one_forward : exam_line_of (codes "forward") ≡ Some (Forward 1)
one_forward = refl

again : exam_line_of (codes "revert") ≡ Some Revert
again = refl

refused : refusal_text NoEarlierMoves ≡ codes "refused 58 NoEarlierMoves\n"
unfolding digits
refused = refl
