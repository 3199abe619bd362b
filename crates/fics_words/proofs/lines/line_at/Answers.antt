use Rattle.std.proofs.Common.{ℕ, Some, get_or, sym, ap, subst, ◌∙◌}
use Rattle.fics_words.specs.Lines.{IsPart, bytes_between}
use Rattle.fics_words.proofs.Ends.{part_at, slice_get-lines_between}
use Rattle.fics_words.proofs.lines.line_at.Goals as goal

pub part_of-requires : goal.part_of-requires
part_of-requires c =
    subst (λ (start : ℕ). IsPart c.args.bytes.now start (get_or c.args.ends.now c.args.place 0))
    (sym c.start_of.ensures)
    (part_at c.args.bytes.now 0 c.args.ends.now c.args.place 0 c.requires.ends c.requires.place)

pub returns-clause-value : goal.returns-clause-value
returns-clause-value c =
    slice_get-lines_between c.args.bytes.now 0 c.args.ends.now c.args.place 0 c.requires.place
    ∙ ap (λ (start : ℕ). Some (bytes_between c.args.bytes.now start (get_or c.args.ends.now c.args.place 0)))
    (sym c.start_of.ensures)
    ∙ ap Some (sym c.part_of.ensures.value)
