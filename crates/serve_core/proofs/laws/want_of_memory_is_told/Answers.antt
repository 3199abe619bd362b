use Rattle.serve_core.proofs.GoodEnds.{good_ends_had_enough, short_ends_had_not}
use Rattle.serve_core.proofs.laws.want_of_memory_is_told.Goals as goal

pub returns-clause-enough : goal.returns-clause-enough
returns-clause-enough c = good_ends_had_enough

pub returns-clause-short : goal.returns-clause-short
returns-clause-short c = short_ends_had_not
