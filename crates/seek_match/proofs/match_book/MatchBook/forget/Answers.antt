use Rattle.std.proofs.Common.{◌∙◌}
use Rattle.seek_match.proofs.Standing.{none_passes}
use Rattle.seek_match.proofs.match_book.MatchBook.forget.Goals as goal

pub returns : goal.returns
returns c = c.keep_of.ensures ∙ none_passes c.args.who c.args.self.now
