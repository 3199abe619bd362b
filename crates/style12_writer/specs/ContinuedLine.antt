-- The line that tells that an adjourned game goes on: `{Game G (W vs. B) Continuing M I V match.}`, this server's text.
use Rattle.std.specs.Prelude.{ℕ, List, codes}
use Rattle.chess_model.specs.declared.variant.Terms.{Terms}
use Rattle.style12_writer.specs.MatchLine.{match_text}

-- the whole line
abbrev pub continued_text : ℕ → List ℕ → List ℕ → Terms → List ℕ
continued_text game white black t = match_text (codes "Continuing") game white black t
