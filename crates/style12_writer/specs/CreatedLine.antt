-- The line that tells that a game begins: `{Game G (W vs. B) Creating M I V match.}`, this server's text.
use Rattle.std.specs.Prelude.{ℕ, List, codes}
use Rattle.chess_model.specs.declared.variant.Terms.{Terms}
use Rattle.style12_writer.specs.MatchLine.{match_text}

-- the whole line
abbrev pub created_text : ℕ → List ℕ → List ℕ → Terms → List ℕ
created_text game white black t = match_text (codes "Creating") game white black t
