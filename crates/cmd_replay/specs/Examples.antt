-- What a transcript shows in a few cases.
use Rattle.std.specs.Prelude.{◌≡◌, [], codes}
use Rattle.cmd_replay.specs.Tagged.{tagged}

pub record EveningExamples : Type 0 where
  -- news that begin on a line of their own show the empty line before them, and the prompt stands on one too
  pub news : tagged 2 (codes "\n\rabc\n\rfics% ") ≡ codes "2|\n2|abc\n2|fics% \n"
  -- a line that ends shows no line behind it
  pub line : tagged 3 (codes "abc\n\r") ≡ codes "3|abc\n"
  -- nothing shows nothing
  pub nothing : tagged 2 [] ≡ []
