use Rattle.std.proofs.Common.{◌≡◌, ◌++◌, ℕ, List, [], codes, decimal, refl, ap, arith}
use Rattle.std.proofs.lemmas.Fmt.{decimal_digit}
use Rattle.cmd_replay.proofs.evening_laws.evening_examples.Goals as goal

two : decimal 2 ≡ codes "2"
two = decimal_digit 2 (omega arith)

three : decimal 3 ≡ codes "3"
three = decimal_digit 3 (omega arith)

pub returns : goal.returns
returns c = record {
  news =
      ap (λ (d : List ℕ).
      (d ++ codes "|" ++ [] ++ codes "\n")
      ++ ((d ++ codes "|" ++ codes "abc" ++ codes "\n") ++ ((d ++ codes "|" ++ codes "fics% " ++ codes "\n") ++ [])))
      two;
  line = ap (λ (d : List ℕ). (d ++ codes "|" ++ codes "abc" ++ codes "\n") ++ []) three;
  nothing = refl;
}
