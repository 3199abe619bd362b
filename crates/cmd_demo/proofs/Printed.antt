-- The lines of a demo are lines: printable and short.
use Rattle.std.proofs.Common.{◌≡◌, ℕ, ◌<◌, ◌≤◌, ◌^◌, true, List, [], ◌++◌, length, decimal, refl, subst, arith, rules, tests, length-append}
use Rattle.std.specs.Prelude.{All}
use Rattle.std.specs.List.{list_all}
use Rattle.std.proofs.lemmas.Fmt.{decimal_is_IsNumeral, length-decimal-le_succ}
use Rattle.std.proofs.lemmas.Str.Parse.{digit_at}
use Rattle.std.proofs.lemmas.List.{get_or_default}
use Rattle.std.proofs.lemmas.List.Elements.{All-append}
use Rattle.std.proofs.lemmas.List.Sums.{AllPass-from_list_all}
use Rattle.chess_model.specs.MoveText.{is_printable}
use Rattle.fics_words.specs.Handle.{IsHandle}
use Rattle.fics_words.specs.Line.{IsLine, IsPrintable}
use Rattle.cmd_demo.specs.Said.{AreWords}
use Rattle.lobby_state.proofs.Words.{IsPrintable-letter, IsPrintable-digit}

printable : (byte : ℕ) → is_printable byte ≡ true → IsPrintable byte
printable byte h = (search (rules, tests), search (rules, tests))

all_printable : (text : List ℕ) → list_all is_printable text ≡ true → All IsPrintable text
all_printable text h = λ k d inside. printable _ (AllPass-from_list_all is_printable text h k d inside)

between : (front middle back : List ℕ) → AreWords front → AreWords back → length middle ≤ 17 → All IsPrintable middle
    → IsLine (front ++ middle ++ back)
between front middle back f b short shown = (
  omega (arith, length-append (front ++ middle) back, length-append front middle, f.short, short, b.short),
  All-append IsPrintable (front ++ middle) back (All-append IsPrintable front middle f.shown shown) b.shown,
)

pub name_line : (front name back : List ℕ) → AreWords front → AreWords back → IsHandle name
    → IsLine (front ++ name ++ back)
name_line front name back f b h = between front name back f b h.1 (λ k d inside. IsPrintable-letter _ (h.2 k d inside))

pub no_name_line : (front back : List ℕ) → AreWords front → AreWords back → IsLine (front ++ [] ++ back)
no_name_line front back f b = between front [] back f b (omega arith) (all_printable [] refl)

pub number_line : (front : List ℕ) (n : ℕ) → AreWords front → n ≤ 16 → IsLine (front ++ decimal n)
number_line front n f few =
    let fits : n < 2 ^ 64 = omega (arith, few) in (
      omega (arith, length-append front (decimal n), f.short, length-decimal-le_succ n fits, few),
      All-append IsPrintable front (decimal n) f.shown
          (λ k d inside.
          subst IsPrintable (get_or_default (decimal n) k 0 d inside)
          (IsPrintable-digit _ (digit_at (decimal n) k (decimal_is_IsNumeral n fits).0.1 inside))),
    )
