-- Answers that are lists: those of a call that tells the pairs of a round.
use Rattle.std.specs.Prelude.{◌≡◌, List, Result, Ok, Err, Vec}
use Rattle.std.specs.declared.alloc.Global.{Global}
use Rattle.fics_words.specs.declared.fail.Fail.{Fail}
use Rattle.fics_words.specs.declared.fail.Fail.TheVariants.{Refused, Memory}
use Rattle.fics_words.specs.declared.refusal.Refusal.{Refusal}

-- a call gives this list, or this refusal, and nothing but running out of memory stands in its place
abbrev pub GivesList : {T : Type 0} → Result (List T) Refusal → Result (Vec T Global) Fail → Type 0
GivesList answer (Ok list) = answer ≡ Ok list.items
GivesList answer (Err (Refused cause)) = answer ≡ Err cause
GivesList answer (Err Memory) = Unit {0}
