-- A question to what may not be there.
use Rattle.std.specs.Prelude.{Bool, false, Option, None, Some}

-- whether there is a value and it passes the test
abbrev pub holds : {X : Type 0} → (X → Bool) → Option X → Bool
holds test None = false
holds test (Some x) = test x
