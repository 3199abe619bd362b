-- No cause of a list holds where none is the first that does.
use Rattle.std.proofs.Common.{◌≡◌, Bool, true, false, cond, List, [], ◌∷◌, Option, None, Some, refl}
use Rattle.fics_words.specs.Effect.{Cause, NoneHolds, first_cause}

-- where neither gives a value, the test fails and the other one gives none
pub first_none : {X : Type 0} (b : Bool) (x : X) (rest : Option X) → cond b (Some x) rest ≡ None
    → (b ≡ false) × (rest ≡ None)
first_none true x rest e = cc
first_none false x rest e = (refl, e)

pub none_holds : (causes : List Cause) → first_cause causes ≡ None → NoneHolds causes
none_holds [] e = tt
none_holds (row ∷ rows) e =
    let step = first_none row.0 row.1 (first_cause rows) e in
    (step.0, none_holds rows step.1)
