-- What holds of a value that may be missing.
use Rattle.std.specs.Prelude.{Option, Some, None, IfSome, IfNone}

-- what holds of a value, if there is one
pub some_both : {A : Type 0} (P Q R : A → Type 0) → ((x : A) → P x → Q x → R x) → (o : Option A) → IfSome o P
    → IfSome o Q → IfSome o R
some_both P Q R h None p q = tt
some_both P Q R h (Some x) p q = h x p q

-- what holds where there is none
pub none_from : {A P Q : Type 0} (o : Option A) → (P → Q) → IfNone o P → IfNone o Q
none_from None h p = h p
none_from (Some x) h p = tt
