-- What is said of objects that may tell what they hold: the one word for it wherever something is told twice.
use Rattle.std.specs.Prelude.{⊤, Some, None}
use Rattle.std.specs.declared.option.Option.{Option}

-- a relation of what an object told and of what it tells; one that tells goes on telling, and no other begins to
abbrev pub WhereTold : {T : Type 0} → Option T → Option T → (T → T → Type 0) → Type 0
WhereTold None None R = ⊤
WhereTold None (Some new) R = ⊥
WhereTold (Some old) None R = ⊥
WhereTold (Some old) (Some new) R = R old new
