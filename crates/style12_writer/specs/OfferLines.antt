-- The lines that tell of offers: who offers what, who declines, and what was taken back. This server's own texts.
use Rattle.std.specs.Prelude.{◌≡◌, ℕ, List, ◌++◌, codes, decimal, refl}

-- the player of this name offers a draw
abbrev pub draw_text : List ℕ → List ℕ
draw_text name = name ++ codes " offers a draw."

-- to end the game without a result
abbrev pub abort_text : List ℕ → List ℕ
abort_text name = name ++ codes " offers to abort."

-- to go on another day
abbrev pub adjourn_text : List ℕ → List ℕ
adjourn_text name = name ++ codes " offers to adjourn."

-- to take so many half-moves back
abbrev pub takeback_text : List ℕ → ℕ → List ℕ
takeback_text name n = name ++ codes " offers to take back " ++ decimal n ++ codes "."

-- the player of this name declines
abbrev pub decline_text : List ℕ → List ℕ
decline_text name = name ++ codes " declines."

-- so many half-moves were taken back
abbrev pub taken_text : ℕ → List ℕ
taken_text n = decimal n ++ codes " taken back."

example_draw : draw_text (codes "Ann") ≡ codes "Ann offers a draw."
example_draw = refl

example_decline : decline_text (codes "Bob") ≡ codes "Bob declines."
example_decline = refl
