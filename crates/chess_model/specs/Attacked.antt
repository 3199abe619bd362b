-- Which squares a colour attacks (FIDE Laws 3.1.2), and whether a king is safe (FIDE 3.9).
use Rattle.std.specs.Prelude.{◌≡◌, ℕ, ◌<◌, Option, Some, None}
use Rattle.chess_model.specs.declared.man.Colour.{Colour}
use Rattle.chess_model.specs.declared.man.Kind.TheVariants.{King}
use Rattle.chess_model.specs.declared.man.Man.{Man}
use Rattle.chess_model.specs.Placement.{Placement, man_at, opposite, IsHeldAs}
use Rattle.chess_model.specs.Reach.{Strikes}

-- the man on a is of that colour and strikes s
abbrev pub StrikesAs : Placement → Colour → ℕ → ℕ → Option Man → Type 0
StrikesAs P c a s None = ⊥
StrikesAs P c a s (Some m) = (m.colour ≡ c) × Strikes P c m.kind a s

-- a man of that colour stands on a and strikes s
abbrev pub StrikesFrom : Placement → Colour → ℕ → ℕ → Type 0
StrikesFrom P c a s = StrikesAs P c a s (man_at P a)

-- some man of that colour strikes s
unfoldable pub IsAttacked : Placement → Colour → ℕ → Type 0
IsAttacked P c s = (a : ℕ) × (a < 64) × StrikesFrom P c a s

-- a king of that colour stands on s under attack
abbrev pub IsInCheckOn : Placement → Colour → ℕ → Type 0
IsInCheckOn P c s = IsHeldAs c King (man_at P s) × IsAttacked P (opposite c) s

-- no king of that colour stands on an attacked square
pub record IsKingSafe (P : Placement) (c : Colour) : Type 0 where
  pub safe : (s : ℕ) → s < 64 → ¬ IsInCheckOn P c s
