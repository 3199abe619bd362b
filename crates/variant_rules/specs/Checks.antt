-- Which men keep the enemy from a king, and where a check is answered (FIDE Laws 3.9).
use Rattle.std.specs.Prelude.{◌≡◌, ℕ, ◌<◌, ◌⊎◌, true, false, Option, None, slice_set}
use Rattle.chess_model.specs.declared.man.Colour.{Colour}
use Rattle.chess_model.specs.declared.man.Kind.TheVariants.{Queen, King}
use Rattle.chess_model.specs.declared.man.Man.{Man}
use Rattle.chess_model.specs.Placement.{Placement, man_at, opposite, IsHeldBy, IsHeldAs}
use Rattle.chess_model.specs.Reach.{Strikes}
use Rattle.chess_model.specs.Attacked.{StrikesFrom, IsAttacked, IsKingSafe}
use Rattle.bitboard_core.specs.Sets.{Has}
use Rattle.variant_rules.specs.declared.guard.Guard.{Guard}

-- without the man on a an enemy would attack s
abbrev pub IsBare : Placement → Colour → ℕ → ℕ → Type 0
IsBare P c s a = IsAttacked (slice_set P a None) (opposite c) s

-- with that man on b an enemy attacks s
abbrev pub IsAttackedPast : Placement → Colour → ℕ → ℕ → Option Man → Type 0
IsAttackedPast P c s b man = IsAttacked (slice_set P b man) (opposite c) s

-- the set has every square that a queen on one of the given squares would strike
pub record AreSeenFrom (P : Placement) (c : Colour) (squares set : ℕ) : Type 0 where
  pub each : (x t : ℕ) → x < 64 → t < 64 → Has squares x → Strikes P c Queen x t → Has set t

-- the set has every man of that colour without whom an enemy would attack s
pub record ArePinned (P : Placement) (c : Colour) (s set : ℕ) : Type 0 where
  pub each : (a : ℕ) → a < 64 → IsHeldBy c (man_at P a) → IsBare P c s a → Has set a

-- a man of that colour outside the set leaves an enemy on x that strikes s striking it
pub record AreStops (P : Placement) (c : Colour) (s x set : ℕ) : Type 0 where
  pub each : (b : ℕ) (man : Option Man) → b < 64 → ¬ Has set b → IsHeldBy c man → StrikesFrom P (opposite c) x s →
      StrikesFrom (slice_set P b man) (opposite c) x s

-- a man of that colour outside the set leaves s attacked
pub record AreAnswers (P : Placement) (c : Colour) (s set : ℕ) : Type 0 where
  pub each : (b : ℕ) (man : Option Man) → b < 64 → ¬ Has set b → IsHeldBy c man → IsAttackedPast P c s b man

-- what a king of that colour on s tells
pub record IsWatch (P : Placement) (c : Colour) (s : ℕ) (guard : Guard) : Type 0 where
  pub pinned : ArePinned P c s guard.from
  pub answers : AreAnswers P c s guard.answers
  pub safe : guard.in_check ≡ false → ¬ IsAttacked P (opposite c) s
  pub check : guard.in_check ≡ true → IsAttacked P (opposite c) s

-- what two kings tell: each may be in check, have men that keep the enemy from it, and leave squares without an answer
pub record IsJoined (one two guard : Guard) : Type 0 where
  pub from : (t : ℕ) → Has one.from t ⊎ Has two.from t → Has guard.from t
  pub answers : (t : ℕ) → ¬ Has guard.answers t → (¬ Has one.answers t) ⊎ (¬ Has two.answers t)
  pub safe : guard.in_check ≡ false → (one.in_check ≡ false) × (two.in_check ≡ false)
  pub check : guard.in_check ≡ true → (one.in_check ≡ true) ⊎ (two.in_check ≡ true)

-- a king of that colour that is attacked past that man on b
pub record IsUnanswered (P : Placement) (c : Colour) (b : ℕ) (man : Option Man) (s : ℕ) : Type 0 where
  pub square : s < 64
  pub held : IsHeldAs c King (man_at P s)
  pub attacked : IsAttackedPast P c s b man

-- a king of that colour on s is attacked
pub record IsKingAttacked (P : Placement) (c : Colour) (s : ℕ) : Type 0 where
  pub square : s < 64
  pub held : IsHeldAs c King (man_at P s)
  pub attacked : IsAttacked P (opposite c) s

-- what the kings of that colour tell
pub record AreWatched (P : Placement) (c : Colour) (guard : Guard) : Type 0 where
  pub kings : (s : ℕ) → s < 64 → IsHeldAs c King (man_at P s) → Has guard.from s
  pub pinned : (s : ℕ) → s < 64 → IsHeldAs c King (man_at P s) → ArePinned P c s guard.from
  pub answers : (b : ℕ) (man : Option Man) → b < 64 → ¬ Has guard.answers b → IsHeldBy c man →
      (s : ℕ) × IsUnanswered P c b man s
  pub safe : guard.in_check ≡ false → IsKingSafe P c
  pub check : guard.in_check ≡ true → ¬ IsKingSafe P c

-- no king of that colour stands outside a
pub record IsOnlyKing (P : Placement) (c : Colour) (a : ℕ) : Type 0 where
  pub only : (s : ℕ) → s < 64 → IsHeldAs c King (man_at P s) → s ≡ a
