-- The rules of a server whose state is a list of parts, and of which one act reads and changes one part or two.
use Rattle.std.specs.Prelude.{◌≡◌, ◌≢◌, ℕ, ◌<◌, ◌⊎◌, List, length, slice_get, slice_set}
use Rattle.std.specs.Option.{option_map, option_and_then}
use Rattle.std.specs.declared.option.Option.{Option}
use Rattle.std.specs.declared.option.Option.TheVariants.{None, Some}

-- P is what a part holds, A an act and R a reply. A session is a number
pub record Core (P A R : Type 0) : Type 1 where
  -- the number of the first part of an act
  pub first : A → ℕ
  -- the number of its second part, if it has one, by the first part's value, the session and the act
  pub second : P → ℕ → A → Option ℕ
  -- the acts that may be made
  pub fits : A → Type 0
  -- the states in which acts are made
  pub whole : List P → Type 0
  -- the reply, by the parts that the act was lent
  pub answer : P → Option P → ℕ → A → R
  -- the first part afterwards
  pub one : P → Option P → ℕ → A → P
  -- the second part afterwards
  pub two : P → P → ℕ → A → P

module _ {P A R : Type 0} (c : Core P A R) where
  -- the number of the act's second part in this state, if it has one
  abbrev pub second_of : List P → ℕ → A → Option ℕ
  second_of xs k a = option_and_then (λ p. c.second p k a) (slice_get xs (c.first a))

  -- the part with a number, if there is a number
  abbrev pub part_at : List P → Option ℕ → Option P
  part_at xs None = None
  part_at xs (Some s) = slice_get xs s

  -- the second part of the act in this state, if it has one
  abbrev pub other_of : List P → ℕ → A → Option P
  other_of xs k a = part_at xs (second_of xs k a)

  -- the footprint: s is the first or the second part of the act in this state
  abbrev pub Touches : List P → ℕ → A → ℕ → Type 0
  Touches xs k a s = (s ≡ c.first a) ⊎ (second_of xs k a ≡ Some s)

  -- the reply of the act in this state. There is none where the first part is not there
  abbrev pub reply : List P → ℕ → A → Option R
  reply xs k a = option_map (λ p. c.answer p (other_of xs k a) k a) (slice_get xs (c.first a))

  -- a part is put at a number, if there are both
  abbrev pub put : List P → Option ℕ → Option P → List P
  put xs None v = xs
  put xs (Some s) None = xs
  put xs (Some s) (Some y) = slice_set xs s y

  abbrev pub new_first : List P → ℕ → A → Option P
  new_first xs k a = option_map (λ p. c.one p (other_of xs k a) k a) (slice_get xs (c.first a))

  abbrev pub new_second : List P → ℕ → A → Option P
  new_second xs k a =
      option_and_then (λ p. option_map (λ q. c.two p q k a) (other_of xs k a)) (slice_get xs (c.first a))

  -- the state after the act: its first part is put back, and then its second
  unfoldable pub after : List P → ℕ → A → List P
  after xs k a = put (put xs (Some (c.first a)) (new_first xs k a)) (second_of xs k a) (new_second xs k a)

-- The laws of a server. In a whole state an act that fits has parts that are there and differ, and it leaves a whole
-- state
pub record Lawful {P A R : Type 0} (c : Core P A R) : Type 0 where
  pub first_in : (xs : List P) (a : A) → c.whole xs → c.fits a → c.first a < length xs
  pub second_in : (xs : List P) (k : ℕ) (a : A) (p : P) (s : ℕ) → c.whole xs → c.fits a → slice_get xs (c.first a)
      ≡ Some p → c.second p k a ≡ Some s → (s < length xs) × (s ≢ c.first a)
  pub stays : (xs : List P) (k : ℕ) (a : A) → c.whole xs → c.fits a → c.whole (after c xs k a)
