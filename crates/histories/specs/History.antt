-- Histories: the acts that were made, each with its session and its reply, the oldest first.
use Rattle.std.specs.Prelude.{◌≡◌, ℕ, ◌==◌, List, [], ◌∷◌, ◌++◌, filter}
use Rattle.std.specs.declared.option.Option.TheVariants.{Some}
use Rattle.histories.specs.declared.entry.Entry.{Entry}
use Rattle.histories.specs.Core.{Core, reply, after}

-- ys begins with xs
abbrev pub IsPrefix : {T : Type 0} → List T → List T → Type 0
IsPrefix {T} xs ys = (rest : List T) × (xs ++ rest ≡ ys)

-- the entries of one session, in their order
abbrev pub calls_of : {A R : Type 0} → ℕ → List (Entry A R) → List (Entry A R)
calls_of k es = filter (λ e. e.session == k) es

abbrev pub entry : {A R : Type 0} → ℕ → A → R → Entry A R
entry k a r = record { session = k; act = a; reply = r }

module _ {P A R : Type 0} (c : Core P A R) where
  -- the state after a history, from an opening state
  abbrev pub state : List P → List (Entry A R) → List P
  state xs [] = xs
  state xs (e ∷ es) = state (after c xs e.session e.act) es

  -- each act fits, and each reply is the one that the act gets in the state of the entries before it
  abbrev pub Legal : List P → List (Entry A R) → Type 0
  Legal xs [] = Unit {0}
  Legal xs (e ∷ es) = c.fits e.act × (reply c xs e.session e.act ≡ Some e.reply) × Legal (after c xs e.session e.act) es
