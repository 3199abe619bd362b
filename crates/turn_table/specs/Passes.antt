-- A pass as its callers see it, and what holds of every pass.
use Rattle.std.specs.Prelude.{◌≡◌, ◌≢◌, ℕ, zero, suc, ◌+◌, ◌<◌, ◌≤◌, true, List, [], ◌∷◌, ◌++◌, map, length, slice_get}
use mathlib.Core.Option.{some}
use lib.ListN.{get_elem?}
use Rattle.std.specs.declared.option.Option.{Option}
use Rattle.std.specs.declared.option.Option.TheVariants.{None, Some}
use Rattle.atomic_table.specs.Table.{Me}
use Rattle.atomic_table.specs.Seated.{TableId}
use Rattle.turn_table.specs.declared.view.View.{View}
use Rattle.atomic_table.specs.declared.shared.Seat.{Seat}
use Rattle.histories.specs.Core.{Core}
use Rattle.histories.specs.declared.entry.Entry.{Entry}
use Rattle.histories.specs.History.{calls_of, state, Legal}
use Rattle.turn_table.specs.Views.{In, HoldsState, Knows, joined_number, done, entry_by}
use Rattle.turn_table.specs.Plays.{TakesPart}

-- which table the pass is of, and what it knows
pub record PassStanding (P A R : Type 0) : Type 0 where
  pub home : TableId
  pub view : View P A R

-- a slot that is out is empty
abbrev pub out : {P : Type 0} → ℕ × P → ℕ × Option P
out x = (x.0, None)

-- the part that was taken last is `last`, and the one before it is `before`. There are no more than two
abbrev pub Topped : {P : Type 0} → ℕ → ℕ → List (ℕ × P) → Type 0
Topped last before [] = Unit {0}
Topped last before (x ∷ []) = x.0 ≡ last
Topped last before (x ∷ y ∷ []) = (x.0 ≡ last) × (y.0 ≡ before) × (last ≢ before)
Topped last before (x ∷ y ∷ z ∷ zs) = ⊥

module _ {P A R : Type 0} (c : Core P A R) where
  pub record IsPass (slots last before : ℕ) (me : Me (Option P) (View P A R)) : Type 0 where
    pub alive : me.0.live ≡ true
    pub sized : length me.0.opening ≡ slots
    pub slots_out : me.1 ≡ map out me.0.held
    pub order : Topped last before me.0.held
    pub may_there : (k : ℕ) → In k me.0.may → k < slots
    pub held_there : (k : ℕ) (p : P) → In (k, p) me.0.held → k < slots
    pub knows : Knows c me.0

  -- and the numbers that the pass keeps are those of its view
  abbrev pub Sound : ℕ → ℕ → ℕ → ℕ → ℕ → Me (Option P) (View P A R) → Type 0
  Sound slots number splits last before me =
      IsPass slots last before me × (number ≡ me.0.number) × (splits ≡ me.0.splits)

-- a seat at a table that has a turn word for each part and the count word, and that opened with so many parts
pub record IsAt (seat home : TableId) (parts : ℕ) : Type 0 where
  pub same : seat ≡ home
  pub words : home.words ≡ home.slots + 1
  pub slots : parts ≡ home.slots

-- the busy tries after so many more of one part
abbrev pub busy_more : ℕ → ℕ → List ℕ → List ℕ
busy_more zero k ks = ks
busy_more (suc n) k ks = busy_more n k ks ++ k ∷ []

-- a seat stays what it was, but for what it knows and has
abbrev pub SameSeat : {S V : Type 0} → Seat S V → Seat S V → Type 0
SameSeat p q = (q.table_id ≡ p.table_id) × (q.id ≡ p.id)

module _ {P A R : Type 0} (c : Core P A R) where
  -- a turn was taken, and the part is out of its slot
  abbrev pub TookPart : Me (Option P) (View P A R) → ℕ → P → Me (Option P) (View P A R) → Type 0
  TookPart m k p m' = TakesPart c m k p (m'.0, (k, Some p) ∷ m.1) × (m'.1 ≡ (k, None) ∷ m.1)

module _ {P A R : Type 0} where
  -- the same view with other busy tries
  abbrev pub with_busy : List ℕ → View P A R → View P A R
  with_busy ks v = record v { busy = ks }

  -- every pass that was split from this one was joined into it
  abbrev pub AllJoined : View P A R → Type 0
  AllJoined v = (m : ℕ) → 0 < m → m ≤ v.splits → In m (map joined_number v.joined)

module _ {P A R : Type 0} (c : Core P A R) where
  -- a commit makes one entry, the last of the history that is seen then: the act with the step's reply. Each part that
  -- is held has the step's value
  pub record Committed (v : View P A R) (a : A) (p : P) (o : Option P) (w : View P A R) : Type 0 where
    pub view : w ≡ done c v a p o w.seen
    pub between : List (Entry A R)
    pub last : w.seen ≡ (v.seen ++ between) ++ entry_by c v a p o ∷ []
    pub legal : Legal c v.opening w.seen
    pub own : calls_of v.number w.seen ≡ w.made
    -- up to the entry no other act changed a part that was held, and after it each is the new state's
    pub before : (k : ℕ) (q : P) → In (k, q) v.held → slice_get (state c v.opening (v.seen ++ between)) k ≡ Some q
    pub held : HoldsState c w

-- no slot is empty
abbrev pub AllThere : {P : Type 0} → List (Option P) → Type 0
AllThere {P} slots = (k : ℕ) (x : Option P) → get_elem? slots k ≡ some x → (p : P) × (x ≡ Some p)
