-- The rule of the turns. A table has a turn word and a slot for each part, and after the turn words the count word.
-- Each step of a pass keeps the rule, from any state that meets it, whatever the other passes do.
use Rattle.std.specs.Prelude.{◌≡◌, ℕ, ◌+◌, ◌%◌, ◌^◌, ◌<◌, ◌≤◌, ◌⊎◌, true, false, List, [], ◌∷◌, length, slice_index, slice_get}
use Rattle.std.specs.declared.option.Option.{Option}
use Rattle.std.specs.declared.option.Option.TheVariants.{None, Some}
use mathlib.Core.Option.{some, none}
use lib.ListN.{get_elem?}
use Rattle.atomic_table.specs.Table.{State}
use Rattle.histories.specs.declared.entry.Entry.{Entry}
use Rattle.histories.specs.Core.{Core}
use Rattle.histories.specs.History.{IsPrefix, calls_of, state, Legal}
use Rattle.turn_table.specs.declared.view.Joined.{Joined}
use Rattle.turn_table.specs.declared.view.View.{View}
use Rattle.turn_table.specs.Views.{In, Distinct, Holds, numbers_of}

-- What the rule names: the one history, which view holds the turn of a part, which view has a number (its own, or that
-- of a pass that was joined into it), and how many numbers were drawn
pub record RuleNames (A R : Type 0) : Type 0 where
  pub log : List (Entry A R)
  pub holder : ℕ → Option ℕ
  pub owner : ℕ → Option ℕ
  pub drawn : ℕ

-- the view at a place holds the turn of the part k
abbrev pub HoldsAt : {P A R : Type 0} → State (Option P) (View P A R) → ℕ → ℕ → Type 0
HoldsAt {P} {A} {R} s id k = (v : View P A R) × (get_elem? s.views id ≡ some v) × Holds v k

module _ {P A R : Type 0} (c : Core P A R) (opening : List P) where
  -- the part k is at home, and it is the part of the history's state
  abbrev pub IsHome : List (Entry A R) → State (Option P) (View P A R) → ℕ → Type 0
  IsHome log s k = (p : P) → slice_get (state c opening log) k ≡ Some p → get_elem? s.homes k ≡ some (some (Some p))

  -- What holds of each live view, v at the place id
  pub record Fits (n : RuleNames A R) (id : ℕ) (v : View P A R) : Type 0 where
    -- all views have the same opening parts
    pub same_opening : v.opening ≡ opening
    -- what a view has seen begins the history
    pub seen_begins : IsPrefix v.seen n.log
    pub shorter_begins : IsPrefix v.shorter n.log
    -- its calls are the entries of its number in the history
    pub own_calls : calls_of v.number n.log ≡ v.made
    -- the act in flight passes the test of acts
    pub may_fly : (a : A) → v.flight ≡ Some a → c.fits a
    -- a turn that it holds is its own
    pub holds_own : (k : ℕ) (p : P) → In (k, p) v.held → n.holder k ≡ Some id
    -- the named value of a part that it holds is the part of the history's state
    pub named : (k : ℕ) (p : P) → In (k, p) v.held → slice_get (state c opening n.log) k ≡ Some p
    -- it holds only turns of parts that it may take
    pub allowed : (k : ℕ) (p : P) → In (k, p) v.held → In k v.may
    -- an act has two parts at the most, and each is there
    pub few : length v.may ≤ 2
    pub there : (k : ℕ) → In k v.may → k < length opening
    -- while an act isn't committed and its first part may be taken and isn't held, this is the only part that may be
    -- taken
    pub first_alone : (a : A) → v.flight ≡ Some a → v.committed ≡ false → In (c.first a) v.may
        → (Holds v (c.first a) → ⊥) → v.may ≡ c.first a ∷ []
    -- while an act isn't committed and its first part is held, the parts that may be taken are among this part and the
    -- second that its value gives
    pub only_parts : (a : A) (p : P) → v.flight ≡ Some a → v.committed ≡ false → In (c.first a, p) v.held → (k : ℕ)
        → In k v.may → (k ≡ c.first a) ⊎ (c.second p v.number a ≡ Some k)
    -- once an act is committed, each part that may be taken is held
    pub all_held : v.committed ≡ true → (k : ℕ) → In k v.may → Holds v k
    -- its number, and those of the passes that were joined into it, are its own, were drawn, and differ
    pub has_numbers : (m : ℕ) → In m (numbers_of v) → n.owner m ≡ Some id
    pub were_drawn : (m : ℕ) → In m (numbers_of v) → m ≤ n.drawn
    pub differ : Distinct (numbers_of v)
    -- the calls of a pass that was joined into it are the entries of that number in the history
    pub joined_calls : (j : Joined A R) → In j v.joined → calls_of j.number n.log ≡ j.calls
    -- the first pass counts the numbers that were drawn
    pub counts_drawn : v.number ≡ 0 → v.splits ≡ n.drawn

  pub record Rule (s : State (Option P) (View P A R)) (n : RuleNames A R) : Type 0 where
    -- a turn word for each part and the count word, and a slot for each part
    pub words_there : length s.words ≡ length opening + 1
    pub slots_there : length s.homes ≡ length opening
    -- the opening parts pass the test of states
    pub opens_whole : c.whole opening
    -- the count word is the length of the history, modulo 2^64
    pub counted : slice_index s.words (length opening) ≡ length n.log % 2 ^ 64
    -- the history is legal
    pub legal : Legal c opening n.log
    -- where nobody holds the turn of a part, its turn word is 0 and the part is at home, as the history's state has it
    pub free : (k : ℕ) → k < length opening → n.holder k ≡ None → (slice_index s.words k ≡ 0) × IsHome n.log s k
    -- where a view holds the turn of a part, its turn word is 1
    pub held : (k id : ℕ) → k < length opening → n.holder k ≡ Some id → (slice_index s.words k ≡ 1) × HoldsAt s id k
    -- and then the part is out of its slot, with the pass of that view
    pub out : (k id : ℕ) → k < length opening → n.holder k ≡ Some id → get_elem? s.homes k ≡ some none
    -- each live view fits
    pub fits : (id : ℕ) (v : View P A R) → get_elem? s.views id ≡ some v → v.live ≡ true → Fits n id v
    -- a view that was joined into another one holds nothing
    pub spent_holds_none : (id : ℕ) (v : View P A R) → get_elem? s.views id ≡ some v → v.live ≡ false → v.held ≡ []
    -- some live view has seen the whole history
    pub newest : (id : ℕ) × (v : View P A R) × (get_elem? s.views id ≡ some v) × (v.live ≡ true) × (v.seen ≡ n.log)
    -- a number that wasn't drawn has no entry
    pub undrawn : (m : ℕ) → n.drawn < m → calls_of m n.log ≡ []

  -- The rule of the turns, of a table that opened with these parts
  abbrev pub Ruled : State (Option P) (View P A R) → Type 0
  Ruled s = (n : RuleNames A R) × Rule s n
