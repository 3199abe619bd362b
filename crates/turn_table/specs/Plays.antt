-- What each kind of step tells the pass that made it: of the step, of the pass before, of the number that was found,
-- and of the pass after.
use Rattle.std.specs.Prelude.{◌≡◌, ℕ, ◌==◌, ◌<◌, ◌≤◌, List, [], ◌∷◌, ◌++◌, length, slice_get, MatchOption}
use Rattle.std.specs.Bool.{MatchBool}
use Rattle.std.specs.declared.option.Option.{Option}
use Rattle.std.specs.declared.option.Option.TheVariants.{Some}
use Rattle.atomic_table.specs.Table.{Me, Step, rest}
use Rattle.histories.specs.declared.entry.Entry.{Entry}
use Rattle.histories.specs.Core.{Core}
use Rattle.histories.specs.History.{IsPrefix, calls_of, state, Legal}
use Rattle.turn_table.specs.declared.view.Joined.{Joined}
use Rattle.turn_table.specs.declared.view.View.{View}
use Rattle.turn_table.specs.Views.{In, HoldsState, Looks, looked, begun, taken_out, tried, AllOut, done, entry_by, given_back}

module _ {P A R : Type 0} (c : Core P A R) where
  abbrev pub Sat : Type 0
  Sat = Me (Option P) (View P A R)

  -- the history so far was seen, and nothing else changes
  pub record LooksOn (m m' : Sat) : Type 0 where
    pub view : m'.0 ≡ looked m.0 m'.0.seen
    pub slots : m'.1 ≡ m.1
    pub looks : Looks c m.0 m'.0.seen
    pub shorter : IsPrefix m.0.shorter m'.0.seen
    pub held : HoldsState c m'.0

  abbrev pub Sees : Step (Option P) → Sat → ℕ → Sat → Type 0
  Sees st m found m' = LooksOn m m'

  -- the act is begun, and the history so far was seen
  abbrev pub BeginsAct : Sat → A → Sat → Type 0
  BeginsAct m a m' =
      (m'.0 ≡ begun c m.0 a m'.0.seen) × (m'.1 ≡ m.1) × Looks c m.0 m'.0.seen × (c.first a < length m.0.opening)

  abbrev pub BeginsTurn : Option A → Step (Option P) → Sat → ℕ → Sat → Type 0
  BeginsTurn meant st m found m' = MatchOption meant ⊥ (λ a. BeginsAct m a m')

  -- a turn word that was 0: the turn is taken with the part, which is the history's state's
  pub record TakesPart (m : Sat) (k : ℕ) (p : P) (m' : Sat) : Type 0 where
    pub view : m'.0 ≡ taken_out c m.0 k p m'.0.seen
    pub slot : m'.1 ≡ (k, Some p) ∷ m.1
    pub looks : Looks c m.0 m'.0.seen
    pub value : slice_get (state c m.0.opening m'.0.seen) k ≡ Some p
    pub held : HoldsState c m'.0
    pub few : length m'.0.may ≤ 2
    pub allowed : (j : ℕ) (q : P) → In (j, q) m'.0.held → In j m'.0.may
    pub there : (j : ℕ) → In j m'.0.may → j < length m.0.opening

  -- a turn word that was 1: the try is noted, and nothing else changes
  abbrev pub FindsBusy : Sat → ℕ → Sat → Type 0
  FindsBusy m k m' = (m'.0 ≡ tried m.0 k) × (m'.1 ≡ m.1)

  abbrev pub TurnTakes : Step (Option P) → Sat → ℕ → Sat → Type 0
  TurnTakes st m found m' =
      MatchBool (found == 0) ((p : P) × TakesPart m st.word p m') ((found ≡ 1) × FindsBusy m st.word m')

  -- the act is the last entry of the history that is seen then
  pub record CommitsAct (m : Sat) (a : A) (p : P) (o : Option P) (m' : Sat) : Type 0 where
    pub view : m'.0 ≡ done c m.0 a p o m'.0.seen
    pub slots : m'.1 ≡ m.1
    pub between : List (Entry A R)
    pub last : m'.0.seen ≡ (m.0.seen ++ between) ++ entry_by c m.0 a p o ∷ []
    pub legal : Legal c m.0.opening m'.0.seen
    pub own : calls_of m.0.number m'.0.seen ≡ m'.0.made
    pub joined : (j : Joined A R) → In j m.0.joined → calls_of j.number m'.0.seen ≡ j.calls
    pub no_others : m.0.number ≡ 0 → (n : ℕ) → m.0.splits < n → calls_of n m'.0.seen ≡ []
    pub before : (k : ℕ) (q : P) → In (k, q) m.0.held → slice_get (state c m.0.opening (m.0.seen ++ between)) k ≡ Some q
    pub held : HoldsState c m'.0

  abbrev pub Commits : Step (Option P) → Sat → ℕ → Sat → Type 0
  Commits st m found m' = (a : A) (p : P) (o : Option P) → AllOut c m.0 a p o → CommitsAct m a p o m'

  -- the turn is given with the part
  abbrev pub GivesTurn : Step (Option P) → Sat → ℕ → Sat → Type 0
  GivesTurn st m found m' = (m'.0 ≡ given_back m.0 st.word) × (m'.1 ≡ rest m.1)
