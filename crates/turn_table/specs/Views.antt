-- The view of a pass, and how each kind of step changes it.
use Rattle.std.specs.Prelude.{◌≡◌, ℕ, ◌+◌, ◌<◌, ◌==◌, ◌⊎◌, true, false, cond, not, nat_lt, List, [], ◌∷◌, ◌++◌, map, length, filter, slice_get}
use Rattle.std.specs.Option.{option_to_list}
use Rattle.std.specs.declared.option.Option.{Option}
use Rattle.std.specs.declared.option.Option.TheVariants.{None, Some}
use Rattle.histories.specs.declared.entry.Entry.{Entry}
use Rattle.histories.specs.Core.{Core}
use Rattle.histories.specs.History.{IsPrefix, calls_of, entry, state, Legal}
use Rattle.turn_table.specs.declared.view.Joined.{Joined}
use Rattle.turn_table.specs.declared.view.View.{View}

-- x stands in the list
abbrev pub In : {T : Type 0} → T → List T → Type 0
In x [] = ⊥
In x (y ∷ ys) = (x ≡ y) ⊎ In x ys

-- no number stands twice in the list
abbrev pub Distinct : List ℕ → Type 0
Distinct [] = Unit {0}
Distinct (x ∷ xs) = (In x xs → ⊥) × Distinct xs

abbrev pub joined_number : {A R : Type 0} → Joined A R → ℕ
joined_number j = j.number

-- all numbers but this one
abbrev pub without : ℕ → List ℕ → List ℕ
without k ks = filter (λ m. not (m == k)) ks

-- all parts but this one
abbrev pub let_go : {P : Type 0} → ℕ → List (ℕ × P) → List (ℕ × P)
let_go k xs = filter (λ x. not (x.0 == k)) xs

-- the value of the second part, if there is one
abbrev pub SecondOut : {P : Type 0} → Option ℕ → Option P → List (ℕ × P) → Type 0
SecondOut None o held = o ≡ None
SecondOut {P} (Some s) o held = (q : P) × (o ≡ Some q) × In (s, q) held

-- the longer of two beginnings of one history
abbrev pub longer : {A R : Type 0} → List (Entry A R) → List (Entry A R) → List (Entry A R)
longer xs ys = cond (nat_lt (length xs) (length ys)) ys xs

-- and the shorter one
abbrev pub shorter_of : {A R : Type 0} → List (Entry A R) → List (Entry A R) → List (Entry A R)
shorter_of xs ys = cond (nat_lt (length xs) (length ys)) xs ys

module _ {P A R : Type 0} where
  -- it holds the turn of this part
  abbrev pub Holds : View P A R → ℕ → Type 0
  Holds v k = (p : P) × In (k, p) v.held

  -- its own number, and those of the passes that were joined into it
  abbrev pub numbers_of : View P A R → List ℕ
  numbers_of v = v.number ∷ map joined_number v.joined

  -- the history so far was seen. It begins with all that the pass had seen, it is legal, its state is whole, the pass's
  -- entries in it are its calls, and those of a pass that was joined into it are that one's calls. Where the pass is
  -- the first one, no number that it hasn't split has an entry
  pub record Looks (c : Core P A R) (v : View P A R) (seen : List (Entry A R)) : Type 0 where
    pub on : IsPrefix v.seen seen
    pub legal : Legal c v.opening seen
    pub whole : c.whole (state c v.opening seen)
    pub own : calls_of v.number seen ≡ v.made
    pub joined : (j : Joined A R) → In j v.joined → calls_of j.number seen ≡ j.calls
    pub no_others : v.number ≡ 0 → (m : ℕ) → v.splits < m → calls_of m seen ≡ []

  -- what a pass knows at any time: what it has seen is legal, its entries there are its calls, and so on
  pub record Knows (c : Core P A R) (v : View P A R) : Type 0 where
    pub legal : Legal c v.opening v.seen
    pub own : calls_of v.number v.seen ≡ v.made
    pub joined : (j : Joined A R) → In j v.joined → calls_of j.number v.seen ≡ j.calls
    pub no_others : v.number ≡ 0 → (m : ℕ) → v.splits < m → calls_of m v.seen ≡ []

  -- the history was looked at
  abbrev pub looked : View P A R → List (Entry A R) → View P A R
  looked v seen = record v { seen = seen; shorter = [] }

  -- each part that it holds is the part of the state of what it has seen
  abbrev pub HoldsState : Core P A R → View P A R → Type 0
  HoldsState c v = (k : ℕ) (q : P) → In (k, q) v.held → slice_get (state c v.opening v.seen) k ≡ Some q

  -- an act is begun: its first part is the one that may be taken
  abbrev pub begun : Core P A R → View P A R → A → List (Entry A R) → View P A R
  begun c v a seen = record v { seen = seen; flight = Some a; committed = false; may = c.first a ∷ [] }

  -- the second part, by the value of the first
  abbrev pub second_by : Core P A R → ℕ → P → Option A → ℕ → List ℕ
  second_by c k p None number = []
  second_by c k p (Some a) number = cond (k == c.first a) (option_to_list (c.second p number a)) []

  -- a part is taken, and its value is named. The first part's value gives the second part, if there is one
  abbrev pub taken_out : Core P A R → View P A R → ℕ → P → List (Entry A R) → View P A R
  taken_out c v k p seen =
      record v { seen = seen; may = v.may ++ second_by c k p v.flight v.number; held = (k, p) ∷ v.held }

  -- the turn word of a part was found at 1
  abbrev pub tried : View P A R → ℕ → View P A R
  tried v k = record v { busy = v.busy ++ k ∷ [] }

  -- the act in flight is a, it isn't committed, and all its parts are out: its first part with the value p, and its
  -- second with the value o, if it has one
  pub record AllOut (c : Core P A R) (v : View P A R) (a : A) (p : P) (o : Option P) : Type 0 where
    pub flies : v.flight ≡ Some a
    pub pending : v.committed ≡ false
    pub first : In (c.first a, p) v.held
    pub second : SecondOut (c.second p v.number a) o v.held

  -- the second part afterwards, if the act has one
  abbrev pub second_left : Core P A R → ℕ → A → P → Option P → P → P
  second_left c number a p None old = old
  second_left c number a p (Some q) old = c.two p q number a

  -- a part that is out, with the value that the act leaves
  abbrev pub left_by : Core P A R → ℕ → A → P → Option P → ℕ × P → ℕ × P
  left_by c number a p o x = (x.0, cond (x.0 == c.first a) (c.one p o number a) (second_left c number a p o x.1))

  abbrev pub entry_by : Core P A R → View P A R → A → P → Option P → Entry A R
  entry_by c v a p o = entry v.number a (c.answer p o v.number a)

  -- the act is committed: it is the last entry of what was seen and of the calls, and each part has the value that the
  -- act leaves
  abbrev pub done : Core P A R → View P A R → A → P → Option P → List (Entry A R) → View P A R
  done c v a p o seen =
      record v {
        seen = seen;
        made = v.made ++ entry_by c v a p o ∷ [];
        committed = true;
        held = map (left_by c v.number a p o) v.held;
      }

  -- a part is given back
  abbrev pub given_back : View P A R → ℕ → View P A R
  given_back v k = record v { may = without k v.may; held = let_go k v.held }

  -- a pass was split from it
  abbrev pub divided : View P A R → View P A R
  divided v = record v { splits = v.splits + 1 }

  -- the pass that was split from it
  abbrev pub split_from : View P A R → View P A R
  split_from v =
      record {
        live = true;
        number = v.splits + 1;
        splits = 0;
        opening = v.opening;
        seen = v.seen;
        shorter = [];
        made = [];
        flight = None;
        committed = false;
        may = [];
        held = [];
        busy = [];
        joined = [];
      }

  abbrev pub as_joined : View P A R → Joined A R
  as_joined w = record { number = w.number; calls = w.made }

  -- another pass is being joined into it: of what the two had seen it takes the longer, and remembers the shorter
  abbrev pub merged : View P A R → View P A R → View P A R
  merged v w =
      record v {
        seen = longer v.seen w.seen;
        shorter = shorter_of v.seen w.seen;
        joined = v.joined ++ as_joined w
            ∷ w.joined;
      }

  -- another pass was joined into it, and the history was looked at
  abbrev pub joined_with : View P A R → View P A R → List (Entry A R) → View P A R
  joined_with v w seen = looked (merged v w) seen

  -- what is left of a pass that was joined into another one
  abbrev pub spent_view : View P A R
  spent_view =
      record {
        live = false;
        number = 0;
        splits = 0;
        opening = [];
        seen = [];
        shorter = [];
        made = [];
        flight = None;
        committed = false;
        may = [];
        held = [];
        busy = [];
        joined = [];
      }

  -- the first pass, when the table opens
  abbrev pub new_view : List P → View P A R
  new_view opening =
      record {
        live = true;
        number = 0;
        splits = 0;
        opening = opening;
        seen = [];
        shorter = [];
        made = [];
        flight = None;
        committed = false;
        may = [];
        held = [];
        busy = [];
        joined = [];
      }
