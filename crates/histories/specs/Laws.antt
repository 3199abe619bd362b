-- The laws of every server of parts, in words that a reader needs no proof for.
use Rattle.std.specs.Prelude.{◌≡◌, ℕ, List, ◌++◌, [], ◌∷◌, length, slice_get, IfSome}
use Rattle.std.specs.declared.option.Option.{Option}
use Rattle.std.specs.declared.option.Option.TheVariants.{Some}
use Rattle.histories.specs.declared.entry.Entry.{Entry}
use Rattle.histories.specs.Core.{Core, Touches, reply, after}
use Rattle.histories.specs.History.{IsPrefix, state, Legal}

module _ {P A R : Type 0} (c : Core P A R) where
  -- no part is touched by both acts
  abbrev pub Apart : List P → ℕ → A → ℕ → A → Type 0
  Apart xs k a m b = (s : ℕ) → Touches c xs k a s → Touches c xs m b s → ⊥

  -- an act keeps the number of parts
  abbrev pub KeepsLength : Type 0
  KeepsLength = (xs : List P) (k : ℕ) (a : A) → length (after c xs k a) ≡ length xs

  -- a part that the act doesn't touch stays as it was
  abbrev pub LeavesOthers : Type 0
  LeavesOthers =
      (xs : List P) (k : ℕ) (a : A) (s : ℕ) → (Touches c xs k a s → ⊥) → slice_get (after c xs k a) s ≡ slice_get xs s

  -- two states have the same parts in the footprint of the act
  abbrev pub AgreeAt : List P → List P → ℕ → A → Type 0
  AgreeAt xs ys k a = (s : ℕ) → Touches c xs k a s → slice_get ys s ≡ slice_get xs s

  -- the reply is a function of the footprint alone
  abbrev pub RepliesLocally : Type 0
  RepliesLocally = (xs ys : List P) (k : ℕ) (a : A) → AgreeAt xs ys k a → reply c ys k a ≡ reply c xs k a

  -- and so are the new parts of the footprint
  abbrev pub ChangesLocally : Type 0
  ChangesLocally =
      (xs ys : List P) (k : ℕ) (a : A) → length ys ≡ length xs → AgreeAt xs ys k a → (s : ℕ) → Touches c xs k a s
      → slice_get (after c ys k a) s ≡ slice_get (after c xs k a) s

  -- two acts that touch no common part get the same replies in either order
  abbrev pub RepliesCommute : Type 0
  RepliesCommute =
      (xs : List P) (k : ℕ) (a : A) (m : ℕ) (b : A) → Apart xs k a m b → (reply c (after c xs m b) k a ≡ reply c xs k a)
      × (reply c (after c xs k a) m b ≡ reply c xs m b)

  -- and they leave the same state in either order
  abbrev pub StatesCommute : Type 0
  StatesCommute =
      (xs : List P) (k : ℕ) (a : A) (m : ℕ) (b : A) → Apart xs k a m b → after c (after c xs k a) m b
      ≡ after c (after c xs m b) k a

  -- the state after one entry more is the act's step on the state before it
  abbrev pub StepsOnce : Type 0
  StepsOnce =
      (xs : List P) (es : List (Entry A R)) (e : Entry A R) → state c xs (es ++ e ∷ [])
      ≡ after c (state c xs es) e.session e.act

  -- a legal history stays legal by one entry more, whose act fits and has the reply of the state so far
  abbrev pub GrowsLegally : Type 0
  GrowsLegally =
      (xs : List P) (es : List (Entry A R)) (e : Entry A R) → Legal c xs es → c.fits e.act
      → reply c (state c xs es) e.session e.act ≡ Some e.reply → Legal c xs (es ++ e ∷ [])

  -- each beginning of a legal history is legal
  abbrev pub BeginsLegally : Type 0
  BeginsLegally = (xs : List P) (es fs : List (Entry A R)) → IsPrefix es fs → Legal c xs fs → Legal c xs es

  -- the state of a legal history is whole, where the opening is
  abbrev pub StaysWhole : Type 0
  StaysWhole = (xs : List P) (es : List (Entry A R)) → c.whole xs → Legal c xs es → c.whole (state c xs es)

  -- what each act keeps in whole states
  abbrev pub EachActKeeps : (List P → Type 0) → Type 0
  EachActKeeps Q = (xs : List P) (k : ℕ) (a : A) → c.whole xs → c.fits a → Q xs → Q (after c xs k a)

  -- holds in the state of every legal history
  abbrev pub HoldsInEveryState : (List P → Type 0) → Type 0
  HoldsInEveryState Q = (xs : List P) (es : List (Entry A R)) → c.whole xs → Legal c xs es → Q xs → Q (state c xs es)

  -- what an act keeps of its first part, and of its second
  abbrev pub FirstKeeps : (P → Type 0) → Type 0
  FirstKeeps Q = (p : P) (q : Option P) (k : ℕ) (a : A) → c.fits a → Q p → IfSome q Q → Q (c.one p q k a)

  abbrev pub SecondKeeps : (P → Type 0) → Type 0
  SecondKeeps Q = (p q : P) (k : ℕ) (a : A) → c.fits a → Q p → Q q → Q (c.two p q k a)

  -- a fact of each part
  abbrev pub EachPart : (P → Type 0) → List P → Type 0
  EachPart Q xs = (s : ℕ) (p : P) → slice_get xs s ≡ Some p → Q p

  -- holds of each part in the state of every legal history
  abbrev pub HoldsOfEachPart : (P → Type 0) → Type 0
  HoldsOfEachPart Q = (xs : List P) (es : List (Entry A R)) → Legal c xs es → EachPart Q xs → EachPart Q (state c xs es)
