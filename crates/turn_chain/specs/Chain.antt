-- What one act of a pass makes of what the pass knows.
use Rattle.std.specs.Prelude.{◌≡◌, ℕ, List, [], ◌∷◌, ◌++◌, false, None, Some}
use Rattle.histories.specs.Core.{Core, Touches}
use Rattle.histories.specs.History.{calls_of, state, Legal}
use Rattle.histories.specs.Running.{Ran, Unmade}
use Rattle.turn_table.specs.declared.view.View.{View}
use Rattle.turn_table.specs.Views.{HoldsState}
use Rattle.turn_chain.specs.declared.tried.Tried.{Tried}
use Rattle.turn_chain.specs.declared.tried.Tried.TheVariants.{Done, Busy}

module _ {P A R : Type 0} where
  -- what no act changes of a view: all but what the pass has seen and made, the act in flight, its parts and its tries
  abbrev pub fixed : View P A R → View P A R
  fixed v =
      record v { seen = []; shorter = []; made = []; flight = None; committed = false; may = []; held = []; busy = [] }

module _ {P A R : Type 0} (c : Core P A R) where
  -- the act was made and got this reply
  abbrev pub HasRun : View P A R → A → R → View P A R → Type 0
  HasRun v a r w = Ran c v.opening v.number a r v.seen v.made w.seen w.made

  -- no act was made
  abbrev pub HasNotRun : View P A R → View P A R → Type 0
  HasNotRun v w = Unmade c v.opening v.number v.seen v.made w.seen w.made

  -- the last try of a turn found the word of the part s at 1, and s is a part of the act, as what is seen says
  pub record FoundBusy (v : View P A R) (a : A) (s : ℕ) (w : View P A R) : Type 0 where
    pub part : Touches c (state c v.opening w.seen) v.number a s
    pub last : w.busy ≡ v.busy ++ s ∷ []

  -- a call that waits for nobody: the act was made, and got the reply r; or its part s was busy, and it comes back
  abbrev pub CameTo : View P A R → A → Tried A → R → View P A R → Type 0
  CameTo v a Done r w = HasRun v a r w
  CameTo v a (Busy s b) r w = HasNotRun v w × (b ≡ a) × FoundBusy v a s w

  -- the act is in flight and not committed, and these of its parts are out, the one taken last first
  pub record Ready (v : View P A R) (a : A) (held : List (ℕ × P)) : Type 0 where
    pub flies : v.flight ≡ Some a
    pub pending : v.committed ≡ false
    pub out : v.held ≡ held
    pub legal : Legal c v.opening v.seen
    pub whole : c.whole (state c v.opening v.seen)
    pub own : calls_of v.number v.seen ≡ v.made
    pub named : HoldsState c v
