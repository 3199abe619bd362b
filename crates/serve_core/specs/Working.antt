-- What a worker owes the door's thread, and when it has paid.
use Rattle.std.specs.Prelude.{◌≡◌, ℕ, Bool, true, []}
use Rattle.std.specs.declared.option.Option.{Option}
use Rattle.edge_traits.specs.Link.{Handed, Tale}
use Rattle.hall_core.specs.Pass.{PassState}
use Rattle.link_core.specs.declared.link_end.LinkEnd.{LinkEnd}
use Rattle.link_core.specs.ServedInPart.{WasServed}

-- what a worker was started with: its pass, what its link told then, and the clock
pub record Due (C : Type 0) : Type 0 where
  pub pass : PassState
  pub link : Option Tale
  pub clock : C

-- it gave up a pass of the same hall and number, into which none was joined, and the link, which had counted no fault,
-- as the entries of that pass have served it, at moments that the clock shows
pub record IsPaid {C : Type 0} (shows : C → ℕ → Bool) (due : Due C) (end : LinkEnd) (pass : PassState)
    (link : Handed) : Type 0 where
  pub home : pass.home ≡ due.pass.home
  pub number : pass.number ≡ due.pass.number
  pub none_joined : pass.joined ≡ []
  pub served : WasServed (shows due.clock) true due.pass.number end pass.made
      (record { tale = due.link; faults = 0 }) link
