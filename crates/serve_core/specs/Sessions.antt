-- What a session of the hall did for the link that came under its number.
use Rattle.std.specs.Prelude.{◌≡◌, ℕ, ◌-◌, Bool, true, Contains, Some, slice_get, IfSome}
use Rattle.std.specs.declared.option.Option.{Option}
use Rattle.edge_traits.specs.Link.{Handed, IsFresh, Tale}
use Rattle.edge_traits.specs.Door.{DoorTale}
use Rattle.one_server.specs.Running.{Log}
use Rattle.link_core.specs.declared.link_end.LinkEnd.{LinkEnd}
use Rattle.link_core.specs.declared.link_end.LinkEnd.TheVariants as link_end
use Rattle.link_core.specs.ServedInPart.{WasServed}

-- the link that came as the number-th told this
abbrev pub CameAs : ℕ → Option Tale → DoorTale → Type 0
CameAs number link tale = slice_get tale.came (number - 1) ≡ Some link

-- the link of this number came back, handed back like this
abbrev pub CameBack : ℕ → Handed → DoorTale → Type 0
CameBack number link tale = Contains tale.back (number, link)

-- these entries of the session of a number served the link that came under this number, at moments that the clock
-- shows, and it was handed back. The link came fresh and without a fault. It was served in part only where memory may
-- have run short
pub record HadSession (shows : ℕ → Bool) (lack : Type 0) (door : Option DoorTale) (number : ℕ) (calls : Log)
    : Type 0 where
  -- there is
  pub end : LinkEnd
  pub link : Option Tale
  pub returned : Handed
  -- such that
  pub fresh : IfSome link IsFresh
  pub served : WasServed shows true number end calls (record { tale = link; faults = 0 }) returned
  pub short : end ≡ link_end.Memory → lack
  pub came : IfSome door (CameAs number link)
  pub back : IfSome door (CameBack number returned)
