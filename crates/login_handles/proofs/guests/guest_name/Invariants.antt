use Rattle.std.proofs.Common.{◌≡◌, ◌-◌, ◌<◌}
use Rattle.login_handles.specs.Guests.{guest_of}
use Rattle.login_handles.proofs.GuestNames.{AllTaken}
use Rattle.login_handles.proofs.guests.guest_name.Given as goal

abbrev pub invariant-loop-name : goal.invariant-loop-name
invariant-loop-name g l =
    (l.name ≡ guest_of l.number) × AllTaken (g.N.NamesInUse.keys l.names) l.number × (l.number < 456976)

abbrev pub decreases-loop-name : goal.decreases-loop-name
decreases-loop-name g l = 456976 - l.number
