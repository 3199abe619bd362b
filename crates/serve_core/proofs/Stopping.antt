-- Why no further link is taken: the door's last answer, once it gave it and workers were settled with.
use Rattle.std.proofs.Common.{◌≡◌, ℕ, ◌<◌, ◌≤◌, ◌^◌, sym, ap, subst, ◌∙◌, arith}
use Rattle.std.specs.Prelude.{IfSome, MatchOption}
use Rattle.std.specs.declared.option.Option.{Option}
use Rattle.std.specs.declared.option.Option.TheVariants.{None, Some}
use Rattle.edge_traits.specs.Link.{Tale}
use Rattle.edge_traits.specs.Door.{DoorTale, DoorGives}
use Rattle.edge_traits.specs.WhereTold.{WhereTold}
use Rattle.edge_traits.specs.declared.doorway.Came.TheVariants.{Link, Closed, Failed}
use Rattle.serve_turn.specs.declared.end.DoorEnd.{DoorEnd}
use Rattle.serve_turn.specs.declared.end.DoorEnd.TheVariants as door_end
use Rattle.serve_core.specs.Keeping.{KeepsLeft, Stopped}
use Rattle.serve_turn.specs.Stopping.{StopsAt}
use Rattle.serve_core.proofs.Telling.{told_then}

-- what holds of the tale behind a call
told_since : (one two : Option DoorTale) (R : DoorTale → DoorTale → Type 0) (P : DoorTale → Type 0)
    → ((a b : DoorTale) → R a b → P b) → WhereTold one two R → IfSome two P
told_since None None R P f p = tt
told_since None (Some b) R P f p = absurd p
told_since (Some a) None R P f p = absurd p
told_since (Some a) (Some b) R P f p = f a b p

pub stops_closed : {L : Type 0} (tells : L → Option Tale) (one two : Option DoorTale)
    → WhereTold one two (DoorGives tells Closed) → IfSome two (StopsAt door_end.Closed)
stops_closed tells one two p =
    told_since one two (DoorGives tells Closed) (StopsAt door_end.Closed)
    (λ a b e. (ap (λ (t : DoorTale). t.last) e.1, ap (λ (t : DoorTale). t.left) e.1 ∙ e.0)) p

pub stops_failed : {L : Type 0} (tells : L → Option Tale) (one two : Option DoorTale)
    → WhereTold one two (DoorGives tells Failed) → IfSome two (StopsAt door_end.Failed)
stops_failed tells one two p =
    told_since one two (DoorGives tells Failed) (StopsAt door_end.Failed) (λ a b e. ap (λ (t : DoorTale). t.last) e) p

stays_last : (why : DoorEnd) (a b : DoorTale) → KeepsLeft a b → StopsAt why a → StopsAt why b
stays_last door_end.Closed a b e p = (e.2 ∙ p.0, e.0 ∙ p.1)
stays_last door_end.Failed a b e p = e.2 ∙ p
stays_last door_end.Spent a b e p = e.2 ∙ p

-- links that come back leave it as it was
pub stops_still : (why : DoorEnd) (one two : Option DoorTale) → WhereTold one two KeepsLeft → IfSome one (StopsAt why)
    → IfSome two (StopsAt why)
stops_still why one two p s = told_then one two KeepsLeft (StopsAt why) (StopsAt why) (stays_last why) p s

-- the last of all links came, or another
pub stops_spent : {L : Type 0} (tells : L → Option Tale) (link : L) (one two three : Option DoorTale)
    (before now count : ℕ) (end : Option DoorEnd)
    → WhereTold one two (DoorGives tells (Link link)) → WhereTold two three KeepsLeft
    → MatchOption end (count < 2 ^ 31) (λ why. (why ≡ door_end.Spent) × (count ≡ 2 ^ 31))
    → MatchOption end (count < 2 ^ 31) (λ why. Stopped why count three before now)
stops_spent tells link one two three before now count None p q is = is
stops_spent tells link one two three before now count (Some why) p q is =
    let here : IfSome two (StopsAt door_end.Spent) =
    told_since one two (DoorGives tells (Link link)) (StopsAt door_end.Spent)
    (λ a b e. ap (λ (t : DoorTale). t.last) e.1)
    p in
    subst (λ (w : DoorEnd). Stopped w count three before now) (sym is.0)
    ((stops_still door_end.Spent two three q here, is.1), λ bad. cc)

-- and so do the workers that are waited for
pub stopped_on : (why why' : DoorEnd) (count splits : ℕ) (one two : Option DoorTale) (first before now after : ℕ)
    → Stopped why count one before now → why' ≡ why → splits ≡ count → WhereTold one two KeepsLeft → first ≤ before
    → after ≡ now
    → Stopped why' splits two first after
stopped_on why why' count splits one two first before now after p is many left low same =
    subst (λ (w : DoorEnd). Stopped w splits two first after) (sym is)
    (subst (λ n. Stopped why n two first after) (sym many)
    ((stops_still why one two left p.0.0, p.0.1), λ failed. let rose = p.1 failed in omega (arith, rose, low, same)))

-- where one is told
pub some_stops : (end : Option DoorEnd) (why : DoorEnd) (count : ℕ) (door : Option DoorTale) (before now : ℕ)
    → end ≡ Some why → MatchOption end (count < 2 ^ 31) (λ e. Stopped e count door before now)
    → Stopped why count door before now
some_stops end why count door before now is p =
    subst (λ (e : Option DoorEnd). MatchOption e (count < 2 ^ 31) (λ w. Stopped w count door before now)) is p
