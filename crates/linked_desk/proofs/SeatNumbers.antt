-- The number of a seat is that of one of the seats.
use Rattle.std.proofs.Common.{◌≡◌, ℕ, ◌<◌, Bool, true, false, cond, List, length, Some, None, IfSome, refl}
use Rattle.std.specs.List.{position_or_len}
use Rattle.std.proofs.lemmas.Bool.{ltb-true}
use Rattle.fics_words.specs.declared.player.Player.{Player}
use Rattle.fics_words.specs.Seats.{plays_as, seat_number}

below : (b : Bool) (k n : ℕ) → (b ≡ true → k < n) → IfSome (cond b (Some k) None) (λ i. i < n)
below true k n h = h refl
below false k n h = tt

pub seat_number-below : (session : ℕ) (players : List Player)
    → IfSome (seat_number session players) (λ i. i < length players)
seat_number-below session players =
    below _ (position_or_len (plays_as session) players) (length players) (λ h. ltb-true _ _ h)
