-- What the rules of channels and of name lists mean to players.
use Rattle.std.specs.Prelude.{◌≡◌, ◌≢◌, ℕ, ◌==◌, true, false, ◌&&◌, bytes_eq, List}
use Rattle.channel_feed.specs.declared.channels.Membership.{Membership}
use Rattle.channel_feed.specs.Channels.{is_in, joining, without_one, without_player}
use Rattle.channel_feed.specs.NameLists.{adding, is_listed, without_name}

-- a player who joins a channel is in it, and in no other channel than before; nobody else is moved
pub record Joins (rows : List Membership) (who channel : ℕ) : Type 0 where
  pub joined : is_in (joining rows who channel).after who channel ≡ true
  pub others : (other number : ℕ) → ((who == other) && (channel == number)) ≡ false
      → is_in (joining rows who channel).after other number ≡ is_in rows other number

-- a player who leaves a channel isn't in it; nobody else is moved, nor this player in another channel
pub record Leaves (rows : List Membership) (who channel : ℕ) : Type 0 where
  pub left : is_in (without_one who channel rows) who channel ≡ false
  pub others : (other number : ℕ) → ((other == who) && (number == channel)) ≡ false
      → is_in (without_one who channel rows) other number ≡ is_in rows other number

-- a player who leaves all channels is in none; nobody else is moved
pub record LeavesAll (rows : List Membership) (who : ℕ) : Type 0 where
  pub left : (channel : ℕ) → is_in (without_player who rows) who channel ≡ false
  pub others : (other channel : ℕ) → other ≢ who
      → is_in (without_player who rows) other channel ≡ is_in rows other channel

-- a name that is added is on the list, and one that is removed isn't; every other is as before
pub record NamesComeAndGo (names : List (List ℕ)) (key : List ℕ) : Type 0 where
  pub added : is_listed (adding names key).after key ≡ true
  pub added_alone : (other : List ℕ) → bytes_eq key other ≡ false
      → is_listed (adding names key).after other ≡ is_listed names other
  pub removed : is_listed (without_name key names) key ≡ false
  pub removed_alone : (other : List ℕ) → other ≢ key → is_listed (without_name key names) other ≡ is_listed names other
