-- Channels: who is in which, as a list in the order of joining. This server's own.
use Rattle.std.specs.Prelude.{ℕ, ◌==◌, Bool, true, false, not, ◌&&◌, nat_le, List, [], ◌∷◌, ◌++◌, count_by}
use Rattle.std.specs.List.{filter, list_any}
use Rattle.fics_words.specs.Effect.{Effect}
use Rattle.fics_words.specs.declared.refusal.Refusal.TheVariants.{OnList, ListFull, NotInChannel}
use Rattle.channel_feed.specs.declared.channels.Membership.{Membership}

-- the row says that this player is in this channel
abbrev pub is_row : ℕ → ℕ → Membership → Bool
is_row who channel row = (row.who == who) && (row.channel == channel)

-- the two rows say the same
abbrev pub is_same : Membership → Membership → Bool
is_same row other = (row.who == other.who) && (row.channel == other.channel)

-- the player is in the channel
abbrev pub is_in : List Membership → ℕ → ℕ → Bool
is_in rows who channel = list_any (is_row who channel) rows

-- how many channels the player is in
abbrev pub channels_of : List Membership → ℕ → ℕ
channels_of rows who = count_by (λ row. row.who == who) rows

-- joining is refused where the player is in the channel, and where it is in 20; else the player stands last
abbrev pub joining : List Membership → ℕ → ℕ → Effect (List Membership) (Unit {0})
joining rows who channel = record {
  causes = (is_in rows who channel, OnList) ∷ (nat_le 20 (channels_of rows who), ListFull) ∷ [];
  memory = true;
  reply = tt;
  after = rows ++ record { who = who; channel = channel } ∷ [];
}

-- who is left where a player leaves one channel
abbrev pub without_one : ℕ → ℕ → List Membership → List Membership
without_one who channel rows = filter (λ row. not (is_row who channel row)) rows

-- leaving is refused where the player isn't in the channel
abbrev pub leaving_channel : List Membership → ℕ → ℕ → Effect (List Membership) (Unit {0})
leaving_channel rows who channel = record {
  causes = (not (is_in rows who channel), NotInChannel) ∷ [];
  memory = false;
  reply = tt;
  after = without_one who channel rows;
}

-- who is left where a player leaves all channels
abbrev pub without_player : ℕ → List Membership → List Membership
without_player who rows = filter (λ row. not (row.who == who)) rows
