-- Who: a member asks who is in the hall. This server's own.
use Rattle.std.specs.Prelude.{◌≡◌, ℕ, Bool, true, false, if◌then◌else◌, List, [], ◌∷◌, map, is_none, codes, refl}
use Rattle.std.specs.Cmp.Lexicographic.{slice_cmp}
use Rattle.std.specs.List.{AllPairs}
use Rattle.std.specs.List.Sorted.{IsPermutation}
use Rattle.std.specs.Ordering.{is_lt, nat_cmp}
use Rattle.fics_words.specs.Effect.{Effect}
use Rattle.fics_words.specs.Handle.{key_of}
use Rattle.fics_words.specs.declared.refusal.Refusal.TheVariants.{NotIn}
use Rattle.lobby_state.specs.declared.acts.LobbyReply.{LobbyReply}
use Rattle.lobby_state.specs.declared.acts.LobbyReply.TheVariants.{Lines}
use Rattle.lobby_state.specs.declared.member.Member.{Member}
use Rattle.lobby_state.specs.Lobby.{LobbyState, member_of}

-- the first handle's key comes before the second's, as words do in a dictionary
abbrev pub is_before : List ℕ → List ℕ → Bool
is_before name other = is_lt (slice_cmp nat_cmp (key_of name) (key_of other))

-- no handle stands behind one whose key comes later
abbrev pub AreInOrderOfKeys : List (List ℕ) → Type 0
AreInOrderOfKeys names = AllPairs (λ one another. is_before another one ≡ false) names

-- handles in the order of their keys, with one more in its place
abbrev pub with_name : List ℕ → List (List ℕ) → List (List ℕ)
with_name name [] = name ∷ []
with_name name (other ∷ names) =
    if is_before name other then name ∷ other ∷ names else other ∷ with_name name names

-- such a list with the handles of these members
abbrev pub with_names : List (List ℕ) → List Member → List (List ℕ)
with_names names [] = names
with_names names (member ∷ members) = with_names (with_name member.name names) members

-- the handles of all members, in the order of their keys
abbrev pub who_lines : LobbyState → List (List ℕ)
who_lines lobby = with_names [] lobby.members

-- a Who is refused where the session isn't a member
abbrev pub who_effect : LobbyState → ℕ → Effect LobbyState LobbyReply
who_effect lobby session = record {
  causes = (is_none (member_of lobby session), NotIn) ∷ [];
  memory = true;
  reply = Lines (who_lines lobby);
  after = lobby;
}

-- the lines are the handles of these members, each member's once, as in a dictionary
pub record ListsEach (members : List Member) (lines : List (List ℕ)) : Type 0 where
  pub each : IsPermutation (map (λ member. member.name) members) lines
  pub order : AllPairs (λ one another. is_before one another ≡ true) lines

-- whether letters are capital doesn't count
example_order : with_name (codes "bob") (with_name (codes "Carl") (with_name (codes "Bo") (with_name (codes "ann") [])))
    ≡ codes "ann" ∷ codes "Bo" ∷ codes "bob" ∷ codes "Carl" ∷ []
example_order = refl
