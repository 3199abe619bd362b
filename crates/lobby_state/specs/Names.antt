-- The names of the members, in the order of their keys, beside the members. This server's own.
use Rattle.std.specs.Prelude.{◌≡◌, Bool, false, List, [], ◌∷◌, if◌then◌else◌, None}
use Rattle.std.specs.List.{AllPairs, find}
use Rattle.fics_words.specs.Handle.{key_of}
use Rattle.lobby_state.specs.declared.member.Member.{Member}
use Rattle.lobby_state.specs.declared.name_row.NameRow.{NameRow}
use Rattle.lobby_state.specs.Lobby.{has_handle}
use Rattle.lobby_state.specs.Who.{is_before}

-- the first row's name comes before the second's
abbrev pub comes_before : NameRow → NameRow → Bool
comes_before row other = is_before row.name other.name

-- no row stands behind one whose name comes later
abbrev pub AreRowsInOrder : List NameRow → Type 0
AreRowsInOrder rows = AllPairs (λ one another. comes_before another one ≡ false) rows

-- rows in the order of their names, with one more in its place
abbrev pub with_row : NameRow → List NameRow → List NameRow
with_row row [] = row ∷ []
with_row row (other ∷ rows) = if comes_before row other then row ∷ other ∷ rows else other ∷ with_row row rows

-- the row of a member
abbrev pub row_of : Member → NameRow
row_of member = record { name = member.name; session = member.session }

-- such rows, with those of these members
abbrev pub with_rows : List NameRow → List Member → List NameRow
with_rows rows [] = rows
with_rows rows (member ∷ members) = with_rows (with_row (row_of member) rows) members

-- no two members have one handle
abbrev pub AreNamedApart : List Member → Type 0
AreNamedApart [] = Unit {0}
AreNamedApart (member ∷ members) = (find (has_handle (key_of member.name)) members ≡ None) × AreNamedApart members
