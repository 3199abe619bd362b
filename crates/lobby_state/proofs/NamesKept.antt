-- A change of members that leaves their names and sessions leaves the names in order, and the members named apart.
use Rattle.std.proofs.Common.{◌≡◌, ℕ, zero, suc, true, false, cond, List, [], ◌∷◌, Some, None, map, option_map, refl, sym, ap, subst, ◌∙◌}
use Rattle.std.specs.Prelude.{bytes_eq}
use Rattle.std.specs.List.{find}
use Rattle.fics_words.specs.Handle.{key_of}
use Rattle.tables.specs.Rows.{change_at}
use Rattle.lobby_state.specs.declared.member.Member.{Member}
use Rattle.lobby_state.specs.declared.name_row.NameRow.{NameRow}
use Rattle.lobby_state.specs.Lobby.{has_handle}
use Rattle.lobby_state.specs.Names.{AreNamedApart, row_of, with_row, with_rows}
use Rattle.lobby_state.proofs.NamedApart.{of_none}

-- the names in order follow from the rows of the members
abbrev put_all : List NameRow → List NameRow → List NameRow
put_all rows [] = rows
put_all rows (row ∷ more) = put_all (with_row row rows) more

by_rows : (rows : List NameRow) (members : List Member) → with_rows rows members ≡ put_all rows (map row_of members)
by_rows rows [] = refl
by_rows rows (m ∷ members) = by_rows (with_row (row_of m) rows) members

pub rows_kept : (members others : List Member) → map row_of others ≡ map row_of members
    → with_rows [] others ≡ with_rows [] members
rows_kept members others same = by_rows [] others ∙ ap (put_all []) same ∙ sym (by_rows [] members)

-- and so does that they are named apart
abbrev AreApart : List NameRow → Type 0
AreApart [] = Unit {0}
AreApart (row ∷ rows) =
    (find (λ (other : NameRow). bytes_eq (key_of other.name) (key_of row.name)) rows ≡ None) × AreApart rows

row_found : (key : List ℕ) (members : List Member)
    → find (λ (row : NameRow). bytes_eq (key_of row.name) key) (map row_of members)
    ≡ option_map row_of (find (has_handle key) members)
row_found key [] = refl
row_found key (m ∷ members) =
    elim (bytes_eq (key_of m.name) key)
    as (λ t.
    cond t (Some (row_of m)) (find (λ (row : NameRow). bytes_eq (key_of row.name) key) (map row_of members))
    ≡ option_map row_of (cond t (Some m) (find (has_handle key) members))) [
      | true ↦ refl
      | false ↦ row_found key members
    ]

to_rows : (members : List Member) → AreNamedApart members → AreApart (map row_of members)
to_rows [] apart = tt
to_rows (m ∷ members) apart =
    (row_found (key_of m.name) members ∙ ap (option_map row_of) apart.0, to_rows members apart.1)

from_rows : (members : List Member) → AreApart (map row_of members) → AreNamedApart members
from_rows [] apart = tt
from_rows (m ∷ members) apart = (
  of_none (find (has_handle (key_of m.name)) members) (sym (row_found (key_of m.name) members) ∙ apart.0),
  from_rows members apart.1,
)

pub apart_kept : (members others : List Member) → map row_of others ≡ map row_of members → AreNamedApart members
    → AreNamedApart others
apart_kept members others same apart = from_rows others (subst AreApart (sym same) (to_rows members apart))

-- the rows of members of whom one changed
module _ (f : Member → Member) (keeps : (m : Member) → row_of (f m) ≡ row_of m) where
  pub rows_at : (members : List Member) (i : ℕ) → map row_of (change_at i f members) ≡ map row_of members
  rows_at [] i = refl
  rows_at (m ∷ members) zero = ap (λ row. row ∷ map row_of members) (keeps m)
  rows_at (m ∷ members) (suc i) = ap (λ rows. row_of m ∷ rows) (rows_at members i)
