-- The names in order, read off the rows that stand beside the members.
use Rattle.std.proofs.Common.{◌≡◌, Bool, true, false, List, ℕ, [], ◌∷◌, map, refl, ap, ◌∙◌}
use Rattle.std.specs.Prelude.{if◌then◌else◌}
use Rattle.std.specs.List.{filter}
use Rattle.lobby_state.specs.declared.member.Member.{Member}
use Rattle.lobby_state.specs.declared.name_row.NameRow.{NameRow}
use Rattle.lobby_state.specs.Names.{row_of, with_row, with_rows}
use Rattle.lobby_state.specs.Who.{is_before, with_name, with_names}
use Rattle.lobby_state.proofs.NamesInOrder.{filter-with_rows, none_in_order}

abbrev pub name_of : NameRow → List ℕ
name_of row = row.name

one_name : (row : NameRow) (rows : List NameRow)
    → map name_of (with_row row rows) ≡ with_name row.name (map name_of rows)
one_name row [] = refl
one_name row (other ∷ rows) =
    elim (is_before row.name other.name)
    as (λ (b : Bool). map name_of (if b then row ∷ other ∷ rows else other ∷ with_row row rows)
    ≡ (if b then row.name ∷ other.name ∷ map name_of rows else other.name ∷ with_name row.name (map name_of rows))) [
      | true ↦ refl
      | false ↦ ap (λ l. other.name ∷ l) (one_name row rows)
    ]

all_names : (rows : List NameRow) (members : List Member)
    → map name_of (with_rows rows members) ≡ with_names (map name_of rows) members
all_names rows [] = refl
all_names rows (m ∷ members) =
    all_names (with_row (row_of m) rows) members
    ∙ ap (λ (names : List (List ℕ)). with_names names members) (one_name (row_of m) rows)

pub names_in_order : (members : List Member) → map name_of (with_rows [] members) ≡ with_names [] members
names_in_order members = all_names [] members

-- and those of the members that pass a test by their rows
pub names_that : (p : NameRow → Bool) (members : List Member)
    → map name_of (filter p (with_rows [] members)) ≡ with_names [] (filter (λ (m : Member). p (row_of m)) members)
names_that p members =
    ap (map name_of) (filter-with_rows p [] members none_in_order)
    ∙ names_in_order (filter (λ (m : Member). p (row_of m)) members)
