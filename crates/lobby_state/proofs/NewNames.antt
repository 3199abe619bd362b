-- A new member: that no row has its name where no member has its handle, and that it is taken back.
use Rattle.std.proofs.Common.{◌≡◌, ℕ, Bool, true, false, not, cond, List, [], ◌∷◌, ◌++◌, None, Some, refl, sym, ap, ◌∙◌}
use Rattle.std.specs.Prelude.{◌==◌, bytes_eq, if◌then◌else◌}
use Rattle.std.specs.Cmp.Lexicographic.{nat_list_eq_equiv}
use Rattle.std.specs.List.{filter, find}
use Rattle.std.proofs.lemmas.Bool.{eq-eqb}
use Rattle.std.proofs.lemmas.Option.{none-some}
use Rattle.fics_words.specs.Handle.{key_of}
use Rattle.lobby_state.specs.declared.member.Member.{Member}
use Rattle.lobby_state.specs.declared.name_row.NameRow.{NameRow}
use Rattle.lobby_state.specs.Lobby.{has_handle, is_session}
use Rattle.lobby_state.specs.Names.{comes_before, row_of, with_row, with_rows}
use Rattle.lobby_shelf.proofs.Requests.{turned}

-- where two tests agree, they find the same
find-same : {X : Type 0} (p q : X → Bool) → ((x : X) → p x ≡ q x) → (xs : List X) → find p xs ≡ find q xs
find-same p q same [] = refl
find-same p q same (x ∷ xs) = λ j. cond (same x j) (Some x) (find-same p q same xs j)

pub by_session : (session : ℕ) (members : List Member)
    → find (λ member. session == member.session) members ≡ find (is_session session) members
by_session session members = find-same _ _ (λ member. turned session member.session) members

pub by_handle : (key : List ℕ) (members : List Member)
    → find (λ member. bytes_eq key (key_of member.name)) members ≡ find (has_handle key) members
by_handle key members = find-same _ _ (λ member. nat_list_eq_equiv.symm key (key_of member.name)) members

filter-none : {X : Type 0} (p : X → Bool) (xs : List X) (x : X) → find p xs ≡ None → p x ≡ true
    → filter (λ y. not (p y)) (xs ++ x ∷ []) ≡ xs
filter-none p [] x none there = ap (λ t. cond (not t) (x ∷ []) []) there
filter-none p (y ∷ ys) x none there =
    elim (p y)
    as (λ t.
    cond t (Some y) (find p ys) ≡ None
    → cond (not t) (y ∷ filter (λ y. not (p y)) (ys ++ x ∷ [])) (filter (λ y. not (p y)) (ys ++ x ∷ [])) ≡ y ∷ ys) [
      | true ↦ λ h. absurd (none-some _ (sym h))
      | false ↦ λ h. ap (λ l. y ∷ l) (filter-none p ys x h there)
    ] none

-- a new member that is taken back
pub taken_back : (members : List Member) (member : Member) → find (is_session member.session) members ≡ None
    → filter (λ other. not (member.session == other.session)) (members ++ member ∷ []) ≡ members
taken_back members member none =
    filter-none (λ other. member.session == other.session) members member (by_session member.session members ∙ none)
    (eq-eqb member.session member.session refl)

none-with_row : (q : NameRow → Bool) (row : NameRow) (rows : List NameRow) → q row ≡ false → find q rows ≡ None
    → find q (with_row row rows) ≡ None
none-with_row q row [] fails none = ap (λ t. cond t (Some row) None) fails
none-with_row q row (other ∷ rows) fails none =
    elim (comes_before row other)
    as (λ b. find q (if b then row ∷ other ∷ rows else other ∷ with_row row rows) ≡ None) [
      | true ↦ ap (λ t. cond t (Some row) (find q (other ∷ rows))) fails ∙ none
      | false ↦
          elim (q other)
          as (λ t. cond t (Some other) (find q rows) ≡ None → cond t (Some other) (find q (with_row row rows)) ≡ None) [
            | true ↦ λ h. h
            | false ↦ λ h. none-with_row q row rows fails h
          ] none
    ]

-- a row that no member has
pub none-with_rows : (q : NameRow → Bool) (rows : List NameRow) (members : List Member) → find q rows ≡ None
    → find (λ member. q (row_of member)) members ≡ None
    → find q (with_rows rows members) ≡ None
none-with_rows q rows [] none nobody = none
none-with_rows q rows (member ∷ members) none nobody =
    elim (q (row_of member))
    as (λ t.
    q (row_of member) ≡ t → cond t (Some member) (find (λ member. q (row_of member)) members) ≡ None
    → find q (with_rows (with_row (row_of member) rows) members) ≡ None) [
      | true ↦ λ _ h. absurd (none-some _ (sym h))
      | false ↦ λ fails h.
          none-with_rows q (with_row (row_of member) rows) members (none-with_row q (row_of member) rows fails none) h
    ] refl nobody
