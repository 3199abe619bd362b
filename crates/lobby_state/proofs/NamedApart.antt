-- Members of whom no two have one handle: they stay so, and a handle leads to its member by the names in order.
use Rattle.std.proofs.Common.{◌≡◌, ◌+◌, ℕ, Bool, true, false, not, cond, ltb, List, [], ◌∷◌, ◌++◌, Option, None, Some, length, map, option_map, position, unwrap_or, eqb, refl, sym, ap, subst, ◌∙◌}
use Rattle.std.specs.Prelude.{◌==◌, ◌&&◌, bytes_eq, if◌then◌else◌}
use Rattle.std.specs.Cmp.Lexicographic.{bytes_decides, nat_list_eq_equiv}
use Rattle.std.specs.List.{AllByRecursion, IsDistinct, filter, find, position_or_len}
use Rattle.std.proofs.lemmas.Bool.{eq-eqb}
use Rattle.std.proofs.lemmas.Option.{none-some}
use Rattle.fics_words.specs.Handle.{key_of}
use Rattle.lobby_state.specs.declared.member.Member.{Member}
use Rattle.lobby_state.specs.declared.name_row.NameRow.{NameRow}
use Rattle.lobby_state.specs.Lobby.{has_handle, is_named}
use Rattle.lobby_state.specs.Names.{AreNamedApart, comes_before, row_of, with_row, with_rows}
use Rattle.lobby_state.proofs.Lent.{at_place}
use Rattle.tables.proofs.Placed.{find-found, position-within}
use Rattle.lobby_shelf.proofs.Requests.{turned}

abbrev pub key : Member → List ℕ
key member = key_of member.name

-- where nothing is found, the first fails, and nothing is found among the others
fails_first : {X : Type 0} (p : X → Bool) (x : X) (xs : List X) → find p (x ∷ xs) ≡ None
    → (p x ≡ false) × (find p xs ≡ None)
fails_first p x xs none =
    elim (p x) as (λ t. cond t (Some x) (find p xs) ≡ None → (t ≡ false) × (find p xs ≡ None)) [
      | true ↦ λ h. absurd (none-some _ (sym h))
      | false ↦ λ h. (refl, h)
    ] none

none-push : {X : Type 0} (p : X → Bool) (xs : List X) (x : X) → find p xs ≡ None → p x ≡ false
    → find p (xs ++ x ∷ []) ≡ None
none-push p [] x none fails = ap (λ t. cond t (Some x) None) fails
none-push p (y ∷ ys) x none fails =
    let first = fails_first p y ys none in
    ap (λ t. cond t (Some y) (find p (ys ++ x ∷ []))) first.0 ∙ none-push p ys x first.1 fails

none-filter : {X : Type 0} (p q : X → Bool) (xs : List X) → find p xs ≡ None → find p (filter q xs) ≡ None
none-filter p q [] none = refl
none-filter p q (x ∷ xs) none =
    let first = fails_first p x xs none in
    elim (q x) as (λ t. find p (cond t (x ∷ filter q xs) (filter q xs)) ≡ None) [
      | true ↦ ap (λ t. cond t (Some x) (find p (filter q xs))) first.0 ∙ none-filter p q xs first.1
      | false ↦ none-filter p q xs first.1
    ]

pub apart-push : (members : List Member) (member : Member) → AreNamedApart members
    → find (has_handle (key member)) members ≡ None → AreNamedApart (members ++ member ∷ [])
apart-push [] member apart none = (refl, tt)
apart-push (m ∷ members) member apart none =
    let first = fails_first (has_handle (key member)) m members none in (
      none-push (has_handle (key m)) members member apart.0 (nat_list_eq_equiv.symm (key member) (key m) ∙ first.0),
      apart-push members member apart.1 first.1,
    )

pub apart-filter : (q : Member → Bool) (members : List Member) → AreNamedApart members
    → AreNamedApart (filter q members)
apart-filter q [] apart = tt
apart-filter q (m ∷ members) apart =
    elim (q m) as (λ t. AreNamedApart (cond t (m ∷ filter q members) (filter q members))) [
      | true ↦ (none-filter (has_handle (key m)) q members apart.0, apart-filter q members apart.1)
      | false ↦ apart-filter q members apart.1
    ]

-- a row that fails is passed over, wherever it stands
skips : (q : NameRow → Bool) (row : NameRow) (rows : List NameRow) → q row ≡ false
    → find q (with_row row rows) ≡ find q rows
skips q row [] fails = ap (λ t. cond t (Some row) None) fails
skips q row (other ∷ rows) fails =
    elim (comes_before row other)
    as (λ b. find q (if b then row ∷ other ∷ rows else other ∷ with_row row rows) ≡ find q (other ∷ rows)) [
      | true ↦ ap (λ t. cond t (Some row) (find q (other ∷ rows))) fails
      | false ↦ ap (cond (q other) (Some other)) (skips q row rows fails)
    ]

-- and one that passes alone is found, wherever it stands
finds : (q : NameRow → Bool) (row : NameRow) (rows : List NameRow) → q row ≡ true → find q rows ≡ None
    → find q (with_row row rows) ≡ Some row
finds q row [] passes none = ap (λ t. cond t (Some row) None) passes
finds q row (other ∷ rows) passes none =
    elim (comes_before row other)
    as (λ b. find q (if b then row ∷ other ∷ rows else other ∷ with_row row rows) ≡ Some row) [
      | true ↦ ap (λ t. cond t (Some row) (find q (other ∷ rows))) passes
      | false ↦
          let first = fails_first q other rows none in
          ap (λ t. cond t (Some other) (find q (with_row row rows))) first.0 ∙ finds q row rows passes first.1
    ]

skips_all : (q : NameRow → Bool) (rows : List NameRow) (members : List Member)
    → find (λ member. q (row_of member)) members ≡ None → find q (with_rows rows members) ≡ find q rows
skips_all q rows [] none = refl
skips_all q rows (m ∷ members) none =
    let first = fails_first (λ member. q (row_of member)) m members none in
    skips_all q (with_row (row_of m) rows) members first.1 ∙ skips q (row_of m) rows first.0

-- the row that has the key is that of the member that has it
pub row_with_key : (k : List ℕ) (rows : List NameRow) (members : List Member) → AreNamedApart members
    → find (λ row. bytes_eq (key_of row.name) k) rows ≡ None
    → find (λ row. bytes_eq (key_of row.name) k) (with_rows rows members)
    ≡ option_map row_of (find (has_handle k) members)
row_with_key k rows [] apart none = none
row_with_key k rows (m ∷ members) apart none =
    let q = λ (row : NameRow). bytes_eq (key_of row.name) k in
    elim (bytes_eq (key_of m.name) k)
    as (λ t.
    bytes_eq (key_of m.name) k ≡ t
    → find q (with_rows (with_row (row_of m) rows) members)
    ≡ option_map row_of (cond t (Some m) (find (has_handle k) members))) [
      | true ↦ λ passes.
          let same : key_of m.name ≡ k = (bytes_decides (key_of m.name) k).0 passes in
          skips_all q (with_row (row_of m) rows) members (subst (λ k. find (has_handle k) members ≡ None) same apart.0)
          ∙ finds q (row_of m) rows passes none
      | false ↦ λ fails.
          row_with_key k (with_row (row_of m) rows) members apart.1 (skips q (row_of m) rows fails ∙ none)
    ] refl

-- a member that is found is the one of its session
apart_from : (s : ℕ) (p : Member → Bool) (members : List Member) (member : Member)
    → AllByRecursion (λ n. (s == n) ≡ false) (map (λ (m : Member). m.session) members)
    → find p members ≡ Some member → (s == member.session) ≡ false
apart_from s p [] member all found = absurd (none-some _ found)
apart_from s p (m ∷ members) member all found =
    elim (p m) as (λ t. cond t (Some m) (find p members) ≡ Some member → (s == member.session) ≡ false) [
      | true ↦ λ h.
          let same : m ≡ member = ap (λ o. unwrap_or o m) h in ap (λ (m : Member). s == m.session) (sym same) ∙ all.0
      | false ↦ λ h. apart_from s p members member all.1 h
    ] found

pub own_session : (p : Member → Bool) (members : List Member) (member : Member)
    → IsDistinct eqb (map (λ (m : Member). m.session) members) → find p members ≡ Some member
    → find (λ (m : Member). member.session == m.session) members ≡ Some member
unfolding IsDistinct
own_session p [] member apart found = absurd (none-some _ found)
own_session p (m ∷ members) member apart found =
    elim (p m)
    as (λ t.
    cond t (Some m) (find p members) ≡ Some member
    → find (λ (m : Member). member.session == m.session) (m ∷ members) ≡ Some member) [
      | true ↦ λ h.
          let same : m ≡ member = ap (λ o. unwrap_or o m) h in
          ap (λ t. cond t (Some m) (find (λ (m : Member). member.session == m.session) members))
          (eq-eqb member.session m.session (ap (λ (m : Member). m.session) (sym same)))
          ∙ ap (λ m. Some m) same
      | false ↦ λ h.
          ap (λ t. cond t (Some m) (find (λ (m : Member). member.session == m.session) members))
          (turned member.session m.session ∙ apart_from m.session p members member apart.0 h)
          ∙ own_session p members member apart.1 h
    ] found

-- what a look-up of a row says of the look-up of a member
pub of_none : (found : Option Member) → option_map row_of found ≡ None → found ≡ None
of_none None e = refl
of_none (Some m) e = absurd (none-some _ (sym e))

pub of_some : (found : Option Member) (row : NameRow) → Some row ≡ option_map row_of found
    → (m : Member) × (found ≡ Some m) × (m.session ≡ row.session)
of_some None row e = absurd (none-some _ (sym e))
of_some (Some m) row e = (m, refl, ap (λ (r : NameRow). r.session) (sym (ap (λ o. unwrap_or o row) e)))

pub either_way : (k : List ℕ) (rows : List NameRow)
    → find (λ row. bytes_eq k (key_of row.name)) rows ≡ find (λ row. bytes_eq (key_of row.name) k) rows
either_way k [] = refl
either_way k (row ∷ rows) = λ j. cond (nat_list_eq_equiv.symm k (key_of row.name) j) (Some row) (either_way k rows j)

pub looked : (k : List ℕ) (found : Option NameRow) (names : List NameRow) (members : List Member)
    → found ≡ find (λ row. bytes_eq k (key_of row.name)) names → names ≡ with_rows [] members
    → AreNamedApart members → found ≡ option_map row_of (find (has_handle k) members)
looked k found names members is made apart =
    is ∙ either_way k names ∙ ap (find (λ (row : NameRow). bytes_eq (key_of row.name) k)) made
    ∙ row_with_key k [] members apart refl

-- whom a handle names: nobody where nobody has it, its holder where it stays, and nobody where its holder is going
pub none_named : (k : List ℕ) (members : List Member) → find (has_handle k) members ≡ None
    → find (is_named k) members ≡ None
none_named k [] none = refl
none_named k (m ∷ members) none =
    let first = fails_first (has_handle k) m members none in
    ap (λ (t : Bool). cond (t && not m.going) (Some m) (find (is_named k) members)) first.0
    ∙ none_named k members first.1

pub named_here : (k : List ℕ) (members : List Member) (member : Member) → find (has_handle k) members ≡ Some member
    → member.going ≡ false
    → find (is_named k) members ≡ Some member
named_here k [] member found stays = absurd (none-some _ found)
named_here k (m ∷ members) member found stays =
    elim (bytes_eq (key_of m.name) k)
    as (λ t.
    cond t (Some m) (find (has_handle k) members) ≡ Some member
    → cond (t && not m.going) (Some m) (find (is_named k) members) ≡ Some member) [
      | true ↦ λ h.
          let same : m ≡ member = ap (λ o. unwrap_or o m) h in
          ap (λ (b : Bool). cond (true && not b) (Some m) (find (is_named k) members))
          (ap (λ (m : Member). m.going) same ∙ stays)
          ∙ h
      | false ↦ λ h. named_here k members member h stays
    ] found

pub gone_unnamed : (k : List ℕ) (members : List Member) (member : Member) → AreNamedApart members
    → find (has_handle k) members ≡ Some member → member.going ≡ true
    → find (is_named k) members ≡ None
gone_unnamed k [] member apart found goes = absurd (none-some _ found)
gone_unnamed k (m ∷ members) member apart found goes =
    elim (bytes_eq (key_of m.name) k)
    as (λ t.
    bytes_eq (key_of m.name) k ≡ t → cond t (Some m) (find (has_handle k) members) ≡ Some member
    → cond (t && not m.going) (Some m) (find (is_named k) members) ≡ None) [
      | true ↦ λ passes h.
          let same : m ≡ member = ap (λ o. unwrap_or o m) h in
          let here : key_of m.name ≡ k = (bytes_decides (key_of m.name) k).0 passes in
          ap (λ (b : Bool). cond (true && not b) (Some m) (find (is_named k) members))
          (ap (λ (m : Member). m.going) same ∙ goes)
          ∙ none_named k members (subst (λ k. find (has_handle k) members ≡ None) here apart.0)
      | false ↦ λ _ h. gone_unnamed k members member apart.1 h goes
    ] refl found

-- a member that is found stands where its session does
own_place_or_len : (p : Member → Bool) (members : List Member) (member : Member)
    → IsDistinct eqb (map (λ (m : Member). m.session) members) → find p members ≡ Some member
    → position_or_len (λ (m : Member). member.session == m.session) members ≡ position_or_len p members
unfolding IsDistinct
own_place_or_len p [] member apart found = absurd (none-some _ found)
own_place_or_len p (m ∷ members) member apart found =
    let test = λ (x : Member). member.session == x.session in
    elim (p m)
    as (λ t.
    cond t (Some m) (find p members) ≡ Some member
    → position_or_len test (m ∷ members) ≡ cond (not t) (1 + position_or_len p members) 0) [
      | true ↦ λ h.
          let same : m ≡ member = ap (λ o. unwrap_or o m) h in
          ap (λ (t : Bool). cond (not t) (1 + position_or_len test members) 0)
          (eq-eqb member.session m.session (ap (λ (m : Member). m.session) (sym same)))
      | false ↦ λ h.
          ap (λ (t : Bool). cond (not t) (1 + position_or_len test members) 0)
          (turned member.session m.session ∙ apart_from m.session p members member apart.0 h)
          ∙ ap (λ (n : ℕ). 1 + n) (own_place_or_len p members member apart.1 h)
    ] found

pub own_place : (p : Member → Bool) (members : List Member) (member : Member)
    → IsDistinct eqb (map (λ (m : Member). m.session) members) → find p members ≡ Some member
    → position (λ (m : Member). member.session == m.session) members ≡ position p members
own_place p members member apart found =
    ap (λ (n : ℕ). cond (ltb n (length members)) (Some n) None) (own_place_or_len p members member apart found)

-- and where nobody is found, nobody stands
pub no_place : {X : Type 0} (p : X → Bool) (xs : List X) → find p xs ≡ None → position p xs ≡ None
no_place p xs none = elim (position p xs) as (λ o. position p xs ≡ o → o ≡ None) [
  | None ↦ λ _. refl
  | Some i ↦ λ here.
      absurd (none-some _ (sym none ∙ find-found p xs i here ∙ (at_place xs i (position-within p xs i here)).1))
] refl
