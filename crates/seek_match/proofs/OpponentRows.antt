-- With whom players have challenges, after each change of the rows that say so.
use Rattle.std.proofs.Common.{◌≡◌, ◌<◌, ℕ, zero, suc, Bool, true, false, not, cond, List, [], ◌∷◌, ◌++◌, Option, None, Some, option_map, position, slice_get, length, true≢false, refl, sym, ap, ◌∙◌, arith}
use Rattle.std.specs.Prelude.{◌==◌, ◌&&◌, ◌||◌}
use Rattle.std.specs.List.{filter, find, list_any}
use Rattle.std.specs.Option.{option_map_or, option_or}
use Rattle.std.proofs.lemmas.Bool.{and_right, eqb-true, eq-eqb}
use Rattle.std.proofs.lemmas.List.Folds.{find-append, list_any-append}
use Rattle.collections.proofs.Numbers.{turned}
use Rattle.tables.specs.Rows.{change_at, change_first}
use Rattle.tables.proofs.Placed.{changed_at, find-found, position-within}
use Rattle.seek_match.specs.declared.opponents.Opponents.{Opponents}
use Rattle.seek_match.specs.Opponents.{Lists, SaysTheSame, Unlists, are_these, is_opponent, opponents_of}

went : (q b s : Bool) → b ≡ q → (not q && s) ≡ (not q && (b || s))
went true b s e = refl
went false b s e = sym (ap (λ t. t || s) e)

stood : (q b s : Bool) → (b ≡ true → q ≡ false) → (b || (not q && s)) ≡ (not q && (b || s))
stood true true s h = absurd (true≢false (h refl))
stood true false s h = refl
stood false b s h = refl

pub or_false : (s : Bool) → (s || false) ≡ s
or_false true = refl
or_false false = refl

-- where what passes one test goes, another is passed as before, but by what went
pub any-without : {X : Type 0} (gone other : X → Bool) (q : Bool) → ((x : X) → gone x ≡ true → other x ≡ q)
    → ((x : X) → gone x ≡ false → other x ≡ true → q ≡ false)
    → (xs : List X) → list_any other (filter (λ x. not (gone x)) xs) ≡ (not q && list_any other xs)
any-without gone other q same apart [] = sym (and_right (not q) false refl)
any-without gone other q same apart (x ∷ xs) =
    let left = filter (λ x. not (gone x)) xs in
    elim (gone x)
    as (λ t.
    gone x ≡ t → list_any other (cond (not t) (x ∷ left) left) ≡ (not q && (other x || list_any other xs))) [
      | true ↦ λ is. any-without gone other q same apart xs ∙ went q (other x) (list_any other xs) (same x is)
      | false ↦ λ stays.
          ap (λ b. other x || b) (any-without gone other q same apart xs)
          ∙ stood q (other x) (list_any other xs) (apart x stays)
    ] refl

-- the numbers without one
others-without : (other y : ℕ) (xs : List ℕ)
    → list_any (λ one. one == y) (filter (λ one. not (one == other)) xs)
    ≡ (not (other == y) && list_any (λ one. one == y) xs)
others-without other y xs =
    any-without (λ one. one == other) (λ one. one == y) (other == y)
    (λ one is. ap (λ n. n == y) (eqb-true one other is))
    (λ one stays is. ap (λ n. other == n) (sym (eqb-true one y is)) ∙ turned other one ∙ stays) xs

-- where an item is changed that fails another test before and after, that finds the same
find-changed_other : {X : Type 0} (p q : X → Bool) (f : X → X) → ((x : X) → p x ≡ true → q x ≡ false)
    → ((x : X) → q (f x) ≡ q x)
    → (xs : List X) → find q (change_first p f xs) ≡ find q xs
find-changed_other p q f apart keeps [] = refl
find-changed_other p q f apart keeps (x ∷ xs) =
    elim (p x)
    as (λ t. p x ≡ t → find q (cond t (f x ∷ xs) (x ∷ change_first p f xs)) ≡ cond (q x) (Some x) (find q xs)) [
      | true ↦ λ passes.
          ap (λ t. cond t (Some (f x)) (find q xs)) (keeps x ∙ apart x passes)
          ∙ sym (ap (λ t. cond t (Some x) (find q xs)) (apart x passes))
      | false ↦ λ _. ap (cond (q x) (Some x)) (find-changed_other p q f apart keeps xs)
    ] refl

-- and the test that chose it finds it changed
find-changed : {X : Type 0} (p : X → Bool) (f : X → X) → ((x : X) → p (f x) ≡ p x) → (xs : List X)
    → find p (change_first p f xs) ≡ option_map f (find p xs)
find-changed p f keeps [] = refl
find-changed p f keeps (x ∷ xs) =
    elim (p x)
    as (λ t.
    p x ≡ t → find p (cond t (f x ∷ xs) (x ∷ change_first p f xs)) ≡ option_map f (cond t (Some x) (find p xs))) [
      | true ↦ λ passes. ap (λ t. cond t (Some (f x)) (find p xs)) (keeps x ∙ passes)
      | false ↦ λ fails. ap (λ t. cond t (Some x) (find p (change_first p f xs))) fails ∙ find-changed p f keeps xs
    ] refl

-- where what passes a test goes, it finds none, and another finds the same
find-gone : {X : Type 0} (p : X → Bool) (xs : List X) → find p (filter (λ x. not (p x)) xs) ≡ None
find-gone p [] = refl
find-gone p (x ∷ xs) =
    let left = filter (λ x. not (p x)) xs in
    elim (p x) as (λ t. p x ≡ t → find p (cond (not t) (x ∷ left) left) ≡ None) [
      | true ↦ λ _. find-gone p xs
      | false ↦ λ fails. ap (λ t. cond t (Some x) (find p left)) fails ∙ find-gone p xs
    ] refl

find-gone_other : {X : Type 0} (p q : X → Bool) → ((x : X) → p x ≡ true → q x ≡ false) → (xs : List X)
    → find q (filter (λ x. not (p x)) xs) ≡ find q xs
find-gone_other p q apart [] = refl
find-gone_other p q apart (x ∷ xs) =
    let left = filter (λ x. not (p x)) xs in
    elim (p x) as (λ t. p x ≡ t → find q (cond (not t) (x ∷ left) left) ≡ cond (q x) (Some x) (find q xs)) [
      | true ↦ λ passes. find-gone_other p q apart xs ∙ sym (ap (λ t. cond t (Some x) (find q xs)) (apart x passes))
      | false ↦ λ _. ap (cond (q x) (Some x)) (find-gone_other p q apart xs)
    ] refl

-- the row of one player isn't that of another
of_one : (who other n : ℕ) → (who == other) ≡ false → (who == n) ≡ true → (other == n) ≡ false
of_one who other n differs is = ap (λ w. other == w) (sym (eqb-true who n is)) ∙ turned other who ∙ differs

abbrev others_in : Option Opponents → List ℕ
others_in found = option_map_or (λ row. row.others) found []

-- of the rows of other players all is as before
abbrev OthersAsBefore : ℕ → List Opponents → List Opponents → Type 0
OthersAsBefore who before after = (x : ℕ) → (who == x) ≡ false → opponents_of after x ≡ opponents_of before x

-- what is said of each player, where a row has one more, one less or the same
by_row : (who : ℕ) (before after : List Opponents) (says : ℕ → ℕ → Bool) → OthersAsBefore who before after
    → ((y : ℕ) → is_opponent after who y ≡ says who y)
    → ((x y : ℕ) → (who == x) ≡ false → says x y ≡ is_opponent before x y)
    → (x y : ℕ) → is_opponent after x y ≡ says x y
by_row who before after says elsewhere here else x y =
    elim (who == x) as (λ t. (who == x) ≡ t → is_opponent after x y ≡ says x y) [
      | true ↦ λ is.
          let same = eqb-true who x is in
          ap (λ n. is_opponent after n y) (sym same) ∙ here y ∙ ap (λ n. says n y) same
      | false ↦ λ other. ap (list_any (λ one. one == y)) (elsewhere x other) ∙ sym (else x y other)
    ] refl

these_here : (who other y : ℕ) → are_these who other who y ≡ (other == y)
these_here who other y = ap (λ t. t && (other == y)) (eq-eqb who who refl)

these_else : (who other x y : ℕ) → (who == x) ≡ false → are_these who other x y ≡ false
these_else who other x y differs = ap (λ t. t && (other == y)) differs

put_behind : (q s : Bool) → (s || (q || false)) ≡ (q || s)
put_behind true true = refl
put_behind true false = refl
put_behind false s = or_false s

pub Lists-by : (who other : ℕ) (before after : List Opponents) → OthersAsBefore who before after
    → opponents_of after who ≡ opponents_of before who ++ other ∷ []
    → Lists who other before after
Lists-by who other before after elsewhere here =
    by_row who before after (λ x y. are_these who other x y || is_opponent before x y) elsewhere
    (λ y.
    ap (list_any (λ one. one == y)) here ∙ list_any-append (λ one. one == y) (opponents_of before who) (other ∷ [])
    ∙ put_behind (other == y) (is_opponent before who y)
    ∙ ap (λ t. t || is_opponent before who y) (sym (these_here who other y)))
    (λ x y differs. ap (λ t. t || is_opponent before x y) (these_else who other x y differs))

pub Unlists-by : (who other : ℕ) (before after : List Opponents) → OthersAsBefore who before after
    → opponents_of after who ≡ filter (λ one. not (one == other)) (opponents_of before who)
    → Unlists who other before after
Unlists-by who other before after elsewhere here =
    by_row who before after (λ x y. not (are_these who other x y) && is_opponent before x y) elsewhere
    (λ y.
    ap (list_any (λ one. one == y)) here ∙ others-without other y (opponents_of before who)
    ∙ ap (λ t. not t && is_opponent before who y) (sym (these_here who other y)))
    (λ x y differs. ap (λ t. not t && is_opponent before x y) (these_else who other x y differs))

pub SaysTheSame-by : (who : ℕ) (before after : List Opponents) → OthersAsBefore who before after
    → opponents_of after who ≡ opponents_of before who
    → SaysTheSame before after
SaysTheSame-by who before after elsewhere here =
    by_row who before after (is_opponent before) elsewhere (λ y. ap (list_any (λ one. one == y)) here)
    (λ x y differs. refl)

-- a row at the end for a player who had none
pub pushed-else : (who other : ℕ) (rows : List Opponents)
    → OthersAsBefore who rows (rows ++ record { who = who; others = other ∷ [] } ∷ [])
pushed-else who other rows x differs =
    let row : Opponents = record { who = who; others = other ∷ [] } in
    ap others_in
    (find-append (λ row. x == row.who) rows (row ∷ [])
    ∙ ap (λ t. option_or (find (λ row. x == row.who) rows) (cond t (Some row) None)) (turned x who ∙ differs)
    ∙ alone (find (λ row. x == row.who) rows))
  where
    alone : (found : Option Opponents) → option_or found None ≡ found
    alone None = refl
    alone (Some row) = refl

pub pushed-here : (who other : ℕ) (rows : List Opponents) → find (λ row. who == row.who) rows ≡ None
    → opponents_of (rows ++ record { who = who; others = other ∷ [] } ∷ []) who ≡ opponents_of rows who ++ other ∷ []
pushed-here who other rows none =
    let row : Opponents = record { who = who; others = other ∷ [] } in
    ap others_in
    (find-append (λ row. who == row.who) rows (row ∷ [])
    ∙ (λ j. option_or (none j) (cond (eq-eqb who who refl j) (Some row) None)))
    ∙ sym (ap (λ found. others_in found ++ other ∷ []) none)

-- the row of a player is changed
changed-else : (who : ℕ) (f : Opponents → Opponents) → ((row : Opponents) → (f row).who ≡ row.who)
    → (rows : List Opponents)
    → OthersAsBefore who rows (change_first (λ row. who == row.who) f rows)
changed-else who f keeps rows x differs =
    ap others_in
    (find-changed_other (λ row. who == row.who) (λ row. x == row.who) f (λ row. of_one who x row.who differs)
    (λ row. ap (λ n. x == n) (keeps row)) rows)

changed-here : (who : ℕ) (f : Opponents → Opponents) → ((row : Opponents) → (f row).who ≡ row.who)
    → (rows : List Opponents)
    → opponents_of (change_first (λ row. who == row.who) f rows) who
    ≡ others_in (option_map f (find (λ row. who == row.who) rows))
changed-here who f keeps rows =
    ap others_in (find-changed (λ row. who == row.who) f (λ row. ap (λ n. who == n) (keeps row)) rows)

-- what stands at a place within the list
at_place : {X : Type 0} (xs : List X) (i : ℕ) → i < length xs → (x : X) × (slice_get xs i ≡ Some x)
at_place [] i inside = absurd (omega (arith, inside))
at_place (x ∷ xs) zero inside = (x, refl)
at_place (x ∷ xs) (suc i) inside = at_place xs i (omega (arith, inside))

-- a part of the row at the player's place is written
pub record Written (who : ℕ) (last : List ℕ) (rows after : List Opponents) (now : List ℕ) : Type 0 where
  pub elsewhere : OthersAsBefore who rows after
  pub here : opponents_of after who ≡ last
  pub was : now ≡ opponents_of rows who

pub written : (who : ℕ) (last now : List ℕ) (rows : List Opponents) (place : ℕ)
    → Some place ≡ position (λ row. who == row.who) rows
    → ((row : Opponents) → slice_get rows place ≡ Some row → now ≡ row.others)
    → Written who last rows (change_at place (λ row. record row { others = last }) rows) now
written who last now rows place at reads =
    let p = λ (row : Opponents). who == row.who in
    let f = λ (row : Opponents). record row { others = last } in
    let there = at_place rows place (position-within p rows place (sym at)) in
    let found : find p rows ≡ Some there.0 = find-found p rows place (sym at) ∙ there.1 in
    let first : change_at place f rows ≡ change_first p f rows = changed_at p f rows place (sym at) in
    record {
      elsewhere = λ x differs.
          ap (λ rows. opponents_of rows x) first ∙ changed-else who f (λ row. refl) rows x differs;
      here =
          ap (λ rows. opponents_of rows who) first ∙ changed-here who f (λ row. refl) rows
          ∙ ap (λ found. others_in (option_map f found)) found;
      was = reads there.0 there.1 ∙ sym (ap others_in found);
    }

-- one goes from the row of a player
abbrev pub left_in : ℕ → ℕ → List Opponents → List Opponents
left_in who other rows =
    change_first (λ row. who == row.who)
    (λ row. record row { others = filter (λ one. not (one == other)) row.others }) rows

pub left-else : (who other : ℕ) (rows : List Opponents) → OthersAsBefore who rows (left_in who other rows)
left-else who other rows =
    changed-else who (λ row. record row { others = filter (λ one. not (one == other)) row.others }) (λ row. refl) rows

pub left-here : (who other : ℕ) (rows : List Opponents)
    → opponents_of (left_in who other rows) who ≡ filter (λ one. not (one == other)) (opponents_of rows who)
left-here who other rows =
    changed-here who (λ (row : Opponents). record row { others = filter (λ one. not (one == other)) row.others })
    (λ row. refl) rows
    ∙ in_found (find (λ row. who == row.who) rows)
  where
    in_found : (found : Option Opponents)
        → others_in
        (option_map (λ (row : Opponents). record row { others = filter (λ one. not (one == other)) row.others }) found)
        ≡ filter (λ one. not (one == other)) (others_in found)
    in_found None = refl
    in_found (Some row) = refl

-- a row in which nobody is left goes
pub emptied-else : (who : ℕ) (rows : List Opponents)
    → OthersAsBefore who rows (filter (λ row. not (who == row.who)) rows)
emptied-else who rows x differs =
    ap others_in
    (find-gone_other (λ row. who == row.who) (λ row. x == row.who) (λ row. of_one who x row.who differs) rows)

pub emptied-here : (who : ℕ) (rows : List Opponents) → opponents_of rows who ≡ []
    → opponents_of (filter (λ row. not (who == row.who)) rows) who ≡ opponents_of rows who
emptied-here who rows none = ap others_in (find-gone (λ row. who == row.who) rows) ∙ sym none

pub none_in : (xs : List ℕ) → (length xs == 0) ≡ true → xs ≡ []
none_in [] e = refl
none_in (x ∷ xs) e = let none : suc (length xs) ≡ 0 = eqb-true (suc (length xs)) 0 e in absurd (omega (arith, none))
