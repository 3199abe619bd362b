-- Rows of games whose numbers rise: one comes, some go, and where a number stands.
use Rattle.std.proofs.Common.{◌≡◌, ◌⊎◌, ℕ, zero, suc, ◌^◌, ◌<◌, ◌≤◌, Bool, true, false, not, cond, List, [], ◌∷◌, ◌++◌, Option, None, Some, length, take, drop, get_or, slice_get, refl, sym, ap, subst, ◌∙◌, inl, inr, arith}
use Rattle.std.specs.Prelude.{◌==◌}
use Rattle.std.specs.List.{AllWithin, filter, find, remove}
use Rattle.std.specs.List.Sorted.{IsNonDecreasingBy}
use Rattle.std.proofs.lemmas.Option.{none-some}
use Rattle.std.proofs.lemmas.Bool.{eqb-false, eq-eqb, ne_eqb, lt-ltb, le-ltb, cases_lt, or_parts}
use Rattle.lobby_shelf.specs.declared.shelved.Shelved.{Shelved}
use Rattle.lobby_shelf.specs.Numbers.{AreInOrder, IsLeastUnused, RiseAbove, has_number, is_above, is_below, is_used, next_number, number_of, with_game, without_game}
use Rattle.collections.proofs.Numbers.{not_same_above}
use Rattle.collections.proofs.Rising as rising

pub RiseAbove-filter : (p : Shelved → Bool) (low : ℕ) (games : List Shelved) → RiseAbove low games
    → RiseAbove low (filter p games)
RiseAbove-filter = rising.RiseAbove-filter number_of (2 ^ 64)

-- among numbers that rise above one, none is below it, none is it, and all are above it
pub none_below : (n low : ℕ) (games : List Shelved) → n ≤ low → RiseAbove low games → filter (is_below n) games ≡ []
none_below n low [] h rise = refl
none_below n low (row ∷ games) h rise =
    let above = rise.0 in
    ap (λ (t : Bool). cond t (row ∷ filter (is_below n) games) (filter (is_below n) games))
    (le-ltb row.number n (omega (arith, above, h)))
    ∙ none_below n row.number games (omega (arith, above, h)) rise.2

pub all_above : (n low : ℕ) (games : List Shelved) → n ≤ low → RiseAbove low games → filter (is_above n) games ≡ games
all_above n low [] h rise = refl
all_above n low (row ∷ games) h rise =
    let above = rise.0 in
    ap (λ (t : Bool). cond t (row ∷ filter (is_above n) games) (filter (is_above n) games))
    (lt-ltb n row.number (omega (arith, above, h)))
    ∙ ap (λ zs. row ∷ zs) (all_above n row.number games (omega (arith, above, h)) rise.2)

pub unused_above : (games : List Shelved) (low n : ℕ) → n ≤ low → RiseAbove low games → is_used games n ≡ false
unused_above = rising.unused_above number_of (2 ^ 64)

-- where a game comes: behind one of a lesser number, and before one of a greater number
pub with_game-behind : (new row : Shelved) (games : List Shelved) → row.number < new.number
    → with_game new (row ∷ games) ≡ row ∷ with_game new games
with_game-behind new row games h =
    ap (λ (t : Bool).
    cond t (row ∷ filter (is_below new.number) games) (filter (is_below new.number) games) ++ new
    ∷ filter (is_above new.number) (row ∷ games))
    (lt-ltb row.number new.number h)
    ∙ ap
    (λ (t : Bool).
    row
    ∷ (filter (is_below new.number) games ++ new
    ∷ cond t (row ∷ filter (is_above new.number) games) (filter (is_above new.number) games)))
    (le-ltb new.number row.number (omega arith))

-- none of a row that begins at a number or above it is below it
none_at : (n : ℕ) (row : Shelved) (games : List Shelved) → n ≤ row.number → RiseAbove row.number games
    → filter (is_below n) (row ∷ games) ≡ []
none_at n row games h rise =
    ap (λ (t : Bool). cond t (row ∷ filter (is_below n) games) (filter (is_below n) games)) (le-ltb row.number n h)
    ∙ none_below n row.number games h rise

pub with_game-before : (new row : Shelved) (games : List Shelved) → RiseAbove new.number (row ∷ games)
    → with_game new (row ∷ games) ≡ new ∷ row ∷ games
with_game-before new row games rise =
    let above = rise.0 in
    ap (λ zs. zs ++ new ∷ filter (is_above new.number) (row ∷ games))
    (none_at new.number row games (omega (arith, above)) rise.2)
    ∙ ap (λ zs. new ∷ zs) (all_above new.number new.number (row ∷ games) (omega arith) rise)

-- a row that has no such number has the row of that number before one of its games, or behind it
pub before_or_behind : (row : Shelved) (games : List Shelved) (n : ℕ) → is_used (row ∷ games) n ≡ false
    → (row.number < n) ⊎ (n < row.number)
before_or_behind row games n unused =
    let differ = eqb-false row.number n (or_parts (row.number == n) (is_used games n) unused).0 in
    elim (cases_lt row.number n) [ inl h ↦ inl h | inr h ↦ inr (strict row.number n h differ) ]
  where
    strict : (a b : ℕ) → b ≤ a → (a ≡ b → ⊥) → b < a
    strict a b h differ = grind arith

pub unused_on : (row : Shelved) (games : List Shelved) (n : ℕ) → is_used (row ∷ games) n ≡ false
    → is_used games n ≡ false
unused_on row games n unused = (or_parts (row.number == n) (is_used games n) unused).1

-- a game with a number that none has keeps the numbers rising
pub RiseAbove-with : (new : Shelved) (low : ℕ) (games : List Shelved) → low < new.number → new.number < 2 ^ 64
    → is_used games new.number ≡ false
    → RiseAbove low games → RiseAbove low (with_game new games)
RiseAbove-with new low [] above fits unused rise = (above, fits, tt)
RiseAbove-with new low (row ∷ games) above fits unused rise =
    elim (before_or_behind row games new.number unused) [
      | inl h ↦ subst (RiseAbove low) (sym (with_game-behind new row games h))
          (rise.0, rise.1, RiseAbove-with new row.number games h fits (unused_on row games new.number unused) rise.2)
      | inr h ↦
          subst (RiseAbove low) (sym (with_game-before new row games (h, rise.1, rise.2)))
          (above, fits, (h, rise.1, rise.2))
    ]

below_cons : (n : ℕ) (row : Shelved) (games : List Shelved) → row.number < n
    → filter (is_below n) (row ∷ games) ≡ row ∷ filter (is_below n) games
below_cons n row games h =
    ap (λ (t : Bool). cond t (row ∷ filter (is_below n) games) (filter (is_below n) games)) (lt-ltb row.number n h)

-- a number stands in a row behind as many games as have lesser ones: these are before it
pub take-place : (n low : ℕ) (games : List Shelved) → RiseAbove low games
    → take (length (filter (is_below n) games)) games ≡ filter (is_below n) games
take-place n low [] rise = refl
take-place n low (row ∷ games) rise =
    elim (cases_lt row.number n) [
      | inl h ↦ subst (λ zs. take (length zs) (row ∷ games) ≡ zs) (sym (below_cons n row games h))
          (ap (λ zs. row ∷ zs) (take-place n row.number games rise.2))
      | inr h ↦ subst (λ zs. take (length zs) (row ∷ games) ≡ zs) (sym (none_at n row games h rise.2)) refl
    ]

-- and those of greater ones are from it on, where none has it
pub drop-place : (n low : ℕ) (games : List Shelved) → is_used games n ≡ false → RiseAbove low games
    → drop (length (filter (is_below n) games)) games ≡ filter (is_above n) games
drop-place n low [] unused rise = refl
drop-place n low (row ∷ games) unused rise =
    elim (before_or_behind row games n unused) [
      | inl h ↦
          let rest = drop-place n row.number games (unused_on row games n unused) rise.2 in
          let skips : filter (is_above n) (row ∷ games) ≡ filter (is_above n) games =
          ap (λ (t : Bool). cond t (row ∷ filter (is_above n) games) (filter (is_above n) games))
          (le-ltb n row.number (omega arith)) in
          subst (λ zs. drop (length zs) (row ∷ games) ≡ filter (is_above n) (row ∷ games))
          (sym (below_cons n row games h)) (rest ∙ sym skips)
      | inr h ↦
          let all = all_above n n (row ∷ games) (omega arith) (h, rise.1, rise.2) in
          subst (λ zs. drop (length zs) (row ∷ games) ≡ filter (is_above n) (row ∷ games))
          (sym (none_at n row games (omega arith) rise.2)) (sym all)
    ]

-- what a search finds at the place of a number
abbrev pub FoundAt : ℕ → List Shelved → Option Shelved → Type 0
FoundAt n games None = find (has_number n) games ≡ None
FoundAt n games (Some row) =
    (row.number ≡ n → find (has_number n) games ≡ Some row) × ((row.number ≡ n → ⊥) → find (has_number n) games ≡ None)

pub found_at : (n low : ℕ) (games : List Shelved) → RiseAbove low games
    → FoundAt n games (slice_get games (length (filter (is_below n) games)))
found_at n low [] rise = refl
found_at n low (row ∷ games) rise =
    elim (cases_lt row.number n) [
      | inl h ↦
          subst (λ zs. FoundAt n (row ∷ games) (slice_get (row ∷ games) (length zs))) (sym (below_cons n row games h))
          (skip (slice_get games (length (filter (is_below n) games))) n row games
          (ne_eqb row.number n (not_same_above row.number n h))
          (found_at n row.number games rise.2))
      | inr h ↦
          subst (λ zs. FoundAt n (row ∷ games) (slice_get (row ∷ games) (length zs)))
          (sym (none_at n row games h rise.2))
          (here n row games h rise.2)
    ]
  where
    skip : (r : Option Shelved) (n : ℕ) (row : Shelved) (games : List Shelved) → (row.number == n) ≡ false
        → FoundAt n games r → FoundAt n (row ∷ games) r
    skip None n row games differ found = ap (λ (t : Bool). cond t (Some row) (find (has_number n) games)) differ ∙ found
    skip (Some other) n row games differ found = (
      λ e. ap (λ (t : Bool). cond t (Some row) (find (has_number n) games)) differ ∙ found.0 e,
      λ e. ap (λ (t : Bool). cond t (Some row) (find (has_number n) games)) differ ∙ found.1 e,
    )

    here : (n : ℕ) (row : Shelved) (games : List Shelved) → n ≤ row.number → RiseAbove row.number games
        → FoundAt n (row ∷ games) (Some row)
    here n row games h rise = (
      λ e. ap (λ (t : Bool). cond t (Some row) (find (has_number n) games)) (eq-eqb row.number n e),
      λ e. ap (λ (t : Bool). cond t (Some row) (find (has_number n) games)) (ne_eqb row.number n e)
          ∙ rising.find-none (has_number n) games (unused_above games row.number n h rise),
    )

-- the numbers never fall, so that a place can be searched for by halves
pub rises_at : (low : ℕ) (games : List Shelved) (k : ℕ) (d : Shelved) → RiseAbove low games → k < length games
    → low < (get_or games k d).number
rises_at low games k d rise h = omega (arith, rising.rises_by number_of (2 ^ 64) low games k d rise h)

pub never_fall : (low : ℕ) (games : List Shelved) → RiseAbove low games → IsNonDecreasingBy (λ row. row.number) games
never_fall low [] rise i j d h k = absurd (omega arith)
never_fall low (row ∷ games) rise zero zero d h k = omega arith
never_fall low (row ∷ games) rise zero (suc j) d h k =
    let more = rises_at row.number games j d rise.2 (omega arith) in
    omega (arith, more)
never_fall low (row ∷ games) rise (suc i) zero d h k = absurd (omega arith)
never_fall low (row ∷ games) rise (suc i) (suc j) d h k =
    never_fall row.number games rise.2 i j d (omega arith) (omega arith)

-- where those that pass come first, they end behind as many as pass
pub partition_place : (p : Shelved → Bool) (games : List Shelved) (i : ℕ) → i ≤ length games
    → AllWithin (λ row. p row ≡ true) games 0 i → AllWithin (λ row. p row ≡ false) games i (length games)
    → i ≡ length (filter p games)
partition_place p [] i short pass fail = omega arith
partition_place p (row ∷ games) zero short pass fail =
    sym (ap (λ (t : Bool). length (cond t (row ∷ filter p games) (filter p games)))
    (fail zero row (omega arith) (omega arith))
    ∙ sym
    (partition_place p games zero (omega arith) (λ k d a b. absurd (omega arith))
    (λ k d a b. fail (suc k) d (omega arith) (omega arith))))
partition_place p (row ∷ games) (suc i) short pass fail =
    sym (ap (λ (t : Bool). length (cond t (row ∷ filter p games) (filter p games)))
    (pass zero row (omega arith) (omega arith))
    ∙ ap suc (sym (partition_place p games i (omega arith) (λ k d a b. pass (suc k) d (omega arith) (omega arith))
    (λ k d a b. fail (suc k) d (omega arith) (omega arith)))))

-- the next number is the least positive one that no game has
pub next_number-least : (games : List Shelved) → AreInOrder games → IsLeastUnused games (next_number games)
next_number-least = rising.first_gap-is_least number_of (2 ^ 64)

-- where a game has a number, it is the one behind those of lesser numbers
pub remove-place : (n low : ℕ) (games : List Shelved) (there : Shelved) → RiseAbove low games
    → find (has_number n) games ≡ Some there
    → (length (filter (is_below n) games) < length games)
    × (remove games (length (filter (is_below n) games)) ≡ without_game n games)
remove-place n low [] there rise found = absurd (none-some there found)
remove-place n low (row ∷ games) there rise found =
    elim (cases_lt row.number n) [
      | inl h ↦
          let differ = ne_eqb row.number n (not_same_above row.number n h) in
          let rest =
          remove-place n row.number games there rise.2
          (sym (ap (λ (t : Bool). cond t (Some row) (find (has_number n) games)) differ) ∙ found) in
          let within = rest.0 in
          let stays = ap (λ (t : Bool). cond (not t) (row ∷ without_game n games) (without_game n games)) differ in
          subst (λ (zs : List Shelved).
          (length zs < length (row ∷ games)) × (remove (row ∷ games) (length zs) ≡ without_game n (row ∷ games)))
          (sym (below_cons n row games h))
          (omega (arith, within), ap (λ zs. row ∷ zs) rest.1 ∙ sym stays)
      | inr h ↦
          let none = rising.find-none (has_number n) games (unused_above games row.number n h rise.2) in
          let goes =
          elim (row.number == n)
          as (λ t.
          cond t (Some row) (find (has_number n) games) ≡ Some there
          → games ≡ cond (not t) (row ∷ without_game n games) (without_game n games)) [
            | true ↦ λ _. sym (rising.all-left (has_number n) games none)
            | false ↦ λ later. absurd (none-some there (sym none ∙ later))
          ] found in
          subst (λ (zs : List Shelved).
          (length zs < length (row ∷ games)) × (remove (row ∷ games) (length zs) ≡ without_game n (row ∷ games)))
          (sym (none_at n row games h rise.2))
          (omega arith, goes)
    ]
