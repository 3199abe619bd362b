-- In how many channels each player is, after each change of the memberships and of the rows that say so.
use Rattle.std.proofs.Common.{◌≡◌, ◌+◌, ℕ, Bool, true, false, not, cond, List, [], ◌∷◌, ◌++◌, Option, None, Some, filter, map, true≢false, refl, sym, ap, subst, ◌∙◌, arith}
use Rattle.std.specs.Prelude.{◌==◌, ◌&&◌, ◌||◌, count_by, is_some, option_map}
use Rattle.std.specs.Cmp.{first_so, second_so}
use Rattle.std.specs.List.{AllByRecursion, IsDistinct, find, list_any}
use Rattle.std.specs.Option.{option_map_or, option_or}
use Rattle.std.proofs.lemmas.Bool.{eqb-true, eq-eqb}
use Rattle.std.proofs.lemmas.Cmp.{nat_eq_equiv}
use Rattle.std.proofs.lemmas.List.Folds.{find-append}
use Rattle.std.proofs.lemmas.List.Sums.{sum_by-cons}
use Rattle.collections.proofs.Tests.{none_found}
use Rattle.tables.specs.Rows.{AreApart, change_first}
use Rattle.channel_feed.specs.declared.channels.Membership.{Membership}
use Rattle.channel_feed.specs.declared.counts.ChannelCount.{ChannelCount}
use Rattle.channel_feed.specs.Channels.{channels_of, is_in, is_same, without_player}
use Rattle.channel_feed.specs.Counts.{count_of}

-- what holds of one number and of every other holds of all
each : (f g : ℕ → ℕ) (who : ℕ) → f who ≡ g who → ((other : ℕ) → (who == other) ≡ false → f other ≡ g other)
    → (other : ℕ) → f other ≡ g other
each f g who here elsewhere other =
    elim (who == other) as (λ t. (who == other) ≡ t → f other ≡ g other) [
      | true ↦ λ same. ap f (sym (eqb-true who other same)) ∙ here ∙ ap g (eqb-true who other same)
      | false ↦ λ differs. elsewhere other differs
    ] refl

-- one counts one more, and every other as before
one_more : (before after : ℕ → ℕ) (who : ℕ) → after who ≡ before who + 1
    → ((other : ℕ) → (who == other) ≡ false → after other ≡ before other)
    → (other : ℕ) → after other ≡ before other + cond (who == other) 1 0
one_more before after who here elsewhere =
    each after (λ other. before other + cond (who == other) 1 0) who
    (here ∙ sym (ap (λ t. before who + cond t 1 0) (eq-eqb who who refl)))
    (λ other differs. elsewhere other differs ∙ sym (ap (λ t. before other + cond t 1 0) differs ∙ omega arith))

-- where an item is changed that fails another test before and after, that finds the same
find-changed_other : {X : Type 0} (p q : X → Bool) (f : X → X) → ((x : X) → p x ≡ true → q x ≡ false)
    → ((x : X) → q (f x) ≡ q x)
    → (xs : List X) → find q (change_first p f xs) ≡ find q xs
find-changed_other p q f apart keeps [] = refl
find-changed_other p q f apart keeps (x ∷ xs) =
    elim (p x)
    as (λ t. p x ≡ t → find q (cond t (f x ∷ xs) (x ∷ change_first p f xs)) ≡ cond (q x) (Some x) (find q xs)) [
      | true ↦ λ passes.
          ap (λ t. cond t (Some (f x)) (find q xs)) (keeps x ∙ apart x passes)
          ∙ sym (ap (λ t. cond t (Some x) (find q xs)) (apart x passes))
      | false ↦ λ _. ap (cond (q x) (Some x)) (find-changed_other p q f apart keeps xs)
    ] refl

-- and the test that chose it finds it changed
find-changed : {X : Type 0} (p : X → Bool) (f : X → X) → ((x : X) → p (f x) ≡ p x) → (xs : List X)
    → find p (change_first p f xs) ≡ option_map f (find p xs)
find-changed p f keeps [] = refl
find-changed p f keeps (x ∷ xs) =
    elim (p x)
    as (λ t.
    p x ≡ t → find p (cond t (f x ∷ xs) (x ∷ change_first p f xs)) ≡ option_map f (cond t (Some x) (find p xs))) [
      | true ↦ λ passes. ap (λ t. cond t (Some (f x)) (find p xs)) (keeps x ∙ passes)
      | false ↦ λ fails. ap (λ t. cond t (Some x) (find p (change_first p f xs))) fails ∙ find-changed p f keeps xs
    ] refl

-- where what passes a test goes, it finds none, and another finds the same
find-gone : {X : Type 0} (p : X → Bool) (xs : List X) → find p (filter (λ x. not (p x)) xs) ≡ None
find-gone p [] = refl
find-gone p (x ∷ xs) =
    let left = filter (λ x. not (p x)) xs in
    elim (p x) as (λ t. p x ≡ t → find p (cond (not t) (x ∷ left) left) ≡ None) [
      | true ↦ λ _. find-gone p xs
      | false ↦ λ fails. ap (λ t. cond t (Some x) (find p left)) fails ∙ find-gone p xs
    ] refl

find-gone_other : {X : Type 0} (p q : X → Bool) → ((x : X) → p x ≡ true → q x ≡ false) → (xs : List X)
    → find q (filter (λ x. not (p x)) xs) ≡ find q xs
find-gone_other p q apart [] = refl
find-gone_other p q apart (x ∷ xs) =
    let left = filter (λ x. not (p x)) xs in
    elim (p x) as (λ t. p x ≡ t → find q (cond (not t) (x ∷ left) left) ≡ cond (q x) (Some x) (find q xs)) [
      | true ↦ λ passes. find-gone_other p q apart xs ∙ sym (ap (λ t. cond t (Some x) (find q xs)) (apart x passes))
      | false ↦ λ _. ap (cond (q x) (Some x)) (find-gone_other p q apart xs)
    ] refl

-- the row of one player isn't that of another
of_one : (who other n : ℕ) → (who == other) ≡ false → (who == n) ≡ true → (other == n) ≡ false
of_one who other n differs is = ap (λ w. other == w) (sym (eqb-true who n is)) ∙ nat_eq_equiv.symm other who ∙ differs

abbrev counted : Option ChannelCount → ℕ
counted found = option_map_or (λ row. row.channels) found 0

-- a player in its first channel
pub count_of-pushed : (counts : List ChannelCount) (who : ℕ) → find (λ row. who == row.who) counts ≡ None
    → (other : ℕ)
    → count_of (counts ++ record { who = who; channels = 1 } ∷ []) other
    ≡ count_of counts other + cond (who == other) 1 0
count_of-pushed counts who none =
    let row : ChannelCount = record { who = who; channels = 1 } in
    let both = λ (other : ℕ). find-append (λ (row : ChannelCount). other == row.who) counts (row ∷ []) in
    one_more (count_of counts) (count_of (counts ++ row ∷ [])) who
    (ap counted (both who ∙ (λ j. option_or (none j) (cond (eq-eqb who who refl j) (Some row) None)))
    ∙ sym (ap (λ found. counted found + 1) none))
    (λ other differs.
    ap counted
    (both other
    ∙ ap (λ t. option_or (find (λ row. other == row.who) counts) (cond t (Some row) None))
    (nat_eq_equiv.symm other who ∙ differs)
    ∙ alone (find (λ row. other == row.who) counts)))
  where
    alone : (found : Option ChannelCount) → option_or found None ≡ found
    alone None = refl
    alone (Some row) = refl

-- a player whose row says another number
set_here : (counts : List ChannelCount) (who n : ℕ) (row : ChannelCount)
    → find (λ row. who == row.who) counts ≡ Some row
    → count_of (change_first (λ row. who == row.who) (λ row. record row { channels = n }) counts) who ≡ n
set_here counts who n row found =
    let f = λ (row : ChannelCount). record row { channels = n } in
    ap counted (find-changed (λ row. who == row.who) f (λ row. refl) counts ∙ ap (option_map f) found)

set_elsewhere : (counts : List ChannelCount) (who n other : ℕ) → (who == other) ≡ false
    → count_of (change_first (λ row. who == row.who) (λ row. record row { channels = n }) counts) other
    ≡ count_of counts other
set_elsewhere counts who n other differs =
    ap counted
    (find-changed_other (λ row. who == row.who) (λ row. other == row.who) (λ row. record row { channels = n })
    (λ row. of_one who other row.who differs) (λ row. refl) counts)

-- one channel more
pub count_of-up : (counts : List ChannelCount) (who n : ℕ) (row : ChannelCount)
    → find (λ row. who == row.who) counts ≡ Some row → n ≡ row.channels + 1
    → (other : ℕ)
    → count_of (change_first (λ row. who == row.who) (λ row. record row { channels = n }) counts) other
    ≡ count_of counts other + cond (who == other) 1 0
count_of-up counts who n row found more =
    one_more (count_of counts)
    (count_of (change_first (λ row. who == row.who) (λ row. record row { channels = n }) counts)) who
    (set_here counts who n row found ∙ more ∙ sym (ap (λ found. counted found + 1) found))
    (set_elsewhere counts who n)

-- one fewer, of more than one
pub count_of-down : (counts : List ChannelCount) (who n : ℕ) → count_of counts who ≡ n + 1
    → (other : ℕ)
    → count_of counts other
    ≡ count_of (change_first (λ row. who == row.who) (λ row. record row { channels = n }) counts) other
    + cond (who == other) 1 0
count_of-down counts who n count =
    let is = there (find (λ row. who == row.who) counts) refl count in
    one_more (count_of (change_first (λ row. who == row.who) (λ row. record row { channels = n }) counts))
    (count_of counts) who
    (count ∙ ap (λ k. k + 1) (sym (set_here counts who n is.0 is.1)))
    (λ other differs. sym (set_elsewhere counts who n other differs))
  where
    there : (found : Option ChannelCount) → find (λ row. who == row.who) counts ≡ found → counted found ≡ n + 1
        → (row : ChannelCount) × (find (λ row. who == row.who) counts ≡ Some row)
    there None is count = absurd (omega (arith, count))
    there (Some row) is count = (row, is)

-- the player's row is gone
abbrev without : ℕ → List ChannelCount → List ChannelCount
without who counts = filter (λ row. not (who == row.who)) counts

gone_here : (counts : List ChannelCount) (who : ℕ) → count_of (without who counts) who ≡ 0
gone_here counts who = ap counted (find-gone (λ row. who == row.who) counts)

gone_elsewhere : (counts : List ChannelCount) (who other : ℕ) → (who == other) ≡ false
    → count_of (without who counts) other ≡ count_of counts other
gone_elsewhere counts who other differs =
    ap counted
    (find-gone_other (λ row. who == row.who) (λ row. other == row.who) (λ row. of_one who other row.who differs) counts)

-- which was in one channel
pub count_of-last : (counts : List ChannelCount) (who : ℕ) → count_of counts who ≡ 1
    → (other : ℕ) → count_of counts other ≡ count_of (without who counts) other + cond (who == other) 1 0
count_of-last counts who last =
    one_more (count_of (without who counts)) (count_of counts) who (last ∙ ap (λ n. n + 1) (sym (gone_here counts who)))
    (λ other differs. sym (gone_elsewhere counts who other differs))

count_cons : {X : Type 0} (p : X → Bool) (x : X) (xs : List X) → count_by p (x ∷ xs) ≡ cond (p x) 1 0 + count_by p xs
count_cons p x xs = sum_by-cons (λ x. cond (p x) 1 0) x xs

count_fails : {X : Type 0} (p : X → Bool) (x : X) (xs : List X) → p x ≡ false → count_by p (x ∷ xs) ≡ count_by p xs
count_fails p x xs fails =
    let none : ◌≡◌ {A = ℕ} (cond (p x) 1 0) 0 = ap (λ t. cond t 1 0) fails in
    omega (arith, count_cons p x xs, none)

-- where what passes a test goes, none passes it, and as many pass another
count-gone : {X : Type 0} (p : X → Bool) (xs : List X) → count_by p (filter (λ x. not (p x)) xs) ≡ 0
count-gone p [] = refl
count-gone p (x ∷ xs) =
    let left = filter (λ x. not (p x)) xs in
    elim (p x) as (λ t. p x ≡ t → count_by p (cond (not t) (x ∷ left) left) ≡ 0) [
      | true ↦ λ _. count-gone p xs
      | false ↦ λ fails. count_fails p x left fails ∙ count-gone p xs
    ] refl

count-gone_other : {X : Type 0} (p q : X → Bool) → ((x : X) → p x ≡ true → q x ≡ false) → (xs : List X)
    → count_by q (filter (λ x. not (p x)) xs) ≡ count_by q xs
count-gone_other p q apart [] = refl
count-gone_other p q apart (x ∷ xs) =
    let left = filter (λ x. not (p x)) xs in
    elim (p x) as (λ t. p x ≡ t → count_by q (cond (not t) (x ∷ left) left) ≡ count_by q (x ∷ xs)) [
      | true ↦ λ passes. count-gone_other p q apart xs ∙ sym (count_fails q x xs (apart x passes))
      | false ↦ λ _.
          count_cons q x left ∙ ap (λ n. cond (q x) 1 0 + n) (count-gone_other p q apart xs) ∙ sym (count_cons q x xs)
    ] refl

-- where none passes a test, none goes
all_stay : {X : Type 0} (p : X → Bool) (xs : List X) → count_by p xs ≡ 0 → filter (λ x. not (p x)) xs ≡ xs
all_stay p [] none = refl
all_stay p (x ∷ xs) none =
    elim (p x)
    as (λ t.
    cond t 1 0 + count_by p xs ≡ 0
    → cond (not t) (x ∷ filter (λ x. not (p x)) xs) (filter (λ x. not (p x)) xs) ≡ x ∷ xs) [
      | true ↦ λ h. absurd (omega (arith, h))
      | false ↦ λ h. ap (λ l. x ∷ l) (all_stay p xs (omega (arith, h)))
    ] (sym (count_cons p x xs) ∙ none)

equal : (one other : Membership) → is_same one other ≡ true → one ≡ other
equal one other is =
    let who : one.who ≡ other.who =
    eqb-true one.who other.who (first_so (one.who == other.who) (one.channel == other.channel) is) in
    let channel : one.channel ≡ other.channel =
    eqb-true one.channel other.channel (second_so (one.who == other.who) (one.channel == other.channel) is) in
    λ j. record { who = who j; channel = channel j }

-- the memberships without this one
abbrev left : Membership → List Membership → List Membership
left gone rows = filter (λ row. not (is_same gone row)) rows

others_stay : (gone : Membership) (rows : List Membership)
    → AllByRecursion (λ other. is_same gone other ≡ false) (map (λ (row : Membership). row) rows)
    → left gone rows ≡ rows
others_stay gone [] apart = refl
others_stay gone (row ∷ rows) apart =
    ap (λ t. cond (not t) (row ∷ left gone rows) (left gone rows)) apart.0
    ∙ ap (λ l. row ∷ l) (others_stay gone rows apart.1)

-- the player is in one more with it, since no two rows are the same
pub fewer_here : (gone : Membership) (rows : List Membership) → AreApart is_same (λ row. row) rows
    → list_any (is_same gone) rows ≡ true
    → channels_of rows gone.who ≡ channels_of (left gone rows) gone.who + 1
unfolding IsDistinct
fewer_here gone [] apart there = absurd (true≢false (sym there))
fewer_here gone (row ∷ rows) apart there =
    let of_it = λ (row : Membership). row.who == gone.who in
    elim (is_same gone row) as (λ t. is_same gone row ≡ t → t || list_any (is_same gone) rows ≡ true
    → count_by of_it (row ∷ rows) ≡ count_by of_it (cond (not t) (row ∷ left gone rows) (left gone rows)) + 1) [
      | true ↦ λ is _.
          let stays =
          others_stay gone rows
          (subst (λ (one : Membership).
          AllByRecursion (λ other. is_same one other ≡ false) (map (λ (row : Membership). row) rows))
          (sym (equal gone row is)) apart.0) in
          let one : ◌≡◌ {A = ℕ} (cond (of_it row) 1 0) 1 =
          ap (λ (m : Membership). cond (m.who == gone.who) 1 0) (sym (equal gone row is))
          ∙ ap (λ t. cond t 1 0) (eq-eqb gone.who gone.who refl) in
          omega (arith, count_cons of_it row rows, one, ap (count_by of_it) stays)
      | false ↦ λ _ behind.
          omega
          (arith, count_cons of_it row rows, count_cons of_it row (left gone rows), fewer_here gone rows apart.1 behind)
    ] refl there

pub channels_of-left : (gone : Membership) (rows : List Membership) → AreApart is_same (λ row. row) rows
    → list_any (is_same gone) rows ≡ true
    → (other : ℕ) → channels_of rows other ≡ channels_of (left gone rows) other + cond (gone.who == other) 1 0
channels_of-left gone rows apart there =
    one_more (channels_of (left gone rows)) (channels_of rows) gone.who (fewer_here gone rows apart there)
    (λ other differs. sym (count-gone_other (is_same gone) (λ row. row.who == other)
    (λ row is. ap (λ (m : Membership). m.who == other) (sym (equal gone row is)) ∙ differs) rows))

-- who is in a channel is so by a row
pub there_by_row : (who channel : ℕ) (rows shown : List Membership) (has : Bool) → rows ≡ shown
    → has ≡ is_in shown who channel → has ≡ true
    → list_any (is_same (record { who = who; channel = channel })) rows ≡ true
there_by_row who channel rows shown has same is there =
    (λ j. list_any (λ row. nat_eq_equiv.symm who row.who j && nat_eq_equiv.symm channel row.channel j) rows)
    ∙ ap (λ rows. is_in rows who channel) same ∙ sym is ∙ there

-- a player who leaves all channels
pub count_of-gone : (counts : List ChannelCount) (rows : List Membership) (who : ℕ)
    → ((other : ℕ) → count_of counts other ≡ channels_of rows other)
    → (other : ℕ) → count_of (without who counts) other ≡ channels_of (without_player who rows) other
count_of-gone counts rows who says =
    each (count_of (without who counts)) (channels_of (without_player who rows)) who
    (gone_here counts who ∙ sym (count-gone (λ row. row.who == who) rows))
    (λ other differs. gone_elsewhere counts who other differs ∙ says other
    ∙ sym (count-gone_other (λ row. row.who == who) (λ row. row.who == other)
    (λ row is. ap (λ w. w == other) (eqb-true row.who who is) ∙ differs) rows))

-- one who has no row is in no channel
pub uncounted : (counts : List ChannelCount) (who : ℕ) (found : Option ChannelCount)
    → found ≡ find (λ row. who == row.who) counts → is_some found ≡ false
    → count_of counts who ≡ 0
uncounted counts who found is none = ap counted (none_found found (find (λ row. who == row.who) counts) is none)

-- and so leaves none
pub without_player-absent : (rows : List Membership) (who : ℕ) → channels_of rows who ≡ 0
    → without_player who rows ≡ rows
without_player-absent rows who none = all_stay (λ row. row.who == who) rows none
