-- The rows that say with whom players have challenges, after each change of the challenges.
use Rattle.std.proofs.Common.{◌≡◌, ◌<◌, ℕ, suc, Bool, true, false, not, cond, List, [], ◌∷◌, None, Some, length, true≢false, refl, sym, ap, ◌∙◌, arith}
use Rattle.std.specs.Prelude.{◌==◌, ◌&&◌, ◌||◌}
use Rattle.std.specs.List.{filter, find, list_any}
use Rattle.std.proofs.lemmas.Bool.{and_from, and_parts, eqb-true, eq-eqb, or_right}
use Rattle.std.proofs.lemmas.List.Folds.{list_any-append}
use Rattle.collections.proofs.Numbers.{turned}
use Rattle.seek_match.specs.declared.challenge.Challenge.{Challenge}
use Rattle.seek_match.specs.declared.challenge.ChallengeKey.{ChallengeKey}
use Rattle.seek_match.specs.declared.opponents.Opponents.{Opponents}
use Rattle.seek_match.specs.Matches.{has_challenge, is_between, stays, whose, with_challenge, without_between}
use Rattle.seek_match.specs.Opponents.{AreOpponents, Lists, SaysTheSame, Unlists, are_these, is_opponent, opponents_of}
use Rattle.seek_match.proofs.OpponentRows.{any-without, or_false}

swapped : (a b : Bool) → (a && b) ≡ (b && a)
swapped true true = refl
swapped true false = refl
swapped false true = refl
swapped false false = refl

-- what stands without the challenge by one to another
pub has_challenge-without : (from to : ℕ) (rows : List Challenge) (f t : ℕ)
    → has_challenge (without_between from to rows) f t ≡ (not (are_these from to f t) && has_challenge rows f t)
has_challenge-without from to rows f t =
    any-without (is_between from to) (is_between f t) (are_these from to f t)
    (λ x is.
    let both = and_parts (x.from == from) (x.to == to) is in
    λ j. (eqb-true x.from from both.0 j == f) && (eqb-true x.to to both.1 j == t))
    (λ x stays is.
    let both = and_parts (x.from == f) (x.to == t) is in
    (λ j. (from == sym (eqb-true x.from f both.0) j) && (to == sym (eqb-true x.to t both.1) j))
    ∙ (λ j. turned from x.from j && turned to x.to j) ∙ stays) rows

put_in : (q s : Bool) → ((not q && s) || (q || false)) ≡ (q || s)
put_in true s = refl
put_in false s = or_false s

-- and what stands with a new one
pub has_challenge-with : (new : Challenge) (rows : List Challenge) (f t : ℕ)
    → has_challenge (with_challenge new rows) f t ≡ (are_these new.from new.to f t || has_challenge rows f t)
has_challenge-with new rows f t =
    list_any-append (is_between f t) (without_between new.from new.to rows) (new ∷ [])
    ∙ ap (λ b. b || (is_between f t new || false)) (has_challenge-without new.from new.to rows f t)
    ∙ put_in (are_these new.from new.to f t) (has_challenge rows f t)

pub AreOpponents-with : (new : Challenge) (rows : List Challenge) (ones ones' others others' : List Opponents)
    → Lists new.from new.to ones ones' → Lists new.to new.from others others'
    → AreOpponents ones others rows
    → AreOpponents ones' others' (with_challenge new rows)
AreOpponents-with new rows ones ones' others others' one other all = record {
  by_first = λ f t.
      one f t ∙ ap (λ b. are_these new.from new.to f t || b) (all.by_first f t)
      ∙ sym (has_challenge-with new rows f t);
  by_second = λ f t.
      other t f ∙ (λ j. swapped (new.to == t) (new.from == f) j || all.by_second f t j)
      ∙ sym (has_challenge-with new rows f t);
}

known : (q h : Bool) → (q ≡ true → h ≡ true) → (q || h) ≡ h
known true h is = sym (is refl)
known false h is = refl

-- of these two what is said of those two
pub of_these : (says : ℕ → ℕ → Bool) (from to f t : ℕ) (b : Bool) → says from to ≡ b
    → are_these from to f t ≡ true
    → says f t ≡ b
of_these says from to f t b is these =
    let both = and_parts (from == f) (to == t) these in
    (λ j. says (sym (eqb-true from f both.0) j) (sym (eqb-true to t both.1) j)) ∙ is

-- a challenge in place of an older one
pub AreOpponents-again : (new : Challenge) (rows : List Challenge) (ones others : List Opponents)
    → has_challenge rows new.from new.to ≡ true
    → AreOpponents ones others rows
    → AreOpponents ones others (with_challenge new rows)
AreOpponents-again new rows ones others there all =
    let same = λ (f t : ℕ).
    sym
    (has_challenge-with new rows f t
    ∙ known (are_these new.from new.to f t) (has_challenge rows f t)
    (of_these (has_challenge rows) new.from new.to f t true there)) in
    record {
      by_first = λ f t. all.by_first f t ∙ same f t;
      by_second = λ f t. all.by_second f t ∙ same f t;
    }

pub AreOpponents-without : (from to : ℕ) (rows : List Challenge) (ones ones' others others' : List Opponents)
    → Unlists from to ones ones' → Unlists to from others others'
    → AreOpponents ones others rows
    → AreOpponents ones' others' (without_between from to rows)
AreOpponents-without from to rows ones ones' others others' one other all = record {
  by_first = λ f t.
      one f t ∙ ap (λ b. not (are_these from to f t) && b) (all.by_first f t)
      ∙ sym (has_challenge-without from to rows f t);
  by_second = λ f t.
      other t f ∙ (λ j. not (swapped (to == t) (from == f) j) && all.by_second f t j)
      ∙ sym (has_challenge-without from to rows f t);
}

pub AreOpponents-same : (rows : List Challenge) (ones ones' others others' : List Opponents)
    → SaysTheSame ones ones' → SaysTheSame others others'
    → AreOpponents ones others rows
    → AreOpponents ones' others' rows
AreOpponents-same rows ones ones' others others' one other all = record {
  by_first = λ f t. one f t ∙ all.by_first f t;
  by_second = λ f t. other t f ∙ all.by_second f t;
}

back : (q h : Bool) → (q ≡ true → h ≡ false) → (not q && (q || h)) ≡ h
back true h is = sym (is refl)
back false h is = refl

-- one that is listed and goes again
pub SaysTheSame-back : (who other : ℕ) (rows between after : List Opponents) → is_opponent rows who other ≡ false
    → Lists who other rows between → Unlists who other between after
    → SaysTheSame rows after
SaysTheSame-back who other rows between after absent there gone x y =
    gone x y ∙ ap (λ b. not (are_these who other x y) && b) (there x y)
    ∙ back (are_these who other x y) (is_opponent rows x y)
    (of_these (is_opponent rows) who other x y false absent)

-- a challenge that fails goes, and what passes is the same
pub filter-without : (p : Challenge → Bool) (from to : ℕ)
    → ((challenge : Challenge) → is_between from to challenge ≡ true → p challenge ≡ false)
    → (rows : List Challenge)
    → filter p (without_between from to rows) ≡ filter p rows
filter-without p from to fails [] = refl
filter-without p from to fails (x ∷ rows) =
    let left = without_between from to rows in
    elim (is_between from to x)
    as (λ t.
    is_between from to x ≡ t
    → filter p (cond (not t) (x ∷ left) left) ≡ cond (p x) (x ∷ filter p rows) (filter p rows)) [
      | true ↦ λ is.
          filter-without p from to fails rows
          ∙ sym (ap (λ t. cond t (x ∷ filter p rows) (filter p rows)) (fails x is))
      | false ↦ λ _. ap (λ l. cond (p x) (x ∷ l) l) (filter-without p from to fails rows)
    ] refl

-- and there are fewer
pub length-without : (from to : ℕ) (rows : List Challenge) → length (without_between from to rows) < suc (length rows)
length-without from to [] = omega arith
length-without from to (x ∷ rows) =
    let rest = length-without from to rows in
    elim (is_between from to x)
    as (λ t.
    length (cond (not t) (x ∷ without_between from to rows) (without_between from to rows)) < suc (suc (length rows))) [
      | true ↦ omega (arith, rest)
      | false ↦ omega (arith, rest)
    ]

pub fewer-without : (from to : ℕ) (rows : List Challenge) → has_challenge rows from to ≡ true
    → length (without_between from to rows) < length rows
fewer-without from to [] there = absurd (true≢false (sym there))
fewer-without from to (x ∷ rows) there =
    elim (is_between from to x)
    as (λ t.
    t || has_challenge rows from to ≡ true
    → length (cond (not t) (x ∷ without_between from to rows) (without_between from to rows)) < suc (length rows)) [
      | true ↦ λ _. length-without from to rows
      | false ↦ λ h. let rest = fewer-without from to rows h in omega (arith, rest)
    ] there

-- where each challenge's sides pass, all stay
pub all_pass : (p : ℕ → ℕ → Bool) (rows : List Challenge)
    → ((from to : ℕ) → has_challenge rows from to ≡ true → p from to ≡ true)
    → filter (λ challenge. p challenge.from challenge.to) rows ≡ rows
all_pass p [] passes = refl
all_pass p (x ∷ rows) passes =
    let here : p x.from x.to ≡ true =
    passes x.from x.to
    (ap (λ t. t || has_challenge rows x.from x.to)
    (and_from (x.from == x.from) (x.to == x.to) (eq-eqb x.from x.from refl) (eq-eqb x.to x.to refl))) in
    let rest =
    all_pass p rows
    (λ from to there. passes from to (or_right (is_between from to x) (has_challenge rows from to) there))
    in
    (λ j.
    cond (here j) (x ∷ filter (λ challenge. p challenge.from challenge.to) rows)
    (filter (λ challenge. p challenge.from challenge.to) rows))
    ∙ ap (λ l. x ∷ l) rest

-- a number among those of which none passes fails
fails_at : (p : ℕ → Bool) (xs : List ℕ) (y : ℕ) → list_any (λ one. one == y) xs ≡ true → find p xs ≡ None → p y ≡ false
fails_at p [] y there none = absurd (true≢false (sym there))
fails_at p (x ∷ xs) y there none =
    elim (p x) as (λ t. p x ≡ t → cond t (Some x) (find p xs) ≡ None → p y ≡ false) [
      | true ↦ λ _ h. absurd (let bad : Some x ≡ None = h in cc)
      | false ↦ λ fails h.
          elim (x == y)
          as (λ t. (x == y) ≡ t → t || list_any (λ one. one == y) xs ≡ true → p y ≡ false) [
            | true ↦ λ is _. ap p (sym (eqb-true x y is)) ∙ fails
            | false ↦ λ _ more. fails_at p xs y more h
          ] refl there
    ] refl none

-- the one that is found is there, and passes
found_there : (p : ℕ → Bool) (xs : List ℕ) (y : ℕ) → find p xs ≡ Some y
    → (list_any (λ one. one == y) xs ≡ true) × (p y ≡ true)
found_there p [] y found = absurd (let bad : None ≡ Some y = found in cc)
found_there p (x ∷ xs) y found =
    elim (p x)
    as (λ t.
    p x ≡ t → cond t (Some x) (find p xs) ≡ Some y → (list_any (λ one. one == y) (x ∷ xs) ≡ true) × (p y ≡ true)) [
      | true ↦ λ passes h.
          let is : x ≡ y = cc in
          (ap (λ t. t || list_any (λ one. one == y) xs) (eq-eqb x y is), ap p (sym is) ∙ passes)
      | false ↦ λ _ h.
          let rest = found_there p xs y h in
          (or_right (x == y) (list_any (λ one. one == y) xs) rest.0, rest.1)
    ] refl found

true_of_not : (b : Bool) → not b ≡ false → b ≡ true
true_of_not true e = refl
true_of_not false e = absurd (true≢false e)

false_of_not : (b : Bool) → not b ≡ true → b ≡ false
false_of_not true e = absurd (true≢false (sym e))
false_of_not false e = refl

abbrev key : ℕ → ℕ → ChallengeKey
key from to = record { from = from; to = to }

-- a challenge by a player or to it that fails doesn't stay
fails_by : (test : ChallengeKey → Bool) (who to : ℕ) → not (test (key who to)) ≡ true
    → stays test who (key who to) ≡ false
fails_by test who to fails =
    (λ j. not (eq-eqb who who refl j || (to == who)) || test (key who to)) ∙ false_of_not (test (key who to)) fails

fails_to : (test : ChallengeKey → Bool) (from who : ℕ) → not (test (key from who)) ≡ true
    → stays test who (key from who) ≡ false
fails_to test from who fails =
    (λ j. not (or_right (from == who) (who == who) (eq-eqb who who refl) j) || test (key from who))
    ∙ false_of_not (test (key from who)) fails

-- one that is found is there, and doesn't stay
pub found_to : (test : ChallengeKey → Bool) (who : ℕ) (rows now : List Challenge) (ones others : List Opponents)
    (shown : List ℕ) (to : ℕ)
    → AreOpponents ones others rows → rows ≡ now → shown ≡ opponents_of ones who
    → Some to ≡ find (λ to. not (test (key who to))) shown
    → (has_challenge now who to ≡ true) × (stays test who (key who to) ≡ false)
found_to test who rows now ones others shown to all same is found =
    let at = found_there (λ to. not (test (key who to))) shown to (sym found) in (
      ap (λ rows. has_challenge rows who to) (sym same) ∙ sym (all.by_first who to)
          ∙ ap (list_any (λ one. one == to)) (sym is) ∙ at.0,
      fails_by test who to at.1,
    )

pub found_from : (test : ChallengeKey → Bool) (who : ℕ) (rows now : List Challenge) (ones others : List Opponents)
    (shown : List ℕ) (from : ℕ)
    → AreOpponents ones others rows → rows ≡ now → shown ≡ opponents_of others who
    → Some from ≡ find (λ from. not (test (key from who))) shown
    → (has_challenge now from who ≡ true) × (stays test who (key from who) ≡ false)
found_from test who rows now ones others shown from all same is found =
    let at = found_there (λ from. not (test (key from who))) shown from (sym found) in (
      ap (λ rows. has_challenge rows from who) (sym same) ∙ sym (all.by_second from who)
          ∙ ap (list_any (λ one. one == from)) (sym is) ∙ at.0,
      fails_to test from who at.1,
    )

-- where none of a player's challenges fails, all stay
pub all_stay : (test : ChallengeKey → Bool) (who : ℕ) (rows : List Challenge) (ones others : List Opponents)
    → AreOpponents ones others rows
    → find (λ to. not (test (key who to))) (opponents_of ones who) ≡ None
    → find (λ from. not (test (key from who))) (opponents_of others who) ≡ None
    → filter (λ challenge. stays test who (whose challenge)) rows ≡ rows
all_stay test who rows ones others all by to = all_pass (λ from to. stays test who (key from to)) rows passes
  where
    by_who : (from t : ℕ) → (from == who) ≡ true → has_challenge rows from t ≡ true → test (key from t) ≡ true
    by_who from t is there =
        let same = eqb-true from who is in
        true_of_not (test (key from t))
        (ap (λ n. not (test (key n t))) same
        ∙ fails_at (λ to. not (test (key who to))) (opponents_of ones who) t
        (all.by_first who t ∙ ap (λ n. has_challenge rows n t) (sym same) ∙ there) by)

    to_who : (from t : ℕ) → (t == who) ≡ true → has_challenge rows from t ≡ true → test (key from t) ≡ true
    to_who from t is there =
        let same = eqb-true t who is in
        true_of_not (test (key from t))
        (ap (λ n. not (test (key from n))) same
        ∙ fails_at (λ from. not (test (key from who))) (opponents_of others who) from
        (all.by_second from who ∙ ap (λ n. has_challenge rows from n) (sym same) ∙ there) to)

    passes : (from t : ℕ) → has_challenge rows from t ≡ true → stays test who (key from t) ≡ true
    passes from t there =
        elim (from == who) as (λ a. (from == who) ≡ a → (not (a || (t == who)) || test (key from t)) ≡ true) [
          | true ↦ λ is. by_who from t is there
          | false ↦ λ _.
              elim (t == who) as (λ b. (t == who) ≡ b → (not b || test (key from t)) ≡ true) [
                | true ↦ λ is. to_who from t is there
                | false ↦ λ _. refl
              ] refl
        ] refl

-- a challenge between two players has their key
pub key_between : (from to : ℕ) (challenge : Challenge) → is_between from to challenge ≡ true
    → whose challenge ≡ record { from = from; to = to }
key_between from to challenge is =
    let both = and_parts (challenge.from == from) (challenge.to == to) is in
    λ j. record { from = eqb-true challenge.from from both.0 j; to = eqb-true challenge.to to both.1 j }

-- of a player whose challenges all go the others stay
pub none_passes : (who : ℕ) (rows : List Challenge)
    → filter (λ challenge. stays (λ _. false) who (whose challenge)) rows
    ≡ filter (λ challenge. not ((challenge.from == who) || (challenge.to == who))) rows
none_passes who rows = λ j.
    filter (λ challenge. or_false (not ((challenge.from == who) || (challenge.to == who))) j) rows
