-- The seeks of members: some go, one comes, and how many there are.
use Rattle.std.proofs.Common.{◌≡◌, ◌≢◌, ℕ, ◌+◌, ◌-◌, ◌*◌, ◌<◌, ◌≤◌, zero, suc, Bool, true, false, not, cond, eqb, leb, List, [], ◌∷◌, None, length, take, drop, refl, sym, ap, subst, ◌∙◌, arith, rules, tests}
use Rattle.std.specs.Prelude.{All, Contains}
use Rattle.std.specs.List.{count_by, filter, insert}
use Rattle.std.proofs.lemmas.Bool.{eqb-true, eqb-false, not-true}
use Rattle.std.proofs.lemmas.List.Elements.{All-append, All-cons, All-drop, All-filter, All-head, All-take, All-weaker}
use Rattle.std.proofs.lemmas.List.Sums.{sum_by-cons, sum_by-insert}
use Rattle.chess_model.specs.declared.variant.Terms.{Terms}
use Rattle.seek_match.specs.declared.seek.Seek.{Seek}
use Rattle.seek_match.specs.Seeks.{is_by, next_number, posting, without_seeks_of}
use Rattle.seek_match.proofs.Rising.{RiseAbove-filter, RiseAbove-insert, first_gap-above, first_gap-within}
use Rattle.lobby_state.specs.Pairing.{needs_partners}
use Rattle.lobby_state.specs.Terms.{AreTerms}
use Rattle.lobby_state.specs.WellFormed.{AreSeeksOf, IsByMember}
use Rattle.lobby_state.proofs.Lists.{All-filter_passing, Contains-filter}

-- ---- counting

counted : {X : Type 0} (b : Bool) (n c : ℕ) (x : X) (us : List X) → n ≡ c + length us
    → suc n ≡ (cond b 1 0 + c) + length (cond (not b) (x ∷ us) us)
counted true n c x us e = omega (arith, e)
counted false n c x us e = omega (arith, e)

-- a list is as long as what passes and what doesn't
length-parted : {X : Type 0} (p : X → Bool) (xs : List X)
    → length xs ≡ count_by p xs + length (filter (λ x. not (p x)) xs)
length-parted p [] = refl
length-parted p (x ∷ xs) =
    counted (p x) (length xs) (count_by p xs) x (filter (λ x. not (p x)) xs) (length-parted p xs)
    ∙ ap (λ n. n + length (filter (λ x. not (p x)) (x ∷ xs))) (sym (sum_by-cons (λ y. cond (p y) 1 0) x xs))

kept_less : {X : Type 0} (p : X → Bool) (b : Bool) (x : X) (us : List X) (n : ℕ) → count_by p us ≤ n
    → count_by p (cond b (x ∷ us) us) ≤ cond (p x) 1 0 + n
kept_less p true x us n h =
    subst (λ m. m ≤ cond (p x) 1 0 + n) (sym (sum_by-cons (λ y. cond (p y) 1 0) x us)) (omega (arith, h))
kept_less p false x us n h = omega (arith, h)

-- no more pass of what is kept
count_by-filter : {X : Type 0} (p q : X → Bool) (xs : List X) → count_by p (filter q xs) ≤ count_by p xs
count_by-filter p q [] = omega arith
count_by-filter p q (x ∷ xs) =
    subst (λ m. count_by p (filter q (x ∷ xs)) ≤ m) (sym (sum_by-cons (λ y. cond (p y) 1 0) x xs))
    (kept_less p (q x) x (filter q xs) (count_by p xs) (count_by-filter p q xs))

-- ---- what changes

-- some seeks go
pub AreSeeksOf-filter : (sessions : List ℕ) (p : Seek → Bool) (seeks : List Seek) → AreSeeksOf sessions seeks
    → AreSeeksOf sessions (filter p seeks)
AreSeeksOf-filter sessions p seeks h = record {
  numbers = RiseAbove-filter p 0 seeks h.numbers;
  members = All-filter p (IsByMember sessions) seeks h.members;
  few = λ session.
      let less = count_by-filter (is_by session None) p seeks in
      let most = h.few session in
      omega (arith, less, most);
}

-- there are more members
pub AreSeeksOf-more : (sessions more : List ℕ) (seeks : List Seek) → ((s : ℕ) → Contains sessions s → Contains more s)
    → AreSeeksOf sessions seeks
    → AreSeeksOf more seeks
AreSeeksOf-more sessions more seeks step h = record {
  numbers = h.numbers;
  members =
      All-weaker (IsByMember sessions) (IsByMember more)
      (λ seek by. record { by = step seek.by by.by; for_two = by.for_two; terms = by.terms }) seeks h.members;
  few = h.few;
}

-- a member goes with its seeks
pub AreSeeksOf-without : (sessions : List ℕ) (session : ℕ) (seeks : List Seek) → AreSeeksOf sessions seeks
    → AreSeeksOf (filter (λ s. not (eqb s session)) sessions) (without_seeks_of session seeks)
AreSeeksOf-without sessions session seeks h =
    let stays : ℕ → Bool = λ s. not (eqb s session) in
    let left = AreSeeksOf-filter sessions (λ seek. not (is_by session None seek)) seeks h in
    record {
      numbers = left.numbers;
      members =
          All-filter_passing (IsByMember sessions) (IsByMember (filter stays sessions))
          (λ seek. not (is_by session None seek))
          (λ seek passes by.
          record { by = Contains-filter stays sessions seek.by passes by.by; for_two = by.for_two; terms = by.terms })
          seeks h.members;
      few = left.few;
    }

-- ---- how many there are

Contains-behind : (s x : ℕ) (ss : List ℕ) → x ≢ s → Contains (s ∷ ss) x → Contains ss x
Contains-behind s x ss other (zero, inside, e) = absurd (other (sym e))
Contains-behind s x ss other (suc k, inside, e) = (k, omega (arith, inside), e)

none_of_nobody : (seeks : List Seek) → All (λ seek. Contains [] seek.by) seeks → length seeks ≤ 0
none_of_nobody [] h = omega arith
none_of_nobody (seek ∷ seeks) h =
    let nowhere = All-head (λ (s : Seek). Contains [] s.by) seek seeks h in
    absurd (omega (arith, nowhere.1))

-- where each of so many has at most three, there are at most three times as many
length-few : (sessions : List ℕ) (seeks : List Seek) → All (λ seek. Contains sessions seek.by) seeks
    → ((s : ℕ) → count_by (is_by s None) seeks ≤ 3)
    → length seeks ≤ length sessions * 3
length-few [] seeks by few = none_of_nobody seeks by
length-few (s ∷ ss) seeks by few =
    let others = filter (λ seek. not (is_by s None seek)) seeks in
    let parts = length-parted (is_by s None) seeks in
    let own = few s in
    let theirs : All (λ seek. Contains ss seek.by) others =
    All-filter_passing (λ (seek : Seek). Contains (s ∷ ss) seek.by) (λ (seek : Seek). Contains ss seek.by)
    (λ seek. not (is_by s None seek))
    (λ seek passes there. Contains-behind s seek.by ss (eqb-false seek.by s (not-true (eqb seek.by s) passes)) there)
    seeks by in
    let rest =
    length-few ss others theirs
    (λ t.
    let less = count_by-filter (is_by t None) (λ seek. not (is_by s None seek)) seeks in let most = few t in
    omega (arith, less, most)) in
    omega (arith, parts, own, rest)

-- and so there is always a number left
pub has_numbers_left : (sessions : List ℕ) (seeks : List Seek) → length sessions ≤ 256 → AreSeeksOf sessions seeks
    → length seeks < 65535
has_numbers_left sessions seeks full h =
    let all =
    length-few sessions seeks
    (All-weaker (IsByMember sessions) (λ (seek : Seek). Contains sessions seek.by) (λ seek by. by.by) seeks h.members)
    h.few in
    omega (arith, full, all)

-- ---- one more

fewer_than_three : (n : ℕ) → leb 3 n ≡ false → n < 3
fewer_than_three n h = search (rules, tests)

one_more : (b : Bool) (n m : ℕ) → m ≡ n + cond b 1 0 → n ≤ 3 → (b ≡ true → n < 3) → m ≤ 3
one_more true n m e most less = let few = less refl in omega (arith, e, few)
one_more false n m e most less = omega (arith, e, most)

-- a member who has fewer than three seeks posts another, of a game that two can play
pub AreSeeksOf-posted : (sessions : List ℕ) (session : ℕ) (terms : Terms) (seeks : List Seek) → length sessions ≤ 256
    → Contains sessions session
    → needs_partners terms.variant ≡ false → AreTerms terms → leb 3 (count_by (is_by session None) seeks) ≡ false
    → AreSeeksOf sessions seeks
    → AreSeeksOf sessions (posting seeks session terms).after
AreSeeksOf-posted sessions session terms seeks full there two bounds room h =
    let number = next_number seeks in
    let new : Seek = record { number = number; by = session; terms = terms } in
    let left = has_numbers_left sessions seeks full h in
    let above = first_gap-above seeks 1 in
    let within = first_gap-within seeks 1 in
    let place : number ≡ 0 + 1 + (number - 1) = omega (arith, above) in
    record {
      numbers = RiseAbove-insert seeks 0 (number - 1) new h.numbers place (omega (arith, left, within)) refl;
      members = All-append (IsByMember sessions) (take (number - 1) seeks) (new ∷ drop (number - 1) seeks)
          (All-take (IsByMember sessions) (number - 1) seeks h.members)
          (All-cons (IsByMember sessions) new (drop (number - 1) seeks) (record {
            by = there;
            for_two = two;
            terms = bounds;
          })
          (All-drop (IsByMember sessions) (number - 1) seeks h.members));
      few = λ s.
          one_more (is_by s None new) (count_by (is_by s None) seeks)
          (count_by (is_by s None) (insert seeks (number - 1) new))
          (sum_by-insert (λ seek. cond (is_by s None seek) 1 0) seeks (number - 1) new) (h.few s)
          (λ own.
          fewer_than_three _ (ap (λ t. leb 3 (count_by (is_by t None) seeks)) (sym (eqb-true session s own)) ∙ room));
    }
