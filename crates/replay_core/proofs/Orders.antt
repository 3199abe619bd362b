-- What follows where each line may come after those before it.
use Rattle.std.proofs.Common.{◌||◌, ◌≡◌, ◌↔◌, Bool, true, false, not, ◌&&◌, eqb, leb, ℕ, ◌≤◌, List, [], ◌∷◌, ◌++◌, append_assoc, refl, sym, ◌∙◌, ap, subst}
use Rattle.std.specs.List.{list_any}
use Rattle.std.proofs.lemmas.Bool.{eq-eqb, or_left, and_from}
use Rattle.std.proofs.lemmas.List.{append-nil}
use Rattle.std.proofs.lemmas.List.Elements.{recursion_from_All}
use Rattle.std.proofs.lemmas.List.Folds.{list_any-append}
use Rattle.replay_core.specs.Order.{Arrival, LineMayCome, FollowInOrder, IsInOrder, KeepOrder, is_connect, is_connected, leaves}
use Rattle.fics_words.proofs.Each.{each-back}

-- ---- by steps

one_step : (seats : ℕ) (lines later : List Arrival) (next : Arrival)
    → FollowInOrder seats lines (later ++ next ∷ [])
    ↔ (FollowInOrder seats lines later × LineMayCome seats (lines ++ later) next.line)
one_step seats lines [] next =
    let none : lines ++ [] ≡ lines = append-nil lines in (
      λ h. (tt, subst (λ (l : List Arrival). LineMayCome seats l next.line) (sym none) h.0),
      λ h. (subst (λ (l : List Arrival). LineMayCome seats l next.line) none h.1, tt),
    )
one_step seats lines (first ∷ later) next =
    let step = one_step seats (lines ++ first ∷ []) later next in
    let same : lines ++ first ∷ [] ++ later ≡ lines ++ (first ∷ later) = append_assoc lines (first ∷ []) later in (
      λ h.
          let rest = step.0 h.1 in
          ((h.0, rest.0), subst (λ (l : List Arrival). LineMayCome seats l next.line) same rest.1),
      λ h. (h.0.0, step.1 (h.0.1, subst (λ (l : List Arrival). LineMayCome seats l next.line) (sym same) h.1)),
    )

pub order_by_steps : (seats : ℕ) (lines : List Arrival) (next : Arrival)
    → IsInOrder seats (lines ++ next ∷ []) ↔ (IsInOrder seats lines × LineMayCome seats lines next.line)
order_by_steps seats lines next = one_step seats [] lines next

-- a line in the midst may come after those before it
follows_at : (seats : ℕ) (lines before : List Arrival) (next : Arrival) (after : List Arrival)
    → FollowInOrder seats lines (before ++ next ∷ after) → LineMayCome seats (lines ++ before) next.line
follows_at seats lines [] next after h =
    subst (λ (l : List Arrival). LineMayCome seats l next.line) (sym (append-nil lines)) h.0
follows_at seats lines (first ∷ before) next after h =
    let same : lines ++ first ∷ [] ++ before ≡ lines ++ (first ∷ before) = append_assoc lines (first ∷ []) before in
    subst (λ (l : List Arrival). LineMayCome seats l next.line) same
    (follows_at seats (lines ++ first ∷ []) before next after h.1)

-- ---- of two

-- a session that did anything is connected
found : (seated earlier same connects later : Bool) → same ≡ true → connects ≡ not (seated || earlier)
    → (seated || (earlier || ((same && connects) || later))) ≡ true
found true earlier same connects later s c = refl
found false true same connects later s c = refl
found false false same connects later s c = or_left (same && connects) later (and_from same connects s c)

-- and it didn't leave where nothing left
stayed : (earlier same leaves later : Bool) → same ≡ true → (earlier || ((same && leaves) || later)) ≡ false
    → leaves ≡ false
stayed true same leaves later s e = absurd cc
stayed false true true later s e = absurd cc
stayed false true false later s e = refl
stayed false false leaves later s e = absurd cc

pub order_of_two : (seats : ℕ) (before between after : List Arrival) (one other : Arrival)
    → IsInOrder seats (before ++ one ∷ (between ++ other ∷ after)) → KeepOrder one other
order_of_two seats before between after one other h =
    let session = other.line.session in
    let first : LineMayCome seats before one.line = follows_at seats [] before one (between ++ other ∷ after) h in
    let regrouped : before ++ one ∷ (between ++ other ∷ after) ≡ before ++ (one ∷ between) ++ other ∷ after =
    sym (append_assoc before (one ∷ between) (other ∷ after)) in
    let second : LineMayCome seats (before ++ one ∷ between) other.line =
    follows_at seats [] (before ++ one ∷ between) other after (subst (IsInOrder seats) regrouped h) in
    record {
      moment =
          (each-back (λ came. came.line.moment ≤ other.line.moment) before (one ∷ between)
          (recursion_from_All (λ came. came.line.moment ≤ other.line.moment) (before ++ one ∷ between)
          second.moment)).0;
      stays = λ same.
          let test = λ (came : Arrival). eqb came.line.session session && leaves came in
          let all : (list_any test before || list_any test (one ∷ between)) ≡ false =
          sym (list_any-append test before (one ∷ between)) ∙ second.stays in
          stayed (list_any test before) (eqb one.line.session session) (leaves one) (list_any test between)
          (eq-eqb one.line.session session same) all;
      connects = λ same.
          let test = λ (came : Arrival). eqb came.line.session session && is_connect came.line.event in
          let connects : is_connect one.line.event ≡ not (is_connected seats before session) =
          first.connects ∙ ap (λ (s : ℕ). not (is_connected seats before s)) same in
          let here : (leb session seats || (list_any test before || list_any test (one ∷ between))) ≡ true =
          found (leb session seats) (list_any test before) (eqb one.line.session session) (is_connect one.line.event)
          (list_any test between) (eq-eqb one.line.session session same) connects in
          let connected : is_connected seats (before ++ one ∷ between) session ≡ true =
          ap (λ (b : Bool). leb session seats || b) (list_any-append test before (one ∷ between)) ∙ here in
          second.connects ∙ ap not connected;
    }
