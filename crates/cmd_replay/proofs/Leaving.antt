-- Sessions that leave one after the other.
use Rattle.std.proofs.Common.{◌≡◌, ℕ, ◌+◌, ◌-◌, ◌<◌, ◌≤◌, Bool, true, false, cond, length, get_or, slice_get, slice_set, Some, List, [], ◌∷◌, ◌++◌, map-id, filter, append_assoc, append-nil, refl, sym, ap, subst, ◌∙◌, arith}
use Rattle.std.specs.List.{range_with_len}
use Rattle.std.proofs.lemmas.List.FromFn.{filter_of_map_range_with_len_more}
use Rattle.std.proofs.lemmas.List.{get_or-set_other, length-set}
use Rattle.std.proofs.lemmas.Option.{get_or_from_slice_get}
use Rattle.one_server.specs.Running.{Log}
use Rattle.one_server.specs.Server.{ServerState}
use Rattle.replay_core.specs.declared.order.Attendance.{Attendance}
use Rattle.replay_core.specs.Order.{Arrival, is_here}
use Rattle.replay_core.specs.Attendance.{IsAfter}
use Rattle.session_core.specs.Course.{Follows}
use Rattle.session_core.specs.Memory.{MemoryState, newcomer}
use Rattle.session_core.specs.Going.{departing}
use Rattle.cmd_replay.specs.Evening.{AfterLeaving, HasGone, LeaveInOrder}

-- one session more leaves
leave-push : (remember : ℕ → MemoryState) (moment : ℕ) (sessions : List ℕ) (session : ℕ) (made own : Log)
    (last : MemoryState)
    → LeaveInOrder remember moment sessions made
    → Follows (departing (remember session)) session moment own [] last
    → LeaveInOrder remember moment (sessions ++ session ∷ []) (made ++ own)
leave-push remember moment [] session made own last h f =
    (own, [], last, ap (λ (m : Log). m ++ own) h ∙ sym (append-nil own), f, refl)
leave-push remember moment (first ∷ sessions) session made own last h f = (
  h.0,
  h.1 ++ own,
  h.2,
  ap (λ (m : Log). m ++ own) h.3 ∙ append_assoc h.0 h.1 own,
  h.4,
  leave-push remember moment sessions session h.1 own last h.5 f,
)

-- one number more is looked at
filter-range : (test : ℕ → Bool) (count : ℕ)
    → filter test (range_with_len 1 (count + 1))
    ≡ filter test (range_with_len 1 count) ++ cond (test (count + 1)) ((count + 1) ∷ []) []
filter-range test count =
    ap (filter test) (sym (map-id (range_with_len 1 (count + 1))))
    ∙ filter_of_map_range_with_len_more test (λ (k : ℕ). k) 1 count (count + 1) (omega arith)
    ∙ ap (λ (xs : List ℕ). filter test xs ++ cond (test (count + 1)) ((count + 1) ∷ []) [])
    (map-id (range_with_len 1 count))

-- whether the session is here
abbrev pub Tells : Attendance → ℕ → Bool → Type 0
Tells progress session here =
    (seated : ℕ) (lines : List Arrival) → IsAfter progress seated lines → here ≡ is_here seated lines session

-- the memories as they are once the first so many sessions may have been given theirs: the others are as they were
pub record AreLeft (memories now : List MemoryState) (gone : ℕ) : Type 0 where
  pub count : length now ≡ length memories
  pub rest : (place : ℕ) (d : MemoryState) → gone ≤ place → get_or now place d ≡ get_or memories place d

-- the memory of one more was given away, or wasn't
pub left_one : (memories now : List MemoryState) (gone : ℕ) (x : MemoryState) → AreLeft memories now gone
    → AreLeft memories (slice_set now gone x) (gone + 1)
left_one memories now gone x h = record {
  count = length-set now gone x ∙ h.count;
  rest = λ place d low.
      get_or-set_other now gone place x d (λ e. omega (arith, e, low)) ∙ h.rest place d (omega (arith, low));
}

pub left_none : (memories now : List MemoryState) (gone : ℕ) → AreLeft memories now gone
    → AreLeft memories now (gone + 1)
left_none memories now gone h = record { count = h.count; rest = λ place d low. h.rest place d (omega (arith, low)) }

-- the next session was here, and has left
pub one_leaves : (progress : Attendance) (memories now : List MemoryState) (memory last : MemoryState)
    (moment place : ℕ) (old mid new : ServerState) (here : Bool)
    → Tells progress (place + 1) here → here ≡ true → place < 64
    → AfterLeaving progress memories moment place old mid → AreLeft memories now place
    → slice_get now place ≡ Some memory → HasGone memory (place + 1) moment mid new last
    → AfterLeaving progress memories moment (place + 1) old new
one_leaves progress memories now memory last moment place old mid new here tells is_so low before left took gone seated
    lines remember after are =
    let back : place + 1 - 1 ≡ place = omega arith in
    let earlier = before seated lines remember after are in
    let knew : memory ≡ remember (place + 1) =
    sym (get_or_from_slice_get now place memory newcomer took)
    ∙ left.rest place newcomer (omega arith)
    ∙ get_or_from_slice_get memories place (remember (place + 1)) newcomer
    (ap (slice_get memories) (sym back) ∙ are.each (place + 1) (omega arith) (omega (arith, low))) in
    let is : is_here seated lines (place + 1) ≡ true = sym (tells seated lines after) ∙ is_so in
    let sessions : filter (is_here seated lines) (range_with_len 1 (place + 1))
    ≡ filter (is_here seated lines) (range_with_len 1 place) ++ (place + 1) ∷ [] =
    filter-range (is_here seated lines) place
    ∙ ap (λ (b : Bool). filter (is_here seated lines) (range_with_len 1 place) ++ cond b ((place + 1) ∷ []) []) is in (
      earlier.0 ++ gone.entries,
      gone.more ∙ ap (λ (s : ServerState). record s { log = s.log ++ gone.entries }) earlier.1
          ∙ ap (λ (l : Log). record old { log = l }) (append_assoc old.log earlier.0 gone.entries),
      subst (λ (xs : List ℕ). LeaveInOrder remember moment xs (earlier.0 ++ gone.entries)) (sym sessions)
          (leave-push remember moment (filter (is_here seated lines) (range_with_len 1 place)) (place + 1) earlier.0
          gone.entries last earlier.2
          (subst (λ (m : MemoryState). Follows (departing m) (place + 1) moment gone.entries [] last) knew
          gone.follows)),
    )

-- the next session wasn't here
pub one_stays : (progress : Attendance) (memories : List MemoryState) (moment place : ℕ) (old mid : ServerState)
    (here : Bool)
    → Tells progress (place + 1) here → here ≡ false
    → AfterLeaving progress memories moment place old mid → AfterLeaving progress memories moment (place + 1) old mid
one_stays progress memories moment place old mid here tells is_not before seated lines remember after are =
    let earlier = before seated lines remember after are in
    let is : is_here seated lines (place + 1) ≡ false = sym (tells seated lines after) ∙ is_not in
    let sessions : filter (is_here seated lines) (range_with_len 1 (place + 1))
    ≡ filter (is_here seated lines) (range_with_len 1 place) =
    filter-range (is_here seated lines) place
    ∙ ap (λ (b : Bool). filter (is_here seated lines) (range_with_len 1 place) ++ cond b ((place + 1) ∷ []) []) is
    ∙ append-nil (filter (is_here seated lines) (range_with_len 1 place)) in
    (earlier.0, earlier.1, subst (λ (xs : List ℕ). LeaveInOrder remember moment xs earlier.0) (sym sessions) earlier.2)
