-- The counters by the weights of the acts, and the weight of a history by those of its sessions.
use Rattle.std.proofs.Common.{◌≡◌, ◌≢◌, ℕ, zero, suc, ◌+◌, ◌%◌, ◌^◌, ◌<◌, ◌≤◌, cond, eqb, List, [], ◌∷◌, ◌++◌, refl, ap, sym, subst, ◌∙◌, arith, eq-eqb, ne_eqb}
use Rattle.histories.specs.declared.entry.Entry.{Entry}
use Rattle.histories.specs.Core.{after}
use Rattle.histories.specs.History.{calls_of, state}
use Rattle.turn_table.proofs.Among.{split_on}
use Rattle.turn_table.proofs.Passing.{split_lt}
use Rattle.turn_counters.specs.declared.bump.Bump.{Bump}
use Rattle.turn_counters.specs.declared.bump.Bump.TheVariants.{First, Both}
use Rattle.turn_counters.specs.Counters.{counters, more}
use Rattle.turn_workers.specs.Many.{weigh}

abbrev pub each : Bump → ℕ
each a = 1

abbrev pub both : Bump → ℕ
both First = 0
both Both = 1

pub weigh_append : (f : Bump → ℕ) (es fs : List (Entry Bump ℕ)) → weigh f (es ++ fs) ≡ weigh f es + weigh f fs
weigh_append f [] fs = omega arith
weigh_append f (e ∷ es) fs = let h = weigh_append f es fs in omega arith

carried : (x w : ℕ) → ((x + 1) % 2 ^ 64 + w) % 2 ^ 64 ≡ (x + (1 + w)) % 2 ^ 64
carried x w = omega arith

small_more : (x : ℕ) → (x + 1) % 2 ^ 64 < 2 ^ 64
small_more x = omega arith

after_first : (x y k : ℕ) → after counters (x ∷ y ∷ []) k First ≡ more x ∷ y ∷ []
unfolding after
after_first x y k = refl

after_both : (x y k : ℕ) → after counters (x ∷ y ∷ []) k Both ≡ more x ∷ more y ∷ []
unfolding after
after_both x y k = refl

counts_by : (e : Entry Bump ℕ) (es : List (Entry Bump ℕ))
    → ((x y : ℕ) → x < 2 ^ 64 → y < 2 ^ 64
    → state counters (x ∷ y ∷ []) es ≡ (x + weigh each es) % 2 ^ 64 ∷ (y + weigh both es) % 2 ^ 64 ∷ [])
    → (x y : ℕ) → x < 2 ^ 64 → y < 2 ^ 64 → (a : Bump) → e.act ≡ a
    → state counters (after counters (x ∷ y ∷ []) e.session e.act) es
    ≡ (x + (each e.act + weigh each es)) % 2 ^ 64 ∷ (y + (both e.act + weigh both es)) % 2 ^ 64 ∷ []
counts_by e es rec x y hx hy First is =
    let h = rec (more x) y (small_more x) hy in
    let c = carried x (weigh each es) in
    let d : both e.act ≡ 0 = ap both is in
    let p : y + (both e.act + weigh both es) ≡ y + weigh both es = omega arith in
    ap (λ zs. state counters zs es) (ap (λ a. after counters (x ∷ y ∷ []) e.session a) is ∙ after_first x y e.session)
    ∙ (h ∙ (λ i. c i ∷ (sym p i) % 2 ^ 64 ∷ []))
counts_by e es rec x y hx hy Both is =
    let h = rec (more x) (more y) (small_more x) (small_more y) in
    let c = carried x (weigh each es) in
    let d : both e.act ≡ 1 = ap both is in
    let p : y + (both e.act + weigh both es) ≡ y + (1 + weigh both es) = omega arith in
    let q : (more y + weigh both es) % 2 ^ 64 ≡ (y + (both e.act + weigh both es)) % 2 ^ 64 =
    carried y (weigh both es) ∙ ap (λ n. n % 2 ^ 64) (sym p) in
    ap (λ zs. state counters zs es) (ap (λ a. after counters (x ∷ y ∷ []) e.session a) is ∙ after_both x y e.session)
    ∙ (h ∙ (λ i. c i ∷ q i ∷ []))

-- each counter is the number of acts that added to it
pub counts : (es : List (Entry Bump ℕ)) (x y : ℕ) → x < 2 ^ 64 → y < 2 ^ 64
    → state counters (x ∷ y ∷ []) es ≡ (x + weigh each es) % 2 ^ 64 ∷ (y + weigh both es) % 2 ^ 64 ∷ []
counts [] x y hx hy =
    let a : x ≡ (x + 0) % 2 ^ 64 = omega arith in let b : y ≡ (y + 0) % 2 ^ 64 = omega arith in λ i. a i ∷ b i ∷ []
counts (e ∷ es) x y hx hy = counts_by e es (counts es) x y hx hy e.act refl

-- the weights of the calls of the sessions from 0 to s
abbrev pub sums : (Bump → ℕ) → List (Entry Bump ℕ) → ℕ → ℕ
sums f es zero = weigh f (calls_of 0 es)
sums f es (suc s) = sums f es s + weigh f (calls_of (suc s) es)

own_weight : (f : Bump → ℕ) (e : Entry Bump ℕ) (es : List (Entry Bump ℕ)) (m : ℕ) → e.session ≡ m
    → weigh f (calls_of m (e ∷ es)) ≡ f e.act + weigh f (calls_of m es)
own_weight f e es m h = ap (λ b. weigh f (cond b (e ∷ calls_of m es) (calls_of m es))) (eq-eqb e.session m h)

other_weight : (f : Bump → ℕ) (e : Entry Bump ℕ) (es : List (Entry Bump ℕ)) (m : ℕ) → e.session ≢ m
    → weigh f (calls_of m (e ∷ es)) ≡ weigh f (calls_of m es)
other_weight f e es m h = ap (λ b. weigh f (cond b (e ∷ calls_of m es) (calls_of m es))) (ne_eqb e.session m h)

sums_other : (f : Bump → ℕ) (e : Entry Bump ℕ) (es : List (Entry Bump ℕ)) (s : ℕ) → s < e.session
    → sums f (e ∷ es) s ≡ sums f es s
sums_other f e es zero h = other_weight f e es 0 (λ d. omega arith)
sums_other f e es (suc s) h =
    let a = sums_other f e es s (omega arith) in let b = other_weight f e es (suc s) (λ d. omega arith) in omega arith

sums_own : (f : Bump → ℕ) (e : Entry Bump ℕ) (es : List (Entry Bump ℕ)) (s : ℕ) → e.session ≤ s
    → sums f (e ∷ es) s ≡ f e.act + sums f es s
sums_own f e es zero h = own_weight f e es 0 (omega arith)
sums_own f e es (suc s) h = split_on e.session (suc s)
    (λ d. let a = sums_other f e es s (omega arith) in let b = own_weight f e es (suc s) d in omega arith)
    (λ d. let a = sums_own f e es s (omega arith) in let b = other_weight f e es (suc s) d in omega arith)

sums_none : (f : Bump → ℕ) (s : ℕ) → sums f [] s ≡ 0
sums_none f zero = refl
sums_none f (suc s) = let h = sums_none f s in omega arith

-- an entry's session has a call
pub session_there : (e : Entry Bump ℕ) (es : List (Entry Bump ℕ)) → calls_of e.session (e ∷ es) ≡ [] → ⊥
session_there e es h =
    let g : cond (eqb e.session e.session) (e ∷ calls_of e.session es) (calls_of e.session es) ≡ [] = h in
    let k : e ∷ calls_of e.session es ≡ [] =
    subst (λ b. cond b (e ∷ calls_of e.session es) (calls_of e.session es) ≡ []) (eq-eqb e.session e.session refl) g in
    cc

pub none_after : (e : Entry Bump ℕ) (es : List (Entry Bump ℕ)) (m : ℕ) → calls_of m (e ∷ es) ≡ [] → calls_of m es ≡ []
none_after e es m h = split_on e.session m
    (λ d. absurd (session_there e es (ap (λ k. calls_of k (e ∷ es)) d ∙ h)))
    (λ d. ap (λ b. cond b (e ∷ calls_of m es) (calls_of m es)) (sym (ne_eqb e.session m d)) ∙ h)

below : (e : Entry Bump ℕ) (es : List (Entry Bump ℕ)) (s : ℕ) → ((m : ℕ) → s < m → calls_of m (e ∷ es) ≡ [])
    → e.session ≤ s
below e es s none = split_lt s e.session (λ far. absurd (session_there e es (none e.session far))) (λ near. near)

-- the weight of a history is that of the calls of its sessions
pub weigh_sessions : (f : Bump → ℕ) (es : List (Entry Bump ℕ)) (s : ℕ) → ((m : ℕ) → s < m → calls_of m es ≡ [])
    → weigh f es ≡ sums f es s
weigh_sessions f [] s none = sym (sums_none f s)
weigh_sessions f (e ∷ es) s none =
    let h = weigh_sessions f es s (λ m r. none_after e es m (none m r)) in
    let g = sums_own f e es s (below e es s none) in
    omega arith
