-- What leaves the lines that wait for a member where they stand, and puts others behind them at most.
use Rattle.std.proofs.Common.{◌≡◌, ◌≢◌, ℕ, ◌==◌, Bool, true, false, not, cond, List, [], ◌∷◌, ◌++◌, Option, Some, map, filter, refl, sym, ap, subst, ◌∙◌}
use Rattle.std.specs.List.{find}
use Rattle.std.proofs.lemmas.Bool.{eqb-true, false_from_ne_true}
use Rattle.std.proofs.lemmas.List.{append-nil, append_assoc}
use Rattle.channel_feed.specs.Waiting.{is_full as are_full}
use Rattle.tables.specs.Rows.{change_first}
use Rattle.lobby_state.specs.declared.member.Member.{Member}
use Rattle.lobby_state.specs.Broadcast.{broadcast, hearing, hears}
use Rattle.lobby_state.specs.Fetch.{member_emptied}
use Rattle.lobby_state.specs.Lobby.{is_session, lines_in}
use Rattle.lobby_state.specs.Match.{member_with_line}
use Rattle.lobby_state.specs.WaitingLines.{BeginsWith}

pub begins_same : (lines : List (List ℕ)) → BeginsWith lines lines
begins_same lines = record { more = []; is = sym (append-nil lines) }

begins_none : (lines : List (List ℕ)) → BeginsWith [] lines
begins_none lines = record { more = lines; is = refl }

pub begins_then : (one two three : List (List ℕ)) → BeginsWith one two → BeginsWith two three → BeginsWith one three
begins_then one two three h k = record {
  more = h.more ++ k.more;
  is = k.is ∙ ap (λ (lines : List (List ℕ)). lines ++ k.more) h.is ∙ append_assoc one h.more k.more;
}

-- the member is the same session's, and its lines begin with those that it had
pub record Longer (old new : Member) : Type 0 where
  pub session : new.session ≡ old.session
  pub lines : BeginsWith old.waiting new.waiting

pub same_lines : (old new : Member) → new.session ≡ old.session → new.waiting ≡ old.waiting → Longer old new
same_lines old new session same =
    record { session = session; lines = subst (BeginsWith old.waiting) (sym same) (begins_same old.waiting) }

line_by : (full : Bool) (line : List ℕ) (lines : List (List ℕ))
    → BeginsWith lines (cond full lines (lines ++ line ∷ []))
line_by true line lines = begins_same lines
line_by false line lines = record { more = line ∷ []; is = refl }

pub one_line : (line : List ℕ) (m : Member) → Longer m (member_with_line line m)
one_line line m = record { session = refl; lines = line_by (are_full m.waiting) line m.waiting }

-- the lines of a member that is found
abbrev pub Kept : ℕ → List Member → List Member → Type 0
Kept session old new = BeginsWith (lines_in (find (is_session session) old)) (lines_in (find (is_session session) new))

kept_by : (b c : Bool) (x y : Member) (old new : Option Member) → c ≡ b → Longer x y
    → BeginsWith (lines_in old) (lines_in new)
    → BeginsWith (lines_in (cond b (Some x) old)) (lines_in (cond c (Some y) new))
kept_by true true x y old new e h rest = h.lines
kept_by false false x y old new e h rest = rest
kept_by true false x y old new e h rest = absurd (let bad : false ≡ true = e in cc)
kept_by false true x y old new e h rest = absurd (let bad : true ≡ false = e in cc)

kept_cons : (session : ℕ) (x y : Member) (xs ys : List Member) → Longer x y → Kept session xs ys
    → Kept session (x ∷ xs) (y ∷ ys)
kept_cons session x y xs ys h rest =
    kept_by (is_session session x) (is_session session y) x y (find (is_session session) xs)
    (find (is_session session) ys)
    (ap (λ (n : ℕ). n == session) h.session) h rest

pub kept_same : (session : ℕ) (xs : List Member) → Kept session xs xs
kept_same session xs = begins_same (lines_in (find (is_session session) xs))

-- all are changed, or the first that passes a test
pub kept_map : (f : Member → Member) → ((m : Member) → Longer m (f m)) → (session : ℕ) (xs : List Member)
    → Kept session xs (map f xs)
kept_map f longer session [] = begins_same []
kept_map f longer session (x ∷ xs) = kept_cons session x (f x) xs (map f xs) (longer x) (kept_map f longer session xs)

change_by : (b : Bool) (p : Member → Bool) (f : Member → Member) → ((m : Member) → Longer m (f m))
    → (session : ℕ) (x : Member) (xs : List Member)
    → Kept session xs (change_first p f xs) → Kept session (x ∷ xs) (cond b (f x ∷ xs) (x ∷ change_first p f xs))
change_by true p f longer session x xs rest = kept_cons session x (f x) xs xs (longer x) (kept_same session xs)
change_by false p f longer session x xs rest =
    kept_cons session x x xs (change_first p f xs) (same_lines x x refl refl) rest

pub kept_change : (p : Member → Bool) (f : Member → Member) → ((m : Member) → Longer m (f m))
    → (session : ℕ) (xs : List Member)
    → Kept session xs (change_first p f xs)
kept_change p f longer session [] = begins_same []
kept_change p f longer session (x ∷ xs) = change_by (p x) p f longer session x xs (kept_change p f longer session xs)

hears_by : (b : Bool) (line : List ℕ) (m : Member) → Longer m (cond b (member_with_line line m) m)
hears_by true line m = one_line line m
hears_by false line m = same_lines m m refl refl

pub kept_broadcast : (test : Member → Bool) (line : List ℕ) (session : ℕ) (xs : List Member)
    → Kept session xs (broadcast test line xs)
kept_broadcast test line session xs = kept_map (hearing test line) (λ m. hears_by (hears test m) line m) session xs

-- one comes in, or another goes
behind_by : (b : Bool) (x : Member) (old new : Option Member) → BeginsWith (lines_in old) (lines_in new)
    → BeginsWith (lines_in (cond b (Some x) old)) (lines_in (cond b (Some x) new))
behind_by true x old new h = begins_same x.waiting
behind_by false x old new h = h

pub kept_behind : (session : ℕ) (xs : List Member) (new : Member) → Kept session xs (xs ++ new ∷ [])
kept_behind session [] new = begins_none (lines_in (find (is_session session) (new ∷ [])))
kept_behind session (x ∷ xs) new =
    behind_by (is_session session x) x (find (is_session session) xs) (find (is_session session) (xs ++ new ∷ []))
    (kept_behind session xs new)

gone_by : (own by : Bool) (p : Member → Bool) (x : Member) (old : Option Member) (left : List Member)
    → (own ≡ true → by ≡ false) → p x ≡ own
    → BeginsWith (lines_in old) (lines_in (find p left))
    → BeginsWith (lines_in (cond own (Some x) old)) (lines_in (find p (cond (not by) (x ∷ left) left)))
gone_by true true p x old left other e h = let bad : true ≡ false = other refl in cc
gone_by true false p x old left other e h =
    subst (λ (b : Bool). BeginsWith x.waiting (lines_in (cond b (Some x) (find p left)))) (sym e)
    (begins_same x.waiting)
gone_by false true p x old left other e h = h
gone_by false false p x old left other e h =
    subst (λ (b : Bool). BeginsWith (lines_in old) (lines_in (cond b (Some x) (find p left)))) (sym e) h

other_by : (by session number : ℕ) → by ≢ session → (number == session) ≡ true → (number == by) ≡ false
other_by by session number differ e =
    false_from_ne_true (number == by) (λ f. differ (sym (eqb-true number by f) ∙ eqb-true number session e))

pub kept_gone : (by session : ℕ) (xs : List Member) → by ≢ session
    → Kept session xs (filter (λ m. not (is_session by m)) xs)
kept_gone by session [] differ = begins_same []
kept_gone by session (x ∷ xs) differ =
    gone_by (is_session session x) (is_session by x) (is_session session) x (find (is_session session) xs)
    (filter (λ m. not (is_session by m)) xs)
    (other_by by session x.session differ) refl (kept_gone by session xs differ)

-- another takes those that wait for it
away_by : (own : Bool) (x y : Member) (old : Option Member) → own ≡ false
    → BeginsWith (lines_in (cond own (Some x) old)) (lines_in (cond own (Some y) old))
away_by true x y old e = absurd (let bad : true ≡ false = e in cc)
away_by false x y old e = begins_same (lines_in old)

fetch_by : (b : Bool) (by session : ℕ) (x : Member) (xs : List Member) → is_session by x ≡ b → by ≢ session
    → Kept session xs (change_first (is_session by) member_emptied xs)
    → Kept session (x ∷ xs) (cond b (member_emptied x ∷ xs) (x ∷ change_first (is_session by) member_emptied xs))
fetch_by true by session x xs e differ rest =
    away_by (is_session session x) x (member_emptied x) (find (is_session session) xs)
    (false_from_ne_true (is_session session x)
    (λ own. differ (sym (eqb-true x.session by e) ∙ eqb-true x.session session own)))
fetch_by false by session x xs e differ rest =
    kept_cons session x x xs (change_first (is_session by) member_emptied xs) (same_lines x x refl refl) rest

pub kept_fetched : (by session : ℕ) (xs : List Member) → by ≢ session
    → Kept session xs (change_first (is_session by) member_emptied xs)
kept_fetched by session [] differ = begins_same []
kept_fetched by session (x ∷ xs) differ =
    fetch_by (is_session by x) by session x xs refl differ (kept_fetched by session xs differ)
