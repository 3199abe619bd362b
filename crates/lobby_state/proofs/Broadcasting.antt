-- A broadcast goes from member to member, and what a broadcast leaves well-formed.
use Rattle.std.proofs.Common.{◌≡◌, ℕ, ◌+◌, ◌<◌, Bool, true, false, not, cond, List, [], ◌∷◌, ◌++◌, Some, length, take, drop, slice_get, refl, sym, ap, ◌∙◌, arith}
use Rattle.std.proofs.Math.ListN.{set}
use Rattle.std.proofs.lemmas.Bool.{and_parts, not-true}
use Rattle.std.proofs.lemmas.List.{append_assoc, drop-set, drop-set-lt, set-set, take_more_set}
use Rattle.std.proofs.lemmas.List.Sums.{sum_by-cons}
use Rattle.std.proofs.lemmas.Option.{slice_get_within}
use Rattle.channel_feed.specs.Waiting.{with_line as with_one_more, without_last}
use Rattle.channel_feed.proofs.TakenBack.{without_last-with_line}
use Rattle.fics_words.specs.Handle.{key_of}
use Rattle.lobby_state.specs.declared.member.Member.{Member}
use Rattle.lobby_state.specs.Broadcast.{broadcast, heard, hears, hearing}
use Rattle.lobby_state.specs.Lobby.{LobbyState}
use Rattle.lobby_state.specs.Match.{is_queue_full, member_with_line}
use Rattle.lobby_state.specs.WellFormed.{IsWellFormed, HasSeats}
use Rattle.lobby_state.proofs.Lists.{map-map_same, All-map_each, get-set_same}
use Rattle.lobby_state.proofs.WellFormed.{kept}
use Rattle.lobby_state.proofs.Lent.{at_place, change_at-set, set-same}
use Rattle.tables.specs.Rows.{change_at}

-- an item that was changed is put back
pub put_back : {X : Type 0} (xs : List X) (i : ℕ) (x y : X) → slice_get xs i ≡ Some x → set (set xs i y) i x ≡ xs
put_back xs i x y e = set-set xs i y x ∙ set-same xs i x e

-- the member at this place is the first of those from here on
pub from_here : (xs : List Member) (i : ℕ) (x : Member) → slice_get xs i ≡ Some x → drop i xs ≡ x ∷ drop (i + 1) xs
from_here xs i x e =
    ap (λ (ms : List Member). drop i ms) (sym (set-same xs i x e)) ∙ drop-set xs i x (slice_get_within xs i x e)

-- those behind a member that was changed are as before
behind : (xs : List Member) (i : ℕ) (there : Member) → drop (i + 1) (set xs i there) ≡ drop (i + 1) xs
behind xs i there = drop-set-lt (i + 1) xs i there (omega arith)

heard_from : (test : Member → Bool) (xs : List Member) (i : ℕ) (x there : Member) → slice_get xs i ≡ Some x
    → heard test (drop i xs) ≡ cond (hears test x) 1 0 + heard test (drop (i + 1) (set xs i there))
heard_from test xs i x there e =
    ap (heard test) (from_here xs i x e) ∙ sum_by-cons (λ m. cond (hears test m) 1 0) x (drop (i + 1) xs)
    ∙ ap (λ (ms : List Member). cond (hears test x) 1 0 + heard test ms) (sym (behind xs i there))

-- where the member at this place hears the line, one more does than of those behind it
pub heard_here : (test : Member → Bool) (xs : List Member) (i : ℕ) (x there : Member) (is_told : Bool) (others : ℕ)
    → slice_get xs i ≡ Some x
    → is_told ≡ hears test x → is_told ≡ true → others ≡ heard test (drop (i + 1) (set xs i there))
    → others + 1 ≡ heard test (drop i xs)
heard_here test xs i x there is_told others e told was rest =
    let one : ◌≡◌ {A = ℕ} (cond (hears test x) 1 0) 1 = ap (λ (b : Bool). cond b 1 0) (sym told ∙ was) in
    omega (arith, heard_from test xs i x there e, one, rest)

-- and else as many
pub heard_behind : (test : Member → Bool) (xs : List Member) (i : ℕ) (x there : Member) (is_told : Bool) (others : ℕ)
    → slice_get xs i ≡ Some x
    → is_told ≡ hears test x → is_told ≡ false → others ≡ heard test (drop (i + 1) (set xs i there))
    → others ≡ heard test (drop i xs)
heard_behind test xs i x there is_told others e told was rest =
    let none : ◌≡◌ {A = ℕ} (cond (hears test x) 1 0) 0 = ap (λ (b : Bool). cond b 1 0) (sym told ∙ was) in
    omega (arith, heard_from test xs i x there e, none, rest)

-- the line went to the member at this place and to those behind it
pub went_out : (test : Member → Bool) (line : List ℕ) (xs after : List Member) (i : ℕ) (x there : Member)
    → slice_get xs i ≡ Some x
    → there ≡ hearing test line x
    → after ≡ take (i + 1) (set xs i there) ++ broadcast test line (drop (i + 1) (set xs i there))
    → after ≡ take i xs ++ broadcast test line (drop i xs)
went_out test line xs after i x there e is went =
    let inside = slice_get_within xs i x e in
    went
    ∙ ap (λ (ms : List Member). ms ++ broadcast test line (drop (i + 1) (set xs i there)))
    (take_more_set xs i there inside)
    ∙ ap (λ (ms : List Member). (take i xs ++ there ∷ []) ++ broadcast test line ms) (behind xs i there)
    ∙ append_assoc (take i xs) (there ∷ []) (broadcast test line (drop (i + 1) xs))
    ∙ ap (λ (m : Member). take i xs ++ m ∷ broadcast test line (drop (i + 1) xs)) is
    ∙ ap (λ (ms : List Member). take i xs ++ broadcast test line ms) (sym (from_here xs i x e))

-- a member that doesn't hear the line stays as it was
pub not_told : (test : Member → Bool) (line : List ℕ) (xs : List Member) (i : ℕ) (x : Member) (heard : Bool)
    → slice_get xs i ≡ Some x
    → heard ≡ hears test x → heard ≡ false → xs ≡ change_at i (hearing test line) xs
not_told test line xs i x heard e is fails =
    sym (change_at-set (hearing test line) xs i x e
    ∙ ap (λ (b : Bool). set xs i (cond b (member_with_line line x) x)) (sym is ∙ fails) ∙ set-same xs i x e)

-- and one that hears it has it behind the others
pub was_told : (test : Member → Bool) (line : List ℕ) (xs : List Member) (i : ℕ) (x : Member) (heard : Bool)
    (lines more : List (List ℕ))
    → slice_get xs i ≡ Some x → heard ≡ hears test x → heard ≡ true
    → ((m : Member) → slice_get xs i ≡ Some m → lines ≡ m.waiting)
    → more ≡ with_one_more line lines
    → change_at i (λ m. record m { waiting = more }) xs ≡ change_at i (hearing test line) xs
was_told test line xs i x heard lines more e is was reads put =
    change_at-set (λ m. record m { waiting = more }) xs i x e
    ∙ ap (λ (lines : List (List ℕ)). set xs i (record x { waiting = lines }))
    (put ∙ ap (with_one_more line) (reads x e))
    ∙ ap (λ (b : Bool). set xs i (cond b (member_with_line line x) x)) (sym was ∙ is)
    ∙ sym (change_at-set (hearing test line) xs i x e)

-- a line that was put last is taken back
pub taken_back : (line : List ℕ) (m : Member) → is_queue_full m ≡ false
    → record m { waiting = without_last (member_with_line line m).waiting } ≡ m
taken_back line m room =
    ap (λ (lines : List (List ℕ)). record m { waiting = lines }) (without_last-with_line line m.waiting room)

-- there was room for a line that was heard
room_heard : (test : Member → Bool) (m : Member) → hears test m ≡ true → is_queue_full m ≡ false
room_heard test m heard = not-true (is_queue_full m) (and_parts (test m) (not (is_queue_full m)) heard).1

-- where memory ran out behind a member that was told, the members are as before
pub undone : (test : Member → Bool) (line : List ℕ) (xs after : List Member) (i : ℕ) (x : Member) (is_told : Bool)
    (lines left : List (List ℕ))
    → slice_get xs i ≡ Some x → after ≡ set xs i (hearing test line x) → is_told ≡ hears test x → is_told ≡ true
    → ((m : Member) → slice_get after i ≡ Some m → lines ≡ m.waiting) → left ≡ without_last lines
    → change_at i (λ m. record m { waiting = left }) after ≡ xs
undone test line xs after i x is_told lines left e same told was reads taken =
    let heard : hears test x ≡ true = sym told ∙ was in
    let fresh = member_with_line line x in
    let made : after ≡ set xs i fresh = same ∙ ap (λ b. set xs i (cond b (member_with_line line x) x)) heard in
    let at : slice_get after i ≡ Some fresh =
    ap (λ (ms : List Member). slice_get ms i) made ∙ get-set_same xs i fresh (slice_get_within xs i x e) in
    let old : record fresh { waiting = left } ≡ x =
    ap (λ (lines : List (List ℕ)). record x { waiting = lines }) (taken ∙ ap without_last (reads fresh at))
    ∙ taken_back line x (room_heard test x heard) in
    change_at-set (λ m. record m { waiting = left }) after i fresh at ∙ ap (set after i) old
    ∙ ap (λ (ms : List Member). set ms i x) made ∙ put_back xs i x fresh e

-- the members once the one at this place was told
pub told_at : (test : Member → Bool) (line : List ℕ) (xs after : List Member) (i : ℕ) → i < length xs
    → after ≡ change_at i (hearing test line) xs
    → (x : Member) × (slice_get xs i ≡ Some x) × (after ≡ set xs i (hearing test line x))
told_at test line xs after i inside is =
    let found = at_place xs i inside in
    (found.0, found.1, is ∙ change_at-set (hearing test line) xs i found.0 found.1)

session_by_test : (b : Bool) (line : List ℕ) (m : Member) → (cond b (member_with_line line m) m).session ≡ m.session
session_by_test true line m = refl
session_by_test false line m = refl

name_by_test : (b : Bool) (line : List ℕ) (m : Member) → (cond b (member_with_line line m) m).name ≡ m.name
name_by_test true line m = refl
name_by_test false line m = refl

places_by_test : (P : Member → Type 0) (b : Bool) (line : List ℕ) (m : Member) → P m → P (member_with_line line m)
    → P (cond b (member_with_line line m) m)
places_by_test P true line m here there = there
places_by_test P false line m here there = here

-- a lobby where a line went out is well-formed
pub IsWellFormed-broadcast : (lobby : LobbyState) (test : Member → Bool) (line : List ℕ) → IsWellFormed lobby
    → IsWellFormed (record lobby { members = broadcast test line lobby.members })
IsWellFormed-broadcast lobby test line h =
    let f = hearing test line in
    kept lobby (broadcast test line lobby.members) lobby.challenges lobby.games lobby.started lobby.shelf
    (map-map_same (λ m. m.session) f (λ m. session_by_test (hears test m) line m) lobby.members)
    (map-map_same (λ m. key_of m.name) f (λ m. ap key_of (name_by_test (hears test m) line m)) lobby.members)
    h.challenges h.games h.serials
    (All-map_each (HasSeats lobby.games) (HasSeats lobby.games) f
    (λ m has. places_by_test (HasSeats lobby.games) (hears test m) line m has has) lobby.members h.places) h.shelf
    h.counted h
