-- What looking on means to viewers.
use Rattle.std.proofs.Common.{◌≡◌, ◌≢◌, ℕ, ◌≤◌, Bool, true, false, not, cond, List, [], ◌∷◌, ◌++◌, All, length, map, Option, None, Some, IfSome, refl, sym, subst, ap, ◌∙◌, inl, inr, arith}
use Rattle.std.specs.Prelude.{◌==◌, is_some}
use Rattle.std.proofs.lemmas.Bool.{cases_eq, cond-false, cond-true, cond_both, eq-eqb, eqb-true, ne_eqb, not-false, not-true}
use Rattle.std.proofs.lemmas.List.{append-nil, append_assoc, drop-append-le, drop_all}
use Rattle.std.proofs.lemmas.List.Elements.{All-head, All-tail}
use Rattle.fics_words.specs.declared.refusal.Refusal.TheVariants.{AlreadyWatching, NotWatching}
use Rattle.fics_words.specs.Effect.{state_of, unless}
use Rattle.observer_feed.specs.declared.cursor.Cursor.{Cursor}
use Rattle.observer_feed.specs.declared.cursor.Backlog.{Backlog}
use Rattle.observer_feed.specs.declared.cursor.Backlog.TheVariants.{FromStart, FromNow}
use Rattle.observer_feed.specs.Feed.{ArePlaces, FeedState, ahead, with_viewer, caught_up, cursor_of, fetching, first_place, forgotten, is_viewer, past, unwatching, watching, with_all, without_viewer}
use Rattle.observer_feed.specs.Laws.{BeginsAndEnds, Deed, Adds, Begins, Ceases, Fetches, MissesNothing, KeepsWatching, added, added_by, after_all, after_one, given_to, given_by}
use Rattle.observer_feed.proofs.Keeping.{found_alike, is_viewer-caught_up, places_begun, places_caught_up, places_with_more, places_without, skipped, unfound}

-- the cursor of a viewer is the same where another comes
kept : (b : Bool) (c : Cursor) (found others : Option Cursor) → is_some (cond b (Some c) found) ≡ true
    → (is_some found ≡ true → others ≡ found)
    → cond b (Some c) others ≡ cond b (Some c) found
kept true c found others h e = refl
kept false c found others h e = e h

cursor-push : (viewers : List Cursor) (last : Cursor) (who : ℕ) → is_viewer viewers who ≡ true
    → cursor_of (viewers ++ last ∷ []) who ≡ cursor_of viewers who
cursor-push [] last who h = absurd (let bad : false ≡ true = h in cc)
cursor-push (c ∷ viewers) last who h =
    kept (c.session == who) c (cursor_of viewers who) (cursor_of (viewers ++ last ∷ []) who) h
    (cursor-push viewers last who)

apart : (c : Cursor) (session who : ℕ) → session ≢ who → (c.session == session) ≡ true → (c.session == who) ≡ false
apart c session who differs h = ne_eqb c.session who (λ e. differs (sym (eqb-true c.session session h) ∙ e))

-- where another goes
cursor-without : (session : ℕ) (viewers : List Cursor) (who : ℕ) → session ≢ who
    → cursor_of (without_viewer session viewers) who ≡ cursor_of viewers who
cursor-without session [] who differs = refl
cursor-without session (c ∷ viewers) who differs =
    let rest : cursor_of (without_viewer session viewers) who ≡ cursor_of viewers who =
    cursor-without session viewers who differs in
    cond_both (not (c.session == session)) (c ∷ without_viewer session viewers) (without_viewer session viewers)
    (λ (vs : List Cursor). cursor_of vs who ≡ cursor_of (c ∷ viewers) who)
    (λ _. ap (λ found. cond (c.session == who) (Some c) found) rest)
    (λ h.
    rest
    ∙ sym
    (cond-false (c.session == who) (Some c) (cursor_of viewers who)
    (apart c session who differs (not-false (c.session == session) h))))

-- and where another moves
cursor-caught_up : (session seen : ℕ) (viewers : List Cursor) (who : ℕ) → session ≢ who
    → cursor_of (map (caught_up session seen) viewers) who ≡ cursor_of viewers who
cursor-caught_up session seen [] who differs = refl
cursor-caught_up session seen (c ∷ viewers) who differs =
    let moved = cursor_of (map (caught_up session seen) viewers) who in
    let rest : moved ≡ cursor_of viewers who = cursor-caught_up session seen viewers who differs in
    let last : Cursor = record { session = c.session; seen = seen } in
    cond_both (c.session == session) last c
    (λ (d : Cursor). cond (d.session == who) (Some d) moved ≡ cursor_of (c ∷ viewers) who)
    (λ h. cond-false (c.session == who) (Some last) moved (apart c session who differs h) ∙ rest
    ∙ sym (cond-false (c.session == who) (Some c) (cursor_of viewers who) (apart c session who differs h)))
    (λ _. ap (λ found. cond (c.session == who) (Some c) found) rest)

-- who has fetched has nothing ahead
nothing_ahead : {T : Type 0} (items : List T) (viewers : List Cursor) (who : ℕ)
    → ahead items (map (caught_up who (length items)) viewers) who ≡ []
nothing_ahead items [] who = refl
nothing_ahead items (c ∷ viewers) who =
    let moved = cursor_of (map (caught_up who (length items)) viewers) who in
    let last : Cursor = record { session = c.session; seen = length items } in
    cond_both (c.session == who) last c (λ (d : Cursor). past items (cond (d.session == who) (Some d) moved) ≡ [])
    (λ h.
    ap (past items) (cond-true (c.session == who) (Some last) moved h) ∙ drop_all (length items) items (omega arith))
    (λ h. ap (past items) (cond-false (c.session == who) (Some c) moved h) ∙ nothing_ahead items viewers who)

-- an item that is added stands behind what is ahead
seen_within : (count : ℕ) (viewers : List Cursor) (who : ℕ) → All (λ c. c.seen ≤ count) viewers
    → IfSome (cursor_of viewers who) (λ c. c.seen ≤ count)
seen_within count [] who h = tt
seen_within count (c ∷ viewers) who h =
    cond_both (c.session == who) (Some c) (cursor_of viewers who) (λ found. IfSome found (λ c. c.seen ≤ count))
    (λ _. All-head (λ c. c.seen ≤ count) c viewers h)
    (λ _. seen_within count viewers who (All-tail (λ c. c.seen ≤ count) c viewers h))

past-push : {T : Type 0} (items : List T) (x : T) (found : Option Cursor) → is_some found ≡ true
    → IfSome found (λ c. c.seen ≤ length items)
    → past (items ++ x ∷ []) found ≡ past items found ++ x ∷ []
past-push items x None h le = absurd (let bad : false ≡ true = h in cc)
past-push items x (Some c) h le = drop-append-le c.seen items (x ∷ []) le

-- what a viewer is given and what is still ahead are what was ahead and what was added; and it looks on
record Goes {T : Type 0} (feed new : FeedState T) (viewer : ℕ) (got put : List T) : Type 0 where
  gives : got ++ ahead new.items new.viewers viewer ≡ ahead feed.items feed.viewers viewer ++ put
  looks : is_viewer new.viewers viewer ≡ true
  places : ArePlaces (length new.items) new.viewers

goes_same : {T : Type 0} (feed : FeedState T) (viewer : ℕ) → is_viewer feed.viewers viewer ≡ true
    → ArePlaces (length feed.items) feed.viewers
    → Goes feed feed viewer [] []
goes_same feed viewer looks places =
    record { gives = sym (append-nil (ahead feed.items feed.viewers viewer)); looks = looks; places = places }

-- nothing is given or added, and the viewer keeps its cursor
goes_beside : {T : Type 0} (feed new : FeedState T) (viewer : ℕ) → new.items ≡ feed.items
    → cursor_of new.viewers viewer ≡ cursor_of feed.viewers viewer → is_viewer feed.viewers viewer ≡ true
    → ArePlaces (length new.items) new.viewers → Goes feed new viewer [] []
goes_beside feed new viewer same cursor looks places = record {
  gives = ap (λ items. past items (cursor_of new.viewers viewer)) same ∙ ap (past feed.items) cursor
      ∙ sym (append-nil (ahead feed.items feed.viewers viewer));
  looks = ap is_some cursor ∙ looks;
  places = places;
}

goes_begins : {T : Type 0} (feed : FeedState T) (viewer session : ℕ) (told : Backlog)
    → is_viewer feed.viewers viewer ≡ true
    → ArePlaces (length feed.items) feed.viewers → Goes feed (state_of feed (watching feed session told)) viewer [] []
goes_begins feed viewer session told looks places =
    let last : Cursor = record { session = session; seen = first_place told (length feed.items) } in
    cond_both (is_viewer feed.viewers session) (Some AlreadyWatching) None
    (λ cause. Goes feed (unless cause feed (with_viewer session told feed)) viewer [] [])
    (λ _. goes_same feed viewer looks places)
    (λ none.
    goes_beside feed (with_viewer session told feed) viewer refl (cursor-push feed.viewers last viewer looks) looks
    (places_begun (length feed.items) feed.viewers session told none places))

goes_ceases : {T : Type 0} (feed : FeedState T) (viewer session : ℕ) → session ≢ viewer
    → is_viewer feed.viewers viewer ≡ true
    → ArePlaces (length feed.items) feed.viewers → Goes feed (state_of feed (unwatching feed session)) viewer [] []
goes_ceases feed viewer session differs looks places =
    cond_both (not (is_viewer feed.viewers session)) (Some NotWatching) None
    (λ cause. Goes feed (unless cause feed (forgotten session feed)) viewer [] [])
    (λ _. goes_same feed viewer looks places)
    (λ _.
    goes_beside feed (forgotten session feed) viewer refl (cursor-without session feed.viewers viewer differs) looks
    (places_without (length feed.items) session feed.viewers places))

-- a fetch by another
goes_other : {T : Type 0} (feed : FeedState T) (viewer session : ℕ) → session ≢ viewer
    → is_viewer feed.viewers viewer ≡ true
    → ArePlaces (length feed.items) feed.viewers → Goes feed (state_of feed (fetching feed session)) viewer [] []
goes_other feed viewer session differs looks places =
    cond_both (not (is_viewer feed.viewers session)) (Some NotWatching) None
    (λ cause. Goes feed (unless cause feed (with_all session feed)) viewer [] [])
    (λ _. goes_same feed viewer looks places)
    (λ _.
    goes_beside feed (with_all session feed) viewer refl
    (cursor-caught_up session (length feed.items) feed.viewers viewer differs) looks
    (places_caught_up (length feed.items) session feed.viewers places))

-- and by the viewer
goes_own : {T : Type 0} (feed : FeedState T) (viewer : ℕ) → is_viewer feed.viewers viewer ≡ true
    → ArePlaces (length feed.items) feed.viewers
    → Goes feed (state_of feed (fetching feed viewer)) viewer (ahead feed.items feed.viewers viewer) []
goes_own feed viewer looks places =
    let got = ahead feed.items feed.viewers viewer in
    subst (λ b. Goes feed (unless (cond (not b) (Some NotWatching) None) feed (with_all viewer feed)) viewer got [])
    (sym looks)
    (record {
      gives = ap (λ rest. got ++ rest) (nothing_ahead feed.items feed.viewers viewer);
      looks = is_viewer-caught_up viewer (length feed.items) feed.viewers viewer ∙ looks;
      places = places_caught_up (length feed.items) viewer feed.viewers places;
    })

goes_fetches : {T : Type 0} (feed : FeedState T) (viewer session : ℕ) → is_viewer feed.viewers viewer ≡ true
    → ArePlaces (length feed.items) feed.viewers
    → Goes feed (state_of feed (fetching feed session)) viewer (given_by viewer feed (Fetches session)) []
goes_fetches feed viewer session looks places =
    elim (cases_eq session viewer)
    as (λ _. Goes feed (state_of feed (fetching feed session)) viewer (given_by viewer feed (Fetches session)) []) [
      | inl same ↦
          subst (λ who. Goes feed (state_of feed (fetching feed who)) viewer (given_by viewer feed (Fetches who)) [])
          (sym same)
          (subst (λ b.
          Goes feed (state_of feed (fetching feed viewer)) viewer (cond b (ahead feed.items feed.viewers viewer) []) [])
          (sym (eq-eqb viewer viewer refl)) (goes_own feed viewer looks places))
      | inr differs ↦
          subst (λ b.
          Goes feed (state_of feed (fetching feed session)) viewer (cond b (ahead feed.items feed.viewers session) [])
          [])
          (sym (ne_eqb session viewer differs)) (goes_other feed viewer session differs looks places)
    ]

goes : {T : Type 0} (feed : FeedState T) (viewer : ℕ) (deed : Deed T) (deeds : List (Deed T))
    → KeepsWatching viewer (deed ∷ deeds)
    → is_viewer feed.viewers viewer ≡ true → ArePlaces (length feed.items) feed.viewers
    → Goes feed (after_one feed deed) viewer (given_by viewer feed deed) (added_by deed)
goes feed viewer (Adds x) deeds s looks places = record {
  gives =
      past-push feed.items x (cursor_of feed.viewers viewer) looks
      (seen_within (length feed.items) feed.viewers viewer places.within);
  looks = looks;
  places = places_with_more feed.items x feed.viewers places;
}
goes feed viewer (Begins session told) deeds s looks places = goes_begins feed viewer session told looks places
goes feed viewer (Ceases session) deeds s looks places = goes_ceases feed viewer session s.0 looks places
goes feed viewer (Fetches session) deeds s looks places = goes_fetches feed viewer session looks places

stays_on : {T : Type 0} (viewer : ℕ) (deed : Deed T) (deeds : List (Deed T)) → KeepsWatching viewer (deed ∷ deeds)
    → KeepsWatching viewer deeds
stays_on viewer (Adds x) deeds s = s
stays_on viewer (Begins session told) deeds s = s
stays_on viewer (Ceases session) deeds s = s.1
stays_on viewer (Fetches session) deeds s = s

given_all : {T : Type 0} (deeds : List (Deed T)) (feed : FeedState T) (viewer : ℕ)
    → ArePlaces (length feed.items) feed.viewers
    → is_viewer feed.viewers viewer ≡ true → KeepsWatching viewer deeds
    → given_to viewer feed deeds ++ ahead (after_all feed deeds).items (after_all feed deeds).viewers viewer
    ≡ ahead feed.items feed.viewers viewer ++ added deeds
given_all [] feed viewer places looks s = sym (append-nil (ahead feed.items feed.viewers viewer))
given_all (deed ∷ deeds) feed viewer places looks s =
    let new = after_one feed deed in
    let end = after_all new deeds in
    let got = given_by viewer feed deed in
    let step = goes feed viewer deed deeds s looks places in
    let rest = given_all deeds new viewer step.places step.looks (stays_on viewer deed deeds s) in
    append_assoc got (given_to viewer new deeds) (ahead end.items end.viewers viewer)
    ∙ ap (λ items. got ++ items) rest
    ∙ sym (append_assoc got (ahead new.items new.viewers viewer) (added deeds))
    ∙ ap (λ items. items ++ added deeds) step.gives
    ∙ append_assoc (ahead feed.items feed.viewers viewer) (added_by deed) (added deeds)

pub misses_nothing : {T : Type 0} (feed : FeedState T) (viewer : ℕ) → ArePlaces (length feed.items) feed.viewers
    → MissesNothing feed viewer
misses_nothing feed viewer places = λ deeds looks s. given_all deeds feed viewer places looks s

-- who comes last is found, where it isn't found before
found_last : (viewers : List Cursor) (last : Cursor) (session : ℕ) → (last.session == session) ≡ true
    → is_viewer (viewers ++ last ∷ []) session ≡ true
found_last [] last session e = ap (λ b. is_some (cond b (Some last) None)) e
found_last (c ∷ viewers) last session e =
    cond_both (c.session == session) (Some c) (cursor_of (viewers ++ last ∷ []) session) (λ found. is_some found ≡ true)
    (λ _. refl) (λ _. found_last viewers last session e)

cursor_last : (viewers : List Cursor) (last : Cursor) (session : ℕ) → is_viewer viewers session ≡ false
    → (last.session == session) ≡ true
    → cursor_of (viewers ++ last ∷ []) session ≡ Some last
cursor_last [] last session none e = ap (λ b. cond b (Some last) None) e
cursor_last (c ∷ viewers) last session none e =
    let both = skipped (c.session == session) c (cursor_of viewers session) none in
    cond-false (c.session == session) (Some c) (cursor_of (viewers ++ last ∷ []) session) both.0
    ∙ cursor_last viewers last session both.1 e

none_left : (session : ℕ) (viewers : List Cursor) → is_viewer (without_viewer session viewers) session ≡ false
none_left session [] = refl
none_left session (c ∷ viewers) =
    cond_both (not (c.session == session)) (c ∷ without_viewer session viewers) (without_viewer session viewers)
    (λ (vs : List Cursor). is_viewer vs session ≡ false)
    (λ k.
    unfound (c.session == session) c (cursor_of (without_viewer session viewers) session)
    (not-true (c.session == session) k)
    (none_left session viewers))
    (λ _. none_left session viewers)

others_found : (viewers : List Cursor) (last : Cursor) (other : ℕ) → (last.session == other) ≡ false
    → is_viewer (viewers ++ last ∷ []) other ≡ is_viewer viewers other
others_found [] last other e = ap (λ b. is_some (cond b (Some last) None)) e
others_found (c ∷ viewers) last other e =
    found_alike (c.session == other) (c.session == other) c c (cursor_of viewers other)
    (cursor_of (viewers ++ last ∷ []) other) refl
    (others_found viewers last other e)

pub begins_and_ends : {T : Type 0} (feed : FeedState T) (session : ℕ) → BeginsAndEnds feed session
begins_and_ends feed session =
    let came : Backlog → Cursor = λ told. record { session = session; seen = first_place told (length feed.items) } in
    let itself : (session == session) ≡ true = eq-eqb session session refl in
    record {
      begins = λ told. found_last feed.viewers (came told) session itself;
      all = λ none. ap (past feed.items) (cursor_last feed.viewers (came FromStart) session none itself);
      none = λ none. ap (past feed.items) (cursor_last feed.viewers (came FromNow) session none itself)
          ∙ drop_all (length feed.items) feed.items (omega arith);
      ends = none_left session feed.viewers;
      others_begin = λ told other differs.
          others_found feed.viewers (came told) other (ne_eqb session other (λ e. differs (sym e)));
      others_end = λ other differs. ap is_some (cursor-without session feed.viewers other (λ e. differs (sym e)));
    }
