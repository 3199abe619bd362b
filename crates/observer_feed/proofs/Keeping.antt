-- What the calls keep: no session is two viewers, and nobody has been given more items than there are.
use Rattle.std.proofs.Common.{◌≡◌, ℕ, ◌≤◌, Bool, true, false, not, cond, List, [], ◌∷◌, ◌++◌, length, map, Option, None, Some, refl, sym, ap, ◌∙◌, arith}
use Rattle.std.specs.Prelude.{◌==◌, is_some}
use Rattle.std.specs.List.{filter}
use Rattle.std.proofs.lemmas.Bool.{cond-false, cond_both, not_from_true}
use Rattle.std.proofs.lemmas.List.{length-append}
use Rattle.std.proofs.lemmas.List.Elements.{All-filter, All-map, All-push, All-weaker}
use Rattle.observer_feed.specs.declared.cursor.Cursor.{Cursor}
use Rattle.observer_feed.specs.declared.cursor.Backlog.{Backlog}
use Rattle.observer_feed.specs.declared.cursor.Backlog.TheVariants.{FromStart, FromNow}
use Rattle.observer_feed.specs.Feed.{AreOnce, ArePlaces, caught_up, cursor_of, first_place, is_viewer, without_viewer}
use Rattle.collections.proofs.Numbers.{differ_turned}

-- where nobody is found, the first cursor isn't the session's, and nobody is found behind it
pub skipped : (b : Bool) (c : Cursor) (found : Option Cursor) → is_some (cond b (Some c) found) ≡ false
    → (b ≡ false) × (is_some found ≡ false)
skipped true c found h = absurd (let bad : true ≡ false = h in cc)
skipped false c found h = (refl, h)

pub unfound : (b : Bool) (c : Cursor) (found : Option Cursor) → b ≡ false → is_some found ≡ false
    → is_some (cond b (Some c) found) ≡ false
unfound true c found e h = absurd (let bad : true ≡ false = e in cc)
unfound false c found e h = h

found_by : (b : Bool) (c d : Cursor) (found others : Option Cursor) → is_some others ≡ is_some found
    → is_some (cond b (Some d) others) ≡ is_some (cond b (Some c) found)
found_by true c d found others h = refl
found_by false c d found others h = h

pub found_alike : (a b : Bool) (c d : Cursor) (found others : Option Cursor) → a ≡ b → is_some others ≡ is_some found
    → is_some (cond a (Some d) others) ≡ is_some (cond b (Some c) found)
found_alike a b c d found others e h = ap (λ t. is_some (cond t (Some d) others)) e ∙ found_by b c d found others h

pub none-push : (viewers : List Cursor) (last : Cursor) (session : ℕ) → is_viewer viewers session ≡ false
    → (last.session == session) ≡ false
    → is_viewer (viewers ++ last ∷ []) session ≡ false
none-push [] last session h apart = unfound (last.session == session) last None apart refl
none-push (c ∷ viewers) last session h apart =
    let both = skipped (c.session == session) c (cursor_of viewers session) h in
    unfound (c.session == session) c (cursor_of (viewers ++ last ∷ []) session) both.0
    (none-push viewers last session both.1 apart)

AreOnce-push : (viewers : List Cursor) (last : Cursor) → AreOnce viewers → is_viewer viewers last.session ≡ false
    → AreOnce (viewers ++ last ∷ [])
AreOnce-push [] last h none = (refl, tt)
AreOnce-push (c ∷ viewers) last h none =
    let both = skipped (c.session == last.session) c (cursor_of viewers last.session) none in (
      none-push viewers last c.session h.0 (differ_turned c.session last.session both.0),
      AreOnce-push viewers last h.1 both.1,
    )

none-filter : (q : Cursor → Bool) (viewers : List Cursor) (session : ℕ) → is_viewer viewers session ≡ false
    → is_viewer (filter q viewers) session ≡ false
none-filter q [] session h = refl
none-filter q (c ∷ viewers) session h =
    let both = skipped (c.session == session) c (cursor_of viewers session) h in
    let rest = none-filter q viewers session both.1 in
    cond_both (q c) (c ∷ filter q viewers) (filter q viewers) (λ (vs : List Cursor). is_viewer vs session ≡ false)
    (λ _. unfound (c.session == session) c (cursor_of (filter q viewers) session) both.0 rest) (λ _. rest)

AreOnce-filter : (q : Cursor → Bool) (viewers : List Cursor) → AreOnce viewers → AreOnce (filter q viewers)
AreOnce-filter q [] h = tt
AreOnce-filter q (c ∷ viewers) h =
    cond_both (q c) (c ∷ filter q viewers) (filter q viewers) AreOnce
    (λ _. (none-filter q viewers c.session h.0, AreOnce-filter q viewers h.1)) (λ _. AreOnce-filter q viewers h.1)

-- a cursor that moves is that of the same session
pub same_session : (session seen : ℕ) (c : Cursor) → (caught_up session seen c).session ≡ c.session
same_session session seen c =
    cond_both (c.session == session) (record {
      session = c.session;
      seen = seen;
    }) c (λ (d : Cursor). d.session ≡ c.session) (λ _. refl) (λ _. refl)

pub is_viewer-caught_up : (session seen : ℕ) (viewers : List Cursor) (who : ℕ)
    → is_viewer (map (caught_up session seen) viewers) who ≡ is_viewer viewers who
is_viewer-caught_up session seen [] who = refl
is_viewer-caught_up session seen (c ∷ viewers) who =
    found_alike ((caught_up session seen c).session == who) (c.session == who) c (caught_up session seen c)
    (cursor_of viewers who)
    (cursor_of (map (caught_up session seen) viewers) who) (ap (λ s. s == who) (same_session session seen c))
    (is_viewer-caught_up session seen viewers who)

AreOnce-caught_up : (session seen : ℕ) (viewers : List Cursor) → AreOnce viewers
    → AreOnce (map (caught_up session seen) viewers)
AreOnce-caught_up session seen [] h = tt
AreOnce-caught_up session seen (c ∷ viewers) h = (
  is_viewer-caught_up session seen viewers (caught_up session seen c).session
      ∙ ap (λ s. is_viewer viewers s) (same_session session seen c) ∙ h.0,
  AreOnce-caught_up session seen viewers h.1,
)

-- nobody has been given more, where there are more items
pub places_with_more : {T : Type 0} (items : List T) (x : T) (viewers : List Cursor) → ArePlaces (length items) viewers
    → ArePlaces (length (items ++ x ∷ [])) viewers
places_with_more items x viewers h = record {
  once = h.once;
  within = All-weaker (λ c. c.seen ≤ length items) (λ c. c.seen ≤ length (items ++ x ∷ []))
      (λ c le. omega (arith, le, length-append items (x ∷ []))) viewers h.within;
}

first_within : (told : Backlog) (count : ℕ) → first_place told count ≤ count
first_within FromStart count = omega arith
first_within FromNow count = omega arith

-- a session begins to look on that didn't
pub places_begun : (count : ℕ) (viewers : List Cursor) (session : ℕ) (told : Backlog)
    → is_viewer viewers session ≡ false → ArePlaces count viewers
    → ArePlaces count (viewers ++ record { session = session; seen = first_place told count } ∷ [])
places_begun count viewers session told none h =
    let last : Cursor = record { session = session; seen = first_place told count } in
    record {
      once = AreOnce-push viewers last h.once none;
      within = All-push (λ c. c.seen ≤ count) viewers last h.within (first_within told count);
    }

-- a session ceases to look on
pub places_without : (count session : ℕ) (viewers : List Cursor) → ArePlaces count viewers
    → ArePlaces count (without_viewer session viewers)
places_without count session viewers h = record {
  once = AreOnce-filter (λ c. not (c.session == session)) viewers h.once;
  within = All-filter (λ c. not (c.session == session)) (λ c. c.seen ≤ count) viewers h.within;
}

-- a session is given all
pub places_caught_up : (count session : ℕ) (viewers : List Cursor) → ArePlaces count viewers
    → ArePlaces count (map (caught_up session count) viewers)
places_caught_up count session viewers h = record {
  once = AreOnce-caught_up session count viewers h.once;
  within = All-map (λ c. c.seen ≤ count) (caught_up session count) viewers
      (All-weaker (λ c. c.seen ≤ count) (λ c. (caught_up session count c).seen ≤ count)
      (λ c le.
      cond_both (c.session == session) (record { session = c.session; seen = count }) c (λ (d : Cursor). d.seen ≤ count)
      (λ _. omega arith) (λ _. le)) viewers h.within);
}

-- who is given all and then ceases is gone, as who ceases at once
pub without_caught_up : (session seen : ℕ) (viewers : List Cursor)
    → without_viewer session (map (caught_up session seen) viewers) ≡ without_viewer session viewers
without_caught_up session seen [] = refl
without_caught_up session seen (c ∷ viewers) =
    let left = without_viewer session viewers in
    let moved = without_viewer session (map (caught_up session seen) viewers) in
    let rest : moved ≡ left = without_caught_up session seen viewers in
    let last : Cursor = record { session = c.session; seen = seen } in
    let gone : (d : Cursor) (more : List Cursor) → (c.session == session) ≡ true
    → cond (not (c.session == session)) (d ∷ more) more ≡ more =
    λ d more h. cond-false (not (c.session == session)) (d ∷ more) more (not_from_true (c.session == session) h) in
    cond_both (c.session == session) last c
    (λ (d : Cursor).
    cond (not (d.session == session)) (d ∷ moved) moved ≡ cond (not (c.session == session)) (c ∷ left) left)
    (λ h. gone last moved h ∙ rest ∙ sym (gone c left h))
    (λ _. ap (λ (vs : List Cursor). cond (not (c.session == session)) (c ∷ vs) vs) rest)
