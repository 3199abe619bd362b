-- What a session remembers behind entries: behind none, behind one, and behind some more.
use Rattle.std.proofs.Common.{◌≡◌, ◌⊎◌, ℕ, ◌&&◌, ◌||◌, Bool, true, false, not, cond, if◌then◌else◌, List, [], ◌∷◌, ◌++◌, get_or, refl, sym, ap, subst, ◌∙◌, inl, inr, Result}
use Rattle.std.specs.Prelude.{Contains, ◌==◌}
use Rattle.std.specs.List.{filter}
use Rattle.std.specs.declared.option.Option.{Option}
use Rattle.std.specs.declared.option.Option.TheVariants.{None, Some}
use Rattle.std.proofs.Math.Bool.{or-false, or_assoc}
use Rattle.std.proofs.lemmas.Bool.{eqb-true}
use Rattle.std.proofs.lemmas.List.Elements.{All-append, All-contains, All-contains_itself, All-cons, All-nil, Contains-append_left, Contains-append_right, Contains-push}
use Rattle.std.proofs.lemmas.List.Folds.{list_any-append}
use Rattle.std.proofs.lemmas.List.{map-append}
use Rattle.fics_words.specs.Effect.{unless}
use Rattle.fics_words.specs.declared.refusal.Refusal.TheVariants as refusal
use Rattle.histories.specs.declared.entry.Entry.{Entry}
use Rattle.histories.specs.History.{entry}
use Rattle.linked_desk.specs.declared.acts.DeskAct.TheVariants as desk_act
use Rattle.linked_desk.specs.declared.acts.DeskReply.TheVariants as desk_reply
use Rattle.lobby_state.specs.Places.{PlaceList, is_elsewhere, are_places_full as holds_most}
use Rattle.lobby_state.proofs.Lists.{All-filter_passing, Contains-filter}
use Rattle.memory.specs.declared.NoMemory.{NoMemory}
use Rattle.one_server.specs.declared.act.Act.{Act}
use Rattle.one_server.specs.declared.act.Act.TheVariants as one_act
use Rattle.one_server.specs.declared.act.Timed.{Timed}
use Rattle.one_server.specs.declared.reply.Reply.{Reply}
use Rattle.one_server.specs.declared.reply.Reply.TheVariants as reply
use Rattle.one_server.specs.Running.{Log}
use Rattle.session_core.specs.declared.stage.Stage.{Stage}
use Rattle.session_core.specs.declared.stage.Stage.TheVariants as stage
use Rattle.session_asks.specs.declared.visit.Visit.{Visit}
use Rattle.session_core.specs.Course.{act_at}
use Rattle.session_core.specs.Laws.{LooksAway, acts_made, places_by}
use Rattle.session_core.specs.Memory.{MemoryState, has_entered, memory_told, without_observed}
use Rattle.session_core.specs.Remembering.{IsOver, LooksOn, Remembers, ToldNothing, WasShown, any_entered, asks_places, is_entered, places_told, shows_game}
use Rattle.session_core.specs.Session.{at_game, at_place, behind_visit, forgets, says_over, watched}
use Rattle.session_core.specs.Stages.{Suits, is_done, kept, kept_behind}
use Rattle.session_core.proofs.Rounds.{told_keeps, told_places}
use Rattle.simul_control.specs.declared.place.Place.{Place}

-- ---- where it has entered

-- an entry of both, or of one of them
inside_then : (before there : Bool) (one two : Log) → there ≡ (before || any_entered one)
    → (there || any_entered two) ≡ (before || any_entered (one ++ two))
inside_then before there one two is =
    ap (λ (b : Bool). b || any_entered two) is
    ∙ or_assoc before (any_entered one) (any_entered two)
    ∙ ap (λ (b : Bool). before || b) (sym (list_any-append (λ (e : Entry Timed Reply). is_entered e.reply) one two))

-- ---- the places

-- what one entry more tells
abbrev places_at : PlaceList → Act → Reply → PlaceList
places_at places act r = if asks_places act then places_by places r else places

places_then : (places : PlaceList) (one two : Log)
    → places_told places (one ++ two) ≡ places_told (places_told places one) two
places_then places [] two = refl
places_then places (e ∷ one) two =
    places_then (if asks_places e.act.act then places_by places e.reply else places) one two

watched_places : (place : Place) (r : Reply) (memory : MemoryState) → (watched place r memory).places ≡ memory.places
watched_places place (reply.Desk (desk_reply.Items items over)) memory = refl
watched_places place _ memory = refl

forgets_places : (seat : Option ℕ) (desk : ℕ) (memory : MemoryState) → (forgets seat desk memory).places ≡ memory.places
forgets_places None desk memory = refl
forgets_places (Some seat) desk memory = refl

forgets_entered : (seat : Option ℕ) (desk : ℕ) (memory : MemoryState)
    → has_entered (forgets seat desk memory) ≡ has_entered memory
forgets_entered None desk memory = refl
forgets_entered (Some seat) desk memory = refl

behind_places : (visit : Visit) (over : Bool) (memory : MemoryState)
    → (behind_visit visit over memory).places ≡ memory.places
behind_places visit true memory = forgets_places visit.seat visit.desk memory
behind_places visit false memory = refl

module _ (memory : MemoryState) (r : Reply) where
  -- an act that asked for the places, and one that did not
  asked : (act one : Act) → act ≡ one → asks_places one ≡ true
      → places_at memory.places act r ≡ places_by memory.places r
  asked act one is asks =
      ap (λ (b : Bool). if b then places_by memory.places r else memory.places) (ap asks_places is ∙ asks)

  not_asked : (act : Act) → asks_places act ≡ false → places_at memory.places act r ≡ memory.places
  not_asked act asks = ap (λ (b : Bool). if b then places_by memory.places r else memory.places) asks

  places_kept : (at : Stage) (act : Act) → Suits act at → (kept at memory r).places ≡ places_at memory.places act r
  places_kept (stage.Placing deed) act is = told_places memory r ∙ sym (asked act _ is refl)
  places_kept (stage.Moving word stamp) act is = told_places memory r ∙ sym (asked act _ is refl)
  places_kept (stage.Reacting reaction) act is = told_places memory r ∙ sym (asked act _ is refl)
  places_kept (stage.Remarking deed) act is = told_places memory r ∙ sym (asked act _ is refl)
  places_kept (stage.AwaitingPlace stamp) act is = told_places memory r ∙ sym (asked act _ is refl)
  places_kept stage.Rounding act is = told_places memory r ∙ sym (asked act _ is refl)
  places_kept (stage.Watching place) act is = watched_places place r memory ∙ sym (not_asked act (ap asks_places is))
  places_kept (stage.Unwatching place) act is = sym (not_asked act (ap asks_places is))
  places_kept _ act is = sym (not_asked act is)

-- ---- where it looks on

looks_same : (rows now : List Place) (made : Log) → now ≡ rows → LooksOn rows made now
looks_same rows now made is = subst (LooksOn rows made) (sym is) (record {
  still = λ k d inside. inl (All-contains_itself rows k d inside);
  only = λ k d inside. inl (All-contains_itself rows k d inside);
})

-- what some of the entries tell, all of them tell
away_left : (one two : Log) (place : Place) → LooksAway one place → LooksAway (one ++ two) place
away_left one two place h = (
  h.0,
  subst (λ (l : List Act). Contains l (one_act.Desk place.desk h.0 desk_act.Unwatch))
      (sym (map-append (λ (e : Entry Timed Reply). e.act.act) one two))
      (Contains-append_left (acts_made one) (acts_made two) _ h.1),
)

away_right : (one two : Log) (place : Place) → LooksAway two place → LooksAway (one ++ two) place
away_right one two place h = (
  h.0,
  subst (λ (l : List Act). Contains l (one_act.Desk place.desk h.0 desk_act.Unwatch))
      (sym (map-append (λ (e : Entry Timed Reply). e.act.act) one two))
      (Contains-append_right (acts_made one) (acts_made two) _ h.1),
)

-- it looks on no longer
abbrev Ends : Log → Place → Type 0
Ends made place = LooksAway made place ⊎ IsOver made place

ends_left : (one two : Log) (place : Place) → Ends one place → Ends (one ++ two) place
ends_left one two place (inl h) = inl (away_left one two place h)
ends_left one two place (inr h) = inr (h.0, h.1, Contains-append_left one two h.0 h.2, h.3, h.4)

ends_right : (one two : Log) (place : Place) → Ends two place → Ends (one ++ two) place
ends_right one two place (inl h) = inl (away_right one two place h)
ends_right one two place (inr h) = inr (h.0, h.1, Contains-append_right one two h.0 h.2, h.3, h.4)

module _ (rows mid now : List Place) (one two : Log) (p : LooksOn rows one mid) (q : LooksOn mid two now) where
  still_later : (place : Place) → Contains now place ⊎ Ends two place → Contains now place ⊎ Ends (one ++ two) place
  still_later place (inl there) = inl there
  still_later place (inr ended) = inr (ends_right one two place ended)

  still_then : (place : Place) → Contains mid place ⊎ Ends one place → Contains now place ⊎ Ends (one ++ two) place
  still_then place (inl there) =
      still_later place
      (All-contains (λ row. Contains now row ⊎ LooksAway two row ⊎ IsOver two row) mid place q.still there)
  still_then place (inr ended) = inr (ends_left one two place ended)

  only_before : (place : Place) → Contains rows place ⊎ WasShown one place
      → Contains rows place ⊎ WasShown (one ++ two) place
  only_before place (inl before) = inl before
  only_before place (inr shown) = inr (shown.0, Contains-append_left one two shown.0 shown.1, shown.2, shown.3)

  only_then : (place : Place) → Contains mid place ⊎ WasShown two place
      → Contains rows place ⊎ WasShown (one ++ two) place
  only_then place (inl there) =
      only_before place (All-contains (λ row. Contains rows row ⊎ WasShown one row) mid place p.only there)
  only_then place (inr shown) = inr (shown.0, Contains-append_right one two shown.0 shown.1, shown.2, shown.3)

  looks_then : LooksOn rows (one ++ two) now
  looks_then = record {
    still = λ k d inside. still_then (get_or rows k d) (p.still k d inside);
    only = λ k d inside. only_then (get_or now k d) (q.only k d inside);
  }

-- looking on at one game more, where there is room
one_more : (t : Bool) (place : Place) (l : PlaceList) (made : Log) → WasShown made place
    → LooksOn l.rows made
    (unless (cond t (Some refusal.SimulFull) None) l (record l { rows = l.rows ++ place ∷ [] })).rows
one_more true place l made shown = looks_same l.rows l.rows made refl
one_more false place l made shown = record {
  still = λ k d inside. inl (Contains-append_left l.rows (place ∷ []) _ (All-contains_itself l.rows k d inside));
  only = All-append (λ row. Contains l.rows row ⊎ WasShown made row) l.rows (place ∷ [])
      (λ k d inside. inl (All-contains_itself l.rows k d inside))
      (All-cons (λ row. Contains l.rows row ⊎ WasShown made row) place [] (inr shown)
      (All-nil (λ row. Contains l.rows row ⊎ WasShown made row)));
}

-- looking on at no game of a desk
gone_or_there : (t : Bool) (desk : ℕ) (row : Place) (rows : List Place) (made : Log) → (row.desk == desk) ≡ t
    → (desk ≡ row.desk → LooksAway made row ⊎ IsOver made row) → Contains rows row
    → Contains (filter (is_elsewhere desk) rows) row ⊎ LooksAway made row ⊎ IsOver made row
gone_or_there true desk row rows made is ends there = inr (ends (sym (eqb-true row.desk desk is)))
gone_or_there false desk row rows made is ends there =
    inl (Contains-filter (is_elsewhere desk) rows row (ap not is) there)

looks_without : (desk : ℕ) (rows : List Place) (made : Log)
    → ((row : Place) → desk ≡ row.desk → LooksAway made row ⊎ IsOver made row)
    → LooksOn rows made (filter (is_elsewhere desk) rows)
looks_without desk rows made ends = record {
  still = λ k d inside.
      let row = get_or rows k d in
      gone_or_there (row.desk == desk) desk row rows made refl (ends row) (All-contains_itself rows k d inside);
  only =
      All-filter_passing (λ row. Contains rows row) (λ row. Contains rows row ⊎ WasShown made row) (is_elsewhere desk)
      (λ row _ there. inl there) rows (All-contains_itself rows);
}

module _ (session moment : ℕ) (act : Act) (r : Reply) (memory : MemoryState) where
  abbrev made : Log
  made = entry session (act_at moment act) r ∷ []

  looks_watched : (answer : Reply) (place : Place) → r ≡ answer → act ≡ at_place place desk_act.Watch
      → LooksOn memory.observed.rows made (watched place answer memory).observed.rows
  looks_watched (reply.Desk (desk_reply.Items items over)) place replied is =
      one_more (holds_most memory.observed) place memory.observed made (
        entry session (act_at moment act) r,
        Contains-push [] (entry session (act_at moment act) r),
        is,
        ap shows_game replied,
      )
  looks_watched _ place replied is = looks_same memory.observed.rows memory.observed.rows made refl

  looks_away : (place : Place) → act ≡ at_place place desk_act.Unwatch
      → LooksOn memory.observed.rows made (without_observed place.desk memory).observed.rows
  looks_away place is = looks_without place.desk memory.observed.rows made (λ row same. inl (
    place.serial,
    subst (λ (a : Act). Contains (act ∷ []) a)
        (is ∙ ap (λ (desk : ℕ). one_act.Desk desk place.serial desk_act.Unwatch) same) (Contains-push [] act),
  ))

  looks_over : (seat : Option ℕ) (desk serial : ℕ) → act ≡ one_act.Desk desk serial desk_act.Fetch → says_over r ≡ true
      → LooksOn memory.observed.rows made (forgets seat desk memory).observed.rows
  looks_over None desk serial is over = looks_without desk memory.observed.rows made (λ row same. inr (
    entry session (act_at moment act) r,
    serial,
    Contains-push [] (entry session (act_at moment act) r),
    is ∙ ap (λ (d : ℕ). one_act.Desk d serial desk_act.Fetch) same,
    over,
  ))
  looks_over (Some seat) desk serial is over = looks_same memory.observed.rows memory.observed.rows made refl

  -- what is told and remembered was told
  was_told : (done : Bool) → (done && says_over r) ≡ true → says_over r ≡ true
  was_told true over = over
  was_told false over = let bad : false ≡ true = over in cc

  looks_visited : (visit : Visit) (over : Bool) → (over ≡ true → says_over r ≡ true)
      → act ≡ at_game visit desk_act.Fetch
      → LooksOn memory.observed.rows made (behind_visit visit over memory).observed.rows
  looks_visited visit true over is = looks_over visit.seat visit.desk visit.serial is (over refl)
  looks_visited visit false over is = looks_same memory.observed.rows memory.observed.rows made refl

  looks_told : LooksOn memory.observed.rows made (memory_told memory r).observed.rows
  looks_told =
      looks_same memory.observed.rows (memory_told memory r).observed.rows made
      (ap (λ (l : PlaceList). l.rows) (told_keeps memory r).looks)

  looks_kept : (at : Stage) → Suits act at → LooksOn memory.observed.rows made (kept at memory r).observed.rows
  looks_kept (stage.Placing deed) is = looks_told
  looks_kept (stage.Moving word stamp) is = looks_told
  looks_kept (stage.Reacting reaction) is = looks_told
  looks_kept (stage.Remarking deed) is = looks_told
  looks_kept (stage.AwaitingPlace stamp) is = looks_told
  looks_kept stage.Rounding is = looks_told
  looks_kept (stage.Watching place) is = looks_watched r place refl is
  looks_kept (stage.Unwatching place) is = looks_away place is
  looks_kept _ is = looks_same memory.observed.rows memory.observed.rows made refl

  -- what it remembers behind the reply to the act at which it stands
  pub remembers_kept : (at : Stage) (after : MemoryState) → Suits act at → after ≡ kept at memory r
      → has_entered after ≡ (has_entered memory || is_entered r)
      → Remembers memory (entry session (act_at moment act) r ∷ []) after
  remembers_kept at after suits is inside = record {
    inside = inside ∙ ap (λ (b : Bool). has_entered memory || b) (sym (or-false (is_entered r)));
    places = ap (λ (m : MemoryState). m.places) is ∙ places_kept memory r at act suits;
    looks =
        subst (λ (m : MemoryState). LooksOn memory.observed.rows made m.observed.rows) (sym is) (looks_kept at suits);
  }

  -- and behind a visit
  entered_still : (over : Bool) (visit : Visit) → has_entered (behind_visit visit over memory) ≡ has_entered memory
  entered_still true visit = forgets_entered visit.seat visit.desk memory
  entered_still false visit = refl

  pub remembers_visited : {T : Type 0} (visit : Visit) (result : Result T NoMemory) (after : MemoryState)
      → act ≡ at_game visit desk_act.Fetch
      → after ≡ kept_behind visit result memory r → has_entered memory ≡ true
      → Remembers memory (entry session (act_at moment act) r ∷ []) after
  remembers_visited visit result after fetches is inside =
      let over = is_done result && says_over r in
      record {
        inside =
            ap has_entered is ∙ entered_still over visit ∙ inside
            ∙ sym (ap (λ (b : Bool). b || any_entered (entry session (act_at moment act) r ∷ [])) inside);
        places =
            ap (λ (m : MemoryState). m.places) is ∙ behind_places visit over memory
            ∙ sym (not_asked memory r act (ap asks_places fetches));
        looks =
            subst (λ (m : MemoryState). LooksOn memory.observed.rows made m.observed.rows) (sym is)
            (looks_visited visit over (was_told (is_done result)) fetches);
      }

  -- and behind an act that tells nothing of where it is
  pub remembers_silent : asks_places act ≡ false → has_entered memory ≡ true
      → Remembers memory (entry session (act_at moment act) r ∷ []) memory
  remembers_silent silent inside = record {
    inside = inside ∙ sym (ap (λ (b : Bool). b || any_entered (entry session (act_at moment act) r ∷ [])) inside);
    places = sym (not_asked memory r act silent);
    looks = looks_same memory.observed.rows memory.observed.rows made refl;
  }

-- ---- behind no entry, and behind some more

pub remembers_none : {before after : MemoryState} → ToldNothing before after → Remembers before [] after
remembers_none {before = before} {after = after} same = record {
  inside = same.inside ∙ sym (or-false (has_entered before));
  places = same.places;
  looks = looks_same before.observed.rows after.observed.rows [] (ap (λ (l : PlaceList). l.rows) same.looks);
}

pub remembers_still : (memory : MemoryState) → Remembers memory [] memory
remembers_still memory = remembers_none (record { inside = refl; places = refl; looks = refl })

pub remembers_then : (before there after : MemoryState) (one two : Log) → Remembers before one there
    → Remembers there two after → Remembers before (one ++ two) after
remembers_then before there after one two p q = record {
  inside = q.inside ∙ inside_then (has_entered before) (has_entered there) one two p.inside;
  places = q.places ∙ ap (λ (l : PlaceList). places_told l two) p.places ∙ sym (places_then before.places one two);
  looks = looks_then before.observed.rows there.observed.rows after.observed.rows one two p.looks q.looks;
}
