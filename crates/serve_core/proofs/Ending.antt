-- The end of serving: its status, the text, and why no further link was taken.
use Rattle.std.proofs.Common.{◌≡◌, ◌≢◌, ℕ, ◌≤◌, ◌⊎◌, Bool, true, false, inl, inr, refl, sym, subst, ◌∙◌}
use Rattle.std.proofs.KnownBytes.{Appends-nil}
use Rattle.std.specs.declared.option.Option.{Option}
use Rattle.edge_traits.specs.Calls.{Store}
use Rattle.edge_traits.specs.Door.{DoorTale}
use Rattle.edge_traits.specs.Faults.{Rose}
use Rattle.edge_traits.specs.Sink.{OnWriteFailed, UnlessWriteFailed, Wrote}
use Rattle.steward_core.specs.declared.turn.StewardEnd.{StewardEnd}
use Rattle.steward_core.specs.declared.turn.StewardEnd.TheVariants as steward
use Rattle.edge_traits.specs.declared.sink.Sent.{Sent}
use Rattle.edge_traits.specs.declared.sink.Sent.TheVariants as sent
use Rattle.serve_turn.specs.declared.end.DoorEnd.{DoorEnd}
use Rattle.serve_turn.specs.declared.end.DoorEnd.TheVariants as door_end
use Rattle.serve_turn.specs.declared.end.ServeEnd.{ServeEnd}
use Rattle.serve_turn.specs.declared.end.ServeEnd.TheVariants.{Done, DoorFault, WriteFault, KeeperFault, Memory, Spent}
use Rattle.serve_turn.specs.declared.supply.Supply.{Supply}
use Rattle.serve_turn.specs.declared.supply.Supply.TheVariants.{Enough, Short}
use Rattle.serve_core.specs.StewardLaws.{IsDone}
use Rattle.serve_turn.specs.Stopping.{IsClean, end_of, is_short}
use Rattle.serve_core.specs.Ends.{EndsServing}
use Rattle.serve_core.specs.Text.{Says, SaysText, closed_text, ready_text, whole_text}
use Rattle.serve_core.specs.Outside.{Sheet}
use Rattle.serve_core.specs.Keeping.{Stopped}
use Rattle.serve_turn.specs.Turns.{supply_then}
use Rattle.serve_core.proofs.Writing.{wrote_front}
use Rattle.cmd_lines.proofs.Rounds.{Rose-since}

-- ---- whether memory ran out

short_write : (supply : Supply) → is_short supply sent.Memory ≡ true
short_write Short = refl
short_write Enough = refl

-- it ran out before, or in the last turn
pub short_before : (made supply : Supply) (s : Sent) → supply ≡ Short → is_short (supply_then made supply) s ≡ true
short_before Short supply s e = refl
short_before Enough supply s e = subst (λ (x : Supply). is_short x s ≡ true) (sym e) refl

pub short_turn : (made supply : Supply) (s : Sent) → made ≡ Short → is_short (supply_then made supply) s ≡ true
short_turn made supply s e = subst (λ (x : Supply). is_short (supply_then x supply) s ≡ true) (sym e) refl

pub short_made : (made : Supply) (s : Sent) → made ≡ Short → is_short made s ≡ true
short_made made s e = subst (λ (x : Supply). is_short x s ≡ true) (sym e) refl

ample : (supply : Supply) (s : Sent) → s ≡ sent.All → supply ≡ Enough → is_short supply s ≡ false
ample supply s whole enough =
    subst (λ (x : Sent). is_short supply x ≡ false) (sym whole)
    (subst (λ (x : Supply). is_short x sent.All ≡ false) (sym enough) refl)

-- ---- how serving ends

-- how the last turn of the steward ended: well, where serving did; with a keeper fault exactly where serving ended so,
-- but for faults of the door and the sink, which stand above one of the keeper and below which it may have ended anyhow
abbrev pub LastEnds : ServeEnd → StewardEnd → Type 0
LastEnds Done last = IsDone last
LastEnds Spent last = IsDone last
LastEnds Memory last = last ≢ steward.KeeperFault
LastEnds KeeperFault last = last ≡ steward.KeeperFault
LastEnds WriteFault last = Unit {0}
LastEnds DoorFault last = Unit {0}

-- of what such an end comes
abbrev Comes : DoorEnd → Sent → StewardEnd → Supply → ServeEnd → Type 0
Comes door s last supply Done = (s ≡ sent.All) × (supply ≡ Enough) × IsDone last
Comes door s last supply Spent = (s ≡ sent.All) × (supply ≡ Enough) × IsDone last
Comes door s last supply Memory =
    (last ≢ steward.KeeperFault) × ((is_short supply s ≡ true) ⊎ (last ≡ steward.Memory))
Comes door s last supply KeeperFault = last ≡ steward.KeeperFault
Comes door s last supply WriteFault = s ≡ sent.Failed
Comes door s last supply DoorFault = door ≡ door_end.Failed

comes : (door : DoorEnd) (s : Sent) (last : StewardEnd) (supply : Supply)
    → Comes door s last supply (end_of door s last supply)
comes door_end.Failed s last supply = refl
comes door_end.Closed sent.Failed last supply = refl
comes door_end.Closed sent.All steward.KeeperFault supply = refl
comes door_end.Closed sent.Memory steward.KeeperFault supply = refl
comes door_end.Closed sent.All steward.Memory supply = ((λ e. cc), inr refl)
comes door_end.Closed sent.Memory steward.Memory supply = ((λ e. cc), inr refl)
comes door_end.Closed sent.Memory (steward.Done count) supply = ((λ e. cc), inl (short_write supply))
comes door_end.Closed sent.All (steward.Done count) Short = ((λ e. cc), inl refl)
comes door_end.Closed sent.All (steward.Done count) Enough = (refl, refl, tt)
comes door_end.Spent sent.Failed last supply = refl
comes door_end.Spent sent.All steward.KeeperFault supply = refl
comes door_end.Spent sent.Memory steward.KeeperFault supply = refl
comes door_end.Spent sent.All steward.Memory supply = ((λ e. cc), inr refl)
comes door_end.Spent sent.Memory steward.Memory supply = ((λ e. cc), inr refl)
comes door_end.Spent sent.Memory (steward.Done count) supply = ((λ e. cc), inl (short_write supply))
comes door_end.Spent sent.All (steward.Done count) Short = ((λ e. cc), inl refl)
comes door_end.Spent sent.All (steward.Done count) Enough = (refl, refl, tt)

module _ (door : DoorEnd) (s : Sent) (last : StewardEnd) (supply : Supply) where
  comes_so : (end : ServeEnd) → end ≡ end_of door s last supply → Comes door s last supply end
  comes_so end is = subst (λ (e : ServeEnd). Comes door s last supply e) (sym is) (comes door s last supply)

  last_ends : (end : ServeEnd) → Comes door s last supply end → LastEnds end last
  last_ends Done p = p.2
  last_ends Spent p = p.2
  last_ends Memory p = p.0
  last_ends KeeperFault p = p
  last_ends WriteFault p = tt
  last_ends DoorFault p = tt

  clean_comes : (end : ServeEnd) → Comes door s last supply end → IsClean end → (s ≡ sent.All) × (supply ≡ Enough)
  clean_comes Done p clean = (p.0, p.1)
  clean_comes Spent p clean = (p.0, p.1)
  clean_comes WriteFault p clean = absurd clean
  clean_comes KeeperFault p clean = absurd clean
  clean_comes Memory p clean = absurd clean
  clean_comes DoorFault p clean = absurd clean

  ends_last : (end : ServeEnd) → end ≡ end_of door s last supply → LastEnds end last
  ends_last end is = last_ends end (comes_so end is)

  ends_clean : (end : ServeEnd) → end ≡ end_of door s last supply → IsClean end → (s ≡ sent.All) × (supply ≡ Enough)
  ends_clean end is clean = clean_comes end (comes_so end is) clean

-- where it ended well the last turn was done
pub clean_last : (end : ServeEnd) (last : StewardEnd) → LastEnds end last → IsClean end → IsDone last
clean_last Done last ends clean = ends
clean_last Spent last ends clean = ends
clean_last WriteFault last ends clean = absurd clean
clean_last KeeperFault last ends clean = absurd clean
clean_last Memory last ends clean = absurd clean
clean_last DoorFault last ends clean = absurd clean

-- what is told of an end says so
pub text_last : (end : ServeEnd) (short : Bool) (last : StewardEnd) (door : Option DoorTale) (count : ℕ)
    (before after : Sheet)
    → SaysText end short last door count before after → LastEnds end last
text_last end short last door count before after (inl p) =
    ends_last door_end.Closed p.said last p.supply end p.ends
text_last end short last door count before after (inr p) =
    ends_last p.why p.said last p.supply end p.ends

pub text_enough : (end : ServeEnd) (short : Bool) (last : StewardEnd) (door : Option DoorTale) (count : ℕ)
    (before after : Sheet)
    → SaysText end short last door count before after → IsClean end → short ≡ false
text_enough end short last door count before after (inl p) clean =
    absurd (p.unwritten (ends_clean door_end.Closed p.said last p.supply end p.ends clean).0)
text_enough end short last door count before after (inr p) clean =
    let well = ends_clean p.why p.said last p.supply end p.ends clean in
    p.shortage ∙ ample p.supply p.said well.0 well.1

told_short : (short is : Bool) (last : StewardEnd) → short ≡ is → (is ≡ true) ⊎ (last ≡ steward.Memory)
    → (short ≡ true) ⊎ (last ≡ steward.Memory)
told_short short is last told (inl e) = inl (told ∙ e)
told_short short is last told (inr e) = inr e

pub text_short : (end : ServeEnd) (short : Bool) (last : StewardEnd) (door : Option DoorTale) (count : ℕ)
    (before after : Sheet)
    → SaysText end short last door count before after → end ≡ Memory
    → (short ≡ true) ⊎ (last ≡ steward.Memory)
text_short end short last door count before after (inl p) is =
    told_short short (is_short p.supply p.said) last p.shortage
    (comes_so door_end.Closed p.said last p.supply Memory (sym is ∙ p.ends)).1
text_short end short last door count before after (inr p) is =
    told_short short (is_short p.supply p.said) last p.shortage
    (comes_so p.why p.said last p.supply Memory (sym is ∙ p.ends)).1

-- ---- the text, and why no further link was taken

-- `ready` was written, links were taken, and then `closed` was to be written
pub closes_by : (why : DoorEnd) (s : Sent) (last : StewardEnd) (supply : Supply) (door : Option DoorTale)
    (splits before now : ℕ) (first mid after : Sheet)
    → Stopped why splits door before now
    → Says ready_text sent.All first mid → Says closed_text s mid after
    → SaysText (end_of why s last supply) (is_short supply s) last door splits first after
closes_by why s last supply door splits before now first mid after p ready closed = inr (record {
  why = why;
  stopped = p.0;
  mid = mid;
  ready = ready;
  said = s;
  closed = closed;
  supply = supply;
  ends = refl;
  shortage = refl;
})

-- `ready` couldn't be written
pub closes_unready : (s : Sent) (last : StewardEnd) (supply : Supply) (door : Option DoorTale) (splits : ℕ)
    (first after : Sheet)
    → splits ≡ 0 → s ≢ sent.All → Says ready_text s first after
    → SaysText (end_of door_end.Closed s last supply) (is_short supply s) last door splits first after
closes_unready s last supply door splits first after zero unwritten ready = inl (record {
  none_taken = zero;
  said = s;
  supply = supply;
  unwritten = unwritten;
  ready = ready;
  ends = refl;
  shortage = refl;
})

-- ---- the counts of faults

-- the sink counted no fault, unless one of the last write is told, or one of the door
told_by : (why : DoorEnd) (s : Sent) (last : StewardEnd) (supply : Supply) (before after : ℕ)
    → UnlessWriteFailed s (after ≡ before)
    → (after ≡ before) ⊎ ((end_of why s last supply ≡ WriteFault) ⊎ (end_of why s last supply ≡ DoorFault))
told_by why sent.All last supply before after calm = inl calm
told_by why sent.Memory last supply before after calm = inl calm
told_by door_end.Failed sent.Failed last supply before after calm = inr (inr refl)
told_by door_end.Closed sent.Failed last supply before after calm = inr (inl refl)
told_by door_end.Spent sent.Failed last supply before after calm = inr (inl refl)

-- where none of the three counted one
unless_failed : {door sink keeper : Type 0} (end : ServeEnd) → (end ≡ DoorFault → door) → (end ≡ WriteFault → sink)
    → (end ≡ KeeperFault → keeper)
    → ¬ door → ¬ sink → ¬ keeper → IsClean end ⊎ (end ≡ Memory)
unless_failed Done f g h p q r = inl tt
unless_failed Spent f g h p q r = inl tt
unless_failed Memory f g h p q r = inr refl
unless_failed DoorFault f g h p q r = absurd (p (f refl))
unless_failed WriteFault f g h p q r = absurd (q (g refl))
unless_failed KeeperFault f g h p q r = absurd (r (h refl))

module _ (why : DoorEnd) (s : Sent) (last : StewardEnd) (supply : Supply) (door door' : ℕ) (before after : Sheet)
    (old mid new : Store)
    (failed : why ≡ door_end.Failed → Rose door door') (says : Says whole_text s before after)
    (counted : old.faults ≤ mid.faults) (fault : last ≡ steward.KeeperFault → Rose mid.faults new.faults) where
  of_door : end_of why s last supply ≡ DoorFault → Rose door door'
  of_door e = failed (comes_so why s last supply DoorFault (sym e))

  of_sink : end_of why s last supply ≡ WriteFault → Rose before.faults after.faults
  of_sink e =
      subst (λ (x : Sent). OnWriteFailed x (Rose before.faults after.faults))
      (comes_so why s last supply WriteFault (sym e)) says.cause

  of_keeper : end_of why s last supply ≡ KeeperFault → Rose old.faults new.faults
  of_keeper e =
      Rose-since old.faults mid.faults new.faults counted (fault (comes_so why s last supply KeeperFault (sym e)))

  -- serving ended, by the door, the last write, the steward's last turn and whether memory ran out
  pub ends_by : EndsServing (end_of why s last supply) door door' before after old new
  ends_by = record {
    door_fault = of_door;
    write_fault = of_sink;
    keeper_fault = of_keeper;
    write_told = told_by why s last supply before.faults after.faults says.calm;
    complete = unless_failed (end_of why s last supply) of_door of_sink of_keeper;
    text = λ clean.
        subst (λ (x : Sent). Wrote before.written after.written whole_text x)
        (ends_clean why s last supply (end_of why s last supply) refl clean).0 says.wrote;
    text_part = wrote_front before.written after.written whole_text s says.wrote;
  }

-- no hall was opened
pub ends_unopened : (door : ℕ) (sheet : Sheet) (store : Store) → EndsServing Memory door door sheet sheet store store
ends_unopened door sheet store = record {
  door_fault = λ e. absurd cc;
  write_fault = λ e. absurd cc;
  keeper_fault = λ e. absurd cc;
  write_told = inl refl;
  complete = λ p q r. inr refl;
  text = λ clean. absurd clean;
  text_part = (0, Appends-nil sheet.written);
}
