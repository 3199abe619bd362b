-- The statuses of serving.
use Rattle.std.proofs.Common.{◌≡◌, ℕ, ◌⊎◌, inl, inr, List, [], ◌∷◌, length, refl, sym, ap, subst, ◌∙◌, arith}
use Rattle.std.specs.Prelude.{Contains, Err, None, Option, Some, String, IfSome}
use Rattle.std.specs.declared.alloc.Global.{Global}
use Rattle.std.specs.Io.KnownBytes.{Appends}
use Rattle.std.proofs.Math.Seq.{take-length}
use Rattle.edge_traits.specs.Sink.{AppendsFront}
use Rattle.cmd_job.specs.Jobs as jobs
use Rattle.cmd_job.specs.Jobs.{AsksToServe, OnUsage}
use Rattle.cmd_job.specs.declared.job.Job.{Job}
use Rattle.cmd_job.specs.declared.job.Job.TheVariants as TheJob
use Rattle.cmd_job.specs.declared.job.JobFail.{JobFail}
use Rattle.cmd_job.specs.declared.job.JobFail.TheVariants as TheFail
use Rattle.cmd_job.specs.Usage.{UsageEnds, usage_line}
use Rattle.edge_traits.specs.Faults.{Rose}
use Rattle.edge_traits.specs.Pairs.{Records}
use Rattle.lobby_load.specs.BadRows.{IsGoodStore}
use Rattle.lobby_load.specs.Telling.{IsFirstBad, TellsBadRecord, bad_record_line}
use Rattle.lobby_load.specs.declared.refusals.StoreFault.{StoreFault}
use Rattle.lobby_load.specs.declared.refusals.StoreFault.TheVariants as unopened
use Rattle.lobby_state.specs.Lobby.{LobbyState}
use Rattle.lobby_load.specs.Refused.{unopened_status}
use Rattle.serve_call.specs.ServeEnds.{EndsCall}
use Rattle.serve_call.specs.Opening.{StaysUnopened}
use Rattle.serve_core.specs.Outside.{Sheet}
use Rattle.edge_traits.specs.Calls.{Store}
use Rattle.serve_turn.specs.declared.end.ServeEnd.{ServeEnd}
use Rattle.serve_turn.specs.declared.end.ServeEnd.TheVariants.{Done, DoorFault, WriteFault, KeeperFault, Memory, Spent}
use Rattle.serve_turn.specs.Stopping.{IsClean, serving_status}
use Rattle.serve_core.specs.Text.{whole_text}

pub is_write_fault : (end : ServeEnd) → serving_status end ≡ 3 → end ≡ WriteFault
is_write_fault Done e = absurd (omega (arith, e))
is_write_fault WriteFault e = refl
is_write_fault KeeperFault e = absurd (omega (arith, e))
is_write_fault Memory e = absurd (omega (arith, e))
is_write_fault DoorFault e = absurd (omega (arith, e))
is_write_fault Spent e = absurd (omega (arith, e))

pub is_door_fault : (end : ServeEnd) → serving_status end ≡ 8 → end ≡ DoorFault
is_door_fault Done e = absurd (omega (arith, e))
is_door_fault WriteFault e = absurd (omega (arith, e))
is_door_fault KeeperFault e = absurd (omega (arith, e))
is_door_fault Memory e = absurd (omega (arith, e))
is_door_fault DoorFault e = refl
is_door_fault Spent e = absurd (omega (arith, e))

pub is_keeper_fault : (end : ServeEnd) → serving_status end ≡ 4 → end ≡ KeeperFault
is_keeper_fault Done e = absurd (omega (arith, e))
is_keeper_fault WriteFault e = absurd (omega (arith, e))
is_keeper_fault KeeperFault e = refl
is_keeper_fault Memory e = absurd (omega (arith, e))
is_keeper_fault DoorFault e = absurd (omega (arith, e))
is_keeper_fault Spent e = absurd (omega (arith, e))

pub is_no_bad_record : (end : ServeEnd) → serving_status end ≡ 5 → ⊥
is_no_bad_record Done e = omega (arith, e)
is_no_bad_record WriteFault e = omega (arith, e)
is_no_bad_record KeeperFault e = omega (arith, e)
is_no_bad_record Memory e = omega (arith, e)
is_no_bad_record DoorFault e = omega (arith, e)
is_no_bad_record Spent e = omega (arith, e)

pub is_no_usage : (end : ServeEnd) → serving_status end ≡ 1 → ⊥
is_no_usage Done e = omega (arith, e)
is_no_usage WriteFault e = omega (arith, e)
is_no_usage KeeperFault e = omega (arith, e)
is_no_usage Memory e = omega (arith, e)
is_no_usage DoorFault e = omega (arith, e)
is_no_usage Spent e = omega (arith, e)

pub is_whole : (end : ServeEnd) → (serving_status end ≡ 0) ⊎ (serving_status end ≡ 9) → IsClean end
is_whole Done e = tt
is_whole Spent e = tt
is_whole KeeperFault (inl e) = omega (arith, e)
is_whole KeeperFault (inr e) = omega (arith, e)
is_whole WriteFault (inl e) = omega (arith, e)
is_whole WriteFault (inr e) = omega (arith, e)
is_whole Memory (inl e) = omega (arith, e)
is_whole Memory (inr e) = omega (arith, e)
is_whole DoorFault (inl e) = omega (arith, e)
is_whole DoorFault (inr e) = omega (arith, e)

-- the statuses that there are
abbrev pub AllStatuses : ℕ → Type 0
AllStatuses = Contains (0 ∷ 1 ∷ 3 ∷ 4 ∷ 5 ∷ 6 ∷ 8 ∷ 9 ∷ [])

pub is_listed : (end : ServeEnd) → AllStatuses (serving_status end)
is_listed Done = (0, omega arith, refl)
is_listed WriteFault = (2, omega arith, refl)
is_listed KeeperFault = (3, omega arith, refl)
is_listed Memory = (5, omega arith, refl)
is_listed DoorFault = (6, omega arith, refl)
is_listed Spent = (7, omega arith, refl)

-- those that there are where nothing failed
abbrev pub CalmStatuses : ℕ → Type 0
CalmStatuses = Contains (0 ∷ 5 ∷ 6 ∷ 9 ∷ [])

pub is_complete : (end : ServeEnd) → IsClean end ⊎ (end ≡ Memory) → CalmStatuses (serving_status end)
is_complete Done p = (0, omega arith, refl)
is_complete Memory p = (2, omega arith, refl)
is_complete Spent p = (3, omega arith, refl)
is_complete WriteFault (inl w) = absurd w
is_complete WriteFault (inr e) = absurd cc
is_complete KeeperFault (inl w) = absurd w
is_complete KeeperFault (inr e) = absurd cc
is_complete DoorFault (inl w) = absurd w
is_complete DoorFault (inr e) = absurd cc

-- words that name no job don't ask to serve
pub no_serve : (fail : JobFail) (words : List (String Global))
    → OnUsage fail ((job : Job) → jobs.NamesJob words job → ⊥)
    → OnUsage fail (AsksToServe words → ⊥)
no_serve TheFail.Usage words h = λ asks. h (TheJob.Serve asks.0 asks.1 asks.2 asks.3) asks.4
no_serve TheFail.Memory words h = tt

-- the statuses with which the usage line is written
pub usage_listed : (written written' : Option (List ℕ)) (status : ℕ) → UsageEnds written written' status
    → AllStatuses status
usage_listed written written' status (inl p) = subst AllStatuses (sym p.0) (1, omega arith, refl)
usage_listed written written' status (inr (inl e, front)) = subst AllStatuses (sym e) (2, omega arith, refl)
usage_listed written written' status (inr (inr e, front)) = subst AllStatuses (sym e) (5, omega arith, refl)

-- the sink counted no fault, unless that is told
pub usage_told : {told same other : Type 0} → told ⊎ same → same ⊎ (told ⊎ other)
usage_told (inl p) = inr (inl p)
usage_told (inr p) = inl p

-- no other status is told with it
pub usage_else : (written written' : Option (List ℕ)) (status : ℕ) → UsageEnds written written' status
    → (status ≡ 4) ⊎ ((status ≡ 5) ⊎ (status ≡ 8)) → ⊥
usage_else written written' status (inl p) e = omega (arith, p.0, e)
usage_else written written' status (inr (inl is, front)) e = omega (arith, is, e)
usage_else written written' status (inr (inr is, front)) e = omega (arith, is, e)

-- a front of the usage line was written
pub usage_front : (written written' : Option (List ℕ)) (status : ℕ) → UsageEnds written written' status
    → AppendsFront written written' usage_line
usage_front written written' status (inl p) =
    (length usage_line, subst (λ (bs : List ℕ). Appends written written' bs) (sym (take-length usage_line)) p.1)
usage_front written written' status (inr p) = p.1

status_told : {same : Type 0} (end : ServeEnd) → same ⊎ ((end ≡ WriteFault) ⊎ (end ≡ DoorFault))
    → same ⊎ ((serving_status end ≡ 3) ⊎ (serving_status end ≡ 8))
status_told end (inl e) = inl e
status_told end (inr (inl e)) = inr (inl (ap serving_status e))
status_told end (inr (inr e)) = inr (inr (ap serving_status e))

-- ---- a call that opened a hall, or none

-- a table with a bad key is no good store
pub first_bad : (told : Option Records) (key : List ℕ) → IsFirstBad told key
    → IfSome told (λ table. IsGoodStore table → ⊥)
first_bad None key first = tt
first_bad (Some table) key first = λ good. good.none_bad key first.bad

unopened_write : (fault : StoreFault) → unopened_status fault ≡ 3 → fault ≡ unopened.WriteFault
unopened_write unopened.WriteFault e = refl
unopened_write unopened.KeeperFault e = absurd (omega (arith, e))
unopened_write unopened.BadRecord e = absurd (omega (arith, e))
unopened_write unopened.Memory e = absurd (omega (arith, e))

unopened_keeper : (fault : StoreFault) → unopened_status fault ≡ 4 → fault ≡ unopened.KeeperFault
unopened_keeper unopened.WriteFault e = absurd (omega (arith, e))
unopened_keeper unopened.KeeperFault e = refl
unopened_keeper unopened.BadRecord e = absurd (omega (arith, e))
unopened_keeper unopened.Memory e = absurd (omega (arith, e))

unopened_bad : (fault : StoreFault) → unopened_status fault ≡ 5 → fault ≡ unopened.BadRecord
unopened_bad unopened.WriteFault e = absurd (omega (arith, e))
unopened_bad unopened.KeeperFault e = absurd (omega (arith, e))
unopened_bad unopened.BadRecord e = refl
unopened_bad unopened.Memory e = absurd (omega (arith, e))

unopened_else : (fault : StoreFault)
    → (unopened_status fault ≡ 1)
    ⊎ ((unopened_status fault ≡ 8) ⊎ ((unopened_status fault ≡ 0) ⊎ (unopened_status fault ≡ 9)))
    → ⊥
unopened_else unopened.WriteFault e = omega (arith, e)
unopened_else unopened.KeeperFault e = omega (arith, e)
unopened_else unopened.BadRecord e = omega (arith, e)
unopened_else unopened.Memory e = omega (arith, e)

unopened_listed : (fault : StoreFault) → AllStatuses (unopened_status fault)
unopened_listed unopened.WriteFault = (2, omega arith, refl)
unopened_listed unopened.KeeperFault = (3, omega arith, refl)
unopened_listed unopened.BadRecord = (4, omega arith, refl)
unopened_listed unopened.Memory = (5, omega arith, refl)

module _ {before after : Sheet} {old new : Store} where
  unopened_calm : (fault : StoreFault) → StaysUnopened fault old new before after → ¬ Rose before.faults after.faults
      → ¬ Rose old.faults new.faults → CalmStatuses (unopened_status fault)
  unopened_calm unopened.WriteFault p sink keeper = absurd (sink (p.write_fault refl))
  unopened_calm unopened.KeeperFault p sink keeper = absurd (keeper (p.keeper_fault refl))
  unopened_calm unopened.BadRecord p sink keeper = (1, omega arith, refl)
  unopened_calm unopened.Memory p sink keeper = (2, omega arith, refl)

  unopened_told : (fault : StoreFault) → StaysUnopened fault old new before after
      → (after.faults ≡ before.faults) ⊎ ((unopened_status fault ≡ 3) ⊎ (unopened_status fault ≡ 8))
  unopened_told unopened.WriteFault p = inr (inl refl)
  unopened_told unopened.KeeperFault p = inl p.write_calm
  unopened_told unopened.BadRecord p = inl p.write_calm
  unopened_told unopened.Memory p = inl p.write_calm

module _ {status door door' : ℕ} {before after : Sheet} {old new : Store} where
  pub call_write : EndsCall status door door' before after old new → status ≡ 3 → Rose before.faults after.faults
  call_write (inl (fault, is, p)) e = p.write_fault (unopened_write fault (sym is ∙ e))
  call_write (inr (end, is, p)) e = p.write_fault (is_write_fault end (sym is ∙ e))

  pub call_keeper : EndsCall status door door' before after old new → status ≡ 4 → Rose old.faults new.faults
  call_keeper (inl (fault, is, p)) e = p.keeper_fault (unopened_keeper fault (sym is ∙ e))
  call_keeper (inr (end, is, p)) e = p.keeper_fault (is_keeper_fault end (sym is ∙ e))

  pub call_door : EndsCall status door door' before after old new → status ≡ 8 → Rose door door'
  call_door (inl (fault, is, p)) e = absurd (unopened_else fault (inr (inl (sym is ∙ e))))
  call_door (inr (end, is, p)) e = p.door_fault (is_door_fault end (sym is ∙ e))

  pub call_usage : EndsCall status door door' before after old new → status ≡ 1 → ⊥
  call_usage (inl (fault, is, p)) e = unopened_else fault (inl (sym is ∙ e))
  call_usage (inr (end, is, p)) e = is_no_usage end (sym is ∙ e)

  pub call_text : EndsCall status door door' before after old new → (status ≡ 0) ⊎ (status ≡ 9)
      → Appends before.written after.written whole_text
  call_text (inl (fault, is, p)) (inl e) = absurd (unopened_else fault (inr (inr (inl (sym is ∙ e)))))
  call_text (inl (fault, is, p)) (inr e) = absurd (unopened_else fault (inr (inr (inr (sym is ∙ e)))))
  call_text (inr (end, is, p)) (inl e) = p.text (is_whole end (inl (sym is ∙ e)))
  call_text (inr (end, is, p)) (inr e) = p.text (is_whole end (inr (sym is ∙ e)))

  pub call_bad : EndsCall status door door' before after old new → status ≡ 5
      → (key : List ℕ) × IsFirstBad old.table key × Appends before.written after.written (bad_record_line key)
  call_bad (inl (fault, is, p)) e =
      subst (λ (f : StoreFault). TellsBadRecord {A = LobbyState} old.table before.written after.written (Err f))
      (unopened_bad fault (sym is ∙ e)) p.wrote
  call_bad (inr (end, is, p)) e = absurd (is_no_bad_record end (sym is ∙ e))

  pub call_good : EndsCall status door door' before after old new → status ≡ 5
      → IfSome old.table (λ table. IsGoodStore table → ⊥)
  call_good ends e = let bad = call_bad ends e in first_bad old.table bad.0 bad.1

  pub call_listed : EndsCall status door door' before after old new → AllStatuses status
  call_listed (inl (fault, is, p)) = subst AllStatuses (sym is) (unopened_listed fault)
  call_listed (inr (end, is, p)) = subst AllStatuses (sym is) (is_listed end)

  pub call_calm : EndsCall status door door' before after old new → ¬ Rose door door'
      → ¬ Rose before.faults after.faults → ¬ Rose old.faults new.faults → CalmStatuses status
  call_calm (inl (fault, is, p)) calm sink keeper = subst CalmStatuses (sym is) (unopened_calm fault p sink keeper)
  call_calm (inr (end, is, p)) calm sink keeper =
      subst CalmStatuses (sym is) (is_complete end (p.complete calm sink keeper))

  pub call_told : EndsCall status door door' before after old new
      → (after.faults ≡ before.faults) ⊎ ((status ≡ 3) ⊎ (status ≡ 8))
  call_told (inl (fault, is, p)) =
      subst (λ n. (after.faults ≡ before.faults) ⊎ ((n ≡ 3) ⊎ (n ≡ 8))) (sym is) (unopened_told fault p)
  call_told (inr (end, is, p)) =
      subst (λ n. (after.faults ≡ before.faults) ⊎ ((n ≡ 3) ⊎ (n ≡ 8))) (sym is) (status_told end p.write_told)
