-- A turn of the steward, and turns one after another: their acts, and what they ask.
use Rattle.std.proofs.Common.{◌≡◌, ℕ, zero, suc, ◌+◌, ◌≤◌, ◌⊎◌, inl, inr, List, [], ◌∷◌, ◌++◌, map, refl, sym, ap, subst, ◌∙◌, arith, append_assoc, append-nil, le_trans}
use Rattle.std.specs.declared.option.Option.{Option}
use Rattle.std.specs.declared.option.Option.TheVariants.{None, Some}
use Rattle.edge_traits.specs.Faults.{Rose}
use Rattle.edge_traits.specs.Calls.{Store}
use Rattle.lobby_shelf.specs.declared.order.Order.{Order}
use Rattle.lobby_state.specs.declared.desk_in_use.DeskInUse.{DeskInUse}
use Rattle.histories.specs.declared.entry.Entry.{Entry}
use Rattle.one_server.specs.declared.act.Timed.{Timed}
use Rattle.one_server.specs.declared.reply.Reply.{Reply}
use Rattle.one_server.specs.Running.{Log, RunnerState}
use Rattle.hall_core.specs.Passes.{PassState, Fixed}
use Rattle.steward_core.specs.declared.clearing.ClearingEnd.{ClearingEnd}
use Rattle.steward_core.specs.declared.clearing.ClearingEnd.TheVariants as clearing
use Rattle.steward_core.specs.declared.turn.StewardEnd.{StewardEnd}
use Rattle.steward_core.specs.declared.turn.StewardEnd.TheVariants.{Done, KeeperFault, Memory}
use Rattle.steward_core.specs.Clearing.{AreClears, AsksAndClears, IsPartOf, IsClearing, timed_acts_of, clears, rows_told}
use Rattle.steward_core.specs.Saving.{AreFullRounds, EndsSaving, IsCutShort, IsSaveRound, IsSaving, asks_orders, last_number, says_saved, tells_upto}
use Rattle.steward_core.specs.Turn.{end_of_turn}
use Rattle.serve_turn.specs.declared.supply.Supply.{Supply}
use Rattle.serve_core.specs.StewardLaws.{AreStewards, IsDone, IsStewards, times_asked, asks_once}
use Rattle.serve_core.specs.Stewarding.{AreTurns, MayEnd, StewardTurn}
use Rattle.serve_turn.specs.Turns.{MadeTurn}
use Rattle.steward_core.proofs.DesksCleared.{part_of_itself}

-- entries of a steward that ask so often which desks are in use
abbrev pub Asks : ℕ → Log → Type 0
Asks n es = AreStewards es × (times_asked es ≡ n)

pub stewards_append : (one two : Log) → AreStewards one → AreStewards two → AreStewards (one ++ two)
stewards_append [] two p q = q
stewards_append (e ∷ one) two p q = (p.0, stewards_append one two p.1 q)

pub asked_append : (one two : Log) → times_asked (one ++ two) ≡ times_asked one + times_asked two
asked_append [] two = omega arith
asked_append (e ∷ one) two = omega (arith, asked_append one two)

asks_append : (n m : ℕ) (one two : Log) → Asks n one → Asks m two → Asks (n + m) (one ++ two)
asks_append n m one two p q = (stewards_append one two p.0 q.0, omega (arith, asked_append one two, p.1, q.1))

-- ---- clearing

-- Clears alone are a steward's, and ask nothing
asks_some : (moment : ℕ) (es : Log) (rows : List DeskInUse) → IsPartOf (timed_acts_of es) (map (clears moment) rows)
    → Asks 0 es
asks_some moment [] rows p = (tt, refl)
asks_some moment (e ∷ es) [] p = absurd p
asks_some moment (e ∷ es) (row ∷ rows) (inl p) =
    let more = asks_some moment es rows p.1 in
    let act : clears moment row ≡ e.act = sym p.0 in (
      (subst (λ (t : Timed). IsStewards t.act) act tt, more.0),
      subst (λ (t : Timed). asks_once t.act + times_asked es ≡ 0) act (omega (arith, more.1)),
    )
asks_some moment (e ∷ es) (row ∷ rows) (inr p) = asks_some moment (e ∷ es) rows p

asks_rest : (end : ClearingEnd) (moment : ℕ) (rows : List DeskInUse) (es : Log) → AreClears end moment rows es
    → Asks 0 es
asks_rest clearing.Done moment rows es p =
    asks_some moment es rows
    (subst (λ (l : List Timed). IsPartOf (timed_acts_of es) l) p (part_of_itself (timed_acts_of es)))
asks_rest clearing.Memory moment rows es p = asks_some moment es rows p

asks_once_and_clears : (end : ClearingEnd) (moment : ℕ) (es : Log) → AsksAndClears end moment es → Asks 1 es
asks_once_and_clears end moment es p =
    let rest = asks_rest end moment (rows_told p.first.reply) p.rest p.clears in
    let both : Asks 1 (p.first ∷ p.rest) = (
      (subst (λ (t : Timed). IsStewards t.act) (sym p.asks) tt, rest.0),
      subst (λ (t : Timed). asks_once t.act + times_asked p.rest ≡ 1) (sym p.asks) (omega (arith, rest.1)),
    ) in
    subst (Asks 1) (sym p.all) both

clearing_stewards : (end : ClearingEnd) (moment : ℕ) (es : Log) → IsClearing end moment es → AreStewards es
clearing_stewards clearing.Done moment es p = (asks_once_and_clears clearing.Done moment es p).0
clearing_stewards clearing.Memory moment es (inl e) = subst AreStewards (sym e) tt
clearing_stewards clearing.Memory moment es (inr p) = (asks_once_and_clears clearing.Memory moment es p).0

-- ---- saving

-- an act that tells orders as saved is a steward's, and asks nothing
asks_told : (moment : ℕ) (upto : Option ℕ) (es : Log) → timed_acts_of es ≡ tells_upto moment upto → Asks 0 es
asks_told moment None [] is = (tt, refl)
asks_told moment None (e ∷ es) is = absurd cc
asks_told moment (Some upto) [] is = absurd cc
asks_told moment (Some upto) (e ∷ []) is =
    let act : says_saved moment upto ≡ e.act = cc in (
      (subst (λ (t : Timed). IsStewards t.act) act tt, tt),
      subst (λ (t : Timed). asks_once t.act + 0 ≡ 0) act refl,
    )
asks_told moment (Some upto) (e ∷ (f ∷ es)) is = absurd cc

-- a question for orders, and what is told behind it
asks_behind : (moment : ℕ) (first : Entry Timed Reply) (rest : Log) → first.act ≡ asks_orders moment → Asks 0 rest
    → Asks 0 (first ∷ rest)
asks_behind moment first rest asks none = (
  (subst (λ (t : Timed). IsStewards t.act) (sym asks) tt, none.0),
  subst (λ (t : Timed). asks_once t.act + times_asked rest ≡ 0) (sym asks) (omega (arith, none.1)),
)

asks_round : (moment : ℕ) (es : Log) (orders : List Order) → IsSaveRound moment es orders → Asks 0 es
asks_round moment es orders p =
    subst (Asks 0) (sym p.all)
    (asks_behind moment p.first p.rest p.asks (asks_told moment (last_number orders) p.rest p.saved))

asks_cut_rest : (moment : ℕ) (upto : Option ℕ) (es : Log) → (timed_acts_of es ≡ tells_upto moment upto) ⊎ (es ≡ [])
    → Asks 0 es
asks_cut_rest moment upto es (inl is) = asks_told moment upto es is
asks_cut_rest moment upto es (inr is) = subst (Asks 0) (sym is) (tt, refl)

asks_cut : (moment : ℕ) (es : Log) (carried : List Order) → IsCutShort moment es carried → Asks 0 es
asks_cut moment es carried p =
    subst (Asks 0) (sym p.all)
    (asks_behind moment p.first p.rest p.asks (asks_cut_rest moment (last_number carried) p.rest p.saved))

asks_full : (moment n : ℕ) (es : Log) (orders : List Order) → AreFullRounds moment n es orders → Asks 0 es
asks_full moment zero es orders p = subst (Asks 0) (sym p.0) (tt, refl)
asks_full moment (suc n) es orders (before, after, first, last, full, round, count, is, all) =
    subst (Asks 0) (sym is)
    (asks_append 0 0 before after (asks_full moment n before first full) (asks_round moment after last round))

asks_none : (es : Log) → es ≡ [] → Asks 0 es
asks_none es e = subst (Asks 0) (sym e) (tt, refl)

asks_ends : (moment : ℕ) (end : StewardEnd) (rounds : ℕ) (es : Log) (orders : List Order)
    → EndsSaving moment end rounds es orders → Asks 0 es
asks_ends moment (Done count) rounds es orders (inl p) = asks_round moment es orders p.0
asks_ends moment (Done count) rounds es orders (inr p) = asks_none es p.1
asks_ends moment KeeperFault rounds es orders p = asks_cut moment es orders p
asks_ends moment Memory rounds es orders (inl p) = asks_cut moment es orders p
asks_ends moment Memory rounds es orders (inr p) = asks_none es p.0

pub asks_saving : (moment : ℕ) (end : StewardEnd) (es : Log) (carried : List Order) → IsSaving moment end es carried
    → Asks 0 es
asks_saving moment end es carried p =
    subst (Asks 0) (sym p.all)
    (asks_append 0 0 p.full p.rest (asks_full moment p.rounds p.full p.first p.are_full)
    (asks_ends moment end p.rounds p.rest p.last p.ends))

-- ---- a turn

pub turn_stewards : (t : StewardTurn) → AreStewards t.entries
turn_stewards t =
    let p = t.turn in
    subst AreStewards (sym p.all)
    (stewards_append p.first p.rest (clearing_stewards p.cleared t.moment p.first p.clearing)
    (asks_saving t.moment p.saved p.rest t.carried p.saving).0)

-- a turn that was done is one whose clearing was done
pub cleared_whole : (end : StewardEnd) (cleared : ClearingEnd) (saved : StewardEnd) → end ≡ end_of_turn cleared saved
    → IsDone end → cleared ≡ clearing.Done
cleared_whole end clearing.Done saved is done = refl
cleared_whole end clearing.Memory (Done count) is done = absurd (subst IsDone is done)
cleared_whole end clearing.Memory KeeperFault is done = absurd (subst IsDone is done)
cleared_whole end clearing.Memory Memory is done = absurd (subst IsDone is done)

pub turn_asks : (t : StewardTurn) → IsDone t.end → times_asked t.entries ≡ 1
turn_asks t done =
    let p = t.turn in
    let whole = cleared_whole t.end p.cleared p.saved p.ends done in
    let first =
    asks_once_and_clears clearing.Done t.moment p.first
    (subst (λ (c : ClearingEnd). IsClearing c t.moment p.first) whole p.clearing) in
    let rest = asks_saving t.moment p.saved p.rest t.carried p.saving in
    ap times_asked p.all ∙ (asks_append 1 0 p.first p.rest first rest).1

-- ---- how turns may have ended

pub may_end : (lack lack' : Type 0) → (lack → lack') → (before now : Store) (turn : StewardTurn)
    → MayEnd lack before now turn → MayEnd lack' before now turn
may_end lack lack' f before now turn p =
    record {
      called = p.called;
      fault = p.fault;
      memory = λ e. f (p.memory e);
      clearing = λ e. f (p.clearing e);
      kept = p.kept;
    }

is_done : (end : StewardEnd) → (end ≡ KeeperFault → ⊥) → (end ≡ Memory → ⊥) → IsDone end
is_done (Done count) f g = tt
is_done KeeperFault f g = f refl
is_done Memory f g = g refl

-- nothing ran short and no count rose
all_done : (lack : Type 0) → (lack → ⊥) → (before now : Store) (first last : ℕ) → first ≤ before.faults
    → now.faults ≤ last → (Rose first last → ⊥) → (turn : StewardTurn) → MayEnd lack before now turn → IsDone turn.end
all_done lack f before now first last low high calm turn p =
    is_done turn.end (λ e. let rose = p.fault e in calm (omega (arith, low, high, rose))) (λ e. f (p.memory e))

module _ (Ends : Store → Store → StewardTurn → Type 0) where
  pub turns_counted : (n : ℕ) (before now : Store) (made : Log) → AreTurns Ends n before now made
      → before.faults ≤ now.faults
  turns_counted zero before now made p = subst (λ (s : Store). before.faults ≤ s.faults) (sym p.0) (omega arith)
  turns_counted (suc n) before now made (first, mid, last, turns, more, ends, is) =
      le_trans (turns_counted n before mid first turns) more

  pub turns_stewards : (n : ℕ) (before now : Store) (made : Log) → AreTurns Ends n before now made → AreStewards made
  turns_stewards zero before now made p = subst AreStewards (sym p.1) tt
  turns_stewards (suc n) before now made (first, mid, last, turns, more, ends, is) =
      subst AreStewards (sym is)
      (stewards_append first last.entries (turns_stewards n before mid first turns) (turn_stewards last))

  pub turns_asked : ((before now : Store) (turn : StewardTurn) → Ends before now turn → IsDone turn.end)
      → (n : ℕ) (before now : Store) (made : Log) → AreTurns Ends n before now made → times_asked made ≡ n
  turns_asked done zero before now made p = ap times_asked p.1
  turns_asked done (suc n) before now made (first, mid, last, turns, more, ends, is) =
      let so_far = turns_asked done n before mid first turns in
      let one = turn_asks last (done mid now last ends) in
      omega (arith, ap times_asked is, asked_append first last.entries, so_far, one)

pub turns_as : (Ends Ends' : Store → Store → StewardTurn → Type 0)
    → ((before now : Store) (turn : StewardTurn) → Ends before now turn → Ends' before now turn)
    → (n : ℕ) (before now : Store) (made : Log)
    → AreTurns Ends n before now made → AreTurns Ends' n before now made
turns_as Ends Ends' h zero before now made p = p
turns_as Ends Ends' h (suc n) before now made (first, mid, last, turns, more, ends, is) =
    (first, mid, last, turns_as Ends Ends' h n before mid first turns, more, h mid now last ends, is)

module _ (lack : Type 0) where
  pub turns_append : (n m : ℕ) (before mid now : Store) (one two : Log) → AreTurns (MayEnd lack) n before mid one
      → AreTurns (MayEnd lack) m mid now two → AreTurns (MayEnd lack) (n + m) before now (one ++ two)
  turns_append n zero before mid now one two p q =
      let none : one ≡ one ++ two = sym (append-nil one) ∙ ap (λ (l : Log). one ++ l) (sym q.1) in
      let count : n ≡ n + 0 = omega arith in
      subst (λ (l : Log). AreTurns (MayEnd lack) (n + 0) before now l) none
      (subst (λ k. AreTurns (MayEnd lack) k before now one) count
      (subst (λ (s : Store). AreTurns (MayEnd lack) n before s one) (sym q.0) p))
  turns_append n (suc m) before mid now one two p (first, there, last, turns, more, ends, is) =
      let count : suc (n + m) ≡ n + suc m = omega arith in
      subst (λ k. AreTurns (MayEnd lack) k before now (one ++ two)) count (
        one ++ first,
        there,
        last,
        turns_append n m before mid there one first p turns,
        more,
        ends,
        ap (λ (l : Log). one ++ l) is ∙ sym (append_assoc one first last.entries),
      )

  -- where memory was enough and the keeper counted no fault each turn was done
  pub turns_done : (lack → ⊥) → (n : ℕ) (before now : Store) (after : ℕ) (made : Log) → now.faults ≤ after
      → (Rose before.faults after → ⊥) → AreTurns (MayEnd lack) n before now made
      → AreTurns (λ mid later turn. IsDone turn.end) n before now made
  turns_done ample zero before now after made high calm p = p
  turns_done ample (suc n) before now after made high calm (first, mid, last, turns, more, ends, is) =
      let low = turns_counted (MayEnd lack) n before mid first turns in (
        first,
        mid,
        last,
        turns_done ample n before mid after first (le_trans more high) calm turns,
        more,
        all_done lack ample mid now before.faults after low high calm last ends,
        is,
      )

-- ---- a turn that the first pass made

module _ (end : StewardEnd) (supply : Supply) (before after : Store) (old new : PassState)
    (turn : MadeTurn end supply before after old new) where
  pub turn_home : new.home ≡ old.home
  turn_home = ap (λ (p : Fixed). p.hall) turn.shared

  pub turn_splits : new.splits ≡ old.splits
  turn_splits = ap (λ (p : Fixed). p.splits) turn.shared

  pub turn_number : new.number ≡ old.number
  turn_number = ap (λ (s : RunnerState). s.number) turn.turn.grew.same

  pub turn_opening : new.opening ≡ old.opening
  turn_opening = ap (λ (s : RunnerState). s.opening) turn.turn.grew.same

  pub turn_made : new.made ≡ old.made ++ turn.turn.entries
  turn_made = turn.turn.grew.more

  abbrev pub turn_is : StewardTurn
  turn_is =
      record {
        end = end;
        entries = turn.turn.entries;
        moment = turn.moment;
        carried = turn.turn.carried;
        turn = turn.turn.turn;
      }
