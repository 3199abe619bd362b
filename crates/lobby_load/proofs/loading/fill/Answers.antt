use Rattle.std.proofs.Common.{◌≡◌, ◌++◌, ◌∷◌, [], List, length, refl, sym, ap, subst, rules, ◌∙◌, append_assoc, append-nil, arith}
use Rattle.std.specs.Vec.Iter.{into_iter_items}
use Rattle.std.specs.Vec.{vec_len}
use Rattle.edge_traits.specs.Pairs.{IsAscending, Pairs}
use Rattle.lobby_load.specs.BadRows.{Row}
use Rattle.lobby_load.specs.Filling.{AddsRow, CannotTake, HasRows, IsLeastBadOf, OnTaken}
use Rattle.lobby_load.specs.declared.rows.Taken.{Taken}
use Rattle.lobby_load.proofs.Answering.{named_no_fault, on_named}
use Rattle.lobby_load.proofs.Filled.{HasRows-more, HasRows-none}
use Rattle.lobby_load.proofs.Least.{refused_least}
use Rattle.lobby_load.proofs.RowsSorted.{find-new}
use Rattle.lobby_load.proofs.loading.fill.Goals as goal

nothing_left : {X : Type 0} (l : List X) → length l ≡ 0 → l ≡ []
nothing_left [] h = refl
nothing_left (x ∷ xs) h = absurd (omega arith)

-- the pair that comes next, among all
next_of : (done items more first all : Pairs) (row : Row) → done ++ items ≡ first → first ≡ all → items ≡ row ∷ more
    → all ≡ done ++ row ∷ more
next_of done items more first all row parts gives steps = sym gives ∙ sym parts ∙ ap (λ (l : Pairs). done ++ l) steps

pub loop-pair-init : goal.loop-pair-init
loop-pair-init c = record {
  parts = refl;
  left =
      let len : length c.args.pairs.items ≡ vec_len c.args.pairs = search rules in
      c.into_iter-pair-iterator.ensures.into_iter_gives.1 ∙ sym len
      ∙ ap length (sym c.into_iter-pair-iterator.ensures.into_iter_gives.0);
  rows = subst (HasRows []) (sym c.requires.empty) HasRows-none;
}

pub add_row-requires : goal.add_row-requires
add_row-requires c =
    let done = c.loop-pair.yielded in
    let row = c.in-Some.pair in
    let more = into_iter_items c.next.new.self in
    c.loop-pair.invariant.rows.wanted row.0
    ∙ find-new done more row
    (subst IsAscending
    (next_of _ _ _ _ _ row c.loop-pair.invariant.parts c.into_iter-pair-iterator.ensures.into_iter_gives.0
    c.in-Some.ensures.steps.0)
    c.requires.ascending)

pub loop-pair-preserved : goal.loop-pair-preserved
loop-pair-preserved c =
    let at = c.loop-pair in
    let row = c.in-Some.pair in
    let old = at.lobby in
    let new = c.add_row.new.lobby in
    let steps = c.in-Some.ensures.steps.0 in
    let adds : AddsRow row old new =
    subst (λ (t : Taken). OnTaken t (AddsRow row old new) (CannotTake old row)) c.in-Added.is c.in_ok-add_row.ensures in
    record {
      parts = append_assoc at.yielded (row ∷ []) _ ∙ rw (← steps) at.invariant.parts;
      left =
          let was = at.invariant.left in
          let gone = c.in-Some.ensures.steps.1 in
          let short = ap length steps in
          omega (arith, was, gone, short);
      rows =
          let unknown =
          find-new at.yielded (into_iter_items c.next.new.self) row
          (subst IsAscending
          (next_of _ _ _ _ _ row c.loop-pair.invariant.parts c.into_iter-pair-iterator.ensures.into_iter_gives.0
          c.in-Some.ensures.steps.0)
          c.requires.ascending) in
          HasRows-more at.yielded row old new at.invariant.rows unknown adds;
    }

pub returns-in-Refused-clause-bad : goal.returns-in-Refused-clause-bad
returns-in-Refused-clause-bad c =
    let at = c.loop-pair in
    let row = c.in-Some.pair in
    let old = at.lobby in
    let new = c.add_row.new.lobby in
    let pairs = c.args.pairs.items in
    let cannot : CannotTake old row =
    subst (λ (t : Taken). OnTaken t (AddsRow row old new) (CannotTake old row)) c.in-Refused.is
    c.in_ok-add_row.ensures in
    on_named (Unit {0}) row.0 c.bad_record.result (IsLeastBadOf pairs) c.bad_record.ensures
    (refused_least at.yielded (into_iter_items c.next.new.self) row old pairs
    (next_of _ _ _ _ _ row c.loop-pair.invariant.parts c.into_iter-pair-iterator.ensures.into_iter_gives.0
    c.in-Some.ensures.steps.0)
    c.requires.ascending at.invariant.rows cannot)

pub returns-in-Refused-clause-no_fault : goal.returns-in-Refused-clause-no_fault
returns-in-Refused-clause-no_fault c =
    named_no_fault (Unit {0}) c.in-Some.pair.0 c.bad_record.result c.bad_record.ensures

pub returns-clause-made : goal.returns-clause-made
returns-clause-made c =
    let at = c.loop-pair in
    let none = c.in-None.ensures.steps in
    let empty : into_iter_items at.pair-iterator ≡ [] = nothing_left _ (sym at.invariant.left ∙ none.0) in
    let all =
    sym (append-nil at.yielded) ∙ rw empty at at.invariant.parts
    ∙ c.into_iter-pair-iterator.ensures.into_iter_gives.0 in
    subst (λ (rows : Pairs). HasRows rows c.loop-pair.lobby) all at.invariant.rows
