use Rattle.std.proofs.Common.{◌≡◌, true}
use Rattle.game_records.specs.declared.records.Record.{Record}
use Rattle.game_records.specs.Bounds.{IsTyped}
use Rattle.game_records.specs.Reading.{record_in}
use Rattle.game_records.proofs.ReadBack.{none_read, some_read, untyped, unspelled}
use Rattle.game_records.proofs.records.read_record.Goals as goal

pub returns-in_default-clause-none : goal.returns-in_default-clause-none
returns-in_default-clause-none c =
    untyped c.args.bytes.now
    (none_read c.in_ok-candidate.field-0 (IsTyped (record_in c.args.bytes.now) → ⊥) c.in_default.is
    c.in_ok-candidate.ensures.none)

pub returns-then-not-spelled-clause-none : goal.returns-then-not-spelled-clause-none
returns-then-not-spelled-clause-none c =
    let bytes = c.args.bytes.now in
    unspelled bytes c.in-Some.candidate
    (some_read c.in_ok-candidate.field-0 (λ (r : Record). r ≡ record_in bytes) c.in-Some.candidate c.in-Some.is
    c.in_ok-candidate.ensures.value)
    (λ s.
    let yes : c.in_ok-spelled.spelled ≡ true = c.in_ok-spelled.ensures.1 (s.bounds, s.text) in
    let no = c.if-not-spelled.true in
    cc)
