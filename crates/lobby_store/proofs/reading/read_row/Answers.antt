use Rattle.std.proofs.Common.{List, ℕ, Option, ap, subst, ◌∙◌}
use Rattle.std.specs.Prelude.{IfNone}
use Rattle.game_records.specs.Spelling.{IsSpelled}
use Rattle.game_records.specs.declared.records.Record.{Record}
use Rattle.lobby_store.proofs.RowsRead.{no_record}
use Rattle.lobby_store.proofs.reading.read_row.Goals as goal

pub returns-in-None-clause-none : goal.returns-in-None-clause-none
returns-in-None-clause-none c =
    no_record c.args.pair.now
    (subst (λ (bytes : List ℕ). (r : Record) → IsSpelled r bytes → ⊥)
    (c.as_slice.ensures.value ∙ ap (λ (p : List ℕ × List ℕ). p.1) c.pair.view_is)
    (subst (λ (read : Option Record). IfNone read ((r : Record) → IsSpelled r c.as_slice.result.now → ⊥)) c.in-None.is
    c.in_ok-read_record.ensures.none))
