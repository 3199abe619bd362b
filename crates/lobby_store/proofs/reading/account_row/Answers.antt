use Rattle.std.proofs.Common.{List, ℕ, sym, ap, ◌∙◌, ◌≡◌}
use Rattle.std.specs.Prelude.{bytes_eq}
use Rattle.game_records.specs.Keys.{account_key}
use Rattle.std.proofs.lemmas.Slice.Eq.{bytes_eq-Decides}
use Rattle.lobby_store.proofs.RowsRead.{account_elsewhere, not_both}
use Rattle.lobby_store.proofs.reading.account_row.Goals as goal

pub returns-then-ne-clause-none : goal.returns-then-ne-clause-none
returns-then-ne-clause-none c =
    account_elsewhere c.args.account c.args.pair.now c.requires (λ own.
    let key = c.as_slice.result.now in
    let other = c.as_slice-2.result.now in
    let same : key ≡ other =
    c.as_slice.ensures.value ∙ ap (λ (p : List ℕ × List ℕ). p.0) c.pair.view_is ∙ own
    ∙ ap account_key (sym c.key.ensures) ∙ sym c.in_ok-own.ensures ∙ sym c.as_slice-2.ensures in
    not_both (bytes_eq key other) ((bytes_eq-Decides key other).1 same) (sym c.ne.ensures ∙ c.if-ne.true))
