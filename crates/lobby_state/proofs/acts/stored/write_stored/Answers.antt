use Rattle.std.proofs.Common.{◌≡◌, sym, subst, arith, rules}
use Rattle.fics_words.specs.Line.{IsLine}
use Rattle.lobby_state.specs.Stored.{names_words, stored_words}
use Rattle.lobby_state.proofs.Words.{IsLine-from_printed, IsPrinted, IsPrinted-stored_words}
use Rattle.lobby_state.proofs.acts.stored.write_stored.Goals as goal

pub returns-clause-line : goal.returns-clause-line
returns-clause-line c =
    let text : c.put_terms.new.text.items ≡ stored_words c.args.number c.args.names.now c.args.terms = search rules in
    let few = c.requires.players in
    let short = c.in_ok-put_names.ensures.short in
    let names : IsPrinted 72 (names_words c.args.names.now) =
    record { short = omega (arith, few, short); shows = c.in_ok-put_names.ensures.shows } in
    subst IsLine (sym text)
    (IsLine-from_printed 122 _ (omega arith)
    (IsPrinted-stored_words c.args.number c.args.names.now c.args.terms (omega arith) names (omega arith)
    (omega arith)))
