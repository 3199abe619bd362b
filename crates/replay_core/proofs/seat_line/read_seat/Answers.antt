use Rattle.std.proofs.Common.{ℕ, List, ◌∷◌, ◌++◌, length, sym, ◌∙◌, ap, subst}
use Rattle.std.specs.Prelude.{codes, decimal}
use Rattle.std.proofs.lemmas.List.Elements.{recursion_from_All}
use Rattle.chess_model.specs.VariantWord.{word_of}
use Rattle.fics_words.specs.Handle.{IsHandle}
use Rattle.fics_words.specs.Blank.{blank}
use Rattle.replay_core.specs.Words.{words_before}
use Rattle.replay_core.specs.SeatLine.{AreDifferent, NamesMayPlay}
use Rattle.replay_core.proofs.Seats.{seat_split, one_seat}
use Rattle.replay_core.proofs.seat_line.read_seat.Goals as goal

-- what stands behind the handles would be the terms
pub returns-in_default-seat_terms-clause-none : goal.returns-in_default-seat_terms-clause-none
returns-in_default-seat_terms-clause-none c seat h e =
    let one =
    one_seat seat h c.in-Some.rest.now c.in_ok-names.names c.in_ok-names.rest.now
    (sym c.in-Some.ensures.rest ∙ (c.bytes.ensures.bytes ∙ e)) c.in_ok-names.ensures.parts
    (recursion_from_All IsHandle _ c.in_ok-names.ensures.handles) c.in_ok-names.ensures.end in
    let names = c.as_slice.ensures ∙ one.0 in
    let may : NamesMayPlay c.as_slice.result.now seat.terms = record {
      count = ap length names ∙ h.count;
      different = subst AreDifferent (sym names) h.different;
      in_range = h.terms;
    } in
    c.in_default-seat_terms.ensures.none seat.terms may one.1

-- the first word, the names and the terms are the words of the line
pub returns-clause-spelled : goal.returns-clause-spelled
returns-clause-spelled c =
    let terms = c.in-Some-seat_terms.terms in
    let split =
    seat_split
    (codes "seat") c.in_ok-names.names (decimal terms.minutes) (decimal terms.increment) (word_of terms.variant) in
    sym c.bytes.ensures.bytes ∙ c.in-Some.ensures.rest
    ∙ ap (λ (t : List ℕ). codes "seat" ++ blank ∷ t) c.in_ok-names.ensures.parts
    ∙ ap (λ (t : List ℕ). codes "seat" ++ blank ∷ words_before c.in_ok-names.names t)
    c.in-Some-seat_terms.ensures.spelled
    ∙ sym split
