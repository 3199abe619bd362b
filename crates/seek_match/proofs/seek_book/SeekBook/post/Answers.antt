use Rattle.std.proofs.Common.{◌≡◌, ◌+◌, ◌-◌, ◌<◌, List, length, sym, ap, subst, ◌∙◌, arith}
use Rattle.std.specs.Prelude.{◌==◌}
use Rattle.std.specs.List.{find}
use Rattle.seek_match.specs.declared.seek.Seek.{Seek}
use Rattle.seek_match.specs.Seeks.{AreSeeks, first_gap, next_number}
use Rattle.seek_match.proofs.Rising.{RiseAbove-insert, next_number-new}
use Rattle.seek_match.proofs.seek_book.SeekBook.post.Goals as goal

pub insert-requires-clause-new : goal.insert-requires-clause-new
insert-requires-clause-new c =
    let rows = c.self.inside.rows in
    let is = c.next_number-number.ensures.number ∙ ap next_number c.as_slice-2.ensures.rows in
    ap (λ number. find (λ seek. number == seek.number) rows) is ∙ next_number-new rows c.self.invariant

pub invariant_of-self-2 : goal.invariant_of-self-2
invariant_of-self-2 c =
    let rows = c.self.inside.rows in
    let number = c.next_number-number.result in
    let new : Seek = record { number = number; by = c.args.by; terms = c.args.terms } in
    let same = c.as_slice-2.ensures.rows in
    let short : length rows < 65535 = subst (λ (l : List Seek). length l < 65535) (sym c.self.view_is) c.requires in
    let within : number < 65536 =
    let long : length c.as_slice-2.result.now ≡ length rows = ap length same in
    omega (arith, c.next_number-number.ensures.within, short, long)
    in
    let place : number ≡ 0 + 1 + (number - 1) = omega (arith, c.next_number-number.ensures.positive) in
    let gap : first_gap (0 + 1) rows ≡ number = sym (c.next_number-number.ensures.number ∙ ap next_number same) in
    subst AreSeeks (sym c.in_ok-insert.ensures.ok)
    (RiseAbove-insert rows 0 (number - 1) new c.self.invariant place within gap)
