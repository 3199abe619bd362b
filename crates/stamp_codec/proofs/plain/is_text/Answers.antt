use Rattle.std.proofs.Common.{◌≡◌, Bool, true, length, sym, ap, ◌∙◌, arith}
use Rattle.std.specs.Prelude.{nat_le, ◌&&◌}
use Rattle.std.specs.List.{list_all}
use Rattle.std.proofs.lemmas.Bool.Decides.{nat_tests}
use Rattle.stamp_codec.specs.Message.{is_printable}
use Rattle.stamp_codec.proofs.plain.is_text.Goals as goal

pub returns : goal.returns
returns c =
    let short : nat_le (length c.args.text.now) 1023 ≡ true = grind (arith, nat_tests) in
    c.are_printable.ensures ∙ sym (ap (λ (t : Bool). t && list_all is_printable c.args.text.now) short)
