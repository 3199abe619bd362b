use Rattle.std.proofs.Common.{rules, ℕ, List, length, sym, subst, arith}
use Rattle.fics_words.specs.Handle.{IsHandle, HoldsHandle}
use Rattle.fics_words.proofs.Padding.{HoldsHandle-padded}
use Rattle.fics_words.proofs.handle.Handle.read.Goals as goal

pub invariant_of-result : goal.invariant_of-result
invariant_of-result c =
    let handle : IsHandle c.args.bytes.now = (omega arith, omega arith, search rules) in
    subst (λ (field : List ℕ). HoldsHandle field (length c.args.bytes.now)) (sym c.field_of.ensures)
    (HoldsHandle-padded _ handle)
