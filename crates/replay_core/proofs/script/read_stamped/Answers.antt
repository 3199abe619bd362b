use Rattle.std.proofs.Common.{◌^◌, ◌<◌, ◌≡◌, ◌∷◌, ◌++◌, arith, sym, ◌∙◌, subst}
use Rattle.std.specs.Prelude.{decimal}
use Rattle.fics_words.specs.Line.{IsLine}
use Rattle.fics_words.specs.Blank.{blank}
use Rattle.replay_core.proofs.Cuts.{one_number}
use Rattle.replay_core.proofs.script.read_stamped.Goals as goal

-- the text behind the stamp would be the one that was read
pub returns-in_default-2-clause-none : goal.returns-in_default-2-clause-none
returns-in_default-2-clause-none c stamp text h e =
    let small : stamp < 2 ^ 64 = omega arith in
    let same : c.args.bytes.now ≡ decimal stamp ++ blank ∷ text = cc in
    let read : c.in-Some.stamp < 2 ^ 64 = omega (arith, c.in-Some.ensures.bound) in
    let one =
    one_number c.in-Some.stamp stamp c.in-Some.text.now text read small (sym c.in-Some.ensures.parts ∙ same) in
    let refused = rw c.in_default-2.is at c.in_ok-text.ensures in
    refused (subst IsLine (sym one.1) h.1)
