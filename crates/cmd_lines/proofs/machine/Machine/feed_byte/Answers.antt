use Rattle.std.proofs.Common.{◌≡◌, ◌++◌, ℕ, true, false, inl, inr, arith}
use Rattle.std.specs.Prelude.{◌==◌, ◌⊎◌}
use Rattle.std.proofs.lemmas.Bool.Decides.{nat_tests}
use Rattle.fics_words.specs.Pieces.{is_kept}
use Rattle.cmd_lines.proofs.Feeding.{AfterFeed-line, Progress-dropped, Progress-pushed}
use Rattle.cmd_lines.proofs.machine.Machine.feed_byte.Goals as goal

feed_kept : (b : ℕ) → b ≡ 10 → is_kept b ≡ true
feed_kept b e = grind (arith, nat_tests)

feed_is : (b : ℕ) → b ≡ 10 → (b == 10) ≡ true
feed_is b e = grind (arith, nat_tests)

dropped : (b : ℕ) → (b ≡ 13) ⊎ (¬ (b ≡ 13) × (b ≡ 0)) → is_kept b ≡ false
dropped b (inl e) = grind (arith, nat_tests)
dropped b (inr e) = grind (arith, nat_tests)

pub returns-then-byte-eq10-clause-fed : goal.returns-then-byte-eq10-clause-fed
returns-then-byte-eq10-clause-fed g c = λ start taken base p.
    AfterFeed-line (g.T.LineHandler.reached start) g.T.LineHandler.ending taken c.args.byte c.args.self.now
    c.end_line.new.self base c.args.out.now.items c.end_line.new.out.items c.end_line.result
    (feed_kept c.args.byte c.if-byte-eq10.true) (feed_is c.args.byte c.if-byte-eq10.true) p
    (c.end_line.ensures.line start)

pub returns-then-byte-eq13-clause-fed : goal.returns-then-byte-eq13-clause-fed
returns-then-byte-eq13-clause-fed g c = λ start taken base p.
    Progress-dropped (g.T.LineHandler.reached start) taken c.args.byte c.args.self.now (base ++ c.args.out.now.items)
    (dropped c.args.byte c.then-byte-eq13.either) p

pub returns-clause-fed : goal.returns-clause-fed
returns-clause-fed g c = λ start taken base p.
    let inside = c.self.inside in
    let kept : is_kept c.args.byte ≡ true = grind (arith, nat_tests) in
    let other : (c.args.byte == 10) ≡ false = grind (arith, nat_tests) in
    Progress-pushed (g.T.LineHandler.reached start) taken c.args.byte c.args.self.now inside.handler inside.number
    inside.kept.items _ (base ++ c.args.out.now.items)
    c.self.view_is c.in_ok-keep.ensures.kept kept other p
