use Rattle.std.proofs.Common.{◌∙◌, sym, subst}
use Rattle.std.specs.Prelude.{map, string_bytes}
use Rattle.cmd_job.proofs.OptionsRead.{SoFar, no_words, shorter_words, so_far_end, so_far_none, so_far_start, so_far_step, so_far_twice, some_words}
use Rattle.cmd_job.proofs.reading.read_options.Goals as goal

pub loop-rest-init : goal.loop-rest-init
loop-rest-init c =
    subst (SoFar c.args.command (map string_bytes c.args.words.now) (map string_bytes c.args.words.now))
    (sym c.new-values.ensures) (so_far_start c.args.command (map string_bytes c.args.words.now))

pub returns-in_default-clause-none : goal.returns-in_default-clause-none
returns-in_default-clause-none c =
    so_far_none c.args.command (map string_bytes c.args.words.now) (map string_bytes c.loop-rest.rest.now)
    c.loop-rest.values c.loop-rest.invariant
    (some_words c.loop-rest.rest.now (sym c.is_empty.ensures ∙ c.loop-rest-test.true)) c.in_default.ensures.none

pub returns-then-not-add-clause-none : goal.returns-then-not-add-clause-none
returns-then-not-add-clause-none c =
    let had = rw c.if-not-add.true at c.add.ensures in
    so_far_twice c.args.command (map string_bytes c.args.words.now) (map string_bytes c.loop-rest.rest.now)
    c.loop-rest.values c.loop-rest.invariant
    c.in-Some.given.option c.in-Some.given.value.now (map string_bytes c.in-Some.given.rest.now) c.in-Some.ensures.some
    had.0

pub loop-rest-smaller : goal.loop-rest-smaller
loop-rest-smaller c =
    shorter_words c.args.command c.loop-rest.rest.now c.in-Some.given.rest.now c.in-Some.given.option
    c.in-Some.given.value.now c.in-Some.ensures.some

pub loop-rest-preserved : goal.loop-rest-preserved
loop-rest-preserved c =
    let added = rw c.if-not-add.false at c.add.ensures in
    subst (SoFar c.args.command (map string_bytes c.args.words.now) (map string_bytes c.in-Some.given.rest.now))
    (sym added.1)
    (so_far_step c.args.command (map string_bytes c.args.words.now) (map string_bytes c.loop-rest.rest.now)
    c.loop-rest.values c.loop-rest.invariant
    c.in-Some.given.option c.in-Some.given.value.now (map string_bytes c.in-Some.given.rest.now) c.in-Some.ensures.some
    added.0)

pub returns-clause-some : goal.returns-clause-some
returns-clause-some c =
    so_far_end c.args.command (map string_bytes c.args.words.now) (map string_bytes c.loop-rest.rest.now)
    c.loop-rest.values c.loop-rest.invariant
    (no_words c.loop-rest.rest.now (sym c.is_empty.ensures ∙ c.loop-rest-test.false))
