use Rattle.std.proofs.Common.{◌∙◌, ap, arith, le_trans, refl, subst, sym}
use Rattle.line_reader.specs.Reader.{LineReading}
use Rattle.session_core.specs.Memory.{is_gone}
use Rattle.session_core.specs.Texts.{opening_text}
use Rattle.link_core.specs.Steps.{IsDrained, Progress, stand_of}
use Rattle.link_core.proofs.Stepping.{progress_none, stops_opening, stops_opening_memory, stops_spent}
use Rattle.link_core.proofs.Tales.{leaves_behind, part_none}
use Rattle.link_core.proofs.converse.converse.Goals as goal

pub returns-in_default-clause-stops : goal.returns-in_default-clause-stops
returns-in_default-clause-stops g c =
    let link = g.L.Link.tale c.args.link.now in
    stops_opening_memory link c.session-session.ensures.known c.requires.new (part_none opening_text link link refl)

pub returns-in-Err-clause-stops : goal.returns-in-Err-clause-stops
returns-in-Err-clause-stops g c =
    stops_opening (g.L.Link.tale c.greet.new.link) c.session-session.ensures.known c.requires.new c.in-Err.end
    c.in-Err.ensures.wrote

pub loop-read-init : goal.loop-read-init
loop-read-init g c = record {
  home = refl;
  drained = subst (λ (r : LineReading). IsDrained r) (sym c.in-Ok.ensures) (refl, refl);
  progress =
      subst
      (λ (r : LineReading).
      Progress (g.C.Clock.shows c.args.clock.now)
      (stand_of (g.R.Runner.state c.args.r.now) c.args.session.now (g.L.Link.tale c.args.link.now))
      (stand_of (g.R.Runner.state c.args.r.now) c.args.session.now (g.L.Link.tale c.greet.new.link)) r 0)
      (sym c.in-Ok.ensures)
      (progress_none (g.L.Link.tale c.greet.new.link) c.session-session.ensures.known c.requires.new
      c.in-Ok-greet.ensures.wrote);
  here = ap is_gone c.requires.new;
  unclosed = c.in-Ok-greet.ensures.link.unclosed;
  counted = c.greet.ensures.link.counted;
}

pub loop-read-preserved : goal.loop-read-preserved
loop-read-preserved g c = record {
  home = c.take_read.ensures.home ∙ c.loop-read.invariant.home;
  drained = c.in-Ok-take_read.ensures.drained;
  progress = c.in-Ok-take_read.ensures.steps _ c.loop-read._read c.loop-read.invariant.progress;
  here = c.in-Ok-take_read.ensures.here;
  unclosed = c.in-Ok-take_read.ensures.link.unclosed;
  counted = le_trans c.loop-read.invariant.counted c.take_read.ensures.link.counted;
}

pub returns-in-Err-take_read-clause-stops : goal.returns-in-Err-take_read-clause-stops
returns-in-Err-take_read-clause-stops g c =
    c.in-Err-take_read.ensures.steps _ c.loop-read._read c.loop-read.invariant.progress

pub returns-clause-stops : goal.returns-clause-stops
returns-clause-stops g c =
    stops_spent c.loop-read.invariant.progress c.loop-read.invariant.drained (omega (arith, c.loop-read-test.false))

pub returns-in-Err-take_read-clause-link : goal.returns-in-Err-take_read-clause-link
returns-in-Err-take_read-clause-link g c = leaves_behind c.loop-read.invariant.counted c.in-Err-take_read.ensures.link
