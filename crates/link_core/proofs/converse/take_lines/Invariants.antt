use Rattle.std.proofs.Common.{◌≡◌, ◌≤◌, ℕ, [], false, length}
use Rattle.edge_traits.specs.Link.{LinkIsOpen}
use Rattle.session_core.specs.Memory.{is_gone}
use Rattle.line_reader.specs.Reader.{lines_to_come}
use Rattle.link_core.specs.Steps.{Progress, Stand, stand_of}
use Rattle.link_core.proofs.converse.take_lines.Given as goal

abbrev pub invariant-loop-line : goal.invariant-loop-line
invariant-loop-line g l = record {
  home : g.R.Runner.home l.r ≡ g.R.Runner.home l.fn.r;
  steps : (start : Stand) (turns : ℕ)
      → Progress (g.C.Clock.shows l.clock) start
      (stand_of (g.R.Runner.state l.fn.r) l.fn.session (g.L.Link.tale l.fn.link)) l.fn.reader turns
      → Progress (g.C.Clock.shows l.clock) start
      (stand_of (g.R.Runner.state l.r) l.session (g.L.Link.tale l.link)) l.reader turns;
  here : is_gone l.session ≡ false;
  unclosed : LinkIsOpen (g.L.Link.tale l.link);
  counted : g.L.Link.faults l.fn.link ≤ g.L.Link.faults l.link;
}

abbrev pub decreases-loop-line : goal.decreases-loop-line
decreases-loop-line g l = length (lines_to_come l.reader [])
