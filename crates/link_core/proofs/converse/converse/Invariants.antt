use Rattle.std.proofs.Common.{◌≡◌, ◌≤◌, false}
use Rattle.edge_traits.specs.Link.{LinkIsOpen}
use Rattle.session_core.specs.Memory.{is_gone}
use Rattle.link_core.specs.Steps.{IsDrained, Progress, stand_of}
use Rattle.link_core.proofs.converse.converse.Given as goal

abbrev pub invariant-loop-read : goal.invariant-loop-read
invariant-loop-read g l = record {
  home : g.R.Runner.home l.r ≡ g.R.Runner.home l.fn.r;
  drained : IsDrained l.reader;
  progress : Progress (g.C.Clock.shows l.clock)
      (stand_of (g.R.Runner.state l.fn.r) l.fn.session (g.L.Link.tale l.fn.link))
      (stand_of (g.R.Runner.state l.r) l.session (g.L.Link.tale l.link)) l.reader l._read;
  here : is_gone l.session ≡ false;
  unclosed : LinkIsOpen (g.L.Link.tale l.link);
  counted : g.L.Link.faults l.fn.link ≤ g.L.Link.faults l.link;
}
