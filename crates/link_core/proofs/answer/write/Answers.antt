use Rattle.std.proofs.Common.{ap}
use Rattle.edge_traits.specs.Link.{Tale}
use Rattle.link_core.proofs.Tales.{open_then, written_failed, written_memory}
use Rattle.link_core.proofs.answer.write.Goals as goal

pub returns-in-Failed-clause-wrote : goal.returns-in-Failed-clause-wrote
returns-in-Failed-clause-wrote g c =
    written_failed c.args.bytes.now (g.L.Link.tale c.args.link.now) (g.L.Link.tale c.write.new.self)
    c.in-Failed.ensures.wrote

pub returns-in-Memory-clause-wrote : goal.returns-in-Memory-clause-wrote
returns-in-Memory-clause-wrote g c =
    written_memory c.args.bytes.now (g.L.Link.tale c.args.link.now) (g.L.Link.tale c.write.new.self)
    c.in-Memory.ensures.wrote

pub returns-in-All-clause-link : goal.returns-in-All-clause-link
returns-in-All-clause-link g c = record {
  unclosed =
      open_then (g.L.Link.tale c.args.link.now) (g.L.Link.tale c.write.new.self) c.in-All.ensures.wrote
      (λ x y q. ap (λ (t : Tale). t.closed) q.1) c.requires.unclosed;
  cause = tt;
  counted = c.write.ensures.counted;
}
