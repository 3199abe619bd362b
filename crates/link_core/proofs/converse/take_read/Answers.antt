use Rattle.std.proofs.Common.{[], ◌+◌, ◌++◌, ◌<◌, take, length, arith, length-take}
use Rattle.edge_traits.specs.declared.link.Heard.TheVariants as heard
use Rattle.link_core.specs.Steps.{stand_of}
use Rattle.link_core.proofs.Tales.{leaves_behind, open_read}
use Rattle.link_core.proofs.Stepping.{end_due, progress_bytes, quiet_step, stops_failed}
use Rattle.link_core.proofs.converse.take_read.Goals as goal

pub returns-in-Bytes-clause-steps : goal.returns-in-Bytes-clause-steps
returns-in-Bytes-clause-steps g c = λ start turns p.
    let some : 0 < length (take c.in-Bytes.n c.read.new.buf) =
    omega (arith, c.in-Bytes.ensures.count.0, c.in-Bytes.ensures.count.1, length-take c.in-Bytes.n c.read.new.buf) in
    c.take_piece.ensures.steps start (turns + 1)
    (progress_bytes p c.requires.drained c.in-Bytes.n c.read.new.buf (g.L.Link.tale c.read.new.self)
    c.in-Bytes.ensures.read some)

pub returns-in-Quiet-clause-steps : goal.returns-in-Quiet-clause-steps
returns-in-Quiet-clause-steps g c = λ start turns p.
    quiet_step p c.requires.drained c.read.new.buf (g.L.Link.tale c.read.new.self) c.in-Quiet.ensures.read
    c.answer.result
    (stand_of (g.R.Runner.state c.answer.new.r) c.answer.new.session (g.L.Link.tale c.answer.new.link))
    c.answer.ensures.answered

pub returns-in-End-clause-steps : goal.returns-in-End-clause-steps
returns-in-End-clause-steps g c = λ start turns p.
    c.take_rest.ensures.stops start (p.taken ++ [])
    (end_due p c.requires.drained c.read.new.buf (g.L.Link.tale c.read.new.self) c.in-End.ensures.read)

pub returns-in-Failed-clause-steps : goal.returns-in-Failed-clause-steps
returns-in-Failed-clause-steps g c = λ start turns p.
    stops_failed p c.requires.drained c.read.new.buf (g.L.Link.tale c.read.new.self) c.in-Failed.ensures.read

pub returns-in-Bytes-clause-link : goal.returns-in-Bytes-clause-link
returns-in-Bytes-clause-link g c = leaves_behind c.read.ensures.counted c.take_piece.ensures.link

pub returns-in-Quiet-clause-link : goal.returns-in-Quiet-clause-link
returns-in-Quiet-clause-link g c = leaves_behind c.read.ensures.counted c.answer.ensures.link

pub returns-in-End-clause-link : goal.returns-in-End-clause-link
returns-in-End-clause-link g c = leaves_behind c.read.ensures.counted c.take_rest.ensures.link

pub take_piece-requires-clause-unclosed : goal.take_piece-requires-clause-unclosed
take_piece-requires-clause-unclosed g c =
    open_read (heard.Bytes c.in-Bytes.n) c.read.new.buf (g.L.Link.tale c.args.link.now) (g.L.Link.tale c.read.new.self)
    c.in-Bytes.ensures.read c.requires.unclosed

pub answer-requires-clause-unclosed : goal.answer-requires-clause-unclosed
answer-requires-clause-unclosed g c =
    open_read heard.Quiet c.read.new.buf (g.L.Link.tale c.args.link.now) (g.L.Link.tale c.read.new.self)
    c.in-Quiet.ensures.read c.requires.unclosed

pub take_rest-requires-clause-unclosed : goal.take_rest-requires-clause-unclosed
take_rest-requires-clause-unclosed g c =
    open_read heard.End c.read.new.buf (g.L.Link.tale c.args.link.now) (g.L.Link.tale c.read.new.self)
    c.in-End.ensures.read c.requires.unclosed
