use Rattle.style12_writer.proofs.Fields.{HasUnbrokenParts, cut-line12_text, All-fields_of, length-fields_of}
use Rattle.style12_writer.proofs.line.line12_fields.Goals as goal

pub returns-clause-fields : goal.returns-clause-fields
returns-clause-fields c =
    cut-line12_text c.args.v.now c.args.who (record {
      white = c.letters-white.ensures.handle;
      black = c.letters-black.ensures.handle;
      verbose = record { some = c.bytes-verbose.ensures.readable.some; unbroken = c.requires.verbose };
      pretty = record { some = c.bytes-pretty.ensures.readable.some; unbroken = c.requires.pretty };
    })

pub returns-clause-count : goal.returns-clause-count
returns-clause-count c = length-fields_of c.args.v.now c.args.who

pub returns-clause-filled : goal.returns-clause-filled
returns-clause-filled c =
    let parts : HasUnbrokenParts c.args.v.now = record {
      white = c.letters-white.ensures.handle;
      black = c.letters-black.ensures.handle;
      verbose = record { some = c.bytes-verbose.ensures.readable.some; unbroken = c.requires.verbose };
      pretty = record { some = c.bytes-pretty.ensures.readable.some; unbroken = c.requires.pretty };
    } in
    λ k d within. (All-fields_of c.args.v.now c.args.who parts k d within).some
