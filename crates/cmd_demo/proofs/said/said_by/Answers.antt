use Rattle.std.proofs.Common.{refl}
use Rattle.cmd_demo.specs.declared.wish.Wish.TheVariants as wish
use Rattle.cmd_demo.proofs.Saying.{fixed}
use Rattle.cmd_demo.proofs.said.said_by.Goals as goal

pub returns-in-SeekChess : goal.returns-in-SeekChess
returns-in-SeekChess c =
    fixed c.plain.result c.args.wish wish.SeekChess c.args.session c.args.draws.now c.args.server.now _
    c.in-SeekChess.is refl c.plain.ensures

pub returns-in-SeekCrazyhouse : goal.returns-in-SeekCrazyhouse
returns-in-SeekCrazyhouse c =
    fixed c.plain-in-SeekCrazyhouse.result c.args.wish wish.SeekCrazyhouse c.args.session c.args.draws.now
    c.args.server.now _ c.in-SeekCrazyhouse.is refl c.plain-in-SeekCrazyhouse.ensures

pub returns-in-Tell : goal.returns-in-Tell
returns-in-Tell c =
    fixed c.plain-in-Tell.result c.args.wish wish.Tell c.args.session c.args.draws.now c.args.server.now _ c.in-Tell.is
    refl c.plain-in-Tell.ensures

pub returns-in-Join : goal.returns-in-Join
returns-in-Join c =
    fixed c.plain-in-Join.result c.args.wish wish.Join c.args.session c.args.draws.now c.args.server.now _ c.in-Join.is
    refl c.plain-in-Join.ensures

pub returns-in-Accept : goal.returns-in-Accept
returns-in-Accept c =
    fixed c.plain-in-Accept.result c.args.wish wish.Accept c.args.session c.args.draws.now c.args.server.now _
    c.in-Accept.is refl c.plain-in-Accept.ensures

pub returns-in-Draw : goal.returns-in-Draw
returns-in-Draw c =
    fixed c.plain-in-Draw.result c.args.wish wish.Draw c.args.session c.args.draws.now c.args.server.now _ c.in-Draw.is
    refl c.plain-in-Draw.ensures

pub returns-in-TakeBack : goal.returns-in-TakeBack
returns-in-TakeBack c =
    fixed c.plain-in-TakeBack.result c.args.wish wish.TakeBack c.args.session c.args.draws.now c.args.server.now _
    c.in-TakeBack.is refl c.plain-in-TakeBack.ensures

pub returns-in-Flag : goal.returns-in-Flag
returns-in-Flag c =
    fixed c.plain-in-Flag.result c.args.wish wish.Flag c.args.session c.args.draws.now c.args.server.now _ c.in-Flag.is
    refl c.plain-in-Flag.ensures

pub returns-in-Kibitz : goal.returns-in-Kibitz
returns-in-Kibitz c =
    fixed c.plain-in-Kibitz.result c.args.wish wish.Kibitz c.args.session c.args.draws.now c.args.server.now _
    c.in-Kibitz.is refl c.plain-in-Kibitz.ensures
