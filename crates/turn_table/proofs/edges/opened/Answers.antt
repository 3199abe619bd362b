use Rattle.turn_table.proofs.Passing.{opens}
use Rattle.turn_table.proofs.edges.opened.Goals as goal

pub new-made-requires : goal.new-made-requires
new-made-requires g c =
    opens g.S.Served.core g.S.Served.lawful c.args.told.now.value.items c.args.words.now c.args.slots.items
    c.requires.whole c.requires.long c.requires.zeros c.requires.parts
