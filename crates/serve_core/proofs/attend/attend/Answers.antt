use Rattle.std.proofs.Common.{◌++◌, ◌∷◌, [], refl, sym, ap, ◌∙◌, append-nil}
use Rattle.serve_core.specs.Working.{Due}
use Rattle.serve_core.proofs.Settling.{attends, pays, pays_out}
use Rattle.serve_core.proofs.Tending.{tended_served, tended_split}
use Rattle.serve_core.proofs.attend.attend.Goals as goal

pub returns-in_default-clause-kept : goal.returns-in_default-clause-kept
returns-in_default-clause-kept g c =
    let host = c.args.host.now in
    let r = c.work-returned.result in
    let link = g.D.Link.Link.tale c.args.link in
    let d : Due g.row.C.Denot =
    record { pass = c.split-pass.result; link = link; clock = c.args.shared.now.clock.now } in
    let k =
    attends g.C.Clock.shows c.args.shared.now.hall.now c.args.shared.now.clock.now host.supply c.requires.kept.0
    (g.D.Doorway.tale c.args.door.now) host.pass c.split-pass.new.pass c.split-pass.result host.waiting.items link
    c.requires.kept.1 c.requires.kept.2 c.split-pass.ensures.counted c.split-pass.ensures.new c.requires.fresh.1
    (host.waiting.items ++ d ∷ []) refl in
    pays g.C.Clock.shows c.args.shared.now.hall.now c.args.shared.now.clock.now host.supply r.end
    (g.D.Doorway.tale c.args.door.now) c.split-pass.new.pass r.pass (host.waiting.items ++ d ∷ []) host.waiting.items []
    d (record {
      tale = g.D.Link.Link.tale r.link;
      faults = g.D.Link.Link.faults r.link;
    }) k refl c.work-returned.ensures
    c.settle.new.self.supply (g.D.Doorway.tale c.settle.new.door) c.settle.new.self.pass c.settle.new.self.waiting.items
    c.settle.ensures.joined c.settle.ensures.back
    (ap (λ w. w.items) c.settle.ensures.waiting ∙ sym (append-nil host.waiting.items)) c.settle.ensures.supply

pub settle-requires-in-Err-clause-out : goal.settle-requires-in-Err-clause-out
settle-requires-in-Err-clause-out g c κs within =
    let host = c.args.host.now in
    let r = c.in-Err.returned in
    let link = g.D.Link.Link.tale c.args.link in
    let d : Due g.row.C.Denot =
    record { pass = c.split-pass.result; link = link; clock = c.args.shared.now.clock.now } in
    let k =
    attends g.C.Clock.shows c.args.shared.now.hall.now c.args.shared.now.clock.now host.supply c.requires.kept.0
    (g.D.Doorway.tale c.args.door.now) host.pass c.split-pass.new.pass c.split-pass.result host.waiting.items link
    c.requires.kept.1 c.requires.kept.2 c.split-pass.ensures.counted c.split-pass.ensures.new c.requires.fresh.1
    (host.waiting.items ++ d ∷ []) refl in
    pays_out g.C.Clock.shows c.args.shared.now.hall.now c.args.shared.now.clock.now host.supply r.end
    (g.D.Doorway.tale c.args.door.now) c.split-pass.new.pass r.pass (host.waiting.items ++ d ∷ []) host.waiting.items []
    d (record {
      tale = g.D.Link.Link.tale r.link;
      faults = g.D.Link.Link.faults r.link;
    }) k refl c.in-Err.ensures.served

pub returns-in-Ok-clause-kept : goal.returns-in-Ok-clause-kept
returns-in-Ok-clause-kept g c =
    let host = c.args.host.now in
    let link = g.D.Link.Link.tale c.args.link in
    attends g.C.Clock.shows c.args.shared.now.hall.now c.args.shared.now.clock.now host.supply c.requires.kept.0
    (g.D.Doorway.tale c.args.door.now) host.pass c.split-pass.new.pass c.split-pass.result host.waiting.items link
    c.requires.kept.1 c.requires.kept.2 c.split-pass.ensures.counted c.split-pass.ensures.new c.requires.fresh.1
    c.push_reserved.new.self.items (c.push_reserved.ensures.items
    ∙ ap (λ (w : Due g.row.C.Denot). host.waiting.items ++ w ∷ []) c.in-Ok.ensures.started)

pub returns-in-Err-clause-kept : goal.returns-in-Err-clause-kept
returns-in-Err-clause-kept g c =
    let host = c.args.host.now in
    let r = c.in-Err.returned in
    let link = g.D.Link.Link.tale c.args.link in
    let d : Due g.row.C.Denot =
    record { pass = c.split-pass.result; link = link; clock = c.args.shared.now.clock.now } in
    let k =
    attends g.C.Clock.shows c.args.shared.now.hall.now c.args.shared.now.clock.now host.supply c.requires.kept.0
    (g.D.Doorway.tale c.args.door.now) host.pass c.split-pass.new.pass c.split-pass.result host.waiting.items link
    c.requires.kept.1 c.requires.kept.2 c.split-pass.ensures.counted c.split-pass.ensures.new c.requires.fresh.1
    (host.waiting.items ++ d ∷ []) refl in
    pays g.C.Clock.shows c.args.shared.now.hall.now c.args.shared.now.clock.now host.supply r.end
    (g.D.Doorway.tale c.args.door.now) c.split-pass.new.pass r.pass (host.waiting.items ++ d ∷ []) host.waiting.items []
    d (record {
      tale = g.D.Link.Link.tale r.link;
      faults = g.D.Link.Link.faults r.link;
    }) k refl c.in-Err.ensures.served
    c.settle-in-Err.new.self.supply (g.D.Doorway.tale c.settle-in-Err.new.door) c.settle-in-Err.new.self.pass
    c.settle-in-Err.new.self.waiting.items c.settle-in-Err.ensures.joined c.settle-in-Err.ensures.back
    (ap (λ w. w.items) c.settle-in-Err.ensures.waiting ∙ sym (append-nil host.waiting.items))
    c.settle-in-Err.ensures.supply

pub returns-in_default-clause-tended : goal.returns-in_default-clause-tended
returns-in_default-clause-tended g c =
    let r = c.work-returned.result in
    tended_served c.args.host.now.pass c.split-pass.new.pass r.pass c.settle.new.self.pass c.args.host.now.supply
    c.settle.new.self.supply r.end (g.D.Doorway.tale c.args.door.now) (g.D.Doorway.tale c.settle.new.door)
    (record {
      tale = g.D.Link.Link.tale r.link;
      faults = g.D.Link.Link.faults r.link;
    }) c.split-pass.ensures.counted c.settle.ensures.joined c.settle.ensures.back c.settle.ensures.supply

pub returns-in-Ok-clause-tended : goal.returns-in-Ok-clause-tended
returns-in-Ok-clause-tended g c = λ store.
    tended_split c.args.host.now.pass c.split-pass.new.pass c.args.host.now.supply (g.D.Doorway.tale c.args.door.now)
    store c.split-pass.ensures.counted

pub returns-in-Err-clause-tended : goal.returns-in-Err-clause-tended
returns-in-Err-clause-tended g c =
    let r = c.in-Err.returned in
    tended_served c.args.host.now.pass c.split-pass.new.pass r.pass c.settle-in-Err.new.self.pass c.args.host.now.supply
    c.settle-in-Err.new.self.supply r.end (g.D.Doorway.tale c.args.door.now) (g.D.Doorway.tale c.settle-in-Err.new.door)
    (record {
      tale = g.D.Link.Link.tale r.link;
      faults = g.D.Link.Link.faults r.link;
    }) c.split-pass.ensures.counted c.settle-in-Err.ensures.joined c.settle-in-Err.ensures.back
    c.settle-in-Err.ensures.supply
