use Rattle.pgn_book.proofs.SoundStates.{last_sound, some_given}
use Rattle.pgn_book.proofs.scan.Scan.end.Goals as goal

pub invariant_of-self-in-Some : goal.invariant_of-self-in-Some
invariant_of-self-in-Some c =
    (last_sound c.self.inside.walk c.finish.new.self c.rest.new.self c.self.inside.goes_on c.in_ok-game.field-0
    c.if-not-self.false c.self.invariant (c.in_ok-game.ensures {u = tt}).ended c.rest.ensures).on

pub returns-in-Some-clause-exportable : goal.returns-in-Some-clause-exportable
returns-in-Some-clause-exportable c =
    some_given c.in_ok-game.field-0.game c.in-Some.game c.in-Some.is
    (last_sound c.self.inside.walk c.finish.new.self c.rest.new.self c.self.inside.goes_on c.in_ok-game.field-0
    c.if-not-self.false c.self.invariant (c.in_ok-game.ensures {u = tt}).ended c.rest.ensures).given

pub invariant_of-self-2 : goal.invariant_of-self-2
invariant_of-self-2 c =
    (last_sound c.self.inside.walk c.finish.new.self c.rest.new.self c.self.inside.goes_on c.in_ok-game.field-0
    c.if-not-self.false c.self.invariant (c.in_ok-game.ensures {u = tt}).ended c.rest.ensures).on

pub invariant_of-self-then-is_at_rest : goal.invariant_of-self-then-is_at_rest
invariant_of-self-then-is_at_rest c =
    (last_sound c.self.inside.walk c.finish.new.self c.rest.new.self c.self.inside.goes_on c.in_ok-game.field-0
    c.if-not-self.false c.self.invariant (c.in_ok-game.ensures {u = tt}).ended c.rest.ensures).on
