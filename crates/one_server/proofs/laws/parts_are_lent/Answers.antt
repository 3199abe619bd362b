use Rattle.one_server.proofs.Lending.{lends_first, lends_second}
use Rattle.one_server.proofs.laws.parts_are_lent.Goals as goal

pub returns-clause-first : goal.returns-clause-first
returns-clause-first c = λ parts timed one w f e. lends_first parts timed.act one w f.act e

pub returns-clause-second : goal.returns-clause-second
returns-clause-second c = λ parts session timed one two number w f e s t.
    lends_second parts session timed.act one two number w f.act e s t
