use Rattle.std.proofs.Common.{sym, ◌∙◌, subst}
use Rattle.fics_words.specs.Handle.{IsHandle}
use Rattle.replay_core.proofs.Cuts.{no_cut, one_cut, handle_is_word}
use Rattle.replay_core.proofs.words.cut_handle.Goals as goal

-- without a blank there is nothing to cut
pub returns-in_default-clause-none : goal.returns-in_default-clause-none
returns-in_default-clause-none c name rest h e = no_cut c.args.bytes.now c.in_default.ensures.none name rest e

-- the handle would be the word before the first blank
pub returns-in_default-read-clause-none : goal.returns-in_default-read-clause-none
returns-in_default-read-clause-none c name rest h e =
    let one =
    one_cut c.in-Some.word.now name c.in-Some.rest.now rest c.in-Some.ensures.word (handle_is_word name h)
    (sym c.in-Some.ensures.parts ∙ e) in
    c.in_default-read.ensures (subst IsHandle (sym one.0) h)
