-- What following a course says of its acts and its text.
use Rattle.std.proofs.Common.{◌≡◌, ℕ, List, [], ◌∷◌, ◌++◌, refl, sym, ap, ◌∙◌}
use Rattle.std.specs.declared.option.Option.TheVariants.{None, Some}
use Rattle.histories.specs.declared.entry.Entry.{Entry}
use Rattle.one_server.specs.declared.act.Timed.{Timed}
use Rattle.one_server.specs.declared.reply.Reply.{Reply}
use Rattle.one_server.specs.Running.{Log}
use Rattle.session_core.specs.Course.{Course, Done, Asks, Writes, Follows, memory_by, next_act, replies_of, text_by}
use Rattle.session_core.specs.Memory.{MemoryState}

-- each entry is the act that the replies before it name
pub follows_act : (course : Course) (session moment : ℕ) (before : Log) (e : Entry Timed Reply) (later : Log)
    (text : List ℕ) (memory : MemoryState)
    → Follows course session moment (before ++ e ∷ later) text memory
    → (e.session ≡ session) × (e.act.moment ≡ moment) × (next_act course (replies_of before) ≡ Some e.act.act)
follows_act (Done kept) session moment [] e later text memory f = let bad = f.0 in absurd cc
follows_act (Done kept) session moment (b ∷ before) e later text memory f = let bad = f.0 in absurd cc
follows_act (Writes put rest) session moment before e later text memory f =
    follows_act rest session moment before e later f.0 memory f.2
follows_act (Asks act rest) session moment [] e later text memory f = (
  ap (λ (x : Entry Timed Reply). x.session) f.0,
  ap (λ (x : Entry Timed Reply). x.act.moment) f.0,
  ap (λ (x : Entry Timed Reply). Some x.act.act) (sym f.0),
)
follows_act (Asks act rest) session moment (b ∷ before) e later text memory f =
    follows_act (rest b.reply) session moment before e later text memory f.1

-- behind the last entry the replies name none
pub follows_end : (course : Course) (session moment : ℕ) (made : Log) (text : List ℕ) (memory : MemoryState)
    → Follows course session moment made text memory → next_act course (replies_of made) ≡ None
follows_end (Done kept) session moment made text memory f = refl
follows_end (Writes put rest) session moment made text memory f = follows_end rest session moment made f.0 memory f.2
follows_end (Asks act rest) session moment [] text memory f = absurd f
follows_end (Asks act rest) session moment (e ∷ made) text memory f =
    follows_end (rest e.reply) session moment made text memory f.1

-- the text is the one that the replies say
pub follows_text : (course : Course) (session moment : ℕ) (made : Log) (text : List ℕ) (memory : MemoryState)
    → Follows course session moment made text memory → text ≡ text_by course (replies_of made)
follows_text (Done kept) session moment made text memory f = f.1
follows_text (Writes put rest) session moment made text memory f =
    f.1 ∙ ap (λ l. put ++ l) (follows_text rest session moment made f.0 memory f.2)
follows_text (Asks act rest) session moment [] text memory f = absurd f
follows_text (Asks act rest) session moment (e ∷ made) text memory f =
    follows_text (rest e.reply) session moment made text memory f.1

-- what is remembered is what the replies say
pub follows_memory : (course : Course) (session moment : ℕ) (made : Log) (text : List ℕ) (memory : MemoryState)
    → Follows course session moment made text memory → memory_by course (replies_of made) ≡ Some memory
follows_memory (Done kept) session moment made text memory f = ap Some (sym f.2)
follows_memory (Writes put rest) session moment made text memory f =
    follows_memory rest session moment made f.0 memory f.2
follows_memory (Asks act rest) session moment [] text memory f = absurd f
follows_memory (Asks act rest) session moment (e ∷ made) text memory f =
    follows_memory (rest e.reply) session moment made text memory f.1
