-- The calls of a keeper as its log has them.
use Rattle.std.specs.Prelude.{List, [], ◌∷◌, ◌++◌}
use Rattle.edge_traits.specs.declared.call_log.Note.{Note}
use Rattle.edge_traits.specs.declared.call_log.Past.{Past}
use Rattle.edge_traits.specs.declared.call_log.Past.TheVariants.{None, Then'}

-- the calls, from the first one on
abbrev pub notes_in : Past → List Note
notes_in None = []
notes_in (Then' part before note) = notes_in before ++ note ∷ []
