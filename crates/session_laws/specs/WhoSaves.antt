-- Who tells save orders as saved: the steward alone, where the other sessions serve links. This server's own.
use Rattle.std.specs.Prelude.{◌≡◌, ℕ, ◌<◌, ◌≤◌, Bool, [], ◌++◌}
use Rattle.std.specs.List.{AllByRecursion}
use Rattle.edge_traits.specs.Link.{Handed}
use Rattle.histories.specs.History.{calls_of}
use Rattle.link_core.specs.ServedInPart.{WasServed}
use Rattle.link_core.specs.declared.link_end.LinkEnd.{LinkEnd}
use Rattle.one_server.specs.Running.{Log}
use Rattle.steward_core.specs.Agreement.{IsNoOthers, SaysSaved}

-- none of the entries tells orders as saved
abbrev pub NoneSaves : Log → Type 0
NoneSaves entries = AllByRecursion (λ e. SaysSaved e.act.act → ⊥) entries

-- these entries of a session served a link, in whatever state it came and was left, and however that ended
pub record ServedALink (session : ℕ) (calls : Log) : Type 0 where
  -- there is
  pub shows : ℕ → Bool
  pub mark : Bool
  pub end : LinkEnd
  pub came : Handed
  pub back : Handed
  -- such that
  pub served : WasServed shows mark session end calls came back

-- who serves a link tells no orders as saved
abbrev pub LinksNeverSave : Type 0
LinksNeverSave = (session : ℕ) (calls : Log) → ServedALink session calls → NoneSaves calls

-- the sessions from 1 up to this number each served a link, and none after them made an act
pub record OthersServe (last : ℕ) (history : Log) : Type 0 where
  pub served : (k : ℕ) → 0 < k → k ≤ last → ServedALink k (calls_of k history)
  pub none_after : (k : ℕ) → last < k → calls_of k history ≡ []

-- then no session but 0 tells orders as saved, in whatever part of the history
abbrev pub OnlyTheStewardSaves : Type 0
OnlyTheStewardSaves =
    (last : ℕ) (front part back : Log) → OthersServe last (front ++ part ++ back) → AllByRecursion (IsNoOthers 0) part
