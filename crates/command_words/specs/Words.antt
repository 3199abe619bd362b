-- The words of the commands: each command's name, its short form where it has one, and what it takes. They stand by
-- their letters, of which signs are none. This server's own.
use Rattle.std.specs.Prelude.{◌≡◌, ℕ, List, [], ◌∷◌, ◌++◌, take, codes}
use Rattle.command_words.specs.declared.rows.CommandRow.{CommandRow}
use Rattle.command_words.specs.declared.rows.Takes.{Takes}
use Rattle.command_words.specs.declared.rows.Takes.TheVariants.{Nothing, Name, MaybeName, Text, Number, Channel, Alias, Challenge, Look, Seek, Setting, Style, Takeback, Telling, Unalias, Unseek}
use Rattle.command_words.specs.declared.rows.Bare.TheVariants.{Abort, Adjourn, Draw, Flag, Games, Pending, Quit, Refresh, Resign, SimNext, SimOpen, SimPrev, Sought, Stored, Who}
use Rattle.command_words.specs.declared.rows.ByName.TheVariants.{AddCensor, AddNoplay, DropCensor, DropNoplay, GoBoard, Resume}
use Rattle.command_words.specs.declared.rows.MaybeByName.TheVariants.{Accept, Decline, Partner, Withdraw}
use Rattle.command_words.specs.declared.rows.WithText.TheVariants.{Kibitz, Ptell, Register, Shout}
use Rattle.command_words.specs.declared.rows.ByNumber.TheVariants.{Play, Unobserve}
use Rattle.command_words.specs.declared.rows.OnChannel.TheVariants.{Ask, Join, Leave}

-- a name as the table has it: with blanks behind it, nine bytes in all
abbrev pub in_nine : List ℕ → List ℕ
in_nine name = take 9 (name ++ codes "         ")

-- a short form as the table has it: its one letter, or a blank where there is none
abbrev pub short_letter : List ℕ → ℕ
short_letter [] = 32
short_letter (letter ∷ more) = letter

-- a command of this name and short form, which takes this
abbrev pub row : List ℕ → List ℕ → Takes → CommandRow
row name letter takes = record { 0 = in_nine name; 1 = short_letter letter; 2 = takes }

-- the commands
abbrev pub commands : List CommandRow
commands =
    row (codes "abort") [] (Nothing Abort)
    ∷ row (codes "accept") (codes "a") (MaybeName Accept)
    ∷ row (codes "adjourn") [] (Nothing Adjourn)
    ∷ row (codes "alias") [] Alias
    ∷ row (codes "+censor") [] (Name AddCensor)
    ∷ row (codes "-censor") [] (Name DropCensor)
    ∷ row (codes "+channel") [] (Channel Join)
    ∷ row (codes "-channel") [] (Channel Leave)
    ∷ row (codes "decline") [] (MaybeName Decline)
    ∷ row (codes "draw") [] (Nothing Draw)
    ∷ row (codes "flag") [] (Nothing Flag)
    ∷ row (codes "games") [] (Nothing Games)
    ∷ row (codes "goboard") [] (Name GoBoard)
    ∷ row (codes "inchannel") [] (Channel Ask)
    ∷ row (codes "kibitz") (codes "k") (Text Kibitz)
    ∷ row (codes "match") (codes "m") Challenge
    ∷ row (codes "+noplay") [] (Name AddNoplay)
    ∷ row (codes "-noplay") [] (Name DropNoplay)
    ∷ row (codes "observe") (codes "o") Look
    ∷ row (codes "partner") [] (MaybeName Partner)
    ∷ row (codes "pending") [] (Nothing Pending)
    ∷ row (codes "play") [] (Number Play)
    ∷ row (codes "ptell") [] (Text Ptell)
    ∷ row (codes "quit") [] (Nothing Quit)
    ∷ row (codes "refresh") [] (Nothing Refresh)
    ∷ row (codes "register") [] (Text Register)
    ∷ row (codes "resign") [] (Nothing Resign)
    ∷ row (codes "resume") [] (Name Resume)
    ∷ row (codes "seek") [] Seek
    ∷ row (codes "set") [] Setting
    ∷ row (codes "shout") [] (Text Shout)
    ∷ row (codes "simnext") [] (Nothing SimNext)
    ∷ row (codes "simopen") [] (Nothing SimOpen)
    ∷ row (codes "simprev") [] (Nothing SimPrev)
    ∷ row (codes "sought") [] (Nothing Sought)
    ∷ row (codes "stored") [] (Nothing Stored)
    ∷ row (codes "style") [] Style
    ∷ row (codes "takeback") [] Takeback
    ∷ row (codes "tell") (codes "t") Telling
    ∷ row (codes "unalias") [] Unalias
    ∷ row (codes "unobserve") [] (Number Unobserve)
    ∷ row (codes "unseek") [] Unseek
    ∷ row (codes "who") [] (Nothing Who)
    ∷ row (codes "withdraw") [] (MaybeName Withdraw)
    ∷ []
