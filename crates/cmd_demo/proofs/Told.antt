-- The summary as it is put together and written.
use Rattle.std.specs.Prelude.{◌⊎◌}
use Rattle.std.proofs.Common.{inl, inr, refl, ◌≡◌, ℕ, List, ◌++◌, length, count_by, codes, append_assoc, ap, subst, ◌∙◌, Option, Err}
use Rattle.std.proofs.KnownBytes.{Appends-nil}
use Rattle.edge_traits.specs.Sink.{AppendsFront}
use Rattle.cmd_lines.specs.Ends.{OnWriteFault, status_of}
use Rattle.cmd_lines.specs.Reading.{AfterSend}
use Rattle.cmd_lines.specs.declared.end.End.{End}
use Rattle.cmd_lines.specs.declared.end.End.TheVariants.{Done, ReadFault, WriteFault, Memory, BadLine, Spent}
use Rattle.one_server.specs.Running.{Log}
use Rattle.cmd_demo.specs.DemoEnds.{DemoEnds, IsPartTold, IsSummary}
use Rattle.cmd_demo.specs.Summary.{count_line, is_made, is_refused, is_start, summary_of}
use Rattle.cmd_demo.proofs.Going.{one_history}

-- six pieces behind a text
six : (out a b c d e f : List ℕ) → out ++ a ++ b ++ c ++ d ++ e ++ f ≡ out ++ (a ++ b ++ c ++ d ++ e ++ f)
six out a b c d e f =
    let two : out ++ a ++ b ≡ out ++ (a ++ b) = append_assoc out a b in
    let three : out ++ a ++ b ++ c ≡ out ++ (a ++ b ++ c) =
    ap (λ (t : List ℕ). t ++ c) two ∙ append_assoc out (a ++ b) c in
    let four : out ++ a ++ b ++ c ++ d ≡ out ++ (a ++ b ++ c ++ d) =
    ap (λ (t : List ℕ). t ++ d) three ∙ append_assoc out (a ++ b ++ c) d in
    let five : out ++ a ++ b ++ c ++ d ++ e ≡ out ++ (a ++ b ++ c ++ d ++ e) =
    ap (λ (t : List ℕ). t ++ e) four ∙ append_assoc out (a ++ b ++ c ++ d) e in
    ap (λ (t : List ℕ). t ++ f) five ∙ append_assoc out (a ++ b ++ c ++ d ++ e) f

-- the lines of a summary, one put behind the other
pub six_lines : (log : Log) (out o1 o2 o3 o4 o5 o6 : List ℕ) (entries games moves refused : ℕ)
    → entries ≡ length log → games ≡ count_by is_start log → moves ≡ count_by is_made log
    → refused ≡ count_by is_refused log
    → o1
    ≡ out
    ++ count_line
    (codes "sessions ") 40
    → o2 ≡ o1 ++ count_line (codes "entries ") entries → o3 ≡ o2 ++ count_line (codes "games ") games
    → o4
    ≡ o3
    ++ count_line
    (codes "moves ") moves
    → o5 ≡ o4 ++ count_line (codes "refused ") refused → o6 ≡ o5 ++ count_line (codes "stored ") 0
    → o6 ≡ out ++ summary_of log
unfolding summary_of
six_lines log out o1 o2 o3 o4 o5 o6 entries games moves refused n g m r p1 p2 p3 p4 p5 p6 =
    let line = count_line in
    p6
    ∙ ap (λ (t : List ℕ). t ++ line (codes "stored ") 0)
    (p5 ∙ ap (λ (k : ℕ). o4 ++ line (codes "refused ") k) r
    ∙ ap (λ (t : List ℕ). t ++ line (codes "refused ") (count_by is_refused log))
    (p4 ∙ ap (λ (k : ℕ). o3 ++ line (codes "moves ") k) m
    ∙ ap (λ (t : List ℕ). t ++ line (codes "moves ") (count_by is_made log))
    (p3 ∙ ap (λ (k : ℕ). o2 ++ line (codes "games ") k) g
    ∙ ap (λ (t : List ℕ). t ++ line (codes "games ") (count_by is_start log))
    (p2
    ∙ ap
    (λ (k : ℕ).
    o1 ++ line (codes "entries ") k) n ∙ ap (λ (t : List ℕ). t ++ line (codes "entries ") (length log)) p1))))
    ∙ six out
    (line (codes "sessions ") 40)
    (line (codes "entries ") (length log))
    (line (codes "games ") (count_by is_start log)) (line (codes "moves ") (count_by is_made log))
    (line (codes "refused ") (count_by is_refused log)) (line (codes "stored ") 0)

-- nothing was written
pub nothing_told : (number : ℕ) (written : Option (List ℕ)) → IsPartTold number written written
nothing_told number written = λ log made. (0, Appends-nil written)

-- the text was written in part
part_told : (number : ℕ) (written written' : Option (List ℕ)) (text : List ℕ) → IsSummary number text
    → AppendsFront written written' text → IsPartTold number written written'
part_told number written written' text told front = λ log made.
    subst (AppendsFront written written') (told.told ∙ ap summary_of (one_history number told.log log told.made made))
    front

pub not_sent : (A : Type 0) (number : ℕ) (written written' : Option (List ℕ)) (text : List ℕ) (end : End)
    → IsSummary number text → AfterSend {A = A} written written' text (Err end)
    → DemoEnds number written written' end
not_sent A number written written' text Done told sent = absurd sent
not_sent A number written written' text ReadFault told sent = sent
not_sent A number written written' text WriteFault told sent = part_told number written written' text told sent
not_sent A number written written' text Memory told sent = part_told number written written' text told sent
not_sent A number written written' text BadLine told sent = sent
not_sent A number written written' text Spent told sent = sent

-- where no write fails the summary is written, or memory runs out
pub told_or_cut : (number : ℕ) (written written' : Option (List ℕ)) (Q : Type 0) (end : End)
    → DemoEnds number written written' end → OnWriteFault end Q → ¬ Q
    → (status_of end ≡ 0) ⊎ (status_of end ≡ 6)
told_or_cut number written written' Q Done h q no_write = inl refl
told_or_cut number written written' Q ReadFault h q no_write = absurd h
told_or_cut number written written' Q WriteFault h q no_write = absurd (no_write q)
told_or_cut number written written' Q Memory h q no_write = inr refl
told_or_cut number written written' Q BadLine h q no_write = absurd h
told_or_cut number written written' Q Spent h q no_write = absurd h
