-- How a game ends that a player leaves.
use Rattle.std.proofs.Common.{◌≡◌, ℕ, Bool, true, false, not, if◌then◌else◌, Option, Some, None, refl, ap, ◌∙◌}
use Rattle.std.specs.Prelude.{◌&&◌, is_some}
use Rattle.chess_model.specs.declared.why.Why.TheVariants.{Adjourned}
use Rattle.linked_desk.specs.declared.ended.Ended.{Ended}
use Rattle.linked_desk.specs.Desk.{GameState, are_registered, is_pair, seat_of}
use Rattle.linked_desk.specs.Ends.{ended_by}
use Rattle.linked_desk.specs.Leave.{forfeit, leave_effect, leaving_end, game_left_by}
use Rattle.linked_desk.specs.LeaveLaws.{LeavingAdjournsOrLoses}
use Rattle.linked_desk.specs.Offering.{end_without_winner}

ends_so : (desk : ℕ) (g : GameState) (session moment seat : ℕ) (e : Ended) → leaving_end g seat ≡ e
    → seat_of g session ≡ Some seat → g.ended ≡ None →
    (leave_effect desk g session moment).after.ended ≡ Some e
ends_so desk g session moment seat e end seated runs =
    ap (λ (o : Option ℕ). (game_left_by desk g moment o).ended) seated
    ∙ ap (λ (o : Option Ended). (if is_some o then g else ended_by desk g moment (leaving_end g seat)).ended) runs
    ∙ ap Some end

chosen : (pair registered : Bool) (g : GameState) (seat : ℕ) → is_pair g ≡ pair → are_registered g ≡ registered →
    leaving_end g seat ≡ (if not pair && registered then end_without_winner seat Adjourned else forfeit seat)
chosen pair registered g seat one all = λ i.
    if not (one i) && all i then end_without_winner seat Adjourned else forfeit seat

guests : (pair : Bool) (g : GameState) (seat : ℕ) → is_pair g ≡ pair → are_registered g ≡ false
    → leaving_end g seat ≡ forfeit seat
guests true g seat one all = chosen true false g seat one all
guests false g seat one all = chosen false false g seat one all

pub leaving_adjourns_or_loses : LeavingAdjournsOrLoses
leaving_adjourns_or_loses = record {
  adjourns = λ g seat one all desk session moment.
      ends_so desk g session moment seat (end_without_winner seat Adjourned) (chosen false true g seat one all);
  loses_with_guests = λ g seat all desk session moment.
      ends_so desk g session moment seat (forfeit seat) (guests (is_pair g) g seat refl all);
  loses_a_pair = λ g seat pair desk session moment.
      ends_so desk g session moment seat (forfeit seat) (chosen true (are_registered g) g seat pair refl);
}
