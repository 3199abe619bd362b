-- What an acknowledgement leaves of a board, and what the next charge keeps of it.
use Rattle.std.proofs.Common.{◌≡◌, ◌≢◌, ℕ, ◌&&◌, Bool, true, false, if◌then◌else◌, Option, Some, None, IfSome, refl, sym, ap, subst, ◌∙◌}
use Rattle.std.specs.Option.{option_zip}
use Rattle.chess_model.specs.declared.man.Colour.{Colour}
use Rattle.chess_model.specs.Holdings.{same_colour}
use Rattle.clock_ledger.specs.declared.charges.Charge.{Charge}
use Rattle.game_board.specs.Acked.{acknowledged}
use Rattle.game_board.specs.Board.{Board, to_move, has_moved}
use Rattle.game_board.specs.Charges.{is_timed}
use Rattle.game_board.specs.Play.{next_charge}
use Rattle.game_board.proofs.Sides.{same_colour-same, same_colour-other}

own_acknowledged : (b : Board) (c : Colour) (stamp : ℕ) → same_colour c (to_move b) ≡ true
    → acknowledged b c stamp ≡ record b { kept = Some stamp }
own_acknowledged b c stamp e = ap (λ t. if t then record b { kept = Some stamp } else b) e

not_acknowledged : (b : Board) (c : Colour) (stamp : ℕ) → same_colour c (to_move b) ≡ false → acknowledged b c stamp ≡ b
not_acknowledged b c stamp e = ap (λ t. if t then record b { kept = Some stamp } else b) e

pub acknowledged-other : (b : Board) (c : Colour) (stamp : ℕ) → to_move b ≢ c → acknowledged b c stamp ≡ b
acknowledged-other b c stamp other = not_acknowledged b c stamp (same_colour-other c (to_move b) other)

last_of : (own : Bool) (b : Board) (c : Colour) (first last : ℕ) → same_colour c (to_move b) ≡ own →
    acknowledged (acknowledged b c first) c last ≡ acknowledged b c last
last_of true b c first last e =
    ap (λ (x : Board). acknowledged x c last) (own_acknowledged b c first e)
    ∙ own_acknowledged (record b { kept = Some first }) c last e
    ∙ sym (own_acknowledged b c last e)
last_of false b c first last e = ap (λ (x : Board). acknowledged x c last) (not_acknowledged b c first e)

pub acknowledged-last : (b : Board) (c : Colour) (first last : ℕ)
    → acknowledged (acknowledged b c first) c last ≡ acknowledged b c last
acknowledged-last b c first last = last_of (same_colour c (to_move b)) b c first last refl

-- a charge, where there is one, keeps these times of the client
keeps_client : (charged : Bool) (begin end : ℕ) (client same : Option (ℕ × ℕ)) → client ≡ same →
    IfSome (if charged then Some (record { begin = begin; end = end; client = client }) else None)
    (λ (x : Charge). x.client ≡ same)
keeps_client true begin end client same e = e
keeps_client false begin end client same e = tt

pub next_charge-stamped : (b : Board) (c : Colour) (seen made moment : ℕ) → to_move b ≡ c →
    IfSome (next_charge (acknowledged b c seen) moment (Some made)) (λ (x : Charge). x.client ≡ Some (seen, made))
next_charge-stamped b c seen made moment e =
    subst (λ (x : Board). IfSome (next_charge x moment (Some made)) (λ (y : Charge). y.client ≡ Some (seen, made)))
    (sym (own_acknowledged b c seen (same_colour-same c (to_move b) e)))
    (keeps_client (is_timed b.terms && has_moved (to_move b) b.list) b.begin moment (Some (seen, made))
    (Some (seen, made)) refl)

zip-none : (kept : Option ℕ) → option_zip {U = ℕ} kept None ≡ None
zip-none None = refl
zip-none (Some stamp) = refl

pub next_charge-unstamped : (b : Board) (moment : ℕ)
    → IfSome (next_charge b moment None) (λ (x : Charge). x.client ≡ None)
next_charge-unstamped b moment =
    keeps_client (is_timed b.terms && has_moved (to_move b) b.list) b.begin moment (option_zip b.kept None) None
    (zip-none b.kept)

pub next_charge-unseen : (b : Board) (moment : ℕ) (stamp : Option ℕ) → b.kept ≡ None
    → IfSome (next_charge b moment stamp) (λ (x : Charge). x.client ≡ None)
next_charge-unseen b moment stamp e =
    keeps_client (is_timed b.terms && has_moved (to_move b) b.list) b.begin moment (option_zip b.kept stamp) None
    (ap (λ k. option_zip k stamp) e)
