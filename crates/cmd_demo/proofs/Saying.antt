-- What is said, from the pieces of the program that say it.
use Rattle.std.proofs.Common.{◌≡◌, ℕ, ◌<◌, ◌==◌, false, List, [], ◌∷◌, length, get_or, IfOk, Result, sym, ap, subst, ◌∙◌}
use Rattle.std.proofs.lemmas.List.{get_or_default}
use Rattle.std.proofs.lemmas.Result.{IfOk-weaker}
use Rattle.chess_model.specs.declared.moves.Move.{Move}
use Rattle.memory.specs.declared.NoMemory.{NoMemory}
use Rattle.move_writer.specs.Spelling.{spelling_of}
use Rattle.one_server.specs.Server.{ServerState}
use Rattle.replay_core.specs.declared.script.ScriptEvent.{ScriptEvent}
use Rattle.replay_core.specs.Draws.{drawn, drawn_on}
use Rattle.cmd_demo.specs.declared.wish.Wish.{Wish}
use Rattle.cmd_demo.specs.Said.{IsSaid, Said, moving, said_by, says}

-- a wish whose line needs no draw
pub fixed : (result : Result ScriptEvent NoMemory) (wish one : Wish) (session number : ℕ) (server : ServerState)
    (words : List ℕ)
    → wish ≡ one
    → said_by one session number server ≡ says words number
    → IfOk result (λ event. (n : ℕ) → IsSaid (says words n) n event)
    → IfOk result (IsSaid (said_by wish session number server) number)
fixed result wish one session number server words is said h =
    let told : says words number ≡ said_by wish session number server =
    sym said ∙ sym (ap (λ (w : Wish). said_by w session number server) is) in
    IfOk-weaker result _ _ (λ event each. subst (λ (s : Said). IsSaid s number event) told (each number)) h

-- the half-move that is drawn
one_move : (moves : List Move) (number : ℕ) (m : Move) → (length moves == 0) ≡ false
    → drawn number (length moves) < length moves → m ≡ get_or moves (drawn number (length moves)) m
    → moving moves number ≡ says (spelling_of m) (drawn_on number)
one_move [] number m some inside is = absurd cc
one_move (first ∷ moves) number m some inside is =
    ap (λ (one : Move). says (spelling_of one) (drawn_on number))
    (get_or_default (first ∷ moves) (drawn number (length (first ∷ moves))) first m inside ∙ sym is)

pub one_said : (result : Result ScriptEvent NoMemory) (moves : List Move) (number place then : ℕ) (m : Move)
    (words : List ℕ)
    → (length moves == 0) ≡ false
    → place ≡ drawn number (length moves) → place < length moves → m ≡ get_or moves place m → words ≡ spelling_of m
    → then ≡ drawn_on number
    → IfOk result (λ event. (n : ℕ) → IsSaid (says words n) n event) → IfOk result (IsSaid (moving moves number) then)
one_said result moves number place then m words some drawn_is inside is spelled on h =
    let said : moving moves number ≡ says (spelling_of m) (drawn_on number) =
    one_move moves number m some (subst (λ (p : ℕ). p < length moves) drawn_is inside)
    (is ∙ ap (λ (p : ℕ). get_or moves p m) drawn_is) in
    let told : says words then ≡ moving moves number =
    ap (λ (w : List ℕ). says w then) spelled ∙ ap (says (spelling_of m)) on ∙ sym said in
    IfOk-weaker result _ _ (λ event each. subst (λ (s : Said). IsSaid s then event) told (each then)) h
