-- The score of a board is true at its start, and stays so by a half-move, and where half-moves are taken back.
use Rattle.std.proofs.Common.{◌≡◌, ℕ, ◌+◌, ◌*◌, ◌≤◌, ◌<◌, inl, inr, zero, suc, Bool, true, false, ◌&&◌, if◌then◌else◌, List, [], ◌∷◌, ◌++◌, length, Option, Some, None, Result, Ok, Err, refl, sym, ap, subst, ◌∙◌, length-append, arith}
use Rattle.std.specs.Prelude.{ℤ, pos, ◌-ℤ◌, ◌↔◌, IsTrue, IfSome, slice_get, nat_lt}
use Rattle.std.specs.List.{sum_by}
use Rattle.std.proofs.lemmas.Bool.Decides.{nat_tests}
use Rattle.std.proofs.lemmas.Option.{slice_get_cases, slice_get_within, same_Some, IfSome_then}
use Rattle.chess_model.specs.declared.man.Colour.{Colour}
use Rattle.chess_model.specs.declared.man.Colour.TheVariants.{White, Black}
use Rattle.chess_model.specs.declared.moves.Move.{Move}
use Rattle.chess_model.specs.declared.moves.MoveWord.{MoveWord}
use Rattle.chess_model.specs.declared.moves.Rejection.{Rejection}
use Rattle.chess_model.specs.declared.variant.Terms.{Terms}
use Rattle.std.proofs.lemmas.List.{map-append}
use Rattle.chess_model.specs.MoveList.{HalfMove}
use Rattle.chess_model.specs.Holdings.{other_board}
use Rattle.chess_model.specs.declared.variant.Variant.TheVariants.{Bughouse}
use Rattle.chess_model.proofs.MoreMoves.{moves_of-same, moves_of-other}
use Rattle.chess_model.specs.Allowed.{Allowed}
use Rattle.chess_model.specs.Position.{Position}
use Rattle.std.specs.Option.{option_map_or, option_zip}
use Rattle.clock_ledger.specs.declared.charges.Charge.{Charge}
use Rattle.clock_ledger.specs.Charges.{amount, AreStamps}
use Rattle.clock_ledger.specs.Clock.{start_of}
use Rattle.clock_ledger.specs.Span.{IsStamp}
use Rattle.fics_words.specs.declared.refusal.Refusal.{Refusal}
use Rattle.game_board.specs.declared.played.Played.{Played}
use Rattle.chess_model.specs.Holdings.{same_colour}
use Rattle.game_board.specs.Acked.{acknowledged}
use Rattle.game_board.specs.Board.{Board, half_move, new_board, to_move, mover_after, position_of, has_moved}
use Rattle.game_board.specs.Charges.{charges_of, is_timed, remaining_of}
use Rattle.game_board.specs.Causes.{in_words}
use Rattle.game_board.specs.Play.{move_refused, move_answer, next_charge, with_half_move, play_after}
use Rattle.game_board.specs.Put.{with_played}
use Rattle.chess_model.specs.WordAnswer.{IsWordAnswer, word_answer}
use Rattle.chess_model.proofs.WordsDecide.{word_answer-holds}
use Rattle.game_board.specs.Learn.{partner_position, learnt}
use Rattle.game_board.proofs.Received.{boards_differ}
use Rattle.game_board.specs.Scoresheet.{DontFall, IsCharged, IsTrueScore}
use Rattle.game_board.proofs.Grown.{half_moves-append}
use Rattle.game_board.proofs.LastPlayed.{at_or_last, AreStamps-zip}
use Rattle.chess_model.proofs.LegalLists.{IsLegal-append, legal_lists}
use Rattle.collections.proofs.Places.{slice_get-append_end}
use Rattle.std.proofs.lemmas.Bool.{false≢true}

-- each item of the list stands where it stood, in a list with one item more
pub stays_at : {X : Type 0} (xs : List X) (x y : X) (k : ℕ) → slice_get xs k ≡ Some y
    → slice_get (xs ++ x ∷ []) k ≡ Some y
stays_at [] x y k e = absurd cc
stays_at (z ∷ zs) x y zero e = e
stays_at (z ∷ zs) x y (suc k) e = stays_at zs x y k e

-- a moment that isn't before the last one may follow
DontFall-append : (moments : List ℕ) (last next n : ℕ) → length moments ≡ n + 1 → slice_get moments n ≡ Some last
    → last ≤ next → DontFall moments →
    DontFall (moments ++ next ∷ [])
DontFall-append moments last next n each at le rising = λ k i j e f. elim (at_or_last moments next j (k + 1) f) [
  | inl later ↦ elim (at_or_last moments next i k e) [
    | inl earlier ↦ rising k i j earlier later
    | inr past ↦
        absurd (let within : k + 1 < length moments = slice_get_within moments (k + 1) j later in omega (arith, past.0))
  ]
  | inr new ↦ elim (at_or_last moments next i k e) [
    | inl earlier ↦
        let place : k ≡ n = omega (arith, new.0, each) in
        let is : last ≡ i = same_Some last i (sym at ∙ (ap (slice_get moments) (sym place) ∙ earlier)) in
        omega (arith, is, new.1, le)
    | inr past ↦ absurd (omega (arith, past.0, new.0))
  ]
]

above_one : (n : ℕ) → nat_lt 1 (suc (suc n)) ≡ true
above_one n = grind (arith, nat_tests)

above_zero : (n : ℕ) → nat_lt 0 (suc (suc n)) ≡ true
above_zero n = grind (arith, nat_tests)

-- each colour's first half-move is one of the first two
has_moved-two : (c : Colour) (p q : Played) (more : List Played) → has_moved c (p ∷ q ∷ more) ≡ true
has_moved-two White p q more = above_zero (length more)
has_moved-two Black p q more = above_one (length more)

-- who is to move has made a half-move exactly where two were played
pub has_moved-mover : (list : List Played) → IsTrue (has_moved (mover_after list) list) ↔ (2 ≤ length list)
has_moved-mover [] = (λ h. absurd cc, λ h. absurd (omega arith))
has_moved-mover (p ∷ []) = (λ h. absurd cc, λ h. absurd (omega arith))
has_moved-mover (p ∷ q ∷ more) = (λ h. omega arith, λ h. has_moved-two (mover_after (p ∷ q ∷ more)) p q more)

-- the charge where the game is timed and the colour has moved, and none elsewhere
abbrev charge_if : Bool → Bool → ℕ → ℕ → Option (ℕ × ℕ) → Option Charge
charge_if timed moved begin end client =
    if timed && moved then Some (record { begin = begin; end = end; client = client }) else None

-- so the charge of the next half-move is a true one
IsCharged-if : (timed moved : Bool) (terms : Terms) (resumed : ℕ) (since moments : List ℕ) (k begin end : ℕ)
    (client : Option (ℕ × ℕ)) (m : Move)
    → is_timed terms ≡ timed →
    (IsTrue moved ↔ (2 ≤ k)) → begin ≤ end → slice_get since k ≡ Some begin → slice_get moments (k + 1) ≡ Some end
    → AreStamps client →
    IsCharged terms resumed since moments k (record { what = m; charge = charge_if timed moved begin end client })
IsCharged-if true true terms resumed since moments k begin end client m t h order from to stamps = record {
  stands = (λ s. (t, h.0 refl), λ s. refl);
  ordered = order;
  begins = λ own. from;
  ends = λ own. to;
  stamped = stamps;
}
IsCharged-if true false terms resumed since moments k begin end client m t h order from to stamps = record {
  stands = (λ s. absurd (false≢true s), λ s. absurd (false≢true (h.1 s.1)));
  ordered = tt;
  begins = λ own. tt;
  ends = λ own. tt;
  stamped = tt;
}
IsCharged-if false true terms resumed since moments k begin end client m t h order from to stamps = record {
  stands = (λ s. absurd (false≢true s), λ s. absurd (false≢true (sym t ∙ s.0)));
  ordered = tt;
  begins = λ own. tt;
  ends = λ own. tt;
  stamped = tt;
}
IsCharged-if false false terms resumed since moments k begin end client m t h order from to stamps = record {
  stands = (λ s. absurd (false≢true s), λ s. absurd (false≢true (sym t ∙ s.0)));
  ordered = tt;
  begins = λ own. tt;
  ends = λ own. tt;
  stamped = tt;
}

pub IsCharged-changed : (terms : Terms) (resumed resumed' : ℕ) (since since' moments moments' : List ℕ) (k : ℕ)
    (p : Played)
    → (resumed' ≤ k → resumed ≤ k) →
    ((x : ℕ) → slice_get since k ≡ Some x → slice_get since' k ≡ Some x)
    → ((x : ℕ) → slice_get moments (k + 1) ≡ Some x → slice_get moments' (k + 1) ≡ Some x) →
    IsCharged terms resumed since moments k p → IsCharged terms resumed' since' moments' k p
IsCharged-changed terms resumed resumed' since since' moments moments' k p here from to c = record {
  stands = c.stands;
  ordered = c.ordered;
  begins = λ own. IfSome_then p.charge (c.begins (here own)) (λ x h. from x.begin h);
  ends = λ own. IfSome_then p.charge (c.ends (here own)) (λ x h. to x.end h);
  stamped = c.stamped;
}

chosen : (b : Bool) (x y : ℤ) → IsTrue b → (if b then x else y) ≡ x
chosen true x y h = refl
chosen false x y h = absurd cc

-- a clock shows what its ledger sums to
pub clocks-sum : (b : Board) (c : Colour) → IsTrue (is_timed b.terms) →
    remaining_of b c
    ≡ (pos (start_of b.terms.minutes b.terms.increment + b.terms.increment * 1000 * length (charges_of c b.list))
    -ℤ pos (sum_by amount (charges_of c b.list)))
clocks-sum b c timed = chosen (is_timed b.terms) _ _ timed

-- items at the same place are in order
same_order : (moments : List ℕ) (k i j : ℕ) → slice_get moments k ≡ Some i → slice_get moments k ≡ Some j → i ≤ j
same_order moments k i j e f = let same : i ≡ j = same_Some i j (sym e ∙ f) in omega (arith, same)

-- the moment of the last half-move, or of the start: the player to move isn't thinking since before it
pub last_moment : (b : Board) (s : IsTrueScore b)
    → (last : ℕ) × (slice_get s.moments (length b.list) ≡ Some last) × (last ≤ b.begin)
last_moment b s = elim (slice_get_cases s.moments (length b.list)).1 [
  | inl at ↦ (at.0, at.2, s.not_before (length b.list) at.0 b.begin at.2 s.thinking)
  | inr past ↦ absurd (omega (arith, past.0, s.each))
]

pub IsTrueScore-new_board : (number : ℕ) (terms : Terms) (moment : ℕ) → IsTrueScore (new_board number terms moment)
IsTrueScore-new_board number terms moment = record {
  moments = moment ∷ [];
  each = refl;
  dont_fall = λ k i j e f.
      absurd (let within : k + 1 < 1 = slice_get_within (moment ∷ []) (k + 1) j f in omega (arith, within));
  since = moment ∷ [];
  of_each = refl;
  thinking = refl;
  not_before = same_order (moment ∷ []);
  not_after = λ k i j e f.
      absurd (let within : k + 1 < 1 = slice_get_within (moment ∷ []) (k + 1) j f in omega (arith, within));
  played = omega arith;
  unless_taken_back = λ h. refl;
  resumed = omega arith;
  kept = tt;
  charged = λ k p e. absurd (let within : k < 0 = slice_get_within [] k p e in omega (arith, within));
  legal = legal_lists.none terms.variant;
  own = refl;
  alone = λ h. refl;
  clocks = λ c timed. clocks-sum (new_board number terms moment) c timed;
}

-- a half-move more that was allowed, since which the player to move is thinking at `moment`
pub IsTrueScore-one_more : (b : Board) (p : Played) (moment resumed : ℕ) (s : IsTrueScore b) → b.begin ≤ moment
    → Allowed (position_of b) p.what → b.resumed ≤ resumed → resumed ≤ length b.list + 1 →
    IsCharged b.terms resumed (s.since ++ moment ∷ []) (s.moments ++ moment ∷ []) (length b.list) p →
    IsTrueScore (record (with_played b p) { begin = moment; resumed = resumed })
unfolding position_of
IsTrueScore-one_more b p moment resumed s order allowed more_resumed most_resumed new =
    let moments : List ℕ = s.moments ++ moment ∷ [] in
    let since : List ℕ = s.since ++ moment ∷ [] in
    let many : length (b.list ++ p ∷ []) ≡ length b.list + 1 = length-append b.list (p ∷ []) in
    let more : length moments ≡ length s.moments + 1 = length-append s.moments (moment ∷ []) in
    let of_more : length since ≡ length s.since + 1 = length-append s.since (moment ∷ []) in
    let now : slice_get since (length b.list + 1) ≡ Some moment =
    ap (slice_get since) (sym s.of_each) ∙ slice_get-append_end s.since moment in
    record {
      moments = moments;
      each = omega (arith, many, more, s.each);
      dont_fall =
          DontFall-append s.moments (last_moment b s).0 moment (length b.list) s.each (last_moment b s).1
          (omega (arith, (last_moment b s).2, order)) s.dont_fall;
      since = since;
      of_each = omega (arith, many, of_more, s.of_each);
      thinking = ap (slice_get since) many ∙ now;
      not_before = λ k i j e f. elim (at_or_last s.moments moment i k e) [
        | inl old ↦ elim (at_or_last s.since moment j k f) [
          | inl before ↦ s.not_before k i j old before
          | inr past ↦
              absurd (let within : k < length s.moments =
              slice_get_within s.moments k i old in omega (arith, within, past.0, s.each, s.of_each))
        ]
        | inr here ↦ elim (at_or_last s.since moment j k f) [
          | inl before ↦
              absurd (let within : k < length s.since =
              slice_get_within s.since k j before in omega (arith, within, here.0, s.each, s.of_each))
          | inr past ↦ omega (arith, here.1, past.1)
        ]
      ];
      not_after = λ k i j e f. elim (at_or_last s.moments moment j (k + 1) f) [
        | inl old ↦ elim (at_or_last s.since moment i k e) [
          | inl before ↦ s.not_after k i j before old
          | inr past ↦
              absurd (let within : k + 1 < length s.moments =
              slice_get_within s.moments (k + 1) j old in omega (arith, within, past.0, s.each, s.of_each))
        ]
        | inr here ↦ elim (at_or_last s.since moment i k e) [
          | inl before ↦
              let place : k ≡ length b.list = omega (arith, here.0, s.each) in
              let is : b.begin ≡ i =
              same_Some b.begin i (sym s.thinking ∙ (ap (slice_get s.since) (sym place) ∙ before)) in
              omega (arith, is, here.1, order)
          | inr past ↦ omega (arith, here.1, past.1)
        ]
      ];
      played = omega (arith, many, s.played);
      unless_taken_back = λ h.
          let none : b.played ≡ length b.list = omega (arith, h, many) in
          ap (λ (l : List ℕ). l ++ moment ∷ []) (s.unless_taken_back none);
      resumed = omega (arith, many, most_resumed);
      kept = tt;
      charged = λ k q e. elim (at_or_last b.list p q k e) [
        | inl old ↦
            IsCharged-changed b.terms b.resumed resumed s.since since s.moments moments k q
            (λ own. omega (arith, own, more_resumed))
            (λ x h. stays_at s.since moment x k h) (λ x h. stays_at s.moments moment x (k + 1) h) (s.charged k q old)
        | inr here ↦ subst (λ (r : Played). IsCharged b.terms resumed since moments k r) here.1
            (subst (λ (n : ℕ). IsCharged b.terms resumed since moments n p) (sym here.0) new)
      ];
      legal = IsLegal-append b.terms.variant b.all (half_move b.number p) s.legal allowed;
      own =
          moves_of-same b.number b.all p.what ∙ ap (λ (ms : List Move). ms ++ p.what ∷ []) s.own
          ∙ sym (map-append (λ (q : Played). q.what) b.list (p ∷ []));
      alone = λ h.
          ap (λ (T : List HalfMove). T ++ half_move b.number p ∷ []) (s.alone h)
          ∙ sym (half_moves-append b.number b.list p);
      clocks = λ c timed. clocks-sum (record (with_played b p) { begin = moment; resumed = resumed }) c timed;
    }

pub IsTrueScore-with_half_move : (b : Board) (m : Move) (moment : ℕ) (stamp : Option ℕ) → IsTrueScore b
    → b.begin ≤ moment → IfSome stamp IsStamp → Allowed (position_of b) m →
    IsTrueScore (with_half_move b m moment stamp)
IsTrueScore-with_half_move b m moment stamp s order stamped allowed =
    let entry : Played = record { what = m; charge = next_charge b moment stamp } in
    let moments : List ℕ = s.moments ++ moment ∷ [] in
    let since : List ℕ = s.since ++ moment ∷ [] in
    let last : slice_get moments (length b.list + 1) ≡ Some moment =
    ap (slice_get moments) (sym s.each) ∙ slice_get-append_end s.moments moment in
    let new : IsCharged b.terms b.resumed since moments (length b.list) entry =
    IsCharged-if (is_timed b.terms) (has_moved (to_move b) b.list) b.terms b.resumed since moments (length b.list)
    b.begin moment (option_zip b.kept stamp) m refl (has_moved-mover b.list)
    order (stays_at s.since moment b.begin (length b.list) s.thinking) last
    (AreStamps-zip b.kept stamp s.kept stamped) in
    IsTrueScore-one_more b entry moment b.resumed s order allowed (omega arith) (omega (arith, s.resumed)) new

-- an answer that plays has an allowed half-move
allowed_in : (p : Position) (word : MoveWord) (answer : Result Move Rejection) (m : Move) → IsWordAnswer p word answer
    → in_words answer ≡ Ok m → Allowed p m
allowed_in p word (Ok move) m is e = let same : move ≡ m = cc in subst (Allowed p) same is.choice.allowed
allowed_in p word (Err cause) m is e = absurd cc

allowed_unless : (refused : Option Refusal) (p : Position) (word : MoveWord) (m : Move) →
    option_map_or Err refused (in_words (word_answer p word)) ≡ Ok m → Allowed p m
allowed_unless None p word m e = allowed_in p word (word_answer p word) m (word_answer-holds p word) e
allowed_unless (Some cause) p word m e = absurd cc

-- so a word that is played stands for an allowed half-move
pub allowed_by_answer : (b : Board) (c : Colour) (word : MoveWord) (m : Move) → move_answer b c word ≡ Ok m
    → Allowed (position_of b) m
unfolding move_answer
allowed_by_answer b c word m e = allowed_unless (move_refused b c) (position_of b) word m e

played_true : (b : Board) (moment : ℕ) (stamp : Option ℕ) (answer : Result Move Refusal) → IsTrueScore b
    → b.begin ≤ moment → IfSome stamp IsStamp → ((m : Move) → answer ≡ Ok m → Allowed (position_of b) m) →
    IsTrueScore (play_after b moment stamp answer)
played_true b moment stamp (Ok m) s order stamped allowed =
    IsTrueScore-with_half_move b m moment stamp s order stamped (allowed m refl)
played_true b moment stamp (Err cause) s order stamped allowed = s

pub IsTrueScore-play_after : (b : Board) (c : Colour) (word : MoveWord) (moment : ℕ) (stamp : Option ℕ) → IsTrueScore b
    → b.begin ≤ moment → IfSome stamp IsStamp →
    IsTrueScore (play_after b moment stamp (move_answer b c word))
IsTrueScore-play_after b c word moment stamp s order stamped =
    played_true b moment stamp (move_answer b c word) s order stamped (λ m e. allowed_by_answer b c word m e)

-- an acknowledgement changes nothing of the score but what is kept
IsTrueScore-kept : (b : Board) (stamp : ℕ) → IsTrueScore b → IsStamp stamp
    → IsTrueScore (record b { kept = Some stamp })
IsTrueScore-kept b stamp s stamped = record {
  moments = s.moments;
  each = s.each;
  dont_fall = s.dont_fall;
  since = s.since;
  of_each = s.of_each;
  thinking = s.thinking;
  not_before = s.not_before;
  not_after = s.not_after;
  played = s.played;
  unless_taken_back = s.unless_taken_back;
  resumed = s.resumed;
  kept = stamped;
  charged = s.charged;
  legal = s.legal;
  own = s.own;
  alone = s.alone;
  clocks = s.clocks;
}

true_either : (own : Bool) (b new : Board) → IsTrueScore b → IsTrueScore new → IsTrueScore (if own then new else b)
true_either true b new s t = t
true_either false b new s t = s

pub IsTrueScore-acknowledged : (b : Board) (c : Colour) (stamp : ℕ) → IsTrueScore b → IsStamp stamp
    → IsTrueScore (acknowledged b c stamp)
IsTrueScore-acknowledged b c stamp s stamped =
    true_either (same_colour c (to_move b)) b (record b { kept = Some stamp }) s (IsTrueScore-kept b stamp s stamped)

-- a half-move on the other board of a pair, where it was allowed there, changes nothing but what the board knows of it
pub IsTrueScore-learnt : (b : Board) (m : Move) → b.terms.variant ≡ Bughouse → IsTrueScore b
    → Allowed (partner_position b) m → IsTrueScore (learnt b m)
IsTrueScore-learnt b m pair s allowed = record {
  moments = s.moments;
  each = s.each;
  dont_fall = s.dont_fall;
  since = s.since;
  of_each = s.of_each;
  thinking = s.thinking;
  not_before = s.not_before;
  not_after = s.not_after;
  played = s.played;
  unless_taken_back = s.unless_taken_back;
  resumed = s.resumed;
  kept = s.kept;
  charged = s.charged;
  legal = IsLegal-append b.terms.variant b.all (record { board = other_board b.number; what = m }) s.legal allowed;
  own = moves_of-other (other_board b.number) b.number b.all m (boards_differ b.number) ∙ s.own;
  alone = λ h. absurd (h pair);
  clocks = λ c timed. clocks-sum (learnt b m) c timed;
}

-- where no half-move came with its charge, each charge is told by the board's own moments
pub charged_here : (b : Board) (s : IsTrueScore b) → b.resumed ≡ 0 → (k : ℕ) (p : Played)
    → slice_get b.list k ≡ Some p →
    IfSome p.charge (λ c. slice_get s.since k ≡ Some c.begin)
    × IfSome p.charge (λ c. slice_get s.moments (k + 1) ≡ Some c.end)
charged_here b s none k p at =
    let own : b.resumed ≤ k = omega (arith, none) in
    ((s.charged k p at).begins own, (s.charged k p at).ends own)
