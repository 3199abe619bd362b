-- Inputs of `bot` without a bad line are those that a player reads as a game.
use Rattle.std.proofs.Common.{◌≡◌, ℕ, zero, suc, ◌+◌, ◌%◌, ◌<◌, ◌≤◌, Bool, true, false, cond, List, [], ◌∷◌, ◌++◌, length, filter, Some, None, Ok, Err, decimal, bytes_eq, refl, sym, ap, subst, ◌∙◌, append_assoc, append-nil, arith}
use Rattle.std.specs.Prelude.{◌||◌, nat_le, nat_lt, Option, Result, All, MatchResult, codes, option_map}
use Rattle.std.specs.List.{find, range_with_len}
use Rattle.std.specs.Option.{option_and_then, option_map_or}
use Rattle.std.specs.Result.{result_ok}
use Rattle.std.proofs.lemmas.Bool.{le-leb, le-ltb, leb-false, leb-true, lt-leb, or_parts}
use Rattle.std.proofs.lemmas.Slice.Eq.{bytes_eq-Decides}
use Rattle.chess_model.specs.declared.moves.Move.{Move}
use Rattle.chess_model.specs.declared.moves.MoveWord.{MoveWord}
use Rattle.chess_model.specs.declared.moves.Rejection.{Rejection}
use Rattle.chess_model.specs.declared.variant.Variant.{Variant}
use Rattle.chess_model.specs.declared.variant.Variant.TheVariants.{Chess, Crazyhouse, Bughouse, Fischer}
use Rattle.chess_model.specs.Answer.{IsAnswer, IsRefusal}
use Rattle.chess_model.specs.Result.{is_end, result}
use Rattle.chess_model.specs.WordAnswer.{word_answer}
use Rattle.chess_model.proofs.WordsDecide.{word_answer-holds, word_answer-is}
use Rattle.cmd_lines.specs.LineCommand.{first_bad, line_answer, state_after}
use Rattle.cmd_lines.specs.Lines.{is_written}
use Rattle.move_reader.specs.Reading.{reading}
use Rattle.move_reader.proofs.Readings.{reading-again, reading-sound}
use Rattle.cmd_bot.specs.BotLines.{BotState, answer_line, bot_lines, silent}
use Rattle.cmd_bot.specs.Game.{BotGame, array_named, is_over, move_named, new_game, bot_position, variant_named, with_drops, with_move, word_played}
use Rattle.cmd_bot.specs.Inputs.{Follow, Give, IsNextMove, NamesVariant}
use Rattle.cmd_bot.proofs.Variants.{named_array}
use Rattle.std.proofs.lemmas.Option.{same_Some}

-- ---- the first line

find-sound : (p : ℕ → Bool) (a k n : ℕ) → find p (range_with_len a k) ≡ Some n → (p n ≡ true) × (n < a + k)
find-sound p a zero n e = absurd (let bad : None ≡ Some n = e in cc)
find-sound p a (suc k) n e =
    elim (p a)
    as (λ t. p a ≡ t → cond t (Some a) (find p (range_with_len (a + 1) k)) ≡ Some n → (p n ≡ true) × (n < a + suc k)) [
      | true ↦ λ hit is.
          let same : a ≡ n = (let s : Some a ≡ Some n = is in cc) in
          (subst (λ (x : ℕ). p x ≡ true) same hit, omega (arith, same))
      | false ↦ λ miss is. let rest = find-sound p (a + 1) k n is in (rest.0, omega (arith, rest.1))
    ] refl e

array_named-sound : (line : List ℕ) (n : ℕ) → array_named line ≡ Some n
    → (n < 960) × (line ≡ codes "fischer " ++ decimal n)
unfolding array_named
array_named-sound line n e =
    let h = find-sound (λ k. bytes_eq (codes "fischer " ++ decimal k) line) 0 960 n e in
    (omega (arith, h.1), sym ((bytes_eq-Decides (codes "fischer " ++ decimal n) line).0 h.0))

names_chess : (depth : ℕ) (line : List ℕ) → line ≡ codes "chess" → NamesVariant depth line Chess
names_chess depth line is = record {
  named = is;
  numbered = tt;
  one_board = λ e. absurd (let bad : Chess ≡ Bughouse = e in cc);
  shallow = λ e. absurd (let bad : Chess ≡ Crazyhouse = e in cc);
}

names_drops : (depth : ℕ) (line : List ℕ) (v : Variant) → line ≡ codes "crazyhouse" → with_drops depth ≡ Some v
    → NamesVariant depth line v
names_drops depth line v is e =
    elim (nat_le depth 3)
    as (λ t. nat_le depth 3 ≡ t → cond t (Some Crazyhouse) None ≡ Some v → NamesVariant depth line v) [
      | true ↦ λ few got. subst (NamesVariant depth line) (same_Some Crazyhouse v got) (record {
        named = is;
        numbered = tt;
        one_board = λ e. absurd (let bad : Crazyhouse ≡ Bughouse = e in cc);
        shallow = λ e. leb-true depth 3 few;
      })
      | false ↦ λ many got. absurd (let bad : None ≡ Some v = got in cc)
    ] refl e

names_array : (depth : ℕ) (line : List ℕ) (v : Variant) → option_map Fischer (array_named line) ≡ Some v
    → NamesVariant depth line v
names_array depth line v e =
    elim (array_named line) as (λ t. array_named line ≡ t → option_map Fischer t ≡ Some v → NamesVariant depth line v) [
      | None ↦ λ is got. absurd (let bad : None ≡ Some v = got in cc)
      | Some n ↦ λ is got.
          let h = array_named-sound line n is in
          let same : n ≡ n % 960 = omega (arith, h.0) in
          subst (NamesVariant depth line) (same_Some (Fischer n) v got) (record {
            named = h.1 ∙ ap (λ k. codes "fischer " ++ decimal k) same;
            numbered = h.0;
            one_board = λ e. absurd (let bad : Fischer n ≡ Bughouse = e in cc);
            shallow = λ e. absurd (let bad : Fischer n ≡ Crazyhouse = e in cc);
          })
    ] refl e

variant_named-sound : (depth : ℕ) (line : List ℕ) (v : Variant) → variant_named depth line ≡ Some v
    → NamesVariant depth line v
variant_named-sound depth line v e =
    elim (bytes_eq line (codes "chess")) as (λ t. bytes_eq line (codes "chess") ≡ t
    → cond t (Some Chess)
    (cond (bytes_eq line (codes "crazyhouse")) (with_drops depth) (option_map Fischer (array_named line))) ≡ Some v
    → NamesVariant depth line v) [
      | true ↦ λ is got.
          subst (NamesVariant depth line) (same_Some Chess v got)
          (names_chess depth line ((bytes_eq-Decides line (codes "chess")).0 is))
      | false ↦ λ other got.
          elim (bytes_eq line (codes "crazyhouse")) as (λ t. bytes_eq line (codes "crazyhouse") ≡ t
          → cond t (with_drops depth) (option_map Fischer (array_named line)) ≡ Some v → NamesVariant depth line v) [
            | true ↦ λ is got. names_drops depth line v ((bytes_eq-Decides line (codes "crazyhouse")).0 is) got
            | false ↦ λ other got. names_array depth line v got
          ] refl got
    ] refl e

variant_named-again : (depth : ℕ) (line : List ℕ) (v : Variant) → NamesVariant depth line v
    → variant_named depth line ≡ Some v
variant_named-again depth line Chess h = ap (variant_named depth) h.named
variant_named-again depth line Crazyhouse h =
    ap (variant_named depth) h.named ∙ ap (λ t. cond t (Some Crazyhouse) None) (le-leb depth 3 (h.shallow refl))
variant_named-again depth line Bughouse h = absurd (h.one_board refl)
variant_named-again depth line (Fischer n) h = sym (named_array depth line n h.numbered h.named)

-- ---- the other lines

ok_is : (r : Result Move Rejection) (m : Move) → result_ok r ≡ Some m → r ≡ Ok m
ok_is (Ok x) m e = ap Ok (same_Some x m e)
ok_is (Err x) m e = absurd (let bad : None ≡ Some m = e in cc)

word_played-sound : (game : BotGame) (line : List ℕ) (w : MoveWord) (m : Move) → reading line ≡ Some w
    → word_played game w ≡ Some m → IsNextMove game line m
word_played-sound game line w m read e =
    let p = bot_position game in
    elim (is_over game)
    as (λ t. is_over game ≡ t → cond t None (result_ok (word_answer p w)) ≡ Some m → IsNextMove game line m) [
      | true ↦ λ over got. absurd (let bad : None ≡ Some m = got in cc)
      | false ↦ λ goes got.
          let both = or_parts (is_end (result p)) (nat_le 1200 (length game.moves)) goes in
          record {
            word = w;
            reads = reading-sound line w read;
            answers =
                subst (λ (r : Result Move Rejection). MatchResult r (IsAnswer p w) (IsRefusal p w))
                (ok_is (word_answer p w) m got) (word_answer-holds p w);
            goes_on = both.0;
            few = leb-false 1200 (length game.moves) both.1;
          }
    ] refl e

move_named-sound : (game : BotGame) (line : List ℕ) (m : Move) → move_named game line ≡ Some m → IsNextMove game line m
unfolding move_named
move_named-sound game line m e =
    elim (reading line)
    as (λ t. reading line ≡ t → option_and_then (word_played game) t ≡ Some m → IsNextMove game line m) [
      | None ↦ λ read got. absurd (let bad : None ≡ Some m = got in cc)
      | Some w ↦ λ read got. word_played-sound game line w m read got
    ] refl e

move_named-again : (game : BotGame) (line : List ℕ) (m : Move) → IsNextMove game line m → move_named game line ≡ Some m
unfolding move_named
move_named-again game line m h =
    let p = bot_position game in
    let goes : is_over game ≡ false =
    ap (λ t. t || nat_le 1200 (length game.moves)) h.goes_on ∙ lt-leb 1200 (length game.moves) h.few in
    ap (option_and_then (word_played game)) (reading-again line h.word h.reads)
    ∙ ap (λ t. cond t None (result_ok (word_answer p h.word))) goes
    ∙ ap result_ok (sym (word_answer-is p h.word (Ok m) h.answers))

-- ---- all lines

module _ (depth : ℕ) where
  -- the answers of a line that isn't empty
  silent_after : BotGame → Option Move → Option (BotState × List ℕ)
  silent_after game t = option_map (λ m. silent (with_move game m)) t

  silent_first : Option Variant → Option (BotState × List ℕ)
  silent_first t = option_map (λ v. silent (new_game v)) t

  -- good lines behind a game
  record GoesOn (game : BotGame) (lines : List (List ℕ)) (state : BotState) : Type 0 where
    moves : List Move
    follow : Follow game lines moves
    is : state ≡ Some (record { variant = game.variant; moves = game.moves ++ moves })

  goes_on : (n : ℕ) (game : BotGame) (lines : List (List ℕ)) → first_bad (bot_lines depth) n (Some game) lines ≡ None
      → GoesOn game (filter is_written lines) (state_after (bot_lines depth) (Some game) lines)
  unfolding silent_after
  goes_on n game [] good =
      record {
        moves = [];
        follow = tt;
        is = ap (λ l. Some (record { variant = game.variant; moves = l })) (sym (append-nil game.moves));
      }
  goes_on n game ([] ∷ lines) good = goes_on (n + 1) game lines good
  goes_on n game ((b ∷ bytes) ∷ lines) good =
      let line = b ∷ bytes in
      let behind = λ (p : BotState × List ℕ). state_after (bot_lines depth) p.0 lines in
      let bad = λ (p : BotState × List ℕ). first_bad (bot_lines depth) (n + 1) p.0 lines in
      elim (nat_lt 1023 (length line))
      as (λ t. option_map_or bad (cond t None (silent_after game (move_named game line))) (Some n) ≡ None
      → GoesOn game (line ∷ filter is_written lines)
      (option_map_or behind (cond t None (silent_after game (move_named game line))) (Some game))) [
        | true ↦ λ e. absurd (let none : Some n ≡ None = e in cc)
        | false ↦ λ e.
            elim (move_named game line)
            as (λ u. move_named game line ≡ u → option_map_or bad (silent_after game u) (Some n) ≡ None
            → GoesOn game (line ∷ filter is_written lines) (option_map_or behind (silent_after game u) (Some game))) [
              | None ↦ λ is f. absurd (let none : Some n ≡ None = f in cc)
              | Some m ↦ λ is f.
                  let rest = goes_on (n + 1) (with_move game m) lines f in
                  record {
                    moves = m ∷ rest.moves;
                    follow = (move_named-sound game line m is, rest.follow);
                    is =
                        rest.is
                        ∙ ap (λ l. Some (record { variant = game.variant; moves = l }))
                        (append_assoc game.moves (m ∷ []) rest.moves);
                  }
            ] refl e
      ] good

  give : (n : ℕ) (lines : List (List ℕ)) → first_bad (bot_lines depth) n None lines ≡ None
      → Give depth (filter is_written lines) (state_after (bot_lines depth) None lines)
  unfolding silent_first
  give n [] good = refl
  give n ([] ∷ lines) good = give (n + 1) lines good
  give n ((b ∷ bytes) ∷ lines) good =
      let line = b ∷ bytes in
      let behind = λ (p : BotState × List ℕ). state_after (bot_lines depth) p.0 lines in
      let bad = λ (p : BotState × List ℕ). first_bad (bot_lines depth) (n + 1) p.0 lines in
      elim (nat_lt 1023 (length line))
      as (λ t. option_map_or bad (cond t None (silent_first (variant_named depth line))) (Some n) ≡ None
      → Give depth (line ∷ filter is_written lines)
      (option_map_or behind (cond t None (silent_first (variant_named depth line))) None)) [
        | true ↦ λ e. absurd (let none : Some n ≡ None = e in cc)
        | false ↦ λ e.
            elim (variant_named depth line)
            as (λ u. variant_named depth line ≡ u → option_map_or bad (silent_first u) (Some n) ≡ None
            → Give depth (line ∷ filter is_written lines) (option_map_or behind (silent_first u) None)) [
              | None ↦ λ is f. absurd (let none : Some n ≡ None = f in cc)
              | Some v ↦ λ is f.
                  let rest = goes_on (n + 1) (new_game v) lines f in (
                    record { variant = v; moves = rest.moves },
                    rest.is,
                    variant_named-sound depth line v is,
                    rest.follow,
                  )
            ] refl e
      ] good

  -- no line has more than 1,023 bytes
  AreShort : List (List ℕ) → Type 0
  AreShort lines = All (λ line. length line ≤ 1023) lines

  later : (line : List ℕ) (lines : List (List ℕ)) → AreShort (line ∷ lines) → AreShort lines
  unfolding AreShort
  later line lines h = λ k d within. h (suc k) d (omega arith)

  short : (line : List ℕ) (lines : List (List ℕ)) → AreShort (line ∷ lines) → nat_lt 1023 (length line) ≡ false
  unfolding AreShort
  short line lines h = le-ltb 1023 (length line) (h 0 line (omega arith))

  line_answer-short : (s : BotState) (b : ℕ) (bytes : List ℕ) (lines : List (List ℕ)) → AreShort ((b ∷ bytes) ∷ lines)
      → line_answer (bot_lines depth) s (b ∷ bytes) ≡ answer_line depth s (b ∷ bytes)
  line_answer-short s b bytes lines h =
      ap (λ t. cond t None (answer_line depth s (b ∷ bytes))) (short (b ∷ bytes) lines h)

  -- lines that give these half-moves are good
  record AreGood (n : ℕ) (s : BotState) (lines : List (List ℕ)) (state : BotState) : Type 0 where
    good : first_bad (bot_lines depth) n s lines ≡ None
    is : state_after (bot_lines depth) s lines ≡ state

  by_answer : (n : ℕ) (s : BotState) (line : List ℕ) (lines : List (List ℕ)) (game : BotGame) (state : BotState)
      → line_answer (bot_lines depth) s line ≡ Some (silent game) → AreGood (n + 1) (Some game) lines state
      → AreGood n s (line ∷ lines) state
  by_answer n s line lines game state e rest = record {
    good =
        ap (λ t. option_map_or (λ (p : BotState × List ℕ). first_bad (bot_lines depth) (n + 1) p.0 lines) t (Some n)) e
        ∙ rest.good;
    is = ap (λ t. option_map_or (λ (p : BotState × List ℕ). state_after (bot_lines depth) p.0 lines) t s) e ∙ rest.is;
  }

  follow_good : (n : ℕ) (game : BotGame) (lines : List (List ℕ)) (moves : List Move) → AreShort lines
      → Follow game (filter is_written lines) moves
      → AreGood n (Some game) lines (Some (record { variant = game.variant; moves = game.moves ++ moves }))
  follow_good n game [] [] few h =
      record {
        good = refl;
        is = ap (λ l. Some (record { variant = game.variant; moves = l })) (sym (append-nil game.moves));
      }
  follow_good n game [] (m ∷ moves) few h = absurd h
  follow_good n game ([] ∷ lines) moves few h =
      let rest = follow_good (n + 1) game lines moves (later [] lines few) h in
      record { good = rest.good; is = rest.is }
  follow_good n game ((b ∷ bytes) ∷ lines) [] few h = absurd h
  follow_good n game ((b ∷ bytes) ∷ lines) (m ∷ moves) few h =
      let line = b ∷ bytes in
      let rest = follow_good (n + 1) (with_move game m) lines moves (later line lines few) h.1 in
      let all : (game.moves ++ m ∷ []) ++ moves ≡ game.moves ++ m ∷ moves = append_assoc game.moves (m ∷ []) moves in
      by_answer n (Some game) line lines (with_move game m) (Some (record {
        variant = game.variant;
        moves = game.moves ++ m ∷ moves;
      }))
      (line_answer-short (Some game) b bytes lines few
      ∙ ap (option_map (λ x. silent (with_move game x))) (move_named-again game line m h.0))
      (record { good = rest.good; is = rest.is ∙ ap (λ l. Some (record { variant = game.variant; moves = l })) all })

  give_good : (n : ℕ) (lines : List (List ℕ)) (state : BotState) → AreShort lines
      → Give depth (filter is_written lines) state → AreGood n None lines state
  give_good n [] state few h = record { good = refl; is = sym h }
  give_good n ([] ∷ lines) state few h =
      let rest = give_good (n + 1) lines state (later [] lines few) h in
      record { good = rest.good; is = rest.is }
  give_good n ((b ∷ bytes) ∷ lines) state few h =
      let line = b ∷ bytes in
      let game = h.0 in
      let rest = follow_good (n + 1) (new_game game.variant) lines game.moves (later line lines few) h.3 in
      by_answer n None line lines (new_game game.variant) state
      (line_answer-short None b bytes lines few
      ∙ ap (option_map (λ v. silent (new_game v))) (variant_named-again depth line game.variant h.2))
      (record { good = rest.good; is = rest.is ∙ sym h.1 })

  pub Give-given : (lines : List (List ℕ)) → first_bad (bot_lines depth) 1 None lines ≡ None
      → Give depth (filter is_written lines) (state_after (bot_lines depth) None lines)
  Give-given lines good = give 1 lines good

  pub Give-good : (lines : List (List ℕ)) (state : BotState) → All (λ line. length line ≤ 1023) lines
      → Give depth (filter is_written lines) state → first_bad (bot_lines depth) 1 None lines ≡ None
  unfolding AreShort
  Give-good lines state few h = (give_good 1 lines state few h).good

  pub Give-state : (lines : List (List ℕ)) (state : BotState) → All (λ line. length line ≤ 1023) lines
      → Give depth (filter is_written lines) state → state_after (bot_lines depth) None lines ≡ state
  unfolding AreShort
  Give-state lines state few h = (give_good 1 lines state few h).is
