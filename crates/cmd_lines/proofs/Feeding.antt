-- The steps of the machine, over plain texts: what a byte, a line feed and the end of the input do.
use Rattle.std.proofs.Common.{◌≡◌, ℕ, ◌+◌, ◌<◌, ◌≤◌, zero, suc, true, false, List, [], ◌∷◌, ◌++◌, length, take, drop, get_or, refl, sym, ap, subst, ◌∙◌, append_assoc, arith, Ok, Err, inl, inr, length-append, take-append-drop}
use Rattle.std.specs.Prelude.{◌⊎◌, ◌==◌, nat_le, Result}
use Rattle.std.proofs.lemmas.Bool.{leb-true, leb-false}
use Rattle.std.proofs.lemmas.List.{take_all, length-take-le}
use Rattle.std.proofs.Math.Seq.{take-suc}
use Rattle.cmd_lines.specs.Handling.{Reaching, IsOutsideAt, HasBadLine, AreLinesOfRun, AfterAnswering, bad_line}
use Rattle.cmd_lines.specs.Feeding.{AfterFeeding}
use Rattle.fics_words.specs.Pieces.{is_kept, but_last, last_of}
use Rattle.cmd_lines.specs.Lines.{last_line, lines_of, whole_lines}
use Rattle.cmd_lines.specs.MachineFeeding.{line_feeding}
use Rattle.cmd_lines.specs.HandlerStanding.{HandlerStanding}
use Rattle.cmd_lines.specs.Progress.{Progress, IsLineAnswered, AfterLine, AfterFeed, AfterStop, OnBadLine}
use Rattle.cmd_lines.specs.declared.stop.Stop.{Stop}
use Rattle.cmd_lines.specs.declared.stop.Stop.TheVariants.{BadLine, Memory}
use Rattle.cmd_lines.proofs.Pieces.{lines_of-dropped, lines_of-split, whole_lines-push, last_line-push, whole_lines-feed, last_line-feed, Grows-whole_lines}

-- a prefix of a prefix
pub take-front : (n : ℕ) (xs ys : List ℕ) → take n (take n xs ++ ys) ≡ take n (xs ++ ys)
take-front zero xs ys = refl
take-front (suc n) [] ys = refl
take-front (suc n) (x ∷ xs) ys = ap (λ l. x ∷ l) (take-front n xs ys)

short_or_long : (n : ℕ) → (n ≤ 1023) ⊎ (1023 < n)
short_or_long n =
    elim (nat_le n 1023) as (λ t. nat_le n 1023 ≡ t → (n ≤ 1023) ⊎ (1023 < n)) [
      | true ↦ λ e. inl (leb-true n 1023 e)
      | false ↦ λ e. inr (leb-false n 1023 e)
    ] refl

-- a line of which at most 1,023 bytes were kept is kept whole
pub kept_whole : (kept line : List ℕ) → kept ≡ take 1024 line → length kept ≤ 1023 → line ≡ kept
kept_whole kept line e few =
    elim (short_or_long (length line)) [
      | inl short ↦ sym (e ∙ take_all 1024 line (omega (arith, short)))
      | inr long ↦
          let front : length (take 1024 line) ≡ 1024 = length-take-le 1024 line (omega (arith, long)) in
          absurd (omega (arith, few, front, ap length e))
    ]

-- a line of which more were kept has more
pub kept_long : (kept line : List ℕ) → kept ≡ take 1024 line → 1023 < length kept → 1023 < length line
kept_long kept line e many =
    elim (short_or_long (length line)) [
      | inl short ↦ subst (λ (l : List ℕ). 1023 < length l) (e ∙ take_all 1024 line (omega (arith, short))) many
      | inr long ↦ long
    ]

-- a line that is too long is outside the grammar
pub IsOutsideAt-long : {S : Type 0} (reached : Reaching S) → AreLinesOfRun reached → (old : S) (line : List ℕ)
    → 1023 < length line → IsOutsideAt reached old line
IsOutsideAt-long reached laws old line long lines due p s after h =
    absurd (omega (arith, long, laws.short lines line s after h))

-- the machine before the first byte, and after each
module _ {S : Type 0} (reached : Reaching S) where
  -- before the first byte
  pub Progress-start : (handler : S) → reached [] handler []
      → Progress reached [] (record { handler = handler; number = 1; kept = [] }) []
  Progress-start handler start = record { kept = refl; good = start; number = omega arith; count = omega arith }

  Progress-same : (taken : List ℕ) (b : ℕ) (standing : HandlerStanding S) (kept written : List ℕ)
      → whole_lines (taken ++ b ∷ []) ≡ whole_lines taken
      → kept ≡ take 1024 (last_line (taken ++ b ∷ [])) → Progress reached taken standing written
      → Progress reached (taken ++ b ∷ []) (record standing { kept = kept }) written
  Progress-same taken b standing kept written same last p =
      record {
        kept = last;
        good = subst (λ (lines : List (List ℕ)). reached lines standing.handler written) (sym same) p.good;
        number = p.number ∙ ap (λ lines. length lines + 1) (sym same);
        count = omega (arith, p.count, length-append taken (b ∷ []));
      }

  -- a byte that no line has
  pub Progress-dropped : (taken : List ℕ) (b : ℕ) (standing : HandlerStanding S) (written : List ℕ) → is_kept b ≡ false
      → Progress reached taken standing written → Progress reached (taken ++ b ∷ []) standing written
  Progress-dropped taken b standing written e p =
      let same = lines_of-dropped taken b e in
      Progress-same taken b standing standing.kept written (ap but_last same)
      (p.kept ∙ ap (λ lines. take 1024 (last_of lines)) (sym same)) p

  -- a byte of a line
  pub Progress-push : (taken : List ℕ) (b : ℕ) (standing : HandlerStanding S) (written : List ℕ) → is_kept b ≡ true
      → (b == 10) ≡ false
      → Progress reached taken standing written
      → Progress reached (taken ++ b ∷ []) (record standing { kept = take 1024 (standing.kept ++ b ∷ []) }) written
  Progress-push taken b standing written k e p =
      Progress-same taken b standing (take 1024 (standing.kept ++ b ∷ [])) written (whole_lines-push taken b k e)
      (ap (λ l. take 1024 (l ++ b ∷ [])) p.kept ∙ take-front 1024 (last_line taken) (b ∷ [])
      ∙ ap (take 1024) (sym (last_line-push taken b k e)))
      p

  -- a line feed behind a good line
  pub Progress-feed : (taken : List ℕ) (b : ℕ) (old new : HandlerStanding S) (base out out' : List ℕ) → is_kept b ≡ true
      → (b == 10) ≡ true
      → Progress reached taken old (base ++ out) → IsLineAnswered reached old out new out'
      → Progress reached (taken ++ b ∷ []) new (base ++ out')
  Progress-feed taken b old new base out out' k e p h =
      let same = whole_lines-feed taken b k e in
      let turned = h.answer_line (last_line taken) p.kept in
      let text : (base ++ out) ++ turned.0 ≡ base ++ out' =
      append_assoc base out turned.0 ∙ ap (λ l. base ++ l) (sym turned.1) in
      let good = turned.2 (whole_lines taken) (base ++ out) p.good in
      record {
        kept = h.cleared ∙ sym (ap (take 1024) (last_line-feed taken b k e));
        good = subst (λ (lines : List (List ℕ)). reached lines new.handler (base ++ out')) (sym same)
            (subst (λ (due : List ℕ). reached (whole_lines taken ++ last_line taken ∷ []) new.handler due) text good);
        number =
            omega (arith, h.next, p.number, length-append (whole_lines taken) (last_line taken ∷ []), ap length same);
        count = omega (arith, h.next, p.count, length-append taken (b ∷ []));
      }

-- a byte of a line, kept by the machine
pub Progress-pushed : {S : Type 0} (reached : Reaching S) (taken : List ℕ) (b : ℕ) (old : HandlerStanding S)
    (handler : S) (number : ℕ) (kept kept' written : List ℕ)
    → record { handler = handler; number = number; kept = kept } ≡ old → kept' ≡ take 1024 (kept ++ b ∷ [])
    → is_kept b ≡ true → (b == 10) ≡ false
    → Progress reached taken old written
    → Progress reached (taken ++ b ∷ []) (record { handler = handler; number = number; kept = kept' }) written
Progress-pushed {S} reached taken b old handler number kept kept' written view is k e p =
    subst (λ (l : List ℕ).
    Progress reached (taken ++ b ∷ []) (record { handler = handler; number = number; kept = l }) written)
    (sym is)
    (Progress-push reached taken b (record {
      handler = handler;
      number = number;
      kept = kept;
    }) written k e (subst (λ (s : HandlerStanding S). Progress reached taken s written) (sym view) p))

-- the end of a line, by what was kept of it
module _ {S : Type 0} (reached : Reaching S) (ending : List ℕ) (old : HandlerStanding S) (handler : S) (number : ℕ)
    (kept : List ℕ)
    (view : record { handler = handler; number = number; kept = kept } ≡ old) where
  refused : (new : HandlerStanding S) (out out' : List ℕ) (stop : Stop)
      → OnBadLine stop (out' ≡ out ++ bad_line ending number)
      → ((line : List ℕ) → kept ≡ take 1024 line → IsOutsideAt reached handler line)
      → AfterLine {A = Unit {0}} reached ending old out new out' (Err stop)
  refused new out out' BadLine told outside =
      subst (λ (s : HandlerStanding S). AfterLine {A = Unit {0}} reached ending s out new out' (Err BadLine)) view
      (told, outside)
  refused new out out' Memory told outside = tt

  -- a line that is too long
  pub AfterLine-long : AreLinesOfRun reached → 1023 < length kept
      → (new : HandlerStanding S) (out out' : List ℕ) (stop : Stop)
      → OnBadLine stop (out' ≡ out ++ bad_line ending number)
      → AfterLine {A = Unit {0}} reached ending old out new out' (Err stop)
  AfterLine-long laws long new out out' stop told =
      refused new out out' stop told (λ line e. IsOutsideAt-long reached laws handler line (kept_long kept line e long))

  -- a line whose answer was refused
  pub AfterLine-refused : length kept ≤ 1023
      → (next : S) (new : HandlerStanding S) (out turned out' : List ℕ) (stop : Stop)
      → AfterAnswering reached handler kept out next turned false
      → OnBadLine stop (out' ≡ turned ++ bad_line ending number)
      → AfterLine {A = Unit {0}} reached ending old out new out' (Err stop)
  AfterLine-refused few next new out turned out' stop answer_line told =
      refused new out out' stop
      (subst (λ (l : List ℕ). OnBadLine stop (out' ≡ l ++ bad_line ending number)) answer_line.0 told)
      (λ line e. subst (λ (l : List ℕ). IsOutsideAt reached handler l) (sym (kept_whole kept line e few)) answer_line.1)

  -- a line whose answer was made
  pub IsLineAnswered-made : length kept ≤ 1023 → (next : S) (cleared out out' : List ℕ)
      → AfterAnswering reached handler kept out next out' true → cleared ≡ []
      → IsLineAnswered reached old out (record { handler = next; number = number + 1; kept = cleared }) out'
  IsLineAnswered-made few next cleared out out' answer_line none =
      subst (λ (s : HandlerStanding S).
      IsLineAnswered reached s out (record { handler = next; number = number + 1; kept = cleared }) out')
      view (record {
        answer_line = λ line e.
            subst (λ (l : List ℕ). AfterAnswering reached handler l out next out' true)
            (sym (kept_whole kept line e few)) answer_line;
        next = refl;
        cleared = none;
      })

-- the last line that has come is outside the grammar
module _ {S : Type 0} (reached : Reaching S) (ending taken : List ℕ) (old : HandlerStanding S) (base out out' : List ℕ)
    (p : Progress reached taken old (base ++ out))
    (told : out' ≡ out ++ bad_line ending old.number)
    (outside : (line : List ℕ) → old.kept ≡ take 1024 line → IsOutsideAt reached old.handler line) where
  pub HasBadLine-last : (lines : List (List ℕ)) → lines ≡ whole_lines taken ++ last_line taken ∷ []
      → HasBadLine reached ending lines (base ++ out')
  HasBadLine-last lines is = record {
    before = whole_lines taken;
    line = last_line taken;
    rest = [];
    stands = old.handler;
    text = base ++ out;
    parts = is;
    good = p.good;
    bad = outside (last_line taken) p.kept (whole_lines taken) (base ++ out) p.good;
    told =
        ap (λ l. base ++ l) told ∙ sym (append_assoc base out (bad_line ending old.number))
        ∙ ap (λ n. (base ++ out) ++ bad_line ending n) p.number;
  }

-- a line outside the grammar stays where it is, whatever lines follow
pub HasBadLine-more : {S : Type 0} (reached : Reaching S) (ending : List ℕ) (lines more : List (List ℕ)) (due : List ℕ)
    → HasBadLine reached ending lines due → HasBadLine reached ending (lines ++ more) due
HasBadLine-more reached ending lines more due h = record {
  before = h.before;
  line = h.line;
  rest = h.rest ++ more;
  stands = h.stands;
  text = h.text;
  parts = ap (λ l. l ++ more) h.parts ∙ append_assoc h.before (h.line ∷ h.rest) more;
  good = h.good;
  bad = h.bad;
  told = h.told;
}

-- the machine after a line feed
pub AfterFeed-line : {S A : Type 0} (reached : Reaching S) (ending taken : List ℕ) (b : ℕ) (old new : HandlerStanding S)
    (base out out' : List ℕ) (r : Result A Stop)
    → is_kept b ≡ true → (b == 10) ≡ true → Progress reached taken old (base ++ out)
    → AfterLine reached ending old out new out' r
    → AfterFeed reached ending (taken ++ b ∷ []) new (base ++ out') r
AfterFeed-line reached ending taken b old new base out out' (Ok u) k e p h =
    Progress-feed reached taken b old new base out out' k e p h
AfterFeed-line reached ending taken b old new base out out' (Err BadLine) k e p h =
    HasBadLine-last reached ending taken old base out out' p h.0 h.1 (whole_lines (taken ++ b ∷ []))
    (whole_lines-feed taken b k e)
AfterFeed-line reached ending taken b old new base out out' (Err Memory) k e p h = tt

-- the machine after the input's end, which ends the last line
pub AfterFeeding-last : {S A : Type 0} (reached : Reaching S) (closed : S → S → Type 0) (ending taken : List ℕ)
    (old new : HandlerStanding S) (base out out' : List ℕ) (r : Result A Stop)
    → Progress reached taken old (base ++ out) → AfterLine reached ending old out new out' r
    → AfterFeeding (line_feeding reached closed ending) true taken new (base ++ out') r
AfterFeeding-last reached closed ending taken old new base out out' (Ok u) p h =
    let turned = h.answer_line (last_line taken) p.kept in
    let text : (base ++ out) ++ turned.0 ≡ base ++ out' =
    append_assoc base out turned.0 ∙ ap (λ l. base ++ l) (sym turned.1) in
    subst (λ (lines : List (List ℕ)). reached lines new.handler (base ++ out')) (sym (lines_of-split taken))
    (subst (λ (due : List ℕ). reached (whole_lines taken ++ last_line taken ∷ []) new.handler due) text
    (turned.2 (whole_lines taken) (base ++ out) p.good))
AfterFeeding-last reached closed ending taken old new base out out' (Err BadLine) p h =
    HasBadLine-last reached ending taken old base out out' p h.0 h.1 (lines_of taken) (lines_of-split taken)
AfterFeeding-last reached closed ending taken old new base out out' (Err Memory) p h = tt

-- a stop in mid-piece holds of the whole piece
pub AfterStop-more : {S : Type 0} (reached : Reaching S) (ending taken more whole written : List ℕ) (stop : Stop)
    → taken ++ more ≡ whole
    → AfterStop reached ending taken written stop → AfterStop reached ending whole written stop
AfterStop-more reached ending taken more whole written BadLine is bad =
    let grown = Grows-whole_lines taken more in
    subst (λ (lines : List (List ℕ)). HasBadLine reached ending lines written) (sym grown.is ∙ ap whole_lines is)
    (HasBadLine-more reached ending (whole_lines taken) grown.more written bad)
AfterStop-more reached ending taken more whole written Memory is h = tt

-- a piece up to its byte i, and behind it
pub front_at : (taken piece : List ℕ) (i : ℕ) → i < length piece
    → (taken ++ take i piece) ++ get_or piece i 0 ∷ [] ≡ taken ++ take (suc i) piece
front_at taken piece i within =
    append_assoc taken (take i piece) (get_or piece i 0 ∷ []) ∙ ap (λ l. taken ++ l) (sym (take-suc piece i 0 within))

pub whole_at : (taken piece : List ℕ) (i : ℕ) → i < length piece
    → ((taken ++ take i piece) ++ get_or piece i 0 ∷ []) ++ drop (suc i) piece ≡ taken ++ piece
whole_at taken piece i within =
    ap (λ l. l ++ drop (suc i) piece) (front_at taken piece i within)
    ∙ append_assoc taken (take (suc i) piece) (drop (suc i) piece)
    ∙ ap (λ l. taken ++ l) (take-append-drop (suc i) piece)
