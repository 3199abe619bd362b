-- More of a link's signs, and the inputs that they make.
use Rattle.std.proofs.Common.{◌≡◌, ℕ, Bool, true, false, cond, List, [], ◌∷◌, ◌++◌, drop, filter, length, map, refl, sym, ap, ◌∙◌, append_assoc, append-nil, option_to_list}
use Rattle.std.specs.Prelude.{◌==◌}
use Rattle.std.specs.List.{onto_first}
use Rattle.std.proofs.Math.Seq.{drop-append_seam, drop-length}
use Rattle.std.proofs.lemmas.List.{map-append, append_cancel_left}
use Rattle.std.proofs.lemmas.List.Elements.{filter-append}
use Rattle.edge_traits.specs.Link.{Sign, Byte, Pause}
use Rattle.histories.specs.History.{IsPrefix}
use Rattle.line_reader.specs.declared.incoming.Incoming.{Incoming}
use Rattle.line_reader.specs.declared.telnet.Telnet.{Telnet}
use Rattle.fics_words.specs.Pieces.{but_last, is_kept, last_of, pieces}
use Rattle.line_reader.specs.Reader.{LineReading, fresh, kept_from, lines_to_come, rest_to_come}
use Rattle.line_reader.specs.Reading.{incoming_of, rest_reading}
use Rattle.line_reader.specs.Telnet.{after, data_from, is_data}
use Rattle.line_reader.proofs.LongLines.{Begins, Begins-pieces}
use Rattle.session_core.specs.declared.input.Input.{Input}
use Rattle.session_core.specs.declared.input.Input.TheVariants.{Line, Quiet}
use Rattle.link_core.specs.Arrivals.{bytes_of, inputs_behind, inputs_of, lines_behind, lines_in}

-- ---- the lines of a text begin with the lines of its beginning

front_cut : (t : Bool) (c : ℕ) (p q : List (List ℕ)) → Begins p → Begins q → IsPrefix (but_last p) (but_last q)
    → IsPrefix (but_last (cond t ([] ∷ p) (onto_first c p))) (but_last (cond t ([] ∷ q) (onto_first c q)))
front_cut t c [] q bp bq f = absurd (let bad = bp.is in cc)
front_cut t c (x ∷ xs) [] bp bq f = absurd (let bad = bq.is in cc)
front_cut true c (x ∷ xs) (y ∷ ys) bp bq f = (f.0, ap (λ (l : List (List ℕ)). [] ∷ l) f.1)
front_cut false c (x ∷ []) (y ∷ ys) bp bq f = (but_last ((c ∷ y) ∷ ys), refl)
front_cut false c (x ∷ x' ∷ xs) (y ∷ []) bp bq f = absurd (let bad = f.1 in cc)
front_cut false c (x ∷ x' ∷ xs) (y ∷ y' ∷ ys) bp bq f = (f.0, ap (onto_first c) f.1)

front_pieces : (a b : List ℕ) → IsPrefix (but_last (pieces a)) (but_last (pieces (a ++ b)))
front_pieces [] b = (but_last (pieces b), refl)
front_pieces (c ∷ a) b =
    front_cut (c == 10) c (pieces a) (pieces (a ++ b)) (Begins-pieces a) (Begins-pieces (a ++ b)) (front_pieces a b)

front_byte : (t : Bool) (c : ℕ) (u v : List ℕ) → IsPrefix u v → IsPrefix (cond t (c ∷ u) u) (cond t (c ∷ v) v)
front_byte true c u v f = (f.0, ap (λ (l : List ℕ). c ∷ l) f.1)
front_byte false c u v f = f

front_data : (telnet : Telnet) (a b : List ℕ) → IsPrefix (data_from telnet a) (data_from telnet (a ++ b))
front_data telnet [] b = (data_from telnet b, refl)
front_data telnet (c ∷ a) b =
    front_byte (is_data telnet c) c (data_from (after telnet c) a) (data_from (after telnet c) (a ++ b))
    (front_data (after telnet c) a b)

front_kept : (telnet : Telnet) (a b : List ℕ) → IsPrefix (kept_from telnet a) (kept_from telnet (a ++ b))
front_kept telnet a b =
    let f = front_data telnet a b in
    (filter is_kept f.0, sym (filter-append is_kept (data_from telnet a) f.0) ∙ ap (filter is_kept) f.1)

front_lines : (a b : List ℕ) → IsPrefix (lines_in a) (lines_in (a ++ b))
front_lines a b =
    let k = front_kept fresh.telnet a b in
    let f = front_pieces (kept_from fresh.telnet a) k.0 in (
      map incoming_of f.0,
      sym (map-append incoming_of (but_last (pieces (kept_from fresh.telnet a))) f.0)
          ∙ ap (map incoming_of) (f.1 ∙ ap (λ (l : List ℕ). but_last (pieces l)) k.1),
    )

-- and behind them stand those behind it
behind_is : (a b : List ℕ) → lines_in (a ++ b) ≡ lines_in a ++ lines_behind a b
behind_is a b =
    let f = front_lines a b in
    sym f.1
    ∙ ap (λ (l : List Incoming). lines_in a ++ l)
    (sym (drop-append_seam (lines_in a) f.0) ∙ ap (drop (length (lines_in a))) f.1)

behind_none : (a : List ℕ) → lines_behind a [] ≡ []
behind_none a = ap (λ (l : List ℕ). drop (length (lines_in a)) (lines_in l)) (append-nil a) ∙ drop-length (lines_in a)

behind_byte : (a : List ℕ) (c : ℕ) (b : List ℕ)
    → lines_behind a (c ∷ b) ≡ lines_behind a (c ∷ []) ++ lines_behind (a ++ c ∷ []) b
behind_byte a c b =
    append_cancel_left (lines_in a) (lines_behind a (c ∷ b)) (lines_behind a (c ∷ []) ++ lines_behind (a ++ c ∷ []) b)
    (sym (behind_is a (c ∷ b))
    ∙ ap lines_in (sym (append_assoc a (c ∷ []) b))
    ∙ behind_is (a ++ c ∷ []) b
    ∙ ap (λ (l : List Incoming). l ++ lines_behind (a ++ c ∷ []) b) (behind_is a (c ∷ []))
    ∙ append_assoc (lines_in a) (lines_behind a (c ∷ [])) (lines_behind (a ++ c ∷ []) b))

-- ---- inputs

inputs_bytes : (front bytes : List ℕ) → inputs_behind front (map Byte bytes) ≡ map Line (lines_behind front bytes)
inputs_bytes front [] = sym (ap (map Line) (behind_none front))
inputs_bytes front (c ∷ bytes) =
    ap (λ (l : List Input). map Line (lines_behind front (c ∷ [])) ++ l) (inputs_bytes (front ++ c ∷ []) bytes)
    ∙ sym (map-append Line (lines_behind front (c ∷ [])) (lines_behind (front ++ c ∷ []) bytes))
    ∙ ap (map Line) (sym (behind_byte front c bytes))

inputs_more : (front : List ℕ) (signs more : List Sign)
    → inputs_behind front (signs ++ more) ≡ inputs_behind front signs ++ inputs_behind (front ++ bytes_of signs) more
inputs_more front [] more = ap (λ (l : List ℕ). inputs_behind l more) (sym (append-nil front))
inputs_more front (Byte c ∷ signs) more =
    ap (λ (l : List Input). map Line (lines_behind front (c ∷ [])) ++ l)
    (inputs_more (front ++ c ∷ []) signs more
    ∙ ap (λ (l : List ℕ). inputs_behind (front ++ c ∷ []) signs ++ inputs_behind l more)
    (append_assoc front (c ∷ []) (bytes_of signs)))
    ∙ sym
    (append_assoc (map Line (lines_behind front (c ∷ []))) (inputs_behind (front ++ c ∷ []) signs)
    (inputs_behind (front ++ c ∷ bytes_of signs) more))
inputs_more front (Pause ∷ signs) more = ap (λ (l : List Input). Quiet ∷ l) (inputs_more front signs more)

pub bytes_more : (signs : List Sign) (bytes : List ℕ) → bytes_of (signs ++ map Byte bytes) ≡ bytes_of signs ++ bytes
bytes_more [] [] = refl
bytes_more [] (c ∷ bytes) = ap (λ (l : List ℕ). c ∷ l) (bytes_more [] bytes)
bytes_more (Byte c ∷ signs) bytes = ap (λ (l : List ℕ). c ∷ l) (bytes_more signs bytes)
bytes_more (Pause ∷ signs) bytes = bytes_more signs bytes

pub bytes_pause : (signs : List Sign) → bytes_of (signs ++ Pause ∷ []) ≡ bytes_of signs
bytes_pause [] = refl
bytes_pause (Byte c ∷ signs) = ap (λ (l : List ℕ). c ∷ l) (bytes_pause signs)
bytes_pause (Pause ∷ signs) = bytes_pause signs

-- without the end
inputs_open : (signs : List Sign) → inputs_of signs false ≡ inputs_behind [] signs
inputs_open signs = append-nil (inputs_behind [] signs)

pub more_open : (signs more : List Sign)
    → inputs_of (signs ++ more) false ≡ inputs_of signs false ++ inputs_behind (bytes_of signs) more
more_open signs more =
    inputs_open (signs ++ more) ∙ inputs_more [] signs more
    ∙ ap (λ (l : List Input). l ++ inputs_behind (bytes_of signs) more) (sym (inputs_open signs))

-- bytes came
pub come_bytes : (signs : List Sign) (bytes : List ℕ)
    → inputs_of (signs ++ map Byte bytes) false
    ≡ inputs_of signs false ++ map Line (lines_behind (bytes_of signs) bytes)
come_bytes signs bytes =
    more_open signs (map Byte bytes)
    ∙ ap (λ (l : List Input). inputs_of signs false ++ l) (inputs_bytes (bytes_of signs) bytes)

-- a pause came
pub come_pause : (signs : List Sign) → inputs_of (signs ++ Pause ∷ []) false ≡ inputs_of signs false ++ Quiet ∷ []
come_pause signs = more_open signs (Pause ∷ [])

-- the end came
pub come_end : (signs : List Sign)
    → inputs_of signs true ≡ inputs_of signs false ++ map Line (option_to_list (rest_to_come fresh (bytes_of signs)))
come_end signs =
    ap (λ (l : List Input). l ++ map Line (option_to_list (rest_to_come fresh (bytes_of signs))))
    (sym (inputs_open signs))

-- ---- a reader that is fed

-- what a reader gives that is fed more
pub fed_lines : (reader : LineReading) (bytes more : List ℕ)
    → lines_to_come (record reader { fed = reader.fed ++ bytes }) more ≡ lines_to_come reader (bytes ++ more)
fed_lines reader bytes more =
    ap (λ (l : List ℕ). map incoming_of (but_last (pieces (reader.line ++ kept_from reader.telnet l))))
    (append_assoc reader.fed bytes more)

pub fed_rest : (reader : LineReading) (bytes more : List ℕ)
    → rest_to_come (record reader { fed = reader.fed ++ bytes }) more ≡ rest_to_come reader (bytes ++ more)
fed_rest reader bytes more =
    ap (λ (l : List ℕ). rest_reading (last_of (pieces (reader.line ++ kept_from reader.telnet l))))
    (append_assoc reader.fed bytes more)

-- the lines that it then has are those that the bytes end
pub behind_reader : (front bytes : List ℕ) (given : List Incoming) (reader : LineReading)
    → ((more : List ℕ) → lines_in (front ++ more) ≡ given ++ lines_to_come reader more) → lines_to_come reader [] ≡ []
    → lines_behind front bytes ≡ lines_to_come (record reader { fed = reader.fed ++ bytes }) []
behind_reader front bytes given reader along drained =
    let before : lines_in front ≡ given =
    ap lines_in (sym (append-nil front)) ∙ along [] ∙ ap (λ (l : List Incoming). given ++ l) drained
    ∙ append-nil given in
    append_cancel_left given (lines_behind front bytes) (lines_to_come (record reader { fed = reader.fed ++ bytes }) [])
    (ap (λ (l : List Incoming). l ++ lines_behind front bytes) (sym before)
    ∙ sym (behind_is front bytes)
    ∙ along bytes
    ∙ ap (λ (l : List Incoming). given ++ l)
    (ap (lines_to_come reader) (sym (append-nil bytes)) ∙ sym (fed_lines reader bytes [])))
