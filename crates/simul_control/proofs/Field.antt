-- The places of a player in their columns.
use Rattle.std.proofs.Common.{not, leb, get_or, eq-eqb, ◌≡◌, ℕ, ◌+◌, ◌-◌, ◌<◌, ◌≤◌, zero, suc, Bool, true, false, cond, None, Some, List, [], ◌∷◌, ◌++◌, length, map, take, replicate, refl, sym, ap, subst, ◌∙◌, arith, length-append, filter}
use Rattle.std.specs.List.{count_by}
use Rattle.std.proofs.lemmas.Bool.{lt-leb, ne_eqb}
use Rattle.std.proofs.lemmas.List.{append-nil, get_or-map, get_or_append_left, length-map, length-take-le, map-append, take-map}
use Rattle.std.proofs.lemmas.List.Elements.{All-push, filter_more}
use Rattle.std.proofs.lemmas.List.Folds.{fold-map}
use Rattle.std.proofs.lemmas.List.Sums.{length-filter, count_by-le-length}
use Rattle.fics_words.specs.Effect.{unless}
use Rattle.fics_words.specs.declared.refusal.Refusal.TheVariants.{SimulFull}
use Rattle.fics_words.specs.Desks.{IsDesk}
use Rattle.simul_control.specs.Places.{AreAtDesks, PlaceList, is_elsewhere, are_places_full, is_other, with_place}
use Rattle.std.proofs.Math.ListN.{set}
use Rattle.std.proofs.Math.Seq.{take-append_seam, set-append_seam, append_snoc}
use Rattle.simul_control.specs.PlaceFields.{column_of, placed, places_in, rows_in, HoldsPlaces, fields_of}
use Rattle.simul_control.specs.declared.place.Place.{Place}
use Rattle.simul_control.specs.declared.places.Places.TheInside.{Inside}

-- what the places have stands at the front of their column
pub take-column : (told : Place → ℕ) (rows : List Place) → take (length rows) (column_of told rows) ≡ map told rows
take-column told rows =
    ap (λ n. take n (column_of told rows)) (sym (length-map rows told))
    ∙ take-append_seam (map told rows) (replicate (32 - length rows) 0)

placed-columns : (rows : List Place)
    → placed (map (λ row. row.desk) rows) (map (λ row. row.seat) rows) (map (λ row. row.serial) rows) ≡ rows
placed-columns [] = refl
placed-columns (row ∷ rows) = ap (λ rs. row ∷ rs) (placed-columns rows)

abbrev inside_of : Bool → ℕ → List Place → Inside
inside_of giving at rows = fields_of (record { giving = giving; at = at; rows = rows })

rows_in-inside_of : (giving : Bool) (at : ℕ) (rows : List Place) → rows_in (inside_of giving at rows) ≡ rows
rows_in-inside_of giving at rows =
    ap (λ ds.
    placed ds (take (length rows) (column_of (λ row. row.seat) rows))
    (take (length rows) (column_of (λ row. row.serial) rows)))
    (take-column (λ row. row.desk) rows)
    ∙ ap (λ ss. placed (map (λ row. row.desk) rows) ss (take (length rows) (column_of (λ row. row.serial) rows)))
    (take-column (λ row. row.seat) rows)
    ∙ ap (λ ss. placed (map (λ row. row.desk) rows) (map (λ row. row.seat) rows) ss)
    (take-column (λ row. row.serial) rows)
    ∙ placed-columns rows

-- a list of places, in its columns
HoldsPlaces-inside_of : (giving : Bool) (at : ℕ) (rows : List Place) → length rows ≤ 32 → at ≤ length rows - 1
    → AreAtDesks rows
    → HoldsPlaces (inside_of giving at rows)
HoldsPlaces-inside_of giving at rows most present at_desks =
    let same = sym (rows_in-inside_of giving at rows) in
    record {
      counted = ap length same;
      desks = ap (column_of (λ place. place.desk)) same;
      seats = ap (column_of (λ place. place.seat)) same;
      serials = ap (column_of (λ place. place.serial)) same;
      most = most;
      present = present;
      at_desks = subst AreAtDesks same at_desks;
    }

abbrev blank : ℕ → List ℕ
blank n = replicate n 0

replicate-more : (n : ℕ) → n < 32 → blank (32 - n) ≡ 0 ∷ blank (32 - (n + 1))
replicate-more n h =
    let e : 32 - n ≡ suc (32 - (n + 1)) = omega arith in
    ap blank e

-- what one more has, written behind the others
set-column : (told : Place → ℕ) (rows : List Place) (place : Place) → length rows < 32
    → set (column_of told rows) (length rows) (told place) ≡ column_of told (rows ++ place ∷ [])
set-column told rows place h =
    let n = length rows in
    ap (λ zs. set (map told rows ++ zs) n (told place)) (replicate-more n h)
    ∙ ap (λ k. set (map told rows ++ 0 ∷ replicate (32 - (n + 1)) 0) k (told place)) (sym (length-map rows told))
    ∙ set-append_seam (map told rows) 0 (replicate (32 - (n + 1)) 0) (told place)
    ∙ sym (append_snoc (map told rows) (told place) (replicate (32 - (n + 1)) 0))
    ∙ ap (λ zs. zs ++ replicate (32 - (n + 1)) 0) (sym (map-append told rows (place ∷ [])))
    ∙ ap (λ k. map told (rows ++ place ∷ []) ++ replicate (32 - k) 0) (sym (length-append rows (place ∷ [])))

-- the same for a column as it stands in the field
set-held : (told : Place → ℕ) (rows : List Place) (place : Place) (count : ℕ) (column : List ℕ) → count ≡ length rows
    → length rows < 32
    → column ≡ column_of told rows → set column count (told place) ≡ column_of told (rows ++ place ∷ [])
set-held told rows place count column counted more is =
    ap (λ c. set c count (told place)) is ∙ ap (λ n. set (column_of told rows) n (told place)) counted
    ∙ set-column told rows place more

-- the field with one place more
abbrev added : Inside → Place → Inside
added p place = record {
  giving = p.giving;
  at = p.at;
  count = p.count + 1;
  desks = set p.desks p.count place.desk;
  seats = set p.seats p.count place.seat;
  serials = set p.serials p.count place.serial;
}

added-is : (p : Inside) (place : Place) → HoldsPlaces p → p.count < 32
    → inside_of p.giving p.at (rows_in p ++ place ∷ []) ≡ added p place
added-is p place h more =
    let rows = rows_in p in
    let long : length (rows ++ place ∷ []) ≡ p.count + 1 = omega (arith, length-append rows (place ∷ []), h.counted) in
    let wide : length rows < 32 = omega (arith, h.counted) in
    let desks = set-held (λ row. row.desk) rows place p.count p.desks h.counted wide h.desks in
    let seats = set-held (λ row. row.seat) rows place p.count p.seats h.counted wide h.seats in
    let serials = set-held (λ row. row.serial) rows place p.count p.serials h.counted wide h.serials in
    λ i.
    record {
      giving = p.giving;
      at = p.at;
      count = long i;
      desks = sym desks i;
      seats = sym seats i;
      serials = sym serials i;
    }

pub rows_in-add : (p : Inside) (place : Place) → HoldsPlaces p → p.count < 32
    → rows_in (added p place) ≡ rows_in p ++ place ∷ []
rows_in-add p place h more =
    ap rows_in (sym (added-is p place h more)) ∙ rows_in-inside_of p.giving p.at (rows_in p ++ place ∷ [])

pub HoldsPlaces-add : (p : Inside) (place : Place) → HoldsPlaces p → p.count < 32 → IsDesk place.desk
    → HoldsPlaces (added p place)
HoldsPlaces-add p place h more is_desk =
    let rows = rows_in p in
    let most : length (rows ++ place ∷ []) ≤ 32 = omega (arith, length-append rows (place ∷ []), h.counted) in
    let present : p.at ≤ length (rows ++ place ∷ []) - 1 =
    omega (arith, length-append rows (place ∷ []), h.counted, h.present) in
    let at_desks = All-push (λ (row : Place). IsDesk row.desk) rows place h.at_desks is_desk in
    subst HoldsPlaces (added-is p place h more)
    (HoldsPlaces-inside_of p.giving p.at (rows ++ place ∷ []) most present at_desks)

-- the same, of the places that the field tells
module _ (p : Inside) (place : Place) (now : PlaceList) (told : places_in p ≡ now) (h : HoldsPlaces p)
    (more : p.count < 32) where
  pub room-add : are_places_full now ≡ false
  room-add =
      let rows : length now.rows ≡ length (rows_in p) = ap (λ l. length l.rows) (sym told) in
      lt-leb 32 (length now.rows) (omega (arith, h.counted, rows, more))

  pub places_in-add : places_in (added p place) ≡ record now { rows = now.rows ++ place ∷ [] }
  places_in-add =
      let rows = rows_in-add p place h more in
      let one : places_in (added p place) ≡ record { giving = p.giving; at = p.at; rows = rows_in p ++ place ∷ [] } =
      λ i. record { giving = p.giving; at = p.at; rows = rows i } in
      one ∙ ap (λ l. record { giving = l.giving; at = l.at; rows = l.rows ++ place ∷ [] }) told

  pub after-add : places_in (added p place) ≡ with_place place now
  after-add =
      places_in-add
      ∙ sym
      (ap (λ b. unless (cond b (Some SimulFull) None) now (record now { rows = now.rows ++ place ∷ [] })) room-add)

-- the number of a place in its columns
get-column : (told : Place → ℕ) (rows : List Place) (column : List ℕ) (i d : ℕ) (other : Place)
    → column ≡ column_of told rows → i < length rows
    → get_or column i d ≡ told (get_or rows i other)
get-column told rows column i d other is inside =
    let wide : i < length (map told rows) = subst (λ n. i < n) (sym (length-map rows told)) inside in
    ap (λ c. get_or c i d) is
    ∙ get_or_append_left (map told rows) (replicate (32 - length rows) 0) d i wide
    ∙ get_or-map told rows i other d inside

pub get-held : (p : Inside) (i d e f : ℕ) (other : Place) → HoldsPlaces p → i < length (rows_in p)
    → record { desk = get_or p.desks i d; serial = get_or p.serials i e; seat = get_or p.seats i f }
    ≡ get_or (rows_in p) i other
get-held p i d e f other h inside =
    let desk = get-column (λ row. row.desk) (rows_in p) p.desks i d other h.desks inside in
    let serial = get-column (λ row. row.serial) (rows_in p) p.serials i e other h.serials inside in
    let seat = get-column (λ row. row.seat) (rows_in p) p.seats i f other h.seats inside in
    λ j. record { desk = desk j; serial = serial j; seat = seat j }

-- a row of another desk, among one more
pub filter_one_more : (giving : Bool) (desk : ℕ) (rows : List Place) (i : ℕ) (d place : Place) (kept new : PlaceList)
    → length rows ≤ 32 → i < length rows → place ≡ get_or rows i d → (place.desk ≡ desk → ⊥)
    → kept ≡ record { giving = giving; at = 0; rows = filter (is_elsewhere desk) (take i rows) }
    → new ≡ with_place place kept
    → new ≡ record { giving = giving; at = 0; rows = filter (is_elsewhere desk) (take (i + 1) rows) }
filter_one_more giving desk rows i d place kept new most inside read else is added =
    let p = is_elsewhere desk in
    let front = filter p (take i rows) in
    let passes : p (get_or rows i d) ≡ true = ap p (sym read) ∙ ap not (ne_eqb place.desk desk else) in
    let wide : length front < 32 =
    omega
    (arith, length-filter p (take i rows), count_by-le-length p (take i rows), length-take-le i rows (omega arith)) in
    let room : leb 32 (length front) ≡ false = lt-leb 32 (length front) wide in
    let more : filter p (take (i + 1) rows) ≡ front ++ place ∷ [] =
    filter_more p rows i d inside ∙ ap (λ b. front ++ cond b (get_or rows i d ∷ []) []) passes
    ∙ ap (λ x. front ++ x ∷ []) (sym read) in
    added ∙ ap (with_place place) is
    ∙ ap
    (λ b.
    unless (cond b (Some SimulFull) None) (record {
      giving = giving;
      at = 0;
      rows = front;
    }) (record { giving = giving; at = 0; rows = front ++ place ∷ [] }))
    room
    ∙ ap (λ rs. record { giving = giving; at = 0; rows = rs }) (sym more)

-- a row of the desk itself, among one more
pub filter_one_less : (giving : Bool) (desk : ℕ) (rows : List Place) (i : ℕ) (d place : Place) (kept : PlaceList)
    → i < length rows → place ≡ get_or rows i d → place.desk ≡ desk
    → kept ≡ record { giving = giving; at = 0; rows = filter (is_elsewhere desk) (take i rows) }
    → kept ≡ record { giving = giving; at = 0; rows = filter (is_elsewhere desk) (take (i + 1) rows) }
filter_one_less giving desk rows i d place kept inside read same is =
    let p = is_elsewhere desk in
    let front = filter p (take i rows) in
    let fails : p (get_or rows i d) ≡ false = ap p (sym read) ∙ ap not (eq-eqb place.desk desk same) in
    let more : filter p (take (i + 1) rows) ≡ front =
    filter_more p rows i d inside ∙ ap (λ b. front ++ cond b (get_or rows i d ∷ []) []) fails ∙ append-nil front in
    is ∙ ap (λ rs. record { giving = giving; at = 0; rows = rs }) (sym more)

take-front : (n : ℕ) (xs ys : List ℕ) → n ≤ length xs → take n (xs ++ ys) ≡ take n xs
take-front zero xs ys h = refl
take-front (suc n) [] ys h = absurd (omega (arith, h))
take-front (suc n) (x ∷ xs) ys h = ap (λ zs. x ∷ zs) (take-front n xs ys (omega (arith, h)))

count_by-desks : (desk : ℕ) (rows : List Place)
    → count_by (is_other desk) (map (λ row. row.desk) rows) ≡ count_by (is_elsewhere desk) rows
count_by-desks desk rows = fold-map (λ a x. a + cond (is_other desk x) 1 0) (λ row. row.desk) 0 rows

-- the places of other desks among the first ones, counted in the column of desks
pub count-column : (desk first : ℕ) (rows : List Place) (column : List ℕ) → column ≡ column_of (λ row. row.desk) rows
    → first ≤ length rows
    → count_by (is_other desk) (take first column) ≡ count_by (is_elsewhere desk) (take first rows)
count-column desk first rows column is inside =
    ap (λ c. count_by (is_other desk) (take first c)) is
    ∙ ap (count_by (is_other desk))
    (take-front first (map (λ row. row.desk) rows) (replicate (32 - length rows) 0)
    (subst (λ n. first ≤ n) (sym (length-map rows (λ row. row.desk))) inside))
    ∙ ap (count_by (is_other desk)) (take-map (λ row. row.desk) first rows)
    ∙ count_by-desks desk (take first rows)

pub desk-held : (p : Inside) (i d : ℕ) → HoldsPlaces p → i < length (rows_in p) → IsDesk (get_or p.desks i d)
desk-held p i d h inside =
    let other : Place = record { desk = 0; serial = 0; seat = 0 } in
    subst IsDesk (sym (get-column (λ row. row.desk) (rows_in p) p.desks i d other h.desks inside))
    (h.at_desks i other inside)
