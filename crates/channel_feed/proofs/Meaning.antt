-- What the rules of channels and of name lists mean to players.
use Rattle.std.proofs.Common.{◌≡◌, ℕ, Bool, true, false, not, List, [], ◌∷◌, refl, sym, ap, ◌∙◌}
use Rattle.std.specs.Prelude.{◌==◌, ◌&&◌, ◌||◌, bytes_eq}
use Rattle.std.specs.Cmp.Lexicographic.{nat_list_eq_equiv}
use Rattle.std.proofs.lemmas.Bool.{eqb-true, eq-eqb, ne_eqb, and_from, or_left, or_right, not_from_true, not_from_false, false_from_ne_true}
use Rattle.std.proofs.lemmas.List.Folds.{list_any-append}
use Rattle.std.proofs.lemmas.Map.Views.{any-filter_same}
use Rattle.std.proofs.lemmas.Slice.Eq.{bytes_eq-Decides}
use Rattle.channel_feed.specs.declared.channels.Membership.{Membership}
use Rattle.channel_feed.specs.Channels.{is_in, is_row}
use Rattle.channel_feed.specs.NameLists.{is_listed}
use Rattle.channel_feed.specs.Laws.{Joins, Leaves, LeavesAll, NamesComeAndGo}
use Rattle.std.specs.Cmp.{first_so, second_so}

or_none : (a b : Bool) → b ≡ false → (a || (b || false)) ≡ a
or_none true b e = refl
or_none false true e = e
or_none false false e = refl

pub joins : (rows : List Membership) (who channel : ℕ) → Joins rows who channel
joins rows who channel =
    let last : Membership = record { who = who; channel = channel } in
    record {
      joined = list_any-append (is_row who channel) rows (last ∷ [])
          ∙ or_right (is_in rows who channel) (is_row who channel last || false)
          (or_left (is_row who channel last) false
          (and_from (who == who) (channel == channel) (eq-eqb who who refl) (eq-eqb channel channel refl)));
      others = λ other number differs. list_any-append (is_row other number) rows (last ∷ [])
          ∙ or_none (is_in rows other number) (is_row other number last) differs;
    }

-- the row of one isn't that of another
differs_from : (who channel other number : ℕ) (row : Membership) → ((other == who) && (number == channel)) ≡ false
    → is_row other number row ≡ true
    → is_row who channel row ≡ false
differs_from who channel other number row differs h =
    ap (λ w. (w == who) && (row.channel == channel))
    (eqb-true row.who other (first_so (row.who == other) (row.channel == number) h))
    ∙ ap (λ c. (other == who) && (c == channel))
    (eqb-true row.channel number (second_so (row.who == other) (row.channel == number) h))
    ∙ differs

pub leaves : (rows : List Membership) (who channel : ℕ) → Leaves rows who channel
leaves rows who channel = record {
  left =
      any-filter_same (is_row who channel) (λ row. not (is_row who channel row)) false
      (λ row h. not_from_true (is_row who channel row) h) rows;
  others = λ other number differs. any-filter_same (is_row other number) (λ row. not (is_row who channel row)) true
      (λ row h. not_from_false (is_row who channel row) (differs_from who channel other number row differs h)) rows;
}

pub leaves_all : (rows : List Membership) (who : ℕ) → LeavesAll rows who
leaves_all rows who = record {
  left = λ channel. any-filter_same (is_row who channel) (λ row. not (row.who == who)) false
      (λ row h. not_from_true (row.who == who) (first_so (row.who == who) (row.channel == channel) h)) rows;
  others = λ other channel differs. any-filter_same (is_row other channel) (λ row. not (row.who == who)) true
      (λ row h. not_from_false (row.who == who)
      (ap (λ w. w == who) (eqb-true row.who other (first_so (row.who == other) (row.channel == channel) h))
      ∙ ne_eqb other who differs))
      rows;
}

pub names_come_and_go : (names : List (List ℕ)) (key : List ℕ) → NamesComeAndGo names key
names_come_and_go names key = record {
  added = list_any-append (λ other. bytes_eq other key) names (key ∷ [])
      ∙ or_right (is_listed names key) (bytes_eq key key || false)
      (or_left (bytes_eq key key) false (nat_list_eq_equiv.refl key));
  added_alone = λ other differs. list_any-append (λ name. bytes_eq name other) names (key ∷ [])
      ∙ or_none (is_listed names other) (bytes_eq key other) differs;
  removed = any-filter_same (λ name. bytes_eq name key) (λ name. not (bytes_eq name key)) false
      (λ name h. not_from_true (bytes_eq name key) h) names;
  removed_alone = λ other differs. any-filter_same (λ name. bytes_eq name other) (λ name. not (bytes_eq name key)) true
      (λ name h. not_from_false (bytes_eq name key)
      (false_from_ne_true (bytes_eq name key)
      (λ same. differs (sym ((bytes_eq-Decides name other).0 h) ∙ (bytes_eq-Decides name key).0 same))))
      names;
}
