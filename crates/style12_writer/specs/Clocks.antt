-- The times of a style 12 line. That they are whole seconds, cut towards zero, is this server's profile.
use Rattle.std.specs.Prelude.{◌≡◌, ℕ, ◌+◌, ◌/◌, ◌%◌, ℤ, pos, negsuc, neg_ℤ, suc, List, [], ◌∷◌, ◌++◌, codes, decimal, refl}
use Rattle.std.specs.Fmt.{digits}

-- whole seconds of a time in milliseconds: 1.999 s are 1 s, and -1.999 s are -1 s
abbrev pub whole_seconds_of : ℤ → ℤ
whole_seconds_of (pos millis) = pos (millis / 1000)
whole_seconds_of (negsuc n) = neg_ℤ (pos (suc n / 1000))

-- a number below 100 in two digits
abbrev pub two_digits_of : ℕ → List ℕ
two_digits_of n = (48 + n / 10) ∷ (48 + n % 10) ∷ []

-- 'time taken to make previous move (min:sec)', the seconds in two digits
abbrev pub time_taken : ℕ → List ℕ
time_taken millis =
    codes "(" ++ decimal (millis / 1000 / 60) ++ codes ":" ++ two_digits_of (millis / 1000 % 60) ++ codes ")"

example_seconds : whole_seconds_of (pos 1999) ∷ whole_seconds_of (negsuc 998) ∷ whole_seconds_of (negsuc 1998)
    ∷ whole_seconds_of (negsuc 1999) ∷ [] ≡ pos 1 ∷ pos 0 ∷ negsuc 0 ∷ negsuc 1 ∷ []
example_seconds = refl

example_times : time_taken 0 ++ time_taken 4999 ++ time_taken 75000 ++ time_taken 3600000
    ≡ codes "(0:00)(0:04)(1:15)(60:00)"
unfolding digits
example_times = refl
