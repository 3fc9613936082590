-- A text between double quotes, with its escapes.
use Rattle.std.specs.Prelude.{◌≡◌, ℕ, ◌+◌, ◌-◌, ◌*◌, ◌/◌, ◌%◌, ◌<◌, Bool, cond, ◌||◌, List, [], ◌∷◌, ◌++◌, Some, None, Option, ◌==◌, ◌≢◌, nat_lt}
use Rattle.std.specs.Int.{is_in_range}
use Rattle.std.specs.List.{flat_map, AllByRecursion}

-- the letters of \n, \t, \r, \\ and \"
abbrev pub short : ℕ → Option ℕ
short c =
    cond (c == 110) (Some 10) (cond (c == 116) (Some 9) (cond (c == 114) (Some 13) (cond (c == 92) (Some 92) (cond (c == 34) (Some 34) None))))

-- '0' to '9', 'a' to 'f', 'A' to 'F'
abbrev pub hex_digit : ℕ → Option ℕ
hex_digit c = cond (is_in_range 48 57 c) (Some (c - 48)) (cond (is_in_range 97 102 c) (Some (c - 87)) (cond (is_in_range 65 70 c) (Some (c - 55)) None))

abbrev pub pair : Option ℕ → Option ℕ → Option ℕ
pair None l = None
pair (Some h) None = None
pair (Some h) (Some l) = Some (16 * h + l)

abbrev pub onto : Option ℕ → Option (List ℕ) → Option (List ℕ)
onto None o = None
onto (Some b) None = None
onto (Some b) (Some bs) = Some (b ∷ bs)

-- a byte that cannot stand for itself: '"' or a line feed
abbrev pub barred : ℕ → Bool
barred b = b == 34 || b == 10

-- the bytes that a text with escapes stands for, if each escape is one of \n \t \r \\ \" \xHH
abbrev mutual
  pub unescaped : List ℕ → Option (List ℕ)
  unescaped [] = Some []
  unescaped (b ∷ bs) = cond (b == 92) (escaped bs) (cond (barred b) None (onto (Some b) (unescaped bs)))

  -- after a backslash
  pub escaped : List ℕ → Option (List ℕ)
  escaped [] = None
  escaped (c ∷ bs) = cond (c == 120) (coded bs) (onto (short c) (unescaped bs))

  -- after \x
  pub coded : List ℕ → Option (List ℕ)
  coded [] = None
  coded (h ∷ []) = None
  coded (h ∷ (l ∷ bs)) = onto (pair (hex_digit h) (hex_digit l)) (unescaped bs)

-- the text stands between double quotes, and for these bytes
pub record Quoted (text bytes : List ℕ) : Type 0 where
  pub inner : List ℕ
  pub whole : text ≡ 34 ∷ (inner ++ 34 ∷ [])
  pub stands : unescaped inner ≡ Some bytes

abbrev pub hex_letter : ℕ → ℕ
hex_letter d = cond (nat_lt d 10) (48 + d) (87 + d)

abbrev pub as_code : ℕ → List ℕ
as_code b = 92 ∷ (120 ∷ (hex_letter (b / 16) ∷ (hex_letter (b % 16) ∷ [])))

-- every text of bytes can be written, each byte by its code
abbrev pub CodesStand : Type 0
CodesStand = (bs : List ℕ) → AllByRecursion (λ b. b < 256) bs → unescaped (flat_map as_code bs) ≡ Some bs

-- a text without '"', '\' and line feeds stands for itself
abbrev pub PlainStand : Type 0
PlainStand = (bs : List ℕ) → AllByRecursion (λ b. (b ≢ 34) × (b ≢ 92) × (b ≢ 10)) bs → unescaped bs ≡ Some bs
