-- The text of a signature, and what reading a text gives.
use Rattle.std.specs.Prelude.{◌≡◌, ℕ, suc, ◌<◌, ◌≤◌, true, ◌⊎◌, List, [], ◌∷◌, ◌++◌, map, length, Ok, Err, decimal, Result, ◌≢◌}
use Rattle.std.specs.List.{flat_map, AllByRecursion}
use Rattle.refusal.specs.declared.Refusal.{Refusal}
use Rattle.refusal.specs.declared.Refusal.TheVariants.{SignatureLine}
use Rattle.signature.specs.Words.{is_word}
use Rattle.signature.specs.Lines.{Apart}

-- what a line says of its symbol
pub record Line : Type 0 where
  pub name : List ℕ
  pub arity : ℕ
  pub weight : ℕ

-- a name, a tab, an arity, a tab, a weight and a line feed
abbrev pub text_of : Line → List ℕ
text_of l = l.name ++ (9 ∷ (decimal l.arity ++ (9 ∷ (decimal l.weight ++ (10 ∷ [])))))

pub record WellFormed (l : Line) : Type 0 where
  pub word : is_word l.name ≡ true
  pub short : length l.name ≤ 16
  pub arity_within : l.arity ≤ 4
  pub weight_some : 1 ≤ l.weight
  pub weight_within : l.weight ≤ 100

-- good lines: each is well formed, and no two names are equal
pub record Sound (ls : List Line) : Type 0 where
  pub each : AllByRecursion WellFormed ls
  pub apart : Apart (map (λ (l : Line). l.name) ls)

-- the text is that of 1 to 64 good lines
pub record Accepted (text : List ℕ) (ls : List Line) : Type 0 where
  pub whole : text ≡ flat_map text_of ls
  pub sound : Sound ls
  pub some : 1 ≤ length ls
  pub few : length ls ≤ 64

-- after good lines comes no further good line; the text does not just end there, unless it is empty
pub record BadLine (before : List Line) (rest : List ℕ) : Type 0 where
  pub few : length before < 64
  pub more : rest ≡ [] → before ≡ []
  pub bad : (l : Line) (after : List ℕ) → Sound (before ++ l ∷ []) → rest ≢ text_of l ++ after

pub record TooMany (before : List Line) (rest : List ℕ) : Type 0 where
  pub all : length before ≡ 64
  pub more : rest ≡ [] → ⊥

-- the refusal has the number of the line, from 1, at which the good lines end
pub record Refused (text : List ℕ) (e : Refusal) : Type 0 where
  pub before : List Line
  pub rest : List ℕ
  pub whole : text ≡ flat_map text_of before ++ rest
  pub sound : Sound before
  pub is : e ≡ SignatureLine (suc (length before))
  pub why : BadLine before rest ⊎ TooMany before rest

-- what reading a text gives: its lines, or a refusal
abbrev pub Read : List ℕ → Result (List Line) Refusal → Type 0
Read text (Ok ls) = Accepted text ls
Read text (Err e) = Refused text e

-- reading a text gives one thing only
abbrev pub ReadsOnce : Type 0
ReadsOnce = (text : List ℕ) (a b : Result (List Line) Refusal) → Read text a → Read text b → a ≡ b

-- a line's text as three fields
pub record Fields (l : Line) (name arity weight : List ℕ) : Type 0 where
  pub name_is : name ≡ l.name
  pub arity_is : arity ≡ decimal l.arity
  pub weight_is : weight ≡ decimal l.weight
