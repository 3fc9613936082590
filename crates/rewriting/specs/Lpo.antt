-- The lexicographic path order: a symbol's number is its precedence.
use Rattle.std.specs.Prelude.{◌≡◌, ◌⊎◌, ℕ, ◌<◌}
use Rattle.terms.specs.Term.{Term, Terms, var, app, nil, ◌▹◌, width}

mutual
  pub data Lpo : Term → Term → Type 0 where
    by_arg : {f : ℕ} {ss : Terms} {t : Term} → LpoSome ss t → Lpo (app f ss) t
    by_head : {f g : ℕ} {ss ts : Terms} → g < f → LpoAll (app f ss) ts → Lpo (app f ss) (app g ts)
    by_lex : {f : ℕ} {ss ts : Terms} → LpoAll (app f ss) ts → LpoLex ss ts → Lpo (app f ss) (app f ts)

  -- one of the terms equals t or is above it
  pub data LpoSome : Terms → Term → Type 0 where
    equal : {t : Term} {ss : Terms} → LpoSome (t ▹ ss) t
    above : {s t : Term} {ss : Terms} → Lpo s t → LpoSome (s ▹ ss) t
    next : {s t : Term} {ss : Terms} → LpoSome ss t → LpoSome (s ▹ ss) t

  -- s is above each of the terms
  pub data LpoAll : Term → Terms → Type 0 where
    none : {s : Term} → LpoAll s nil
    and : {s t : Term} {ts : Terms} → Lpo s t → LpoAll s ts → LpoAll s (t ▹ ts)

  -- the first arguments that differ are so related
  pub data LpoLex : Terms → Terms → Type 0 where
    lex_here : {s t : Term} {ss ts : Terms} → Lpo s t → width ss ≡ width ts → LpoLex (s ▹ ss) (t ▹ ts)
    lex_next : {s : Term} {ss ts : Terms} → LpoLex ss ts → LpoLex (s ▹ ss) (s ▹ ts)

-- the heads, and the arguments of equal heads
abbrev pub HeadsAbove : Term → Term → Type 0
HeadsAbove (var x) t = ⊥
HeadsAbove (app f ss) (var y) = ⊥
HeadsAbove (app f ss) (app g ts) = (g < f) ⊎ ((f ≡ g) × LpoLex ss ts)
