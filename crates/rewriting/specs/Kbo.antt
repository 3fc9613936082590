-- The Knuth-Bendix order: a symbol's number is its precedence, w f the weight of the symbol f.
use Rattle.std.specs.Prelude.{◌≡◌, ℕ, ◌<◌}
use Rattle.terms.specs.Term.{Term, Terms, app, ◌▹◌, width}
use Rattle.rewriting.specs.Count.{Covers, weigh}

mutual
  pub data Kbo (w : ℕ → ℕ) : Term → Term → Type 0 where
    by_weight : {s t : Term} → Covers s t → weigh w t < weigh w s → Kbo w s t
    by_head : {f g : ℕ} {ss ts : Terms} → Covers (app f ss) (app g ts) → weigh w (app g ts) ≡ weigh w (app f ss) → g < f → Kbo w (app f ss) (app g ts)
    by_lex : {f : ℕ} {ss ts : Terms} → Covers (app f ss) (app f ts) → weigh w (app f ts) ≡ weigh w (app f ss) → KboLex w ss ts → Kbo w (app f ss) (app f ts)

  -- the first arguments that differ are so related
  pub data KboLex (w : ℕ → ℕ) : Terms → Terms → Type 0 where
    lex_here : {s t : Term} {ss ts : Terms} → Kbo w s t → width ss ≡ width ts → KboLex w (s ▹ ss) (t ▹ ts)
    lex_next : {s : Term} {ss ts : Terms} → KboLex w ss ts → KboLex w (s ▹ ss) (s ▹ ts)
