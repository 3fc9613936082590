-- The first arguments of two subterms that differ.
use Rattle.std.specs.Prelude.{ℕ, ◌<◌, length}
use Rattle.rewriting.specs.Kbo.{Kbo, KboLex}
use Rattle.rewriting.specs.Replace.{args}
use Rattle.subterms.specs.Places.{at}
use Rattle.subterms.specs.Rows.{row_of}
use Rattle.subterms.specs.declared.Subterms.{Subterms}

-- the subterms at i and j decide what the arguments of those at p and q say
pub record First (s : Subterms) (p : ℕ) (t : Subterms) (q i j : ℕ) : Type 0 where
  pub under : p < i
  pub inside : i < length (row_of s)
  pub inside' : j < length (row_of t)
  pub down : (w : ℕ → ℕ) → KboLex w (args (at (row_of s) p)) (args (at (row_of t) q)) → Kbo w (at (row_of s) i) (at (row_of t) j)
  pub up : (w : ℕ → ℕ) → Kbo w (at (row_of s) i) (at (row_of t) j) → KboLex w (args (at (row_of s) p)) (args (at (row_of t) q))
