-- The arguments of a term, and one subterm replaced.
use Rattle.std.specs.Prelude.{ℕ}
use Rattle.terms.specs.Term.{Term, Terms, var, app, nil, ◌▹◌}

abbrev pub args : Term → Terms
args (var x) = nil
args (app f ts) = ts

-- us is ts with t for s in one argument place
pub data Arg : Term → Term → Terms → Terms → Type 0 where
  first : {s t : Term} {ts : Terms} → Arg s t (s ▹ ts) (t ▹ ts)
  later : {s t u : Term} {ts us : Terms} → Arg s t ts us → Arg s t (u ▹ ts) (u ▹ us)

-- t is s with r for q at one occurrence of q
pub data Put (q r : Term) : Term → Term → Type 0 where
  here : Put q r q r
  under : {s t : Term} (f : ℕ) {ts us : Terms} → Put q r s t → Arg s t ts us → Put q r (app f ts) (app f us)
