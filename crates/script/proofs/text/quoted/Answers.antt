use Rattle.std.proofs.Common.{rules, ◌≡◌, ℕ, ◌-◌, length, take, drop, arith}
use Rattle.std.proofs.lemmas.Result.{MatchResult-weaker}
use Rattle.script.proofs.Quoting.{between, quoted_long, quoted_first, quoted_last, quoted_inner}
use Rattle.script.proofs.text.quoted.Goals as goal

pub returns-in-34 : goal.returns-in-34
returns-in-34 c =
    let t = c.args.text.now in
    let inner = take (length t - 1 - 1) (drop 1 t) in
    let whole = between t c.in-34.len_at_least (search rules) (search rules) in
    MatchResult-weaker c.unescape.result c.unescape.ensures.stands
    (λ v h. record { inner = inner; whole = whole; stands = h })
    (λ e h m bytes q. let z : ◌≡◌ {A = ℕ} 0 1 = cc (h m, q.stands, quoted_inner t bytes q inner whole) in omega arith)

pub returns-in_default : goal.returns-in_default
returns-in_default c m bytes q =
    let t = c.args.text.now in
    let b = c.in_default.branch in
    let long = quoted_long t bytes q in
    let first = quoted_first t bytes q in
    let last = quoted_last t bytes q in
    absurd (grind arith)
