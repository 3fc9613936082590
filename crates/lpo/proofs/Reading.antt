-- What is seen of a table's pairs.
use Rattle.std.proofs.Common.{◌≡◌, ℕ, ◌+◌, ◌*◌, ◌<◌, ◌≤◌, [], length, get_or, set, replicate, ◌⊎◌, inl, inr, ⊎_elim, ap, ◌∙◌, arith}
use Rattle.std.proofs.lemmas.List.{get_or-set_same, get_or-set_other, get_or-replicate, length-replicate}
use Rattle.std.proofs.lemmas.Bool.{cases_eq}
use Rattle.subterms.specs.Places.{at}
use Rattle.subterms.proofs.Patterns.{pattern_short}
use Rattle.lpo.specs.Seen.{Says, Seen, up, low}
use Rattle.lpo.specs.declared.sides.Compared.{Compared}
use Rattle.lpo.specs.declared.sides.Compared.TheVariants.{Neither}
use Rattle.lpo.specs.declared.sides.Sides.{Sides}

-- one more pair is seen
pub seen_more : (b : Sides) (p q : ℕ) (v : Compared) → p < length (up b) → q < length (low b) → Seen b (32 * p + q + 1) → Says v (at (up b) p) (at (low b) q) → (i j : ℕ) → i < length (up b) → j < length (low b) → 32 * p + q ≤ 32 * i + j → Says (get_or (get_or (set b.seen.rows p (set (get_or b.seen.rows p []) q v)) i []) j Neither) (at (up b) i) (at (low b) j)
seen_more b p q v hp hq later says i j hi hj l = ⊎_elim row other (cases_eq i p)
  where
    row : i ≡ p → Says (get_or (get_or (set b.seen.rows p (set (get_or b.seen.rows p []) q v)) i []) j Neither) (at (up b) i) (at (low b) j)
    row e =
        let inside : p < length b.seen.rows = omega (arith, b.seen.room, pattern_short b.upper.now.pattern, hp) in
        rw (e, get_or-set_same b.seen.rows p (set (get_or b.seen.rows p []) q v) [] inside) (cell (cases_eq j q))
      where
        cell : (j ≡ q) ⊎ (j ≡ q → ⊥) → Says (get_or (set (get_or b.seen.rows p []) q v) j Neither) (at (up b) p) (at (low b) j)
        cell (inl f) =
            let room : q < length (get_or b.seen.rows p []) = omega (arith, b.seen.wide p (omega (arith, pattern_short b.upper.now.pattern, hp)), pattern_short b.lower.now.pattern, hq) in
            rw (f, get_or-set_same (get_or b.seen.rows p []) q v Neither room) says
        cell (inr n) = rw (get_or-set_other (get_or b.seen.rows p []) q j v Neither n) (later p j hp hj (omega arith))

    other : (i ≡ p → ⊥) → Says (get_or (get_or (set b.seen.rows p (set (get_or b.seen.rows p []) q v)) i []) j Neither) (at (up b) i) (at (low b) j)
    other n = rw (get_or-set_other b.seen.rows p i (set (get_or b.seen.rows p []) q v) [] n) (later i j hi hj (let short = pattern_short b.lower.now.pattern in omega (arith, short)))

-- a table of nothing has rows of one length
pub empty_rows : (i : ℕ) → i < 32 → length (get_or (replicate 32 (replicate 32 Neither)) i []) ≡ 32
empty_rows i h = ap length (get_or-replicate 32 i (replicate 32 Neither) [] h) ∙ length-replicate 32 Neither
