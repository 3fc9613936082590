-- The outcome of reading, at each of its ends.
use Rattle.std.proofs.Common.{◌≡◌, ℕ, List, [], length, drop, Some, None, Ok, Err, Option, Result, sym, ap, ◌∙◌, subst, MatchOption}
use Rattle.refusal.specs.declared.Refusal.{Refusal}
use Rattle.refusal.specs.declared.Refusal.TheVariants.{Symbol, Size}
use Rattle.terms.specs.Preorder.{Fits}
use Rattle.terms.specs.Patterns.{nodes_of}
use Rattle.terms.specs.declared.pattern.Node.{Node}
use Rattle.terms.specs.declared.pattern.Pattern.{Pattern}
use Rattle.signature.specs.declared.signature.Signature.{Signature}
use Rattle.lexer.specs.Tokens.{Lexeme, tokens, tokens_from}
use Rattle.grammar.specs.Syntax.{Parsed, Formula}
use Rattle.grammar.specs.Outcomes.{Checked}
use Rattle.formula.specs.Uses.{NoneMisused}
use Rattle.formula.specs.Scans.{scan}
use Rattle.formula.specs.Rows.{Row, row_of, names_in, spanned}
use Rattle.formula.specs.Roles.{role_first, sign_first}
use Rattle.formula.specs.Outcomes.{Outcome, ungrammatical, unknown, too_large, read, all_uses}
use Rattle.row.specs.Items.{items}
use Rattle.formula.specs.declared.equation.Equation.{Equation}
use Rattle.formula.specs.declared.variables.Variables.{Variables}
use Rattle.formula.proofs.Meaning.{checked_ok, parts, unknown_at, all_known, left_large, left_row, Rows, right_large, both, left_nodes, right_nodes, left_fits, right_fits, left_over, right_over, pattern_term}

pub refused : (s : Signature) (text : List ℕ) (r : Result Equation Refusal) (f : Refusal) → r ≡ Err f → Checked text (Err f) → Outcome s text r
refused s text r f e c = let P : Result Equation Refusal → Type 0 = Outcome s text in subst P (sym e) (ungrammatical c)

module _ (s : Signature) (text : List ℕ) (checked : Checked text (Ok tt)) (b : ℕ) (body : tokens_from (drop b text) b ≡ drop 6 (tokens text)) where
  abbrev x : Parsed
  x = (checked_ok checked).1.0

  abbrev is : Formula (tokens text) x []
  is = (checked_ok checked).1.1

  pub unknown_symbol : (p : ℕ) → Some p ≡ scan s [] None (tokens_from (drop b text) b) → Outcome s text (Err (Symbol p))
  unknown_symbol p h = unknown x checked is (unknown_at s (tokens text) x is (tokens_from (drop b text) b) p body h)

  module _ (none : None ≡ scan s [] None (tokens_from (drop b text) b)) (v : Variables) (fresh : items v.spans ≡ []) where
    known : NoneMisused s (all_uses x.body)
    known = all_known s (tokens text) x is (tokens_from (drop b text) b) body none

    no_names : names_in text v ≡ []
    no_names = ap (spanned text) fresh

    from_none : (r : Result Row ℕ) → row_of s (names_in text v) [] (tokens_from (drop b text) b) ≡ r → row_of s [] [] (tokens_from (drop b text) b) ≡ r
    from_none r e = ap (λ vs. row_of s vs [] (tokens_from (drop b text) b)) (sym no_names) ∙ e

    pub large_left : (r : Result Equation Refusal) (q : ℕ) → r ≡ Err (Size q) → row_of s (names_in text v) [] (tokens_from (drop b text) b) ≡ Err q → Outcome s text r
    large_left r q e h =
        let P : Result Equation Refusal → Type 0 = Outcome s text in
        subst P (sym e) (too_large x checked is known (left_large s (tokens text) x is (tokens_from (drop b text) b) q body (from_none (Err q) h)))

    module _ (l : Row) (laid-left : row_of s (names_in text v) [] (tokens_from (drop b text) b) ≡ Ok l) (us : List Lexeme) (us-is : us ≡ drop 1 l.rest) where
      rows : Rows s (tokens text) x is (tokens_from (drop b text) b) l
      rows = left_row s (tokens text) x is (tokens_from (drop b text) b) l body (from_none (Ok l) laid-left)

      pub large_right : (r : Result Equation Refusal) (q : ℕ) → r ≡ Err (Size q) → row_of s l.variables [] us ≡ Err q → Outcome s text r
      large_right r q e h =
          let P : Result Equation Refusal → Type 0 = Outcome s text in
          subst P (sym e) (too_large x checked is known (right_large s (tokens text) x is (tokens_from (drop b text) b) l rows us us-is q h))

      module _ (w : Row) (laid-right : row_of s l.variables [] us ≡ Ok w) where
        pub fits_left : Fits l.nodes
        fits_left = left_fits s (tokens text) x is (tokens_from (drop b text) b) l rows us us-is w laid-right known

        pub fits_right : Fits w.nodes
        fits_right = right_fits s (tokens text) x is (tokens_from (drop b text) b) l rows us us-is w laid-right known

        pub done : (e : Equation) → nodes_of e.left ≡ l.nodes → nodes_of e.right ≡ w.nodes → e.role ≡ role_first (drop 4 (tokens text)) → e.sign ≡ sign_first l.rest → e.variables ≡ length w.variables → Outcome s text (Ok e)
        done e left_is right_is role_is sign-is count-is =
            let left-term = pattern_term _ e.left l.nodes left_is (left_nodes s (tokens text) x is (tokens_from (drop b text) b) l rows us us-is w laid-right known) in
            let right-term = pattern_term _ e.right w.nodes right_is (right_nodes s (tokens text) x is (tokens_from (drop b text) b) l rows us us-is w laid-right known) in
            read x checked is known (record {
              sides = record { variables = w.variables; left = l.nodes; right = w.nodes };
              laid = both s (tokens text) x is (tokens_from (drop b text) b) l rows us us-is w laid-right known;
              left = left-term;
              right = right-term;
              left_over = rw left-term (left_over s (tokens text) x is (tokens_from (drop b text) b) l rows us us-is w laid-right known);
              right_over = rw right-term (right_over s (tokens text) x is (tokens_from (drop b text) b) l rows us us-is w laid-right known);
              role = role_is ∙ ap role_first (parts is).role_is;
              sign = sign-is ∙ ap sign_first rows.rest_is;
              count = count-is;
            })

-- a pattern that was refused would have held its row
pub never : {A : Type 0} (ns ms : List Node) (o : Option Pattern) → o ≡ None → MatchOption o (Fits ms → ⊥) (λ p. nodes_of p ≡ ms) → ms ≡ ns → Fits ns → A
never ns ms o e h is f =
    let P : Option Pattern → Type 0 = λ q. MatchOption q (Fits ms → ⊥) (λ p. nodes_of p ≡ ms) in
    let Q : List Node → Type 0 = Fits in
    absurd (subst P e h (subst Q (sym is) f))

pub made : (ns ms : List Node) (o : Option Pattern) (p : Pattern) → o ≡ Some p → MatchOption o (Fits ms → ⊥) (λ q. nodes_of q ≡ ms) → ms ≡ ns → nodes_of p ≡ ns
made ns ms o p e h is =
    let P : Option Pattern → Type 0 = λ q. MatchOption q (Fits ms → ⊥) (λ r. nodes_of r ≡ ms) in
    subst P e h ∙ is
