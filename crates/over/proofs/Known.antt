-- A term is over a signature if each node of its preorder is the signature's.
use Rattle.std.proofs.Common.{◌≡◌, Bool, true, false, ◌&&◌, List, [], ◌∷◌, ◌++◌, Decides, sym, refl, ap, ◌∙◌}
use Rattle.std.proofs.lemmas.Bool.Decides.{Decides-and, Decides-ltb, Decides-eqb, Decides-like, Decides-at}
use Rattle.terms.specs.Term.{Term, Terms, var, app, nil, ◌▹◌, width}
use Rattle.terms.specs.Sig.{Sig, Over, AllOver}
use Rattle.terms.specs.Preorder.{preorder, preorders}
use Rattle.terms.specs.declared.pattern.Node.{Node}
use Rattle.terms.specs.Patterns.{nodes_of, term_of}
use Rattle.terms.specs.declared.pattern.Pattern.{Pattern}
use Rattle.subterms.specs.Variables.{every}
use Rattle.subterms.proofs.Patterns.{pattern_nodes}
use Rattle.over.specs.Nodes.{known}

and_assoc : (a b c : Bool) → (a && b && c) ≡ (a && (b && c))
and_assoc true b c = refl
and_assoc false b c = refl

known_append : (S : Sig) (ms ns : List Node) → every (known S) (ms ++ ns) ≡ (every (known S) ms && every (known S) ns)
known_append S [] ns = refl
known_append S (m ∷ ms) ns = ap (λ b. known S m && b) (known_append S ms ns) ∙ sym (and_assoc (known S m) (every (known S) ms) (every (known S) ns))

module _ (S : Sig) where
  mutual
    pub over_known : (t : Term) → Decides (every (known S) (preorder t)) (Over S t)
    over_known (var x) = (λ _. tt, λ _. refl)
    over_known (app f ts) =
        Decides-like _ (λ h. (h.0.0, h.0.1, h.1)) (λ h. ((h.0, h.1), h.2))
        (Decides-and _ _ (Decides-and _ _ (Decides-ltb f S.symbols) (Decides-eqb (width ts) (S.arity f))) (overs_known ts))

    overs_known : (ts : Terms) → Decides (every (known S) (preorders ts)) (AllOver S ts)
    overs_known nil = (λ _. tt, λ _. refl)
    overs_known (t ▹ ts) = Decides-at _ _ (known_append S (preorder t) (preorders ts)) (Decides-and _ _ (over_known t) (overs_known ts))

  pub pattern_known : (p : Pattern) (r : Bool) → r ≡ every (known S) (nodes_of p) → Decides r (Over S (term_of p))
  pattern_known p r e = Decides-at r _ (e ∙ ap (every (known S)) (pattern_nodes p)) (over_known (term_of p))
