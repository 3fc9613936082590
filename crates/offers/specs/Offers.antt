-- What is found for a cell's term.
use Rattle.std.specs.Prelude.{◌≡◌, ℕ, true, List, take, Ok, Err, Decides, Result}
use Rattle.row.specs.Items.{items}
use Rattle.refusal.specs.declared.Refusal.{Refusal}
use Rattle.terms.specs.Sig.{Sig}
use Rattle.terms.specs.declared.pattern.Pattern.{Pattern}
use Rattle.bank.specs.declared.cell.Cell.{Cell}
use Rattle.index.specs.Found.{Generalizations}
use Rattle.index.specs.Questions.{MayAsk}
use Rattle.index.specs.Agreement.{Agree}
use Rattle.discrimination_tree.specs.Loose.{LooseGeneralizations}
use Rattle.offers.specs.declared.Patterns.{Patterns}
use Rattle.offers.specs.declared.Offer.{Offer}
use Rattle.offers.specs.Numbered.{in_tree, in_list, Kept}

-- offered is what generalizes the term were each variable occurrence a variable of its own; kept is what generalizes it
pub record Found (s : Patterns) (b : List Cell) (i : ℕ) (o : Offer) : Type 0 where
  pub offered : LooseGeneralizations (in_tree s) b i (items o.offered)
  pub kept : Generalizations (in_tree s) b i (items o.kept)
  pub decided : Decides o.agrees (Agree (in_list s) (in_tree s) b i)
  pub agrees : (ps : List Pattern) → Kept s ps → o.agrees ≡ true

abbrev pub Answered : Sig → List Cell → (n i : ℕ) → Patterns → Result Offer Refusal → Type 0
Answered S cells n i s (Ok o) = MayAsk S cells n i 64 64 (Ok tt) × Found s (take n cells) i o
Answered S cells n i s (Err e) = MayAsk S cells n i 64 64 (Err e)
