-- The words of the script.
use Rattle.std.specs.Prelude.{ℕ, List, codes}
use Rattle.script.specs.declared.call.Word.{Word}
use Rattle.script.specs.declared.call.Word.TheVariants.{Signature, Open, Add, Remove, Audit, Release, Simplify, Judge, Read}
use Rattle.script.specs.declared.call.Order.{Order}
use Rattle.script.specs.declared.call.Order.TheVariants.{Kbo, Lpo}
use Rattle.script.specs.declared.call.Index.{Index}
use Rattle.script.specs.declared.call.Index.TheVariants.{List as list_index, Tree as tree_index}

abbrev pub word : Word → List ℕ
word Signature = codes "signature"
word Open = codes "open"
word Add = codes "add"
word Remove = codes "remove"
word Audit = codes "audit"
word Release = codes "release"
word Simplify = codes "simplify"
word Judge = codes "judge"
word Read = codes "read"

abbrev pub order_word : Order → List ℕ
order_word Kbo = codes "kbo"
order_word Lpo = codes "lpo"

abbrev pub index_word : Index → List ℕ
index_word list_index = codes "list"
index_word tree_index = codes "tree"
