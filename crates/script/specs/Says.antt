-- What a line of the script says.
use Rattle.std.specs.Prelude.{◌≡◌, ℕ, ◌≤◌, ◌⊎◌, List, [], ◌∷◌, ◌++◌, vec_items, codes, decimal}
use Rattle.fields.specs.Cuts.{Cut, Without}
use Rattle.script.specs.Escapes.{Quoted}
use Rattle.script.specs.Spellings.{word, order_word, index_word}
use Rattle.script.specs.declared.call.Order.{Order}
use Rattle.script.specs.declared.call.Index.{Index}
use Rattle.script.specs.declared.call.Limits.{Limits}
use Rattle.script.specs.declared.call.Word.{Word}
use Rattle.script.specs.declared.call.Word.TheVariants.{Signature as signature_word, Open as open_word, Add as add_word, Remove as remove_word, Audit as audit_word, Release as release_word, Simplify as simplify_word, Judge as judge_word, Read as read_word}
use Rattle.script.specs.declared.call.Call.{Call}
use Rattle.script.specs.declared.call.Call.TheVariants.{Signature, Open, Add, Remove, Audit, Release, Simplify, Judge, Read}

abbrev pub word_of : Call → Word
word_of (Signature text) = signature_word
word_of (Open number order index) = open_word
word_of (Add number formula) = add_word
word_of (Remove number) = remove_word
word_of (Audit limits) = audit_word
word_of Release = release_word
word_of (Simplify goal) = simplify_word
word_of (Judge goal) = judge_word
word_of (Read text) = read_word

-- a number, a space, and more
pub record Leads (n : ℕ) (text more : List ℕ) : Type 0 where
  pub most : n ≤ 999999999
  pub whole : text ≡ decimal n ++ (32 ∷ more)

-- a number alone
pub record Only (n : ℕ) (text : List ℕ) : Type 0 where
  pub most : n ≤ 999999999
  pub whole : text ≡ decimal n

pub record TwoNumbers (l : Limits) (text : List ℕ) : Type 0 where
  pub more : List ℕ
  pub bank : Leads l.bank text more
  pub trace : Only l.trace more

pub record NumbersText (l : Limits) (bytes text : List ℕ) : Type 0 where
  pub mid : List ℕ
  pub more : List ℕ
  pub bank : Leads l.bank text mid
  pub trace : Leads l.trace mid more
  pub formula : Quoted more bytes

pub record NumberText (n : ℕ) (bytes text : List ℕ) : Type 0 where
  pub more : List ℕ
  pub number : Leads n text more
  pub formula : Quoted more bytes

pub record NumberWords (n : ℕ) (order index text : List ℕ) : Type 0 where
  pub more : List ℕ
  pub number : Leads n text more
  pub words : more ≡ order ++ (32 ∷ index)

-- the text after the call's word and a space
abbrev pub Fields : Call → List ℕ → Type 0
Fields (Signature text) rest = Quoted rest (vec_items text)
Fields (Open number order index) rest = NumberWords number (order_word order) (index_word index) rest
Fields (Add number formula) rest = NumberText number (vec_items formula) rest
Fields (Remove number) rest = Only number rest
Fields (Audit limits) rest = TwoNumbers limits rest
Fields Release rest = ⊥
Fields (Simplify goal) rest = NumbersText goal.limits (vec_items goal.formula) rest
Fields (Judge goal) rest = NumbersText goal.limits (vec_items goal.formula) rest
Fields (Read text) rest = Quoted rest (vec_items text)

-- the line says the call: its word alone, or its word, a space and its fields
abbrev pub Says : Call → List ℕ → Type 0
Says c line = ((c ≡ Release) × (line ≡ codes "release")) ⊎ ((rest : List ℕ) × (line ≡ word (word_of c) ++ (32 ∷ rest)) × Fields c rest)

-- what can stand after the word and a space
abbrev pub Form : Word → List ℕ → Type 0
Form signature_word rest = (bytes : List ℕ) × Quoted rest bytes
Form open_word rest = (n : ℕ) × ((o : Order) × ((i : Index) × NumberWords n (order_word o) (index_word i) rest))
Form add_word rest = (n : ℕ) × ((bytes : List ℕ) × NumberText n bytes rest)
Form remove_word rest = (n : ℕ) × Only n rest
Form audit_word rest = (l : Limits) × TwoNumbers l rest
Form release_word rest = ⊥
Form simplify_word rest = (l : Limits) × ((bytes : List ℕ) × NumbersText l bytes rest)
Form judge_word rest = (l : Limits) × ((bytes : List ℕ) × NumbersText l bytes rest)
Form read_word rest = (bytes : List ℕ) × Quoted rest bytes

-- the text up to its first line feed and after it, or the whole text, if it has none
abbrev pub FirstLine : List ℕ → List ℕ → List ℕ → Type 0
FirstLine text line after = Cut 10 text line after ⊎ (Without 10 text × (line ≡ text) × (after ≡ []))
