use Rattle.std.proofs.Common.{rules}
use Rattle.std.proofs.lemmas.List.{take_rest}
use Rattle.places.proofs.Feeds.{ends_at, ends_last}
use Rattle.places.proofs.line_end.Goals as goal

pub returns-in-Some : goal.returns-in-Some
returns-in-Some c = ends_at c.args.text.now _ c.args.at (take_rest c.args.text.now c.args.at) c.requires c.in-Some.len (search rules) (search rules) (search rules)

pub returns-in-None : goal.returns-in-None
returns-in-None c = ends_last c.args.text.now _ c.args.at (take_rest c.args.text.now c.args.at) c.requires (search rules)
