use Rattle.std.proofs.Common.{rules, refl}
use Rattle.places.proofs.Feeds.{starts_at, starts_first}
use Rattle.places.proofs.line_start.Goals as goal

pub returns-in-Some : goal.returns-in-Some
returns-in-Some c = starts_at c.args.text.now _ c.args.at refl c.requires c.in-Some.feed (search rules) (search rules) (search rules)

pub returns-in-None : goal.returns-in-None
returns-in-None c = starts_first c.args.text.now _ c.args.at refl c.requires (search rules)
