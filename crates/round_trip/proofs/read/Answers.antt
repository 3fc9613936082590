use Rattle.round_trip.proofs.Back.{round_trip}
use Rattle.round_trip.proofs.read.Goals as goal

pub returns : goal.returns
returns c = record { outcome = c.read_formula.ensures; round_trip = round_trip c.args.signature.now }
